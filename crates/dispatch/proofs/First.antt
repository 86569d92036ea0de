-- The first of keys: none of the others is before it.
use Rattle.std.proofs.Common.{◌≡◌, ℕ, zero, suc, ◌<◌, Bool, true, false, cond, List, [], ◌∷◌, length, get_or, map, Option, Some, None, All, Ordering, Less, Equal, Greater, ◌&&◌, ◌||◌, ◌==◌, nat_lt, refl, sym, ap, ◌∙◌, inl, inr, subst, arith}
use Rattle.std.specs.List.{AllByRecursion}
use Rattle.std.specs.Ordering.{is_lt, nat_cmp, ordering_then}
use Rattle.std.proofs.lemmas.Bool.{cases_Bool, cases_order}
use Rattle.std.proofs.lemmas.Bool.Decides.{nat_tests}
use Rattle.std.proofs.lemmas.List.{get_or_default}
use Rattle.std.proofs.lemmas.List.Elements.{recursion_from_All}
use Rattle.dispatch.specs.declared.candidate.Candidate.{Candidate}
use Rattle.dispatch.specs.Candidate.{key}
use Rattle.dispatch.proofs.Gathering.{first_of}
use Rattle.order.specs.Least.{FirstLeast}
use Rattle.runs.specs.Next.{before, Key, sooner}
use Rattle.runs.proofs.Lists.{all_map, Mem, mem_map}

one_way : (k l : Key) → before k l ≡ true → before l k ≡ false
one_way k l is = grind (arith, nat_tests)

same_due : (k l : Key) → before k l ≡ false → before l k ≡ false → k.due ≡ l.due
same_due k l is so = grind (arith, nat_tests)

same_job : (k l : Key) → before k l ≡ false → before l k ≡ false → k.job ≡ l.job
same_job k l is so = grind (arith, nat_tests)

same_node : (k l : Key) → before k l ≡ false → before l k ≡ false → k.node ≡ l.node
same_node k l is so = grind (arith, nat_tests)

level : (k l : Key) → before k l ≡ false → before l k ≡ false → k ≡ l
level k l is so = λ i. record { due = same_due k l is so i; job = same_job k l is so i; node = same_node k l is so i }

stays : (k : Key) (ks : List Key) → AllByRecursion (λ q. before q k ≡ false) ks → first_of (Some k) ks ≡ Some k
stays k [] all = refl
stays k (q ∷ ks) all = rw all.0 (stays k ks all.1)

record Behind (k : Key) (o : Option Key) : Type 0 where
  none : (m : Key) → o ≡ Some m → before m k ≡ false

taken : (k : Key) (o : Option Key) → Behind k o → sooner k o ≡ Some k
taken k None h = refl
taken k (Some m) h = elim (cases_Bool (before k m)) [ inl y ↦ rw y refl | inr n ↦ rw n (ap Some (level m k (h.none m refl) n)) ]

got : {r s : Key} → Some r ≡ Some s → r ≡ s
got k = cc

still : (k q : Key) (o : Option Key) → before q k ≡ false → Behind k o → Behind k (sooner q o)
still k q None is h = record { none = λ m e. subst (λ v. before v k ≡ false) (got e) is }
still k q (Some l) is h = elim (cases_Bool (before q l)) [
  | inl y ↦ rw y (record { none = λ m e. subst (λ v. before v k ≡ false) (got e) is })
  | inr n ↦ rw n (record { none = λ m e. subst (λ v. before v k ≡ false) (got e) (h.none l refl) })
]

reaches : (k : Key) (ks : List Key) (o : Option Key) → Mem k ks → AllByRecursion (λ q. before q k ≡ false) ks → Behind k o → first_of o ks ≡ Some k
reaches k [] o m all h = absurd m
reaches k (q ∷ ks) o m all h = elim m [
  | inl e ↦ rw e (ap (λ r. first_of r ks) (taken k o h) ∙ stays k ks all.1)
  | inr n ↦ reaches k ks (sooner q o) n all.1 (still k q o all.0 h)
]

mem_at : {X : Type 0} (xs : List X) (i : ℕ) (d : X) → i < length xs → Mem (get_or xs i d) xs
mem_at [] i d within = absurd (omega arith)
mem_at (x ∷ xs) zero d within = inl refl
mem_at (x ∷ xs) (suc i) d within = inr (mem_at xs i d (omega arith))

ranked_by : (p q r s u v : Bool) → is_lt (ordering_then (cond p Less (cond q Equal Greater)) (ordering_then (cond r Less (cond s Equal Greater)) (cond u Less (cond v Equal Greater)))) ≡ (p || (q && (r || (s && u))))
ranked_by true q r s u v = refl
ranked_by false true true s u v = refl
ranked_by false true false true true v = refl
ranked_by false true false true false true = refl
ranked_by false true false true false false = refl
ranked_by false true false false u v = refl
ranked_by false false r s u v = refl

-- what the comparison of candidates tells
abbrev pub by_key : Candidate → Candidate → Ordering
by_key c d = ordering_then (nat_cmp c.due d.due) (ordering_then (nat_cmp c.job d.job) (nat_cmp c.node d.node))

ranked : (c d : Candidate) → is_lt (by_key c d) ≡ before (key c) (key d)
ranked c d = ranked_by (nat_lt c.due d.due) (c.due == d.due) (nat_lt c.job d.job) (c.job == d.job) (nat_lt c.node d.node) (c.node == d.node)

itself : (k : Key) → before k k ≡ false
itself k = elim (cases_Bool (before k k)) [ inl y ↦ one_way k k y | inr n ↦ n ]

module _ (cs : List Candidate) (i : ℕ) (at : FirstLeast by_key cs i) where
  none_before : (n : ℕ) (e : Candidate) → n < length cs → before (key (get_or cs n e)) (key (get_or cs i e)) ≡ false
  none_before n e within = elim (cases_order n i) [
    | inl same ↦ rw same (itself (key (get_or cs i e)))
    | inr other ↦ elim other [
      | inl low ↦ one_way (key (get_or cs i e)) (key (get_or cs n e)) (sym (ranked (get_or cs i e) (get_or cs n e)) ∙ ap is_lt (at.before n e low))
      | inr high ↦ sym (ranked (get_or cs n e) (get_or cs i e)) ∙ at.after n e high within
    ]
  ]

  -- the place that `least` gives is that of the first
  pub first_at : (d : Candidate) → first_of None (map key cs) ≡ Some (key (get_or cs i d))
  first_at d =
      let c = get_or cs i d in
      let none : All (λ x. before (key x) (key c) ≡ false) cs = λ n e within. subst (λ v. before (key (get_or cs n e)) (key v) ≡ false) (get_or_default cs i e d at.within) (none_before n e within) in
      reaches (key c) (map key cs) None (mem_map key cs c (mem_at cs i d at.within)) (all_map (λ q. before q (key c) ≡ false) key cs (recursion_from_All _ cs none)) (record { none = λ m e. absurd (let z : ◌≡◌ {A = ℕ} 0 1 = cc in omega arith) })
