-- Which sub-task is next: the first of those that are ready.
use Rattle.std.proofs.Common.{◌≡◌, ℕ, suc, true, false, ◌⊎◌, List, [], ◌∷◌, fold, Option, Some, None, Any, MatchOption, refl, sym, ◌∙◌, subst, inl, inr, arith}
use Rattle.std.specs.List.{AllByRecursion}
use Rattle.std.proofs.lemmas.Bool.{cases_Bool, both_ways}
use Rattle.std.proofs.lemmas.Bool.Decides.{nat_tests}
use Rattle.runs.specs.State.{OpenTask}
use Rattle.runs.specs.Next.{before, better, IsNext, Key, key_of, next, NotAfter, ready, sooner}
use Rattle.runs.specs.Theorems.{NextIsFirst}
use Rattle.runs.proofs.Lists.{Mem}

not_after_self : (k : Key) → NotAfter k k
not_after_self k = record { due = omega arith; job = λ _. omega arith; node = λ _ _. omega arith }

not_after_both : (k l m : Key) → NotAfter k l → NotAfter l m → NotAfter k m
not_after_both k l m a b =
    let c = a.due in
    let d = b.due in
    record {
      due = omega arith;
      job = λ e. omega (arith, a.job (omega arith), b.job (omega arith));
      node = λ e f.
          let g = a.job (omega arith) in
          let h = b.job (omega arith) in
          omega (arith, a.node (omega arith) (omega arith), b.node (omega arith) (omega arith));
    }

before_first : (k l : Key) → before k l ≡ true → NotAfter k l
before_first k l h = record { due = grind (arith, nat_tests); job = λ e. grind (arith, nat_tests); node = λ e f. grind (arith, nat_tests) }

not_before : (k l : Key) → before k l ≡ false → NotAfter l k
not_before k l h = record { due = grind (arith, nat_tests); job = λ e. grind (arith, nat_tests); node = λ e f. grind (arith, nat_tests) }

sooner_some : (k : Key) (o : Option Key) → (l : Key) × (sooner k o ≡ Some l)
sooner_some k None = (k, refl)
sooner_some k (Some m) = elim (cases_Bool (before k m)) [ inl y ↦ (k, rw y refl) | inr off ↦ (m, rw off refl) ]

none_from : (e t : ℕ) (o : Option Key) (ps : List OpenTask) → fold (better e t) o ps ≡ None → (o ≡ None) × AllByRecursion (λ p. ready e t p ≡ false) ps
none_from e t o [] h = (h, tt)
none_from e t o (p ∷ ps) h = elim (cases_Bool (ready e t p)) [
  | inl y ↦
      let a : better e t o p ≡ None = (none_from e t (better e t o p) ps h).0 in
      let b : sooner (key_of p.task) o ≡ None = rw y at a in
      let s = sooner_some (key_of p.task) o in
      absurd (let z : ◌≡◌ {A = ℕ} 0 1 = cc s.1 in omega arith)
  | inr off ↦
      let same_o : better e t o p ≡ o = rw off refl in
      let rec = none_from e t (better e t o p) ps h in
      (sym same_o ∙ rec.0, (off, rec.1))
]

record From (e t : ℕ) (o : Option Key) (ps : List OpenTask) (k : Key) : Type 0 where
  source : (o ≡ Some k) ⊎ ((q : OpenTask) × Mem q ps × (ready e t q ≡ true) × (key_of q.task ≡ k))
  no_later : (l : Key) → o ≡ Some l → NotAfter k l
  first : AllByRecursion (λ p. ready e t p ≡ true → NotAfter k (key_of p.task)) ps

got : {r s : Key} → Some r ≡ Some s → r ≡ s
got k = cc

some_from : (e t : ℕ) (o : Option Key) (ps : List OpenTask) (k : Key) → fold (better e t) o ps ≡ Some k → From e t o ps k
some_from e t o [] k h = record { source = inl h; no_later = λ l q. subst (NotAfter k) (got (sym h ∙ q)) (not_after_self k); first = tt }
some_from e t o (p ∷ ps) k h = elim (cases_Bool (ready e t p)) [
  | inr off ↦
      let same_o : better e t o p ≡ o = rw off refl in
      let rec = some_from e t (better e t o p) ps k h in
      record {
        source = elim rec.source [ inl q ↦ inl (sym same_o ∙ q) | inr f ↦ inr (f.0, inr f.1, f.2, f.3) ];
        no_later = λ l q. rec.no_later l (same_o ∙ q);
        first = ((λ y. absurd (both_ways _ off y)), rec.first);
      }
  | inl y ↦
      let now_o : better e t o p ≡ sooner (key_of p.task) o = rw y refl in
      let rec = some_from e t (better e t o p) ps k h in
      go y o now_o rec
]
  where
    go : ready e t p ≡ true → (o : Option Key) {r : Option Key} → r ≡ sooner (key_of p.task) o → From e t r ps k → From e t o (p ∷ ps) k
    go y None n rec = record {
      source = elim rec.source [ inl q ↦ inr (p, inl refl, y, got (sym n ∙ q)) | inr f ↦ inr (f.0, inr f.1, f.2, f.3) ];
      no_later = λ l q. absurd (let z : ◌≡◌ {A = ℕ} 0 1 = cc in omega arith);
      first = ((λ _. rec.no_later (key_of p.task) n), rec.first);
    }
    go y (Some m) n rec = elim (cases_Bool (before (key_of p.task) m)) [
      | inl b ↦
          let is : sooner (key_of p.task) (Some m) ≡ Some (key_of p.task) = rw b refl in
          let low = rec.no_later (key_of p.task) (n ∙ is) in
          record {
            source = elim rec.source [ inl q ↦ inr (p, inl refl, y, got (sym (n ∙ is) ∙ q)) | inr f ↦ inr (f.0, inr f.1, f.2, f.3) ];
            no_later = λ l q. subst (NotAfter k) (got q) (not_after_both k (key_of p.task) m low (before_first (key_of p.task) m b));
            first = ((λ _. low), rec.first);
          }
      | inr b ↦
          let is : sooner (key_of p.task) (Some m) ≡ Some m = rw b refl in
          let low = rec.no_later m (n ∙ is) in
          record {
            source = elim rec.source [ inl q ↦ inl (sym (n ∙ is) ∙ q) | inr f ↦ inr (f.0, inr f.1, f.2, f.3) ];
            no_later = λ l q. subst (NotAfter k) (got q) low;
            first = ((λ _. not_after_both k m (key_of p.task) low (not_before (key_of p.task) m b)), rec.first);
          }
    ]

pub next_none : (e t : ℕ) (ps : List OpenTask) → next e t ps ≡ None → AllByRecursion (λ p. ready e t p ≡ false) ps
next_none e t ps h = (none_from e t None ps h).1

pub record Chosen (e t : ℕ) (ps : List OpenTask) (k : Key) : Type 0 where
  pub chosen : OpenTask
  pub here : Mem chosen ps
  pub is_ready : ready e t chosen ≡ true
  pub is_key : key_of chosen.task ≡ k
  pub first : AllByRecursion (λ p. ready e t p ≡ true → NotAfter k (key_of p.task)) ps

pub next_some : (e t : ℕ) (ps : List OpenTask) (k : Key) → next e t ps ≡ Some k → Chosen e t ps k
next_some e t ps k h =
    let f = some_from e t None ps k h in
    elim f.source [
      | inl q ↦ absurd (let z : ◌≡◌ {A = ℕ} 0 1 = cc in omega arith)
      | inr g ↦ record { chosen = g.0; here = g.1; is_ready = g.2; is_key = g.3; first = f.first }
    ]

any_from_mem : {X : Type 0} (P : X → Type 0) (xs : List X) (x : X) → Mem x xs → P x → Any P xs
any_from_mem P [] x m h = absurd m
any_from_mem P (y ∷ ys) x m h = elim m [
  | inl e ↦ (0, x, omega arith, e, h)
  | inr n ↦ let (k, z, low, at, p) = any_from_mem P ys x n h in (suc k, z, omega arith, at, p)
]

pub next_is_first : NextIsFirst
next_is_first e t ps = go (next e t ps) refl
  where
    go : (o : Option Key) → next e t ps ≡ o → MatchOption o (AllByRecursion (λ p. ready e t p ≡ false) ps) (IsNext e t ps)
    go None q = next_none e t ps q
    go (Some k) q =
        let c = next_some e t ps k q in
        record { found = any_from_mem (λ p. (ready e t p ≡ true) × (key_of p.task ≡ k)) ps c.chosen c.here (c.is_ready, c.is_key); first = c.first }
