-- The orders by load are total, and how candidates are compared.
use Rattle.std.proofs.Common.{◌≡◌, ℕ, Bool, true, false, cond, ◌&&◌, ◌||◌, eqb, ltb, Less, Equal, Greater, List, [], ◌∷◌, map, get_or, Some, inl, inr, sym, refl, ap, subst, ◌∙◌, arith}
use Rattle.std.proofs.ByRecursion.{All-from_get_or}
use Rattle.std.proofs.lemmas.Bool.{true≢false, false≢true, cases_order}
use Rattle.std.proofs.lemmas.Option.{slice_get-map}
use Rattle.std.specs.declared.cmp.Ordering.{Ordering}
use Rattle.std.specs.Cmp.{IsStrictWeakOrder, IsTotalOrder}
use Rattle.std.specs.List.{AllByRecursion, slice_get}
use Rattle.std.specs.List.Sorted.{IsPermutation, IsSortedBy}
use Rattle.std.specs.Option.{option_map}
use Rattle.std.specs.Ordering.{is_lt, nat_cmp, ordering_reverse, ordering_then}
use Rattle.order.specs.declared.fullest.Candidate.{Candidate}
use Rattle.order.specs.Fullest.{is_before, before, candidate}
use Rattle.order.specs.Least.{FirstLeast}
use Rattle.order.specs.Sorting.{put, sorted}
use Rattle.order.proofs.Sorts.{Strict, first_sorted, sorted_is}
use Rattle.std.proofs.lemmas.Bool.Decides.{nat_tests}

one_way_by : (m n a b : ℕ) → is_before m n a b ≡ true → is_before n m b a ≡ false
one_way_by m n a b is = grind (arith, nat_tests)

chain_by : (m n k a b c : ℕ) → is_before m n a b ≡ true → is_before n k b c ≡ true → is_before m k a c ≡ true
chain_by m n k a b c is so = grind (arith, nat_tests)

same_load : (m n a b : ℕ) → is_before m n a b ≡ false → is_before n m b a ≡ false → m ≡ n
same_load m n a b is so = grind (arith, nat_tests)

same_number : (m n a b : ℕ) → is_before m n a b ≡ false → is_before n m b a ≡ false → a ≡ b
same_number m n a b is so = grind (arith, nat_tests)

pub before_strict : (loads : List ℕ) → Strict (before loads)
before_strict loads = record {
  one_way = λ x y. one_way_by (get_or loads x 0) (get_or loads y 0) x y;
  chain = λ x y z. chain_by (get_or loads x 0) (get_or loads y 0) (get_or loads z 0) x y z;
  level = λ x y. same_number (get_or loads x 0) (get_or loads y 0) x y;
}

-- the same order of candidates
abbrev pub ahead : Candidate → Candidate → Bool
ahead c d = is_before c.load.0 d.load.0 c.engine d.engine

pub ahead_strict : Strict ahead
ahead_strict = record {
  one_way = λ x y. one_way_by x.load.0 y.load.0 x.engine y.engine;
  chain = λ x y z. chain_by x.load.0 y.load.0 z.load.0 x.engine y.engine z.engine;
  level = λ x y is so. (λ i. record { load = record { 0 = same_load x.load.0 y.load.0 x.engine y.engine is so i }; engine = same_number x.load.0 y.load.0 x.engine y.engine is so i });
}

abbrev pub ranking : Candidate → Candidate → Ordering
ranking c d = cond (ahead c d) Less (cond (ahead d c) Greater Equal)

flip_by : (p q : Bool) → (p ≡ true → q ≡ false) → cond p Less (cond q Greater Equal) ≡ ordering_reverse (cond q Less (cond p Greater Equal))
flip_by true true one_way = absurd (true≢false (one_way refl))
flip_by true false one_way = refl
flip_by false true one_way = refl
flip_by false false one_way = refl

less_ahead : (p q : Bool) → cond p Less (cond q Greater Equal) ≡ Less → p ≡ true
less_ahead true q is = refl
less_ahead false true is = absurd (false≢true (ap is_lt is))
less_ahead false false is = absurd (false≢true (ap is_lt is))

equal_not : (p q : Bool) → cond p Less (cond q Greater Equal) ≡ Equal → (p ≡ false) × (q ≡ false)
equal_not true q is = absurd (true≢false (ap is_lt is))
equal_not false true is = let z : ◌≡◌ {A = ℕ} 0 1 = cc in absurd (omega arith)
equal_not false false is = (refl, refl)

-- as a comparison it is a total order
pub by_rank : IsTotalOrder (λ (x y : Candidate). ranking x y)
by_rank = record {
  antisymm = λ x y. flip_by (ahead x y) (ahead y x) (ahead_strict.one_way x y);
  trans = λ x y z p q. ap (λ b. cond b Less (cond (ahead z x) Greater Equal)) (ahead_strict.chain x y z (less_ahead (ahead x y) (ahead y x) p) (less_ahead (ahead y z) (ahead z y) q));
  congr = λ x y z p. let neither = equal_not (ahead x y) (ahead y x) p in ap (λ w. ranking w z) (ahead_strict.level x y neither.0 neither.1);
}

falls_by : (m n k a b c : ℕ) → is_before m n a b ≡ false → is_before n k b c ≡ false → is_before m k a c ≡ false
falls_by m n k a b c is so = grind (arith, nat_tests)

pub ahead_weak : IsStrictWeakOrder ahead
ahead_weak = record {
  one_way = ahead_strict.one_way;
  chain = λ x y z. falls_by x.load.0 y.load.0 z.load.0 x.engine y.engine z.engine;
}

-- what the comparison of candidates tells
ranked_by : (p q r s : Bool) → is_lt (ordering_then (cond p Less (cond q Equal Greater)) (cond r Less (cond s Equal Greater))) ≡ (p || (q && r))
ranked_by true q r s = refl
ranked_by false true true s = refl
ranked_by false true false true = refl
ranked_by false true false false = refl
ranked_by false false r s = refl

pub ranked : (c d : Candidate) → is_lt (ordering_then (nat_cmp d.load.0 c.load.0) (nat_cmp c.engine d.engine)) ≡ ahead c d
ranked c d =
    let same : eqb d.load.0 c.load.0 ≡ eqb c.load.0 d.load.0 = grind (arith, nat_tests) in
    ranked_by (ltb d.load.0 c.load.0) (eqb d.load.0 c.load.0) (ltb c.engine d.engine) (eqb c.engine d.engine) ∙ ap (λ b. ltb d.load.0 c.load.0 || (b && ltb c.engine d.engine)) same

not_itself : (m a : ℕ) → is_before m m a a ≡ false
not_itself m a = grind (arith, nat_tests)

-- the comparison of candidates
abbrev pub compare : Candidate → Candidate → Ordering
compare c d = ordering_then (nat_cmp d.load.0 c.load.0) (nat_cmp c.engine d.engine)

-- none comes before the first least
none_ahead : (cs : List Candidate) (i : ℕ) (d : Candidate) → FirstLeast compare cs i → AllByRecursion (λ z. ahead z (get_or cs i d) ≡ false) cs
none_ahead cs i d first =
    All-from_get_or (λ z. ahead z (get_or cs i d) ≡ false) cs d (λ k low.
    elim (cases_order k i) [
      | inl same ↦ subst (λ (n : ℕ). ahead (get_or cs n d) (get_or cs i d) ≡ false) (sym same) (not_itself (get_or cs i d).load.0 (get_or cs i d).engine)
      | inr other ↦ elim other [
        | inl lt ↦ ahead_strict.one_way (get_or cs i d) (get_or cs k d) (sym (ranked (get_or cs i d) (get_or cs k d)) ∙ ap is_lt (first.before k d lt))
        | inr gt ↦ sym (ranked (get_or cs k d) (get_or cs i d)) ∙ first.after k d gt low
      ]
    ])

module _ (loads : List ℕ) where
  put_map_by : (e y : ℕ) (ys : List ℕ) → put ahead (candidate loads e) (map (candidate loads) ys) ≡ map (candidate loads) (put (before loads) e ys) → (b : Bool) → cond b (candidate loads e ∷ (candidate loads y ∷ map (candidate loads) ys)) (candidate loads y ∷ put ahead (candidate loads e) (map (candidate loads) ys)) ≡ map (candidate loads) (cond b (e ∷ (y ∷ ys)) (y ∷ put (before loads) e ys))
  put_map_by e y ys rec true = refl
  put_map_by e y ys rec false = ap (λ l. candidate loads y ∷ l) rec

  put_map : (e : ℕ) (ys : List ℕ) → put ahead (candidate loads e) (map (candidate loads) ys) ≡ map (candidate loads) (put (before loads) e ys)
  put_map e [] = refl
  put_map e (y ∷ ys) = put_map_by e y ys (put_map e ys) (before loads e y)

  sorted_map : (es : List ℕ) → sorted ahead (map (candidate loads) es) ≡ map (candidate loads) (sorted (before loads) es)
  sorted_map [] = refl
  sorted_map (e ∷ es) = ap (put ahead (candidate loads e)) (sorted_map es) ∙ put_map e (sorted (before loads) es)

  engines : (es : List ℕ) → map (λ (c : Candidate). c.engine) (map (candidate loads) es) ≡ es
  engines [] = refl
  engines (e ∷ es) = ap (λ l. e ∷ l) (engines es)

  -- the engine at a place of the candidates in order
  pub engine_at : (es : List ℕ) (cs : List Candidate) (place : ℕ) → IsPermutation (map (candidate loads) es) cs → IsSortedBy ahead cs → option_map (λ (c : Candidate). c.engine) (slice_get cs place) ≡ slice_get (sorted (before loads) es) place
  engine_at es cs place moved up =
      sym (slice_get-map (λ (c : Candidate). c.engine) cs place)
      ∙ ap (λ l. slice_get (map (λ (c : Candidate). c.engine) l) place) (sorted_is ahead ahead_strict (map (candidate loads) es) cs ahead_weak moved up ∙ sorted_map es)
      ∙ ap (λ l. slice_get l place) (engines (sorted (before loads) es))

  -- the engine of the first least candidate
  pub engine_first : (es : List ℕ) (cs : List Candidate) (i : ℕ) (d : Candidate) → cs ≡ map (candidate loads) es → FirstLeast compare cs i → Some (get_or cs i d).engine ≡ slice_get (sorted (before loads) es) 0
  engine_first es cs i d is first =
      ap (option_map (λ (c : Candidate). c.engine)) (sym (first_sorted ahead ahead_strict cs i d first.within (none_ahead cs i d first)))
      ∙ sym (slice_get-map (λ (c : Candidate). c.engine) (sorted ahead cs) 0)
      ∙ ap (λ l. slice_get (map (λ (c : Candidate). c.engine) l) 0) (ap (sorted ahead) is ∙ sorted_map es)
      ∙ ap (λ l. slice_get l 0) (engines (sorted (before loads) es))
