-- Lists sorted by a total order.
use Rattle.std.proofs.Common.{◌≡◌, ℕ, zero, suc, ◌+◌, ◌<◌, Bool, true, false, cond, List, [], ◌∷◌, ◌++◌, length, get_or, set, Some, sym, refl, ap, subst, ◌∙◌, arith}
use Rattle.order.specs.Sorting.{put, sorted, InOrder}
use Rattle.std.proofs.ByRecursion.{All-from_get_or, All-weaker}
use Rattle.std.proofs.lemmas.Bool.{true≢false, cond_both}
use Rattle.std.proofs.lemmas.Option.{none-some, same_Some}
use Rattle.std.proofs.lemmas.List.Sorted.{IsPermutation-keeps, sorted_far}
use Rattle.std.specs.Cmp.{IsStrictWeakOrder}
use Rattle.std.specs.List.{AllByRecursion, slice_get, swap}
use Rattle.std.specs.List.Sorted.{IsPermutation, IsSortedBy}

-- before is a total order: of two that differ one comes before the other
pub record Strict {X : Type 0} (before : X → X → Bool) : Type 0 where
  pub one_way : (x y : X) → before x y ≡ true → before y x ≡ false
  pub chain : (x y z : X) → before x y ≡ true → before y z ≡ true → before x z ≡ true
  pub level : (x y : X) → before x y ≡ false → before y x ≡ false → x ≡ y

module _ {X : Type 0} (before : X → X → Bool) where
  pub put_yes : (x y : X) (ys : List X) → before x y ≡ true → put before x (y ∷ ys) ≡ x ∷ (y ∷ ys)
  put_yes x y ys is = rw is refl

  pub put_no : (x y : X) (ys : List X) → before x y ≡ false → put before x (y ∷ ys) ≡ y ∷ put before x ys
  put_no x y ys is = rw is refl

  pub all_put : (P : X → Type 0) (x : X) (ys : List X) → P x → AllByRecursion P ys → AllByRecursion P (put before x ys)
  all_put P x [] here all = (here, tt)
  all_put P x (y ∷ ys) here all = cond_both (before x y) (x ∷ (y ∷ ys)) (y ∷ put before x ys) (λ l. AllByRecursion P l) (λ _. (here, all)) (λ _. (all.0, all_put P x ys here all.1))

  pub all_sorted : (P : X → Type 0) (xs : List X) → AllByRecursion P xs → AllByRecursion P (sorted before xs)
  all_sorted P [] all = tt
  all_sorted P (x ∷ xs) all = all_put P x (sorted before xs) all.0 (all_sorted P xs all.1)

module _ {X : Type 0} (before : X → X → Bool) (o : Strict before) where
  later : (x y z : X) → before x y ≡ true → before z y ≡ false → (b : Bool) → before z x ≡ b → b ≡ false
  later x y z front back true is = sym (o.chain z x y is front) ∙ back
  later x y z front back false is = refl

  pub in_order_put : (x : X) (ys : List X) → InOrder before ys → InOrder before (put before x ys)
  in_order_put x [] so = (tt, tt)
  in_order_put x (y ∷ ys) so =
      cond_both (before x y) (x ∷ (y ∷ ys)) (y ∷ put before x ys) (λ l. InOrder before l)
      (λ front. ((o.one_way x y front, All-weaker (λ z. before z y ≡ false) (λ z. before z x ≡ false) (λ z back. later x y z front back (before z x) refl) ys so.0), so))
      (λ back. (all_put before (λ z. before z y ≡ false) x ys back so.0, in_order_put x ys so.1))

  pub in_order_sorted : (xs : List X) → InOrder before (sorted before xs)
  in_order_sorted [] = tt
  in_order_sorted (x ∷ xs) = in_order_put x (sorted before xs) (in_order_sorted xs)

  two : (a b : X) (zs : List X) (p q : Bool) → before a b ≡ p → before b a ≡ q → cond p (a ∷ (b ∷ zs)) (b ∷ (a ∷ zs)) ≡ cond q (b ∷ (a ∷ zs)) (a ∷ (b ∷ zs))
  two a b zs true true e f = absurd (true≢false (sym f ∙ o.one_way a b e))
  two a b zs true false e f = refl
  two a b zs false true e f = refl
  two a b zs false false e f = let same : a ≡ b = o.level a b e f in rw same refl

  mixed : (a b x : X) (xs : List X) → before a x ≡ true → before b x ≡ false → put before a (put before b (x ∷ xs)) ≡ put before b (put before a (x ∷ xs))
  mixed a b x xs front back =
      let after : before b a ≡ false = later a x b front back (before b a) refl in
      ap (put before a) (put_no before b x xs back) ∙ put_yes before a x (put before b xs) front ∙ sym (ap (put before b) (put_yes before a x xs front) ∙ put_no before b a (x ∷ xs) after ∙ ap (λ l. a ∷ l) (put_no before b x xs back))

  both_front : (a b x : X) (xs : List X) → before a x ≡ true → before b x ≡ true → put before a (put before b (x ∷ xs)) ≡ put before b (put before a (x ∷ xs))
  both_front a b x xs front front' =
      ap (put before a) (put_yes before b x xs front') ∙ ap (λ l. cond (before a b) (a ∷ (b ∷ (x ∷ xs))) (b ∷ l)) (put_yes before a x xs front) ∙ two a b (x ∷ xs) (before a b) (before b a) refl refl ∙ sym (ap (put before b) (put_yes before a x xs front) ∙ ap (λ l. cond (before b a) (b ∷ (a ∷ (x ∷ xs))) (a ∷ l)) (put_yes before b x xs front'))

  put_comm_by : (a b x : X) (xs : List X) → put before a (put before b xs) ≡ put before b (put before a xs) → (p q : Bool) → before a x ≡ p → before b x ≡ q → put before a (put before b (x ∷ xs)) ≡ put before b (put before a (x ∷ xs))
  put_comm_by a b x xs rec true true e f = both_front a b x xs e f
  put_comm_by a b x xs rec true false e f = mixed a b x xs e f
  put_comm_by a b x xs rec false true e f = sym (mixed b a x xs f e)
  put_comm_by a b x xs rec false false e f =
      ap (put before a) (put_no before b x xs f) ∙ put_no before a x (put before b xs) e ∙ ap (λ l. x ∷ l) rec ∙ sym (ap (put before b) (put_no before a x xs e) ∙ put_no before b x (put before a xs) f)

  pub put_comm : (a b : X) (xs : List X) → put before a (put before b xs) ≡ put before b (put before a xs)
  put_comm a b [] = two a b [] (before a b) (before b a) refl refl
  put_comm a b (x ∷ xs) = put_comm_by a b x xs (put_comm a b xs) (before a x) (before b x) refl refl

  pub sorted_push : (xs : List X) (y : X) → sorted before (xs ++ (y ∷ [])) ≡ put before y (sorted before xs)
  sorted_push [] y = refl
  sorted_push (x ∷ xs) y = ap (put before x) (sorted_push xs y) ∙ put_comm x y (sorted before xs)

  pub sorted_set : (xs : List X) (i : ℕ) (y d : X) → i < length xs → put before (get_or xs i d) (sorted before (set xs i y)) ≡ put before y (sorted before xs)
  sorted_set [] i y d in' = absurd (omega arith)
  sorted_set (x ∷ xs) zero y d in' = put_comm x y (sorted before xs)
  sorted_set (x ∷ xs) (suc i) y d in' =
      put_comm (get_or xs i d) x (sorted before (set xs i y)) ∙ ap (put before x) (sorted_set xs i y d (omega arith)) ∙ put_comm x y (sorted before xs)

  put_first_by : (x y : X) (ys : List X) → put before x ys ≡ x ∷ ys → before y x ≡ false → (b : Bool) → before x y ≡ b → put before x (y ∷ ys) ≡ x ∷ (y ∷ ys)
  put_first_by x y ys rec back true e = put_yes before x y ys e
  put_first_by x y ys rec back false e =
      let same : x ≡ y = o.level x y e back in
      put_no before x y ys e ∙ ap (λ l. y ∷ l) rec ∙ rw same refl

  pub put_first : (x : X) (ys : List X) → AllByRecursion (λ y. before y x ≡ false) ys → put before x ys ≡ x ∷ ys
  put_first x [] all = refl
  put_first x (y ∷ ys) all = put_first_by x y ys (put_first x ys all.1) all.0 (before x y) refl

  head_put : (x m : X) (ys : List X) → slice_get ys 0 ≡ Some m → before x m ≡ false → slice_get (put before x ys) 0 ≡ Some m
  head_put x m [] is back = absurd (none-some _ is)
  head_put x m (y ∷ ys) is back = let same : y ≡ m = same_Some _ _ is in ap (λ l. slice_get l 0) (put_no before x y ys (ap (before x) same ∙ back)) ∙ is

  -- an item that none comes before is the first of the list sorted
  pub first_sorted : (xs : List X) (i : ℕ) (d : X) → i < length xs → AllByRecursion (λ z. before z (get_or xs i d) ≡ false) xs → slice_get (sorted before xs) 0 ≡ Some (get_or xs i d)
  first_sorted [] i d within all = absurd (omega arith)
  first_sorted (x ∷ xs) zero d within all = ap (λ l. slice_get l 0) (put_first x (sorted before xs) (all_sorted before (λ z. before z x ≡ false) xs all.1))
  first_sorted (x ∷ xs) (suc i) d within all = head_put x (get_or xs i d) (sorted before xs) (first_sorted xs i d (omega arith) all.1) all.0

  sorted_swapped : (xs : List X) (i j : ℕ) (d : X) → i < length xs → j < length xs → sorted before (set (set xs i (get_or xs j d)) j (get_or xs i d)) ≡ sorted before xs
  sorted_swapped [] i j d low low' = refl
  sorted_swapped (x ∷ xs) zero zero d low low' = refl
  sorted_swapped (x ∷ xs) zero (suc j) d low low' = sorted_set xs j x d (omega arith)
  sorted_swapped (x ∷ xs) (suc i) zero d low low' = sorted_set xs i x d (omega arith)
  sorted_swapped (x ∷ xs) (suc i) (suc j) d low low' = ap (put before x) (sorted_swapped xs i j d (omega arith) (omega arith))

  sorted_swap : (xs : List X) (i j : ℕ) → i < length xs → j < length xs → sorted before (swap xs i j) ≡ sorted before xs
  sorted_swap [] i j low low' = refl
  sorted_swap (x ∷ xs) i j low low' = sorted_swapped (x ∷ xs) i j x low low'

  sorted_permutation : (xs ys : List X) → IsPermutation xs ys → sorted before ys ≡ sorted before xs
  sorted_permutation xs ys moved = IsPermutation-keeps xs (λ l. sorted before l ≡ sorted before xs) refl (λ l i j low low' same. sorted_swap l i j low low' ∙ same) ys moved

  sorted_itself : (xs : List X) → InOrder before xs → sorted before xs ≡ xs
  sorted_itself [] so = refl
  sorted_itself (x ∷ xs) so = ap (put before x) (sorted_itself xs so.1) ∙ put_first x xs so.0

  in_order : (xs : List X) → IsStrictWeakOrder before → IsSortedBy before xs → InOrder before xs
  in_order [] weak up = tt
  in_order (x ∷ xs) weak up = (
    All-from_get_or (λ y. before y x ≡ false) xs x (λ k low. sorted_far before weak (x ∷ xs) up 0 (suc k) x (omega arith) (omega arith)),
    in_order xs weak (λ k d low high.
        let next : suc k + 1 ≡ suc (k + 1) = omega arith in
        subst (λ (n : ℕ). before (get_or (x ∷ xs) n d) (get_or xs k d) ≡ false) next (up (suc k) d (omega arith) (omega arith))),
  )

  -- a list in order that has the items of another is the other sorted
  pub sorted_is : (xs ys : List X) → IsStrictWeakOrder before → IsPermutation xs ys → IsSortedBy before ys → ys ≡ sorted before xs
  sorted_is xs ys weak moved up = sym (sorted_itself ys (in_order ys weak up)) ∙ sorted_permutation xs ys moved
