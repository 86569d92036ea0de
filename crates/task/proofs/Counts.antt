-- How many items at the front of a list pass a test, and how many of its places.
use Rattle.std.proofs.Common.{◌≡◌, ℕ, zero, suc, Bool, false, List, length, get_or, take, refl, ap, sym, ◌∙◌, inl, inr, add-one, arith}
use Rattle.std.specs.List.{count_by}
use Rattle.std.proofs.lemmas.Bool.{cases_Bool, cases_lt}
use Rattle.std.proofs.lemmas.List.{get_or_past, take_all}
use Rattle.std.proofs.lemmas.List.Sums.{count_by_more_yes, count_by_more_no}
use Rattle.task.specs.Graph.{count_below}

-- what stands past the end, d, does not pass
pub counted : {X : Type 0} (p : X → Bool) (d : X) → p d ≡ false → (xs : List X) (n : ℕ) → count_by p (take n xs) ≡ count_below (λ i. p (get_or xs i d)) n
counted p d out xs zero = refl
counted p d out xs (suc n) =
    let rec = counted p d out xs n in
    elim (cases_lt n (length xs)) [
      | inl below ↦ elim (cases_Bool (p (get_or xs n d))) [
        | inl yes' ↦ let more = count_by_more_yes p xs n d below yes' in rw yes' (omega (arith, rec, more, ap (λ k. count_by p (take k xs)) (add-one n)))
        | inr no' ↦ let more = count_by_more_no p xs n d below no' in rw no' (omega (arith, rec, more, ap (λ k. count_by p (take k xs)) (add-one n)))
      ]
      | inr past ↦
          let is = ap p (get_or_past xs n d past) ∙ out in
          let same = take_all (suc n) xs (omega arith) ∙ sym (take_all n xs past) in
          rw is (omega (arith, rec, ap (λ ys. count_by p ys) same))
    ]

pub counted_all : {X : Type 0} (p : X → Bool) (d : X) → p d ≡ false → (xs : List X) → count_by p xs ≡ count_below (λ i. p (get_or xs i d)) (length xs)
counted_all p d out xs = ap (λ ys. count_by p ys) (sym (take_all (length xs) xs (omega arith))) ∙ counted p d out xs (length xs)
