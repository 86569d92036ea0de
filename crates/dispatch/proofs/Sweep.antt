-- A loop that writes f of each item over it.
use Rattle.std.proofs.Common.{◌≡◌, ℕ, zero, suc, ◌+◌, ◌-◌, ◌<◌, ◌≤◌, List, [], ◌∷◌, ◌++◌, length, get_or, set, take, drop, map, refl, sym, ap, ◌∙◌, arith}
use Rattle.std.proofs.lemmas.List.{get_or_default, get_or-append_right, get_or-drop, length-map, length-take-le}
use Rattle.std.proofs.lemmas.List.Edits.{map_over_more}

module _ {X : Type 0} (f : X → X) (xs ys : List X) (i : ℕ) (swept : ys ≡ map f (take i xs) ++ drop i xs) (within : i < length xs) where
  -- the items from the place i on are as they were
  pub unswept : (d : X) → get_or ys i d ≡ get_or xs i d
  unswept d =
      let few : i ≤ length xs = omega arith in
      let back : i + (i - i) ≡ i = omega arith in
      ap (λ l. get_or l i d) swept
      ∙ (get_or-append_right (map f (take i xs)) (drop i xs) i i d (length-map (take i xs) f ∙ length-take-le i xs few) (omega arith)
      ∙ (get_or-drop i xs (i - i) d ∙ ap (λ n. get_or xs n d) back))

  -- one item more is written over
  pub sweep_on : (x v : X) → v ≡ f (get_or ys i x) → set ys i v ≡ map f (take (i + 1) xs) ++ drop (i + 1) xs
  sweep_on x v e =
      let y = get_or ys i x in
      let read : y ≡ get_or ys i y = unswept x ∙ (get_or_default xs i x y within ∙ sym (unswept y)) in
      ap (set ys i) e ∙ map_over_more f xs ys i y within swept read

pub take_kept : {X : Type 0} (f : X → X) (n : ℕ) (xs : List X) → take n (map f (take n xs) ++ drop n xs) ≡ map f (take n xs)
take_kept f zero xs = refl
take_kept f (suc n) [] = refl
take_kept f (suc n) (x ∷ xs) = ap (λ l. f x ∷ l) (take_kept f n xs)

-- items that are read at each place are those of a map
pub take_reads : {X Y : Type 0} (f : X → Y) (xs : List X) (ys : List Y) → length xs ≤ length ys → ((i : ℕ) (d : X) (e : Y) → i < length xs → get_or ys i e ≡ f (get_or xs i d)) → take (length xs) ys ≡ map f xs
take_reads f [] ys few h = refl
take_reads f (x ∷ xs) [] few h = absurd (omega arith)
take_reads f (x ∷ xs) (y ∷ ys) few h = rw (h 0 x y (omega arith)) (ap (λ l. f x ∷ l) (take_reads f xs ys (omega arith) (λ i d e low. h (suc i) d e (omega arith))))
