-- A turn of a loop that fills a table of lengths: the new place settles, the old ones stay, and all values stay small.
use Rattle.std.proofs.Common.{◌≡◌, ℕ, ◌+◌, ◌-◌, ◌*◌, ◌<◌, ◌≤◌, Bool, true, ◌≢◌, List, length, get_or, set, sym, ap, ◌∙◌, inl, inr, arith}
use Rattle.std.proofs.lemmas.List.{get_or-set_same, get_or-set_other, get_or_past}
use Rattle.std.proofs.lemmas.Bool.{cases_eq}
use Rattle.window.specs.Greatest.{greatest}
use Rattle.window.specs.Recurrences.{Settled}
use Rattle.window.proofs.Maxima.{greatest_same, greatest_le, greatest_zero}

module _ (R : ℕ → ℕ → Bool) (weights was : List ℕ) (x y : ℕ) where
  -- a place that does not look at x
  pub settled_keep : (v : ℕ) → v ≢ x → (R x v ≡ true → ⊥) → Settled R weights was v → Settled R weights (set was x y) v
  settled_keep v ne blind is =
      get_or-set_other was x v y 0 ne ∙ is
      ∙ ap (λ g. get_or weights v 0 + g) (greatest_same (λ u. R u v) (λ u. get_or was u 0) (λ u. get_or (set was x y) u 0) 24 (λ u below r. sym (get_or-set_other was x u y 0 (λ e. blind (ap (λ k. R k v) (sym e) ∙ r)))))

  pub settled_here : x < length was → (R x x ≡ true → ⊥) → y ≡ get_or weights x 0 + greatest (λ u. R u x) (λ u. get_or was u 0) 24 → Settled R weights (set was x y) x
  settled_here room blind is =
      get_or-set_same was x y 0 room ∙ is
      ∙ ap (λ g. get_or weights x 0 + g) (greatest_same (λ u. R u x) (λ u. get_or was u 0) (λ u. get_or (set was x y) u 0) 24 (λ u below r. sym (get_or-set_other was x u y 0 (λ e. blind (ap (λ k. R k x) (sym e) ∙ r)))))

-- rank bounds the number of nodes on a path
module _ (R : ℕ → ℕ → Bool) (rank : ℕ → ℕ) (weights was : List ℕ) (x y : ℕ) (lower : (u : ℕ) → R u x ≡ true → rank u < rank x) (some : 1 ≤ rank x)
    (light : get_or weights x 0 ≤ 14400) (small : (u : ℕ) → get_or was u 0 ≤ 14400 * rank u) where
  pub small_here : get_or weights x 0 + greatest (λ u. R u x) (λ u. get_or was u 0) 24 ≤ 14400 * rank x
  small_here =
      let most = greatest_le (λ u. R u x) (λ u. get_or was u 0) 24 (14400 * (rank x - 1)) (λ u below r. omega (arith, lower u r, small u)) in
      omega arith

  pub small_turn : x < length was → y ≡ get_or weights x 0 + greatest (λ u. R u x) (λ u. get_or was u 0) 24 → (w : ℕ) → get_or (set was x y) w 0 ≤ 14400 * rank w
  small_turn room is w = elim (cases_eq w x) [
    | inl e ↦
        let here = small_here in
        let same = ap (λ k. get_or (set was x y) k 0) e ∙ get_or-set_same was x y 0 room in
        omega (arith, ap rank e)
    | inr ne ↦ omega (arith, get_or-set_other was x w y 0 ne, small w)
  ]

-- past the end of the tables
pub settled_past : (R : ℕ → ℕ → Bool) (weights table : List ℕ) (v : ℕ) → length weights ≤ v → length table ≤ v → ((u : ℕ) → R u v ≡ true → ⊥) → Settled R weights table v
settled_past R weights table v far past none =
    let none_here = greatest_zero (λ u. R u v) (λ u. get_or table u 0) 24 none in
    let weight = get_or_past weights v 0 far in
    let value = get_or_past table v 0 past in
    omega arith
