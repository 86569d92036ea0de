-- The greatest over the ends up to y of what one arrival asks by them is what it asks by y.
use Rattle.std.proofs.Common.{◌≡◌, ℕ, suc, ◌+◌, ◌<◌, ◌≤◌, Bool, true, false, cond, List, [], ◌∷◌, map, length, refl, sym, ap, ◌∙◌, ◌⊎◌, arith, inl, inr}
use Rattle.std.specs.Prelude.{filter, nat_le, slice_index, slice_index_or}
use Rattle.std.specs.List.{All}
use Rattle.std.specs.List.Sorted.{IsPermutation}
use Rattle.std.proofs.lemmas.Bool.{cases_Bool, cases_lt, leb-true, leb-false}
use Rattle.std.proofs.lemmas.Bool.Decides.{nat_tests}
use Rattle.std.proofs.lemmas.List.Elements.{All-nil, All-cons, All-head, All-tail}
use Rattle.std.proofs.lemmas.List.Sorted.{All-permutation, IsPermutation-sym}
use Rattle.claim.specs.Claim.{stair}
use Rattle.claim.specs.Making.{most_within}
use Rattle.claim.proofs.Within.{branch_cond}
use Rattle.plan.specs.declared.part.Task.{Task}
use Rattle.plan.specs.Pattern.{branch_of, window_of}
use Rattle.theory.specs.Demand.{greatest}
use Rattle.theory.specs.Pattern.{Window, inner, share}
use Rattle.theory.proofs.Windows.{inner_mono}

abbrev pub end_of : Task → ℕ
end_of t = t.window.deadline

pub greatest_map : {X Y : Type 0} (f : Y → ℕ) (g : X → Y) (xs : List X) → greatest f (map g xs) ≡ greatest (λ x. f (g x)) xs
greatest_map f g [] = refl
greatest_map f g (x ∷ xs) = let rec = greatest_map f g xs in omega arith

pub greatest_up : {X : Type 0} (f g : X → ℕ) → ((x : X) → f x ≤ g x) → (xs : List X) → greatest f xs ≤ greatest g xs
greatest_up f g up [] = omega arith
greatest_up f g up (x ∷ xs) = let rec = greatest_up f g up xs in omega (arith, up x)

pub greatest_zero : {X : Type 0} (f : X → ℕ) → ((x : X) → f x ≡ 0) → (xs : List X) → greatest f xs ≡ 0
greatest_zero f none [] = refl
greatest_zero f none (x ∷ xs) = let rec = greatest_zero f none xs in omega (arith, none x)

-- no end up to y lies beyond e
abbrev Stops : ℕ → ℕ → Task → Type 0
Stops y e t = end_of t ≤ y → end_of t ≤ e

share_stop : (u y e : ℕ) (w : Window) → (w.deadline ≤ y → w.deadline ≤ e) → share u y w ≤ share u e w
share_stop u y e w stop = elim (cases_lt y w.deadline) [
  | inl past ↦ grind (arith, nat_tests)
  | inr due ↦ let low = stop (omega arith) in grind (arith, nat_tests)
]

share_none : (u y : ℕ) (w : Window) → y < w.deadline → share u y w ≡ 0
share_none u y w past = grind (arith, nat_tests)

cond_up : (r : Bool) (a b c d : ℕ) → a ≤ c → b ≤ d → cond r (a + b) b ≤ cond r (c + d) d
cond_up true a b c d p q = omega arith
cond_up false a b c d p q = q

cond_none : (r : Bool) (a b : ℕ) → a ≡ 0 → b ≡ 0 → cond r (a + b) b ≡ 0
cond_none true a b p q = omega arith
cond_none false a b p q = q

module _ (row : List Bool) (u y : ℕ) where
  reached : Task → Bool
  reached t = slice_index_or row t.node false

  inner_stop : (e : ℕ) (ts : List Task) → All (Stops y e) ts → inner (branch_of ts row) u y ≤ inner (branch_of ts row) u e
  inner_stop e [] all = omega arith
  inner_stop e (t ∷ ts) all =
      let rec = inner_stop e ts (All-tail (Stops y e) t ts all) in
      let here = share_stop u y e (window_of t) (All-head (Stops y e) t ts all) in
      let up = cond_up (slice_index_or row t.node false) _ _ _ _ here rec in
      let rest = filter (λ (x : Task). slice_index_or row x.node false) ts in
      omega (arith, branch_cond (slice_index_or row t.node false) u y t rest, branch_cond (slice_index_or row t.node false) u e t rest)

  inner_none : (ts : List Task) → All (λ t. y < end_of t) ts → inner (branch_of ts row) u y ≡ 0
  inner_none [] all = refl
  inner_none (t ∷ ts) all =
      let rec = inner_none ts (All-tail (λ x. y < end_of x) t ts all) in
      let here = share_none u y (window_of t) (All-head (λ x. y < end_of x) t ts all) in
      let rest = filter (λ (x : Task). slice_index_or row x.node false) ts in
      branch_cond (slice_index_or row t.node false) u y t rest ∙ cond_none (slice_index_or row t.node false) _ _ here rec

module _ (ts : List Task) (rows : List (List Bool)) (u : ℕ) where
  abbrev most : ℕ → ℕ
  most y = most_within ts rows u y

  pub most_up : (y z : ℕ) → y ≤ z → most y ≤ most z
  most_up y z up = greatest_up _ _ (λ row. inner_mono u u y z (branch_of ts row) (omega arith) up) rows

  most_stop : (y e : ℕ) → All (Stops y e) ts → most y ≤ most e
  most_stop y e all = greatest_up _ _ (λ row. inner_stop row u y e ts all) rows

  most_none : (y : ℕ) → All (λ t. y < end_of t) ts → most y ≡ 0
  most_none y all = greatest_zero _ (λ row. inner_none row u y ts all) rows

  abbrev due : ℕ → Task → ℕ
  due y t = cond (nat_le (end_of t) y) (most (end_of t)) 0

  due_up : (y : ℕ) (t : Task) → due y t ≤ most y
  due_up y t = elim (cases_Bool (nat_le (end_of t) y)) [
    | inl yes' ↦ rw yes' (most_up (end_of t) y (leb-true _ _ yes'))
    | inr no' ↦ rw no' (omega arith)
  ]

  all_up : (y : ℕ) (xs : List Task) → greatest (due y) xs ≤ most y
  all_up y [] = omega arith
  all_up y (x ∷ xs) = let rec = all_up y xs in omega (arith, due_up y x)

  -- the latest end up to y, or none is up to y
  latest : (y : ℕ) (xs : List Task) → All (λ t. y < end_of t) xs ⊎ ((e : ℕ) × (e ≤ y) × All (Stops y e) xs × (most e ≤ greatest (due y) xs))
  latest y [] = inl (All-nil (λ t. y < end_of t))
  latest y (x ∷ xs) = elim (cases_Bool (nat_le (end_of x) y)) [
    | inl yes' ↦
        let here = leb-true (end_of x) y yes' in
        let is : due y x ≡ most (end_of x) = rw yes' refl in
        elim (latest y xs) [
          | inl none ↦ inr (end_of x, here, All-cons (Stops y (end_of x)) x xs (λ _. omega arith) (λ k d below low. absurd (let far = none k d below in omega arith)), omega arith)
          | inr some ↦
              let (e, low, all, up) = some in
              elim (cases_lt e (end_of x)) [
                | inl later ↦ inr (end_of x, here, All-cons (Stops y (end_of x)) x xs (λ _. omega arith) (λ k d below due'. let stop = all k d below due' in omega arith), omega arith)
                | inr sooner ↦ inr (e, low, All-cons (Stops y e) x xs (λ _. omega arith) all, omega arith)
              ]
        ]
    | inr no' ↦
        let past = leb-false (end_of x) y no' in
        elim (latest y xs) [
          | inl none ↦ inl (All-cons (λ t. y < end_of t) x xs (omega arith) none)
          | inr some ↦
              let (e, low, all, up) = some in
              inr (e, low, All-cons (Stops y e) x xs (λ low'. absurd (omega arith)) all, omega arith)
        ]
  ]

  pub due_is : (y : ℕ) → greatest (due y) ts ≡ most y
  due_is y = let up = all_up y ts in elim (latest y ts) [
    | inl none ↦ omega (arith, most_none y none)
    | inr some ↦ let (e, low, all, at) = some in omega (arith, most_stop y e all)
  ]

-- the greatest does not go by the order
greatest_within : {X : Type 0} (f : X → ℕ) (m : ℕ) (xs : List X) → All (λ x. f x ≤ m) xs → greatest f xs ≤ m
greatest_within f m [] all = omega arith
greatest_within f m (x ∷ xs) all =
    let rec = greatest_within f m xs (All-tail (λ y. f y ≤ m) x xs all) in
    omega (arith, All-head (λ y. f y ≤ m) x xs all)

each_within : {X : Type 0} (f : X → ℕ) (m : ℕ) (xs : List X) → greatest f xs ≤ m → All (λ x. f x ≤ m) xs
each_within f m [] low = All-nil (λ x. f x ≤ m)
each_within f m (x ∷ xs) low = All-cons (λ y. f y ≤ m) x xs (omega arith) (each_within f m xs (omega arith))

greatest_moved : {X : Type 0} (f : X → ℕ) (xs ys : List X) → IsPermutation xs ys → greatest f xs ≡ greatest f ys
greatest_moved f xs ys same =
    let up = greatest_within f (greatest f ys) xs (All-permutation (λ x. f x ≤ greatest f ys) ys xs (IsPermutation-sym xs ys same) (each_within f (greatest f ys) ys (omega arith))) in
    let down = greatest_within f (greatest f xs) ys (All-permutation (λ x. f x ≤ greatest f xs) xs ys same (each_within f (greatest f xs) xs (omega arith))) in
    omega arith

zip_beside : (es most : List ℕ) (f : ℕ → ℕ) → length es ≤ length most → ((i : ℕ) → i < length es → slice_index most i ≡ f (slice_index es i))
    → (y : ℕ) → stair es most y ≡ greatest (λ e. cond (nat_le e y) (f e) 0) es
zip_beside [] most f long each y = refl
zip_beside (e ∷ es) [] f long each y = absurd (omega arith)
zip_beside (e ∷ es) (m ∷ most) f long each y =
    let rec = zip_beside es most f (omega arith) (λ i below. each (suc i) (omega arith)) y in
    let here : m ≡ f e = each 0 (omega arith) in
    let same = ap (λ (n : ℕ). cond (nat_le e y) n 0) here in
    omega arith

-- beside the ends of sub-tasks, in any order, what one arrival asks by them
pub stair_is : (ts : List Task) (rows : List (List Bool)) (u : ℕ) (es most : List ℕ) → IsPermutation (map end_of ts) es → length es ≤ length most
    → ((i : ℕ) → i < length es → slice_index most i ≡ most_within ts rows u (slice_index es i))
    → (y : ℕ) → stair es most y ≡ most_within ts rows u y
stair_is ts rows u es most same long each y =
    let f : ℕ → ℕ = λ e. cond (nat_le e y) (most_within ts rows u e) 0 in
    zip_beside es most (most_within ts rows u) long each y ∙ sym (greatest_moved f (map end_of ts) es same) ∙ greatest_map f end_of ts ∙ due_is ts rows u y
