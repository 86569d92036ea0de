-- What stands in a table that is filled number by number.
use Rattle.std.proofs.Common.{◌≡◌, ℕ, zero, suc, ◌+◌, ◌-◌, ◌<◌, ◌≤◌, Bool, true, ◌||◌, [], ◌∷◌, length, get_or, refl, sym, ap, ◌∙◌, subst, inl, inr, arith}
use Rattle.std.proofs.lemmas.Bool.{cases_eq, false≢true, or_cases, or_left, or_right}
use Rattle.std.proofs.lemmas.List.{get_or_append_left, get_or_past, get_or_push, length_push}
use Rattle.std.proofs.lemmas.List.FromFn.{get_or-map-range_with_len, length-map-range_with_len}
use Rattle.computed.specs.Tables.{each, falling, rising, some_below}

pub some_below_at : (p : ℕ → Bool) (n u : ℕ) → u < n → p u ≡ true → some_below p n ≡ true
unfolding some_below
some_below_at p zero u low y = absurd (omega arith)
some_below_at p (suc n) u low y = elim (cases_eq u n) [
  | inl e ↦ or_right (some_below p n) (p n) (ap p (sym e) ∙ y)
  | inr ne ↦ or_left (some_below p n) (p n) (some_below_at p n u (omega arith) y)
]

pub some_below_found : (p : ℕ → Bool) (n : ℕ) → some_below p n ≡ true → (u : ℕ) × (u < n) × (p u ≡ true)
unfolding some_below
some_below_found p zero y = absurd (false≢true y)
some_below_found p (suc n) y = elim (or_cases (some_below p n) (p n) y) [
  | inl before ↦ let (u, low, is) = some_below_found p n before in (u, omega arith, is)
  | inr here ↦ (n, omega arith, here)
]

pub length-each : {X : Type 0} (f : ℕ → X) (n : ℕ) → length (each f n) ≡ n
unfolding each
length-each f n = length-map-range_with_len f 0 n

pub each_at : {X : Type 0} (f : ℕ → X) (n v : ℕ) (d : X) → v < n → get_or (each f n) v d ≡ f v
unfolding each
each_at f n v d low = get_or-map-range_with_len f 0 n v v d low (omega arith)

pub each_past : {X : Type 0} (f : ℕ → X) (n v : ℕ) (d : X) → n ≤ v → get_or (each f n) v d ≡ d
each_past f n v d past = get_or_past (each f n) v d (omega (arith, length-each f n))

-- f looks at values of lower numbers only, or of higher numbers only
abbrev pub LooksBack : {X : Type 0} → ((ℕ → X) → ℕ → X) → Type 0
LooksBack {X} f = (a b : ℕ → X) (v : ℕ) → ((u : ℕ) → u < v → a u ≡ b u) → f a v ≡ f b v

abbrev pub LooksOn : {X : Type 0} → ((ℕ → X) → ℕ → X) → Type 0
LooksOn {X} f = (a b : ℕ → X) (v : ℕ) → ((u : ℕ) → v < u → a u ≡ b u) → f a v ≡ f b v

module _ {X : Type 0} (d : X) (f : (ℕ → X) → ℕ → X) where
  pub length-rising : (n : ℕ) → length (rising d f n) ≡ n
  unfolding rising
  length-rising zero = refl
  length-rising (suc n) = omega (arith, length-rising n, length_push (rising d f n) (f (λ u. get_or (rising d f n) u d) n))

  pub rising_at : LooksBack f → (n v : ℕ) → v < n → get_or (rising d f n) v d ≡ f (λ u. get_or (rising d f n) u d) v
  unfolding rising
  rising_at back zero v low = absurd (omega arith)
  rising_at back (suc n) v low =
      let x : X = f (λ u. get_or (rising d f n) u d) n in
      let stays : (u : ℕ) → u < n → get_or (rising d f n) u d ≡ get_or (rising d f (suc n)) u d
      = λ u below. sym (get_or_append_left (rising d f n) (x ∷ []) d u (omega (arith, length-rising n))) in
      elim (cases_eq v n) [
        | inl e ↦ subst (λ w. get_or (rising d f (suc n)) w d ≡ f (λ u. get_or (rising d f (suc n)) u d) w) (sym e) (get_or_push (rising d f n) x d n (length-rising n) ∙ back _ _ n stays)
        | inr ne ↦ sym (stays v (omega arith)) ∙ rising_at back n v (omega arith) ∙ back _ _ v (λ u below. stays u (omega arith))
      ]

  pub rising_past : (n v : ℕ) → n ≤ v → get_or (rising d f n) v d ≡ d
  rising_past n v past = get_or_past (rising d f n) v d (omega (arith, length-rising n))

  pub length-falling : (n v : ℕ) → length (falling d f v n) ≡ n
  unfolding falling
  length-falling zero v = refl
  length-falling (suc n) v = omega (arith, length-falling n (suc v))

  -- the place of u in a table from v on
  further : (n v u : ℕ) → v < u → get_or (falling d f (suc v) n) (u - suc v) d ≡ get_or (falling d f v (suc n)) (u - v) d
  unfolding falling
  further n v u above =
      let e : u - v ≡ suc (u - suc v) = omega arith in
      sym (ap (λ i. get_or (falling d f v (suc n)) i d) e)

  falling_from : LooksOn f → (n v k w : ℕ) → k < n → v + k ≡ w → get_or (falling d f v n) k d ≡ f (λ u. get_or (falling d f v n) (u - v) d) w
  unfolding falling
  falling_from on zero v k w low is = absurd (omega arith)
  falling_from on (suc n) v zero w low is =
      let here = on (λ u. get_or (falling d f (suc v) n) (u - suc v) d) (λ u. get_or (falling d f v (suc n)) (u - v) d) v (further n v) in
      here ∙ ap (f (λ u. get_or (falling d f v (suc n)) (u - v) d)) (omega arith)
  falling_from on (suc n) v (suc k) w low is =
      falling_from on n (suc v) k w (omega arith) (omega arith)
      ∙ on (λ u. get_or (falling d f (suc v) n) (u - suc v) d) (λ u. get_or (falling d f v (suc n)) (u - v) d) w (λ u above. further n v u (omega arith))

  pub falling_at : LooksOn f → (n v : ℕ) → v < n → get_or (falling d f 0 n) v d ≡ f (λ u. get_or (falling d f 0 n) u d) v
  falling_at on n v low =
      falling_from on n 0 v v low (omega arith)
      ∙ on (λ u. get_or (falling d f 0 n) (u - 0) d) (λ u. get_or (falling d f 0 n) u d) v (λ u above. ap (λ i. get_or (falling d f 0 n) i d) (omega arith))

  pub falling_past : (n v : ℕ) → n ≤ v → get_or (falling d f 0 n) v d ≡ d
  falling_past n v past = get_or_past (falling d f 0 n) v d (omega (arith, length-falling n 0))

pub some_below_same : (p q : ℕ → Bool) (n : ℕ) → ((u : ℕ) → u < n → p u ≡ q u) → some_below p n ≡ some_below q n
unfolding some_below
some_below_same p q zero same = refl
some_below_same p q (suc n) same =
    ap (λ b. b || p n) (some_below_same p q n (λ u low. same u (omega arith))) ∙ ap (λ b. some_below q n || b) (same n (omega arith))
