-- A belt cycle by what divides it so often as each period fits in it.
use Rattle.std.proofs.Common.{◌≡◌, ℕ, zero, suc, ◌*◌, ◌/◌, ◌%◌, ◌≤◌, List, [], ◌∷◌, ◌++◌, subst, arith}
use native.Mathlib.Nat.{div-add-mod}
use Rattle.std.proofs.Math.Nat.{dvd-mul_left, dvd_of_mul-dvd-mul_left, dvd_of_mul-dvd-mul_right, mul-dvd-mul_left, mul-dvd-mul_right}
use Rattle.std.specs.Int.{IsGcd, ◌∣◌}
use Rattle.std.specs.List.{All}
use Rattle.std.proofs.lemmas.List.Elements.{All-nil, All-cons, All-head, All-tail, All-push}
use Rattle.std.proofs.lemmas.Nat.Gcd.{dvd_refl, dvd_trans, dvd_of_mod-eq-zero, mod-eq-zero_of_dvd}
use Rattle.claim.specs.declared.claim.Claim.{Claim}
use Rattle.fit.specs.Multiple.{LeastMultiple, MultipleOf, Periodic}

-- how often the period of a claim fits in a belt cycle
abbrev pub turns : Claim → ℕ
turns c = 14400 / c.period

abbrev pub Divides : List Claim → ℕ → Type 0
Divides cs d = All (λ (c : Claim). d ∣ turns c) cs

-- the greatest that divides a belt cycle and all of these
pub record SharedBy (cs : List Claim) (d : ℕ) : Type 0 where
  pub cycle : d ∣ 14400
  pub all : Divides cs d
  pub most : (e : ℕ) → e ∣ 14400 → Divides cs e → e ∣ d

all_front : {X : Type 0} (P : X → Type 0) (xs : List X) (x : X) → All P (xs ++ x ∷ []) → All P xs
all_front P [] x all = All-nil P
all_front P (a ∷ xs) x all = All-cons P a xs (All-head P a (xs ++ x ∷ []) all) (all_front P xs x (All-tail P a (xs ++ x ∷ []) all))

all_last : {X : Type 0} (P : X → Type 0) (xs : List X) (x : X) → All P (xs ++ x ∷ []) → P x
all_last P [] x all = All-head P x [] all
all_last P (a ∷ xs) x all = all_last P xs x (All-tail P a (xs ++ x ∷ []) all)

all_each : {X : Type 0} (P Q : X → Type 0) (xs : List X) → ((x : X) → P x → Q x) → All P xs → All Q xs
all_each P Q [] each all = All-nil Q
all_each P Q (x ∷ xs) each all = All-cons Q x xs (each x (All-head P x xs all)) (all_each P Q xs each (All-tail P x xs all))

pub shared_none : SharedBy [] 14400
shared_none = record { cycle = dvd_refl 14400; all = All-nil _; most = λ e cycle _. cycle }

pub shared_next : (cs : List Claim) (c : Claim) (d g : ℕ) → SharedBy cs d → IsGcd d (turns c) g → SharedBy (cs ++ c ∷ []) g
shared_next cs c d g by gcd = record {
  cycle = dvd_trans g gcd.0 by.cycle;
  all = All-push (λ (x : Claim). g ∣ turns x) cs c (all_each (λ (x : Claim). d ∣ turns x) (λ (x : Claim). g ∣ turns x) cs (λ x one. dvd_trans g gcd.0 one) by.all) gcd.1;
  most = λ e cycle all. gcd.2 e (by.most e cycle (all_front (λ (x : Claim). e ∣ turns x) cs c all)) (all_last (λ (x : Claim). e ∣ turns x) cs c all);
}

-- a number that divides a belt cycle fits in it a whole number of times
whole_times : (d : ℕ) → 14400 % d ≡ 0 → d * (14400 / d) ≡ 14400
whole_times d none = omega (arith, div-add-mod 14400 d)

factor_some : (a b : ℕ) → a * b ≡ 14400 → 1 ≤ a
factor_some zero b e = absurd (omega arith)
factor_some (suc a) b e = omega arith

factor_few : (a b : ℕ) → a * b ≡ 14400 → a ≤ 14400
factor_few a zero e = absurd (omega arith)
factor_few a (suc b) e = omega arith

module _ (cs : List Claim) (g : ℕ) (by : SharedBy cs g) where
  abbrev result : ℕ
  result = 14400 / g

  pub shares : g * result ≡ 14400
  shares = whole_times g (mod-eq-zero_of_dvd g by.cycle)

  pub shared_some : 1 ≤ g
  shared_some = factor_some g result shares

  pub result_some : 1 ≤ result
  result_some = factor_some result g (omega (arith, shares))

  pub result_few : result ≤ 14400
  result_few = factor_few result g (omega (arith, shares))

  -- the period of a claim divides the result, since what is shared divides how often it fits
  is_multiple : (c : Claim) → 14400 % c.period ≡ 0 → g ∣ turns c → result % c.period ≡ 0
  is_multiple c whole one =
      let both : c.period * g ∣ c.period * turns c = mul-dvd-mul_left g c.period one in
      let same : c.period * turns c ≡ result * g = omega (arith, whole_times c.period whole, shares) in
      mod-eq-zero_of_dvd c.period (dvd_of_mul-dvd-mul_right c.period shared_some (subst (λ (n : ℕ). c.period * g ∣ n) same both))

  -- what is left of a belt cycle by a multiple of a claim's period divides how often that fits
  turns_divided : (k : ℕ) → 14400 % k ≡ 0 → (c : Claim) → 14400 % c.period ≡ 0 → k % c.period ≡ 0 → 14400 / k ∣ turns c
  turns_divided k within c whole one =
      let both : c.period * (14400 / k) ∣ k * (14400 / k) = mul-dvd-mul_right c.period (dvd_of_mod-eq-zero c.period one) (14400 / k) in
      let same : k * (14400 / k) ≡ c.period * turns c = omega (arith, whole_times k within, whole_times c.period whole) in
      dvd_of_mul-dvd-mul_left (14400 / k) c.some (subst (λ (n : ℕ). c.period * (14400 / k) ∣ n) same both)

  all_divided : (k : ℕ) → 14400 % k ≡ 0 → (xs : List Claim) → Periodic xs → MultipleOf xs k → Divides xs (14400 / k)
  all_divided k within [] whole all = All-nil _
  all_divided k within (x ∷ xs) whole all =
      All-cons (λ (c : Claim). 14400 / k ∣ turns c) x xs
      (turns_divided k within x (All-head (λ (c : Claim). 14400 % c.period ≡ 0) x xs whole) (All-head (λ (c : Claim). k % c.period ≡ 0) x xs all))
      (all_divided k within xs (All-tail (λ (c : Claim). 14400 % c.period ≡ 0) x xs whole) (All-tail (λ (c : Claim). k % c.period ≡ 0) x xs all))

  all_multiple : (xs : List Claim) → Periodic xs → Divides xs g → MultipleOf xs result
  all_multiple [] whole all = All-nil _
  all_multiple (x ∷ xs) whole all =
      All-cons (λ (c : Claim). result % c.period ≡ 0) x xs
      (is_multiple x (All-head (λ (c : Claim). 14400 % c.period ≡ 0) x xs whole) (All-head (λ (c : Claim). g ∣ turns c) x xs all))
      (all_multiple xs (All-tail (λ (c : Claim). 14400 % c.period ≡ 0) x xs whole) (All-tail (λ (c : Claim). g ∣ turns c) x xs all))

  pub least_multiple : Periodic cs → LeastMultiple cs result
  least_multiple whole = record {
    multiple = all_multiple cs whole by.all;
    within = mod-eq-zero_of_dvd result (subst (λ (n : ℕ). result ∣ n) shares (dvd-mul_left result g));
    least = λ k within all.
        let t = 14400 / k in
        let fits = whole_times k within in
        let one : t ∣ g = by.most t (subst (λ (n : ℕ). t ∣ n) fits (dvd-mul_left t k)) (all_divided k within cs whole all) in
        let both : result * t ∣ result * g = mul-dvd-mul_left t result one in
        let same : result * g ≡ k * t = omega (arith, shares, fits) in
        mod-eq-zero_of_dvd result (dvd_of_mul-dvd-mul_right result (factor_some t k (omega (arith, fits))) (subst (λ (n : ℕ). result * t ∣ n) same both));
  }
