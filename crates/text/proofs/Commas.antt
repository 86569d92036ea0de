-- Numbers with commas between, and sets of numbers.
use Rattle.std.proofs.Common.{◌≡◌, ℕ, zero, suc, ◌+◌, ◌<◌, ◌≤◌, Bool, true, false, List, [], ◌∷◌, ◌++◌, length, get_or, set, replicate, decimal, refl, ap, ◌∙◌, subst, add-zero, arith}
use Rattle.std.proofs.lemmas.Bool.{true≢false}
use Rattle.std.specs.Str.Parse.{AllDigits}
use Rattle.std.specs.List.{AllByRecursion}
use Rattle.std.proofs.lemmas.Str.Parse.{digit_from_value}
use Rattle.text.specs.Split.{Lacks}
use Rattle.text.specs.Value.{Small, Lower, Rising, Listed, listed, places, places_from}
use Rattle.text.proofs.Numbers.{numeral_digits}

-- a number holds no byte but digits
lacks_digits : (b : ℕ) → (48 ≤ b → b ≤ 57 → ⊥) → (bs : List ℕ) → AllDigits 10 bs → Lacks b bs
lacks_digits b out [] d = tt
lacks_digits b out (c ∷ bs) d =
    let in' = digit_from_value c d.0 in
    (λ e. out (omega (arith, in'.0)) (omega (arith, in'.1)), lacks_digits b out bs d.1)

pub lacks_decimal : (b : ℕ) → (48 ≤ b → b ≤ 57 → ⊥) → (n : ℕ) → Small n → Lacks b (decimal n)
lacks_decimal b out n s = lacks_digits b out (decimal n) (numeral_digits n (decimal n) (record { small = s; written = refl }))

pub lacks_comma : (n : ℕ) → Small n → Lacks 44 (decimal n)
lacks_comma n s = lacks_decimal 44 (λ p q. omega arith) n s

-- one more place in a set that is clear from there on
places_clear : (k : ℕ) (us : List Bool) → ((u : ℕ) → get_or us u false ≡ false) → places_from k us ≡ []
places_clear k [] clear = refl
places_clear k (true ∷ us) clear = absurd (true≢false (clear 0))
places_clear k (false ∷ us) clear = places_clear (suc k) us (λ u. clear (suc u))

places_more : (k i : ℕ) (us : List Bool) → i < length us → ((u : ℕ) → i ≤ u → get_or us u false ≡ false) → places_from k (set us i true) ≡ places_from k us ++ (k + i) ∷ []
places_more k i [] l clear = absurd (let z : ⊥ = omega arith in z)
places_more k zero (true ∷ us) l clear = absurd (true≢false (clear 0 (omega arith)))
places_more k zero (false ∷ us) l clear =
    let none = places_clear (suc k) us (λ u. clear (suc u) (omega arith)) in
    let same : k + 0 ≡ k = omega arith in
    rw (none, same) refl
places_more k (suc i) (true ∷ us) l clear =
    let rec = places_more (suc k) i us (omega arith) (λ u h. clear (suc u) (omega arith)) in
    let same : k + suc i ≡ suc k + i = omega arith in
    rw (same, rec) refl
places_more k (suc i) (false ∷ us) l clear =
    let rec = places_more (suc k) i us (omega arith) (λ u h. clear (suc u) (omega arith)) in
    let same : k + suc i ≡ suc k + i = omega arith in
    rw (same, rec) refl

pub places_set : (i : ℕ) (us : List Bool) → i < length us → ((u : ℕ) → i ≤ u → get_or us u false ≡ false) → places (set us i true) ≡ places us ++ i ∷ []
places_set i us l clear = places_more 0 i us l clear ∙ ap (λ n. places us ++ n ∷ []) (omega arith)

pub clear_none : (n u : ℕ) → get_or (replicate n false) u false ≡ false
clear_none zero u = refl
clear_none (suc n) zero = refl
clear_none (suc n) (suc u) = clear_none n u

-- the places of a set as a list
rising_from : (j k : ℕ) (ns : List ℕ) → j ≤ k → Rising k ns → Rising j ns
rising_from j k [] l up = tt
rising_from j k (n ∷ ns) l up = (omega (arith, up.0), up.1)

places_rising : (k : ℕ) (us : List Bool) → Rising k (places_from k us)
places_rising k [] = tt
places_rising k (true ∷ us) = (omega arith, places_rising (suc k) us)
places_rising k (false ∷ us) = rising_from k (suc k) (places_from (suc k) us) (omega arith) (places_rising (suc k) us)

places_all : (P : ℕ → Type 0) (k : ℕ) (us : List Bool) → ((u : ℕ) → get_or us u false ≡ true → P (k + u)) → AllByRecursion P (places_from k us)
places_all P k [] h = tt
places_all P k (true ∷ us) h = (subst P (add-zero k) (h 0 refl), places_all P (suc k) us (λ u e. subst P (let z : k + suc u ≡ suc k + u = omega arith in z) (h (suc u) e)))
places_all P k (false ∷ us) h = places_all P (suc k) us (λ u e. subst P (let z : k + suc u ≡ suc k + u = omega arith in z) (h (suc u) e))

pub listed_places : (v : ℕ) (us : List Bool) → v < 24 → Lower v us → Listed (λ n. n < v) (listed (places us))
listed_places v us l low = record {
  numbers = places us;
  rising = places_rising 0 us;
  small = places_all Small 0 us (λ u e. omega (arith, low.below u e));
  all = places_all (λ n. n < v) 0 us (λ u e. omega (arith, low.below u e));
  written = refl;
}
