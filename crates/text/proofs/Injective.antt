-- A list of numbers, and the set that it writes, can be told from its bytes.
use Rattle.std.proofs.Common.{◌≡◌, ℕ, zero, suc, ◌+◌, ◌/◌, ◌%◌, ◌<◌, ◌≤◌, Bool, true, false, eqb, ltb, List, [], ◌∷◌, length, get_or, decimal, sym, refl, ap, ◌∙◌, subst, inl, inr, arith, length-append}
use Rattle.std.specs.List.{AllByRecursion}
use Rattle.std.specs.Fmt.{digits, digits_onto, digit_glyph}
use Rattle.std.proofs.lemmas.Bool.{cases_Bool}
use Rattle.text.specs.Split.{Lacks}
use Rattle.text.specs.Value.{Small, commas, listed, places, places_from}
use Rattle.text.proofs.Calendars.{decimal_numeral, spelled_more}
use Rattle.text.proofs.Cuts.{lacks_none, cut_front, cut_back}

-- no number is written with a byte below the digits
module _ (b : ℕ) (low : b < 48) where
  glyph_other : (d : ℕ) → digit_glyph false d ≡ b → ⊥
  glyph_other d e = elim (cases_Bool (ltb d 10)) [
    | inl y ↦ let z : digit_glyph false d ≡ 48 + d = rw y refl in omega arith
    | inr n ↦ let z : digit_glyph false d ≡ 87 + d = rw n refl in omega arith
  ]

  lacks_spelled : (k m : ℕ) (acc : List ℕ) → Lacks b acc → Lacks b (digits_onto k 10 false m acc)
  lacks_spelled zero m acc a = a
  lacks_spelled (suc k) m acc a = elim (cases_Bool (eqb (m / 10) 0)) [
    | inl y ↦ rw y (glyph_other (m % 10), a)
    | inr n ↦ rw n (lacks_spelled k (m / 10) (digit_glyph false (m % 10) ∷ acc) (glyph_other (m % 10), a))
  ]

  pub lacks_any : (n : ℕ) → Lacks b (decimal n)
  unfolding digits
  lacks_any n = lacks_spelled 64 n [] tt

decimal_some : (n : ℕ) → 0 < length (decimal n)
unfolding digits
decimal_some n = elim (cases_Bool (eqb (n / 10) 0)) [
  | inl y ↦ rw y (omega arith)
  | inr no' ↦ let rec = spelled_more 63 (n / 10) (digit_glyph false (n % 10) ∷ []) in rw no' (omega arith)
]

commas_some : (n : ℕ) (ns : List ℕ) → 0 < length (commas (n ∷ ns))
commas_some n [] = decimal_some n
commas_some n (m ∷ ns) = omega (arith, length-append (decimal n) (44 ∷ commas (m ∷ ns)), decimal_some n)

commas_same : (ns ms : List ℕ) → AllByRecursion Small ms → commas ns ≡ commas ms → ns ≡ ms
commas_same [] [] s e = refl
commas_same [] (m ∷ ms) s e = absurd (omega (arith, ap length e, commas_some m ms))
commas_same (n ∷ ns) [] s e = absurd (omega (arith, ap length e, commas_some n ns))
commas_same (n ∷ []) (m ∷ []) s e = ap (λ k. k ∷ []) (decimal_numeral n m (record { small = s.0; written = e }))
commas_same (n ∷ []) (m ∷ m' ∷ ms) s e = absurd (lacks_none 44 (decimal n) (decimal m) (commas (m' ∷ ms)) (lacks_any 44 (omega arith) n) e)
commas_same (n ∷ n' ∷ ns) (m ∷ []) s e = absurd (lacks_none 44 (decimal m) (decimal n) (commas (n' ∷ ns)) (lacks_any 44 (omega arith) m) (sym e))
commas_same (n ∷ n' ∷ ns) (m ∷ m' ∷ ms) s e =
    let first = cut_front 44 (decimal n) (commas (n' ∷ ns)) (decimal m) (commas (m' ∷ ms)) (lacks_any 44 (omega arith) n) (lacks_any 44 (omega arith) m) e in
    let rest = cut_back 44 (decimal n) (commas (n' ∷ ns)) (decimal m) (commas (m' ∷ ms)) (lacks_any 44 (omega arith) n) (lacks_any 44 (omega arith) m) e in
    let head = decimal_numeral n m (record { small = s.0; written = first }) in
    let tail = commas_same (n' ∷ ns) (m' ∷ ms) s.1 rest in
    cc

dash_alone : (n : ℕ) (ns : List ℕ) → 45 ∷ [] ≡ commas (n ∷ ns) → ⊥
dash_alone n [] e = let none = subst (Lacks 45) (sym e) (lacks_any 45 (omega arith) n) in none.0 refl
dash_alone n (m ∷ ns) e = omega (arith, ap length e, length-append (decimal n) (44 ∷ commas (m ∷ ns)), decimal_some n, commas_some m ns)

pub listed_same : (ns ms : List ℕ) → AllByRecursion Small ms → listed ns ≡ listed ms → ns ≡ ms
listed_same [] [] s e = refl
listed_same [] (m ∷ ms) s e = absurd (dash_alone m ms e)
listed_same (n ∷ ns) [] s e = absurd (dash_alone n ns (sym e))
listed_same (n ∷ ns) (m ∷ ms) s e = commas_same (n ∷ ns) (m ∷ ms) s e

lower_bound : (k : ℕ) (ns : List ℕ) → AllByRecursion (λ n. suc k ≤ n) ns → AllByRecursion (λ n. k ≤ n) ns
lower_bound k [] a = tt
lower_bound k (n ∷ ns) a = (omega (arith, a.0), lower_bound k ns a.1)

places_above : (k : ℕ) (us : List Bool) → AllByRecursion (λ n. k ≤ n) (places_from k us)
places_above k [] = tt
places_above k (true ∷ us) = (omega arith, lower_bound k (places_from (suc k) us) (places_above (suc k) us))
places_above k (false ∷ us) = lower_bound k (places_from (suc k) us) (places_above (suc k) us)

not_above : (k : ℕ) (ns : List ℕ) (ws : List Bool) → k ∷ ns ≡ places_from (suc k) ws → ⊥
not_above k ns ws e = let above = subst (AllByRecursion (λ n. suc k ≤ n)) (sym e) (places_above (suc k) ws) in omega (arith, above.0)

places_same : (k : ℕ) (us ws : List Bool) → places_from k us ≡ places_from k ws → (u : ℕ) → get_or us u false ≡ get_or ws u false
places_same k [] [] e u = refl
places_same k [] (true ∷ ws) e u = absurd (omega (arith, ap length e))
places_same k [] (false ∷ ws) e zero = refl
places_same k [] (false ∷ ws) e (suc u) = places_same (suc k) [] ws e u
places_same k (true ∷ us) [] e u = absurd (omega (arith, ap length e))
places_same k (false ∷ us) [] e zero = refl
places_same k (false ∷ us) [] e (suc u) = places_same (suc k) us [] e u
places_same k (true ∷ us) (true ∷ ws) e zero = refl
places_same k (true ∷ us) (true ∷ ws) e (suc u) = places_same (suc k) us ws (let q : places_from (suc k) us ≡ places_from (suc k) ws = cc in q) u
places_same k (true ∷ us) (false ∷ ws) e u = absurd (not_above k (places_from (suc k) us) ws e)
places_same k (false ∷ us) (true ∷ ws) e u = absurd (not_above k (places_from (suc k) ws) us (sym e))
places_same k (false ∷ us) (false ∷ ws) e zero = refl
places_same k (false ∷ us) (false ∷ ws) e (suc u) = places_same (suc k) us ws e u

-- a set can be told from the list that writes it, where one list is well formed
pub set_same : (us ws : List Bool) (ns : List ℕ) → AllByRecursion Small ns → listed (places ws) ≡ listed ns → listed (places us) ≡ listed (places ws) → (u : ℕ) → get_or us u false ≡ get_or ws u false
set_same us ws ns small is same =
    places_same 0 us ws (listed_same (places us) ns small (same ∙ is) ∙ sym (listed_same (places ws) ns small is))
