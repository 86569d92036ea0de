-- The numbers of a list, gathered one after the other.
use Rattle.std.proofs.Common.{◌≡◌, ℕ, zero, suc, ◌+◌, ◌<◌, ◌≤◌, Bool, true, false, nat_lt, eqb, ◌≢◌, List, [], ◌∷◌, ◌++◌, map, filter, length, get_or, take, drop, set, replicate, decimal, sym, refl, ap, ◌∙◌, subst, inl, inr, add-zero, arith}
use Rattle.std.proofs.ByRecursion.{All-append, All-get_or}
use Rattle.std.proofs.lemmas.List.{append-nil, drop_more, get_or-map, get_or-set_other, length-map, length-set, map-append, set_past, take_all, take_more}
use Rattle.std.proofs.lemmas.List.Elements.{All-from_recursion, filter-append}
use Rattle.std.proofs.lemmas.List.Splits.{join_with_byte-slice_split, length-slice_split, slice_split_at, slice_split_none}
use Rattle.std.proofs.lemmas.Bool.{false≢true, cases_lt, lt-ltb, le-ltb, ne_eqb}
use Rattle.std.specs.List.{All, AllByRecursion, join_with_byte, slice_split}
use Rattle.text.specs.declared.value.Numbers.{Numbers}
use Rattle.text.specs.Split.{Lacks}
use Rattle.text.specs.Value.{Small, Lower, Numeral, Rising, Listed, Gathers, commas, end_of, listed, places, places_from}
use Rattle.text.proofs.Commas.{clear_none, lacks_comma, places_set}
use Rattle.text.proofs.Injective.{listed_same}
use Rattle.text.proofs.Numbers.{numeral_same}

abbrev pub Any : ℕ → Type 0
Any _ = Unit {0}

below_end : (k m : ℕ) (ns : List ℕ) → Rising k (m ∷ ns) → k < end_of (m ∷ ns)
below_end k m [] up = omega (arith, up.0)
below_end k m (o ∷ ns) up = omega (arith, up.0, below_end (suc m) o ns up.1)

all_below_end : (k : ℕ) (ns : List ℕ) → Rising k ns → AllByRecursion (λ n. n < end_of ns) ns
all_below_end k [] up = tt
all_below_end k (m ∷ []) up = (omega arith, tt)
all_below_end k (m ∷ o ∷ ns) up = (omega (arith, below_end (suc m) o ns up.1), all_below_end (suc m) (o ∷ ns) up.1)

rising_push : (k n : ℕ) (ns : List ℕ) → k ≤ n → end_of ns ≤ n → Rising k ns → Rising k (ns ++ n ∷ [])
rising_push k n [] l e up = (l, tt)
rising_push k n (m ∷ []) l e up = (up.0, (e, tt))
rising_push k n (m ∷ o ∷ ns) l e up = (up.0, rising_push (suc m) n (o ∷ ns) (omega (arith, below_end (suc m) o ns up.1)) e up.1)

end_push : (n : ℕ) (ns : List ℕ) → end_of (ns ++ n ∷ []) ≡ suc n
end_push n [] = refl
end_push n (m ∷ []) = refl
end_push n (m ∷ o ∷ ns) = end_push n (o ∷ ns)

end_low : (v : ℕ) (ns : List ℕ) → AllByRecursion (λ n. n < v) ns → end_of ns ≤ v
end_low v [] a = omega arith
end_low v (m ∷ []) a = omega (arith, a.0)
end_low v (m ∷ o ∷ ns) a = end_low v (o ∷ ns) a.1

filter_low : (v : ℕ) (ns : List ℕ) → v ≤ 24 → AllByRecursion (λ n. n < v) ns → filter (λ n. nat_lt n 24) ns ≡ ns
filter_low v [] l a = refl
filter_low v (m ∷ ns) l a = let low = lt-ltb m 24 (omega (arith, a.0)) in rw low (ap (λ ms. m ∷ ms) (filter_low v ns l a.1))

all_weaker : (v w : ℕ) (ns : List ℕ) → v ≤ w → AllByRecursion (λ n. n < v) ns → AllByRecursion (λ n. n < w) ns
all_weaker v w [] l a = tt
all_weaker v w (m ∷ ns) l a = (omega (arith, a.0), all_weaker v w ns l a.1)

place_held : (P : ℕ → Type 0) (k : ℕ) (us : List Bool) → AllByRecursion P (places_from k us) → (u : ℕ) → get_or us u false ≡ true → P (k + u)
place_held P k [] a u e = absurd (false≢true e)
place_held P k (true ∷ us) a zero e = subst P (sym (add-zero k)) a.0
place_held P k (true ∷ us) a (suc u) e = subst P (let z : suc k + u ≡ k + suc u = omega arith in z) (place_held P (suc k) us a.1 u e)
place_held P k (false ∷ us) a zero e = absurd (false≢true e)
place_held P k (false ∷ us) a (suc u) e = subst P (let z : suc k + u ≡ k + suc u = omega arith in z) (place_held P (suc k) us a u e)

-- with one more number
abbrev pub pushed : Numbers → ℕ → Numbers
pushed l n = record { places = set l.places n true; end = n + 1 }

-- what stands between the commas
abbrev pub parts : List ℕ → List (List ℕ)
parts bs = slice_split (λ b. eqb b 44) bs

-- the numbers of the first k parts
pub record Gathered (bs : List ℕ) (k : ℕ) (l : Numbers) : Type 0 where
  pub front : List ℕ
  pub rising : Rising 0 front
  pub small : AllByRecursion Small front
  pub size : length l.places ≡ 24
  pub below : places l.places ≡ filter (λ n. nat_lt n 24) front
  pub end : l.end ≡ end_of front
  pub clear : (u : ℕ) → l.end ≤ u → get_or l.places u false ≡ false
  pub read : take k (parts bs) ≡ map decimal front
  pub lead : (form : Listed Any bs) → Rising l.end (drop k form.numbers)

places_pushed : (bs : List ℕ) (k : ℕ) (l : Numbers) (n : ℕ) (g : Gathered bs k l) → l.end ≤ n → places (set l.places n true) ≡ filter (λ n. nat_lt n 24) (g.front ++ n ∷ [])
places_pushed bs k l n g low =
    let split = filter-append (λ n. nat_lt n 24) g.front (n ∷ []) in
    elim (cases_lt n 24) [
      | inl h ↦
          let yes : filter (λ n. nat_lt n 24) (n ∷ []) ≡ n ∷ [] = let y = lt-ltb n 24 h in rw y refl in
          places_set n l.places (omega (arith, g.size)) (λ u h. g.clear u (omega arith)) ∙ (ap (λ ns. ns ++ n ∷ []) g.below
          ∙ (ap (λ ms. filter (λ n. nat_lt n 24) g.front ++ ms) (sym yes) ∙ sym split))
      | inr h ↦
          let none : filter (λ n. nat_lt n 24) (n ∷ []) ≡ [] = let no' = le-ltb n 24 h in rw no' refl in
          ap places (set_past l.places n true (omega (arith, g.size))) ∙ (g.below
          ∙ (sym (append-nil (filter (λ n. nat_lt n 24) g.front)) ∙ (ap (λ ms. filter (λ n. nat_lt n 24) g.front ++ ms) (sym none) ∙ sym split)))
    ]

pub gathered_none : (bs : List ℕ) → Gathered bs 0 (record { places = replicate 24 false; end = 0 })
gathered_none bs = record { front = []; rising = tt; small = tt; size = refl; below = refl; end = refl; clear = λ u h. clear_none 24 u; read = refl; lead = λ form. form.rising }

pub gathers_none : (bs : List ℕ) → bs ≡ 45 ∷ [] → Gathers (record { places = replicate 24 false; end = 0 }) bs
gathers_none bs e = record { form = record { numbers = []; rising = tt; small = tt; all = tt; written = e }; size = refl; below = refl; end = refl }

-- the parts of a list are its numbers
no_comma : (xs : List ℕ) → Lacks 44 xs → All (λ x. eqb x 44 ≡ false) xs
no_comma xs lack = All-from_recursion (λ x. eqb x 44 ≡ false) xs (go xs lack)
  where
    go : (xs : List ℕ) → Lacks 44 xs → AllByRecursion (λ x. eqb x 44 ≡ false) xs
    go [] lack = tt
    go (x ∷ xs) lack = (ne_eqb x 44 lack.0, go xs lack.1)

parts_commas : (n : ℕ) (ns : List ℕ) → AllByRecursion Small (n ∷ ns) → parts (commas (n ∷ ns)) ≡ map decimal (n ∷ ns)
parts_commas n [] s = slice_split_none (λ b. eqb b 44) (decimal n) (no_comma (decimal n) (lacks_comma n s.0))
parts_commas n (m ∷ ns) s =
    slice_split_at (λ b. eqb b 44) (decimal n) 44 (commas (m ∷ ns)) (no_comma (decimal n) (lacks_comma n s.0)) refl
    ∙ ap (λ ps. decimal n ∷ ps) (parts_commas m ns s.1)

parts_listed : (bs : List ℕ) → bs ≢ 45 ∷ [] → (form : Listed Any bs) → parts bs ≡ map decimal form.numbers
parts_listed bs other form = go form.numbers form.small form.written
  where
    go : (ns : List ℕ) → AllByRecursion Small ns → bs ≡ listed ns → parts bs ≡ map decimal ns
    go [] s e = absurd (other e)
    go (n ∷ ns) s e = ap parts e ∙ parts_commas n ns s

commas_join : (ns : List ℕ) → join_with_byte 44 (map decimal ns) ≡ commas ns
commas_join [] = refl
commas_join (n ∷ []) = refl
commas_join (n ∷ m ∷ ns) = ap (λ xs. decimal n ++ 44 ∷ xs) (commas_join (m ∷ ns))

-- the part p at place k of a list is its number there
module _ (bs : List ℕ) (k : ℕ) (l : Numbers) (p : List ℕ) (other : bs ≢ 45 ∷ []) (at : (k < length (parts bs)) × (p ≡ get_or (parts bs) k p)) (g : Gathered bs k l) where
  inside : (form : Listed Any bs) → k < length form.numbers
  inside form = omega (arith, at.0, ap length (parts_listed bs other form), length-map form.numbers decimal)

  is_number : (form : Listed Any bs) → Numeral (get_or form.numbers k 0) p
  is_number form = record {
    small = All-get_or Small form.numbers k 0 (inside form) form.small;
    written = at.1 ∙ (ap (λ ps. get_or ps k p) (parts_listed bs other form) ∙ get_or-map decimal form.numbers k 0 p (inside form));
  }

  rises_on : (form : Listed Any bs) → (l.end ≤ get_or form.numbers k 0) × Rising (suc (get_or form.numbers k 0)) (drop (k + 1) form.numbers)
  rises_on form = subst (Rising l.end) (drop_more form.numbers k 0 (inside form)) (g.lead form)

  pub no_number : ((n : ℕ) → Numeral n p → ⊥) → Listed Any bs → ⊥
  no_number none form = none (get_or form.numbers k 0) (is_number form)

  pub no_rise : (n : ℕ) → Numeral n p → n < l.end → Listed Any bs → ⊥
  no_rise n is low form = omega (arith, numeral_same n (get_or form.numbers k 0) p is (is_number form), (rises_on form).0)

  pub gathered_more : (n : ℕ) → Numeral n p → l.end ≤ n → Gathered bs (k + 1) (pushed l n)
  gathered_more n is low = record {
    front = g.front ++ n ∷ [];
    rising = rising_push 0 n g.front (omega arith) (omega (arith, g.end)) g.rising;
    small = All-append Small g.front (n ∷ []) g.small (is.small, tt);
    size = length-set l.places n true ∙ g.size;
    below = places_pushed bs k l n g low;
    end = omega (arith, end_push n g.front);
    clear = λ u h. let other : u ≢ n = omega arith in get_or-set_other l.places n u true false other ∙ g.clear u (omega arith);
    read =
        take_more (parts bs) k p at.0 ∙ (ap (λ ps. ps ++ get_or (parts bs) k p ∷ []) g.read
        ∙ (ap (λ q. map decimal g.front ++ q ∷ []) (sym at.1 ∙ is.written) ∙ sym (map-append decimal g.front (n ∷ []))));
    lead = λ form.
        let same = numeral_same n (get_or form.numbers k 0) p is (is_number form) in
        subst (λ m. Rising m (drop (k + 1) form.numbers)) (omega arith) (rises_on form).1;
  }

pub gathered_all : (bs : List ℕ) (k : ℕ) (l : Numbers) → k ≡ length (parts bs) → Gathered bs k l → Gathers l bs
gathered_all bs k l done g = record {
  form = record { numbers = g.front; rising = g.rising; small = g.small; all = any_all g.front; written = whole g.front all };
  size = g.size;
  below = g.below;
  end = g.end;
}
  where
    all : parts bs ≡ map decimal g.front
    all = sym (take_all k (parts bs) (omega arith)) ∙ g.read

    any_all : (ns : List ℕ) → AllByRecursion Any ns
    any_all [] = tt
    any_all (n ∷ ns) = (tt, any_all ns)

    whole : (ns : List ℕ) → parts bs ≡ map decimal ns → bs ≡ listed ns
    whole [] e = absurd (omega (arith, ap length e, length-slice_split (λ b. eqb b 44) bs))
    whole (n ∷ ns) e = sym (join_with_byte-slice_split 44 bs) ∙ (ap (join_with_byte 44) e ∙ commas_join (n ∷ ns))

-- numbers that end at a node or before it are a set of lower nodes
pub gathers_lower : (v : ℕ) (l : Numbers) (bs : List ℕ) → v < 24 → l.end ≤ v → Gathers l bs → (bs ≡ listed (places l.places)) × Lower v l.places
gathers_lower v l bs in' low g =
    let ns = g.form.numbers in
    let all = all_weaker (end_of ns) v ns (omega (arith, g.end)) (all_below_end 0 ns g.form.rising) in
    let same = g.below ∙ filter_low v ns (omega arith) all in (
      g.form.written ∙ ap listed (sym same),
      record {
        size = g.size;
        below = λ u e. let held = place_held (λ n. n < v) 0 l.places (subst (AllByRecursion (λ n. n < v)) (sym same) all) u e in omega (arith, held);
      },
    )

pub gathers_far : (v : ℕ) (l : Numbers) (bs : List ℕ) → v < l.end → Gathers l bs → Listed (λ n. n < v) bs → ⊥
gathers_far v l bs far g low =
    let same = listed_same low.numbers g.form.numbers g.form.small (sym low.written ∙ g.form.written) in
    omega (arith, far, g.end, ap end_of same, end_low v low.numbers low.all)
