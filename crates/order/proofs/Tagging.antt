-- Going through the engines of a tag.
use Rattle.std.proofs.Common.{◌≡◌, ℕ, suc, ◌+◌, ◌<◌, Bool, cond, eqb, filter, List, [], ◌∷◌, ◌++◌, length, map, get_or, drop, true, false, Option, Some, sym, refl, ap, ◌∙◌, add-one, arith}
use Rattle.std.specs.List.{range_with_len}
use Rattle.std.specs.Option.{option_eq}
use Rattle.engine.specs.Roster.{tag_of}
use Rattle.order.specs.Listing.{engines_from, engines_of}
use Rattle.std.proofs.lemmas.List.{append_assoc, drop_more}
use Rattle.std.proofs.lemmas.Bool.{eq-eqb, ne_eqb}
use Rattle.std.proofs.lemmas.Option.{same_Some, slice_get-get_or}

module _ (tags : List ℕ) (tag i : ℕ) (within : i < length tags) where
  from_is : engines_from i (drop i tags) tag ≡ cond (eqb (get_or tags i 0) tag) (i ∷ engines_from (i + 1) (drop (i + 1) tags) tag) (engines_from (i + 1) (drop (i + 1) tags) tag)
  from_is = ap (λ ts. engines_from i ts tag) (drop_more tags i 0 within) ∙ rw add-one refl

  from_other : (tag_of tags i ≡ Some tag → ⊥) → engines_from i (drop i tags) tag ≡ engines_from (i + 1) (drop (i + 1) tags) tag
  from_other isn't = let other : eqb (get_or tags i 0) tag ≡ false = ne_eqb (get_or tags i 0) tag (λ is. isn't (slice_get-get_or tags i 0 within ∙ ap Some is)) in from_is ∙ rw other refl

  from_tagged : tag_of tags i ≡ Some tag → engines_from i (drop i tags) tag ≡ i ∷ engines_from (i + 1) (drop (i + 1) tags) tag
  from_tagged is = let same : eqb (get_or tags i 0) tag ≡ true = eq-eqb (get_or tags i 0) tag (same_Some _ _ (sym (slice_get-get_or tags i 0 within) ∙ is)) in from_is ∙ rw same refl

-- the engines below i that have the tag, with those that are left, are all that have it
abbrev pub Gathers : List ℕ → ℕ → ℕ → List ℕ → Type 0
Gathers tags tag i found = found ++ engines_from i (drop i tags) tag ≡ engines_of tags tag

pub gathers_more : (tags : List ℕ) (tag i : ℕ) (found : List ℕ) → i < length tags → tag_of tags i ≡ Some tag → Gathers tags tag i found → Gathers tags tag (i + 1) (found ++ i ∷ [])
gathers_more tags tag i found within is was = append_assoc found (i ∷ []) (engines_from (i + 1) (drop (i + 1) tags) tag) ∙ (ap (λ l. found ++ l) (sym (from_tagged tags tag i within is)) ∙ was)

pub gathers_other : (tags : List ℕ) (tag i : ℕ) (found : List ℕ) → i < length tags → (tag_of tags i ≡ Some tag → ⊥) → Gathers tags tag i found → Gathers tags tag (i + 1) found
gathers_other tags tag i found within isn't was = ap (λ l. found ++ l) (sym (from_other tags tag i within isn't)) ∙ was

-- the same of what is made of each
module _ {X : Type 0} (f : ℕ → X) where
  abbrev pub GathersAs : List ℕ → ℕ → ℕ → List X → Type 0
  GathersAs tags tag i found = found ++ map f (engines_from i (drop i tags) tag) ≡ map f (engines_of tags tag)

  pub gathers_as_more : (tags : List ℕ) (tag i : ℕ) (found : List X) → i < length tags → tag_of tags i ≡ Some tag → GathersAs tags tag i found → GathersAs tags tag (i + 1) (found ++ f i ∷ [])
  gathers_as_more tags tag i found within is was = append_assoc found (f i ∷ []) (map f (engines_from (i + 1) (drop (i + 1) tags) tag)) ∙ (ap (λ l. found ++ map f l) (sym (from_tagged tags tag i within is)) ∙ was)

  pub gathers_as_other : (tags : List ℕ) (tag i : ℕ) (found : List X) → i < length tags → (tag_of tags i ≡ Some tag → ⊥) → GathersAs tags tag i found → GathersAs tags tag (i + 1) found
  gathers_as_other tags tag i found within isn't was = ap (λ l. found ++ map f l) (sym (from_other tags tag i within isn't)) ∙ was

-- the test of a tag says yes to that tag
pub told_same : (told : Option ℕ) (tag : ℕ) → told ≡ Some tag → option_eq eqb told (Some tag) ≡ true
told_same told tag is = rw is (eq-eqb tag tag refl)

kept_from : (test : ℕ → Bool) (i : ℕ) (ts : List ℕ) (tag : ℕ) → ((k : ℕ) → k < length ts → test (i + k) ≡ eqb (get_or ts k 0) tag) → filter test (range_with_len i (length ts)) ≡ engines_from i ts tag
kept_from test i [] tag same = refl
kept_from test i (t ∷ ts) tag same =
    let first : i + 0 ≡ i = omega arith in
    let next : i + 1 ≡ suc i = omega arith in
    let here : test i ≡ eqb t tag = sym (ap test first) ∙ same 0 (omega arith) in
    let rest : filter test (range_with_len (i + 1) (length ts)) ≡ engines_from (suc i) ts tag =
    kept_from test (i + 1) ts tag (λ k low. let later : i + 1 + k ≡ i + suc k = omega arith in ap test later ∙ same (suc k) (omega arith)) ∙ ap (λ n. engines_from n ts tag) next in
    ap (λ b. cond b (i ∷ filter test (range_with_len (i + 1) (length ts))) (filter test (range_with_len (i + 1) (length ts)))) here ∙ ap (λ l. cond (eqb t tag) (i ∷ l) l) rest

-- those of all engines that the test of a tag keeps
pub kept_engines : (tags : List ℕ) (tag : ℕ) → filter (λ e. option_eq eqb (tag_of tags e) (Some tag)) (range_with_len 0 (length tags)) ≡ engines_of tags tag
kept_engines tags tag =
    kept_from (λ e. option_eq eqb (tag_of tags e) (Some tag)) 0 tags tag (λ k low. let same : 0 + k ≡ k = omega arith in ap (λ e. option_eq eqb (tag_of tags e) (Some tag)) same ∙ ap (λ o. option_eq eqb o (Some tag)) (slice_get-get_or tags k 0 low))
