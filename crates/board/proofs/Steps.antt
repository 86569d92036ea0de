-- The steps of placing a job.
use Rattle.std.proofs.Common.{◌≡◌, ℕ, ◌+◌, ◌<◌, ◌≤◌, Bool, true, cond, List, [], ◌∷◌, ◌++◌, map, filter, length, take, get_or, Some, None, Result, Ok, Err, refl, sym, ap, subst, ◌∙◌, arith, inl, inr}
use Rattle.std.specs.Prelude.{slice_get, IfErr, IfOk}
use Rattle.std.specs.Result.{IsErrAnd}
use Rattle.board.specs.declared.refusal.Refusal.{Refusal}
use Rattle.std.specs.List.{All}
use Rattle.std.proofs.lemmas.Bool.{cases_eq, cases_lt}
use Rattle.std.proofs.lemmas.List.{append-nil, append_assoc, length-take, map-append, take_more}
use Rattle.std.proofs.lemmas.List.Elements.{All-append, All-cons, All-nil, filter_more}
use Rattle.std.proofs.lemmas.List.FromFn.{get_or-range_with_len}
use Rattle.std.proofs.lemmas.Option.{none-some, same_Some, slice_get-get_or, slice_get_past}
use Rattle.board.specs.Placing.{FitsOn, Rules}
use Rattle.board.proofs.Asking.{kept_few}
use Rattle.board.proofs.Listed.{few_listed, stands}
use Rattle.engine.specs.Roster.{Rostered, tag_of}
use Rattle.order.specs.Listing.{EachOnce}
use Rattle.plan.specs.declared.plan.Plan.{Plan}
use Rattle.plan.specs.declared.part.Task.{Task}
use Rattle.plan.specs.Part.{part_of}
use Rattle.resident.specs.declared.resident.Resident.{Resident}
use Rattle.resident.specs.declared.resident.Seat.{Seat}
use Rattle.resident.specs.Seats.{all_tags, has_part, some_task}
use Rattle.theory.specs.Pattern.{Pattern}

-- on none of the engines before a place does p fit
abbrev pub NoneBefore : Rules → List Resident → Pattern → List ℕ → ℕ → Type 0
NoneBefore rules rs p es place = (k d : ℕ) → k < place → slice_get es k ≡ Some d → FitsOn rules.supply rs d p → ⊥

pub next_below : (P : ℕ → Type 0) (n : ℕ) → ((c : ℕ) → c < n → P c) → P n → (c : ℕ) → c < n + 1 → P c
next_below P n before here c low = elim (cases_eq c n) [
  | inl is ↦ subst P (sym is) here
  | inr isn't ↦ before c (omega arith)
]

pub some_is : (ts : List Task) → 1 ≤ length ts → some_task ts ≡ true
some_is [] some = absurd (omega arith)
some_is (t ∷ ts) some = refl

pub all_push : {X : Type 0} (P : X → Type 0) (xs : List X) (x : X) → All P xs → P x → All P (xs ++ x ∷ [])
all_push P xs x all one = All-append P xs (x ∷ []) all (All-cons P x [] one (All-nil P))

module _ (p : Plan) (g : ℕ) (low : g < 8) where
  tags_more : filter (λ t. has_part p t) (take (g + 1) all_tags) ≡ filter (λ t. has_part p t) (take g all_tags) ++ cond (has_part p g) (g ∷ []) []
  tags_more =
      let at : get_or all_tags g 0 ≡ g = get_or-range_with_len 0 8 g 0 low ∙ (let z : 0 + g ≡ g = omega arith in z) in
      filter_more (λ t. has_part p t) all_tags g 0 low ∙ ap (λ (t : ℕ). filter (λ t. has_part p t) (take g all_tags) ++ cond (has_part p t) (t ∷ []) []) at

  pub tag_skip : part_of p g ≡ [] → filter (λ t. has_part p t) (take (g + 1) all_tags) ≡ filter (λ t. has_part p t) (take g all_tags)
  tag_skip none =
      tags_more
      ∙ ap (λ (ts : List Task). filter (λ t. has_part p t) (take g all_tags) ++ cond (some_task ts) (g ∷ []) []) none
      ∙ append-nil (filter (λ t. has_part p t) (take g all_tags))

  pub tag_put : has_part p g ≡ true → filter (λ t. has_part p t) (take (g + 1) all_tags) ≡ filter (λ t. has_part p t) (take g all_tags) ++ g ∷ []
  tag_put some = tags_more ∙ ap (λ (b : Bool). filter (λ t. has_part p t) (take g all_tags) ++ cond b (g ∷ []) []) some

  pub seats_room : (ss : List Seat) → map (λ (s : Seat). s.tag) ss ≡ filter (λ t. has_part p t) (take g all_tags) → length ss < 8
  seats_room ss are = omega (arith, sym (length_map_tags ss), ap length are, kept_few (λ t. has_part p t) (take g all_tags), length-take g all_tags) where
    length_map_tags : (xs : List Seat) → length (map (λ (s : Seat). s.tag) xs) ≡ length xs
    length_map_tags [] = refl
    length_map_tags (x ∷ xs) = let rec = length_map_tags xs in omega arith

module _ (rules : Rules) (rs : List Resident) (p : Pattern) (es : List ℕ) (place : ℕ) (before : NoneBefore rules rs p es place) where
  pub none_next : (e : ℕ) → slice_get es place ≡ Some e → (FitsOn rules.supply rs e p → ⊥) → NoneBefore rules rs p es (place + 1)
  none_next e here not' k d low at fits = elim (cases_eq k place) [
    | inl is ↦
        let same : Some e ≡ Some d = sym here ∙ ap (slice_get es) (sym is) ∙ at in
        not' (subst (λ (x : ℕ). FitsOn rules.supply rs x p) (sym (same_Some e d same)) fits)
    | inr isn't ↦ before k d (omega arith) at fits
  ]

  -- all engines of the tag were tried
  pub all_tried : (g : ℕ) → EachOnce rules.tags g es → length es ≤ place → (e : ℕ) → tag_of rules.tags e ≡ Some g → FitsOn rules.supply rs e p → ⊥
  all_tried g each few e is fits =
      let (k, at) = stands e es (omega (arith, each.once e is)) in
      elim (cases_lt k place) [
        | inl low ↦ before k e low at fits
        | inr high ↦ none-some e (sym (slice_get_past es k (omega arith)) ∙ at)
      ]

ends_here : (es : List ℕ) (place : ℕ) → slice_get es place ≡ None → length es ≤ place
ends_here es place none = elim (cases_lt place (length es)) [
  | inl low ↦ absurd (none-some (get_or es place 0) (sym none ∙ slice_get-get_or es place 0 low))
  | inr high ↦ high
]

-- one telling more
pub told_more : {X A : Type 0} (f : X → A) (xs : List X) (i : ℕ) (x : X) (ts : List A) → i < length xs → x ≡ get_or xs i x → map f (take (i + 1) xs) ++ ts ≡ map f (take i xs) ++ f x ∷ ts
told_more f xs i x ts low is =
    ap (λ l. map f l ++ ts) (take_more xs i x low)
    ∙ ap (λ l. l ++ ts) (map-append f (take i xs) (get_or xs i x ∷ []))
    ∙ append_assoc (map f (take i xs)) (f (get_or xs i x) ∷ []) ts
    ∙ ap (λ y. map f (take i xs) ++ f y ∷ ts) (sym is)

-- a refusal that is handed on
pub handed : {T : Type 0} (r : Result T Refusal) (f : Refusal) (Q : Refusal → Type 0) → IsErrAnd r (λ x. x ≡ f) → Q f → IfErr r Q
handed (Ok t) f Q no' is = tt
handed (Err x) f Q same is = subst Q (sym same) is

-- what is said of an answer that is no error
pub each_ok : {T E : Type 0} (P Q : T → Type 0) (r : Result T E) → ((x : T) → P x → Q x) → IfOk r P → IfOk r Q
each_ok P Q (Ok x) each one = each x one
each_ok P Q (Err e) each one = tt

-- where the list ends at a place, or has no more than 16 places, all engines of the tag were tried
module _ (rules : Rules) (rs : List Resident) (p : Pattern) (g : ℕ) (es : List ℕ) (each : EachOnce rules.tags g es) (place : ℕ) (before : NoneBefore rules rs p es place) where
  -- p fits on no engine of the tag
  abbrev Nowhere : Type 0
  Nowhere = (e : ℕ) → tag_of rules.tags e ≡ Some g → FitsOn rules.supply rs e p → ⊥

  pub ended_nowhere : slice_get es place ≡ None → Nowhere
  ended_nowhere none = all_tried rules rs p es place before g each (ends_here es place none)

  pub past_nowhere : Rostered rules.tags → 16 ≤ place → Nowhere
  past_nowhere rostered past = all_tried rules rs p es place before g each (let few = few_listed rules.tags g es rostered each in omega arith)
