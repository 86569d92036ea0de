-- On which engines the parts of a placed job sit.
use Rattle.std.proofs.Common.{◌≡◌, ℕ, zero, suc, ◌+◌, ◌≤◌, Bool, true, false, cond, eqb, List, [], ◌∷◌, map, length, get_or, Option, Some, None, refl, ap, ◌∙◌, subst, inl, inr, ◌⊎◌, arith}
use Rattle.std.specs.Prelude.{slice_get}
use Rattle.std.specs.List.{All, list_any}
use Rattle.std.proofs.lemmas.Bool.{cases_Bool, cases_eq, eqb-true, eq-eqb}
use Rattle.std.proofs.lemmas.Bool.Decides.{nat_tests}
use Rattle.std.proofs.lemmas.List.Elements.{All-head, All-tail}
use Rattle.std.proofs.lemmas.Map.Views.{any-filter_same}
use Rattle.std.proofs.lemmas.Option.{none-some, same_Some}
use Rattle.board.specs.Placing.{FirstFit, FitsOn, IsPlaced, Rules, Sits, tried}
use Rattle.board.specs.Asked.{loads}
use Rattle.engine.specs.Roster.{tag_of}
use Rattle.few.specs.Few.{items}
use Rattle.order.specs.Listing.{EachOnce, times}
use Rattle.plan.specs.declared.plan.Plan.{Plan}
use Rattle.plan.specs.Pattern.{part_pattern}
use Rattle.resident.specs.declared.resident.Resident.{Resident}
use Rattle.resident.specs.declared.resident.Seat.{Seat}
use Rattle.resident.specs.Seats.{all_tags, has_part, parts_of}
use Rattle.task.specs.declared.job.Job.{Job}
use Rattle.worked.specs.Cases.{Complete}

-- what stands in a list, stands in it some times
stands : (e : ℕ) (es : List ℕ) (k : ℕ) → slice_get es k ≡ Some e → 1 ≤ times e es
stands e [] k at = absurd (none-some e at)
stands e (x ∷ es) zero at = let same = same_Some x e at in omega (arith, ap (λ (b : Bool). cond b 1 0 + times e es) (eq-eqb x e same))
stands e (x ∷ es) (suc k) at = let rec = stands e es k at in omega arith

is_tag : (o : Option ℕ) (g : ℕ) → (o ≡ Some g) ⊎ (o ≡ Some g → ⊥)
is_tag None g = inr (λ is. none-some g is)
is_tag (Some t) g = elim (cases_eq t g) [
  | inl same ↦ inl (ap Some same)
  | inr differ ↦ inr (λ is. differ (same_Some t g is))
]

pub has_tag : (tags : List ℕ) (g : ℕ) (es : List ℕ) → EachOnce tags g es → (k e : ℕ) → slice_get es k ≡ Some e → tag_of tags e ≡ Some g
has_tag tags g es each k e at = elim (is_tag (tag_of tags e) g) [
  | inl is ↦ is
  | inr isn't ↦ absurd (omega (arith, stands e es k at, each.never e isn't))
]

-- one of these seats is for the tag
seat_for : (P : Seat → Type 0) (ss : List Seat) (g : ℕ) → All P ss → list_any (λ h. eqb h g) (map (λ (s : Seat). s.tag) ss) ≡ true → (s : Seat) × (s.tag ≡ g) × P s
seat_for P [] g all any = absurd (let z : ◌≡◌ {A = Bool} false true = any in cc)
seat_for P (s ∷ ss) g all any = elim (cases_Bool (eqb s.tag g)) [
  | inl yes' ↦ (s, eqb-true s.tag g yes', All-head P s ss all)
  | inr no' ↦ seat_for P ss g (All-tail P s ss all) (rw no' at any)
]

is_a_tag : (g : ℕ) → g ≤ 7 → list_any (λ h. eqb h g) all_tags ≡ true
is_a_tag g few = grind (arith, nat_tests)

part_among : (p : Plan) (g : ℕ) → g ≤ 7 → has_part p g ≡ true → list_any (λ h. eqb h g) (parts_of p) ≡ true
part_among p g few has =
    let test : ℕ → Bool = λ h. eqb h g in
    any-filter_same test (has_part p) true (λ h is. ap (has_part p) (eqb-true h g is) ∙ has) all_tags ∙ is_a_tag g few

-- each part of a placed job fits on an engine of its tag
pub part_sits : (rules : Rules) → Complete rules.listing → (rs : List Resident) (j : Job) (c : ℕ) (r : Resident) → IsPlaced rules rs j c r
    → (g : ℕ) → g ≤ 7 → has_part r.plan g ≡ true → (e : ℕ) × (tag_of rules.tags e ≡ Some g) × FitsOn rules.supply rs e (part_pattern r.plan g)
part_sits rules complete rs j c r placed g few has =
    let (s, tag, sits) = seat_for (Sits rules rs r.plan) (items r.seats) g placed.sits (ap (list_any (λ h. eqb h g)) r.parts ∙ part_among r.plan g few has) in
    let first : FirstFit rules rs (part_pattern r.plan g) (tried rules rs g) s.engine
    = subst (λ (x : ℕ). FirstFit rules rs (part_pattern r.plan x) (tried rules rs x) s.engine) tag sits in
    (s.engine, has_tag rules.tags g (tried rules rs g) (complete [] rules.tags g (loads rs)) first.place s.engine first.there, first.fits)

-- a job of one part has one seat, on an engine of its tag
pub one_seat : (ss : List Seat) (g : ℕ) → map (λ (s : Seat). s.tag) ss ≡ g ∷ [] → (s : Seat) × (ss ≡ s ∷ []) × (s.tag ≡ g)
one_seat [] g are = absurd (omega (arith, ap length are))
one_seat (s ∷ []) g are = (s, refl, ap (λ (l : List ℕ). get_or l 0 0) are)
one_seat (s ∷ t ∷ ss) g are = absurd (omega (arith, ap length are))

pub seat_where : (rules : Rules) → Complete rules.listing → (rs : List Resident) (p : Plan) (s : Seat) → Sits rules rs p s → tag_of rules.tags s.engine ≡ Some s.tag
seat_where rules complete rs p s sits =
    has_tag rules.tags s.tag (tried rules rs s.tag) (complete [] rules.tags s.tag (loads rs)) sits.place s.engine sits.there
