-- What loading says of the residents of a board, it says of others that ask the same and have the same numbers.
use Rattle.std.proofs.Common.{◌≡◌, ℕ, List, [], ◌∷◌, map, length, sym, ap, ◌∙◌, subst, arith}
use Rattle.std.specs.Prelude.{sum_by}
use Rattle.std.specs.List.{All, range_with_len}
use Rattle.std.proofs.Math.Path.{fun_ext}
use Rattle.std.proofs.lemmas.List.{length-map}
use Rattle.std.proofs.lemmas.List.Elements.{All-cons, All-head, All-nil, All-tail}
use Rattle.board.specs.declared.refusal.Refusal.{Refusal}
use Rattle.board.specs.declared.refusal.Refusal.TheVariants.{Fault, NumberTaken, BoardFull, NoChoice, NoPlacement, NotResident, NoBranch, TooSoon, NoEngine, LastClock, ShortBuffer}
use Rattle.board.specs.Asked.{asked_on, load_of, loads}
use Rattle.board.specs.Loading.{Comes, Free, IsLoaded, LoadRefused}
use Rattle.board.specs.Placing.{CannotBePlaced, FirstFit, FitsOn, IsPlaced, Places, Rules, Sits, Stuck, tried}
use Rattle.few.specs.Few.{items}
use Rattle.fit.specs.Fits.{Fits}
use Rattle.plan.specs.declared.plan.Plan.{Plan}
use Rattle.plan.specs.Pattern.{part_pattern}
use Rattle.resident.specs.declared.resident.Resident.{Resident}
use Rattle.resident.specs.declared.resident.Seat.{Seat}
use Rattle.resident.specs.Resident.{number_of}
use Rattle.task.specs.declared.job.Job.{Job}
use Rattle.theory.specs.Pattern.{Pattern}

pub record AskSame (rs qs : List Resident) : Type 0 where
  pub asked : (e : ℕ) → asked_on rs e ≡ asked_on qs e
  pub numbers : map number_of rs ≡ map number_of qs

pub turned : (rs qs : List Resident) → AskSame rs qs → AskSame qs rs
turned rs qs same = record { asked = λ e. sym (same.asked e); numbers = sym same.numbers }

free_moves : (n : ℕ) (rs qs : List Resident) → map number_of rs ≡ map number_of qs → Free rs n → Free qs n
free_moves n rs [] same free = All-nil (λ r. number_of r ≡ n → ⊥)
free_moves n [] (q ∷ qs) same free = absurd (omega (arith, ap length same))
free_moves n (r ∷ rs) (q ∷ qs) same free =
    let here : number_of r ≡ number_of q = cc in
    let rest : map number_of rs ≡ map number_of qs = cc in
    All-cons (λ x. number_of x ≡ n → ⊥) q qs (λ is. All-head (λ x. number_of x ≡ n → ⊥) r rs free (here ∙ is)) (free_moves n rs qs rest (All-tail (λ x. number_of x ≡ n → ⊥) r rs free))

all_sits : (P Q : Seat → Type 0) → ((s : Seat) → P s → Q s) → (ss : List Seat) → All P ss → All Q ss
all_sits P Q one [] all = All-nil Q
all_sits P Q one (s ∷ ss) all = All-cons Q s ss (one s (All-head P s ss all)) (all_sits P Q one ss (All-tail P s ss all))

module _ (rules : Rules) (rs qs : List Resident) (same : AskSame rs qs) where
  many : length rs ≡ length qs
  many = omega (arith, ap length same.numbers, length-map rs number_of, length-map qs number_of)

  loads_same : loads rs ≡ loads qs
  loads_same = ap (λ (f : ℕ → List Pattern). map (λ e. sum_by load_of (f e)) (range_with_len 0 16)) (fun_ext same.asked)

  tried_same : (g : ℕ) → tried rules rs g ≡ tried rules qs g
  tried_same g = ap (rules.listing [] rules.tags g) loads_same

  fits_moves : (e : ℕ) (p : Pattern) → FitsOn rules.supply rs e p → FitsOn rules.supply qs e p
  fits_moves e p fits = subst (λ (ps : List Pattern). Fits (rules.supply e) (p ∷ ps)) (same.asked e) fits

  fits_back : (e : ℕ) (p : Pattern) → FitsOn rules.supply qs e p → FitsOn rules.supply rs e p
  fits_back e p fits = subst (λ (ps : List Pattern). Fits (rules.supply e) (p ∷ ps)) (sym (same.asked e)) fits

  first_moves : (p : Pattern) (es : List ℕ) (e : ℕ) → FirstFit rules rs p es e → FirstFit rules qs p es e
  first_moves p es e f = record { place = f.place; there = f.there; fits = fits_moves e p f.fits; none_before = λ k d low at fits. f.none_before k d low at (fits_back d p fits) }

  sits_moves : (p : Plan) (s : Seat) → Sits rules rs p s → Sits rules qs p s
  sits_moves p s sits = subst (λ (es : List ℕ). FirstFit rules qs (part_pattern p s.tag) es s.engine) (tried_same s.tag) (first_moves (part_pattern p s.tag) (tried rules rs s.tag) s.engine sits)

  placed_moves : (j : Job) (c : ℕ) (r : Resident) → IsPlaced rules rs j c r → IsPlaced rules qs j c r
  placed_moves j c r is = record { planned = is.planned; sits = all_sits (Sits rules rs r.plan) (Sits rules qs r.plan) (sits_moves r.plan) (items r.seats) is.sits }

  stuck_moves : (j : Job) (c : ℕ) → Stuck rules rs j c → Stuck rules qs j c
  stuck_moves j c is = record { plan = is.plan; planned = is.planned; tag = is.tag; has = is.has; nowhere = λ e tag fits. is.nowhere e tag (fits_back e (part_pattern is.plan is.tag) fits) }

  cannot_moves : (j : Job) (c : ℕ) → CannotBePlaced rules rs j c → CannotBePlaced rules qs j c
  cannot_moves j c cannot = λ possible. stuck_moves j c (cannot possible)

  places_moves : (j : Job) (r : Resident) → Places rules rs j r → Places rules qs j r
  places_moves j r is = record { is_choice = is.is_choice; possible = is.possible; placed = placed_moves j r.plan.choice r is.placed; none_before = λ c low. cannot_moves j c (is.none_before c low) }

  comes_moves : (text : List ℕ) (j : Job) → Comes text rs j → Comes text qs j
  comes_moves text j comes = record { reads = comes.reads; free = free_moves j.number rs qs same.numbers comes.free; room = let room = comes.room in omega (arith, many) }

  pub loaded_moves : (text : List ℕ) (r : Resident) → IsLoaded rules rs text r → IsLoaded rules qs text r
  loaded_moves text r is = record { comes = comes_moves text r.plan.job is.comes; places = places_moves r.plan.job r is.places }

module _ (rules : Rules) (rs qs : List Resident) (same : AskSame rs qs) (text : List ℕ) where
  pub refused_moves : (f : Refusal) → LoadRefused rules rs text f → LoadRefused rules qs text f
  refused_moves (Fault f) refused = refused
  refused_moves NumberTaken (j, reads, taken) = (j, reads, (λ free. taken (free_moves j.number qs rs (sym same.numbers) free)))
  refused_moves BoardFull (j, reads, free, full) = (j, reads, free_moves j.number rs qs same.numbers free, omega (arith, many rules rs qs same))
  refused_moves NoChoice (j, comes, none) = (j, comes_moves rules rs qs same text j comes, none)
  refused_moves NoPlacement (j, comes, some, none) = (j, comes_moves rules rs qs same text j comes, some, (λ c low. cannot_moves rules rs qs same j c (none c low)))
  refused_moves NotResident refused = refused
  refused_moves ShortBuffer refused = refused
  refused_moves NoBranch refused = refused
  refused_moves TooSoon refused = refused
  refused_moves NoEngine refused = refused
  refused_moves LastClock refused = refused
