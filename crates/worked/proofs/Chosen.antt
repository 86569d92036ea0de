-- The job with an alternative: its first choice fits nowhere, and its second has the sheet that is computed.
use Rattle.std.proofs.Common.{◌≡◌, ℕ, zero, suc, ◌<◌, Bool, true, false, cond, eqb, List, [], ◌∷◌, ◌++◌, flat_map, filter, refl, ap, ◌∙◌, subst, inl, inr, arith}
use Rattle.std.proofs.Math.Path.{fun_ext}
use Rattle.std.specs.Prelude.{Some, None, unwrap_or}
use Rattle.std.proofs.lemmas.Bool.{cases_eq}
use Rattle.std.proofs.lemmas.Option.{none-some, same_Some}
use Rattle.board.specs.Loading.{IsLoaded}
use Rattle.board.specs.Placing.{FitsOn}
use Rattle.computed.specs.Asked.{tasks}
use Rattle.computed.specs.Tables.{each, falling, rising, some_below}
use Rattle.cyclic.specs.Fewest.{fewest}
use Rattle.cyclic.specs.FewestLaws.{fewest_joins}
use Rattle.engine.specs.Roster.{tag_of}
use Rattle.few.specs.Few.{items}
use Rattle.fit.specs.Fits.{Fits}
use Rattle.plan.specs.declared.part.Task.{Task}
use Rattle.plan.specs.Part.{tasks_where}
use Rattle.plan.specs.Pattern.{part_pattern}
use Rattle.plan.specs.Plan.{nodes_of}
use Rattle.plan.proofs.Formed.{part_formed}
use Rattle.resident.specs.declared.resident.Resident.{Resident}
use Rattle.resident.specs.declared.resident.Seat.{Seat}
use Rattle.resident.specs.Resident.{engine_among}
use Rattle.resident.specs.Seats.{all_tags}
use Rattle.sheet.specs.Lines.{node_line, title}
use Rattle.sheet.specs.Sheet.{line_of, sheet_of, tag_of as tag_at_node}
use Rattle.slack.specs.declared.rule.Position.{Position}
use Rattle.task.specs.Graph.{at}
use Rattle.task.specs.Node.{is_sub_task}
use Rattle.theory.specs.Pattern.{Pattern, WellFormed}
use Rattle.window.specs.Greatest.{greatest}
use Rattle.worked.specs.Cases.{after, Complete, AllPlaced, Order, served_by, two_sorts, way, Writes}
use Rattle.worked.proofs.Fitting.{climbs, quickly, unfit_by}
use Rattle.worked.proofs.Known.{asks, is_part, plan_asks, plan_has, plan_tasks, span_of}
use Rattle.worked.proofs.Loading.{numbers_told, told}
use Rattle.worked.proofs.Parts.{choices_way, first_way, only_way, parts_way, pattern_of, window}
use Rattle.worked.proofs.Single.{placed_single, seated}
use Rattle.worked.proofs.Sitting.{part_sits}

abbrev pub slow : List Bool
slow = true ∷ false ∷ []

abbrev pub node_task : ℕ → ℕ → ℕ → ℕ → Task
node_task v o l w = record { node = v; window = record { offset = o; deadline = l }; ticks = w }

-- what the part of tag 1 asks under the first choice, where its sub-task has this window
abbrev pub first_asks : ℕ → ℕ → Pattern
first_asks o l = pattern_of 1200 1000 ((window o l 300 ∷ []) ∷ [])

-- what the part of tag 0 asks under the second, where the longest sub-task has this one
abbrev pub second_asks : ℕ → ℕ → Pattern
second_asks o l = pattern_of 1200 1000 ((window 0 o 200 ∷ window o l 600 ∷ window l 1000 100 ∷ []) ∷ [])

span_way : span_of way 1 ≡ 900
unfolding after way each rising falling some_below greatest
span_way = refl

engine_0 : (e : ℕ) → tag_of (0 ∷ 1 ∷ []) e ≡ Some 0 → e ≡ 0
engine_0 zero at = refl
engine_0 (suc zero) at = absurd (omega (arith, same_Some 1 0 at))
engine_0 (suc (suc e)) at = absurd (none-some 0 at)

engine_1 : (e : ℕ) → tag_of (0 ∷ 1 ∷ []) e ≡ Some 1 → e ≡ 1
engine_1 zero at = absurd (omega (arith, same_Some 0 1 at))
engine_1 (suc zero) at = refl
engine_1 (suc (suc e)) at = absurd (none-some 1 at)

-- where the one seat is on engine 0, each part sits there
at_0 : (ss : List Seat) (s : Seat) (g : ℕ) → ss ≡ s ∷ [] → s.engine ≡ 0 → unwrap_or (engine_among ss g) 0 ≡ 0
at_0 ss s g alone there = ap (λ (l : List Seat). unwrap_or (engine_among l g) 0) alone ∙ one (eqb s.tag g) where
  one : (b : Bool) → unwrap_or (cond b (Some s.engine) None) 0 ≡ 0
  one true = there
  one false = refl

module _ (local : Position → ℕ) (a b : ℕ) where
  -- the second choice fits, where what it asks is served wherever it rises
  pub second_placed : asks local 1200 1000 way 1 0 ≡ second_asks a b → (bs : List ℕ) → climbs (second_asks a b ∷ []) (fewest (true ∷ [])) 0 2401 bs ≡ true
      → AllPlaced (two_sorts local) 1200 1000 way
  second_placed second bs climb order complete text n writes =
      placed_single (two_sorts local order) text n 1200 1000 way writes 1 (omega (arith, choices_way)) (omega (arith, span_way)) (only_way local 1000) refl
      (second_asks a b) second (omega arith) refl (fewest_joins (true ∷ []) (omega arith)) bs climb

  -- the first does not, where m ticks serve less than it asks
  module _ (o l m : ℕ)
      (first : asks local 1200 1000 way 0 1 ≡ first_asks o l)
      (short : fewest slow m < quickly (first_asks o l ∷ []) m)
      (its_tasks : tasks local way 1000 1 is_sub_task ≡ node_task 0 0 a 200 ∷ node_task 3 a b 600 ∷ node_task 4 b 1000 100 ∷ [])
      (order : Order) (complete : Complete order) (text : List ℕ) (n : ℕ) (writes : Writes text n 1200 1000 way) where
    module _ (r : Resident) (loaded : IsLoaded (two_sorts local order) [] text r) where
      not_first : r.plan.choice ≡ 0 → ⊥
      not_first is_0 =
          let j = r.plan.job in
          let is = told (two_sorts local order) [] text n 1200 1000 way writes j loaded.comes.reads in
          let placed = loaded.places.placed in
          let has = plan_has n 1200 1000 way j is local r.plan.choice r.plan placed.planned 1 ∙ ap (λ c. is_part local 1000 way c 1) is_0 ∙ first_way local 1000 in
          let same = plan_asks n 1200 1000 way j is local r.plan.choice r.plan placed.planned 1 ∙ ap (λ c. asks local 1200 1000 way c 1) is_0 ∙ first in
          let formed = subst WellFormed same (part_formed r.plan 1) in
          let (e, there, fits) = part_sits (two_sorts local order) complete [] j r.plan.choice r placed 1 (omega arith) has in
          let on_1 : FitsOn (served_by ((true ∷ []) ∷ slow ∷ [])) [] 1 (part_pattern r.plan 1)
          = subst (λ (x : ℕ). FitsOn (served_by ((true ∷ []) ∷ slow ∷ [])) [] x (part_pattern r.plan 1)) (engine_1 e there) fits in
          unfit_by (fewest slow) (first_asks o l ∷ []) (formed, tt) m short
          (subst (λ (q : Pattern). Fits (fewest slow) (q ∷ [])) same on_1)

      its_choice : r.plan.choice ≡ 1
      its_choice =
          let low = loaded.places.is_choice in
          elim (cases_eq r.plan.choice 0) [
            | inl is_0 ↦ absurd (not_first is_0)
            | inr isn't ↦ omega (arith, choices_way, numbers_told (two_sorts local order) [] text n 1200 1000 way writes r.plan.job loaded.comes.reads)
          ]

      pub its_sheet : sheet_of r ≡ title n 1 ++ (node_line 0 0 0 a ++ (node_line 3 0 a b ++ (node_line 4 0 b 1000 ++ [])))
      its_sheet =
          let j = r.plan.job in
          let is = told (two_sorts local order) [] text n 1200 1000 way writes j loaded.comes.reads in
          let sits = seated (two_sorts local order) text n 1200 1000 way writes complete r loaded (ap (λ c. filter (is_part local 1000 way c) all_tags) its_choice ∙ parts_way local 1000) in
          let on_0 = engine_0 sits.seat.engine sits.there in
          let lines : line_of r ≡ (λ (t : Task). node_line t.node 0 t.window.offset t.window.deadline) =
          fun_ext (λ (t : Task). ap (λ e. node_line t.node e t.window.offset t.window.deadline) (at_0 (items r.seats) sits.seat (tag_at_node (at (nodes_of r.plan) t.node)) sits.alone on_0)) in
          let they_are = plan_tasks n 1200 1000 way j is local r.plan.choice r.plan loaded.places.placed.planned is_sub_task ∙ ap (λ c. tasks local way 1000 c is_sub_task) its_choice ∙ its_tasks in
          ap (λ k. title k r.plan.choice ++ flat_map (line_of r) (tasks_where r.plan is_sub_task)) is.its_number
          ∙ ap (λ c. title n c ++ flat_map (line_of r) (tasks_where r.plan is_sub_task)) its_choice
          ∙ ap (λ (f : Task → List ℕ). title n 1 ++ flat_map f (tasks_where r.plan is_sub_task)) lines
          ∙ ap (λ (ts : List Task). title n 1 ++ flat_map (λ (t : Task). node_line t.node 0 t.window.offset t.window.deadline) ts) they_are
          ∙ refl
