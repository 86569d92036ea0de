-- Worked cases of loading: which jobs are placed, which are refused and by which question, and what the sheet of one says.
--   Order                          an order of engines: after tellings, for the tags of all engines, a tag and the loads
--   Complete order                 it has every engine of the tag once, and nothing else
--   whole count order              the rules on so many engines of tag 0 that serve every tick
--   served_by marks e n            the supply of the engine e in n ticks, by the marks of all engines
--   marked tags marks local order  the rules on engines with these tags and marks
--   half order                     on one engine of tag 0 that serves every other tick
--   two_sorts local order          on an engine of tag 0 that serves every tick, and one of tag 1 that serves every other
--   after us                       the lower nodes us, as a node has them
--   alone n                        one sub-task of n ticks; sub-tasks are of tag 0 where nothing else is said
--   both n                         two sub-tasks of n ticks, without edges
--   either                         10 ticks, and then 30 or 40, as each arrival takes it
--   way                            200 ticks, then by choice 300 on an engine of tag 1 or 600 on one of tag 0, then 100
--   Writes text n t d ns           the text is that of a job with the number n, the period t, the deadline d and the nodes ns
--   Written t d ns                 with each number there is such a text
--   Placed rules rs text           beside the residents rs no question refuses the text
--   Gets rules rs text q           no job of the text is placed there, and the question q refuses it
--   AllPlaced rules t d ns         on an empty board each such job is placed, whatever its number and the order of engines
--   AllGet rules t d ns q          on an empty board the question q refuses each such job
--   AllShow rules n t d ns bs      each such job with the number n that is placed on an empty board has the sheet bs
--   WorkedCases                    the cases
use Rattle.std.specs.Prelude.{◌≡◌, ℕ, ◌≤◌, ◌≢◌, Bool, true, false, List, [], ◌∷◌, map, ◌==◌, codes, replicate, slice_index_or}
use Rattle.std.specs.List.{list_any, range_with_len}
use Rattle.board.specs.declared.refusal.Refusal.{Refusal}
use Rattle.board.specs.Loading.{IsLoaded, LoadRefused}
use Rattle.board.specs.Placing.{Rules}
use Rattle.board.specs.Refusal.{refusal_number}
use Rattle.cyclic.specs.Fewest.{fewest}
use Rattle.engine.specs.Calendar.{idle}
use Rattle.engine.specs.Whole.{whole_supply}
use Rattle.order.specs.Listing.{EachOnce}
use Rattle.resident.specs.declared.resident.Resident.{Resident}
use Rattle.sheet.specs.Sheet.{sheet_of}
use Rattle.slack.specs.declared.rule.Position.{Position}
use Rattle.slack.specs.Even.{even}
use Rattle.slack.specs.Proportional.{proportional}
use Rattle.task.specs.declared.job.Job.{Job}
use Rattle.task.specs.declared.node.Node.{Node}
use Rattle.task.specs.declared.node.Node.TheVariants.{SubTask, Alternative, Conditional}
use Rattle.task.specs.Flaws.{MadeOf}
use Rattle.text.specs.JobText.{Reads}

abbrev pub Order : Type 0
Order = List (ℕ × ℕ) → List ℕ → ℕ → List ℕ → List ℕ

abbrev pub Complete : Order → Type 0
Complete order = (tellings : List (ℕ × ℕ)) (tags : List ℕ) (tag : ℕ) (loads : List ℕ) → EachOnce tags tag (order tellings tags tag loads)

abbrev pub whole : ℕ → Order → Rules
whole count order = record { tags = replicate count 0; supply = whole_supply count; local = proportional; listing = order }

abbrev pub served_by : List (List Bool) → ℕ → ℕ → ℕ
served_by marks e = fewest (slice_index_or marks e idle)

abbrev pub marked : List ℕ → List (List Bool) → (Position → ℕ) → Order → Rules
marked tags marks local order = record { tags = tags; supply = served_by marks; local = local; listing = order }

abbrev pub half : Order → Rules
half = marked (0 ∷ []) ((true ∷ false ∷ []) ∷ []) proportional

abbrev pub two_sorts : (Position → ℕ) → Order → Rules
two_sorts local = marked (0 ∷ 1 ∷ []) ((true ∷ []) ∷ (true ∷ false ∷ []) ∷ []) local

unfoldable pub after : List ℕ → List Bool
after us = map (λ u. list_any (λ x. x == u) us) (range_with_len 0 24)

unfoldable pub alone : ℕ → List Node
alone n = SubTask 0 n (after []) ∷ []

unfoldable pub both : ℕ → List Node
both n = SubTask 0 n (after []) ∷ SubTask 0 n (after []) ∷ []

unfoldable pub either : List Node
either =
    SubTask 0 10 (after [])
    ∷ Conditional (after (0 ∷ []))
    ∷ SubTask 0 30 (after (1 ∷ []))
    ∷ SubTask 0 40 (after (1 ∷ []))
    ∷ []

unfoldable pub way : List Node
way =
    SubTask 0 200 (after [])
    ∷ Alternative (after (0 ∷ []))
    ∷ SubTask 1 300 (after (1 ∷ []))
    ∷ SubTask 0 600 (after (1 ∷ []))
    ∷ SubTask 0 100 (after (2 ∷ 3 ∷ []))
    ∷ []

pub record Writes (text : List ℕ) (number period deadline : ℕ) (ns : List Node) : Type 0 where
  pub job : Job
  pub reads : Reads text job
  pub made : MadeOf number period deadline ns job

abbrev pub Written : ℕ → ℕ → List Node → Type 0
Written t d ns = (n : ℕ) → 1 ≤ n → n ≤ 65535 → (text : List ℕ) × Writes text n t d ns

abbrev pub Placed : Rules → List Resident → List ℕ → Type 0
Placed rules rs text = (f : Refusal) → LoadRefused rules rs text f → ⊥

pub record Gets (rules : Rules) (rs : List Resident) (text : List ℕ) (q : ℕ) : Type 0 where
  pub never : (r : Resident) → IsLoaded rules rs text r → ⊥
  pub only : (f : Refusal) → LoadRefused rules rs text f → refusal_number f ≡ q

abbrev pub AllPlaced : (Order → Rules) → ℕ → ℕ → List Node → Type 0
AllPlaced rules t d ns = (order : Order) → Complete order → (text : List ℕ) (n : ℕ) → Writes text n t d ns → Placed (rules order) [] text

abbrev pub AllGet : (Order → Rules) → ℕ → ℕ → List Node → ℕ → Type 0
AllGet rules t d ns q = (order : Order) → Complete order → (text : List ℕ) (n : ℕ) → Writes text n t d ns → Gets (rules order) [] text q

abbrev pub AllShow : (Order → Rules) → ℕ → ℕ → ℕ → List Node → List ℕ → Type 0
AllShow rules n t d ns bs =
    (order : Order) → Complete order → (text : List ℕ) → Writes text n t d ns
    → (r : Resident) → IsLoaded (rules order) [] text r → sheet_of r ≡ bs

pub record WorkedCases : Type 0 where
  -- there are such jobs
  pub written : Written 100 100 (alone 100) × Written 2 2 (alone 1) × Written 1 1 (alone 1) × Written 100 99 (both 50) × Written 100 100 (both 50)
      × Written 50 50 either × Written 50 49 either × Written 1200 1000 way
  -- a job takes every tick of an engine
  pub every_tick : AllPlaced (whole 1) 100 100 (alone 100)
  -- and then there is no tick left for any other
  pub no_tick_left :
      (order later : Order) → Complete order → Complete later
      → (text more : List ℕ) (n m t d : ℕ) → Writes text n 100 100 (alone 100) → Writes more m t d (alone 1) → n ≢ m
      → (r : Resident) → IsLoaded (whole 1 order) [] text r → Gets (whole 1 later) (r ∷ []) more 10
  -- of two ticks in a row one is served, but maybe not the first
  pub half_in_time : AllPlaced half 2 2 (alone 1)
  pub half_too_late : AllGet half 1 1 (alone 1) 10
  -- the sub-tasks of one tag share an engine, so others do not help
  pub one_tick_short : (count : ℕ) → AllGet (whole count) 100 99 (both 50) 10
  pub just_room : AllPlaced (whole 1) 100 100 (both 50)
  -- an arrival takes one way of a conditional, and needs no room for the other
  pub one_way : AllPlaced (whole 1) 50 50 either
  pub no_choice : AllGet (whole 1) 50 49 either 9
  -- the first choice does not fit on the slower engine, the second does on the other; so says the sheet
  pub second_choice : AllPlaced (two_sorts proportional) 1200 1000 way
  pub second_choice_even : AllPlaced (two_sorts even) 1200 1000 way
  pub way_text : Writes (codes "job=7\nperiod=1200\ndeadline=1000\nnodes=5\nkind=subtask\ntag=0\nticks=200\nafter=-\nkind=alternative\nafter=0\nkind=subtask\ntag=1\nticks=300\nafter=1\nkind=subtask\ntag=0\nticks=600\nafter=1\nkind=subtask\ntag=0\nticks=100\nafter=2,3\n") 7 1200 1000 way
  pub sheet : AllShow (two_sorts proportional) 7 1200 1000 way (codes "job=7\nchoice=1\nnode=0,0,0,222\nnode=3,0,222,888\nnode=4,0,888,1000\n")
  pub sheet_even : AllShow (two_sorts even) 7 1200 1000 way (codes "job=7\nchoice=1\nnode=0,0,0,233\nnode=3,0,233,866\nnode=4,0,866,1000\n")
