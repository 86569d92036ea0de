-- The worked cases, by computing.
use Rattle.std.proofs.Common.{◌≡◌, ℕ, zero, suc, ◌<◌, ◌≤◌, true, List, [], ◌∷◌, refl, ap, inl, inr, arith}
use Rattle.std.specs.Fmt.{digits}
use Rattle.std.specs.Prelude.{nat_lt, Some, codes}
use Rattle.std.proofs.lemmas.Bool.{cases_Bool}
use Rattle.std.proofs.lemmas.Option.{none-some}
use Rattle.computed.specs.Asked.{tasks}
use Rattle.computed.specs.Tables.{each, falling, rising, some_below}
use Rattle.cyclic.specs.Fewest.{fewest}
use Rattle.cyclic.specs.FewestLaws.{fewest_joins}
use Rattle.cyclic.specs.Least.{least}
use Rattle.cyclic.specs.Ones.{mark, ones}
use Rattle.engine.specs.Roster.{tag_of}
use Rattle.engine.specs.Whole.{whole_supply}
use Rattle.slack.specs.Even.{even}
use Rattle.slack.specs.Proportional.{proportional}
use Rattle.task.specs.Node.{is_sub_task}
use Rattle.theory.specs.Pattern.{Pattern}
use Rattle.window.specs.Greatest.{greatest}
use Rattle.worked.specs.Cases.{after, alone, both, either, half, AllPlaced, AllGet, served_by, AllShow, two_sorts, way, whole, WorkedCases, Writes}
use Rattle.worked.proofs.Chosen.{first_asks, its_sheet, node_task, second_asks, second_placed, slow}
use Rattle.worked.proofs.Fitting.{climbs, quickly}
use Rattle.worked.proofs.Full.{no_tick_left}
use Rattle.worked.proofs.Known.{asks, span_of}
use Rattle.worked.proofs.Loading.{refused_by_9}
use Rattle.worked.proofs.Parts.{choices_alone, choices_both, choices_either, has_alone, has_both, only_alone, only_both, only_either, pattern_of, window}
use Rattle.worked.proofs.Texts.{falls, forks_fit, nodes_fit, tables_full, Sensible, writes_lines, written}
use Rattle.worked.proofs.Single.{none_there, placed_single, refused_single}

-- no engine serves more than every tick
at_most : (count e m : ℕ) → whole_supply count e m ≤ m
at_most count e m = elim (cases_Bool (nat_lt e count)) [ inl yes' ↦ rw yes' (omega arith) | inr no' ↦ rw no' (omega arith) ]

-- a job takes every tick of an engine
module _ where
  span_100 : span_of (alone 100) 0 ≡ 100
  unfolding after alone each rising falling some_below greatest
  span_100 = refl

  abbrev all_ticks : Pattern
  all_ticks = pattern_of 100 100 ((window 0 100 100 ∷ []) ∷ [])

  asks_100 : asks proportional 100 100 (alone 100) 0 0 ≡ all_ticks
  unfolding after alone each rising falling some_below greatest
  asks_100 = refl

  every_tick : AllPlaced (whole 1) 100 100 (alone 100)
  every_tick order complete text n writes =
      placed_single (whole 1 order) text n 100 100 (alone 100) writes 0 (omega (arith, choices_alone 100)) (omega (arith, span_100)) (only_alone proportional 100 100) refl
      all_ticks asks_100 (omega arith) refl (λ a b. omega arith) (99 ∷ 199 ∷ 200 ∷ []) refl

-- one sub-task of one tick on an engine that serves every other tick
module _ where
  span_1 : span_of (alone 1) 0 ≡ 1
  unfolding after alone each rising falling some_below greatest
  span_1 = refl

  abbrev tick_in : ℕ → Pattern
  tick_in d = pattern_of d d ((window 0 d 1 ∷ []) ∷ [])

  asks_2 : asks proportional 2 2 (alone 1) 0 0 ≡ tick_in 2
  unfolding after alone each rising falling some_below greatest
  asks_2 = refl

  asks_1 : asks proportional 1 1 (alone 1) 0 0 ≡ tick_in 1
  unfolding after alone each rising falling some_below greatest
  asks_1 = refl

  climb_2 : climbs (tick_in 2 ∷ []) (fewest slow) 0 5 (1 ∷ 3 ∷ 4 ∷ []) ≡ true
  unfolding fewest least ones mark
  climb_2 = refl

  more_1 : (e : ℕ) → tag_of (0 ∷ []) e ≡ Some 0 → served_by (slow ∷ []) e 1 < quickly (tick_in 1 ∷ []) 1
  unfolding fewest least ones mark
  more_1 zero at = omega arith
  more_1 (suc e) at = absurd (none-some 0 at)

  half_in_time : AllPlaced half 2 2 (alone 1)
  half_in_time order complete text n writes =
      placed_single (half order) text n 2 2 (alone 1) writes 0 (omega (arith, choices_alone 1)) (omega (arith, span_1)) (only_alone proportional 2 1) refl
      (tick_in 2) asks_2 (omega arith) refl (fewest_joins slow (omega arith)) (1 ∷ 3 ∷ 4 ∷ []) climb_2

  half_too_late : AllGet half 1 1 (alone 1) 10
  half_too_late order complete text n writes =
      refused_single (half order) text n 1 1 (alone 1) writes complete (choices_alone 1) (omega (arith, span_1)) (has_alone proportional 1 1) (tick_in 1) asks_1 1 more_1

-- two sub-tasks of 50 ticks
module _ where
  span_50 : span_of (both 50) 0 ≡ 50
  unfolding after both each rising falling some_below greatest
  span_50 = refl

  abbrev two_in : ℕ → Pattern
  two_in d = pattern_of 100 d ((window 0 d 50 ∷ window 0 d 50 ∷ []) ∷ [])

  asks_99 : asks proportional 100 99 (both 50) 0 0 ≡ two_in 99
  unfolding after both each rising falling some_below greatest
  asks_99 = refl

  asks_50 : asks proportional 100 100 (both 50) 0 0 ≡ two_in 100
  unfolding after both each rising falling some_below greatest
  asks_50 = refl

  asked_99 : quickly (two_in 99 ∷ []) 99 ≡ 100
  asked_99 = refl

  one_tick_short : (count : ℕ) → AllGet (whole count) 100 99 (both 50) 10
  one_tick_short count order complete text n writes =
      refused_single (whole count order) text n 100 99 (both 50) writes complete (choices_both 50) (omega (arith, span_50)) (has_both proportional 99 50)
      (two_in 99) asks_99 99 (λ e _. omega (arith, at_most count e 99, asked_99))

  just_room : AllPlaced (whole 1) 100 100 (both 50)
  just_room order complete text n writes =
      placed_single (whole 1 order) text n 100 100 (both 50) writes 0 (omega (arith, choices_both 50)) (omega (arith, span_50)) (only_both proportional 100 50) refl
      (two_in 100) asks_50 (omega arith) refl (λ a b. omega arith) (99 ∷ 199 ∷ 200 ∷ []) refl

-- 10 ticks, and then 30 or 40
module _ where
  span_either : span_of either 0 ≡ 50
  unfolding after either each rising falling some_below greatest
  span_either = refl

  abbrev two_ways : Pattern
  two_ways = pattern_of 50 50 ((window 0 10 10 ∷ window 10 50 30 ∷ []) ∷ (window 0 10 10 ∷ window 10 50 40 ∷ []) ∷ [])

  asks_either : asks proportional 50 50 either 0 0 ≡ two_ways
  unfolding after either each rising falling some_below greatest
  asks_either = refl

  one_way : AllPlaced (whole 1) 50 50 either
  one_way order complete text n writes =
      placed_single (whole 1 order) text n 50 50 either writes 0 (omega (arith, choices_either)) (omega (arith, span_either)) (only_either proportional 50) refl
      two_ways asks_either (omega arith) refl (λ a b. omega arith) (9 ∷ 39 ∷ 49 ∷ 59 ∷ 89 ∷ 99 ∷ 100 ∷ []) refl

  no_choice : AllGet (whole 1) 50 49 either 9
  no_choice order complete text n writes =
      refused_by_9 (whole 1 order) [] text n 50 49 either writes (none_there n) (omega arith) complete (λ c low.
      let at : 0 ≡ c = omega (arith, choices_either) in
      omega (arith, span_either, ap (span_of either) at))

-- a job with an alternative, by each slack rule
module _ where
  asks_first : asks proportional 1200 1000 way 0 1 ≡ first_asks 333 833
  unfolding after way each rising falling some_below greatest
  asks_first = refl

  asks_first_even : asks even 1200 1000 way 0 1 ≡ first_asks 333 766
  unfolding after way each rising falling some_below greatest
  asks_first_even = refl

  short_500 : fewest slow 500 < quickly (first_asks 333 833 ∷ []) 500
  unfolding fewest least ones mark
  short_500 = omega arith

  short_433 : fewest slow 433 < quickly (first_asks 333 766 ∷ []) 433
  unfolding fewest least ones mark
  short_433 = omega arith

  asks_second : asks proportional 1200 1000 way 1 0 ≡ second_asks 222 888
  unfolding after way each rising falling some_below greatest
  asks_second = refl

  asks_second_even : asks even 1200 1000 way 1 0 ≡ second_asks 233 866
  unfolding after way each rising falling some_below greatest
  asks_second_even = refl

  -- where what the second choice asks rises
  abbrev rises : List ℕ
  rises = 111 ∷ 221 ∷ 533 ∷ 665 ∷ 777 ∷ 887 ∷ 999 ∷ 1421 ∷ 1865 ∷ 2400 ∷ []

  abbrev rises_even : List ℕ
  rises_even = 133 ∷ 232 ∷ 566 ∷ 632 ∷ 766 ∷ 865 ∷ 999 ∷ 1432 ∷ 1832 ∷ 2400 ∷ []

  climb_way : climbs (second_asks 222 888 ∷ []) (fewest (true ∷ [])) 0 2401 rises ≡ true
  unfolding fewest least ones mark
  climb_way = refl

  climb_way_even : climbs (second_asks 233 866 ∷ []) (fewest (true ∷ [])) 0 2401 rises_even ≡ true
  unfolding fewest least ones mark
  climb_way_even = refl

  tasks_way : tasks proportional way 1000 1 is_sub_task ≡ node_task 0 0 222 200 ∷ node_task 3 222 888 600 ∷ node_task 4 888 1000 100 ∷ []
  unfolding after way each rising falling some_below greatest
  tasks_way = refl

  tasks_way_even : tasks even way 1000 1 is_sub_task ≡ node_task 0 0 233 200 ∷ node_task 3 233 866 600 ∷ node_task 4 866 1000 100 ∷ []
  unfolding after way each rising falling some_below greatest
  tasks_way_even = refl

  second_choice : AllPlaced (two_sorts proportional) 1200 1000 way
  second_choice = second_placed proportional 222 888 asks_second rises climb_way

  second_choice_even : AllPlaced (two_sorts even) 1200 1000 way
  second_choice_even = second_placed even 233 866 asks_second_even rises_even climb_way_even

  sheet : AllShow (two_sorts proportional) 7 1200 1000 way (codes "job=7\nchoice=1\nnode=0,0,0,222\nnode=3,0,222,888\nnode=4,0,888,1000\n")
  unfolding digits
  sheet order complete text writes r loaded = its_sheet proportional 222 888 333 833 500 asks_first short_500 tasks_way order complete text 7 writes r loaded

  sheet_even : AllShow (two_sorts even) 7 1200 1000 way (codes "job=7\nchoice=1\nnode=0,0,0,233\nnode=3,0,233,866\nnode=4,0,866,1000\n")
  unfolding digits
  sheet_even order complete text writes r loaded = its_sheet even 233 866 333 766 433 asks_first_even short_433 tasks_way_even order complete text 7 writes r loaded

-- these numbers and nodes make jobs
module _ where
  sensible_100_100 : Sensible 100 100 (alone 100)
  unfolding after alone digits falls nodes_fit tables_full forks_fit
  sensible_100_100 = record { periodic = refl; due = refl; counted = refl; nodes = refl; full = refl; forks = refl; few = refl; low = refl; brief = refl }

  sensible_2_2 : Sensible 2 2 (alone 1)
  unfolding after alone digits falls nodes_fit tables_full forks_fit
  sensible_2_2 = record { periodic = refl; due = refl; counted = refl; nodes = refl; full = refl; forks = refl; few = refl; low = refl; brief = refl }

  sensible_1_1 : Sensible 1 1 (alone 1)
  unfolding after alone digits falls nodes_fit tables_full forks_fit
  sensible_1_1 = record { periodic = refl; due = refl; counted = refl; nodes = refl; full = refl; forks = refl; few = refl; low = refl; brief = refl }

  sensible_100_99 : Sensible 100 99 (both 50)
  unfolding after both digits falls nodes_fit tables_full forks_fit
  sensible_100_99 = record { periodic = refl; due = refl; counted = refl; nodes = refl; full = refl; forks = refl; few = refl; low = refl; brief = refl }

  sensible_both_100 : Sensible 100 100 (both 50)
  unfolding after both digits falls nodes_fit tables_full forks_fit
  sensible_both_100 = record { periodic = refl; due = refl; counted = refl; nodes = refl; full = refl; forks = refl; few = refl; low = refl; brief = refl }

  sensible_50_50 : Sensible 50 50 either
  unfolding after either digits falls nodes_fit tables_full forks_fit
  sensible_50_50 = record { periodic = refl; due = refl; counted = refl; nodes = refl; full = refl; forks = refl; few = refl; low = refl; brief = refl }

  sensible_50_49 : Sensible 50 49 either
  unfolding after either digits falls nodes_fit tables_full forks_fit
  sensible_50_49 = record { periodic = refl; due = refl; counted = refl; nodes = refl; full = refl; forks = refl; few = refl; low = refl; brief = refl }

  sensible_way : Sensible 1200 1000 way
  unfolding after way digits falls nodes_fit tables_full forks_fit
  sensible_way = record { periodic = refl; due = refl; counted = refl; nodes = refl; full = refl; forks = refl; few = refl; low = refl; brief = refl }

  way_text : Writes (codes "job=7\nperiod=1200\ndeadline=1000\nnodes=5\nkind=subtask\ntag=0\nticks=200\nafter=-\nkind=alternative\nafter=0\nkind=subtask\ntag=1\nticks=300\nafter=1\nkind=subtask\ntag=0\nticks=600\nafter=1\nkind=subtask\ntag=0\nticks=100\nafter=2,3\n") 7 1200 1000 way
  unfolding after way digits
  way_text = writes_lines 1200 1000 way sensible_way 7 refl

pub worked_cases : WorkedCases
worked_cases = record {
  written = (written 100 100 (alone 100) sensible_100_100, written 2 2 (alone 1) sensible_2_2, written 1 1 (alone 1) sensible_1_1, written 100 99 (both 50) sensible_100_99, written 100 100 (both 50) sensible_both_100, written 50 50 either sensible_50_50, written 50 49 either sensible_50_49, written 1200 1000 way sensible_way);
  way_text = way_text;
  every_tick = every_tick;
  no_tick_left = λ order later complete still text more n m t d writes other differ r loaded. no_tick_left order complete text n writes r loaded later still more m t d other differ;
  half_in_time = half_in_time;
  half_too_late = half_too_late;
  one_tick_short = one_tick_short;
  just_room = just_room;
  one_way = one_way;
  no_choice = no_choice;
  second_choice = second_choice;
  second_choice_even = second_choice_even;
  sheet = sheet;
  sheet_even = sheet_even;
}
