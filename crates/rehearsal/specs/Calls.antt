-- The calls of a rehearsal.
--   load text, unload j      the call that loads the job of a text, and the one that takes the job j off
--   is_due t j               a period of the job j begins at the clock t, where the first begins at 0
--   arrival t j              then j arrives, with one branch number after the other
--   served_in n p            the mask with the bits of the engines e below n where p e
--   is_needed s t e          more is served by the engine e in t + 1 ticks than in t ticks, where the supply is s
--   least_tick s t           a tick in which just these engines are served, and none reports that it is done
--   calls_at s js t          the arrivals at the clock t, and the tick after it
--   calls_of s texts js      the texts are loaded, the board runs for a belt cycle, and the jobs are taken off
use Rattle.std.specs.Prelude.{ℕ, zero, suc, ◌+◌, ◌/◌, ◌%◌, ◌^◌, Bool, not, if◌then◌else◌, ◌==◌, List, [], ◌∷◌, ◌++◌, filter, map}
use Rattle.std.specs.Borrow.{Bor}
use Rattle.std.specs.List.{flat_map}
use Rattle.life.specs.declared.call.Call.{Call}
use Rattle.life.specs.declared.call.Call.TheVariants.{Arrive, Load, Start, Stop, Tick, Unload}
use Rattle.rehearsal.specs.Below.{below}
use Rattle.task.specs.declared.job.Job.{Job}
use Rattle.task.specs.declared.node.Numbering.TheVariants.{Branch}
use Rattle.task.specs.Flaws.{graph}
use Rattle.task.specs.Picks.{numbers}

abbrev pub load : Bor (List ℕ) → Call
load text = Load text

abbrev pub unload : Job → Call
unload j = Unload j.number

abbrev pub is_due : ℕ → Job → Bool
is_due t j = t % j.period == 0

abbrev pub arrival : ℕ → Job → Call
arrival t j = Arrive j.number ((t / j.period) % numbers Branch (graph j))

abbrev pub served_in : ℕ → (ℕ → Bool) → ℕ
served_in zero p = 0
served_in (suc e) p = served_in e p + (if p e then 2 ^ e else 0)

abbrev pub is_needed : (ℕ → ℕ → ℕ) → ℕ → ℕ → Bool
is_needed s t e = not (s e (t + 1) == s e t)

abbrev pub least_tick : (ℕ → ℕ → ℕ) → ℕ → Call
least_tick s t = Tick (served_in 16 (is_needed s t)) 0

abbrev pub calls_at : (ℕ → ℕ → ℕ) → List Job → ℕ → List Call
calls_at s js t = map (arrival t) (filter (is_due t) js) ++ least_tick s t ∷ []

abbrev pub calls_of : (ℕ → ℕ → ℕ) → List (Bor (List ℕ)) → List Job → List Call
calls_of s texts js = map load texts ++ (Start ∷ flat_map (calls_at s js) (below 14400)) ++ (Stop ∷ map unload js)
