-- Where an open sub-task stands, and what can happen to it.
--   meaning f      the phase f of a run over lists: what waits or is ready is pending
--   is_waiting f, is_ready f    whether it waits, and whether it is ready
--   stepped e f    the phase f after the event e
--   phase_by b m   the phase that m stands for: what is pending is ready if b, else it waits
use Rattle.std.specs.Prelude.{◌-◌, Bool, true, false, cond, nat_lt}
use Rattle.dispatch.specs.declared.phase.Event.{Event}
use Rattle.dispatch.specs.declared.phase.Event.TheVariants.{Done, EndPassed, OffsetReached, Served}
use Rattle.dispatch.specs.declared.phase.Phase.{Phase}
use Rattle.dispatch.specs.declared.phase.Phase.TheVariants.{Finished, Late, Ready, Waiting}
use Rattle.runs.specs.State.{finished, late, pending, Phase as Model}

abbrev pub meaning : Phase → Model
meaning (Waiting n) = pending n
meaning (Ready n) = pending n
meaning Finished = finished
meaning Late = late

abbrev pub is_waiting : Phase → Bool
is_waiting (Waiting n) = true
is_waiting (Ready n) = false
is_waiting Finished = false
is_waiting Late = false

abbrev pub is_ready : Phase → Bool
is_ready (Waiting n) = false
is_ready (Ready n) = true
is_ready Finished = false
is_ready Late = false

abbrev pub stepped : Event → Phase → Phase
stepped OffsetReached (Waiting n) = Ready n
stepped OffsetReached f = f
stepped Served (Waiting n) = cond (nat_lt 1 n) (Waiting (n - 1)) Finished
stepped Served (Ready n) = cond (nat_lt 1 n) (Ready (n - 1)) Finished
stepped Served f = f
stepped Done (Waiting n) = Finished
stepped Done (Ready n) = Finished
stepped Done f = f
stepped EndPassed (Waiting n) = Late
stepped EndPassed (Ready n) = Late
stepped EndPassed f = f

abbrev pub phase_by : Bool → Model → Phase
phase_by released (pending n) = cond released (Ready n) (Waiting n)
phase_by released finished = Finished
phase_by released late = Late
