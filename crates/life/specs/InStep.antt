-- A board of the code, and how it stands by the rules.
--   board_of b              the board itself, whether it runs or not
--   stands listing b es     how b stands, if its order lists by `listing` and these events came since its start
--   InStep b es             if b runs, what it keeps is what it has to keep of the state of its run after these events
--   late_of b               its late total, if it runs
--   turns call              whether the call starts or stops a board
use Rattle.std.specs.Prelude.{◌≡◌, ℕ, Bool, true, false, List, Option, Some, None}
use Rattle.board.specs.declared.board.Board.{Board}
use Rattle.board.specs.Residents.{jobs}
use Rattle.dispatch.specs.Kept.{kept}
use Rattle.life.specs.declared.call.Call.{Call}
use Rattle.life.specs.declared.call.Call.TheVariants.{Arrive, Load, Start, Stop, Tick, Unload}
use Rattle.life.specs.declared.any_board.AnyBoard.{AnyBoard as Code}
use Rattle.life.specs.declared.any_board.AnyBoard.TheVariants.{Running, Stopped}
use Rattle.life.specs.Standing.{Listing, running, Standing, state_of, stopped}
use Rattle.running.specs.View.{view}
use Rattle.runs.specs.Events.{Event}

abbrev pub board_of : {P R O : Type 0} → Code P R O → Board P R O
board_of (Stopped b) = b
board_of (Running b) = b.board

abbrev pub stands : {P R O : Type 0} → (O → Listing) → Code P R O → List Event → Standing
stands listing (Stopped b) es = stopped (jobs b.residents) (listing b.order)
stands listing (Running b) es = running (jobs b.board.residents) (listing b.board.order) es

abbrev pub InStep : {P R O : Type 0} → Code P R O → List Event → Type 0
InStep (Stopped b) es = Unit {0}
InStep (Running b) es = view b ≡ kept (state_of (jobs b.board.residents) es)

abbrev pub late_of : {P R O : Type 0} → Code P R O → Option ℕ
late_of (Stopped b) = None
late_of (Running b) = Some (view b).lates

abbrev pub turns : Call → Bool
turns (Load text) = false
turns (Unload n) = false
turns Start = true
turns (Arrive n b) = false
turns (Tick served done) = false
turns Stop = true
