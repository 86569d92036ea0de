-- A board between two calls.
--   board_of b          the board itself, whether it runs or not
--   is_running b        whether it runs
--   takes runs c        whether a board that runs, or one that does not, takes the call, where it neither starts nor stops it
use Rattle.std.specs.Prelude.{Bool, true, false}
use Rattle.board.specs.declared.board.Board.{Board}
use Rattle.play.specs.declared.any_board.AnyBoard.{AnyBoard}
use Rattle.play.specs.declared.any_board.AnyBoard.TheVariants.{Running, Stopped}
use Rattle.play.specs.declared.call.Call.{Call}
use Rattle.play.specs.declared.call.Call.TheVariants.{Arrive, Late, Load, Next, Sheet, Start, Stop, Tick, Unload}

abbrev pub board_of : {P R O : Type 0} → AnyBoard P R O → Board P R O
board_of (Stopped b) = b.value
board_of (Running b) = b.value.board

abbrev pub is_running : {P R O : Type 0} → AnyBoard P R O → Bool
is_running (Stopped b) = false
is_running (Running b) = true

abbrev pub takes : Bool → Call → Bool
takes false (Load text) = true
takes false (Unload n) = true
takes false (Sheet n l) = true
takes false Start = false
takes false (Arrive n b) = false
takes false (Next e) = false
takes false (Tick s d) = false
takes false Late = false
takes false Stop = false
takes true (Load text) = false
takes true (Unload n) = false
takes true (Sheet n l) = true
takes true Start = false
takes true (Arrive n b) = true
takes true (Next e) = true
takes true (Tick s d) = true
takes true Late = true
takes true Stop = false
