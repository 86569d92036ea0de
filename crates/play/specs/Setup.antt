-- The first line of a history.
--   slack_word s, order_word o, platform_word p    the names of the rules
--   setup_line s                                   the line that names them all
use Rattle.std.specs.Prelude.{ℕ, List, ◌∷◌, ◌++◌, codes}
use Rattle.play.specs.declared.setup.Order.{Order}
use Rattle.play.specs.declared.setup.Order.TheVariants.{Fullest, Rota}
use Rattle.play.specs.declared.setup.Platform.{Platform}
use Rattle.play.specs.declared.setup.Platform.TheVariants.{Calendar, Whole}
use Rattle.play.specs.declared.setup.Setup.{Setup}
use Rattle.play.specs.declared.setup.Slack.{Slack}
use Rattle.play.specs.declared.setup.Slack.TheVariants.{Even, Proportional}

abbrev pub slack_word : Slack → List ℕ
slack_word Even = codes "even"
slack_word Proportional = codes "proportional"

abbrev pub order_word : Order → List ℕ
order_word Fullest = codes "fullest"
order_word Rota = codes "rota"

abbrev pub platform_word : Platform → List ℕ
platform_word Calendar = codes "calendar"
platform_word Whole = codes "whole"

abbrev pub setup_line : Setup → List ℕ
setup_line s = codes "board " ++ (slack_word s.slack ++ 32 ∷ (order_word s.order ++ 32 ∷ platform_word s.platform))
