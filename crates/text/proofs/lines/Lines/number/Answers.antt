use Rattle.std.proofs.Common.{sym}
use Rattle.text.proofs.Dues.{number_missed}
use Rattle.text.proofs.lines.Lines.number.Goals as goal

pub returns-in-Number-2 : goal.returns-in-Number-2
returns-in-Number-2 c = number_missed _ _ _ _ _ c.requires c.in_ok-line.ensures c.in-Number.is (sym c.if-fits.ensures)
