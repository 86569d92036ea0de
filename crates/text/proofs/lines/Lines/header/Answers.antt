use Rattle.std.proofs.Common.{ℕ}
use Rattle.text.specs.declared.job_text.Header.{Header}
use Rattle.text.proofs.Passing.{passed_on}
use Rattle.text.proofs.Following.{stops_here, stops_next}
use Rattle.text.proofs.lines.Lines.header.Goals as goal

-- what is not read yet is 1
abbrev draft : ℕ → ℕ → ℕ → Header
draft number period deadline = record { number = number; period = period; deadline = deadline; count = 1 }

pub returns-in_err-number : goal.returns-in_err-number
returns-in_err-number c =
    passed_on _ _ _ _ c.from_residual.ensures.1 ((draft 1 1 1, stops_here c.in_err-number.ensures))

pub returns-in_err-period : goal.returns-in_err-period
returns-in_err-period c =
    passed_on _ _ _ _ c.from_residual-in_err-period.ensures.1 ((draft c.in_ok-number.number 1 1, stops_next c.in_ok-number.ensures.0 (stops_here c.in_err-period.ensures)))

pub returns-in_err-deadline : goal.returns-in_err-deadline
returns-in_err-deadline c =
    passed_on _ _ _ _ c.from_residual-in_err-deadline.ensures.1 ((draft c.in_ok-number.number c.in_ok-period.period 1, stops_next c.in_ok-number.ensures.0 (stops_next c.in_ok-period.ensures.0 (stops_here c.in_err-deadline.ensures))))

pub returns-in_err-count : goal.returns-in_err-count
returns-in_err-count c =
    passed_on _ _ _ _ c.from_residual-in_err-count.ensures.1 ((draft c.in_ok-number.number c.in_ok-period.period c.in_ok-deadline.deadline, stops_next c.in_ok-number.ensures.0 (stops_next c.in_ok-period.ensures.0 (stops_next c.in_ok-deadline.ensures.0 (stops_here c.in_err-count.ensures)))))
