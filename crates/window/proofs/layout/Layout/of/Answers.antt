use Rattle.std.proofs.Common.{ℕ, ◌%◌, ◌≤◌, eqb, leb, List, length, ap, subst, inl, inr, mod-eq_of_lt, arith}
use Rattle.std.proofs.lemmas.Bool.{and_parts, leb-true, eqb-true, cases_lt}
use Rattle.task.specs.declared.job.Job.{Job}
use Rattle.task.specs.declared.node.Node.{Node}
use Rattle.task.specs.Flaws.{graph}
use Rattle.task.specs.Nodes.{Sound}
use Rattle.task.proofs.Leading.{led_inside}
use Rattle.window.specs.Recurrences.{Laid}
use Rattle.window.specs.Windows.{deadline_of, offset_of, position}
use Rattle.window.proofs.Holding.{windows_hold}
use Rattle.window.proofs.Laying.{laid_windows}
use Rattle.window.proofs.Longest.{ascends, rises}
use Rattle.window.proofs.layout.Layout.of.Goals as goal

-- a deadline is at most a belt cycle, since it is at most a period and a period divides it
short : (j : Job) → j.deadline ≤ 14400
short j =
    let (some, divides) = and_parts (leb 1 j.period) (eqb (14400 % j.period) 0) j.periodic in
    let (_, within) = and_parts (leb 1 j.deadline) (leb j.deadline j.period) j.due in
    elim (cases_lt 14400 j.period) [
      | inl long ↦ absurd (omega (arith, eqb-true (14400 % j.period) 0 divides, mod-eq_of_lt long))
      | inr fine ↦ omega (arith, leb-true j.deadline j.period within)
    ]

pub windows-windows-requires : goal.windows-windows-requires
windows-windows-requires g c =
    let e = c.graph.ensures.nodes in
    let ns = graph c.args.job.now in
    let sound = subst Sound e c.graph.ensures.sound in
    let is = c.concrete-concrete.ensures in (
      c.graph.ensures.sound.few,
      (
        ascends ns sound c.args.choice c.concrete-concrete.result is,
        λ v y. omega (arith, led_inside (rises ns sound c.args.choice) ((is.nodes v).0 y), ap (λ (l : List Node). length l) e),
      ),
    )

pub returns : goal.returns
returns g c =
    let j = c.args.job.now in
    let ns = graph j in
    let e = c.graph.ensures.nodes in
    let sound = subst Sound e c.graph.ensures.sound in
    let local = g.R.SlackRule.local c.args.rule.now in
    let l = c.of-lengths.result in
    let w = c.windows-windows.result in
    let laid = subst (λ (a : List Node). (v : ℕ) → Laid a c.concrete-concrete.result (λ u. local (position j.deadline l u)) (offset_of w) (deadline_of w) v) e c.windows-windows.ensures in
    let windows = laid_windows ns sound c.args.choice j.deadline c.concrete-concrete.result c.concrete-concrete.ensures local l w laid in
    record {
      lengths = c.of-lengths.ensures;
      windows = windows;
      holds = λ possible. windows_hold ns sound c.args.choice j.deadline l c.of-lengths.ensures possible (short j) local (g.R.SlackRule.laws c.args.rule.now) w windows;
    }
