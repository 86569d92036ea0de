use Rattle.std.proofs.Common.{sym, subst, MatchResult}
use Rattle.std.proofs.lemmas.Result.{MatchResult-weaker}
use Rattle.few.specs.Few.{items}
use Rattle.task.specs.Flaws.{InRange, MadeOf}
use Rattle.text.specs.JobText.{Forked}
use Rattle.text.proofs.Passing.{passed_on}
use Rattle.text.proofs.Drafts.{draft, header_halts, nodes_halt, rest_halts, all_whole, halts_refused, forks_refused, in_range, made_reads}
use Rattle.text.proofs.Following.{start_stops, start_took}
use Rattle.text.proofs.job_text.read_job.Goals as goal

pub returns-in_err-header : goal.returns-in_err-header
returns-in_err-header c =
    let start = c.in_ok-lines.ensures in
    let stop = c.in_err-header.ensures in
    passed_on _ _ _ _ c.from_residual-in_err-header.ensures.1 (halts_refused _ _ start.sized (header_halts stop.0 _ _ (start_stops start stop.1)))

pub returns-in_err-nodes : goal.returns-in_err-nodes
returns-in_err-nodes c =
    let start = c.in_ok-lines.ensures in
    let stop = c.in_err-nodes.ensures in
    passed_on _ _ _ _ c.from_residual-in_err-nodes.ensures.1 (halts_refused _ _ start.sized
    (nodes_halt c.in_ok-header.header stop.0 _ _ _ _ stop.1 (start_took start c.in_ok-header.ensures.0) stop.2))

pub returns-in_err-end : goal.returns-in_err-end
returns-in_err-end c =
    let start = c.in_ok-lines.ensures in
    let over = c.in_err-end.ensures in
    let nodes = c.in_ok-nodes.ensures in
    passed_on _ _ _ _ c.from_residual-in_err-end.ensures.1 (halts_refused _ _ start.sized
    (rest_halts c.in_ok-header.header _ _ _ _ _ _ _ nodes.0 (start_took start c.in_ok-header.ensures.0) nodes.1 over.0 over.1))

pub make_job-requires : goal.make_job-requires
make_job-requires c =
    let h = c.in_ok-header.header in
    let nodes = c.in_ok-nodes.ensures in
    subst (InRange h.number h.period h.deadline) (sym c.deref.ensures.0) (in_range h _ nodes.0 c.in_ok-header.ensures.1 nodes.2)

pub returns : goal.returns
returns c =
    let start = c.in_ok-lines.ensures in
    let h = c.in_ok-header.header in
    let nodes = c.in_ok-nodes.ensures in
    let ns = items c.in_ok-nodes.nodes in
    let whole = all_whole h ns _ _ _ _ _ nodes.0 (start_took start c.in_ok-header.ensures.0) nodes.1 c.in_ok-end.ensures in
    MatchResult-weaker c.make_job.result
    (subst (λ ms. MatchResult c.make_job.result (MadeOf h.number h.period h.deadline ms) (Forked ms)) c.deref.ensures.0 c.make_job.ensures)
    (λ j made. made_reads _ h ns j start.sized whole nodes.2 made)
    (λ f forked. forks_refused _ f (draft h ns) start.sized whole forked)
