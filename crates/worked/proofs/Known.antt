-- A plan of a job of known numbers and nodes, and which of its choices are possible.
use Rattle.std.proofs.Common.{◌≡◌, ℕ, ◌≤◌, Bool, List, filter, ap, ◌∙◌, subst, arith}
use Rattle.std.proofs.Math.Path.{fun_ext}
use Rattle.computed.specs.Asked.{pattern, pattern_for, tasks}
use Rattle.computed.specs.Graph.{concrete}
use Rattle.computed.specs.Lengths.{lengths}
use Rattle.computed.proofs.Asked.{job_sound, pattern_is, tasks_are}
use Rattle.computed.proofs.Graph.{concrete_is}
use Rattle.computed.proofs.Lengths.{lengths_are}
use Rattle.plan.specs.declared.plan.Plan.{Plan}
use Rattle.plan.specs.Part.{part_of, tagged, tasks_where}
use Rattle.plan.specs.Pattern.{part_pattern}
use Rattle.plan.specs.Plan.{IsPlan}
use Rattle.plan.proofs.Formed.{part_formed}
use Rattle.resident.specs.Seats.{all_tags, has_part, parts_of, some_task}
use Rattle.slack.specs.declared.rule.Position.{Position}
use Rattle.task.specs.declared.job.Job.{Job}
use Rattle.task.specs.declared.node.Node.{Node}
use Rattle.task.specs.Flaws.{graph, MadeOf}
use Rattle.theory.specs.Pattern.{Pattern, WellFormed}
use Rattle.window.specs.Path.{Possible}
use Rattle.window.proofs.Paths.{path_end}

-- what the part of a tag asks
abbrev pub asks : (Position → ℕ) → (period deadline : ℕ) → List Node → (choice tag : ℕ) → Pattern
asks local t d ns c g = pattern t d ns c (tasks local ns d c (tagged g))

-- there is such a part
abbrev pub is_part : (Position → ℕ) → (deadline : ℕ) → List Node → (choice tag : ℕ) → Bool
is_part local d ns c g = some_task (tasks local ns d c (tagged g))

-- the ticks of the longest path
abbrev pub span_of : List Node → ℕ → ℕ
span_of ns c = (lengths ns (concrete ns c)).span

module _ (n t d : ℕ) (ns : List Node) (j : Job) (made : MadeOf n t d ns j) where
  module _ (local : Position → ℕ) (c : ℕ) (p : Plan) (is : IsPlan local j c p) where
    pub plan_tasks : (test : Node → Bool) → tasks_where p test ≡ tasks local ns d c test
    plan_tasks test =
        tasks_are local j c p is test
        ∙ ap (λ x. tasks local (graph j) x c test) made.its_deadline
        ∙ ap (λ ms. tasks local ms d c test) made.its_nodes

    pub plan_part : (g : ℕ) → part_of p g ≡ tasks local ns d c (tagged g)
    plan_part g = plan_tasks (tagged g)

    pub plan_has : (g : ℕ) → has_part p g ≡ is_part local d ns c g
    plan_has g = ap some_task (plan_part g)

    pub plan_parts : parts_of p ≡ filter (is_part local d ns c) all_tags
    plan_parts = let same : ◌≡◌ {A = ℕ → Bool} (has_part p) (is_part local d ns c) = fun_ext plan_has in ap (λ f. filter f all_tags) same

    pub plan_asks : (g : ℕ) → part_pattern p g ≡ asks local t d ns c g
    plan_asks g =
        pattern_is local j c p is (part_of p g)
        ∙ ap (pattern_for j c) (plan_part g)
        ∙ ap (λ x. pattern x j.deadline (graph j) c (tasks local ns d c (tagged g))) made.its_period
        ∙ ap (λ x. pattern t x (graph j) c (tasks local ns d c (tagged g))) made.its_deadline
        ∙ ap (λ ms. pattern t d ms c (tasks local ns d c (tagged g))) made.its_nodes

    pub asks_formed : (g : ℕ) → WellFormed (asks local t d ns c g)
    asks_formed g = subst WellFormed (plan_asks g) (part_formed p g)

  module _ (c : ℕ) where
    its_span : (lengths (graph j) (concrete (graph j) c)).span ≡ span_of ns c
    its_span = ap (λ ms. span_of ms c) made.its_nodes

    pub is_possible : span_of ns c ≤ d → Possible (graph j) c j.deadline
    is_possible short u v s path =
        let is = lengths_are (graph j) (job_sound j) c (concrete (graph j) c) (concrete_is (graph j) j.upward c) in
        let m = path_end path in
        omega (arith, (is.heads v m).bound u s path, is.span.bound v m, its_span, made.its_deadline)

    pub possible_short : Possible (graph j) c j.deadline → span_of ns c ≤ d
    possible_short possible =
        let is = lengths_are (graph j) (job_sound j) c (concrete (graph j) c) (concrete_is (graph j) j.upward c) in
        let (v, m, same) = is.span.attained in
        let (u, path) = (is.heads v m).attained in
        omega (arith, possible u v _ path, same, its_span, made.its_deadline)
