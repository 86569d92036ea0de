-- Every plan of a job under a choice asks what is computed, so two of them ask the same.
use Rattle.std.proofs.Common.{◌≡◌, ℕ, zero, suc, ◌<◌, Bool, false, cond, ◌&&◌, leb, List, [], ◌∷◌, ◌++◌, map, length, get_or, filter, refl, sym, ap, ◌∙◌, subst, inl, inr, arith}
use Rattle.std.proofs.Math.Path.{fun_ext}
use Rattle.std.proofs.lemmas.Bool.{and_parts, cases_lt, leb-true}
use Rattle.std.proofs.lemmas.Bool.Decides.{same_from_decides}
use Rattle.std.proofs.lemmas.List.{ext_get_or, get_or-map, get_or_past, length-map}
use Rattle.plan.specs.declared.part.Task.{Task}
use Rattle.plan.specs.declared.plan.Plan.{Plan}
use Rattle.plan.specs.Part.{part_of, tagged, task_at, tasks_where}
use Rattle.plan.specs.Part as of_plan
use Rattle.plan.specs.Pattern.{branch_of, part_pattern, pattern_of, window_of}
use Rattle.plan.specs.Plan.{IsPlan, nodes_of, reached_rows}
use Rattle.slack.specs.declared.rule.Position.{Position}
use Rattle.task.specs.declared.job.Job.{Job}
use Rattle.task.specs.declared.node.Node.{Node}
use Rattle.task.specs.declared.node.Numbering.TheVariants.{Branch}
use Rattle.task.specs.Concrete.{Member, Reached}
use Rattle.task.specs.Flaws.{graph, MadeOf}
use Rattle.task.specs.Graph.{at}
use Rattle.task.specs.Node.{ticks}
use Rattle.task.specs.Nodes.{Sound}
use Rattle.task.specs.Picks.{numbers}
use Rattle.task.specs.Tables.{Tells}
use Rattle.theory.specs.Pattern.{Pattern}
use Rattle.window.specs.declared.layout.Window.{Window}
use Rattle.window.specs.Windows.{closed}
use Rattle.computed.specs.Alike.{PlansAlike}
use Rattle.computed.specs.Asked.{pattern, pattern_for, pattern_made, task, tasks, tasks_below, tasks_made}
use Rattle.computed.specs.Graph.{concrete, kept, reached, reached_of}
use Rattle.computed.specs.Lengths.{lengths}
use Rattle.computed.specs.Windows.{windows}
use Rattle.computed.proofs.Graph.{concrete_is, members_told, reached_told}
use Rattle.computed.proofs.Lengths.{lengths_are}
use Rattle.computed.proofs.Tables.{each_at, length-each}
use Rattle.computed.proofs.Unique.{positions_one, windows_one}
use Rattle.computed.proofs.Windows.{windows_are}

pub job_sound : (j : Job) → Sound (graph j)
job_sound j =
    let (some, few) = and_parts (leb 1 (length (graph j))) (leb (length (graph j)) 24) j.counted in
    record {
      some = leb-true 1 (length (graph j)) some;
      few = leb-true (length (graph j)) 24 few;
      ranged = j.ranged;
      upward = j.upward;
      forked = j.forked;
      few_forked = j.few;
    }

tells_one : (P : ℕ → Type 0) (a b : List Bool) → Tells P a → Tells P b → (v : ℕ) → get_or a v false ≡ get_or b v false
tells_one P a b ta tb v = same_from_decides (get_or a v false) (get_or b v false) (ta v) (tb v)

-- the same nodes, members and windows make the same sub-tasks
tasks_one : (p : Plan) (ws : List Window) (s t : ℕ → Bool) → ((v : ℕ) → s v ≡ t v) → ((v : ℕ) → get_or p.windows v closed ≡ get_or ws v closed)
    → (n : ℕ) → of_plan.tasks_below p s n ≡ tasks_below (nodes_of p) ws t n
tasks_one p ws s t tests same zero = refl
tasks_one p ws s t tests same (suc n) =
    let here : task_at p n ≡ task (nodes_of p) ws n = ap (λ (w : Window). record { node = n; window = w; ticks = ticks (at (nodes_of p) n) }) (same n) in
    ap (λ l. l ++ cond (s n) (task_at p n ∷ []) []) (tasks_one p ws s t tests same n)
    ∙ ap (λ b. tasks_below (nodes_of p) ws t n ++ cond b (task_at p n ∷ []) []) (tests n)
    ∙ ap (λ (x : Task). tasks_below (nodes_of p) ws t n ++ cond (t n) (x ∷ []) []) here

-- rows that agree say the same of a branch
branch_one : (ts : List Task) (a b : List Bool) → ((v : ℕ) → get_or a v false ≡ get_or b v false) → branch_of ts a ≡ branch_of ts b
branch_one ts a b same = ap (λ (f : Task → Bool). map window_of (filter f ts)) (fun_ext (λ (t : Task). same t.node))

pub map_one : {X Y : Type 0} (f : X → Y) (xs ys : List X) (d : X) → length xs ≡ length ys → ((k : ℕ) → k < length xs → f (get_or xs k d) ≡ f (get_or ys k d)) → map f xs ≡ map f ys
map_one f xs ys d long same =
    ext_get_or (f d) (map f xs) (map f ys) (length-map xs f ∙ long ∙ sym (length-map ys f)) (λ k low.
    let inside : k < length xs = omega (arith, length-map xs f) in
    get_or-map f xs k d (f d) inside ∙ same k inside ∙ sym (get_or-map f ys k d (f d) (omega arith)))

-- of a plan of its own job
module _ (local : Position → ℕ) (c : ℕ) (p : Plan) (is : IsPlan local p.job c p) where
  own_members : (v : ℕ) → get_or p.members v false ≡ get_or (concrete (nodes_of p) c).members v false
  own_members = tells_one (Member (nodes_of p) c) p.members (concrete (nodes_of p) c).members is.members (members_told (nodes_of p) p.job.upward c)

  own_windows : (v : ℕ) → get_or p.windows v closed ≡ get_or (windows local (nodes_of p) p.job.deadline (concrete (nodes_of p) c)) v closed
  own_windows =
      let ns = nodes_of p in
      let sound = job_sound p.job in
      let g = concrete ns c in
      let made = concrete_is ns p.job.upward c in
      let l = lengths ns g in
      windows_one ns sound c p.job.deadline local is.lengths l (positions_one ns c p.job.deadline is.lengths l is.measured (lengths_are ns sound c g made))
      p.windows (windows local ns p.job.deadline g) is.windows (windows_are ns sound c p.job.deadline g made local l) p.members is.members

  own_tasks : (t : Node → Bool) → tasks_where p t ≡ tasks local (nodes_of p) p.job.deadline c t
  own_tasks t =
      let ns = nodes_of p in
      tasks_one p (windows local ns p.job.deadline (concrete ns c))
      (λ v. get_or p.members v false && t (at ns v)) (λ v. get_or (concrete ns c).members v false && t (at ns v))
      (λ v. ap (λ b. b && t (at ns v)) (own_members v)) own_windows (length ns)

  own_many : length (reached_rows p) ≡ length (reached (nodes_of p) c)
  own_many = is.many ∙ sym (length-each (reached_of (nodes_of p) (kept (nodes_of p) c)) (numbers Branch (nodes_of p)))

  own_reached : (b v : ℕ) → get_or (get_or (reached_rows p) b []) v false ≡ get_or (get_or (reached (nodes_of p) c) b []) v false
  own_reached b v =
      let ns = nodes_of p in
      elim (cases_lt b (numbers Branch ns)) [
        | inl low ↦
            tells_one (Reached ns c b) (get_or (reached_rows p) b []) (reached_of ns (kept ns c) b) (is.reached b low) (reached_told ns p.job.upward c b) v
            ∙ sym (ap (λ row. get_or row v false) (each_at (reached_of ns (kept ns c)) (numbers Branch ns) b [] low))
        | inr past ↦
            ap (λ row. get_or row v false) (get_or_past (reached_rows p) b [] (omega (arith, is.many)))
            ∙ sym (ap (λ row. get_or row v false) (get_or_past (reached ns c) b [] (omega (arith, is.many, own_many))))
      ]

  own_pattern : (ts : List Task) → pattern_of p ts ≡ pattern_for p.job c ts
  own_pattern ts =
      ap (λ (rows : List (List Rattle.theory.specs.Pattern.Window)). record { period = p.job.period; deadline = p.job.deadline; branches = rows })
      (map_one (branch_of ts) (reached_rows p) (reached (nodes_of p) c) [] own_many (λ b low. branch_one ts _ _ (own_reached b)))

module _ (local : Position → ℕ) (j : Job) (c : ℕ) (p : Plan) (is : IsPlan local j c p) where
  own : IsPlan local p.job c p
  own = subst (λ (k : Job). IsPlan local k c p) (sym is.its_job) is

  pub tasks_are : (t : Node → Bool) → tasks_where p t ≡ tasks local (graph j) j.deadline c t
  tasks_are t = subst (λ (k : Job). tasks_where p t ≡ tasks local (graph k) k.deadline c t) is.its_job (own_tasks local c p own t)

  pub part_is : (g : ℕ) → part_of p g ≡ tasks_made local j c g
  part_is g = tasks_are (tagged g)

  -- of any sub-tasks, of a part or not
  pub pattern_is : (ts : List Task) → pattern_of p ts ≡ pattern_for j c ts
  pattern_is ts = subst (λ (k : Job). pattern_of p ts ≡ pattern_for k c ts) is.its_job (own_pattern local c p own ts)

  pub part_pattern_is : (g : ℕ) → part_pattern p g ≡ pattern_made local j c g
  part_pattern_is g = pattern_is (part_of p g) ∙ ap (pattern_for j c) (part_is g)

  pub members_are : (v : ℕ) → get_or p.members v false ≡ get_or (concrete (graph j) c).members v false
  members_are v = subst (λ (k : Job). get_or p.members v false ≡ get_or (concrete (graph k) c).members v false) is.its_job (own_members local c p own v)

  pub windows_are_made : (v : ℕ) → get_or p.windows v closed ≡ get_or (windows local (graph j) j.deadline (concrete (graph j) c)) v closed
  windows_are_made v =
      subst (λ (k : Job). get_or p.windows v closed ≡ get_or (windows local (graph k) k.deadline (concrete (graph k) c)) v closed) is.its_job (own_windows local c p own v)

  pub many_are : length (reached_rows p) ≡ length (reached (graph j) c)
  many_are = subst (λ (k : Job). length (reached_rows p) ≡ length (reached (graph k) c)) is.its_job (own_many local c p own)

  pub reached_are : (b v : ℕ) → get_or (get_or (reached_rows p) b []) v false ≡ get_or (get_or (reached (graph j) c) b []) v false
  reached_are b v =
      subst (λ (k : Job). get_or (get_or (reached_rows p) b []) v false ≡ get_or (get_or (reached (graph k) c) b []) v false) is.its_job (own_reached local c p own b v)

-- of a job that is made of known nodes and numbers
module _ (local : Position → ℕ) (number period deadline : ℕ) (ns : List Node) (j : Job) (made : MadeOf number period deadline ns j) (c : ℕ) (p : Plan) (is : IsPlan local j c p) where
  pub known_tasks : (t : Node → Bool) → tasks_where p t ≡ tasks local ns deadline c t
  known_tasks t =
      tasks_are local j c p is t ∙ ap (λ d. tasks local (graph j) d c t) made.its_deadline ∙ ap (λ (l : List Node). tasks local l deadline c t) made.its_nodes

  pub known_pattern : (ts : List Task) → pattern_of p ts ≡ pattern period deadline ns c ts
  known_pattern ts =
      pattern_is local j c p is ts
      ∙ ap (λ k. pattern k j.deadline (graph j) c ts) made.its_period
      ∙ ap (λ d. pattern period d (graph j) c ts) made.its_deadline
      ∙ ap (λ (l : List Node). pattern period deadline l c ts) made.its_nodes

  pub known_part : (g : ℕ) → part_of p g ≡ tasks local ns deadline c (tagged g)
  known_part g = known_tasks (tagged g)

  pub known_part_pattern : (g : ℕ) → part_pattern p g ≡ pattern period deadline ns c (tasks local ns deadline c (tagged g))
  known_part_pattern g = known_pattern (part_of p g) ∙ ap (pattern period deadline ns c) (known_part g)

pub plans_alike : (local : Position → ℕ) (j : Job) (c : ℕ) (p q : Plan) → IsPlan local j c p → IsPlan local j c q → PlansAlike p q
plans_alike local j c p q a b = record {
  jobs = a.its_job ∙ sym b.its_job;
  choices = a.its_choice ∙ sym b.its_choice;
  members = λ v. members_are local j c p a v ∙ sym (members_are local j c q b v);
  windows = λ v. windows_are_made local j c p a v ∙ sym (windows_are_made local j c q b v);
  many = many_are local j c p a ∙ sym (many_are local j c q b);
  reached = λ k v. reached_are local j c p a k v ∙ sym (reached_are local j c q b k v);
  tasks = λ t. tasks_are local j c p a t ∙ sym (tasks_are local j c q b t);
  patterns = λ ts. pattern_is local j c p a ts ∙ sym (pattern_is local j c q b ts);
  parts = λ g. part_is local j c p a g ∙ sym (part_is local j c q b g);
  part_patterns = λ g. part_pattern_is local j c p a g ∙ sym (part_pattern_is local j c q b g);
}
