-- What a placed job asks of an engine is what its part there asks.
use Rattle.std.proofs.Common.{◌≡◌, ◌≢◌, ℕ, zero, suc, ◌+◌, ◌-◌, ◌*◌, ◌<◌, Bool, true, false, cond, ◌&&◌, nat_eq, List, [], ◌∷◌, ◌++◌, map, filter, length, get_or, refl, sym, ap, ◌∙◌, inl, inr, append-nil, arith}
use Rattle.std.proofs.lemmas.Bool.{cases_eq, eq-eqb, ne_eqb}
use Rattle.std.proofs.lemmas.List.Elements.{filter-append}
use Rattle.std.proofs.lemmas.Option.{same_Some}
use Rattle.engine.specs.Roster.{tag_of}
use Rattle.plan.specs.declared.part.Task.{Task}
use Rattle.plan.specs.declared.plan.Plan.{Plan}
use Rattle.plan.specs.Part.{part_of, tagged, task_at, tasks_below, tasks_where}
use Rattle.plan.specs.Pattern.{branch_of, part_pattern, window_of}
use Rattle.plan.specs.Plan.{nodes_of, reached_rows}
use Rattle.resident.specs.Seats.{has_part}
use Rattle.resident.proofs.Sitting.{some_below}
use Rattle.runs.specs.Job.{on_engine, pattern_on, window_of as window_in}
use Rattle.runs.proofs.Lists.{all_from_mem, map_map, map_on}
use Rattle.seated.specs.Jobs.{job_at, reached_by, sub_task}
use Rattle.seated.specs.Placement.{Placement}
use Rattle.seated.proofs.Lists.{filter_filter, filter_map}
use Rattle.sheet.specs.Sheet.{tag_of as tag_at}
use Rattle.task.specs.declared.node.Node.{Node}
use Rattle.task.specs.declared.node.Node.TheVariants.{Alternative, Conditional, SubTask as Works}
use Rattle.task.specs.Graph.{at}
use Rattle.task.specs.Node.{is_sub_task}
use Rattle.theory.specs.Demand.{at_cut, best, demand, greatest, greatest_below, sum_to}
use Rattle.theory.specs.Pattern.{inner, Pattern, Window}

-- which sub-tasks are kept
kept_below : (p : Plan) (q : Task → Bool) (s t : ℕ → Bool) (n : ℕ) → ((v : ℕ) → v < n → (s v && q (task_at p v)) ≡ t v) → filter q (tasks_below p s n) ≡ tasks_below p t n
kept_below p q s t zero same = refl
kept_below p q s t (suc n) same =
    filter-append q (tasks_below p s n) (cond (s n) (task_at p n ∷ []) [])
    ∙ ap (λ l. l ++ filter q (cond (s n) (task_at p n ∷ []) [])) (kept_below p q s t n (λ v low. same v (omega arith)))
    ∙ ap (λ l. tasks_below p t n ++ l) (one (s n) (task_at p n) ∙ ap (λ b. cond b (task_at p n ∷ []) []) (same n (omega arith)))
  where
    one : (b : Bool) (x : Task) → filter q (cond b (x ∷ []) []) ≡ cond (b && q x) (x ∷ []) []
    one true x = refl
    one false x = refl

none_below : (p : Plan) (n : ℕ) → tasks_below p (λ _. false) n ≡ []
none_below p zero = refl
none_below p (suc n) = append-nil (tasks_below p (λ _. false) n) ∙ none_below p n

-- who is on the engine e
abbrev sits_on : Plan → (ℕ → ℕ) → ℕ → Task → Bool
sits_on p f e t = nat_eq (f (tag_at (at (nodes_of p) t.node))) e

abbrev pub member_where : Plan → (Node → Bool) → ℕ → Bool
member_where p t v = get_or p.members v false && t (at (nodes_of p) v)

module _ (p : Plan) (f : ℕ → ℕ) (e : ℕ) where
  -- the windows of a branch that lie on the engine, where those are the sub-tasks that pass t
  row_on : (row : List Bool) (ts : List Task) → filter (sits_on p f e) (tasks_where p is_sub_task) ≡ ts
      → map window_in (filter (on_engine e) (map (sub_task p f) (reached_by p row))) ≡ branch_of ts row
  row_on row ts are =
      let reached : Task → Bool = λ t. get_or row t.node false in
      ap (map window_in) (filter_map (on_engine e) (sub_task p f) (reached_by p row))
      ∙ (map_map window_in (sub_task p f) (filter (sits_on p f e) (reached_by p row))
      ∙ ap (map window_of) (filter_filter (sits_on p f e) reached (tasks_where p is_sub_task) ∙ ap (filter reached) are))

  rows_on : (ts : List Task) → filter (sits_on p f e) (tasks_where p is_sub_task) ≡ ts
      → (pattern_on e (job_at p f)).branches ≡ map (λ (row : List Bool). branch_of ts row) (reached_rows p)
  rows_on ts are =
      map_on (λ branch. map window_in (filter (on_engine e) branch)) (λ (row : List Bool). map (sub_task p f) (reached_by p row)) (λ (row : List Bool). branch_of ts row) (reached_rows p)
      (all_from_mem _ (reached_rows p) (λ row _. row_on row ts are))

  -- a sub-task's tag is that of a part
  pub its_part : (v : ℕ) → v < length (nodes_of p) → get_or p.members v false ≡ true → tagged (tag_at (at (nodes_of p) v)) (at (nodes_of p) v) ≡ true → has_part p (tag_at (at (nodes_of p) v)) ≡ true
  its_part v low member is = some_below p (member_where p (tagged (tag_at (at (nodes_of p) v)))) (length (nodes_of p)) v low (rw (member, is) refl)

  module _ (tags : List ℕ) (placement : Placement tags p f) (g : ℕ) (here : f g ≡ e) (has : has_part p g ≡ true) where
    node_on : (n : Node) → (tagged (tag_at n) n ≡ true → has_part p (tag_at n) ≡ true) → (is_sub_task n && nat_eq (f (tag_at n)) e) ≡ tagged g n
    node_on (Works tag ticks nodes) part = elim (cases_eq tag g) [
      | inl same ↦ eq-eqb (f tag) e (ap f same ∙ here) ∙ sym (eq-eqb tag g same)
      | inr differ ↦
          ne_eqb (f tag) e (λ there. differ (same_Some tag g (sym (placement tag (part (eq-eqb tag tag refl))) ∙ ap (tag_of tags) (there ∙ sym here) ∙ placement g has)))
          ∙ sym (ne_eqb tag g differ)
    ]
    node_on (Alternative nodes) part = refl
    node_on (Conditional nodes) part = refl

    kept_on : filter (sits_on p f e) (tasks_where p is_sub_task) ≡ part_of p g
    kept_on = kept_below p (sits_on p f e) (member_where p is_sub_task) (member_where p (tagged g)) (length (nodes_of p)) (λ v low. go v low (get_or p.members v false) refl)
      where
        go : (v : ℕ) → v < length (nodes_of p) → (b : Bool) → get_or p.members v false ≡ b
            → ((b && is_sub_task (at (nodes_of p) v)) && nat_eq (f (tag_at (at (nodes_of p) v))) e) ≡ (b && tagged g (at (nodes_of p) v))
        go v low true member = node_on (at (nodes_of p) v) (its_part v low member)
        go v low false member = refl

    -- where a part of the job sits on the engine, the job asks there what the part asks
    pub asks_there : pattern_on e (job_at p f) ≡ part_pattern p g
    asks_there = ap (λ (bs : List (List Window)). record { period = p.job.period; deadline = p.job.deadline; branches = bs }) (rows_on (part_of p g) kept_on)

  module _ (none : (g : ℕ) → has_part p g ≡ true → f g ≢ e) where
    node_off : (n : Node) → (tagged (tag_at n) n ≡ true → has_part p (tag_at n) ≡ true) → (is_sub_task n && nat_eq (f (tag_at n)) e) ≡ false
    node_off (Works tag ticks nodes) part = ne_eqb (f tag) e (none tag (part (eq-eqb tag tag refl)))
    node_off (Alternative nodes) part = refl
    node_off (Conditional nodes) part = refl

    kept_off : filter (sits_on p f e) (tasks_where p is_sub_task) ≡ []
    kept_off =
        kept_below p (sits_on p f e) (member_where p is_sub_task) (λ _. false) (length (nodes_of p)) (λ v low. go v low (get_or p.members v false) refl)
        ∙ none_below p (length (nodes_of p))
      where
        go : (v : ℕ) → v < length (nodes_of p) → (b : Bool) → get_or p.members v false ≡ b
            → ((b && is_sub_task (at (nodes_of p) v)) && nat_eq (f (tag_at (at (nodes_of p) v))) e) ≡ false
        go v low true member = node_off (at (nodes_of p) v) (its_part v low member)
        go v low false member = refl

    -- where none does, the job asks nothing there
    pub asks_nothing : (n : ℕ) → demand (pattern_on e (job_at p f)) n ≡ 0
    asks_nothing n =
        let empty : Pattern = record { period = p.job.period; deadline = p.job.deadline; branches = map (λ (row : List Bool). branch_of [] row) (reached_rows p) } in
        let is : pattern_on e (job_at p f) ≡ empty = ap (λ (bs : List (List Window)). record { period = p.job.period; deadline = p.job.deadline; branches = bs }) (rows_on [] kept_off) in
        ap (λ q. demand q n) is ∙ nothing empty n (no_best (reached_rows p))
      where
        no_best : (rows : List (List Bool)) (u y : ℕ) → greatest (λ ws. inner ws u y) (map (λ (row : List Bool). branch_of [] row) rows) ≡ 0
        no_best [] u y = refl
        no_best (row ∷ rows) u y = let rec = no_best rows u y in omega arith

        no_later : (q : Pattern) → ((u y : ℕ) → best q u y ≡ 0) → (g : ℕ → ℕ) (m : ℕ) → sum_to (λ k. best q 0 (g k)) m ≡ 0
        no_later q z g zero = refl
        no_later q z g (suc m) = omega (arith, no_later q z (λ k. g (suc k)) m, z 0 (g 1))

        no_cut : (h : ℕ → ℕ) → ((u : ℕ) → h u ≡ 0) → (d : ℕ) → greatest_below h d ≡ 0
        no_cut h z zero = refl
        no_cut h z (suc d) = omega (arith, no_cut h z d, z d)

        nothing : (q : Pattern) (n : ℕ) → ((u y : ℕ) → best q u y ≡ 0) → demand q n ≡ 0
        nothing q n z = no_cut (at_cut q n) (λ u. omega (arith, z u (u + n), no_later q z (λ k. u + n - k * q.period) (u + n))) q.deadline
