-- Under a lawful slack rule the windows of a possible choice hold: each sub-task has room for its work, and none opens before one on a path to it is due.
use Rattle.std.proofs.Common.{◌≡◌, ℕ, zero, suc, ◌+◌, ◌<◌, ◌≤◌, Bool, true, false, cond, ◌&&◌, leb, ◌⊎◌, List, sym, refl, ap, inl, inr, arith}
use Rattle.std.proofs.lemmas.Bool.{and_parts, leb-true, cases_Bool, cases_eq, true≢false, false≢true}
use Rattle.task.specs.declared.node.Node.{Node}
use Rattle.task.specs.declared.node.Node.TheVariants.{SubTask, Alternative, Conditional}
use Rattle.task.specs.Concrete.{Member, next}
use Rattle.task.specs.Graph.{at}
use Rattle.task.specs.Node.{ticks, is_sub_task}
use Rattle.task.specs.Nodes.{Sound}
use Rattle.task.specs.Ranges.{numbers_fit}
use Rattle.task.proofs.Leading.{led_inside}
use Rattle.slack.specs.declared.rule.Position.{Position}
use Rattle.slack.specs.Rule.{Bounds, Lawful}
use Rattle.window.specs.declared.layout.Lengths.{Lengths}
use Rattle.window.specs.declared.layout.Window.{Window}
use Rattle.window.specs.Lengths.{IsLengths, head, tail, level}
use Rattle.window.specs.Path.{work, counts, Path, stay, step, Possible}
use Rattle.window.specs.Windows.{position, deadline_of, offset_of, Before, IsWindows, WindowsHold}
use Rattle.window.proofs.Longest.{rises, member_inside}
use Rattle.window.proofs.Paths.{path_end, path_front}

some_work : (n : Node) → numbers_fit n ≡ true → is_sub_task n ≡ true → 1 ≤ ticks n
some_work (SubTask tag n nodes) fit is =
    leb-true 1 n (and_parts (leb 1 n) (leb n 14400) (and_parts (leb tag 7) (leb 1 n && leb n 14400) fit).1).0
some_work (Alternative nodes) fit is = absurd (false≢true is)
some_work (Conditional nodes) fit is = absurd (false≢true is)

no_work : (n : Node) → is_sub_task n ≡ false → ticks n ≡ 0
no_work (SubTask tag n nodes) is = absurd (true≢false is)
no_work (Alternative nodes) is = refl
no_work (Conditional nodes) is = refl

one_each : (b : Bool) → cond b 1 0 ≤ 1
one_each true = omega arith
one_each false = omega arith

module _ (ns : List Node) (sound : Sound ns) (c : ℕ) where
  path_rises : {w : ℕ → ℕ} {u v s : ℕ} → Path ns c w u v s → u ≤ v
  path_rises (stay m) = omega arith
  path_rises (step {v} {x} p k) = let rec = path_rises p in omega (arith, (rises ns sound c v x k).0)

  -- a path has at most one sub-task for each number up to its end
  few_steps : {u v s : ℕ} → Path ns c (counts ns) u v s → s ≤ v + 1
  few_steps (stay {v} m) = omega (arith, one_each (is_sub_task (at ns v)))
  few_steps (step {v} {x} p k) = let rec = few_steps p in omega (arith, (rises ns sound c v x k).0, one_each (is_sub_task (at ns x)))

  module _ (d : ℕ) (l : Lengths) (is : IsLengths ns c l) (possible : Possible ns c d) (cyclic : d ≤ 14400) where
    head_edge : (u v : ℕ) → Before ns c u v → head l u + work ns v ≤ head l v
    head_edge u v b = let (a, p) = (is.heads u b.0).attained in (is.heads v (next b.0 b.1)).bound a _ (step p b.1)

    level_edge : (u v : ℕ) → Before ns c u v → level l u + counts ns v ≤ level l v
    level_edge u v b = let (a, p) = (is.levels u b.0).attained in (is.levels v (next b.0 b.1)).bound a _ (step p b.1)

    tail_edge : (u v : ℕ) → Before ns c u v → work ns v + tail l v ≤ tail l u
    tail_edge u v b =
        let (x, p) = (is.tails v (next b.0 b.1)).attained in
        let most = (is.tails u b.0).bound x _ (path_front b.0 b.1 p) in
        omega arith

    own_work : (v : ℕ) → Member ns c v → work ns v ≤ head l v
    own_work v m = (is.heads v m).bound v _ (stay m)

    through : {v x r : ℕ} → Path ns c (work ns) v x r → head l v + r ≤ head l x + work ns v
    through (stay m) = omega arith
    through (step {v} {x} p k) = let rec = through p in omega (arith, head_edge v x (path_end p, k))

    bounds : (v : ℕ) → Member ns c v → is_sub_task (at ns v) ≡ true → Bounds (position d l v)
    bounds v m s =
        let work' = some_work (at ns v) (sound.ranged v (led_inside (rises ns sound c) m)) s in
        let one : counts ns v ≡ 1 = ap (λ b. cond b 1 0) s in
        let (x, p) = (is.tails v m).attained in
        let (a, ma, ea) = is.span.attained in
        let (a', pa) = (is.heads a ma).attained in
        let (b, mb, eb) = is.depth.attained in
        let (b', pb) = (is.levels b mb).attained in
        record {
          worked = omega (arith, own_work v m);
          spanned = omega (arith, through p, is.span.bound x (path_end p));
          timely = omega (arith, possible a' a _ pa);
          cyclic = cyclic;
          levelled = omega (arith, (is.levels v m).bound v _ (stay m));
          reached = is.depth.bound v m;
          shallow = omega (arith, few_steps pb, member_inside ns sound c b mb);
        }

    module _ (local : Position → ℕ) (lawful : Lawful local) (w : List Window) (laid : IsWindows ns c d local l w) where
      -- an offset is 0, or the local deadline of a sub-task that stands before
      Source : ℕ → Type 0
      Source v =
          (offset_of w v ≡ 0)
          ⊎ ((x : ℕ) × Member ns c x × (is_sub_task (at ns x) ≡ true) × (offset_of w v ≡ deadline_of w x)
          × (head l x + work ns v ≤ head l v) × (work ns v + tail l v ≤ tail l x) × (level l x + counts ns v ≤ level l v))

      source : (k v : ℕ) → v < k → Member ns c v → Source v
      unfolding Source
      source zero v below m = absurd (omega arith)
      source (suc k) v below m = elim (laid.offsets v m).attained [
        | inl none ↦ inl none.1
        | inr some ↦
            let u = some.0 in
            let b = some.1 in
            elim (cases_Bool (is_sub_task (at ns u))) [
              | inl s ↦ inr (u, b.0, s, sym some.2, head_edge u v b, tail_edge u v b, level_edge u v b)
              | inr f ↦
                  let same = laid.fork u b.0 f in
                  elim (source k u (omega (arith, (rises ns sound c u v b.1).0)) b.0) [
                    | inl z ↦ inl (omega (arith, some.2))
                    | inr q ↦
                        inr (
                          q.0,
                          q.1,
                          q.2,
                          omega (arith, some.2, q.3),
                          omega (arith, q.4, no_work (at ns u) f, head_edge u v b),
                          omega (arith, q.5, no_work (at ns u) f, tail_edge u v b),
                          omega (arith, q.6, level_edge u v b),
                        )
                  ]
            ]
      ]

      roomy : (v : ℕ) → Member ns c v → is_sub_task (at ns v) ≡ true → offset_of w v + work ns v ≤ deadline_of w v
      unfolding Source
      roomy v m s =
          let own = laid.sub_task v m s in
          let in_bounds = bounds v m s in
          elim (source (suc v) v (omega arith) m) [
            | inl z ↦ omega (arith, own_work v m, (lawful.inside (position d l v) in_bounds).0)
            | inr q ↦
                let one : counts ns v ≡ 1 = ap (λ b. cond b 1 0) s in
                let its = laid.sub_task q.0 q.1 q.2 in
                let apart = lawful.spaced (position d l q.0) (position d l v) (bounds q.0 q.1 q.2) in_bounds refl refl refl (work ns v)
                (some_work (at ns v) (sound.ranged v (led_inside (rises ns sound c) m)) s) q.4 (omega (arith, q.5)) (omega (arith, q.6)) in
                omega (arith, q.3)
          ]

      opens_by_end : (v : ℕ) → Member ns c v → offset_of w v ≤ deadline_of w v
      opens_by_end v m = elim (cases_Bool (is_sub_task (at ns v))) [
        | inl s ↦ omega (arith, roomy v m s)
        | inr f ↦ omega (arith, laid.fork v m f)
      ]

      ordered : {u v s : ℕ} → Path ns c (work ns) u v s → u < v → deadline_of w u ≤ offset_of w v
      ordered (stay m) below = absurd (omega arith)
      ordered (step {u} {v} {x} p k) below =
          let last = (laid.offsets x (next (path_end p) k)).bound v (path_end p, k) in
          elim (cases_eq u v) [
            | inl e ↦ omega (arith, ap (λ a. deadline_of w a) e)
            | inr ne ↦ omega (arith, ordered p (omega (arith, path_rises p)), opens_by_end v (path_end p))
          ]

      pub windows_hold : WindowsHold ns c d w
      windows_hold = record {
        roomy = roomy;
        timely = λ v m s. omega (arith, laid.sub_task v m s, (lawful.inside (position d l v) (bounds v m s)).1);
        ordered = λ u v s p below. ordered p below;
      }
