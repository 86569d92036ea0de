-- A concrete graph has only one set of lengths, and its windows only one place each.
use Rattle.std.proofs.Common.{◌≡◌, ℕ, zero, suc, ◌+◌, ◌<◌, ◌≤◌, Bool, true, false, List, get_or, sym, ap, ◌∙◌, inl, inr, arith}
use Rattle.std.proofs.lemmas.Bool.{cases_Bool, both_ways}
use Rattle.slack.specs.declared.rule.Position.{Position}
use Rattle.task.specs.declared.node.Node.{Node}
use Rattle.task.specs.Concrete.{Member}
use Rattle.task.specs.Graph.{at}
use Rattle.task.specs.Node.{is_sub_task}
use Rattle.task.specs.Nodes.{Sound}
use Rattle.task.specs.Tables.{Tells}
use Rattle.window.specs.declared.layout.Lengths.{Lengths}
use Rattle.window.specs.declared.layout.Window.{Window}
use Rattle.window.specs.Lengths.{head, IsLengths, LargestOf, level}
use Rattle.window.specs.Path.{counts, LongestAfter, LongestTo, work}
use Rattle.window.specs.Windows.{Before, closed, deadline_of, IsWindows, offset_of, Opens, position}
use Rattle.window.proofs.Longest.{rises}

longest_to_one : (ns : List Node) (c : ℕ) (w : ℕ → ℕ) (v h k : ℕ) → LongestTo ns c w v h → LongestTo ns c w v k → h ≡ k
longest_to_one ns c w v h k a b =
    let (u, p) = a.attained in
    let (x, q) = b.attained in
    omega (arith, a.bound x k q, b.bound u h p)

longest_after_one : (ns : List Node) (c : ℕ) (w : ℕ → ℕ) (v h k : ℕ) → LongestAfter ns c w v h → LongestAfter ns c w v k → h ≡ k
longest_after_one ns c w v h k a b =
    let (u, p) = a.attained in
    let (x, q) = b.attained in
    omega (arith, a.bound x (w v + k) q, b.bound u (w v + h) p)

largest_one : (ns : List Node) (c : ℕ) (f h : ℕ → ℕ) (F H : ℕ) → ((v : ℕ) → Member ns c v → f v ≡ h v) → LargestOf ns c f F → LargestOf ns c h H → F ≡ H
largest_one ns c f h F H same a b =
    let (u, mu, eu) = a.attained in
    let (x, mx, ex) = b.attained in
    omega (arith, a.bound x mx, b.bound u mu, same u mu, same x mx)

-- six numbers that agree make one position
position_one : (p q : Position) → p.deadline ≡ q.deadline → p.span ≡ q.span → p.depth ≡ q.depth → p.head ≡ q.head → p.tail ≡ q.tail → p.level ≡ q.level → p ≡ q
position_one p q d s m h t l =
    ap (λ (x : ℕ). record { deadline = x; span = p.span; depth = p.depth; head = p.head; tail = p.tail; level = p.level }) d
    ∙ ap (λ (x : ℕ). record { deadline = q.deadline; span = x; depth = p.depth; head = p.head; tail = p.tail; level = p.level }) s
    ∙ ap (λ (x : ℕ). record { deadline = q.deadline; span = q.span; depth = x; head = p.head; tail = p.tail; level = p.level }) m
    ∙ ap (λ (x : ℕ). record { deadline = q.deadline; span = q.span; depth = q.depth; head = x; tail = p.tail; level = p.level }) h
    ∙ ap (λ (x : ℕ). record { deadline = q.deadline; span = q.span; depth = q.depth; head = q.head; tail = x; level = p.level }) t
    ∙ ap (λ (x : ℕ). record { deadline = q.deadline; span = q.span; depth = q.depth; head = q.head; tail = q.tail; level = x }) l

window_one : (a b : Window) → a.offset ≡ b.offset → a.deadline ≡ b.deadline → a ≡ b
window_one a b o d =
    ap (λ (x : ℕ). record { offset = x; deadline = a.deadline }) o ∙ ap (λ (x : ℕ). record { offset = b.offset; deadline = x }) d

module _ (ns : List Node) (c d : ℕ) (l k : Lengths) (a : IsLengths ns c l) (b : IsLengths ns c k) where
  pub positions_one : (v : ℕ) → Member ns c v → position d l v ≡ position d k v
  positions_one v m =
      let heads : (u : ℕ) → Member ns c u → head l u ≡ head k u = λ u mu. longest_to_one ns c (work ns) u _ _ (a.heads u mu) (b.heads u mu) in
      let levels : (u : ℕ) → Member ns c u → level l u ≡ level k u = λ u mu. longest_to_one ns c (counts ns) u _ _ (a.levels u mu) (b.levels u mu) in
      position_one (position d l v) (position d k v)
      Rattle.std.proofs.Common.refl
      (largest_one ns c (head l) (head k) l.span k.span heads a.span b.span)
      (largest_one ns c (level l) (level k) l.depth k.depth levels a.depth b.depth)
      (heads v m)
      (longest_after_one ns c (work ns) v _ _ (a.tails v m) (b.tails v m))
      (levels v m)

opens_most : (ns : List Node) (c : ℕ) (f h : ℕ → ℕ) (v o e : ℕ) → ((u : ℕ) → Before ns c u v → f u ≡ h u) → Opens ns c f v o → Opens ns c h v e → o ≤ e
opens_most ns c f h v o e same a b = elim a.attained [
  | inl none ↦ omega (arith, none.1)
  | inr some ↦ omega (arith, some.2, same some.0 some.1, b.bound some.0 some.1)
]

module _ (ns : List Node) (sound : Sound ns) (c d : ℕ) (local : Position → ℕ) (l k : Lengths) (alike : (v : ℕ) → Member ns c v → position d l v ≡ position d k v)
    (w x : List Window) (a : IsWindows ns c d local l w) (b : IsWindows ns c d local k x) where
  members_one : (n v : ℕ) → v < n → Member ns c v → (offset_of w v ≡ offset_of x v) × (deadline_of w v ≡ deadline_of x v)
  members_one zero v low m = absurd (omega arith)
  members_one (suc n) v low m =
      let before : (u : ℕ) → Before ns c u v → deadline_of w u ≡ deadline_of x u
      = λ u e. (members_one n u (omega (arith, (rises ns sound c u v e.1).0)) e.0).1 in
      let up = opens_most ns c (deadline_of w) (deadline_of x) v (offset_of w v) (offset_of x v) before (a.offsets v m) (b.offsets v m) in
      let down = opens_most ns c (deadline_of x) (deadline_of w) v (offset_of x v) (offset_of w v) (λ u e. sym (before u e)) (b.offsets v m) (a.offsets v m) in
      let opens : offset_of w v ≡ offset_of x v = omega arith in (
        opens,
        elim (cases_Bool (is_sub_task (at ns v))) [
          | inl s ↦ a.sub_task v m s ∙ ap local (alike v m) ∙ sym (b.sub_task v m s)
          | inr f ↦ a.fork v m f ∙ opens ∙ sym (b.fork v m f)
        ],
      )

  pub windows_one : (table : List Bool) → Tells (Member ns c) table → (v : ℕ) → get_or w v closed ≡ get_or x v closed
  windows_one table tells v = elim (cases_Bool (get_or table v false)) [
    | inl y ↦ let (o, e) = members_one (suc v) v (omega arith) ((tells v).0 y) in window_one (get_or w v closed) (get_or x v closed) o e
    | inr n ↦
        let out : Member ns c v → ⊥ = λ m. both_ways (get_or table v false) n ((tells v).1 m) in
        window_one (get_or w v closed) (get_or x v closed) ((a.nowhere v out).0 ∙ sym (b.nowhere v out).0) ((a.nowhere v out).1 ∙ sym (b.nowhere v out).1)
  ]
