-- Paths: where they end, and one node more in front.
use Rattle.std.proofs.Common.{◌≡◌, ℕ, ◌+◌, true, List, subst, add_assoc}
use Rattle.task.specs.declared.node.Node.{Node}
use Rattle.task.specs.Concrete.{Member, next}
use Rattle.task.specs.Picks.{by_choice}
use Rattle.window.specs.Path.{Path, stay, step}

pub path_end : {ns : List Node} {c : ℕ} {w : ℕ → ℕ} {u v s : ℕ} → Path ns c w u v s → Member ns c v
path_end (stay m) = m
path_end (step p k) = next (path_end p) k

pub path_front : {ns : List Node} {c : ℕ} {w : ℕ → ℕ} {h a z r : ℕ} → Member ns c h → by_choice ns c h a ≡ true → Path ns c w a z r → Path ns c w h z (w h + r)
path_front m k (stay _) = step (stay m) k
path_front {ns} {c} {w} {h} m k (step {x} {s} p e) = subst (Path ns c w h x) (add_assoc (w h) s (w x)) (step (path_front m k p) e)
