-- What is refused is no job's text: a text that runs through the lines of one writing breaks off in none.
use Rattle.std.proofs.Common.{◌≡◌, ℕ, zero, suc, Bool, true, false, cond, ◌&&◌, leb, List, [], ◌∷◌, length, get_or, decimal, sym, refl, ap, ◌∙◌, subst, inl, inr, arith}
use Rattle.std.proofs.lemmas.Bool.{both_ways}
use Rattle.std.proofs.lemmas.List.{ext_get_or}
use Rattle.task.specs.declared.job.Job.{Job}
use Rattle.task.specs.declared.node.Node.{Node}
use Rattle.task.specs.declared.node.Node.TheVariants.{SubTask, Alternative, Conditional}
use Rattle.task.specs.Flaws.{graph}
use Rattle.task.specs.Graph.{at, edge, count_below, ins, outs}
use Rattle.task.specs.Node.{after, is_fork, is_alternative, is_conditional}
use Rattle.task.specs.Nodes.{fork_fits, few_forks}
use Rattle.text.specs.declared.fault.Fault.{Fault}
use Rattle.text.specs.declared.fault.Fault.TheVariants.{Size, Line, Form, Range, Fork, Forks}
use Rattle.text.specs.declared.key.Key as keys
use Rattle.text.specs.declared.platform_text.Platform.{Platform}
use Rattle.text.specs.declared.value.Kind as kinds
use Rattle.text.specs.JobText.{Written, slots, nodes_slots, written, Forked, Reads}
use Rattle.text.specs.PlatformText as platform
use Rattle.text.specs.Slots.{Slot, slot, Halts, Ranged, Whole}
use Rattle.text.specs.Value.{Numeral, listed, mark_bytes, places, word}
use Rattle.text.proofs.Calendars.{decimal_numeral}
use Rattle.text.proofs.Injective.{set_same}
use Rattle.text.proofs.Walking.{Runs, Breaks, runs_whole, breaks_stops, breaks_overruns, clash_step, match_step}

pub word_apart : (a b : List ℕ) → a ≡ b → (get_or a 0 0 ≡ get_or b 0 0 → ⊥) → ⊥
word_apart a b e no' = no' (ap (λ (l : List ℕ). get_or l 0 0) e)

pub numbers_same : (m n k : ℕ) → decimal m ≡ decimal n → Numeral k (decimal n) → m ≡ n
numbers_same m n k e is = decimal_numeral m k (subst (Numeral k) (sym e) is) ∙ sym (decimal_numeral n k is)

pub breaks_halts : (ss : List Slot) (bs : List ℕ) (f : Fault) → Halts ss bs f → Breaks ss bs
breaks_halts ss bs f (inl stop) = breaks_stops ss bs 0 f stop
breaks_halts ss bs f (inr over) = breaks_overruns ss bs 0 f over

clash_after : (v : ℕ) (us ws : List Bool) (ss ts : List Slot) → ((cs : List ℕ) → Runs ss cs → Breaks ts cs → ⊥) → (bs : List ℕ)
    → Runs (slot (keys.TheVariants.After v) (listed (places us)) ∷ ss) bs → Breaks (slot (keys.TheVariants.After v) (listed (places ws)) ∷ ts) bs → ⊥
clash_after v us ws ss ts later bs = clash_step (keys.TheVariants.After v) (listed (places us)) (listed (places ws)) ss ts (λ cs _ _ _ run break. later cs run break) bs

clash_nodes : (v : ℕ) (ns ms : List Node) → length ns ≡ length ms → (bs : List ℕ) → Runs (nodes_slots v ns) bs → Breaks (nodes_slots v ms) bs → ⊥
clash_nodes v [] [] e bs run break = omega (arith, ap length run)
clash_nodes v [] (m ∷ ms) e bs run break = omega arith
clash_nodes v (n ∷ ns) [] e bs run break = omega arith
clash_nodes v (SubTask t w us ∷ ns) (SubTask t' w' us' ∷ ms) e bs run break =
    clash_step keys.TheVariants.Kind (word kinds.TheVariants.SubTask) (word kinds.TheVariants.SubTask)
    (slot keys.TheVariants.Tag (decimal t) ∷ slot keys.TheVariants.Ticks (decimal w) ∷ slot (keys.TheVariants.After v) (listed (places us)) ∷ nodes_slots (suc v) ns)
    (slot keys.TheVariants.Tag (decimal t') ∷ slot keys.TheVariants.Ticks (decimal w') ∷ slot (keys.TheVariants.After v) (listed (places us')) ∷ nodes_slots (suc v) ms)
    (λ cs _ _ _ run break.
    clash_step keys.TheVariants.Tag (decimal t) (decimal t')
    (slot keys.TheVariants.Ticks (decimal w) ∷ slot (keys.TheVariants.After v) (listed (places us)) ∷ nodes_slots (suc v) ns)
    (slot keys.TheVariants.Ticks (decimal w') ∷ slot (keys.TheVariants.After v) (listed (places us')) ∷ nodes_slots (suc v) ms)
    (λ cs _ _ _ run break.
    clash_step keys.TheVariants.Ticks (decimal w) (decimal w')
    (slot (keys.TheVariants.After v) (listed (places us)) ∷ nodes_slots (suc v) ns)
    (slot (keys.TheVariants.After v) (listed (places us')) ∷ nodes_slots (suc v) ms)
    (λ cs _ _ _ run break. clash_after v us us' (nodes_slots (suc v) ns) (nodes_slots (suc v) ms) (clash_nodes (suc v) ns ms (omega arith)) cs run break) cs run break) cs run break) bs run break
clash_nodes v (Alternative us ∷ ns) (Alternative us' ∷ ms) e bs run break =
    clash_step keys.TheVariants.Kind (word kinds.TheVariants.Alternative) (word kinds.TheVariants.Alternative)
    (slot (keys.TheVariants.After v) (listed (places us)) ∷ nodes_slots (suc v) ns) (slot (keys.TheVariants.After v) (listed (places us')) ∷ nodes_slots (suc v) ms)
    (λ cs _ _ _ run break. clash_after v us us' (nodes_slots (suc v) ns) (nodes_slots (suc v) ms) (clash_nodes (suc v) ns ms (omega arith)) cs run break) bs run break
clash_nodes v (Conditional us ∷ ns) (Conditional us' ∷ ms) e bs run break =
    clash_step keys.TheVariants.Kind (word kinds.TheVariants.Conditional) (word kinds.TheVariants.Conditional)
    (slot (keys.TheVariants.After v) (listed (places us)) ∷ nodes_slots (suc v) ns) (slot (keys.TheVariants.After v) (listed (places us')) ∷ nodes_slots (suc v) ms)
    (λ cs _ _ _ run break. clash_after v us us' (nodes_slots (suc v) ns) (nodes_slots (suc v) ms) (clash_nodes (suc v) ns ms (omega arith)) cs run break) bs run break
clash_nodes v (SubTask t w us ∷ ns) (Alternative us' ∷ ms) e bs run break =
    clash_step keys.TheVariants.Kind (word kinds.TheVariants.SubTask) (word kinds.TheVariants.Alternative) (slot keys.TheVariants.Tag (decimal t) ∷ slot keys.TheVariants.Ticks (decimal w) ∷ slot (keys.TheVariants.After v) (listed (places us)) ∷ nodes_slots (suc v) ns) (slot (keys.TheVariants.After v) (listed (places us')) ∷ nodes_slots (suc v) ms)
    (λ cs same _ _ _ _. word_apart (word kinds.TheVariants.SubTask) (word kinds.TheVariants.Alternative) same (λ z. omega arith)) bs run break
clash_nodes v (SubTask t w us ∷ ns) (Conditional us' ∷ ms) e bs run break =
    clash_step keys.TheVariants.Kind (word kinds.TheVariants.SubTask) (word kinds.TheVariants.Conditional) (slot keys.TheVariants.Tag (decimal t) ∷ slot keys.TheVariants.Ticks (decimal w) ∷ slot (keys.TheVariants.After v) (listed (places us)) ∷ nodes_slots (suc v) ns) (slot (keys.TheVariants.After v) (listed (places us')) ∷ nodes_slots (suc v) ms)
    (λ cs same _ _ _ _. word_apart (word kinds.TheVariants.SubTask) (word kinds.TheVariants.Conditional) same (λ z. omega arith)) bs run break
clash_nodes v (Alternative us ∷ ns) (SubTask t' w' us' ∷ ms) e bs run break =
    clash_step keys.TheVariants.Kind (word kinds.TheVariants.Alternative) (word kinds.TheVariants.SubTask) (slot (keys.TheVariants.After v) (listed (places us)) ∷ nodes_slots (suc v) ns) (slot keys.TheVariants.Tag (decimal t') ∷ slot keys.TheVariants.Ticks (decimal w') ∷ slot (keys.TheVariants.After v) (listed (places us')) ∷ nodes_slots (suc v) ms)
    (λ cs same _ _ _ _. word_apart (word kinds.TheVariants.Alternative) (word kinds.TheVariants.SubTask) same (λ z. omega arith)) bs run break
clash_nodes v (Alternative us ∷ ns) (Conditional us' ∷ ms) e bs run break =
    clash_step keys.TheVariants.Kind (word kinds.TheVariants.Alternative) (word kinds.TheVariants.Conditional) (slot (keys.TheVariants.After v) (listed (places us)) ∷ nodes_slots (suc v) ns) (slot (keys.TheVariants.After v) (listed (places us')) ∷ nodes_slots (suc v) ms)
    (λ cs same _ _ _ _. word_apart (word kinds.TheVariants.Alternative) (word kinds.TheVariants.Conditional) same (λ z. omega arith)) bs run break
clash_nodes v (Conditional us ∷ ns) (SubTask t' w' us' ∷ ms) e bs run break =
    clash_step keys.TheVariants.Kind (word kinds.TheVariants.Conditional) (word kinds.TheVariants.SubTask) (slot (keys.TheVariants.After v) (listed (places us)) ∷ nodes_slots (suc v) ns) (slot keys.TheVariants.Tag (decimal t') ∷ slot keys.TheVariants.Ticks (decimal w') ∷ slot (keys.TheVariants.After v) (listed (places us')) ∷ nodes_slots (suc v) ms)
    (λ cs same _ _ _ _. word_apart (word kinds.TheVariants.Conditional) (word kinds.TheVariants.SubTask) same (λ z. omega arith)) bs run break
clash_nodes v (Conditional us ∷ ns) (Alternative us' ∷ ms) e bs run break =
    clash_step keys.TheVariants.Kind (word kinds.TheVariants.Conditional) (word kinds.TheVariants.Alternative) (slot (keys.TheVariants.After v) (listed (places us)) ∷ nodes_slots (suc v) ns) (slot (keys.TheVariants.After v) (listed (places us')) ∷ nodes_slots (suc v) ms)
    (λ cs same _ _ _ _. word_apart (word kinds.TheVariants.Conditional) (word kinds.TheVariants.Alternative) same (λ z. omega arith)) bs run break

abbrev from_nodes : Written → List Slot
from_nodes w = slot keys.TheVariants.Nodes (decimal (length w.nodes)) ∷ nodes_slots 0 w.nodes

abbrev pub from_deadline : Written → ℕ → List Slot
from_deadline w period = slot (keys.TheVariants.Deadline period) (decimal w.deadline) ∷ from_nodes w

abbrev from_period : Written → List Slot
from_period w = slot keys.TheVariants.Period (decimal w.period) ∷ from_deadline w w.period

pub clash_slots : (w x : Written) (bs : List ℕ) → Runs (slots w) bs → Breaks (slots x) bs → ⊥
clash_slots w x =
    clash_step keys.TheVariants.Job (decimal w.number) (decimal x.number) (from_period w) (from_period x)
    (λ cs _ _ _ run break. clash_step keys.TheVariants.Period (decimal w.period) (decimal x.period) (from_deadline w w.period) (from_deadline x x.period)
    (λ cs e r q run break.
    let same = numbers_same w.period x.period q.0 e q.1 in
    clash_step (keys.TheVariants.Deadline w.period) (decimal w.deadline) (decimal x.deadline) (from_nodes w) (from_nodes x)
    (λ cs _ _ _ run break. clash_step keys.TheVariants.Nodes (decimal (length w.nodes)) (decimal (length x.nodes)) (nodes_slots 0 w.nodes) (nodes_slots 0 x.nodes)
    (λ cs e r q run break. clash_nodes 0 w.nodes x.nodes (numbers_same (length w.nodes) (length x.nodes) q.0 e q.1) cs run break) cs run break)
    cs run (subst (λ p. Breaks (from_deadline x p) cs) (sym same) break))
    cs run break)

-- a text that is refused at a line is no job's
pub line_unread : (bs : List ℕ) (f : Fault) (w : Written) → Halts (slots w) bs f → (j : Job) → Reads bs j → ⊥
line_unread bs f w halts j reads =
    clash_slots (written j) w bs (runs_whole (slots (written j)) bs reads.whole.written reads.whole.ranged) (breaks_halts (slots w) bs f halts)

-- two nodes of one kind that come after the same nodes, and are one where their tables have the same length
pub record Alike (n m : Node) : Type 0 where
  pub same : length (after n) ≡ length (after m) → n ≡ m
  pub forks : is_fork n ≡ is_fork m
  pub alternatives : is_alternative n ≡ is_alternative m
  pub conditionals : is_conditional n ≡ is_conditional m
  pub edges : (u : ℕ) → get_or (after n) u false ≡ get_or (after m) u false

after_same : (v : ℕ) (us ws : List Bool) → listed (places us) ≡ listed (places ws) → Ranged (keys.TheVariants.After v) (listed (places ws)) → (u : ℕ) → get_or us u false ≡ get_or ws u false
after_same v us ws e q = set_same us ws q.numbers q.small q.written e

tables_same : (us ws : List Bool) → ((u : ℕ) → get_or us u false ≡ get_or ws u false) → length us ≡ length ws → us ≡ ws
tables_same us ws edges long = ext_get_or false us ws long (λ u low. edges u)

sub_tasks_same : (t t' w w' : ℕ) (us us' : List Bool) → t ≡ t' → w ≡ w' → us ≡ us' → SubTask t w us ≡ SubTask t' w' us'
sub_tasks_same t t' w w' us us' a b c = ap (λ x. SubTask x w us) a ∙ ap (λ x. SubTask t' x us) b ∙ ap (λ x. SubTask t' w' x) c

match_nodes : (v : ℕ) (ns ms : List Node) → length ns ≡ length ms → (bs : List ℕ) → Runs (nodes_slots v ns) bs → Runs (nodes_slots v ms) bs → (i : ℕ) → Alike (at ns i) (at ms i)
match_nodes v [] [] e bs run other i = record { same = λ long. refl; forks = refl; alternatives = refl; conditionals = refl; edges = λ u. refl }
match_nodes v [] (m ∷ ms) e bs run other i = absurd (omega arith)
match_nodes v (n ∷ ns) [] e bs run other i = absurd (omega arith)
match_nodes v (SubTask t w us ∷ ns) (SubTask t' w' us' ∷ ms) e bs run other i =
    let a = match_step keys.TheVariants.Kind (word kinds.TheVariants.SubTask) (word kinds.TheVariants.SubTask)
    (slot keys.TheVariants.Tag (decimal t) ∷ slot keys.TheVariants.Ticks (decimal w) ∷ slot (keys.TheVariants.After v) (listed (places us)) ∷ nodes_slots (suc v) ns)
    (slot keys.TheVariants.Tag (decimal t') ∷ slot keys.TheVariants.Ticks (decimal w') ∷ slot (keys.TheVariants.After v) (listed (places us')) ∷ nodes_slots (suc v) ms) bs run other in
    let b = match_step keys.TheVariants.Tag (decimal t) (decimal t')
    (slot keys.TheVariants.Ticks (decimal w) ∷ slot (keys.TheVariants.After v) (listed (places us)) ∷ nodes_slots (suc v) ns)
    (slot keys.TheVariants.Ticks (decimal w') ∷ slot (keys.TheVariants.After v) (listed (places us')) ∷ nodes_slots (suc v) ms) a.0 a.4 a.5 in
    let c = match_step keys.TheVariants.Ticks (decimal w) (decimal w')
    (slot (keys.TheVariants.After v) (listed (places us)) ∷ nodes_slots (suc v) ns) (slot (keys.TheVariants.After v) (listed (places us')) ∷ nodes_slots (suc v) ms) b.0 b.4 b.5 in
    let d = match_step (keys.TheVariants.After v) (listed (places us)) (listed (places us')) (nodes_slots (suc v) ns) (nodes_slots (suc v) ms) c.0 c.4 c.5 in
    elim i as (λ k. Alike (at (SubTask t w us ∷ ns) k) (at (SubTask t' w' us' ∷ ms) k)) [
      | zero ↦
          let edges = after_same v us us' d.1 d.3 in
          record { same = λ long. sub_tasks_same t t' w w' us us' (numbers_same t t' b.3.0 b.1 b.3.1) (numbers_same w w' c.3.0 c.1 c.3.1) (tables_same us us' edges long); forks = refl; alternatives = refl; conditionals = refl; edges = edges }
      | suc k ↦ match_nodes (suc v) ns ms (omega arith) d.0 d.4 d.5 k
    ]
match_nodes v (Alternative us ∷ ns) (Alternative us' ∷ ms) e bs run other i =
    let a = match_step keys.TheVariants.Kind (word kinds.TheVariants.Alternative) (word kinds.TheVariants.Alternative)
    (slot (keys.TheVariants.After v) (listed (places us)) ∷ nodes_slots (suc v) ns) (slot (keys.TheVariants.After v) (listed (places us')) ∷ nodes_slots (suc v) ms) bs run other in
    let d = match_step (keys.TheVariants.After v) (listed (places us)) (listed (places us')) (nodes_slots (suc v) ns) (nodes_slots (suc v) ms) a.0 a.4 a.5 in
    elim i as (λ k. Alike (at (Alternative us ∷ ns) k) (at (Alternative us' ∷ ms) k)) [
      | zero ↦
          let edges = after_same v us us' d.1 d.3 in
          record { same = λ long. ap Alternative (tables_same us us' edges long); forks = refl; alternatives = refl; conditionals = refl; edges = edges }
      | suc k ↦ match_nodes (suc v) ns ms (omega arith) d.0 d.4 d.5 k
    ]
match_nodes v (Conditional us ∷ ns) (Conditional us' ∷ ms) e bs run other i =
    let a = match_step keys.TheVariants.Kind (word kinds.TheVariants.Conditional) (word kinds.TheVariants.Conditional)
    (slot (keys.TheVariants.After v) (listed (places us)) ∷ nodes_slots (suc v) ns) (slot (keys.TheVariants.After v) (listed (places us')) ∷ nodes_slots (suc v) ms) bs run other in
    let d = match_step (keys.TheVariants.After v) (listed (places us)) (listed (places us')) (nodes_slots (suc v) ns) (nodes_slots (suc v) ms) a.0 a.4 a.5 in
    elim i as (λ k. Alike (at (Conditional us ∷ ns) k) (at (Conditional us' ∷ ms) k)) [
      | zero ↦
          let edges = after_same v us us' d.1 d.3 in
          record { same = λ long. ap Conditional (tables_same us us' edges long); forks = refl; alternatives = refl; conditionals = refl; edges = edges }
      | suc k ↦ match_nodes (suc v) ns ms (omega arith) d.0 d.4 d.5 k
    ]
match_nodes v (SubTask t w us ∷ ns) (Alternative us' ∷ ms) e bs run other i =
    absurd (word_apart (word kinds.TheVariants.SubTask) (word kinds.TheVariants.Alternative)
    (match_step keys.TheVariants.Kind (word kinds.TheVariants.SubTask) (word kinds.TheVariants.Alternative) (slot keys.TheVariants.Tag (decimal t) ∷ slot keys.TheVariants.Ticks (decimal w) ∷ slot (keys.TheVariants.After v) (listed (places us)) ∷ nodes_slots (suc v) ns) (slot (keys.TheVariants.After v) (listed (places us')) ∷ nodes_slots (suc v) ms) bs run other).1 (λ z. omega arith))
match_nodes v (SubTask t w us ∷ ns) (Conditional us' ∷ ms) e bs run other i =
    absurd (word_apart (word kinds.TheVariants.SubTask) (word kinds.TheVariants.Conditional)
    (match_step keys.TheVariants.Kind (word kinds.TheVariants.SubTask) (word kinds.TheVariants.Conditional) (slot keys.TheVariants.Tag (decimal t) ∷ slot keys.TheVariants.Ticks (decimal w) ∷ slot (keys.TheVariants.After v) (listed (places us)) ∷ nodes_slots (suc v) ns) (slot (keys.TheVariants.After v) (listed (places us')) ∷ nodes_slots (suc v) ms) bs run other).1 (λ z. omega arith))
match_nodes v (Alternative us ∷ ns) (SubTask t' w' us' ∷ ms) e bs run other i =
    absurd (word_apart (word kinds.TheVariants.Alternative) (word kinds.TheVariants.SubTask)
    (match_step keys.TheVariants.Kind (word kinds.TheVariants.Alternative) (word kinds.TheVariants.SubTask) (slot (keys.TheVariants.After v) (listed (places us)) ∷ nodes_slots (suc v) ns) (slot keys.TheVariants.Tag (decimal t') ∷ slot keys.TheVariants.Ticks (decimal w') ∷ slot (keys.TheVariants.After v) (listed (places us')) ∷ nodes_slots (suc v) ms) bs run other).1 (λ z. omega arith))
match_nodes v (Alternative us ∷ ns) (Conditional us' ∷ ms) e bs run other i =
    absurd (word_apart (word kinds.TheVariants.Alternative) (word kinds.TheVariants.Conditional)
    (match_step keys.TheVariants.Kind (word kinds.TheVariants.Alternative) (word kinds.TheVariants.Conditional) (slot (keys.TheVariants.After v) (listed (places us)) ∷ nodes_slots (suc v) ns) (slot (keys.TheVariants.After v) (listed (places us')) ∷ nodes_slots (suc v) ms) bs run other).1 (λ z. omega arith))
match_nodes v (Conditional us ∷ ns) (SubTask t' w' us' ∷ ms) e bs run other i =
    absurd (word_apart (word kinds.TheVariants.Conditional) (word kinds.TheVariants.SubTask)
    (match_step keys.TheVariants.Kind (word kinds.TheVariants.Conditional) (word kinds.TheVariants.SubTask) (slot (keys.TheVariants.After v) (listed (places us)) ∷ nodes_slots (suc v) ns) (slot keys.TheVariants.Tag (decimal t') ∷ slot keys.TheVariants.Ticks (decimal w') ∷ slot (keys.TheVariants.After v) (listed (places us')) ∷ nodes_slots (suc v) ms) bs run other).1 (λ z. omega arith))
match_nodes v (Conditional us ∷ ns) (Alternative us' ∷ ms) e bs run other i =
    absurd (word_apart (word kinds.TheVariants.Conditional) (word kinds.TheVariants.Alternative)
    (match_step keys.TheVariants.Kind (word kinds.TheVariants.Conditional) (word kinds.TheVariants.Alternative) (slot (keys.TheVariants.After v) (listed (places us)) ∷ nodes_slots (suc v) ns) (slot (keys.TheVariants.After v) (listed (places us')) ∷ nodes_slots (suc v) ms) bs run other).1 (λ z. omega arith))

count_same : (p q : ℕ → Bool) → ((k : ℕ) → p k ≡ q k) → (n : ℕ) → count_below p n ≡ count_below q n
count_same p q same zero = refl
count_same p q same (suc n) = let rec = count_same p q same n in let here : ◌≡◌ {A = ℕ} (cond (p n) 1 0) (cond (q n) 1 0) = ap (λ b. cond b 1 0) (same n) in omega arith

module _ (ns ms : List Node) (long : length ns ≡ length ms) (alike : (i : ℕ) → Alike (at ns i) (at ms i)) where
  pub fork_same : (v : ℕ) → fork_fits ns v ≡ fork_fits ms v
  fork_same v =
      let into = count_same (λ u. edge ns u v) (λ u. edge ms u v) (λ u. (alike v).edges u) v in
      let out = count_same (λ w. edge ns v w) (λ w. edge ms v w) (λ w. (alike w).edges v) (length ns) ∙ ap (count_below (λ w. edge ms v w)) long in
      ap (λ b. cond b (leb 1 (ins ns v) && (leb 2 (outs ns v) && leb (outs ns v) 3)) true) (alike v).forks
      ∙ ap (λ i. cond (is_fork (at ms v)) (leb 1 i && (leb 2 (outs ns v) && leb (outs ns v) 3)) true) into
      ∙ ap (λ o. cond (is_fork (at ms v)) (leb 1 (ins ms v) && (leb 2 o && leb o 3)) true) out

  few_same : few_forks ns ≡ few_forks ms
  few_same =
      let a = count_same (λ v. is_alternative (at ns v)) (λ v. is_alternative (at ms v)) (λ v. (alike v).alternatives) (length ns) ∙ ap (count_below (λ v. is_alternative (at ms v))) long in
      let c = count_same (λ v. is_conditional (at ns v)) (λ v. is_conditional (at ms v)) (λ v. (alike v).conditionals) (length ns) ∙ ap (count_below (λ v. is_conditional (at ms v))) long in
      ap (λ x. leb x 4 && leb (count_below (λ v. is_conditional (at ns v)) (length ns)) 4) a ∙ ap (λ y. leb (count_below (λ v. is_alternative (at ms v)) (length ms)) 4 && leb y 4) c

-- two writings of one text
pub record Matched (w x : Written) : Type 0 where
  pub number : w.number ≡ x.number
  pub period : w.period ≡ x.period
  pub deadline : w.deadline ≡ x.deadline
  pub long : length w.nodes ≡ length x.nodes
  pub alike : (i : ℕ) → Alike (at w.nodes i) (at x.nodes i)

pub match_slots : (w x : Written) (bs : List ℕ) → Runs (slots w) bs → Runs (slots x) bs → Matched w x
match_slots w x bs run other =
    let a = match_step keys.TheVariants.Job (decimal w.number) (decimal x.number) (from_period w) (from_period x) bs run other in
    let b = match_step keys.TheVariants.Period (decimal w.period) (decimal x.period) (from_deadline w w.period) (from_deadline x x.period) a.0 a.4 a.5 in
    let same = numbers_same w.period x.period b.3.0 b.1 b.3.1 in
    let c = match_step (keys.TheVariants.Deadline w.period) (decimal w.deadline) (decimal x.deadline) (from_nodes w) (from_nodes x) b.0 b.4 (subst (λ p. Runs (from_deadline x p) b.0) (sym same) b.5) in
    let d = match_step keys.TheVariants.Nodes (decimal (length w.nodes)) (decimal (length x.nodes)) (nodes_slots 0 w.nodes) (nodes_slots 0 x.nodes) c.0 c.4 c.5 in
    let long = numbers_same (length w.nodes) (length x.nodes) d.3.0 d.1 d.3.1 in
    record {
      number = numbers_same w.number x.number a.3.0 a.1 a.3.1;
      period = same;
      deadline = numbers_same w.deadline x.deadline c.3.0 c.1 c.3.1;
      long = long;
      alike = match_nodes 0 w.nodes x.nodes long d.0 d.4 d.5;
    }

-- nor is one whose forks are at fault
pub forks_unread : (bs : List ℕ) (f : Fault) (w : Written) → Whole (slots w) bs → Forked w.nodes f → (j : Job) → Reads bs j → ⊥
forks_unread bs f w whole forked j reads =
    let same = match_slots (written j) w bs (runs_whole (slots (written j)) bs reads.whole.written reads.whole.ranged) (runs_whole (slots w) bs whole.written whole.ranged) in
    faulty f forked same.long same.alike
  where
    faulty : (f : Fault) → Forked w.nodes f → length (graph j) ≡ length w.nodes → ((i : ℕ) → Alike (at (graph j) i) (at w.nodes i)) → ⊥
    faulty Size x long alike = x
    faulty (Line n) x long alike = x
    faulty (Form n) x long alike = x
    faulty (Range n) x long alike = x
    faulty (Fork v) x long alike = both_ways (fork_fits w.nodes v) x.0 (sym (fork_same (graph j) w.nodes long alike v) ∙ j.forked v)
    faulty Forks x long alike = both_ways (few_forks w.nodes) x.1 (sym (few_same (graph j) w.nodes long alike) ∙ j.few)

clash_engines : (ss ts : List platform.Said) → length ss ≡ length ts → (bs : List ℕ) → Runs (platform.engines_slots ss) bs → Breaks (platform.engines_slots ts) bs → ⊥
clash_engines [] [] e bs run break = omega (arith, ap length run)
clash_engines [] (t ∷ ts) e bs run break = omega arith
clash_engines (s ∷ ss) [] e bs run break = omega arith
clash_engines (s ∷ ss) (t ∷ ts) e bs run break =
    clash_step keys.TheVariants.Tag (decimal s.tag) (decimal t.tag)
    (slot keys.TheVariants.Marks (mark_bytes s.marks) ∷ platform.engines_slots ss) (slot keys.TheVariants.Marks (mark_bytes t.marks) ∷ platform.engines_slots ts)
    (λ cs _ _ _ run break. clash_step keys.TheVariants.Marks (mark_bytes s.marks) (mark_bytes t.marks) (platform.engines_slots ss) (platform.engines_slots ts)
    (λ cs _ _ _ run break. clash_engines ss ts (omega arith) cs run break) cs run break) bs run break

-- a platform text that is refused is no platform's
pub platform_unread : (bs : List ℕ) (f : Fault) (ts : List platform.Said) → Halts (platform.slots ts) bs f → (p : Platform) → platform.Reads bs p → ⊥
platform_unread bs f ts halts p reads =
    let ss = platform.all_said p in
    clash_step keys.TheVariants.Engines (decimal (length ss)) (decimal (length ts)) (platform.engines_slots ss) (platform.engines_slots ts)
    (λ cs e r q run break. clash_engines ss ts (numbers_same (length ss) (length ts) q.0 e q.1) cs run break)
    bs (runs_whole (platform.slots ss) bs reads.whole.written reads.whole.ranged) (breaks_halts (platform.slots ts) bs f halts)
