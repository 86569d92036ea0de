-- Numbers and nodes that make a job have a text.
use Rattle.std.proofs.Common.{◌≡◌, ℕ, zero, suc, ◌+◌, ◌-◌, ◌<◌, ◌≤◌, Bool, true, false, cond, not, ◌&&◌, eqb, leb, List, [], ◌∷◌, ◌++◌, length, get_or, replicate, decimal, refl, sym, ap, ◌∙◌, subst, inl, inr, arith, length-append}
use Rattle.std.specs.Prelude.{codes}
use Rattle.std.specs.List.{AllByRecursion}
use Rattle.std.proofs.Math.Seq.{take-append_seam}
use Rattle.std.proofs.lemmas.Bool.{and_from, and_parts, cases_eq, cases_lt, eqb-true, false≢true, le-leb, leb-true, not-true}
use Rattle.std.proofs.lemmas.Fmt.{length-decimal-le}
use Rattle.std.proofs.lemmas.List.{get_or_past, length-replicate}
use Rattle.few.specs.declared.few.Few.{Few}
use Rattle.few.specs.Few.{items}
use Rattle.task.specs.declared.job.Job.{Job}
use Rattle.task.specs.declared.node.Node.{Node}
use Rattle.task.specs.declared.node.Node.TheVariants.{SubTask, Alternative, Conditional}
use Rattle.task.specs.declared.ranges.Field.TheVariants.{Count, Deadline, Number, Period, Tag, Work}
use Rattle.task.specs.Flaws.{MadeOf}
use Rattle.task.specs.Graph.{at, ins, outs, Upward}
use Rattle.task.specs.Node.{after, is_fork, missing}
use Rattle.task.specs.Nodes.{Below, few_forks, fork_fits, ForksFit, NumbersFit}
use Rattle.task.specs.Ranges.{fits, numbers_fit}
use Rattle.text.specs.declared.key.Key as keys
use Rattle.text.specs.declared.value.Kind as kinds
use Rattle.text.specs.JobText.{Full, node_slots, nodes_slots, NodesFit}
use Rattle.text.specs.Slots.{InRange, Sized, Slot, slot, text_of}
use Rattle.text.specs.Value.{Listed, listed, Numeral, places, places_from, Rising, Small}
use Rattle.text.proofs.Drafts.{made_reads}
use Rattle.worked.specs.Cases.{Writes, Written}

-- no place from v on is true
unfoldable pub falls : ℕ → List Bool → Bool
falls v [] = true
falls zero (b ∷ us) = not b && falls zero us
falls (suc v) (b ∷ us) = falls v us

falls_below : (v : ℕ) (us : List Bool) → falls v us ≡ true → Below v us
unfolding falls
falls_below v [] ok u yes' = absurd (false≢true yes')
falls_below zero (b ∷ us) ok zero yes' = absurd (false≢true (sym (not-true b (and_parts (not b) (falls zero us) ok).0) ∙ yes'))
falls_below zero (b ∷ us) ok (suc u) yes' = let rec = falls_below zero us (and_parts (not b) (falls zero us) ok).1 u yes' in omega arith
falls_below (suc v) (b ∷ us) ok zero yes' = omega arith
falls_below (suc v) (b ∷ us) ok (suc u) yes' = let rec = falls_below v us ok u yes' in omega arith

-- the numbers of each node lie in their ranges, and it comes after lower nodes
unfoldable pub nodes_fit : ℕ → List Node → Bool
nodes_fit v [] = true
nodes_fit v (n ∷ ns) = (numbers_fit n && falls v (after n)) && nodes_fit (suc v) ns

node_fits : (v : ℕ) (ns : List Node) → nodes_fit v ns ≡ true → (i : ℕ) → i < length ns → (numbers_fit (at ns i) ≡ true) × Below (v + i) (after (at ns i))
unfolding nodes_fit
node_fits v [] ok i low = absurd (omega arith)
node_fits v (n ∷ ns) ok zero low =
    let here = and_parts (numbers_fit n) (falls v (after n)) (and_parts (numbers_fit n && falls v (after n)) (nodes_fit (suc v) ns) ok).0 in
    (here.0, subst (λ (k : ℕ). Below k (after n)) (let e : v ≡ v + 0 = omega arith in e) (falls_below v (after n) here.1))
node_fits v (n ∷ ns) ok (suc i) low =
    let rec = node_fits (suc v) ns (and_parts (numbers_fit n && falls v (after n)) (nodes_fit (suc v) ns) ok).1 i (omega arith) in
    (rec.0, subst (λ (k : ℕ). Below k (after (at ns i))) (let e : suc v + i ≡ v + suc i = omega arith in e) rec.1)

-- each node's table has its 24 places
unfoldable pub tables_full : List Node → Bool
tables_full [] = true
tables_full (n ∷ ns) = eqb (length (after n)) 24 && tables_full ns

full_at : (ns : List Node) → tables_full ns ≡ true → (i : ℕ) → i < length ns → Full (at ns i)
unfolding tables_full
full_at [] ok i low = absurd (omega arith)
full_at (n ∷ ns) ok zero low = eqb-true (length (after n)) 24 (and_parts (eqb (length (after n)) 24) (tables_full ns) ok).0
full_at (n ∷ ns) ok (suc i) low = full_at ns (and_parts (eqb (length (after n)) 24) (tables_full ns) ok).1 i (omega arith)

unfoldable pub forks_fit : List Node → ℕ → Bool
forks_fit ns zero = true
forks_fit ns (suc k) = forks_fit ns k && fork_fits ns k

fork_at : (ns : List Node) (k : ℕ) → forks_fit ns k ≡ true → (v : ℕ) → v < k → fork_fits ns v ≡ true
unfolding forks_fit
fork_at ns zero ok v low = absurd (omega arith)
fork_at ns (suc k) ok v low =
    let (before, here) = and_parts (forks_fit ns k) (fork_fits ns k) ok in
    elim (cases_eq v k) [
      | inl same ↦ subst (λ (u : ℕ). fork_fits ns u ≡ true) (sym same) here
      | inr differ ↦ fork_at ns k before v (omega arith)
    ]

-- the lines of a job after that of its number
abbrev pub lines_after : ℕ → ℕ → List Node → List Slot
lines_after t d ns =
    slot keys.TheVariants.Period (decimal t)
    ∷ slot (keys.TheVariants.Deadline t) (decimal d)
    ∷ slot keys.TheVariants.Nodes (decimal (length ns))
    ∷ nodes_slots 0 ns

-- with any number these make a job, whose text is short
pub record Sensible (t d : ℕ) (ns : List Node) : Type 0 where
  pub periodic : fits (Period t) ≡ true
  pub due : fits (Deadline t d) ≡ true
  pub counted : fits (Count (length ns)) ≡ true
  pub nodes : nodes_fit 0 ns ≡ true
  pub full : tables_full ns ≡ true
  pub forks : forks_fit ns (length ns) ≡ true
  pub few : few_forks ns ≡ true
  pub low : leb t 14400 ≡ true
  pub brief : leb (length (text_of (lines_after t d ns))) 4000 ≡ true

-- the places of a table rise, and lie where its true places do
loosen : (k : ℕ) (xs : List ℕ) → Rising (suc k) xs → Rising k xs
loosen k [] rise = tt
loosen k (x ∷ xs) rise = (omega (arith, rise.0), rise.1)

places_rise : (k : ℕ) (us : List Bool) → Rising k (places_from k us)
places_rise k [] = tt
places_rise k (true ∷ us) = (omega arith, places_rise (suc k) us)
places_rise k (false ∷ us) = loosen k (places_from (suc k) us) (places_rise (suc k) us)

places_all : (P : ℕ → Type 0) (k : ℕ) (us : List Bool) → ((u : ℕ) → get_or us u false ≡ true → P (k + u)) → AllByRecursion P (places_from k us)
places_all P k [] each = tt
places_all P k (true ∷ us) each =
    (subst P (let e : k + 0 ≡ k = omega arith in e) (each 0 refl), places_all P (suc k) us (λ u yes'. subst P (let e : k + suc u ≡ suc k + u = omega arith in e) (each (suc u) yes')))
places_all P k (false ∷ us) each = places_all P (suc k) us (λ u yes'. subst P (let e : k + suc u ≡ suc k + u = omega arith in e) (each (suc u) yes'))

after_ranged : (v : ℕ) (us : List Bool) → v ≤ 24 → Below v us → Listed (λ n. n < v) (listed (places us))
after_ranged v us few below = record {
  numbers = places us;
  rising = places_rise 0 us;
  small = places_all Small 0 us (λ u yes'. omega (arith, below u yes'));
  all = places_all (λ n. n < v) 0 us (λ u yes'. omega (arith, below u yes'));
  written = refl;
}

numeral : (n : ℕ) → n ≤ 65535 → Numeral n (decimal n)
numeral n few = record { small = omega arith; written = refl }

node_ranged : (v : ℕ) (n : Node) → v ≤ 24 → numbers_fit n ≡ true → Below v (after n) → AllByRecursion InRange (node_slots v n)
node_ranged v (SubTask tag work us) few fit below =
    let (tagged, worked) = and_parts (fits (Tag tag)) (fits (Work work)) fit in
    let small = leb-true tag 7 tagged in
    let short = leb-true work 14400 (and_parts (leb 1 work) (leb work 14400) worked).1 in
    ((kinds.TheVariants.SubTask, refl), ((tag, numeral tag (omega arith), tagged), ((work, numeral work (omega arith), worked), (after_ranged v us few below, tt))))
node_ranged v (Alternative us) few fit below = ((kinds.TheVariants.Alternative, refl), (after_ranged v us few below, tt))
node_ranged v (Conditional us) few fit below = ((kinds.TheVariants.Conditional, refl), (after_ranged v us few below, tt))

all_join : (xs ys : List Slot) → AllByRecursion InRange xs → AllByRecursion InRange ys → AllByRecursion InRange (xs ++ ys)
all_join [] ys a b = b
all_join (x ∷ xs) ys a b = (a.0, all_join xs ys a.1 b)

nodes_ranged : (v : ℕ) (ns : List Node) → v + length ns ≤ 24 → nodes_fit v ns ≡ true → AllByRecursion InRange (nodes_slots v ns)
unfolding nodes_fit
nodes_ranged v [] few ok = tt
nodes_ranged v (n ∷ ns) few ok =
    let (here, later) = and_parts (numbers_fit n && falls v (after n)) (nodes_fit (suc v) ns) ok in
    let (fit, below) = and_parts (numbers_fit n) (falls v (after n)) here in
    all_join (node_slots v n) (nodes_slots (suc v) ns) (node_ranged v n (omega arith) fit (falls_below v (after n) below)) (nodes_ranged (suc v) ns (omega arith) later)

module _ (t d : ℕ) (ns : List Node) (is : Sensible t d ns) (n : ℕ) (numbered : fits (Number n) ≡ true) where
  its_few : length ns ≤ 24
  its_few = leb-true (length ns) 24 (and_parts (leb 1 (length ns)) (leb (length ns) 24) is.counted).1

  abbrev its_nodes : Few Node 24
  its_nodes = record {
    places = ns ++ replicate (24 - length ns) missing;
    len = length ns;
    sized = omega (arith, length-append ns (replicate (24 - length ns) missing), length-replicate (24 - length ns) missing, its_few);
    fits = its_few;
  }

  kept : items its_nodes ≡ ns
  kept = take-append_seam ns (replicate (24 - length ns) missing)

  upward : Upward ns
  upward u v e = elim (cases_lt v (length ns)) [
    | inl low ↦ omega (arith, (node_fits 0 ns is.nodes v low).1 u e)
    | inr past ↦ absurd (false≢true (sym (ap (λ m. get_or (after m) u false) (get_or_past ns v missing past)) ∙ e))
  ]

  forked : ForksFit ns
  forked v = elim (cases_lt v (length ns)) [
    | inl low ↦ fork_at ns (length ns) is.forks v low
    | inr past ↦ ap (λ m. cond (is_fork m) (leb 1 (ins ns v) && (leb 2 (outs ns v) && leb (outs ns v) 3)) true) (get_or_past ns v missing past)
  ]

  its_job : Job
  its_job = record {
    number = n;
    period = t;
    deadline = d;
    nodes = its_nodes;
    numbered = numbered;
    periodic = is.periodic;
    due = is.due;
    counted = subst (λ (l : List Node). fits (Count (length l)) ≡ true) (sym kept) is.counted;
    ranged = subst NumbersFit (sym kept) (λ v low. (node_fits 0 ns is.nodes v low).0);
    upward = subst Upward (sym kept) upward;
    forked = subst ForksFit (sym kept) forked;
    few = subst (λ (l : List Node). few_forks l ≡ true) (sym kept) is.few;
  }

  abbrev its_lines : List Slot
  its_lines = slot keys.TheVariants.Job (decimal n) ∷ lines_after t d ns

  made : MadeOf n t d ns its_job
  unfolding its_job
  made = record { its_number = refl; its_period = refl; its_deadline = refl; its_nodes = kept }

  all_ranged : AllByRecursion InRange its_lines
  all_ranged =
      let small = leb-true n 65535 (and_parts (leb 1 n) (leb n 65535) numbered).1 in
      let within = leb-true d t (and_parts (leb 1 d) (leb d t) is.due).1 in
      let short = leb-true t 14400 is.low in
      let few = its_few in
      ((n, numeral n small, numbered), ((t, numeral t (omega arith), is.periodic), ((d, numeral d (omega arith), is.due), ((length ns, numeral (length ns) (omega arith), is.counted), nodes_ranged 0 ns (omega arith) is.nodes))))

  sized : Sized (text_of its_lines)
  sized =
      let small = leb-true n 65535 (and_parts (leb 1 n) (leb n 65535) numbered).1 in
      let digits = length-decimal-le 5 n (omega arith) (omega arith) (omega arith) in
      let rest = text_of (lines_after t d ns) in
      let front = length-append (codes "job=") (decimal n ++ (10 ∷ rest)) in
      let number = length-append (decimal n) (10 ∷ rest) in
      let key : length (codes "job=") ≡ 4 = refl in
      let brief = leb-true (length rest) 4000 is.brief in
      let all : length (text_of its_lines) ≡ 4 + (length (decimal n) + (1 + length rest)) = omega arith in
      (omega arith, omega arith)

  all_fit : NodesFit ns
  all_fit v low = record {
    numbers = (node_fits 0 ns is.nodes v low).0;
    full = full_at ns is.full v low;
    below = λ u e. omega (arith, (node_fits 0 ns is.nodes v low).1 u e);
  }

  pub writes_lines : Writes (text_of its_lines) n t d ns
  writes_lines = record {
    job = its_job;
    reads = made_reads (text_of its_lines) (record { number = n; period = t; deadline = d; count = length ns }) ns its_job sized (record { written = refl; ranged = all_ranged }) all_fit made;
    made = made;
  }

pub written : (t d : ℕ) (ns : List Node) → Sensible t d ns → Written t d ns
written t d ns is n some few =
    let numbered = and_from (leb 1 n) (leb n 65535) (le-leb 1 n some) (le-leb n 65535 few) in
    (text_of (slot keys.TheVariants.Job (decimal n) ∷ lines_after t d ns), writes_lines t d ns is n numbered)
