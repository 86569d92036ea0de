-- What loading answers of a job of known numbers and nodes.
use Rattle.std.proofs.Common.{◌≡◌, ℕ, ◌<◌, ◌≤◌, true, List, length, refl, sym, ap, ◌∙◌, subst, arith}
use Rattle.std.specs.Prelude.{Some}
use Rattle.board.specs.declared.refusal.Refusal.{Refusal}
use Rattle.board.specs.declared.refusal.Refusal.TheVariants.{Fault, NumberTaken, BoardFull, NoChoice, NoPlacement, NotResident, NoBranch, TooSoon, NoEngine, LastClock, ShortBuffer}
use Rattle.board.specs.Loading.{Free, IsLoaded, LoadRefused}
use Rattle.board.specs.Placing.{FitsOn, Rules}
use Rattle.board.specs.Refusal.{refusal_number}
use Rattle.engine.specs.Roster.{tag_of}
use Rattle.resident.specs.declared.resident.Resident.{Resident}
use Rattle.task.specs.declared.job.Job.{Job}
use Rattle.task.specs.declared.node.Node.{Node}
use Rattle.task.specs.declared.node.Numbering.TheVariants.{Choice}
use Rattle.task.specs.Flaws.{graph, MadeOf}
use Rattle.task.specs.Picks.{numbers}
use Rattle.text.specs.JobText.{Reads}
use Rattle.text.proofs.Only.{one_job, refused_unread}
use Rattle.theory.specs.Pattern.{WellFormed}
use Rattle.worked.specs.Cases.{Complete, Placed, Gets, Writes}
use Rattle.worked.proofs.Known.{asks, asks_formed, is_part, is_possible, plan_asks, plan_has, possible_short, span_of}
use Rattle.worked.proofs.Sitting.{part_sits}

module _ (rules : Rules) (rs : List Resident) (text : List ℕ) (n t d : ℕ) (ns : List Node) (writes : Writes text n t d ns) where
  -- each job of the text has these numbers and nodes
  pub told : (j : Job) → Reads text j → MadeOf n t d ns j
  told j reads =
      let same = one_job text writes.job j writes.reads reads in
      let made = writes.made in
      record {
        its_number = same.its_number ∙ made.its_number;
        its_period = same.its_period ∙ made.its_period;
        its_deadline = same.its_deadline ∙ made.its_deadline;
        its_nodes = same.its_nodes ∙ made.its_nodes;
      }

  pub numbers_told : (j : Job) → Reads text j → numbers Choice (graph j) ≡ numbers Choice ns
  numbers_told j reads = ap (numbers Choice) (told j reads).its_nodes

  -- the part of a tag, where the job is so planned
  abbrev pub Asking : ℕ → ℕ → Type 0
  Asking c g = (is_part rules.local d ns c g ≡ true) × WellFormed (asks rules.local t d ns c g)

  abbrev pub Taken : ℕ → ℕ → Type 0
  Taken c g = (e : ℕ) × (tag_of rules.tags e ≡ Some g) × FitsOn rules.supply rs e (asks rules.local t d ns c g)

  -- a part of the choice that fits on no engine of its tag
  pub record Nowhere (c : ℕ) : Type 0 where
    pub tag : ℕ
    pub few : tag ≤ 7
    pub has : is_part rules.local d ns c tag ≡ true
    pub unfit : WellFormed (asks rules.local t d ns c tag) → Taken c tag → ⊥

  module _ (free : Free rs n) (room : length rs < 16) where
    its_free : (j : Job) → Reads text j → Free rs j.number
    its_free j reads = subst (Free rs) (sym (told j reads).its_number) free

    -- a choice that is possible and whose parts all fit is enough
    pub placed_by : (c : ℕ) → c < numbers Choice ns → span_of ns c ≤ d → ((g : ℕ) → Asking c g → Taken c g) → Placed rules rs text
    placed_by c is_choice short takes (Fault f) bad = refused_unread text f bad writes.job writes.reads
    placed_by c is_choice short takes NumberTaken (j, reads, taken) = taken (its_free j reads)
    placed_by c is_choice short takes BoardFull (j, reads, _, full) = omega arith
    placed_by c is_choice short takes NoChoice (j, comes, none) =
        none (c, omega (arith, numbers_told j comes.reads), is_possible n t d ns j (told j comes.reads) c short)
    placed_by c is_choice short takes NoPlacement (j, comes, _, none) =
        let is = told j comes.reads in
        let stuck = none c (omega (arith, numbers_told j comes.reads)) (is_possible n t d ns j is c short) in
        let same = plan_asks n t d ns j is rules.local c stuck.plan stuck.planned stuck.tag in
        let (e, there, fits) = takes stuck.tag (
          sym (plan_has n t d ns j is rules.local c stuck.plan stuck.planned stuck.tag) ∙ stuck.has,
          asks_formed n t d ns j is rules.local c stuck.plan stuck.planned stuck.tag,
        ) in
        stuck.nowhere e there (subst (FitsOn rules.supply rs e) (sym same) fits)
    placed_by c is_choice short takes NotResident bad = bad
    placed_by c is_choice short takes NoBranch bad = bad
    placed_by c is_choice short takes TooSoon bad = bad
    placed_by c is_choice short takes NoEngine bad = bad
    placed_by c is_choice short takes LastClock bad = bad
    placed_by c is_choice short takes ShortBuffer bad = bad

    module _ (complete : Complete rules.listing) where
      none_placed : ((c : ℕ) → c < numbers Choice ns → span_of ns c ≤ d → Nowhere c) → (r : Resident) → IsLoaded rules rs text r → ⊥
      none_placed nowhere r loaded =
          let j = r.plan.job in
          let c = r.plan.choice in
          let reads = loaded.comes.reads in
          let is = told j reads in
          let places = loaded.places in
          let planned = places.placed.planned in
          let none = nowhere c (omega (arith, places.is_choice, numbers_told j reads)) (possible_short n t d ns j is c places.possible) in
          let has = plan_has n t d ns j is rules.local c r.plan planned none.tag ∙ none.has in
          let (e, there, fits) = part_sits rules complete rs j c r places.placed none.tag none.few has in
          none.unfit (asks_formed n t d ns j is rules.local c r.plan planned none.tag)
          (e, there, subst (FitsOn rules.supply rs e) (plan_asks n t d ns j is rules.local c r.plan planned none.tag) fits)

      pub refused_by_10 : (c : ℕ) → c < numbers Choice ns → span_of ns c ≤ d → ((c : ℕ) → c < numbers Choice ns → span_of ns c ≤ d → Nowhere c) → Gets rules rs text 10
      refused_by_10 c is_choice short nowhere = record { never = none_placed nowhere; only = only } where
        only : (f : Refusal) → LoadRefused rules rs text f → refusal_number f ≡ 10
        only (Fault f) bad = absurd (refused_unread text f bad writes.job writes.reads)
        only NumberTaken (j, reads, taken) = absurd (taken (its_free j reads))
        only BoardFull (j, reads, _, full) = absurd (omega arith)
        only NoChoice (j, comes, none) = absurd (none (c, omega (arith, numbers_told j comes.reads), is_possible n t d ns j (told j comes.reads) c short))
        only NoPlacement bad = refl
        only NotResident bad = absurd bad
        only NoBranch bad = absurd bad
        only TooSoon bad = absurd bad
        only NoEngine bad = absurd bad
        only LastClock bad = absurd bad
        only ShortBuffer bad = absurd bad

      pub refused_by_9 : ((c : ℕ) → c < numbers Choice ns → d < span_of ns c) → Gets rules rs text 9
      refused_by_9 long = record {
        never = λ r loaded.
            let j = r.plan.job in
            let reads = loaded.comes.reads in
            let places = loaded.places in
            omega (arith, long r.plan.choice (omega (arith, places.is_choice, numbers_told j reads)), possible_short n t d ns j (told j reads) r.plan.choice places.possible);
        only = only;
      } where
        only : (f : Refusal) → LoadRefused rules rs text f → refusal_number f ≡ 9
        only (Fault f) bad = absurd (refused_unread text f bad writes.job writes.reads)
        only NumberTaken (j, reads, taken) = absurd (taken (its_free j reads))
        only BoardFull (j, reads, _, full) = absurd (omega arith)
        only NoChoice bad = refl
        only NoPlacement (j, comes, (c, is_choice, possible), _) =
            absurd (omega (arith, long c (omega (arith, numbers_told j comes.reads)), possible_short n t d ns j (told j comes.reads) c possible))
        only NotResident bad = absurd bad
        only NoBranch bad = absurd bad
        only TooSoon bad = absurd bad
        only NoEngine bad = absurd bad
        only LastClock bad = absurd bad
        only ShortBuffer bad = absurd bad
