-- The calls of a history determine what comes of each.
use Rattle.std.proofs.Common.{◌≡◌, ℕ, List, [], ◌∷◌, map, length, Option, Some, refl, sym, ap, ◌∙◌, subst, arith}
use Rattle.board.specs.Placing.{Rules}
use Rattle.life.specs.declared.call.Answer.{Answer}
use Rattle.life.specs.declared.call.Call.{Call}
use Rattle.life.specs.declared.call.Call.TheVariants.{Arrive, Load, Start, Stop, Tick, Unload}
use Rattle.life.specs.declared.call.Entry.{Entry}
use Rattle.life.specs.Lives.{ends, goes_on, LifeDetermined, Lives, loading, other, Said, said}
use Rattle.life.specs.Standing.{running, Standing, state_of, stopped, total_of}
use Rattle.life.proofs.OneAnswer.{outcomes_same, SameStanding, state_same}
use Rattle.life.proofs.Outcomes.{Outcome, outcome}
use Rattle.life.proofs.Promises.{new_sound, Sound, stays}
use Rattle.runs.specs.State.{State}
use Rattle.seated.specs.Placement.{LawfulRules}

-- a call that says so
abbrev told : Said → Call
told (loading text) = Load (record { ref_ptr = (0, 0); now = text })
told (other call) = call

told_outcome : (rules : Rules) (s : Standing) (call : Call) (a : Answer) (t : Standing) → Outcome rules s call a t → Outcome rules s (told (said call)) a t
told_outcome rules (stopped rs l) (Load text) a t o = o
told_outcome rules (stopped rs l) (Unload n) a t o = o
told_outcome rules (stopped rs l) Start a t o = o
told_outcome rules (stopped rs l) (Arrive n b) a t o = o
told_outcome rules (stopped rs l) (Tick served done) a t o = o
told_outcome rules (stopped rs l) Stop a t o = o
told_outcome rules (running rs l es) (Load text) a t o = o
told_outcome rules (running rs l es) (Unload n) a t o = o
told_outcome rules (running rs l es) Start a t o = o
told_outcome rules (running rs l es) (Arrive n b) a t o = o
told_outcome rules (running rs l es) (Tick served done) a t o = o
told_outcome rules (running rs l es) Stop a t o = o

totals_same : (s v : Standing) → SameStanding s v → total_of s ≡ total_of v
totals_same (stopped rs l) (stopped qs k) same = refl
totals_same (stopped rs l) (running qs k fs) same = absurd same
totals_same (running rs l es) (stopped qs k) same = absurd same
totals_same (running rs l es) (running qs k fs) same = ap (λ (st : State). Some st.lates) (state_same rs qs es same.0 ∙ ap (state_of qs) same.2)

module _ (rules : Rules) (lawful : LawfulRules rules) where
  histories_same : (s v : Standing) → SameStanding s v → Sound rules s → Sound rules v → (one two : List Entry) (t u : Standing) → Lives rules s one t → Lives rules v two u
      → map (λ (e : Entry). said e.call) one ≡ map (λ (e : Entry). said e.call) two
      → (map (λ (e : Entry). e.answer) one ≡ map (λ (e : Entry). e.answer) two) × (map (λ (e : Entry). e.late_total) one ≡ map (λ (e : Entry). e.late_total) two)
  histories_same s v same x y one two t u ends ends calls = (refl, refl)
  histories_same s v same x y one two t u ends (goes_on p rest) calls = absurd (omega (arith, ap length calls))
  histories_same s v same x y one two t u (goes_on p rest) ends calls = absurd (omega (arith, ap length calls))
  histories_same s v same x y one two t u (goes_on {t = after} {entry = entry} {history = history} p rest) (goes_on {t = later} {entry = also} {history = more} q left) calls =
      let call : said entry.call ≡ said also.call = cc in
      let others : map (λ (e : Entry). said e.call) history ≡ map (λ (e : Entry). said e.call) more = cc in
      let here = told_outcome rules s entry.call entry.answer after (outcome rules s after entry.call entry.answer p.answered) in
      let there = told_outcome rules v also.call also.answer later (outcome rules v later also.call also.answer q.answered) in
      let done = outcomes_same rules s v (told (said entry.call)) entry.answer also.answer after later same x y here
      (subst (λ (c : Said). Outcome rules v (told c) also.answer later) (sym call) there) in
      let total : entry.late_total ≡ also.late_total = p.late_total ∙ totals_same after later done.1 ∙ sym q.late_total in
      let so_on = histories_same after later done.1 (stays rules lawful s after entry.call entry.answer x p.answered) (stays rules lawful v later also.call also.answer y q.answered) history more t u rest left others in (
        ap (λ (a : Answer). a ∷ map (λ (e : Entry). e.answer) history) done.0 ∙ ap (λ l. also.answer ∷ l) so_on.0,
        ap (λ (o : Option ℕ). o ∷ map (λ (e : Entry). e.late_total) history) total ∙ ap (λ l. also.late_total ∷ l) so_on.1,
      )

pub life_determined : LifeDetermined
life_determined rules lawful one two s t first second calls =
    histories_same rules lawful (stopped [] rules.listing) (stopped [] rules.listing) (tt, refl) (new_sound rules lawful) (new_sound rules lawful) one two s t first second calls
