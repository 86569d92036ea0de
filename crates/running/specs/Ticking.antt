-- Ticks of a board that runs.
--   next_in st e                    what the engine e runs next in the state st
--   Ran st served ran               ran has for each engine what it runs in a tick with the served mask
--   SomeOther engines served done   one of the masks names an engine beyond the first so many
--   NoOther engines served done     neither does
--   TickRefused engines st served done f    on a board with so many engines in the state st, the first question that a tick fails is that of f
use Rattle.std.specs.Prelude.{◌≡◌, ℕ, ◌<◌, ◌≤◌, true, false, cond, ◌||◌, List, Option, None, slice_index_or}
use Rattle.std.specs.Option.{option_map}
use Rattle.board.specs.declared.refusal.Refusal.{Refusal}
use Rattle.board.specs.declared.refusal.Refusal.TheVariants.{Fault, NumberTaken, BoardFull, NoChoice, NoPlacement, NotResident, NoBranch, TooSoon, NoEngine, LastClock, ShortBuffer}
use Rattle.dispatch.specs.declared.candidate.Next.{Next}
use Rattle.dispatch.specs.Candidate.{named}
use Rattle.dispatch.specs.Ticking.{masked}
use Rattle.runs.specs.Next.{next}
use Rattle.runs.specs.State.{State, tasks_of}

abbrev pub next_in : State → ℕ → Option Next
next_in st e = option_map named (next e st.clock (tasks_of st.slots))

abbrev pub Ran : State → ℕ → List (Option Next) → Type 0
Ran st served ran = (e : ℕ) → e < 16 → slice_index_or ran e None ≡ cond (masked served e) (next_in st e) None

abbrev pub SomeOther : ℕ → ℕ → ℕ → Type 0
SomeOther engines served done = (e : ℕ) × (engines ≤ e) × ((masked served e || masked done e) ≡ true)

abbrev pub NoOther : ℕ → ℕ → ℕ → Type 0
NoOther engines served done = (e : ℕ) → engines ≤ e → (masked served e || masked done e) ≡ false

abbrev pub TickRefused : ℕ → State → ℕ → ℕ → Refusal → Type 0
TickRefused engines st served done (Fault f) = ⊥
TickRefused engines st served done NumberTaken = ⊥
TickRefused engines st served done BoardFull = ⊥
TickRefused engines st served done NoChoice = ⊥
TickRefused engines st served done NoPlacement = ⊥
TickRefused engines st served done NotResident = ⊥
TickRefused engines st served done NoBranch = ⊥
TickRefused engines st served done TooSoon = ⊥
TickRefused engines st served done NoEngine = SomeOther engines served done
TickRefused engines st served done LastClock = NoOther engines served done × (st.clock ≡ 2000000000)
TickRefused engines st served done ShortBuffer = ⊥
