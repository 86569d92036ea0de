-- A history of which the first calls are made.
use Rattle.std.proofs.Common.{◌≡◌, ℕ, ◌+◌, ◌<◌, ◌≤◌, List, [], map, length, take, get_or, Some, Option, refl, sym, ap, ◌∙◌, subst}
use Rattle.std.specs.Prelude.{slice_set}
use Rattle.std.proofs.Math.Seq.{map-set_same}
use Rattle.std.proofs.lemmas.List.{length-set, take_all, take_more_set}
use Rattle.board.specs.declared.board.Board.{Board}
use Rattle.board.specs.Placing.{Rules}
use Rattle.board.specs.Residents.{jobs}
use Rattle.life.specs.declared.any_board.AnyBoard.{AnyBoard as Code}
use Rattle.life.specs.declared.any_board.AnyBoard.TheVariants.{Running, Stopped}
use Rattle.life.specs.declared.call.Answer.{Answer}
use Rattle.life.specs.declared.call.Call.{Call}
use Rattle.life.specs.declared.call.Entry.{Entry}
use Rattle.life.specs.Answered.{Answered}
use Rattle.life.specs.InStep.{board_of, InStep, late_of, stands}
use Rattle.life.specs.Lives.{ends, Lives}
use Rattle.life.specs.Standing.{Listing, Standing, stopped, total_of}
use Rattle.life.proofs.Promises.{new_sound, one_more, promised, Sound, stays}
use Rattle.resident.specs.declared.resident.Resident.{Resident}
use Rattle.runs.specs.Events.{Event}
use Rattle.runs.specs.State.{State}
use Rattle.seated.specs.Placement.{LawfulRules}
use Rattle.slack.specs.declared.rule.Position.{Position}

total_in_step : {P R O : Type 0} (listing : O → Listing) (b : Code P R O) (es : List Event) → InStep b es → late_of b ≡ total_of (stands listing b es)
total_in_step listing (Stopped b) es keeps = refl
total_in_step listing (Running b) es keeps = ap (λ (st : State). Some st.lates) keeps

module _ {P R O : Type 0} (tags : P → List ℕ) (supply : P → ℕ → ℕ → ℕ) (local : R → Position → ℕ) (listing : O → Listing) (first : Listing) where
  abbrev pub rules_of : P → R → Rules
  rules_of p r = record { tags = tags p; supply = supply p; local = local r; listing = first }

  module _ (platform : P) (rule : R) where
    pub record SoFar (b : Code P R O) (i : ℕ) (was history : List Entry) : Type 0 where
      pub events : List Event
      pub in_step : InStep b events
      pub lives : Lives (rules_of platform rule) (stopped [] first) (take i history) (stands listing b events)
      pub sound : Sound (rules_of platform rule) (stands listing b events)
      pub platform_is : (board_of b).platform ≡ platform
      pub rule_is : (board_of b).rule ≡ rule
      pub calls : map (λ (e : Entry). e.call) history ≡ map (λ (e : Entry). e.call) was
      pub long : length history ≡ length was

    abbrev pub Made : Code P R O → Code P R O → Call → Answer → List Event → Rules → Type 0
    Made b after call a es rules = (fs : List Event) × Answered rules (stands listing b es) call a (stands listing after fs) × InStep after fs

    pub one_call : LawfulRules (rules_of platform rule) → (b after : Code P R O) (i : ℕ) (was history : List Entry) → SoFar b i was history → i < length history → (d : Entry) (a : Answer) (total : Option ℕ)
        → ((es : List Event) → InStep b es → Made b after (get_or history i d).call a es (rules_of (board_of b).platform (board_of b).rule))
        → ((board_of after).platform ≡ (board_of b).platform) × ((board_of after).rule ≡ (board_of b).rule) → total ≡ late_of after
        → SoFar after (i + 1) was (slice_set history i (record { call = (get_or history i d).call; answer = a; late_total = total }))
    one_call lawful b after i was history far low d a total made kept is =
        let rules = rules_of platform rule in
        let entry : Entry = record { call = (get_or history i d).call; answer = a; late_total = total } in
        let here : Made b after entry.call a far.events rules =
        subst (λ (p : P). Made b after entry.call a far.events (rules_of p rule)) far.platform_is
        (subst (λ (r : R). Made b after entry.call a far.events (rules_of (board_of b).platform r)) far.rule_is (made far.events far.in_step)) in
        let (fs, answered, keeps) = here in
        let s = stands listing b far.events in
        let t = stands listing after fs in
        let one = promised rules lawful s t entry far.sound answered (is ∙ total_in_step listing after fs keeps) in
        record {
          events = fs;
          in_step = keeps;
          lives = subst (λ (h : List Entry). Lives rules (stopped [] first) h t) (sym (take_more_set history i entry low)) (one_more rules (stopped [] first) s t (take i history) entry far.lives one);
          sound = stays rules lawful s t entry.call a far.sound answered;
          platform_is = kept.0 ∙ far.platform_is;
          rule_is = kept.1 ∙ far.rule_is;
          calls = map-set_same (λ (e : Entry). e.call) history i entry d refl ∙ far.calls;
          long = length-set history i entry ∙ far.long;
        }

    pub no_call : LawfulRules (rules_of platform rule) → (order : O) → listing order ≡ first → (b : Board P R O) (history : List Entry)
        → (b.platform ≡ platform) × (b.rule ≡ rule) × (b.order ≡ order) × (jobs b.residents ≡ []) → SoFar (Stopped b) 0 history history
    no_call lawful order is b history made =
        let rules = rules_of platform rule in
        let here : stands listing (Stopped b) [] ≡ stopped [] first = ap (λ (rs : List Resident). stopped rs (listing b.order)) made.3 ∙ ap (stopped []) (ap listing made.2 ∙ is) in
        record {
          events = [];
          in_step = tt;
          lives = subst (λ (t : Standing). Lives rules (stopped [] first) [] t) (sym here) ends;
          sound = subst (Sound rules) (sym here) (new_sound rules lawful);
          platform_is = made.0;
          rule_is = made.1;
          calls = refl;
          long = refl;
        }

    -- the same, where what the call gave is known by another name
    pub one_joined : LawfulRules (rules_of platform rule) → (b after x : Code P R O) (i : ℕ) (was history : List Entry) → SoFar b i was history → i < length history → (d : Entry) (a y : Answer) (total : Option ℕ)
        → after ≡ x → a ≡ y
        → ((es : List Event) → InStep b es → Made b x (get_or history i d).call y es (rules_of (board_of b).platform (board_of b).rule))
        → ((board_of x).platform ≡ (board_of b).platform) × ((board_of x).rule ≡ (board_of b).rule) → total ≡ late_of after
        → SoFar after (i + 1) was (slice_set history i (record { call = (get_or history i d).call; answer = a; late_total = total }))
    one_joined lawful b after x i was history far low d a y total after_is a_is made kept is =
        let call = (get_or history i d).call in
        let rules = rules_of (board_of b).platform (board_of b).rule in
        one_call lawful b after i was history far low d a total
        (λ es keeps. subst (λ (c : Code P R O). Made b c call a es rules) (sym after_is) (subst (λ (z : Answer). Made b x call z es rules) (sym a_is) (made es keeps)))
        (subst (λ (c : Code P R O). ((board_of c).platform ≡ (board_of b).platform) × ((board_of c).rule ≡ (board_of b).rule)) (sym after_is) kept) is

    pub all_calls : (b : Code P R O) (i : ℕ) (was history : List Entry) → SoFar b i was history → length history ≤ i → (end : Standing) × Lives (rules_of platform rule) (stopped [] first) history end
    all_calls b i was history far done =
        (stands listing b far.events, subst (λ (h : List Entry). Lives (rules_of platform rule) (stopped [] first) h (stands listing b far.events)) (take_all i history done) far.lives)
