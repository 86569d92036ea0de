-- A text has one answer: the job of a text is one, its plan asks the same, and of the tried engines the first that serves is one.
use Rattle.std.proofs.Common.{◌≡◌, ℕ, ◌<◌, Bool, true, false, cond, eqb, List, [], ◌∷◌, ◌++◌, map, filter, length, Option, Some, None, IsSome, refl, sym, ap, ◌∙◌, subst, inl, inr, arith}
use Rattle.std.specs.Prelude.{flat_map, slice_get, unwrap_or}
use Rattle.std.specs.List.{All}
use Rattle.std.proofs.Math.Path.{fun_ext}
use Rattle.std.proofs.lemmas.Bool.{cases_Bool, cases_eq, cases_lt, eqb-true}
use Rattle.std.proofs.lemmas.List.Elements.{All-head, All-tail}
use Rattle.std.proofs.lemmas.Option.{same_Some}
use Rattle.board.specs.declared.refusal.Refusal.{Refusal}
use Rattle.board.specs.declared.refusal.Refusal.TheVariants.{Fault, NumberTaken, BoardFull, NoChoice, NoPlacement, NotResident, NoBranch, TooSoon, NoEngine, LastClock, ShortBuffer}
use Rattle.board.specs.Asked.{asked_by, loads}
use Rattle.board.specs.Determined.{Alike, Complete, LoadDetermined, SameJob}
use Rattle.board.specs.Loading.{Free, IsLoaded, LoadRefused, SomePossible}
use Rattle.board.specs.Placing.{CannotBePlaced, FirstFit, FitsOn, IsPlaced, Rules, Sits, Stuck, tellings, tried}
use Rattle.board.proofs.Listed.{is_tagged}
use Rattle.computed.proofs.Asked.{known_part_pattern, known_tasks}
use Rattle.few.specs.Few.{items}
use Rattle.plan.specs.declared.part.Task.{Task}
use Rattle.plan.specs.declared.plan.Plan.{Plan}
use Rattle.plan.specs.Part.{tagged, tasks_where}
use Rattle.plan.specs.Pattern.{part_pattern}
use Rattle.plan.specs.Plan.{IsPlan, nodes_of}
use Rattle.resident.specs.declared.resident.Resident.{Resident}
use Rattle.resident.specs.declared.resident.Seat.{Seat}
use Rattle.resident.specs.Resident.{engine_among, engine_of, number_of}
use Rattle.resident.specs.Seats.{all_tags, has_part, parts_of, some_task}
use Rattle.resident.proofs.Sitting.{every_part_sits, part_few}
use Rattle.sheet.specs.Lines.{node_line, title}
use Rattle.sheet.specs.Sheet.{sheet_of, tag_of}
use Rattle.slack.specs.declared.rule.Position.{Position}
use Rattle.task.specs.declared.job.Job.{Job}
use Rattle.task.specs.declared.node.Node.{Node}
use Rattle.task.specs.declared.node.Numbering.TheVariants.{Choice}
use Rattle.task.specs.Flaws.{graph}
use Rattle.task.specs.Graph.{at}
use Rattle.task.specs.Node.{is_sub_task}
use Rattle.task.specs.Picks.{numbers}
use Rattle.text.specs.JobText.{Reads}
use Rattle.text.proofs.Only.{one_fault, one_job, refused_unread}
use Rattle.theory.specs.Pattern.{Pattern}
use Rattle.window.specs.Path.{Possible}

-- two plans of one job under one choice
module _ (local : Position → ℕ) (c : ℕ) (j k : Job) (same : SameJob k j) (p q : Plan) (a : IsPlan local j c p) (b : IsPlan local k c q) where
  own : SameJob j j
  own = record { its_number = refl; its_period = refl; its_deadline = refl; its_nodes = refl }

  tasks_one : (t : Node → Bool) → tasks_where p t ≡ tasks_where q t
  tasks_one t = known_tasks local j.number j.period j.deadline (graph j) j own c p a t ∙ sym (known_tasks local j.number j.period j.deadline (graph j) k same c q b t)

  patterns_one : (g : ℕ) → part_pattern p g ≡ part_pattern q g
  patterns_one g = known_part_pattern local j.number j.period j.deadline (graph j) j own c p a g ∙ sym (known_part_pattern local j.number j.period j.deadline (graph j) k same c q b g)

  has_one : (g : ℕ) → has_part p g ≡ has_part q g
  has_one g = ap some_task (tasks_one (tagged g))

  parts_one : parts_of p ≡ parts_of q
  parts_one = ap (λ (h : ℕ → Bool). filter h all_tags) (fun_ext has_one)

-- the seat of a tag
sits_at : (P : Seat → Type 0) (ss : List Seat) (g : ℕ) → IsSome (engine_among ss g) → All P ss → (s : Seat) × (s.tag ≡ g) × P s
sits_at P [] g some all = absurd (let z : ◌≡◌ {A = Bool} false true = some in cc)
sits_at P (s ∷ ss) g some all = elim (cases_Bool (eqb s.tag g)) [
  | inl yes' ↦ (s, eqb-true s.tag g yes', All-head P s ss all)
  | inr no' ↦ sits_at P ss g (rw no' at some) (All-tail P s ss all)
]

-- the tags and engines of seats
abbrev sat : List Seat → List (ℕ × ℕ)
sat ss = map (λ (s : Seat). (s.tag, s.engine)) ss

module _ (rules : Rules) (rs : List Resident) where
  first_one : (p : Pattern) (es : List ℕ) (e d : ℕ) → FirstFit rules rs p es e → FirstFit rules rs p es d → e ≡ d
  first_one p es e d a b = elim (cases_lt a.place b.place) [
    | inl low ↦ absurd (b.none_before a.place e low a.there a.fits)
    | inr high ↦ elim (cases_eq a.place b.place) [
      | inl is ↦ same_Some e d (sym a.there ∙ ap (slice_get es) is ∙ b.there)
      | inr isn't ↦ absurd (a.none_before b.place d (omega arith) b.there b.fits)
    ]
  ]

  module _ (p q : Plan) (patterns : (g : ℕ) → part_pattern p g ≡ part_pattern q g) where
    sits_one : (g e d : ℕ) → FirstFit rules rs (part_pattern p g) (tried rules rs g) e → FirstFit rules rs (part_pattern q g) (tried rules rs g) d → e ≡ d
    sits_one g e d a b = first_one (part_pattern p g) (tried rules rs g) e d a (subst (λ (x : Pattern). FirstFit rules rs x (tried rules rs g) d) (sym (patterns g)) b)

    seats_one : (ss ts : List Seat) → map (λ (s : Seat). s.tag) ss ≡ map (λ (s : Seat). s.tag) ts → All (Sits rules rs p) ss → All (Sits rules rs q) ts
        → sat ss ≡ sat ts
    seats_one [] [] tags a b = refl
    seats_one [] (t ∷ ts) tags a b = absurd (omega (arith, ap length tags))
    seats_one (s ∷ ss) [] tags a b = absurd (omega (arith, ap length tags))
    seats_one (s ∷ ss) (t ∷ ts) tags a b =
        let tag : s.tag ≡ t.tag = cc in
        let others : map (λ (x : Seat). x.tag) ss ≡ map (λ (x : Seat). x.tag) ts = cc in
        let there : Sits rules rs q t = All-head (Sits rules rs q) t ts b in
        let engine = sits_one s.tag s.engine t.engine (All-head (Sits rules rs p) s ss a)
        (subst (λ (g : ℕ). FirstFit rules rs (part_pattern q g) (tried rules rs g) t.engine) (sym tag) there) in
        let rest = seats_one ss ts others (All-tail (Sits rules rs p) s ss a) (All-tail (Sits rules rs q) t ts b) in
        ap (λ (g : ℕ). let x : ℕ × ℕ = (g, s.engine) in x ∷ sat ss) tag
        ∙ ap (λ (e : ℕ). let x : ℕ × ℕ = (t.tag, e) in x ∷ sat ss) engine
        ∙ ap (λ (xs : List (ℕ × ℕ)). let x : ℕ × ℕ = (t.tag, t.engine) in x ∷ xs) rest

-- what is asked of seats goes by their tags and engines
engine_in : List (ℕ × ℕ) → ℕ → Option ℕ
engine_in [] g = None
engine_in (x ∷ xs) g = cond (eqb x.0 g) (Some x.1) (engine_in xs g)

among_in : (ss : List Seat) (g : ℕ) → engine_among ss g ≡ engine_in (sat ss) g
unfolding engine_in
among_in [] g = refl
among_in (s ∷ ss) g = ap (λ o. cond (eqb s.tag g) (Some s.engine) o) (among_in ss g)

asked_in : (f : ℕ → Pattern) (e : ℕ) (ss : List Seat)
    → map (λ (s : Seat). f s.tag) (filter (λ (s : Seat). eqb s.engine e) ss) ≡ map (λ (x : ℕ × ℕ). f x.0) (filter (λ (x : ℕ × ℕ). eqb x.1 e) (sat ss))
asked_in f e [] = refl
asked_in f e (s ∷ ss) = let rec = asked_in f e ss in elim (cases_Bool (eqb s.engine e)) [
  | inl yes' ↦ rw yes' (ap (λ l. f s.tag ∷ l) rec)
  | inr no' ↦ rw no' rec
]

module _ (r q : Resident) (seats : tellings r ≡ tellings q) where
  pub engines_one : (g : ℕ) → engine_of r g ≡ engine_of q g
  engines_one g = among_in (items r.seats) g ∙ ap (λ xs. engine_in xs g) seats ∙ sym (among_in (items q.seats) g)

  asked_one : ((g : ℕ) → part_pattern r.plan g ≡ part_pattern q.plan g) → (e : ℕ) → asked_by r e ≡ asked_by q e
  asked_one patterns e =
      let of : (ℕ → Pattern) → List (ℕ × ℕ) → List Pattern = λ f xs. map (λ (x : ℕ × ℕ). f x.0) (filter (λ (x : ℕ × ℕ). eqb x.1 e) xs) in
      asked_in (part_pattern r.plan) e (items r.seats)
      ∙ ap (of (part_pattern r.plan)) seats
      ∙ ap (λ f. of f (tellings q)) (fun_ext patterns)
      ∙ sym (asked_in (part_pattern q.plan) e (items q.seats))

  sheets_one : number_of r ≡ number_of q → r.plan.choice ≡ q.plan.choice → nodes_of r.plan ≡ nodes_of q.plan → ((t : Node → Bool) → tasks_where r.plan t ≡ tasks_where q.plan t) → sheet_of r ≡ sheet_of q
  sheets_one number choice nodes tasks =
      let line : List Node → (ℕ → Option ℕ) → Task → List ℕ = λ ns f t. node_line t.node (unwrap_or (f (tag_of (at ns t.node))) 0) t.window.offset t.window.deadline in
      let of : ℕ → ℕ → List Node → (ℕ → Option ℕ) → List Task → List ℕ = λ n c ns f ts. title n c ++ flat_map (line ns f) ts in
      ap (λ n. of n r.plan.choice (nodes_of r.plan) (engine_of r) (tasks_where r.plan is_sub_task)) number
      ∙ ap (λ c. of (number_of q) c (nodes_of r.plan) (engine_of r) (tasks_where r.plan is_sub_task)) choice
      ∙ ap (λ ns. of (number_of q) q.plan.choice ns (engine_of r) (tasks_where r.plan is_sub_task)) nodes
      ∙ ap (λ f. of (number_of q) q.plan.choice (nodes_of q.plan) f (tasks_where r.plan is_sub_task)) (fun_ext engines_one)
      ∙ ap (of (number_of q) q.plan.choice (nodes_of q.plan) (engine_of q)) (tasks is_sub_task)

possible_same : (j k : Job) → SameJob k j → (c : ℕ) → Possible (graph j) c j.deadline → Possible (graph k) c k.deadline
possible_same j k same c possible =
    subst (λ (ns : List Node). Possible ns c k.deadline) (sym same.its_nodes) (subst (λ (d : ℕ). Possible (graph j) c d) (sym same.its_deadline) possible)

module _ (rules : Rules) (complete : Complete rules) (rs : List Resident) where
  -- what is placed is not stuck
  placed_moves : (j k : Job) → SameJob k j → (c : ℕ) (r : Resident) → IsPlaced rules rs j c r → Stuck rules rs k c → ⊥
  placed_moves j k same c r placed stuck =
      let g = stuck.tag in
      let p = r.plan in
      let has = has_one rules.local c j k same p stuck.plan placed.planned stuck.planned g ∙ stuck.has in
      let (s, tag, sits) = sits_at (Sits rules rs p) (items r.seats) g (every_part_sits r g (part_few p g has) has) placed.sits in
      let first : FirstFit rules rs (part_pattern p g) (tried rules rs g) s.engine = subst (λ (x : ℕ). FirstFit rules rs (part_pattern p x) (tried rules rs x) s.engine) tag sits in
      stuck.nowhere s.engine
      (is_tagged rules.tags g (tried rules rs g) (complete [] g (loads rs)) s.engine first.place first.there)
      (subst (FitsOn rules.supply rs s.engine) (patterns_one rules.local c j k same p stuck.plan placed.planned stuck.planned g) first.fits)

  placed_can : (j k : Job) → SameJob k j → (c : ℕ) (r : Resident) → Possible (graph j) c j.deadline → IsPlaced rules rs j c r → CannotBePlaced rules rs k c → ⊥
  placed_can j k same c r possible placed cannot = placed_moves j k same c r placed (cannot (possible_same j k same c possible))

  module _ (text : List ℕ) where
    choices_one : (r q : Resident) → IsLoaded rules rs text r → IsLoaded rules rs text q → r.plan.choice < q.plan.choice → ⊥
    choices_one r q a b low =
        placed_can r.plan.job q.plan.job (one_job text r.plan.job q.plan.job a.comes.reads b.comes.reads) r.plan.choice r a.places.possible a.places.placed (b.places.none_before r.plan.choice low)

    loaded_alike : (r q : Resident) → IsLoaded rules rs text r → IsLoaded rules rs text q → Alike r q
    loaded_alike r q a b =
        let j = r.plan.job in
        let k = q.plan.job in
        let c = r.plan.choice in
        let same = one_job text j k a.comes.reads b.comes.reads in
        let choice : c ≡ q.plan.choice = elim (cases_lt c q.plan.choice) [
          | inl low ↦ absurd (choices_one r q a b low)
          | inr high ↦ elim (cases_lt q.plan.choice c) [
            | inl low ↦ absurd (choices_one q r b a low)
            | inr other ↦ omega arith
          ]
        ] in
        let planned : IsPlan rules.local k c q.plan = subst (λ (x : ℕ). IsPlan rules.local k x q.plan) (sym choice) b.places.placed.planned in
        let tasks = tasks_one rules.local c j k same r.plan q.plan a.places.placed.planned planned in
        let patterns = patterns_one rules.local c j k same r.plan q.plan a.places.placed.planned planned in
        let parts = r.parts ∙ parts_one rules.local c j k same r.plan q.plan a.places.placed.planned planned ∙ sym q.parts in
        let seats = seats_one rules rs r.plan q.plan patterns (items r.seats) (items q.seats) parts a.places.placed.sits b.places.placed.sits in
        record {
          job = one_job text k j b.comes.reads a.comes.reads;
          choice = choice;
          tasks = tasks;
          seats = seats;
          asked = asked_one r q seats patterns;
          sheet = sheets_one r q seats (sym same.its_number) choice (sym same.its_nodes) tasks;
        }

    some_same : (j k : Job) → Reads text j → Reads text k → SomePossible j → SomePossible k
    some_same j k a b (c, low, possible) =
        let same = one_job text j k a b in
        (c, subst (λ (ns : List Node). c < numbers Choice ns) (sym same.its_nodes) low, possible_same j k same c possible)

    free_same : (j k : Job) → Reads text j → Reads text k → Free rs j.number → Free rs k.number
    free_same j k a b free = subst (Free rs) (sym (one_job text j k a b).its_number) free

    loaded_not_refused : (r : Resident) (f : Refusal) → IsLoaded rules rs text r → LoadRefused rules rs text f → ⊥
    loaded_not_refused r (Fault f) a b = refused_unread text f b r.plan.job a.comes.reads
    loaded_not_refused r NumberTaken a b = b.2 (free_same r.plan.job b.0 a.comes.reads b.1 a.comes.free)
    loaded_not_refused r BoardFull a b = omega (arith, a.comes.room, b.3)
    loaded_not_refused r NoChoice a b = b.2 (some_same r.plan.job b.0 a.comes.reads b.1.reads (r.plan.choice, a.places.is_choice, a.places.possible))
    loaded_not_refused r NoPlacement a b =
        let same = one_job text r.plan.job b.0 a.comes.reads b.1.reads in
        let low = subst (λ (ns : List Node). r.plan.choice < numbers Choice ns) (sym same.its_nodes) a.places.is_choice in
        placed_can r.plan.job b.0 same r.plan.choice r a.places.possible a.places.placed (b.3 r.plan.choice low)
    loaded_not_refused r NotResident a b = b
    loaded_not_refused r NoBranch a b = b
    loaded_not_refused r TooSoon a b = b
    loaded_not_refused r NoEngine a b = b
    loaded_not_refused r LastClock a b = b
    loaded_not_refused r ShortBuffer a b = b

    one_refusal : (f g : Refusal) → LoadRefused rules rs text f → LoadRefused rules rs text g → f ≡ g
    one_refusal (Fault f) (Fault g) a b = ap Fault (one_fault text f g a b)
    one_refusal (Fault f) NumberTaken a b = absurd (refused_unread text f a b.0 b.1)
    one_refusal (Fault f) BoardFull a b = absurd (refused_unread text f a b.0 b.1)
    one_refusal (Fault f) NoChoice a b = absurd (refused_unread text f a b.0 b.1.reads)
    one_refusal (Fault f) NoPlacement a b = absurd (refused_unread text f a b.0 b.1.reads)
    one_refusal (Fault f) NotResident a b = absurd b
    one_refusal (Fault f) NoBranch a b = absurd b
    one_refusal (Fault f) TooSoon a b = absurd b
    one_refusal (Fault f) NoEngine a b = absurd b
    one_refusal (Fault f) LastClock a b = absurd b
    one_refusal (Fault f) ShortBuffer a b = absurd b
    one_refusal NumberTaken (Fault g) a b = absurd (refused_unread text g b a.0 a.1)
    one_refusal NumberTaken NumberTaken a b = refl
    one_refusal NumberTaken BoardFull a b = absurd (a.2 (free_same b.0 a.0 b.1 a.1 b.2))
    one_refusal NumberTaken NoChoice a b = absurd (a.2 (free_same b.0 a.0 b.1.reads a.1 b.1.free))
    one_refusal NumberTaken NoPlacement a b = absurd (a.2 (free_same b.0 a.0 b.1.reads a.1 b.1.free))
    one_refusal NumberTaken NotResident a b = absurd b
    one_refusal NumberTaken NoBranch a b = absurd b
    one_refusal NumberTaken TooSoon a b = absurd b
    one_refusal NumberTaken NoEngine a b = absurd b
    one_refusal NumberTaken LastClock a b = absurd b
    one_refusal NumberTaken ShortBuffer a b = absurd b
    one_refusal BoardFull (Fault g) a b = absurd (refused_unread text g b a.0 a.1)
    one_refusal BoardFull NumberTaken a b = absurd (b.2 (free_same a.0 b.0 a.1 b.1 a.2))
    one_refusal BoardFull BoardFull a b = refl
    one_refusal BoardFull NoChoice a b = absurd (omega (arith, a.3, b.1.room))
    one_refusal BoardFull NoPlacement a b = absurd (omega (arith, a.3, b.1.room))
    one_refusal BoardFull NotResident a b = absurd b
    one_refusal BoardFull NoBranch a b = absurd b
    one_refusal BoardFull TooSoon a b = absurd b
    one_refusal BoardFull NoEngine a b = absurd b
    one_refusal BoardFull LastClock a b = absurd b
    one_refusal BoardFull ShortBuffer a b = absurd b
    one_refusal NoChoice (Fault g) a b = absurd (refused_unread text g b a.0 a.1.reads)
    one_refusal NoChoice NumberTaken a b = absurd (b.2 (free_same a.0 b.0 a.1.reads b.1 a.1.free))
    one_refusal NoChoice BoardFull a b = absurd (omega (arith, b.3, a.1.room))
    one_refusal NoChoice NoChoice a b = refl
    one_refusal NoChoice NoPlacement a b = absurd (a.2 (some_same b.0 a.0 b.1.reads a.1.reads b.2))
    one_refusal NoChoice NotResident a b = absurd b
    one_refusal NoChoice NoBranch a b = absurd b
    one_refusal NoChoice TooSoon a b = absurd b
    one_refusal NoChoice NoEngine a b = absurd b
    one_refusal NoChoice LastClock a b = absurd b
    one_refusal NoChoice ShortBuffer a b = absurd b
    one_refusal NoPlacement (Fault g) a b = absurd (refused_unread text g b a.0 a.1.reads)
    one_refusal NoPlacement NumberTaken a b = absurd (b.2 (free_same a.0 b.0 a.1.reads b.1 a.1.free))
    one_refusal NoPlacement BoardFull a b = absurd (omega (arith, b.3, a.1.room))
    one_refusal NoPlacement NoChoice a b = absurd (b.2 (some_same a.0 b.0 a.1.reads b.1.reads a.2))
    one_refusal NoPlacement NoPlacement a b = refl
    one_refusal NoPlacement NotResident a b = absurd b
    one_refusal NoPlacement NoBranch a b = absurd b
    one_refusal NoPlacement TooSoon a b = absurd b
    one_refusal NoPlacement NoEngine a b = absurd b
    one_refusal NoPlacement LastClock a b = absurd b
    one_refusal NoPlacement ShortBuffer a b = absurd b
    one_refusal NotResident g a b = absurd a
    one_refusal NoBranch g a b = absurd a
    one_refusal TooSoon g a b = absurd a
    one_refusal NoEngine g a b = absurd a
    one_refusal LastClock g a b = absurd a
    one_refusal ShortBuffer g a b = absurd a

pub load_determined : LoadDetermined
load_determined rules complete rs text = record {
  refusal = one_refusal rules complete rs text;
  apart = loaded_not_refused rules complete rs text;
  loaded = loaded_alike rules complete rs text;
}
