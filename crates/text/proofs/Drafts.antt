-- From the parts of a job text to the whole.
use Rattle.std.proofs.Common.{◌≡◌, ℕ, ◌+◌, ◌<◌, false, List, [], ◌++◌, length, get_or, replicate, sym, ap, ◌∙◌, subst, inl, inr, arith}
use Rattle.std.proofs.lemmas.List.{append-nil, get_or_past, length-replicate}
use Rattle.std.proofs.lemmas.Bool.{cases_lt, false≢true}
use Rattle.task.specs.declared.job.Job.{Job}
use Rattle.task.specs.declared.node.Node.{Node}
use Rattle.task.specs.Flaws.{HeaderFits, InRange, MadeOf}
use Rattle.task.specs.Graph.{at, Upward}
use Rattle.task.specs.Node.{after, missing}
use Rattle.text.specs.declared.fault.Fault.{Fault}
use Rattle.text.specs.declared.fault.Fault.TheVariants.{Size, Line, Form, Range, Fork, Forks}
use Rattle.text.specs.declared.job_text.Header.{Header}
use Rattle.text.specs.JobText.{Written, Forked, Full, NodesFit, Reads, Refused, header_slots, nodes_slots, slots, written}
use Rattle.text.specs.Slots.{Halts, Sized, Stops, Took, Whole, text_of}
use Rattle.text.proofs.Following.{took_append, stops_after, stops_more}
use Rattle.text.proofs.Single.{line_unread, forks_unread}

-- a header and nodes
abbrev pub draft : Header → List Node → Written
draft h ns = record { number = h.number; period = h.period; deadline = h.deadline; nodes = ns }

slots_draft : (h : Header) (ns : List Node) → length ns ≡ h.count → header_slots h ++ nodes_slots 0 ns ≡ slots (draft h ns)
slots_draft h ns e = ap (λ c. header_slots (record { number = h.number; period = h.period; deadline = h.deadline; count = c }) ++ nodes_slots 0 ns) (sym e)

pub header_halts : (h : Header) (bs : List ℕ) (f : Fault) → Stops (header_slots h) bs 0 f → (w : Written) × Halts (slots w) bs f
header_halts h bs f stop =
    let ns = replicate h.count missing in
    (draft h ns, inl (subst (λ ss. Stops ss bs 0 f) (slots_draft h ns (length-replicate h.count missing)) (stops_more (header_slots h) (nodes_slots 0 ns) bs 0 f stop)))

pub nodes_halt : (h : Header) (ns : List Node) (bs cs : List ℕ) (c : ℕ) (f : Fault) → length ns ≡ h.count → Took (header_slots h) bs 0 cs c → Stops (nodes_slots 0 ns) cs c f → (w : Written) × Halts (slots w) bs f
nodes_halt h ns bs cs c f e took stop =
    (draft h ns, inl (subst (λ ss. Stops ss bs 0 f) (slots_draft h ns e) (stops_after (header_slots h) (nodes_slots 0 ns) bs 0 cs c f took stop)))

both : (h : Header) (ns : List Node) (bs cs : List ℕ) (c : ℕ) (ds : List ℕ) (d : ℕ) → length ns ≡ h.count → Took (header_slots h) bs 0 cs c → Took (nodes_slots 0 ns) cs c ds d → Took (slots (draft h ns)) bs 0 ds d
both h ns bs cs c ds d e a b = subst (λ ss. Took ss bs 0 ds d) (slots_draft h ns e) (took_append (header_slots h) (nodes_slots 0 ns) bs 0 cs c ds d a b)

pub rest_halts : (h : Header) (ns : List Node) (bs cs : List ℕ) (c : ℕ) (ds : List ℕ) (d : ℕ) (f : Fault) → length ns ≡ h.count → Took (header_slots h) bs 0 cs c → Took (nodes_slots 0 ns) cs c ds d → 0 < length ds → f ≡ Line (d + 1) → (w : Written) × Halts (slots w) bs f
rest_halts h ns bs cs c ds d f e a b l x = (draft h ns, inr (record { rest = ds; last = d; took = both h ns bs cs c ds d e a b; more = l; fault = x }))

pub all_whole : (h : Header) (ns : List Node) (bs cs : List ℕ) (c : ℕ) (ds : List ℕ) (d : ℕ) → length ns ≡ h.count → Took (header_slots h) bs 0 cs c → Took (nodes_slots 0 ns) cs c ds d → ds ≡ [] → Whole (slots (draft h ns)) bs
all_whole h ns bs cs c ds d e a b none =
    let took = both h ns bs cs c ds d e a b in
    let ss = slots (draft h ns) in
    record { written = took.written ∙ (ap (λ xs. text_of ss ++ xs) none ∙ append-nil (text_of ss)); ranged = took.ranged }

pub halts_refused : (bs : List ℕ) (f : Fault) → Sized bs → (w : Written) × Halts (slots w) bs f → Refused bs f
halts_refused bs Size s x = elim x.1 [ inl stop ↦ absurd stop.fails | inr over ↦ let z : ◌≡◌ {A = ℕ} 0 1 = cc over.fault in absurd (let y : ⊥ = omega arith in y) ]
halts_refused bs (Line n) s x = record { sized = s; says = x.0; halts = x.1; unread = line_unread bs (Line n) x.0 x.1 }
halts_refused bs (Form n) s x = record { sized = s; says = x.0; halts = x.1; unread = line_unread bs (Form n) x.0 x.1 }
halts_refused bs (Range n) s x = record { sized = s; says = x.0; halts = x.1; unread = line_unread bs (Range n) x.0 x.1 }
halts_refused bs (Fork v) s x = elim x.1 [ inl stop ↦ absurd stop.fails | inr over ↦ let z : ◌≡◌ {A = ℕ} 0 1 = cc over.fault in absurd (let y : ⊥ = omega arith in y) ]
halts_refused bs Forks s x = elim x.1 [ inl stop ↦ absurd stop.fails | inr over ↦ let z : ◌≡◌ {A = ℕ} 0 1 = cc over.fault in absurd (let y : ⊥ = omega arith in y) ]

pub forks_refused : (bs : List ℕ) (f : Fault) (w : Written) → Sized bs → Whole (slots w) bs → Forked w.nodes f → Refused bs f
forks_refused bs Size w s whole x = absurd x
forks_refused bs (Line n) w s whole x = absurd x
forks_refused bs (Form n) w s whole x = absurd x
forks_refused bs (Range n) w s whole x = absurd x
forks_refused bs (Fork v) w s whole x = record { sized = s; says = w; whole = whole; forked = x; unread = forks_unread bs (Fork v) w whole x }
forks_refused bs Forks w s whole x = record { sized = s; says = w; whole = whole; forked = x; unread = forks_unread bs Forks w whole x }

-- what was read lies in its ranges
upward : (ns : List Node) → NodesFit ns → Upward ns
upward ns fit u v e = elim (cases_lt v (length ns)) [
  | inl l ↦ (fit v l).below u e
  | inr l ↦ absurd (false≢true (sym (ap (λ n. get_or (after n) u false) (get_or_past ns v missing l)) ∙ e))
]

pub in_range : (h : Header) (ns : List Node) → length ns ≡ h.count → HeaderFits h.number h.period h.deadline h.count → NodesFit ns → InRange h.number h.period h.deadline ns
in_range h ns e fit nodes = record {
  header = subst (HeaderFits h.number h.period h.deadline) (sym e) fit;
  ranged = λ v l. (nodes v l).numbers;
  upward = upward ns nodes;
}

-- the job that was made says what was read
same_slots : (v w : Written) → v.number ≡ w.number → v.period ≡ w.period → v.deadline ≡ w.deadline → v.nodes ≡ w.nodes → slots v ≡ slots w
same_slots v w a b c d =
    ap (λ x. slots (record { number = x; period = v.period; deadline = v.deadline; nodes = v.nodes })) a
    ∙ (ap (λ x. slots (record { number = w.number; period = x; deadline = v.deadline; nodes = v.nodes })) b
    ∙ (ap (λ x. slots (record { number = w.number; period = w.period; deadline = x; nodes = v.nodes })) c
    ∙ ap (λ x. slots (record { number = w.number; period = w.period; deadline = w.deadline; nodes = x })) d))

pub made_reads : (bs : List ℕ) (h : Header) (ns : List Node) (j : Job) → Sized bs → Whole (slots (draft h ns)) bs → NodesFit ns → MadeOf h.number h.period h.deadline ns j → Reads bs j
made_reads bs h ns j s whole fit made = record {
  sized = s;
  full = subst (λ (ms : List Node). (v : ℕ) → v < length ms → Full (at ms v)) (sym made.its_nodes) (λ v low. (fit v low).full);
  whole = subst (λ ss. Whole ss bs) (sym (same_slots (written j) (draft h ns) made.its_number made.its_period made.its_deadline made.its_nodes)) whole;
}
