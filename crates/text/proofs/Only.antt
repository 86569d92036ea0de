-- A text is that of one job, and one that is refused has one fault.
use Rattle.std.proofs.Common.{◌≡◌, ℕ, suc, ◌+◌, ◌⊎◌, List, [], ◌∷◌, ◌++◌, length, sym, refl, ap, ◌∙◌, subst, inl, inr, arith}
use Rattle.std.specs.List.{AllByRecursion}
use Rattle.std.proofs.lemmas.Bool.{both_ways, cases_eq, cases_lt}
use Rattle.std.proofs.lemmas.List.{ext_get_or, length-append}
use Rattle.task.specs.declared.job.Job.{Job}
use Rattle.task.specs.declared.node.Node.{Node}
use Rattle.task.specs.declared.node.Node.TheVariants.{SubTask, Alternative, Conditional}
use Rattle.task.specs.Flaws.{graph, MadeOf}
use Rattle.task.specs.Graph.{at}
use Rattle.task.specs.Node.{missing}
use Rattle.task.specs.Nodes.{fork_fits}
use Rattle.text.specs.declared.fault.Fault.{Fault}
use Rattle.text.specs.declared.fault.Fault.TheVariants.{Size, Line, Form, Range, Fork, Forks}
use Rattle.text.specs.declared.key.Key.{Key}
use Rattle.text.specs.declared.value.Kind as kinds
use Rattle.text.specs.Key.{sort_of}
use Rattle.text.specs.JobText.{Written, Forked, Reads, Refused, WrongForks, WrongLine, nodes_slots, slots, written}
use Rattle.text.specs.Slots.{Slot, slot, text_of, Fails, InRange, Missized, Overruns, Ranged, Sized, Stops, Taken, Whole}
use Rattle.text.specs.Value.{Numeral, word}
use Rattle.text.specs.Value as values
use Rattle.text.proofs.Single.{Alike, breaks_halts, clash_slots, fork_same, from_deadline, match_slots, numbers_same, word_apart}
use Rattle.text.proofs.Walking.{Runs, fails_broken, line_append, ranged_lacks, runs_whole, taken_same}

whole_runs : (ss : List Slot) (bs : List ℕ) → Whole ss bs → Runs ss bs
whole_runs ss bs whole = runs_whole ss bs whole.written whole.ranged

pub one_job : (text : List ℕ) (j k : Job) → Reads text j → Reads text k → MadeOf j.number j.period j.deadline (graph j) k
one_job text j k a b =
    let same = match_slots (written k) (written j) text (whole_runs (slots (written k)) text b.whole) (whole_runs (slots (written j)) text a.whole) in
    record {
      its_number = same.number;
      its_period = same.period;
      its_deadline = same.deadline;
      its_nodes = ext_get_or missing (graph k) (graph j) same.long (λ v low. (same.alike v).same (b.full v low ∙ sym (a.full v (omega (arith, same.long)))));
    }

-- a line fails in one way
fails_same : (k : Key) (bs : List ℕ) (n : ℕ) (f g : Fault) → Fails k bs n f → Fails k bs n g → f ≡ g
fails_same k bs n Size g a b = absurd a
fails_same k bs n (Fork v) g a b = absurd a
fails_same k bs n Forks g a b = absurd a
fails_same k bs n (Line x) Size a b = absurd b
fails_same k bs n (Line x) (Line y) a b = ap Line (a.0 ∙ sym b.0)
fails_same k bs n (Line x) (Form y) a b = absurd (a.1 b.1.0 b.1.1 b.1.2)
fails_same k bs n (Line x) (Range y) a b = absurd (a.1 b.1.0 b.1.1 b.1.2)
fails_same k bs n (Line x) (Fork v) a b = absurd b
fails_same k bs n (Line x) Forks a b = absurd b
fails_same k bs n (Form x) Size a b = absurd b
fails_same k bs n (Form x) (Line y) a b = absurd (b.1 a.1.0 a.1.1 a.1.2)
fails_same k bs n (Form x) (Form y) a b = ap Form (a.0 ∙ sym b.0)
fails_same k bs n (Form x) (Range y) a b = absurd (a.1.3 (subst (values.Form (sort_of k)) (taken_same k bs b.1.0 b.1.1 a.1.0 a.1.1 b.1.2 a.1.2).0 b.1.3))
fails_same k bs n (Form x) (Fork v) a b = absurd b
fails_same k bs n (Form x) Forks a b = absurd b
fails_same k bs n (Range x) Size a b = absurd b
fails_same k bs n (Range x) (Line y) a b = absurd (b.1 a.1.0 a.1.1 a.1.2)
fails_same k bs n (Range x) (Form y) a b = absurd (b.1.3 (subst (values.Form (sort_of k)) (taken_same k bs a.1.0 a.1.1 b.1.0 b.1.1 a.1.2 b.1.2).0 a.1.3))
fails_same k bs n (Range x) (Range y) a b = ap Range (a.0 ∙ sym b.0)
fails_same k bs n (Range x) (Fork v) a b = absurd b
fails_same k bs n (Range x) Forks a b = absurd b

-- the text bs halts in the lines ss, where line n was the last before
abbrev pub Halting : List Slot → List ℕ → ℕ → Fault → Type 0
Halting ss bs n f = Stops ss bs n f ⊎ Overruns ss bs n f

-- the first line is taken, and what is left halts in the others
record Passing (k : Key) (v : List ℕ) (ss : List Slot) (bs : List ℕ) (n : ℕ) (f : Fault) : Type 0 where
  pub rest : List ℕ
  pub ranged : Ranged k v
  pub taken : Taken k bs v rest
  pub halts : Halting ss rest (n + 1) f

first_line : (k : Key) (v : List ℕ) (ss : List Slot) (bs : List ℕ) (n : ℕ) (f : Fault) → Halting (slot k v ∷ ss) bs n f → Fails k bs (n + 1) f ⊎ Passing k v ss bs n f
first_line k v ss bs n f (inl x) = go x.before x.order x.took.written x.took.ranged x.took.counted where
  go : (before : List Slot) → slot k v ∷ ss ≡ before ++ x.due ∷ x.later → bs ≡ text_of before ++ x.rest → AllByRecursion InRange before → x.last ≡ n + length before
      → Fails k bs (n + 1) f ⊎ Passing k v ss bs n f
  go [] order at ranged counted =
      let due : x.due ≡ slot k v = cc in
      let last : x.last ≡ n = omega arith in
      inl (subst (λ (m : ℕ). Fails k bs (m + 1) f) last (subst (λ (cs : List ℕ). Fails k cs (x.last + 1) f) (sym at) (subst (λ (s : Slot). Fails s.key x.rest (x.last + 1) f) due x.fails)))
  go (s ∷ before) order at ranged counted =
      let here : s ≡ slot k v = cc in
      let others : ss ≡ before ++ x.due ∷ x.later = cc in
      let fit : Ranged k v = subst (λ (y : Slot). Ranged y.key y.value) here ranged.0 in
      let line : bs ≡ text_of (slot k v ∷ before) ++ x.rest = subst (λ (y : Slot). bs ≡ text_of (y ∷ before) ++ x.rest) here at in
      inr (record {
        rest = text_of before ++ x.rest;
        ranged = fit;
        taken = record { ended = ranged_lacks k v fit; written = line ∙ line_append (slot k v) before x.rest };
        halts = inl (record {
          before = before;
          due = x.due;
          later = x.later;
          order = others;
          rest = x.rest;
          last = x.last;
          took = record { written = refl; ranged = ranged.1; counted = omega arith };
          fails = x.fails;
        });
      })
first_line k v ss bs n f (inr x) = inr (record {
  rest = text_of ss ++ x.rest;
  ranged = x.took.ranged.0;
  taken = record { ended = ranged_lacks k v x.took.ranged.0; written = x.took.written ∙ line_append (slot k v) ss x.rest };
  halts = inr (record {
    rest = x.rest;
    last = x.last;
    took = record { written = refl; ranged = x.took.ranged.1; counted = omega (arith, x.took.counted) };
    more = x.more;
    fault = x.fault;
  });
})

no_line : (bs : List ℕ) (n : ℕ) (f : Fault) → Halting [] bs n f → f ≡ Line (n + 1)
no_line bs n f (inl x) = absurd (omega (arith, ap length x.order, length-append x.before (x.due ∷ x.later)))
no_line bs n f (inr x) = let last : x.last ≡ n = omega (arith, x.took.counted) in x.fault ∙ ap (λ m. Line (m + 1)) last

-- two walks along one text, at a line of the same key
halt_step : {k : Key} {v w : List ℕ} {ss ts : List Slot} {bs : List ℕ} {n : ℕ} {f g : Fault} → Halting (slot k v ∷ ss) bs n f → Halting (slot k w ∷ ts) bs n g
    → ((cs : List ℕ) → v ≡ w → Ranged k w → Halting ss cs (n + 1) f → Halting ts cs (n + 1) g → f ≡ g) → f ≡ g
halt_step {k} {v} {w} {ss} {ts} {bs} {n} {f} {g} a b onward = elim (first_line k v ss bs n f a) [
  | inl x ↦ elim (first_line k w ts bs n g b) [
    | inl y ↦ fails_same k bs (n + 1) f g x y
    | inr y ↦ absurd (fails_broken k bs (n + 1) f x w y.rest y.taken y.ranged)
  ]
  | inr x ↦ elim (first_line k w ts bs n g b) [
    | inl y ↦ absurd (fails_broken k bs (n + 1) g y v x.rest x.taken x.ranged)
    | inr y ↦
        let (same, left) = taken_same k bs v x.rest w y.rest x.taken y.taken in
        onward x.rest same y.ranged x.halts (subst (λ (cs : List ℕ). Halting ts cs (n + 1) g) (sym left) y.halts)
  ]
]

abbrev sub_task : List ℕ
sub_task = word kinds.TheVariants.SubTask

abbrev alternative : List ℕ
alternative = word kinds.TheVariants.Alternative

abbrev conditional : List ℕ
conditional = word kinds.TheVariants.Conditional

halt_nodes : (v : ℕ) (ns ms : List Node) → length ns ≡ length ms → (bs : List ℕ) (n : ℕ) (f g : Fault) → Halting (nodes_slots v ns) bs n f → Halting (nodes_slots v ms) bs n g → f ≡ g
halt_nodes v [] [] e bs n f g a b = no_line bs n f a ∙ sym (no_line bs n g b)
halt_nodes v [] (m ∷ ms) e bs n f g a b = absurd (omega arith)
halt_nodes v (m ∷ ns) [] e bs n f g a b = absurd (omega arith)
halt_nodes v (SubTask t w us ∷ ns) (SubTask t' w' us' ∷ ms) e bs n f g a b =
    halt_step a b (λ _ _ _ a b.
    halt_step a b (λ _ _ _ a b.
    halt_step a b (λ _ _ _ a b.
    halt_step a b (λ cs _ _ a b.
    halt_nodes (suc v) ns ms (omega arith) cs _ f g a b))))
halt_nodes v (Alternative us ∷ ns) (Alternative us' ∷ ms) e bs n f g a b =
    halt_step a b (λ _ _ _ a b. halt_step a b (λ cs _ _ a b. halt_nodes (suc v) ns ms (omega arith) cs _ f g a b))
halt_nodes v (Conditional us ∷ ns) (Conditional us' ∷ ms) e bs n f g a b =
    halt_step a b (λ _ _ _ a b. halt_step a b (λ cs _ _ a b. halt_nodes (suc v) ns ms (omega arith) cs _ f g a b))
halt_nodes v (SubTask t w us ∷ ns) (Alternative us' ∷ ms) e bs n f g a b = halt_step a b (λ _ same _ _ _. absurd (word_apart sub_task alternative same (λ z. omega arith)))
halt_nodes v (SubTask t w us ∷ ns) (Conditional us' ∷ ms) e bs n f g a b = halt_step a b (λ _ same _ _ _. absurd (word_apart sub_task conditional same (λ z. omega arith)))
halt_nodes v (Alternative us ∷ ns) (SubTask t' w' us' ∷ ms) e bs n f g a b = halt_step a b (λ _ same _ _ _. absurd (word_apart alternative sub_task same (λ z. omega arith)))
halt_nodes v (Alternative us ∷ ns) (Conditional us' ∷ ms) e bs n f g a b = halt_step a b (λ _ same _ _ _. absurd (word_apart alternative conditional same (λ z. omega arith)))
halt_nodes v (Conditional us ∷ ns) (SubTask t' w' us' ∷ ms) e bs n f g a b = halt_step a b (λ _ same _ _ _. absurd (word_apart conditional sub_task same (λ z. omega arith)))
halt_nodes v (Conditional us ∷ ns) (Alternative us' ∷ ms) e bs n f g a b = halt_step a b (λ _ same _ _ _. absurd (word_apart conditional alternative same (λ z. omega arith)))

of_period : (x : Written) (p n : ℕ) (cs : List ℕ) (g : Fault) → p ≡ x.period → Halting (from_deadline x x.period) cs n g → Halting (from_deadline x p) cs n g
of_period x p n cs g same b = subst (λ (q : ℕ). Halting (from_deadline x q) cs n g) (sym same) b

halt_slots : (w x : Written) (bs : List ℕ) (f g : Fault) → Halting (slots w) bs 0 f → Halting (slots x) bs 0 g → f ≡ g
halt_slots w x bs f g a b =
    halt_step a b (λ _ _ _ a b.
    halt_step a b (λ cs e q a b.
    halt_step a (of_period x w.period _ cs g (numbers_same w.period x.period q.0 e q.1) b) (λ _ _ _ a b.
    halt_step a b (λ cs e q a b.
    halt_nodes 0 w.nodes x.nodes (numbers_same (length w.nodes) (length x.nodes) q.0 e q.1) cs _ f g a b))))

-- the forks of the same nodes have one fault
module _ (ns ms : List Node) (long : length ns ≡ length ms) (alike : (v : ℕ) → Alike (at ns v) (at ms v)) where
  forked_one : (f g : Fault) → Forked ns f → Forked ms g → f ≡ g
  forked_one Size g a b = absurd a
  forked_one (Line n) g a b = absurd a
  forked_one (Form n) g a b = absurd a
  forked_one (Range n) g a b = absurd a
  forked_one (Fork v) Size a b = absurd b
  forked_one (Fork v) (Line n) a b = absurd b
  forked_one (Fork v) (Form n) a b = absurd b
  forked_one (Fork v) (Range n) a b = absurd b
  forked_one (Fork v) (Fork u) a b = elim (cases_lt v u) [
    | inl low ↦ absurd (both_ways (fork_fits ns v) a.0 (fork_same ns ms long alike v ∙ b.1 v low))
    | inr high ↦ elim (cases_eq v u) [
      | inl is ↦ ap Fork is
      | inr isn't ↦ absurd (both_ways (fork_fits ms u) b.0 (sym (fork_same ns ms long alike u) ∙ a.1 u (omega arith)))
    ]
  ]
  forked_one (Fork v) Forks a b = absurd (both_ways (fork_fits ns v) a.0 (fork_same ns ms long alike v ∙ b.0 v))
  forked_one Forks Size a b = absurd b
  forked_one Forks (Line n) a b = absurd b
  forked_one Forks (Form n) a b = absurd b
  forked_one Forks (Range n) a b = absurd b
  forked_one Forks (Fork v) a b = absurd (both_ways (fork_fits ms v) b.0 (sym (fork_same ns ms long alike v) ∙ a.0 v))
  forked_one Forks Forks a b = refl

module _ (text : List ℕ) where
  wrong_size : Missized text → Sized text → ⊥
  wrong_size missized sized = elim missized [ inl none ↦ omega (arith, sized.0) | inr much ↦ omega (arith, sized.1) ]

  wrong_lines : (f g : Fault) → WrongLine text f → WrongLine text g → f ≡ g
  wrong_lines f g a b = halt_slots a.says b.says text f g a.halts b.halts

  line_and_forks : (f g : Fault) → WrongLine text f → WrongForks text g → ⊥
  line_and_forks f g a b = clash_slots b.says a.says text (whole_runs (slots b.says) text b.whole) (breaks_halts (slots a.says) text f a.halts)

  wrong_forks : (f g : Fault) → WrongForks text f → WrongForks text g → f ≡ g
  wrong_forks f g a b =
      let same = match_slots a.says b.says text (whole_runs (slots a.says) text a.whole) (whole_runs (slots b.says) text b.whole) in
      forked_one a.says.nodes b.says.nodes same.long same.alike f g a.forked b.forked

  wrong : (f : Fault) → Refused text f → (Missized text × (f ≡ Size)) ⊎ (WrongLine text f ⊎ WrongForks text f)
  wrong Size x = inl (x, refl)
  wrong (Line n) x = inr (inl x)
  wrong (Form n) x = inr (inl x)
  wrong (Range n) x = inr (inl x)
  wrong (Fork v) x = inr (inr x)
  wrong Forks x = inr (inr x)

  pub one_fault : (f g : Fault) → Refused text f → Refused text g → f ≡ g
  one_fault f g x y = elim (wrong f x) [
    | inl a ↦ elim (wrong g y) [
      | inl b ↦ a.1 ∙ sym b.1
      | inr others ↦ elim others [ inl b ↦ absurd (wrong_size a.0 b.sized) | inr b ↦ absurd (wrong_size a.0 b.sized) ]
    ]
    | inr more ↦ elim more [
      | inl a ↦ elim (wrong g y) [
        | inl b ↦ absurd (wrong_size b.0 a.sized)
        | inr others ↦ elim others [ inl b ↦ wrong_lines f g a b | inr b ↦ absurd (line_and_forks f g a b) ]
      ]
      | inr a ↦ elim (wrong g y) [
        | inl b ↦ absurd (wrong_size b.0 a.sized)
        | inr others ↦ elim others [ inl b ↦ absurd (line_and_forks g f b a) | inr b ↦ wrong_forks f g a b ]
      ]
    ]
  ]

  -- a text that is refused is no job's
  pub refused_unread : (f : Fault) → Refused text f → (j : Job) → Reads text j → ⊥
  refused_unread f x j reads = elim (wrong f x) [
    | inl a ↦ wrong_size a.0 reads.sized
    | inr more ↦ elim more [ inl a ↦ a.unread j reads | inr a ↦ a.unread j reads ]
  ]
