-- A text is walked along the lines that are due: it runs through them, or breaks off.
use Rattle.std.proofs.Common.{◌≡◌, ℕ, ◌+◌, ◌<◌, Bool, true, false, not, ◌&&◌, eqb, ◌⊎◌, List, [], ◌∷◌, ◌++◌, length, decimal, sym, refl, ap, ◌∙◌, subst, inl, inr, append_assoc, arith}
use Rattle.std.specs.List.{AllByRecursion}
use Rattle.std.proofs.lemmas.List.{append_cancel_left}
use Rattle.std.proofs.lemmas.Bool.{and_parts, not-true, eqb-false}
use Rattle.text.specs.declared.fault.Fault.{Fault}
use Rattle.text.specs.declared.fault.Fault.TheVariants.{Size, Line, Form, Range, Fork, Forks}
use Rattle.text.specs.declared.key.Key.{Key}
use Rattle.text.specs.declared.key.Key.TheVariants.{Job, Period, Deadline, Nodes, Kind, Tag, Ticks, After, Engines, Marks}
use Rattle.text.specs.declared.key.Sort as sorts
use Rattle.text.specs.declared.value.Kind as kinds
use Rattle.text.specs.Key.{key_bytes, sort_of}
use Rattle.text.specs.Slots.{Slot, slot, text_of, InRange, Ranged, Taken, Fails, Stops, Overruns}
use Rattle.text.specs.Split.{Lacks}
use Rattle.text.specs.Value.{Small, Numeral, Listed, commas, listed, mark_bytes, word}
use Rattle.text.specs.Value as values
use Rattle.text.proofs.Commas.{lacks_decimal}
use Rattle.text.proofs.Cuts.{cut_front, cut_back}

-- no value in range holds byte 10
others : List ℕ → Bool
others [] = true
others (b ∷ bs) = not (eqb b 10) && others bs

lacks_others : (bs : List ℕ) → others bs ≡ true → Lacks 10 bs
unfolding others
lacks_others [] y = tt
lacks_others (b ∷ bs) y =
    let (here, rest) = and_parts (not (eqb b 10)) (others bs) y in
    (eqb-false b 10 (not-true (eqb b 10) here), lacks_others bs rest)

lacks_append : (xs ys : List ℕ) → Lacks 10 xs → Lacks 10 ys → Lacks 10 (xs ++ ys)
lacks_append [] ys a b = b
lacks_append (x ∷ xs) ys a b = (a.0, lacks_append xs ys a.1 b)

lacks_number : (n : ℕ) → Small n → Lacks 10 (decimal n)
lacks_number n s = lacks_decimal 10 (λ p q. omega arith) n s

lacks_commas : (ns : List ℕ) → AllByRecursion Small ns → Lacks 10 (commas ns)
lacks_commas [] s = tt
lacks_commas (n ∷ []) s = lacks_number n s.0
lacks_commas (n ∷ m ∷ ns) s = lacks_append (decimal n) (44 ∷ commas (m ∷ ns)) (lacks_number n s.0) ((λ e. omega arith), lacks_commas (m ∷ ns) s.1)

lacks_listed : (ns : List ℕ) → AllByRecursion Small ns → Lacks 10 (listed ns)
lacks_listed [] s = ((λ e. omega arith), tt)
lacks_listed (n ∷ ns) s = lacks_commas (n ∷ ns) s

lacks_marks : (ms : List Bool) → Lacks 10 (mark_bytes ms)
lacks_marks [] = tt
lacks_marks (true ∷ ms) = ((λ e. omega arith), lacks_marks ms)
lacks_marks (false ∷ ms) = ((λ e. omega arith), lacks_marks ms)

lacks_word : (k : kinds.Kind) → Lacks 10 (word k)
unfolding others
lacks_word kinds.TheVariants.SubTask = lacks_others (word kinds.TheVariants.SubTask) refl
lacks_word kinds.TheVariants.Alternative = lacks_others (word kinds.TheVariants.Alternative) refl
lacks_word kinds.TheVariants.Conditional = lacks_others (word kinds.TheVariants.Conditional) refl

form_lacks : (s : sorts.Sort) (bs : List ℕ) → values.Form s bs → Lacks 10 bs
form_lacks sorts.TheVariants.Number bs f = subst (Lacks 10) (sym f.1.written) (lacks_number f.0 f.1.small)
form_lacks sorts.TheVariants.Kind bs f = subst (Lacks 10) (sym f.1) (lacks_word f.0)
form_lacks sorts.TheVariants.List bs f = subst (Lacks 10) (sym f.written) (lacks_listed f.numbers f.small)
form_lacks sorts.TheVariants.Marks bs f = subst (Lacks 10) (sym f.written) (lacks_marks f.marks)

unit_all : (P : ℕ → Type 0) (ns : List ℕ) → AllByRecursion P ns → AllByRecursion (λ _. Unit {0}) ns
unit_all P [] a = tt
unit_all P (n ∷ ns) a = (tt, unit_all P ns a.1)

ranged_form : (k : Key) (bs : List ℕ) → Ranged k bs → values.Form (sort_of k) bs
ranged_form Job bs r = (r.0, r.1)
ranged_form Period bs r = (r.0, r.1)
ranged_form (Deadline p) bs r = (r.0, r.1)
ranged_form Nodes bs r = (r.0, r.1)
ranged_form Kind bs r = r
ranged_form Tag bs r = (r.0, r.1)
ranged_form Ticks bs r = (r.0, r.1)
ranged_form (After v) bs r = record { numbers = r.numbers; rising = r.rising; small = r.small; all = unit_all (λ n. n < v) r.numbers r.all; written = r.written }
ranged_form Engines bs r = (r.0, r.1)
ranged_form Marks bs r = record { marks = r.marks; some = r.some; written = r.written; all = tt }

pub ranged_lacks : (k : Key) (bs : List ℕ) → Ranged k bs → Lacks 10 bs
ranged_lacks k bs r = form_lacks (sort_of k) bs (ranged_form k bs r)

-- a line of a key can be taken in one way
pub taken_same : (k : Key) (bs v cs w ds : List ℕ) → Taken k bs v cs → Taken k bs w ds → (v ≡ w) × (cs ≡ ds)
taken_same k bs v cs w ds a b =
    let e = append_cancel_left (key_bytes k) (v ++ 10 ∷ cs) (w ++ 10 ∷ ds) (sym a.written ∙ b.written) in
    (cut_front 10 v cs w ds a.ended b.ended e, cut_back 10 v cs w ds a.ended b.ended e)

-- the text is just these lines, all in range
abbrev pub Runs : List Slot → List ℕ → Type 0
Runs [] bs = bs ≡ []
Runs (s ∷ ss) bs = (cs : List ℕ) × InRange s × (bs ≡ key_bytes s.key ++ (s.value ++ (10 ∷ cs))) × Runs ss cs

-- no line of the key that is in range can be taken
abbrev pub Broken : Key → List ℕ → Type 0
Broken k bs = (v cs : List ℕ) → Taken k bs v cs → Ranged k v → ⊥

-- the text begins with some of these lines, all in range, and then breaks off
abbrev pub Breaks : List Slot → List ℕ → Type 0
Breaks [] bs = 0 < length bs
Breaks (s ∷ ss) bs = Broken s.key bs ⊎ ((cs : List ℕ) × InRange s × (bs ≡ key_bytes s.key ++ (s.value ++ (10 ∷ cs))) × Breaks ss cs)

pub runs_whole : (ss : List Slot) (bs : List ℕ) → bs ≡ text_of ss → AllByRecursion InRange ss → Runs ss bs
runs_whole [] bs e r = e
runs_whole (s ∷ ss) bs e r = (text_of ss, r.0, e, runs_whole ss (text_of ss) refl r.1)

pub fails_broken : (k : Key) (bs : List ℕ) (n : ℕ) (f : Fault) → Fails k bs n f → Broken k bs
fails_broken k bs n Size f v cs t r = absurd f
fails_broken k bs n (Line at) f v cs t r = f.1 v cs t
fails_broken k bs n (Form at) f v cs t r =
    let (w, ds, u, no-form) = f.1 in
    no-form (subst (values.Form (sort_of k)) (taken_same k bs v cs w ds t u).0 (ranged_form k v r))
fails_broken k bs n (Range at) f v cs t r =
    let (w, ds, u, form, out) = f.1 in
    out (subst (Ranged k) (taken_same k bs v cs w ds t u).0 r)
fails_broken k bs n (Fork node) f v cs t r = absurd f
fails_broken k bs n Forks f v cs t r = absurd f

pub line_append : (s : Slot) (ss : List Slot) (rest : List ℕ) → text_of (s ∷ ss) ++ rest ≡ key_bytes s.key ++ (s.value ++ (10 ∷ (text_of ss ++ rest)))
line_append s ss rest =
    append_assoc (key_bytes s.key) (s.value ++ (10 ∷ text_of ss)) rest
    ∙ ap (λ xs. key_bytes s.key ++ xs) (append_assoc s.value (10 ∷ text_of ss) rest)

breaks_at : (before : List Slot) (due : Slot) (later : List Slot) (bs rest : List ℕ) → bs ≡ text_of before ++ rest → AllByRecursion InRange before → Broken due.key rest → Breaks (before ++ due ∷ later) bs
breaks_at [] due later bs rest e r broken = inl (subst (Broken due.key) (sym e) broken)
breaks_at (s ∷ before) due later bs rest e r broken =
    inr (text_of before ++ rest, r.0, e ∙ line_append s before rest, breaks_at before due later (text_of before ++ rest) rest refl r.1 broken)

breaks_past : (ss : List Slot) (bs rest : List ℕ) → bs ≡ text_of ss ++ rest → AllByRecursion InRange ss → 0 < length rest → Breaks ss bs
breaks_past [] bs rest e r more = subst (λ (xs : List ℕ). 0 < length xs) (sym e) more
breaks_past (s ∷ ss) bs rest e r more = inr (text_of ss ++ rest, r.0, e ∙ line_append s ss rest, breaks_past ss (text_of ss ++ rest) rest refl r.1 more)

pub breaks_stops : (ss : List Slot) (bs : List ℕ) (n : ℕ) (f : Fault) → Stops ss bs n f → Breaks ss bs
breaks_stops ss bs n f s =
    subst (λ (l : List Slot). Breaks l bs) (sym s.order)
    (breaks_at s.before s.due s.later bs s.rest s.took.written s.took.ranged (fails_broken s.due.key s.rest (s.last + 1) f s.fails))

pub breaks_overruns : (ss : List Slot) (bs : List ℕ) (n : ℕ) (f : Fault) → Overruns ss bs n f → Breaks ss bs
breaks_overruns ss bs n f o = breaks_past ss bs o.rest o.took.written o.took.ranged o.more

-- two walks along one text, at a line of the same key
module _ (k : Key) (v w : List ℕ) (ss ts : List Slot) where
  pub clash_step : ((cs : List ℕ) → v ≡ w → Ranged k v → Ranged k w → Runs ss cs → Breaks ts cs → ⊥) → (bs : List ℕ) → Runs (slot k v ∷ ss) bs → Breaks (slot k w ∷ ts) bs → ⊥
  clash_step later bs (cs, r, e, run) (inl broken) = broken v cs (record { ended = ranged_lacks k v r; written = e }) r
  clash_step later bs (cs, r, e, run) (inr (ds, q, g, break)) =
      let (same, rest) = taken_same k bs v cs w ds (record { ended = ranged_lacks k v r; written = e }) (record { ended = ranged_lacks k w q; written = g }) in
      later cs same r q run (subst (Breaks ts) (sym rest) break)

  pub match_step : (bs : List ℕ) → Runs (slot k v ∷ ss) bs → Runs (slot k w ∷ ts) bs → (cs : List ℕ) × (v ≡ w) × Ranged k v × Ranged k w × Runs ss cs × Runs ts cs
  match_step bs (cs, r, e, run) (ds, q, g, other) =
      let (same, rest) = taken_same k bs v cs w ds (record { ended = ranged_lacks k v r; written = e }) (record { ended = ranged_lacks k w q; written = g }) in
      (cs, same, r, q, run, subst (Runs ts) (sym rest) other)
