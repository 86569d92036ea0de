-- Lines taken one after the other.
use Rattle.std.proofs.Common.{◌≡◌, ℕ, ◌+◌, List, [], ◌∷◌, ◌++◌, sym, refl, ap, ◌∙◌, subst, add-zero, arith}
use Rattle.std.proofs.ByRecursion.{All-append}
use Rattle.std.proofs.lemmas.List.{append_assoc, length-append}
use Rattle.text.specs.declared.fault.Fault.{Fault}
use Rattle.text.specs.declared.key.Key.{Key}
use Rattle.text.specs.Key.{key_bytes}
use Rattle.text.specs.declared.lines.Lines.{Lines}
use Rattle.text.specs.Take.{Misses, Starts}
use Rattle.text.specs.Slots.{Slot, slot, text_of, InRange, Took, Fails, Stops}

text_append : (ss ts : List Slot) → text_of (ss ++ ts) ≡ text_of ss ++ text_of ts
text_append [] ts = refl
text_append (s ∷ ss) ts =
    ap (λ xs. key_bytes s.key ++ (s.value ++ (10 ∷ xs))) (text_append ss ts)
    ∙ (ap (λ xs. key_bytes s.key ++ xs) (sym (append_assoc s.value (10 ∷ text_of ss) (text_of ts)))
    ∙ sym (append_assoc (key_bytes s.key) (s.value ++ (10 ∷ text_of ss)) (text_of ts)))

pub took_none : (bs : List ℕ) (n : ℕ) → Took [] bs n bs n
took_none bs n = record { written = refl; ranged = tt; counted = sym (add-zero n) }

pub took_append : (ss ts : List Slot) (bs : List ℕ) (n : ℕ) (cs : List ℕ) (m : ℕ) (ds : List ℕ) (o : ℕ) → Took ss bs n cs m → Took ts cs m ds o → Took (ss ++ ts) bs n ds o
took_append ss ts bs n cs m ds o a b = record {
  written = a.written ∙ (ap (λ xs. text_of ss ++ xs) b.written ∙ (sym (append_assoc (text_of ss) (text_of ts) ds) ∙ ap (λ xs. xs ++ ds) (sym (text_append ss ts))));
  ranged = All-append InRange ss ts a.ranged b.ranged;
  counted = omega (arith, a.counted, b.counted, length-append ss ts);
}

-- the first line fails
pub stops_first : (k : Key) (value : List ℕ) (later : List Slot) (bs : List ℕ) (n : ℕ) (f : Fault) → Fails k bs (n + 1) f → Stops (slot k value ∷ later) bs n f
stops_first k value later bs n f x =
    record { before = []; due = slot k value; later = later; order = refl; rest = bs; last = n; took = took_none bs n; fails = x }

-- a line after some others fails
pub stops_after : (ss ts : List Slot) (bs : List ℕ) (n : ℕ) (cs : List ℕ) (m : ℕ) (f : Fault) → Took ss bs n cs m → Stops ts cs m f → Stops (ss ++ ts) bs n f
stops_after ss ts bs n cs m f a x = record {
  before = ss ++ x.before;
  due = x.due;
  later = x.later;
  order = ap (λ rest. ss ++ rest) x.order ∙ sym (append_assoc ss x.before (x.due ∷ x.later));
  rest = x.rest;
  last = x.last;
  took = took_append ss x.before bs n cs m x.rest x.last a x.took;
  fails = x.fails;
}

pub stops_more : (ss ts : List Slot) (bs : List ℕ) (n : ℕ) (f : Fault) → Stops ss bs n f → Stops (ss ++ ts) bs n f
stops_more ss ts bs n f x = record {
  before = x.before;
  due = x.due;
  later = x.later ++ ts;
  order = ap (λ rest. rest ++ ts) x.order ∙ append_assoc x.before (x.due ∷ x.later) ts;
  rest = x.rest;
  last = x.last;
  took = x.took;
  fails = x.fails;
}

-- the same, line by line
pub took_next : {s : Slot} {ts : List Slot} {bs : List ℕ} {n : ℕ} {cs : List ℕ} {m : ℕ} {ds : List ℕ} {o : ℕ} → Took (s ∷ []) bs n cs m → Took ts cs m ds o → Took (s ∷ ts) bs n ds o
took_next {s} {ts} {bs} {n} {cs} {m} {ds} {o} a b = took_append (s ∷ []) ts bs n cs m ds o a b

pub stops_here : {k : Key} {value : List ℕ} {later : List Slot} {bs : List ℕ} {n : ℕ} {f : Fault} → Fails k bs (n + 1) f → Stops (slot k value ∷ later) bs n f
stops_here {k} {value} {later} {bs} {n} {f} x = stops_first k value later bs n f x

pub stops_next : {s : Slot} {ts : List Slot} {bs : List ℕ} {n : ℕ} {cs : List ℕ} {m : ℕ} {f : Fault} → Took (s ∷ []) bs n cs m → Stops ts cs m f → Stops (s ∷ ts) bs n f
stops_next {s} {ts} {bs} {n} {cs} {m} {f} a x = stops_after (s ∷ []) ts bs n cs m f a x

-- the same line, its value said in another way
pub took_value : {k : Key} {xs ys : List ℕ} {bs : List ℕ} {n : ℕ} {cs : List ℕ} {m : ℕ} → xs ≡ ys → Took (slot k xs ∷ []) bs n cs m → Took (slot k ys ∷ []) bs n cs m
took_value {k} {xs} {ys} {bs} {n} {cs} {m} e t = subst (λ zs. Took (slot k zs ∷ []) bs n cs m) e t

-- what is taken first from all of a text
pub start_took : {text : List ℕ} {l : Lines} {ss : List Slot} {cs : List ℕ} {m : ℕ} → Starts text l → Took ss l.rest.now l.number cs m → Took ss text 0 cs m
start_took {text} {l} {ss} {cs} {m} s t = subst (λ bs. Took ss bs 0 cs m) s.rest (subst (λ n. Took ss l.rest.now n cs m) s.number t)

pub start_stops : {text : List ℕ} {l : Lines} {ss : List Slot} {f : Fault} → Starts text l → Stops ss l.rest.now l.number f → Stops ss text 0 f
start_stops {text} {l} {ss} {f} s t = subst (λ bs. Stops ss bs 0 f) s.rest (subst (λ n. Stops ss l.rest.now n f) s.number t)

pub start_fails : {text : List ℕ} {l : Lines} (key : Key) (f : Fault) → Starts text l → Misses key l f → Fails key text 1 f
start_fails {text} {l} key f s t = subst (λ bs. Fails key bs 1 f) s.rest (subst (λ n. Fails key l.rest.now (n + 1) f) s.number t)
