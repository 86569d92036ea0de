-- The lines of engines.
use Rattle.std.proofs.Common.{◌≡◌, ℕ, suc, ◌+◌, ◌-◌, ◌<◌, List, [], ◌∷◌, ◌++◌, map, length, replicate, decimal, sym, refl, ap, ◌∙◌, subst, inl, inr, arith}
use Rattle.std.proofs.lemmas.List.{append_assoc, length-append, length-map, length-replicate, map-append}
use Rattle.text.specs.declared.fault.Fault.{Fault}
use Rattle.text.specs.declared.fault.Fault.TheVariants.{Size, Line, Form, Range, Fork, Forks}
use Rattle.text.specs.declared.key.Key as keys
use Rattle.text.specs.declared.platform_text.Engine.{Engine}
use Rattle.text.specs.PlatformText.{Refused, Said, engine_slots, engines_slots, said, slots}
use Rattle.text.specs.Slots.{slot, Fails, Halts, Sized, Stops, Took}
use Rattle.text.proofs.Following.{took_append, took_next, stops_after, stops_here, stops_more, stops_next}
use Rattle.text.proofs.Single.{platform_unread}

engines_append : (ss ts : List Said) → engines_slots (ss ++ ts) ≡ engines_slots ss ++ engines_slots ts
engines_append [] ts = refl
engines_append (s ∷ ss) ts = ap (λ xs. engine_slots s ++ xs) (engines_append ss ts) ∙ sym (append_assoc (engine_slots s) (engines_slots ss) (engines_slots ts))

-- one more engine is read
pub engines_more : (es : List Engine) (e : Engine) (bs : List ℕ) (b : ℕ) (cs : List ℕ) (c : ℕ) (ds : List ℕ) (d : ℕ) → Took (engines_slots (map said es)) bs b cs c → Took (engine_slots (said e)) cs c ds d → Took (engines_slots (map said (es ++ e ∷ []))) bs b ds d
engines_more es e bs b cs c ds d was more =
    let same : engines_slots (map said (es ++ e ∷ [])) ≡ engines_slots (map said es) ++ engine_slots (said e) =
    ap engines_slots (map-append said es (e ∷ [])) ∙ engines_append (map said es) (said e ∷ []) in
    subst (λ ss. Took ss bs b ds d) (sym same) (took_append (engines_slots (map said es)) (engine_slots (said e)) bs b cs c ds d was more)

pub engines_stop : (i count : ℕ) (es : List Engine) (s : Said) (bs : List ℕ) (b : ℕ) (cs : List ℕ) (c : ℕ) (f : Fault) → i < count → length es ≡ i → Took (engines_slots (map said es)) bs b cs c → Stops (engine_slots s) cs c f → (ss : List Said) × (length ss ≡ count) × Stops (engines_slots ss) bs b f
engines_stop i count es s bs b cs c f l long was stop =
    let none : Said = record { tag = 0; marks = [] } in
    let later = replicate (count - suc i) none in (
      map said es ++ s ∷ later,
      omega (arith, length-append (map said es) (s ∷ later), length-map es said, length-replicate (count - suc i) none),
      subst (λ ss. Stops ss bs b f) (sym (engines_append (map said es) (s ∷ later)))
          (stops_after (engines_slots (map said es)) (engine_slots s ++ engines_slots later) bs b cs c f was (stops_more (engine_slots s) (engines_slots later) cs c f stop)),
    )

-- from the parts of a platform text to the whole
pub count_halts : (bs : List ℕ) (f : Fault) → Fails keys.TheVariants.Engines bs 1 f → (ss : List Said) × Halts (slots ss) bs f
count_halts bs f x = ([], inl (stops_here x))

first : (count : ℕ) (ss : List Said) (bs cs : List ℕ) (c : ℕ) → length ss ≡ count → Took (slot keys.TheVariants.Engines (decimal count) ∷ []) bs 0 cs c → Took (slot keys.TheVariants.Engines (decimal (length ss)) ∷ []) bs 0 cs c
first count ss bs cs c e took = subst (λ n. Took (slot keys.TheVariants.Engines (decimal n) ∷ []) bs 0 cs c) (sym e) took

pub engines_halt : (count : ℕ) (ss : List Said) (bs cs : List ℕ) (c : ℕ) (f : Fault) → length ss ≡ count → Took (slot keys.TheVariants.Engines (decimal count) ∷ []) bs 0 cs c → Stops (engines_slots ss) cs c f → (ss : List Said) × Halts (slots ss) bs f
engines_halt count ss bs cs c f e took stop = (ss, inl (stops_next (first count ss bs cs c e took) stop))

pub over_halts : (count : ℕ) (ss : List Said) (bs cs : List ℕ) (c : ℕ) (ds : List ℕ) (d : ℕ) (f : Fault) → length ss ≡ count → Took (slot keys.TheVariants.Engines (decimal count) ∷ []) bs 0 cs c → Took (engines_slots ss) cs c ds d → 0 < length ds → f ≡ Line (d + 1) → (ss : List Said) × Halts (slots ss) bs f
over_halts count ss bs cs c ds d f e a b l x = (ss, inr (record { rest = ds; last = d; took = took_next (first count ss bs cs c e a) b; more = l; fault = x }))

pub halts_refused : (bs : List ℕ) (f : Fault) → Sized bs → (ss : List Said) × Halts (slots ss) bs f → Refused bs f
halts_refused bs Size s x = elim x.1 [ inl stop ↦ absurd stop.fails | inr over ↦ let z : ◌≡◌ {A = ℕ} 0 1 = cc over.fault in absurd (let y : ⊥ = omega arith in y) ]
halts_refused bs (Line n) s x = record { sized = s; says = x.0; halts = x.1; unread = platform_unread bs (Line n) x.0 x.1 }
halts_refused bs (Form n) s x = record { sized = s; says = x.0; halts = x.1; unread = platform_unread bs (Form n) x.0 x.1 }
halts_refused bs (Range n) s x = record { sized = s; says = x.0; halts = x.1; unread = platform_unread bs (Range n) x.0 x.1 }
halts_refused bs (Fork v) s x = elim x.1 [ inl stop ↦ absurd stop.fails | inr over ↦ let z : ◌≡◌ {A = ℕ} 0 1 = cc over.fault in absurd (let y : ⊥ = omega arith in y) ]
halts_refused bs Forks s x = elim x.1 [ inl stop ↦ absurd stop.fails | inr over ↦ let z : ◌≡◌ {A = ℕ} 0 1 = cc over.fault in absurd (let y : ⊥ = omega arith in y) ]
