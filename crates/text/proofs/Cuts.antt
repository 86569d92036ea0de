-- A list is cut at the first of a byte in one way.
use Rattle.std.proofs.Common.{◌≡◌, ℕ, ◌+◌, ◌-◌, ◌<◌, ◌≢◌, List, [], ◌∷◌, ◌++◌, length, get_or, take, drop, sym, refl, ap, ◌∙◌, arith}
use Rattle.std.proofs.ByRecursion.{All-from_get_or}
use Rattle.std.proofs.lemmas.List.{take_rest, take-append-drop, drop_more, get_or-take, length-take-le}
use Rattle.text.specs.Split.{Cut, Lacks}

-- what lacks a byte does not hold it
pub lacks_none : (b : ℕ) (bs xs ys : List ℕ) → Lacks b bs → bs ≡ xs ++ b ∷ ys → ⊥
lacks_none b [] [] ys l e = let z : ◌≡◌ {A = ℕ} 0 1 = cc in omega arith
lacks_none b [] (x ∷ xs) ys l e = let z : ◌≡◌ {A = ℕ} 0 1 = cc in omega arith
lacks_none b (c ∷ bs) [] ys l e = l.0 (cc)
lacks_none b (c ∷ bs) (x ∷ xs) ys l e = lacks_none b bs xs ys l.1 (cc)

pub cut_front : (b : ℕ) (xs ys vs ws : List ℕ) → Lacks b xs → Lacks b vs → xs ++ b ∷ ys ≡ vs ++ b ∷ ws → xs ≡ vs
cut_front b [] ys [] ws l m e = refl
cut_front b [] ys (v ∷ vs) ws l m e = absurd (m.0 (cc))
cut_front b (x ∷ xs) ys [] ws l m e = absurd (l.0 (cc))
cut_front b (x ∷ xs) ys (v ∷ vs) ws l m e =
    let rest = cut_front b xs ys vs ws l.1 m.1 (cc) in
    let head : x ≡ v = cc in
    cc

pub cut_back : (b : ℕ) (xs ys vs ws : List ℕ) → Lacks b xs → Lacks b vs → xs ++ b ∷ ys ≡ vs ++ b ∷ ws → ys ≡ ws
cut_back b [] ys [] ws l m e = cc
cut_back b [] ys (v ∷ vs) ws l m e = absurd (m.0 (cc))
cut_back b (x ∷ xs) ys [] ws l m e = absurd (l.0 (cc))
cut_back b (x ∷ xs) ys (v ∷ vs) ws l m e = cut_back b xs ys vs ws l.1 m.1 (cc)

-- cut at the first place where the byte stands
pub cut_at : (b i : ℕ) (bs : List ℕ) → i < length bs → get_or bs i 0 ≡ b → ((k : ℕ) → k < i → get_or bs k 0 ≢ b) → Cut b bs (take i bs) (take (length bs - (i + 1)) (drop (i + 1) bs))
cut_at b i bs l here before = record {
  parts = sym (take-append-drop i bs) ∙ ap (λ ys. take i bs ++ ys) (drop_more bs i 0 l ∙ (ap (λ x. x ∷ drop (i + 1) bs) here ∙ ap (λ ys. b ∷ ys) (sym (take_rest bs (i + 1)))));
  first = All-from_get_or (λ x. x ≢ b) (take i bs) 0 (λ k h.
      let in' : k < i = omega (arith, length-take-le i bs (omega arith)) in
      λ e. before k in' (sym (get_or-take i bs k 0 in') ∙ e));
}
