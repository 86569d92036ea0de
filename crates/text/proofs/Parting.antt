-- The first empty line parts a text from what follows.
use Rattle.std.proofs.Common.{◌≡◌, ℕ, ◌+◌, ◌-◌, ◌<◌, ◌≤◌, ◌≢◌, ◌⊎◌, List, [], ◌∷◌, ◌++◌, length, get_or, take, drop, Some, sym, ap, ◌∙◌, subst, inl, inr, arith}
use Rattle.std.proofs.lemmas.List.{get_or-take, get_or_past, length-take-le, take-append-drop, drop_more}
use Rattle.std.proofs.lemmas.Bool.{cases_lt}
use Rattle.text.specs.Texts.{Fresh, Empty, Gap, First}

parted : (bs : List ℕ) (i : ℕ) → i < length bs → get_or bs i 0 ≡ 10 → Fresh bs i → ((k : ℕ) → k < i → Empty bs k → ⊥) → First bs (take i bs) (Some (drop (i + 1) bs))
parted bs i l end fresh none =
    let long = length-take-le i bs (omega arith) in (
      sym (take-append-drop i bs) ∙ ap (λ ys. take i bs ++ ys) (drop_more bs i 0 l ∙ ap (λ x. x ∷ drop (i + 1) bs) end),
      elim fresh [ inl z ↦ inl (long ∙ z) | inr e ↦ begins (cases_lt 0 i) e long ],
      λ k x. elim (cases_lt k i) [
        | inl h ↦ none k h (elim x.0 [ inl z ↦ inl z | inr e ↦ inr (sym (get_or-take i bs (k - 1) 0 (omega arith)) ∙ e) ], sym (get_or-take i bs k 0 h) ∙ x.1)
        | inr h ↦ let past = get_or_past (take i bs) k 0 (omega arith) in omega (arith, x.1)
      ],
    )
  where
    begins : (0 < i) ⊎ (i ≤ 0) → get_or bs (i - 1) 0 ≡ 10 → length (take i bs) ≡ i → Fresh (take i bs) (length (take i bs))
    begins (inl h) e long = inr (ap (λ n. get_or (take i bs) (n - 1) 0) long ∙ (get_or-take i bs (i - 1) 0 (omega arith) ∙ e))
    begins (inr h) e long = inl (omega arith)

line_end_no : (bs : List ℕ) → ((more : List ℕ) → bs ≢ 10 ∷ more) → get_or bs 0 0 ≢ 10
line_end_no [] none e = omega arith
line_end_no (b ∷ bs) none e = none bs (ap (λ x. x ∷ bs) e)

-- the first gap parts a text that does not begin with byte 10
pub parted_at_gap : (bs : List ℕ) (i : ℕ) → ((more : List ℕ) → bs ≢ 10 ∷ more) → Gap bs i → ((k : ℕ) → k < i → Gap bs k → ⊥) → First bs (take (i + 1) bs) (Some (drop (i + 2) bs))
parted_at_gap bs i start gap before =
    let back : i + 1 - 1 ≡ i = omega arith in
    subst (λ n. First bs (take (i + 1) bs) (Some (drop n bs))) (omega arith)
    (parted bs (i + 1) gap.0 gap.2 (inr (ap (λ n. get_or bs n 0) back ∙ gap.1)) (λ k l x. elim x.0 [
      | inl z ↦ line_end_no bs start (ap (λ n. get_or bs n 0) (sym z) ∙ x.1)
      | inr e ↦ elim (cases_lt 0 k) [
        | inl h ↦
            let same : k - 1 + 1 ≡ k = omega arith in
            before (k - 1) (omega arith) (omega (arith, gap.0), e, ap (λ n. get_or bs n 0) same ∙ x.1)
        | inr h ↦ let none : k ≡ 0 = omega arith in line_end_no bs start (ap (λ n. get_or bs n 0) (sym none) ∙ x.1)
      ]
    ]))
