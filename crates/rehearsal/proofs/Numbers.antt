-- One number more below a bound, and one piece more of a list.
use Rattle.std.proofs.Common.{◌≡◌, ℕ, ◌+◌, ◌<◌, List, [], ◌∷◌, ◌++◌, take, length, get_or, ap, ◌∙◌, sym, refl, append_assoc, append-nil, zero-add}
use Rattle.std.proofs.lemmas.List.{map-id, take_more}
use Rattle.std.proofs.lemmas.List.Concat.{flat_map-append}
use Rattle.std.proofs.lemmas.List.FromFn.{map-range_with_len_more}
use Rattle.std.specs.List.{flat_map, range_with_len}
use Rattle.rehearsal.specs.Below.{below}

none_below : {X : Type 0} (f : ℕ → List X) → flat_map f (below 0) ≡ []
unfolding below
none_below f = refl

more_below : (n : ℕ) → below (n + 1) ≡ below n ++ n ∷ []
unfolding below
more_below n =
    sym (map-id (range_with_len 0 (n + 1))) ∙ map-range_with_len_more (λ x. x) 0 n n (zero-add n) ∙ ap (λ r. r ++ n ∷ []) (map-id (range_with_len 0 n))

last_piece : {X A : Type 0} (f : X → List A) (xs : List X) (x : X) → flat_map f (xs ++ x ∷ []) ≡ flat_map f xs ++ f x
last_piece f xs x = flat_map-append f xs (x ∷ []) ∙ ap (λ r. flat_map f xs ++ r) (append-nil (f x))

piece_below : {X : Type 0} (f : ℕ → List X) (n : ℕ) → flat_map f (below (n + 1)) ≡ flat_map f (below n) ++ f n
piece_below f n = ap (flat_map f) (more_below n) ∙ last_piece f (below n) n

pub no_pieces : {X : Type 0} (f : ℕ → List X) (old : List X) → old ≡ old ++ flat_map f (below 0)
no_pieces f old = sym (append-nil old) ∙ ap (λ r. old ++ r) (sym (none_below f))

pub one_piece_more : {X : Type 0} (f : ℕ → List X) (n : ℕ) (old was new : List X) → was ≡ old ++ flat_map f (below n) → new ≡ was ++ f n → new ≡ old ++ flat_map f (below (n + 1))
one_piece_more f n old was new before put =
    put ∙ ap (λ r. r ++ f n) before ∙ append_assoc old (flat_map f (below n)) (f n) ∙ ap (λ r. old ++ r) (sym (piece_below f n))

pub piece_more : {X A : Type 0} (f : X → List A) (xs : List X) (i : ℕ) (x : X) → i < length xs → flat_map f (take (i + 1) xs) ≡ flat_map f (take i xs) ++ f (get_or xs i x)
piece_more f xs i x below = ap (flat_map f) (take_more xs i x below) ∙ last_piece f (take i xs) (get_or xs i x)
