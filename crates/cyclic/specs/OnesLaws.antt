-- Laws of the count of true marks.
use Rattle.std.specs.Prelude.{◌≡◌, ℕ, zero, suc, ◌+◌, ◌%◌, ◌≤◌, Bool, true, false, cond, List, length, slice_index_or, refl}
use Rattle.std.proofs.Common.{sym, ap, ◌∙◌, add-zero, add-suc, add_assoc, add-one, arith}
use Rattle.std.proofs.Math.Nat.{add-mod_right, mod-add-mod}
use Rattle.cyclic.specs.Ones.{mark, ones}

cond_one : (b : Bool) → cond b 1 0 ≤ 1
cond_one true = omega arith
cond_one false = omega arith

pub mark_one : (marks : List Bool) (k : ℕ) → mark marks k ≤ 1
unfolding mark
mark_one marks k = cond_one (slice_index_or marks (k % length marks) false)

pub mark_turn : (marks : List Bool) (k : ℕ) → mark marks (k + length marks) ≡ mark marks k
unfolding mark
mark_turn marks k = ap (λ (j : ℕ). cond (slice_index_or marks j false) 1 0) (add-mod_right k (length marks))

pub mark_mod : (marks : List Bool) (i k : ℕ) → mark marks (i % length marks + k) ≡ mark marks (i + k)
unfolding mark
mark_mod marks i k = ap (λ (j : ℕ). cond (slice_index_or marks j false) 1 0) (mod-add-mod i (length marks) k)

pub ones_none : (marks : List Bool) (i : ℕ) → ones marks i 0 ≡ 0
unfolding ones
ones_none marks i = refl

pub ones_more : (marks : List Bool) (i n : ℕ) → ones marks i (n + 1) ≡ ones marks i n + mark marks (i + n)
unfolding ones
ones_more marks i n = rw (add-one n)

pub ones_one : (marks : List Bool) (i : ℕ) → ones marks i 1 ≡ mark marks i
ones_one marks i =
    let more = ones_more marks i 0 in
    let none = ones_none marks i in
    let here = ap (mark marks) (add-zero i) in
    omega arith

pub ones_join : (marks : List Bool) (i a b : ℕ) → ones marks i (a + b) ≡ ones marks i a + ones marks (i + a) b
unfolding ones
ones_join marks i a zero = ap (ones marks i) (add-zero a) ∙ sym (add-zero (ones marks i a))
ones_join marks i a (suc b) =
    let rec = ones_join marks i a b in
    let here = ap (mark marks) (add_assoc i a b) in
    let more = ap (ones marks i) (add-suc a b) in
    omega arith

pub ones_turn : (marks : List Bool) (i n : ℕ) → ones marks (i + length marks) n ≡ ones marks i n
unfolding ones
ones_turn marks i zero = refl
ones_turn marks i (suc n) =
    let rec = ones_turn marks i n in
    let same : i + length marks + n ≡ i + n + length marks = omega arith in
    let here = ap (mark marks) same in
    let turn = mark_turn marks (i + n) in
    omega arith

pub ones_mod : (marks : List Bool) (i n : ℕ) → ones marks (i % length marks) n ≡ ones marks i n
unfolding ones
ones_mod marks i zero = refl
ones_mod marks i (suc n) =
    let rec = ones_mod marks i n in
    let here = mark_mod marks i n in
    omega arith

-- a whole turn has the same count from each place
pub ones_whole : (marks : List Bool) (i : ℕ) → ones marks i (length marks) ≡ ones marks 0 (length marks)
ones_whole marks zero = refl
ones_whole marks (suc i) =
    let rec = ones_whole marks i in
    let first = ones_join marks i 1 (length marks) in
    let last = ones_join marks i (length marks) 1 in
    let swap : 1 + length marks ≡ length marks + 1 = omega arith in
    let same = ap (ones marks i) swap in
    let turn = ones_turn marks i 1 in
    let next : i + 1 ≡ suc i = omega arith in
    let there = ap (λ (j : ℕ). ones marks j (length marks)) next in
    omega arith

pub ones_few : (marks : List Bool) (i n : ℕ) → ones marks i n ≤ n
unfolding ones
ones_few marks i zero = omega arith
ones_few marks i (suc n) =
    let rec = ones_few marks i n in
    let one = mark_one marks (i + n) in
    omega arith
