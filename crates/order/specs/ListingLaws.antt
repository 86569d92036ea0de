-- How often a number stands in a list, and lists that have every engine of a tag once.
use Rattle.std.specs.Prelude.{◌≡◌, ℕ, zero, suc, ◌+◌, ◌<◌, Bool, true, false, cond, List, [], ◌∷◌, ◌++◌, Some, filter, ◌==◌, ◌≢◌, nat_eq, refl}
use Rattle.std.proofs.Common.{sym, ap, ◌∙◌, arith}
use Rattle.engine.specs.Roster.{tag_of}
use Rattle.std.proofs.lemmas.Option.{none-some, same_Some}
use Rattle.order.specs.Listing.{EachOnce, times, engines_from, engines_of}
use Rattle.std.proofs.lemmas.Bool.{eqb-true, eq-eqb, ne_eqb, true≢false, false≢true}

cond_one : (b : Bool) → ◌≡◌ {A = ℕ} (cond b 1 1) 1
cond_one true = refl
cond_one false = refl

pub times_append : (e : ℕ) (xs ys : List ℕ) → times e (xs ++ ys) ≡ times e xs + times e ys
times_append e [] ys = omega arith
times_append e (x ∷ xs) ys = let rec = times_append e xs ys in omega arith

times_cond : (e x : ℕ) (xs : List ℕ) (a : Bool) → times e (cond a (x ∷ xs) xs) ≡ cond a (cond (x == e) 1 0 + times e xs) (times e xs)
times_cond e x xs true = refl
times_cond e x xs false = refl

kept_one : (a b q : Bool) (n m : ℕ) → (b ≡ true → q ≡ a) → m ≡ cond q n 0 → cond a (cond b 1 0 + m) m ≡ cond q (cond b 1 0 + n) 0
kept_one true true true n m same is = omega arith
kept_one true true false n m same is = absurd (false≢true (same refl))
kept_one true false true n m same is = omega arith
kept_one true false false n m same is = omega arith
kept_one false true true n m same is = absurd (true≢false (same refl))
kept_one false true false n m same is = is
kept_one false false true n m same is = omega arith
kept_one false false false n m same is = is

cond_same : (b : Bool) → ◌≡◌ {A = ℕ} (cond b 0 0) 0
cond_same true = refl
cond_same false = refl

pub times_kept : (e : ℕ) (p : ℕ → Bool) (xs : List ℕ) → times e (filter p xs) ≡ cond (p e) (times e xs) 0
times_kept e p [] = sym (cond_same (p e))
times_kept e p (x ∷ xs) =
    times_cond e x (filter p xs) (p x) ∙ kept_one (p x) (x == e) (p e) (times e xs) (times e (filter p xs)) (λ is. ap p (sym (eqb-true x e is))) (times_kept e p xs)

pub each_once_same : (tags : List ℕ) (tag : ℕ) (xs ys : List ℕ) → ((e : ℕ) → times e ys ≡ times e xs) → EachOnce tags tag xs → EachOnce tags tag ys
each_once_same tags tag xs ys same each = record {
  once = λ e is. same e ∙ each.once e is;
  never = λ e isn't. same e ∙ each.never e isn't;
}

below : (e i : ℕ) (ts : List ℕ) (tag : ℕ) → e < i → times e (engines_from i ts tag) ≡ 0
below e i [] tag lt = refl
below e i (t ∷ ts) tag lt =
    let rec = below e (suc i) ts tag (omega arith) in
    let other : nat_eq i e ≡ false = ne_eqb i e (λ is. omega arith) in
    times_cond e i (engines_from (suc i) ts tag) (t == tag) ∙ rw (other, rec) (cond_same (t == tag))

found : (e k i : ℕ) (ts : List ℕ) (tag : ℕ) → e ≡ i + k → tag_of ts k ≡ Some tag → times e (engines_from i ts tag) ≡ 1
found e k i [] tag at is = absurd (none-some _ is)
found e zero i (t ∷ ts) tag at is =
    let here : nat_eq i e ≡ true = eq-eqb i e (omega arith) in
    let tagged : nat_eq t tag ≡ true = eq-eqb t tag (same_Some _ _ is) in
    let rest = below e (suc i) ts tag (omega arith) in
    times_cond e i (engines_from (suc i) ts tag) (t == tag) ∙ rw (tagged, here, rest) refl
found e (suc k) i (t ∷ ts) tag at is =
    let rec = found e k (suc i) ts tag (omega arith) is in
    let other : nat_eq i e ≡ false = ne_eqb i e (λ same. omega arith) in
    times_cond e i (engines_from (suc i) ts tag) (t == tag) ∙ rw (other, rec) (cond_one (t == tag))

missed : (e k i : ℕ) (ts : List ℕ) (tag : ℕ) → e ≡ i + k → (tag_of ts k ≢ Some tag) → times e (engines_from i ts tag) ≡ 0
missed e k i [] tag at isn't = refl
missed e zero i (t ∷ ts) tag at isn't =
    let other : nat_eq t tag ≡ false = ne_eqb t tag (λ same. isn't (ap Some same)) in
    let rest = below e (suc i) ts tag (omega arith) in
    times_cond e i (engines_from (suc i) ts tag) (t == tag) ∙ rw (other, rest) refl
missed e (suc k) i (t ∷ ts) tag at isn't =
    let rec = missed e k (suc i) ts tag (omega arith) isn't in
    let other : nat_eq i e ≡ false = ne_eqb i e (λ same. omega arith) in
    times_cond e i (engines_from (suc i) ts tag) (t == tag) ∙ rw (other, rec) (cond_same (t == tag))

pub each_once_engines : (tags : List ℕ) (tag : ℕ) → EachOnce tags tag (engines_of tags tag)
each_once_engines tags tag = record {
  once = λ e is. found e e 0 tags tag (omega arith) is;
  never = λ e isn't. missed e e 0 tags tag (omega arith) isn't;
}
