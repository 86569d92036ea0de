-- One open sub-task: what is left of it, what it asked for, and what a tick does to it.
use Rattle.std.proofs.Common.{◌≡◌, ℕ, ◌+◌, ◌-◌, ◌<◌, ◌≤◌, Bool, true, false, cond, ◌&&◌, ◌||◌, ◌==◌, nat_le, Option, Some, None, refl, inl, inr, arith}
use Rattle.std.proofs.lemmas.Bool.{false≢true, le-leb, eq-eqb, cases_lt, and_from, cases_Bool, both_ways}
use Rattle.std.proofs.lemmas.Bool.Decides.{nat_tests}
use Rattle.theory.specs.Pattern.{share}
use Rattle.runs.specs.Job.{on_engine, SubTask, window_of}
use Rattle.runs.specs.State.{finished, is_late, is_pending, late, left_of, OpenTask, pending, Phase, Task}
use Rattle.runs.specs.Next.{Key, key_of, ready}
use Rattle.runs.specs.Events.{advance, opened, same, serve, worked}

-- whether an open sub-task is on the engine e and its window lies between x and y
abbrev pub lies : (e x y : ℕ) → OpenTask → Bool
lies e x y p = (p.task.engine == e) && (nat_le x p.task.release && nat_le p.task.due y)

-- the ticks left of an open sub-task on the engine e that is due up to d
abbrev pub owed : (e d : ℕ) → OpenTask → ℕ
owed e d p = cond ((p.task.engine == e) && nat_le p.task.due d) (left_of p.phase) 0

-- the ticks of an open sub-task on the engine e whose window lies between x and y
abbrev pub wanted : (e x y : ℕ) → OpenTask → ℕ
wanted e x y p = cond (lies e x y p) p.task.ticks 0

-- a phase of a sub_task of c ticks that is not late
pub record Live (c : ℕ) (f : Phase) : Type 0 where
  pub not_late : is_late f ≡ false
  pub some_left : is_pending f ≡ true → 1 ≤ left_of f
  pub no_more : left_of f ≤ c

pub worked_le : (done : Bool) (f : Phase) → left_of (worked done f) ≤ left_of f
worked_le done (pending n) = elim (cases_Bool (done || nat_le n 1)) [ inl y ↦ rw y (omega arith) | inr off ↦ rw off (omega arith) ]
worked_le done finished = omega arith
worked_le done late = omega arith

pub worked_lt : (done : Bool) (f : Phase) → 1 ≤ left_of f → left_of (worked done f) + 1 ≤ left_of f
worked_lt done (pending n) l = elim (cases_Bool (done || nat_le n 1)) [ inl y ↦ rw y (omega arith) | inr off ↦ rw off (omega arith) ]
worked_lt done finished l = omega arith
worked_lt done late l = omega arith

pub worked_live : (c : ℕ) (done : Bool) (f : Phase) → Live c f → Live c (worked done f)
worked_live c done (pending n) h = elim (cases_Bool (done || nat_le n 1)) [
  | inl y ↦ rw y (record { not_late = refl; some_left = λ q. absurd (false≢true q); no_more = omega arith })
  | inr off ↦
      let more = h.no_more in
      let two : 1 < n = grind (arith, nat_tests) in
      rw off (record { not_late = refl; some_left = λ _. omega arith; no_more = omega arith })
]
worked_live c done finished h = h
worked_live c done late h = h

pub serve_le : (o : Option Key) (on done : Bool) (p : OpenTask) → left_of (serve o on done p) ≤ left_of p.phase
serve_le None on done p = omega arith
serve_le (Some k) on done p = elim (cases_Bool (on && same k p.task)) [ inl y ↦ rw y (worked_le done p.phase) | inr off ↦ rw off (omega arith) ]

pub serve_live : (c : ℕ) (o : Option Key) (on done : Bool) (p : OpenTask) → Live c p.phase → Live c (serve o on done p)
serve_live c None on done p h = h
serve_live c (Some k) on done p h = elim (cases_Bool (on && same k p.task)) [ inl y ↦ rw y (worked_live c done p.phase h) | inr off ↦ rw off h ]

cond_le : (b : Bool) (m n : ℕ) → m ≤ n → cond b m 0 ≤ cond b n 0
cond_le true m n h = h
cond_le false m n h = omega arith

pub advance_le : (e d : ℕ) (choice : ℕ → Option Key) (on done : ℕ → Bool) (p : OpenTask) → owed e d (advance choice on done p) ≤ owed e d p
advance_le e d choice on done p = cond_le ((p.task.engine == e) && nat_le p.task.due d) _ _ (serve_le (choice p.task.engine) (on p.task.engine) (done p.task.engine) p)

pub same_self : (t : Task) (k : Key) → key_of t ≡ k → same k t ≡ true
same_self t k e = rw (← e) (and_from _ _ (eq-eqb t.job t.job refl) (eq-eqb t.node t.node refl))

-- the one that runs
pub advance_lt : (e d : ℕ) (choice : ℕ → Option Key) (on done : ℕ → Bool) (p : OpenTask) (k : Key) → p.task.engine ≡ e → choice e ≡ Some k → same k p.task ≡ true → on e ≡ true
    → 1 ≤ left_of p.phase → p.task.due ≤ d → owed e d (advance choice on done p) + 1 ≤ owed e d p
advance_lt e d choice on done p k at_e chosen it served some in_it =
    let a : ((p.task.engine == e) && nat_le p.task.due d) ≡ true = and_from _ _ (eq-eqb _ _ at_e) (le-leb _ _ in_it) in
    let b : (on e && same k p.task) ≡ true = and_from _ _ served it in
    let f : serve (choice p.task.engine) (on p.task.engine) (done p.task.engine) p ≡ worked (done e) p.phase = rw (at_e, chosen, b) refl in
    rw (a, f) (worked_lt (done e) p.phase some)

-- what is not ready is not yet released
pub idle_le : (e t d : ℕ) (p : OpenTask) → Live p.task.ticks p.phase → (ready e t p && nat_le p.task.due d) ≡ false → owed e d p ≤ wanted e (t + 1) d p
idle_le e t d p h quiet = elim (cases_Bool ((p.task.engine == e))) [
  | inr off ↦ rw off (omega arith)
  | inl y ↦ elim (cases_Bool (nat_le p.task.due d)) [
    | inr off ↦ rw (y, off) (omega arith)
    | inl z ↦ elim (cases_lt t p.task.release) [
      | inl l ↦ let r : nat_le (t + 1) p.task.release ≡ true = le-leb _ _ (omega arith) in rw (y, z, r) h.no_more
      | inr l ↦
          let none : left_of p.phase ≡ 0 = go p.phase refl (le-leb _ _ l) y z in
          rw (y, z, none) (omega arith)
    ]
  ]
]
  where
    go : (f : Phase) → p.phase ≡ f → nat_le p.task.release t ≡ true → (p.task.engine == e) ≡ true → nat_le p.task.due d ≡ true → left_of f ≡ 0
    go (pending n) q a b c =
        let is : is_pending p.phase ≡ true = rw q refl in
        absurd (both_ways _ quiet (and_from _ _ (and_from _ _ is (and_from _ _ b a)) c))
    go finished q a b c = refl
    go late q a b c = refl

-- what a sub-task of an arrival at t asks of the engine e between x and y
abbrev pub share_of : (e x y t : ℕ) → SubTask → ℕ
share_of e x y t s = cond (on_engine e s) (share (x - t) (y - t) (window_of s)) 0

pub opened_wants : (e x y j t : ℕ) (s : SubTask) → s.offset < s.deadline → wanted e x y (opened j t s) ≡ share_of e x y t s
opened_wants e x y j t s l = grind (arith, nat_tests)

pub opened_owes : (e x d j t : ℕ) (s : SubTask) → s.offset < s.deadline → x ≤ t → owed e d (opened j t s) ≤ share_of e x d t s
opened_owes e x d j t s o l = grind (arith, nat_tests)
