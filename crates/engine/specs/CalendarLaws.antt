-- An engine that a calendar does not have never serves.
use Rattle.std.specs.Prelude.{◌≡◌, ℕ, zero, suc, ◌+◌, ◌≤◌, Bool, false, cond, List, length, slice_index_or, refl}
use Rattle.std.proofs.Common.{ap, ◌∙◌, arith}
use Rattle.std.proofs.Math.Nat.{mod-one}
use Rattle.std.proofs.lemmas.List.{get_or_past, length-map}
use Rattle.cyclic.specs.Fewest.{fewest}
use Rattle.cyclic.specs.Ones.{mark, ones}
use Rattle.cyclic.specs.FewestLaws.{fewest_any}
use Rattle.engine.specs.declared.course.Course.{Course}
use Rattle.engine.specs.Calendar.{calendar, cycle_of, idle, marks_of, quota_of, supply_of}
use Rattle.engine.specs.Course.{served}
use Rattle.engine.specs.Supply.{NoneServed}

mark_idle : (k : ℕ) → mark idle k ≡ 0
unfolding mark
mark_idle k = ap (λ (j : ℕ). cond (slice_index_or idle j false) 1 0) (mod-one k)

pub ones_idle : (i n : ℕ) → ones idle i n ≡ 0
unfolding ones
ones_idle i zero = refl
ones_idle i (suc n) =
    let rec = ones_idle i n in
    let here = mark_idle (i + n) in
    omega arith

pub fewest_idle : (n : ℕ) → fewest idle n ≡ 0
fewest_idle n =
    let low = fewest_any idle (omega arith) n 0 in
    let none = ones_idle 0 n in
    omega arith

-- past the last engine
marks_past : (cs : List Course) (e : ℕ) → length cs ≤ e → marks_of cs e ≡ idle
marks_past cs e past = get_or_past (calendar cs) e idle (omega (arith, length-map cs served))

pub none_served : (cs : List Course) (e : ℕ) → length cs ≤ e → NoneServed (supply_of cs e) (cycle_of cs e) (quota_of cs e)
none_served cs e past =
    let is = marks_past cs e past in
    record {
      idle = λ k. ap (λ (ms : List Bool). fewest ms k) is ∙ fewest_idle k;
      one = ap length is;
      nothing = ap (λ (ms : List Bool). ones ms 0 (length ms)) is ∙ ones_idle 0 1;
    }

pub calendar_missing : (tags : List ℕ) (cs : List Course) → length cs ≡ length tags → (e : ℕ) → length tags ≤ e → NoneServed (supply_of cs e) (cycle_of cs e) (quota_of cs e)
calendar_missing tags cs paired e past = none_served cs e (omega arith)
