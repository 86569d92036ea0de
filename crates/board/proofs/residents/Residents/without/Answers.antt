use Rattle.std.proofs.Common.{rules, ◌≡◌, ◌≢◌, ◌∷◌, ◌++◌, [], Bool, cond, false, true, eqb, nat_eq, List, length, map, take, get_or, ap, sym, subst, ◌∙◌, arith}
use Rattle.std.specs.Prelude.{filter, not}
use Rattle.std.proofs.lemmas.Bool.{ne_eqb, eq-eqb}
use Rattle.std.proofs.lemmas.List.{append-nil, length-take, take_all}
use Rattle.std.proofs.lemmas.List.Elements.{All-filter, filter_more}
use Rattle.std.specs.List.{IsDistinct}
use Rattle.board.proofs.Numbers.{before_apart}
use Rattle.board.specs.Loading.{Free}
use Rattle.board.proofs.Asking.{kept_few}
use Rattle.board.specs.Residents.{jobs, others}
use Rattle.resident.specs.declared.resident.Resident.{Resident}
use Rattle.resident.specs.Resident.{number_of}
use Rattle.board.proofs.residents.Residents.without.Goals as goal
use Rattle.board.proofs.residents.Residents.without.Goals.{then-number, else-number}

pub add-requires : goal.add-requires
add-requires c =
    let xs = c.as_slice-resident-items.result.now in
    let i = c.loop-resident.resident-index in
    let r = c.resident-item.result in
    let other : Resident → Bool = λ x. not (eqb (number_of x) c.args.number) in
    let apart = subst (λ (l : List Resident). IsDistinct nat_eq (map number_of l)) (sym c.as_slice-resident-items.ensures.jobs) c.args.self.now.apart in
    let before : Free (take i xs) (number_of r) = subst (λ (x : Resident). Free (take i xs) (number_of x)) (sym c.resident-item.is) (before_apart xs apart i r c.loop-resident-test.true) in
    subst (λ (l : List Resident). Free l (number_of r)) (sym c.loop-resident.invariant) (All-filter other (λ (x : Resident). number_of x ≢ number_of r) (take i xs) before)

pub unwrap-requires : goal.unwrap-requires
unwrap-requires c =
    let xs = c.as_slice-resident-items.result.now in
    let i = c.loop-resident.resident-index in
    let other : Resident → Bool = λ r. not (eqb (number_of r) c.args.number) in
    c.add.ensures.room.1 (omega (
      arith,
      ap length c.loop-resident.invariant,
      kept_few other (take i xs),
      length-take i xs,
      c.loop-resident-test.true,
      c.as_slice-resident-items.ensures.few,
    ))

pub loop-resident-preserved : goal.loop-resident-preserved
loop-resident-preserved c =
    let xs = c.as_slice-resident-items.result.now in
    let i = c.loop-resident.resident-index in
    let r = c.resident-item.result in
    let other : Resident → Bool = λ x. not (eqb (number_of x) c.args.number) in
    let more = filter_more other xs i r c.loop-resident-test.true in
    let is : get_or xs i r ≡ r = sym c.resident-item.is in
    elim c.if-number.branch [
      | then-number w ↦
          let kept : other (get_or xs i r) ≡ true = ap other is ∙ ap not (ne_eqb (number_of r) c.args.number (λ same. w.if-number.true (c.number.ensures ∙ same))) in
          let put : jobs w.add.new.self ≡ jobs c.loop-resident.left ++ r ∷ [] = search rules in
          ap jobs w.left-is ∙ put ∙ ap (λ l. l ++ r ∷ []) c.loop-resident.invariant
          ∙ sym (more ∙ ap (λ (b : Bool). filter other (take i xs) ++ cond b (get_or xs i r ∷ []) []) kept ∙ ap (λ x. filter other (take i xs) ++ x ∷ []) is)
      | else-number w ↦
          let gone : other (get_or xs i r) ≡ false = ap other is ∙ ap not (eq-eqb (number_of r) c.args.number (sym c.number.ensures ∙ w.if-number.false)) in
          ap jobs w.left-is ∙ c.loop-resident.invariant
          ∙ sym (more ∙ ap (λ (b : Bool). filter other (take i xs) ++ cond b (get_or xs i r ∷ []) []) gone ∙ append-nil (filter other (take i xs)))
    ]

pub returns : goal.returns
returns c =
    let xs = c.as_slice-resident-items.result.now in
    c.loop-resident.invariant ∙ ap (λ l. others l c.args.number) (take_all c.loop-resident.resident-index xs c.loop-resident-test.false ∙ c.as_slice-resident-items.ensures.jobs)
