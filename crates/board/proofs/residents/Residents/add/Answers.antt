use Rattle.std.proofs.Common.{rules, arith, ◌≡◌, [], ◌∷◌, ◌++◌, map, nat_eq, subst}
use Rattle.std.specs.List.{IsDistinct}
use Rattle.few.specs.Few.{items}
use Rattle.board.specs.Listed.{listed}
use Rattle.board.specs.Loading.{Free}
use Rattle.resident.specs.Resident.{number_of}
use Rattle.board.proofs.Numbers.{added_apart, none_apart, same_when_full, still_apart}
use Rattle.board.proofs.residents.Residents.add.Goals as goal

pub invariant_of-self : goal.invariant_of-self
invariant_of-self c =
    let r = c.args.resident.now in
    let kept = c.in-Some.is in
    record {
      apart = added_apart c.push.result c.in-Some.kept c.push.new.self r
          (subst (λ k. IsDistinct nat_eq (map number_of (listed k))) kept c.args.self.now.apart)
          (subst (λ k. Free (listed k) (number_of r)) kept c.requires)
          c.push.ensures.put c.push.ensures.full;
    }

pub invariant_of-self-in-None : goal.invariant_of-self-in-None
invariant_of-self-in-None c =
    let r = c.args.resident.now in
    let put : items c.push-in-None.new.self ≡ [] ++ r ∷ [] = search rules in
    record { apart = still_apart [] (items c.push-in-None.new.self) r none_apart (λ k d low. absurd (omega arith)) put }

pub returns-in-Some-clause-full : goal.returns-in-Some-clause-full
returns-in-Some-clause-full c = same_when_full c.push.result c.in-Some.kept c.push.new.self c.args.self.now _ c.in-Some.is c.push.ensures.full
