use Rattle.std.proofs.Common.{rules, ◌≡◌, [], ◌∷◌, ◌++◌, refl, sym, ap, subst}
use Rattle.board.specs.declared.refusal.Refusal.{Refusal}
use Rattle.board.specs.Loading.{Comes, LoadRefused, SomePossible}
use Rattle.board.specs.Placing.{Places, Rules}
use Rattle.board.specs.Residents.{jobs}
use Rattle.board.proofs.Steps.{handed}
use Rattle.board.proofs.board.Board.load.Goals as goal

pub returns-in_err-job-clause-refused : goal.returns-in_err-job-clause-refused
returns-in_err-job-clause-refused g c =
    let me = c.args.self.now in
    let ruled : Rules = record {
      tags = g.P.Roster.tags me.platform;
      supply = g.P.Supply.supply me.platform;
      local = g.R.SlackRule.local me.rule;
      listing = g.O.EngineOrder.listing me.order;
    } in
    handed c.from_residual.result c.in_err-job.field-0.0 (λ (f : Refusal). LoadRefused ruled (jobs me.residents) c.args.text.now f × (me ≡ me)) c.from_residual.ensures.1 (c.in_err-job.ensures ruled, refl)

pub returns-in_default-clause-refused : goal.returns-in_default-clause-refused
returns-in_default-clause-refused g c =
    ((c.in_ok-job.job, c.in_ok-job.ensures, λ (some : SomePossible c.in_ok-job.job). c.in_default.ensures some.0 some.1 some.2), search rules)

pub returns-clause-granted : goal.returns-clause-granted
returns-clause-granted g c =
    let me = c.args.self.now in
    let ruled : Rules = record {
      tags = g.P.Roster.tags me.platform;
      supply = g.P.Supply.supply me.platform;
      local = g.R.SlackRule.local me.rule;
      listing = g.O.EngineOrder.listing me.order;
    } in
    let r = c.in-Some-place.resident in
    let places = c.in-Some-place.ensures in
    let same = places.placed.planned.its_job in
    let gained : jobs c.add.new.self ≡ jobs me.residents ++ r ∷ [] = search rules in
    record {
      job = r;
      loaded = record {
        comes = subst (Comes c.args.text.now (jobs me.residents)) (sym same) c.in_ok-job.ensures;
        places = subst (λ j. Places ruled (jobs me.residents) j r) (sym same) places;
      };
      its_number = ap (λ j. j.number) (sym same);
      gained = gained;
      told = c.tell.ensures.told;
    }
