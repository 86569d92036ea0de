use Rattle.std.proofs.Common.{rules, ◌<◌, [], None, length, refl, arith}
use Rattle.board.specs.Placing.{Rules}
use Rattle.life.specs.declared.call.Answer.TheVariants.{Loaded}
use Rattle.life.specs.declared.call.Call.TheVariants.{Load}
use Rattle.life.specs.declared.call.Entry.{Entry}
use Rattle.life.specs.InStep.{board_of}
use Rattle.life.proofs.SoFar.{all_calls, no_call, one_joined, rules_of}
use Rattle.seated.proofs.Theorems.{lawful_rules}
use Rattle.seated.specs.Placement.{LawfulRules}
use Rattle.life.proofs.live.live.Goals as goal
use Rattle.life.proofs.live.live.Goals.{in-Start, in_default}

pub loop-entry-init : goal.loop-entry-init
loop-entry-init g c =
    let by : Rules = rules_of g.P.Roster.tags g.P.Supply.supply g.R.SlackRule.local g.O.EngineOrder.listing (g.O.EngineOrder.listing c.args.order) c.args.platform c.args.rule in
    let lawful : LawfulRules by =
    lawful_rules by (g.P.Supply.cycle c.args.platform) (g.P.Supply.quota c.args.platform) (g.P.Supply.laws c.args.platform) (g.met.P.Supply.missing c.args.platform) (g.R.SlackRule.laws c.args.rule) (g.O.EngineOrder.complete c.args.order) in
    no_call g.P.Roster.tags g.P.Supply.supply g.R.SlackRule.local g.O.EngineOrder.listing (g.O.EngineOrder.listing c.args.order) c.args.platform c.args.rule lawful c.args.order refl c.new.result c.args.history.now c.new.ensures

pub loop-entry-preserved : goal.loop-entry-preserved
loop-entry-preserved g c =
    let first = g.O.EngineOrder.listing c.args.order in
    let by : Rules = rules_of g.P.Roster.tags g.P.Supply.supply g.R.SlackRule.local g.O.EngineOrder.listing first c.args.platform c.args.rule in
    let lawful : LawfulRules by =
    lawful_rules by (g.P.Supply.cycle c.args.platform) (g.P.Supply.quota c.args.platform) (g.P.Supply.laws c.args.platform) (g.met.P.Supply.missing c.args.platform) (g.R.SlackRule.laws c.args.rule) (g.O.EngineOrder.complete c.args.order) in
    let low : c.loop-entry.entry-index < length c.loop-entry.history = omega (arith, c.loop-entry-test.true, c.loop-entry.auto.history) in
    let d : Entry = record { call = Load (record { ref_ptr = (0, 0); now = [] }); answer = Loaded 0; late_total = None } in
    let made = one_joined g.P.Roster.tags g.P.Supply.supply g.R.SlackRule.local g.O.EngineOrder.listing first c.args.platform c.args.rule lawful c.loop-entry.standing c.match-entry.standing in
    elim c.match-entry.branch [
      | in-Start w ↦
          let next = w.turned-next in
          made next.result.0 c.loop-entry.entry-index c.args.history.now c.loop-entry.history c.loop-entry.invariant low d c.match-entry.entry next.result.1 c.late_total-entry.result w.standing-is w.entry-is
          (next.ensures.answered (rules_of g.P.Roster.tags g.P.Supply.supply g.R.SlackRule.local g.O.EngineOrder.listing first (board_of c.loop-entry.standing).platform (board_of c.loop-entry.standing).rule))
          (search rules) c.late_total-entry.ensures
      | in_default w ↦
          let next = w.call-entry in
          made next.new.self c.loop-entry.entry-index c.args.history.now c.loop-entry.history c.loop-entry.invariant low d c.match-entry.entry next.result c.late_total-entry.result w.standing-is w.entry-is
          (next.ensures.answered first) next.ensures.kept c.late_total-entry.ensures
    ]

pub returns-clause-calls : goal.returns-clause-calls
returns-clause-calls g c = c.loop-entry.invariant.calls

pub returns-clause-lives : goal.returns-clause-lives
returns-clause-lives g c =
    all_calls g.P.Roster.tags g.P.Supply.supply g.R.SlackRule.local g.O.EngineOrder.listing (g.O.EngineOrder.listing c.args.order) c.args.platform c.args.rule
    c.loop-entry.standing c.loop-entry.entry-index c.args.history.now c.loop-entry.history c.loop-entry.invariant (omega (arith, c.loop-entry-test.false, c.loop-entry.auto.history))
