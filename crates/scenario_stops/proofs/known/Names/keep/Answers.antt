use Rattle.std.proofs.Common.{map}
use Rattle.std.specs.Prelude.{option_map}
use Rattle.std.proofs.lemmas.Result.{on_ok_weaker}
use Rattle.scenario_stops.proofs.NameLemmas.{contract_kept, thread_kept, plan_kept}
use Rattle.scenario_stops.proofs.known.Names.keep.Goals as goal

pub returns-in-NamedContract : goal.returns-in-NamedContract
returns-in-NamedContract c =
    on_ok_weaker c.add.result
    (λ added. contract_kept c.args.part c.args.self.now c.add.new.self (option_map (λ name. name.now) c.args.name) c.in-NamedContract.is added)
    c.add.ensures

pub returns-in-NamedThread : goal.returns-in-NamedThread
returns-in-NamedThread c =
    on_ok_weaker c.add-in-NamedThread.result
    (λ added. thread_kept c.args.part c.args.self.now c.add-in-NamedThread.new.self (option_map (λ name. name.now) c.args.name) c.in-NamedThread.is added)
    c.add-in-NamedThread.ensures

pub returns-in-Plan : goal.returns-in-Plan
returns-in-Plan c =
    on_ok_weaker c.add-in-Plan.result
    (λ added. plan_kept c.args.part c.args.self.now c.add-in-Plan.new.self (option_map (λ name. name.now) c.args.name) c.in-Plan.is added)
    c.add-in-Plan.ensures
