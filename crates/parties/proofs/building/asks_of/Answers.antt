use Rattle.std.proofs.Common.{◌≡◌, List, map, IfOk, ap, sym, subst, ◌∙◌}
use Rattle.contract.specs.declared.input.Input.{Input}
use Rattle.hub.specs.EutxoTypes.declared.output_ref.OutputRef.{OutputRef}
use Rattle.hub.specs.Ledger.declared.ask.Ask.{Ask}
use Rattle.parties.specs.Plays.{PlayedIntent, step_ask}
use Rattle.parties.specs.Plays.{asks_of}
use Rattle.parties.proofs.building.asks_of.Goals as goal

pub returns-in-Steps : goal.returns-in-Steps
returns-in-Steps c =
    let plan = c.args.plan.now in
    let asked : map (λ (s : OutputRef × List Input). step_ask plan s.0) c.as_slice.result.now ≡ asks_of plan c.args.intent.now =
    ap (map (λ (s : OutputRef × List Input). step_ask plan s.0)) c.as_slice.ensures ∙ ap (λ (i : PlayedIntent). asks_of plan i) (sym c.in-Steps.is)
    in
    subst (λ (l : List Ask). IfOk c.step_asks.result (λ asks. asks.items ≡ l)) asked c.step_asks.ensures
