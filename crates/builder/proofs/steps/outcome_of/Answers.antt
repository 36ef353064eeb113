use Rattle.std.proofs.Common.{ap}
use Rattle.builder_spec.specs.Requests.{StepsRequest}
use Rattle.builder_spec.specs.Steps.{Stepped}
use Rattle.builder.proofs.OutcomesLemmas.{outcome_is}
use Rattle.builder.proofs.steps.outcome_of.Goals as goal

pub returns-in-Ok-clause-outcome : goal.returns-in-Ok-clause-outcome
returns-in-Ok-clause-outcome c =
    outcome_is c.args.asked.now c.args.step.now _ _ _ _ c.in-Ok.outcome
    (record {
      interval = ap (λ (r : StepsRequest). r.interval) c.asked.view_is;
      published = c.published-published.ensures;
      datum = c.datum.ensures;
      inputs = ap (λ (s : Stepped). s.inputs) c.step.view_is;
    })
    c.requires c.turns_lead.ensures.test
    (record { answer = c.in-Ok.ensures.answer; paid = c.in-Ok.ensures.payments; led = c.in-Ok.ensures.place })
