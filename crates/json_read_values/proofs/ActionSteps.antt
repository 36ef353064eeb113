-- A deposit, by what its members stand for two by two.
use Rattle.std.proofs.Common.{◌≡◌, Ok, ◌∙◌}
use Rattle.std.specs.Prelude.{codes}
use Rattle.serde_json.specs.Data.{Data}
use Rattle.contract.specs.declared.tree.Action.TheVariants as actions
use Rattle.json_read_names.proofs.ListLaws.{then_two}
use Rattle.contract.specs.Collections.Answers.{◌>>=◌}
use Rattle.json_read_names.specs.Parts.{both_readings, reading_at}
use Rattle.json_read_names.specs.ReadsNames.{party, token}
use Rattle.json_read_names.specs.declared.forms.ActionForm.TheVariants.{Deposit}
use Rattle.json_read_values.specs.ReadsAction.{action_by}
use Rattle.json_read_values.specs.ReadsValue.{value}

pub deposit-step : (d : Data) → action_by Deposit d
    ≡ (both_readings (reading_at party d (codes "party")) (reading_at value d (codes "deposits")) >>= λ p.
    both_readings (reading_at token d (codes "of_token")) (reading_at party d (codes "into_account")) >>= λ q. Ok (actions.Deposit q.1 p.0 q.0 p.1))
unfolding action_by
deposit-step d =
    then_two (reading_at party d (codes "party")) (reading_at value d (codes "deposits"))
    (λ depositor amount. reading_at token d (codes "of_token") >>= λ k. reading_at party d (codes "into_account") >>= λ account. Ok (actions.Deposit account depositor k amount))
    ∙ (λ i. both_readings (reading_at party d (codes "party")) (reading_at value d (codes "deposits")) >>= λ p.
    then_two (reading_at token d (codes "of_token")) (reading_at party d (codes "into_account")) (λ k account. Ok (actions.Deposit account p.0 k p.1)) i)

pub ruleset deposit_steps = deposit-step
