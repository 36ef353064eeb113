use Rattle.contract_bytes.specs.Numbers.{number_bytes}
use Rattle.contract_bytes.specs.Names.{party_bytes, token_bytes}
use Rattle.contract_bytes.proofs.Fronts.{on_any_err, front_first, front_then}
use Rattle.contract_bytes.proofs.spell.Tuple2AccountI128Spell.put.Goals as goal

pub returns-in_err-put_party-clause-err : goal.returns-in_err-put_party-clause-err
returns-in_err-put_party-clause-err c = on_any_err c.from_residual.result (front_first (number_bytes c.args.self.now.1) (front_first (token_bytes c.args.self.now.0.token) c.in_err-put_party.ensures.err))

pub returns-in_err-put_token-clause-err : goal.returns-in_err-put_token-clause-err
returns-in_err-put_token-clause-err c = on_any_err c.from_residual-in_err-put_token.result (front_first (number_bytes c.args.self.now.1) (front_then (party_bytes c.args.self.now.0.owner) c.in_ok-put_party.ensures.spelling c.in_err-put_token.ensures.err))
