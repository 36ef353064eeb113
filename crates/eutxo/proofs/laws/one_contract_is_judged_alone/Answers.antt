use Rattle.eutxo.proofs.OneContractLemmas.{one_is_judged_alone}
use Rattle.eutxo.proofs.laws.one_contract_is_judged_alone.Goals as goal

pub returns : goal.returns
returns g c = one_is_judged_alone g.V.Validator.judges
