use Rattle.json_read_transactions.proofs.TakingLaws.{one_is_read_alone, rest_is_read}
use Rattle.json_read_transactions.proofs.laws.texts_are_read_one_by_one.Goals as goal

pub returns : goal.returns
returns c = record { one = one_is_read_alone; rest = rest_is_read }
