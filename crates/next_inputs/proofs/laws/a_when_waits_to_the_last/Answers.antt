use Rattle.next_inputs.proofs.OneInput.{waits_to_the_last}
use Rattle.next_inputs.proofs.laws.a_when_waits_to_the_last.Goals as goal

pub returns : goal.returns
returns c = waits_to_the_last
