use Rattle.big_texts.proofs.LineLaws.{lines_are_of_values}
use Rattle.big_texts.proofs.laws.lines_are_of_values.Goals as goal

pub returns : goal.returns
returns c = lines_are_of_values
