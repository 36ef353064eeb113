use Rattle.explanations.proofs.Worked.{broken_texts_are_told, broken_texts_are_members}
use Rattle.explanations.proofs.laws.worked_texts.Goals as goal

pub returns : goal.returns
returns c = record { lines = broken_texts_are_told; members = broken_texts_are_members }
