use Rattle.std.proofs.Common.{ap, sym, ◌∙◌, None}
use Rattle.explanations.specs.Indexes.{last_from}
use Rattle.explanations.proofs.IndexLemmas.{member_of_object}
use Rattle.explanations.proofs.indexes.member_at.Goals as goal

pub returns-in-Object : goal.returns-in-Object
returns-in-Object c =
    c.last_member.ensures ∙ ap (λ ms. last_from c.args.word.now 0 ms None) c.as_slice.ensures.value ∙ sym (member_of_object c.args.word.now c.args.json.now c.in-Object.members c.in-Object.is)
