use Rattle.std.proofs.Common.{ap, sym, ◌∙◌, slice_get}
use Rattle.explanations.specs.Indexes.{with_index}
use Rattle.explanations.proofs.IndexLemmas.{item_of_array}
use Rattle.explanations.proofs.indexes.item_at.Goals as goal

pub returns-in-Array : goal.returns-in-Array
returns-in-Array c =
    c.item_of.ensures ∙ ap (λ xs. with_index c.args.index (slice_get xs c.args.index)) c.as_slice.ensures.value ∙ sym (item_of_array c.args.index c.args.json.now c.in-Array.items c.in-Array.is)
