use Rattle.std.proofs.Common.{ap, ◌∙◌}
use Rattle.contract.specs.Tree.{contract_tree}
use Rattle.json_write_contracts.proofs.AddsLaws.{then, wrote}
use Rattle.places.specs.Places.{keys_of}
use Rattle.note_lines.proofs.PieceLemmas.{word_put, place_put, source_put}
use Rattle.note_lines.proofs.tools.put_note.Goals as goal

pub returns : goal.returns
returns c =
    let keys_are = c.deref.ensures.value ∙ c.in_ok-keys.ensures ∙ ap (λ place. keys_of place (contract_tree c.args.contract.now)) c.as_slice.ensures in
    then (wrote c.in_ok-begin_object.ensures)
    (then (wrote c.in_ok-key.ensures)
    (then (word_put _ _ _ _ c.remark_word.ensures c.in_ok-word.ensures.put)
    (then (wrote c.in_ok-key-2.ensures)
    (then (place_put _ _ _ _ keys_are c.in_ok-put_place_json.ensures.put)
    (then (wrote c.in_ok-key-3.ensures) (then (source_put _ _ _ _ c.source_of.ensures c.in_ok-put_source.ensures) (wrote c.in_ok-end_object.ensures)))))))
