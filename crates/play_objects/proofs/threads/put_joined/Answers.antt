use Rattle.std.proofs.Common.{refl, ◌∙◌, ◌++◌, ap, map, string_bytes}
use Rattle.play_objects.specs.EntryObjects.{joined}
use Rattle.play_objects.proofs.PieceLemmas.{item_more}
use Rattle.play_objects.proofs.threads.put_joined.Goals as goal

-- one text more
pub loop-text-preserved : goal.loop-text-preserved
loop-text-preserved c =
    let old = string_bytes c.loop-text.out in
    item_more (λ ts. joined (map (λ s. string_bytes s) ts)) (λ s. string_bytes s) (λ x xs. refl) c.args.texts.now c.loop-text.text-index c.text-item.result old (string_bytes c.push_str.new.self) _
    c.loop-text-test.true c.text-item.is (c.in_ok-push_str.ensures.bytes ∙ ap (λ t. old ++ t) c.as_str.ensures.value) c.loop-text.invariant
