use Rattle.std.proofs.Common.{rules, ◌≡◌, ℕ, ◌<◌, List, length, get_or, refl}
use Rattle.json.specs.Value.{items_view, value_view}
use Rattle.file_parts.specs.Files.{named_by, named_items}
use Rattle.file_parts.specs.FilesSupport.{Tree}
use Rattle.file_parts.proofs.PieceLemmas.{past, to_end}
use Rattle.file_parts.proofs.named.put_items.Goals as goal

-- one item more
pub loop-item-preserved : goal.loop-item-preserved
loop-item-preserved c =
    let all : List Tree = c.args.items.now in
    let i : ℕ = c.loop-item.item-index in
    let v : Tree = c.item-item.result in
    let here : i < length all = c.loop-item-test.true in
    let is : get_or all i v ≡ v = search rules in
    past (λ (vs : List Tree). named_items (items_view vs)) (λ (t : Tree). named_by (value_view t)) (λ x xs. refl) _ _ _ all i v here is c.loop-item.invariant c.in_ok-put_item.ensures

pub returns : goal.returns
returns c =
    to_end (λ (vs : List Tree). named_items (items_view vs)) (λ (t : Tree). named_by (value_view t)) refl _ _ c.args.items.now c.loop-item.item-index c.loop-item-test.false c.loop-item.invariant
