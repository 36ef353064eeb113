use Rattle.std.proofs.Common.{rules, ◌≡◌, length, map}
use Rattle.file_parts.specs.Files.{text_of, tree_at}
use Rattle.file_parts.specs.FilesSupport.{put_in_item}
use Rattle.file_parts.proofs.ViewLemmas.{items_done}
use Rattle.file_parts.proofs.put.items_have.Goals as goal

pub returns : goal.returns
returns c =
    let same : length c.args.new.now ≡ length c.args.old.now = search rules in
    λ yes. items_done (put_in_item (tree_at c.args.depth (map text_of c.args.files.now))) c.args.old.now c.args.new.now c.loop-index.index c.loop-index-test.false same c.loop-index.invariant
