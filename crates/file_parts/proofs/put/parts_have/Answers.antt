use Rattle.std.proofs.Common.{rules, ◌≡◌, codes, length, map}
use Rattle.file_parts.specs.Files.{put, text_of, tree_at}
use Rattle.file_parts.proofs.ViewLemmas.{members_done}
use Rattle.file_parts.proofs.put.parts_have.Goals as goal

pub returns : goal.returns
returns c =
    let same : length c.args.new.now ≡ length c.args.old.now = search rules in
    λ yes. members_done (codes "contract") (put (tree_at c.args.depth (map text_of c.args.files.now))) c.args.old.now c.args.new.now c.loop-index.index c.loop-index-test.false same c.loop-index.invariant
