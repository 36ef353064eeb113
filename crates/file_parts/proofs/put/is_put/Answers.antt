use Rattle.std.proofs.Common.{◌≡◌, true, map}
use Rattle.json.specs.Value.{value_view}
use Rattle.file_parts.specs.Files.{text_of, tree_at}
use Rattle.file_parts.proofs.ViewLemmas.{put_none}
use Rattle.file_parts.proofs.put.is_put.Goals as goal

-- what names no file stays
pub returns-in-None : goal.returns-in-None
returns-in-None c =
    λ yes.
    let same : c.same.result ≡ true = cc in
    put_none (tree_at c.args.depth (map text_of c.args.files.now)) (value_view c.args.old.now) (value_view c.args.new.now) (c.in-None.ensures c.args.depth) (c.same.ensures same)
