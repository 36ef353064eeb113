use Rattle.std.proofs.Common.{rules, ◌<◌, length, sym}
use Rattle.file_parts.proofs.ViewLemmas.{path_of_many}
use Rattle.file_parts.proofs.named.path_among.Goals as goal

pub returns-in-len2-up : goal.returns-in-len2-up
returns-in-len2-up c =
    let more : 1 < length c.args.members.now = search rules in
    sym (path_of_many c.args.members.now more)
