use Rattle.std.proofs.Common.{List, ap, ◌∙◌}
use Rattle.json.specs.Value.{members_view}
use Rattle.file_parts.specs.Files.{path_among}
use Rattle.file_parts.specs.FilesSupport.{Entry}
use Rattle.file_parts.proofs.ViewLemmas.{path_of_object}
use Rattle.file_parts.proofs.named.file_path.Goals as goal

pub returns-in-Object : goal.returns-in-Object
returns-in-Object c =
    path_of_object c.args.contract.now c.in-Object.members _ c.in-Object.is (c.path_among.ensures ∙ ap (λ (ms : List Entry). path_among (members_view ms)) c.as_slice.ensures.value)
