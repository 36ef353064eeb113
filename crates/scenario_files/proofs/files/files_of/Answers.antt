use Rattle.std.proofs.Common.{◌∙◌, ap, map, refl}
use Rattle.std.specs.Str.{is_utf8}
use Rattle.file_parts.specs.Files.{seen}
use Rattle.scenario_files.proofs.FileLemmas.{all_named, none_named}
use Rattle.scenario_files.proofs.files.files_of.Goals as goal

pub returns-in-Ok : goal.returns-in-Ok
returns-in-Ok c =
    all_named c.args.depth c.args.scenario.now c.in-Ok.text.now c.files_of.result c.in-Ok.ensures.cases c.files_of.ensures

pub returns-in-Err : goal.returns-in-Err
returns-in-Err c =
    ap (map seen) c.new.ensures.items
    ∙ none_named c.args.depth c.args.scenario.now (is_utf8 c.args.scenario.now) refl c.in-Err.ensures.cases.0
