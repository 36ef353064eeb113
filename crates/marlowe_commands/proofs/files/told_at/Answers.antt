use Rattle.std.proofs.Common.{◌≡◌, ◌∙◌, ap, sym}
use Rattle.std.specs.Prelude.{string_bytes}
use Rattle.file_parts.specs.declared.named.FileName.{FileName}
use Rattle.marlowe_commands.proofs.FileLemmas.{tells_file}
use Rattle.marlowe_commands.proofs.files.told_at.Goals as goal

pub returns : goal.returns
returns c =
    let named : c.as_str.result.now ≡ c.index-files-at.result.path =
    c.as_str.ensures ∙ ap (λ (f : FileName). f.path) (sym c.index-files-at.is)
    in
    let slice : c.as_slice.result.now ≡ c.index-texts-at.result.items = cc (c.as_slice.ensures.value, c.index-texts-at.is) in
    tells_file c.args.scenario.now c.args.depth c.args.files.now c.args.texts.now c.args.spelling c.args.at c.saturating_sub.result
    c.index-files-at.result c.index-texts-at.result c.as_str.result.now (string_bytes c.in_ok-path.path)
    (record { path = c.as_str-2.result; text = c.as_slice.result }) c.table_reasons.result c.requires.file c.requires.text c.index-files-at.is
    c.index-texts-at.is named c.in_ok-path.ensures c.as_str-2.ensures.value slice c.saturating_sub.ensures c.table_reasons.ensures
