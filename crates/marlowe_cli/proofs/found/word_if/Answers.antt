use Rattle.std.proofs.Common.{◌∙◌, sym}
use Rattle.clap.specs.Words.{found_of}
use Rattle.clap.proofs.WalkLemmas.{first_value-rows}
use Rattle.marlowe_cli.proofs.found.word_if.Goals as goal

pub returns : goal.returns
returns c = sym (first_value-rows (found_of c.args.found.now) c.args.name.now) ∙ sym c.get_str.ensures
