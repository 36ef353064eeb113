use Rattle.clap.specs.Words.{found_of}
use Rattle.marlowe_cli.proofs.FoundLemmas.{flag_given}
use Rattle.marlowe_cli.proofs.found.is_given.Goals as goal

pub returns : goal.returns
returns c = flag_given (found_of c.args.found.now) c.args.name.now c.get_flag.result c.get_flag.ensures.value c.get_flag.ensures.other c.get_flag.ensures.none
