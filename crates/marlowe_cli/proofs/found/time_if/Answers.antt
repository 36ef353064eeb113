use Rattle.std.specs.Str.Parse.{ParsesSigned, ExplainsSignedError, HasSignedDigitsIfOk}
use Rattle.std.proofs.Common.{w64}
use Rattle.clap.specs.Words.{found_of}
use Rattle.marlowe_cli.proofs.FoundLemmas.{time_given}
use Rattle.marlowe_cli.proofs.found.time_if.Goals as goal

pub returns : goal.returns
returns c =
    time_given (λ bs r. ParsesSigned w64 10 bs r × ExplainsSignedError 10 bs r × HasSignedDigitsIfOk bs r) (λ text number gives. (gives.0.0.0, gives.0.1))
    (found_of c.args.found.now) c.args.name.now c.in_ok-try_get_one.field-0 c.in_ok-try_get_one.ensures.none c.in_ok-try_get_one.ensures.value
