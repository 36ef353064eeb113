use Rattle.std.proofs.Common.{◌∙◌, map, sym, ap}
use Rattle.clap.specs.Words.{found_of}
use Rattle.marlowe_cli.proofs.FoundLemmas.{words_given, none_given}
use Rattle.marlowe_cli.proofs.found.words_for.Goals as goal

pub returns-in_ok-from_slice-in-Some : goal.returns-in_ok-from_slice-in-Some
returns-in_ok-from_slice-in-Some c =
    words_given (found_of c.args.found.now) c.args.name.now (map (λ word. word.now) c.in-Some.words.now) c.in-Some.ensures
    ∙ ap (map (λ word. word.now)) (sym c.in_ok-from_slice-in-Some.ensures.items)

pub returns-in-None : goal.returns-in-None
returns-in-None c = none_given (found_of c.args.found.now) c.args.name.now c.in-None.ensures ∙ ap (map (λ word. word.now)) (sym c.new.ensures.items)
