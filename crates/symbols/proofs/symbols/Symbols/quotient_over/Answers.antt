use Rattle.symbols.proofs.QuotientLemmas.{over_learned}
use Rattle.symbols.proofs.symbols.Symbols.quotient_over.Goals as goal

pub returns : goal.returns
returns c =
    over_learned c.args.self.now c.numbered_quotient.new.self c.learn_down.new.symbols c.args.dividend.now c.args.divisor.now c.in_ok-e.e c.in_ok-e.ensures c.in_ok-learn_down.ensures
