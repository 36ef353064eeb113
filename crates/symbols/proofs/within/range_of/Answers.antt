use Rattle.symbols.proofs.within.range_of.Goals as goal

pub returns-clause-least : goal.returns-clause-least
returns-clause-least c = λ r h. c.least_shown.ensures r h tt

pub returns-clause-greatest : goal.returns-clause-greatest
returns-clause-greatest c = λ r h. c.greatest_shown.ensures r h tt
