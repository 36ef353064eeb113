use Rattle.losses.proofs.WorkedLemmas.{five_are_brought, five_are_lost, four_are_too_few, refused_brings_nothing, below_zero_brings_nothing, other_tokens_bring_nothing, others_bring_nothing, own_money_comes_back}
use Rattle.losses.proofs.laws.worked_losses.Goals as goal

pub returns-clause-brought : goal.returns-clause-brought
returns-clause-brought c = five_are_brought

pub returns-clause-lost : goal.returns-clause-lost
returns-clause-lost c = five_are_lost

pub returns-clause-more : goal.returns-clause-more
returns-clause-more c = four_are_too_few

pub returns-clause-refused : goal.returns-clause-refused
returns-clause-refused c = refused_brings_nothing

pub returns-clause-negative : goal.returns-clause-negative
returns-clause-negative c = below_zero_brings_nothing

pub returns-clause-token : goal.returns-clause-token
returns-clause-token c = other_tokens_bring_nothing

pub returns-clause-party : goal.returns-clause-party
returns-clause-party c = others_bring_nothing

pub returns-clause-back : goal.returns-clause-back
returns-clause-back c = own_money_comes_back
