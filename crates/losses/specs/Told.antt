-- What is told of losses.
use Rattle.std.specs.Prelude.{◌≡◌, ◌≢◌, pos, List, IfSome}
use Rattle.std.specs.List.{AllByRecursion}
use Rattle.contract.specs.Names.declared.party.Party.{Party}
use Rattle.contract.specs.Names.declared.token.Token.{Token}
use Rattle.contract.specs.Tree.{ContractTree}
use Rattle.contract.specs.States.States.{StateMaps}
use Rattle.losses.specs.declared.loss.Loss.{Loss}
use Rattle.losses.specs.Losses.{LosesAtMost}

-- each party loses at most so much
abbrev pub LoseWithin : List Loss → StateMaps → ContractTree → Type 0
LoseWithin losses s c = AllByRecursion (λ (l : Loss). IfSome l.most (λ n. LosesAtMost l.party l.token n s c)) losses

-- none of these is of this party and this token
abbrev pub IsUnnamed : List Loss → Party → Token → Type 0
IsUnnamed losses p t = AllByRecursion (λ (l : Loss). l.party ≡ p → l.token ≢ t) losses

-- and who isn't named loses nothing
abbrev pub OthersLoseNothing : List Loss → StateMaps → ContractTree → Type 0
OthersLoseNothing losses s c = (p : Party) (t : Token) → IsUnnamed losses p t → LosesAtMost p t (pos 0) s c
