-- What is told of a party that keeps up.
use Rattle.std.specs.Prelude.{◌≢◌, pos, List, IfSome}
use Rattle.std.specs.List.{AllByRecursion}
use Rattle.contract.specs.Names.declared.party.Party.{Party}
use Rattle.contract.specs.Names.declared.token.Token.{Token}
use Rattle.contract.specs.Tree.{ContractTree}
use Rattle.contract.specs.States.States.{StateMaps}
use Rattle.keeping_up.specs.declared.kept.Kept.{Kept}
use Rattle.keeping_up.specs.KeepsUp.{PaidAtLeastWhile, LosesAtMostWhile}

-- while it keeps up the party is paid at least so much of each of these tokens, and loses at most so much
abbrev pub KeepsWithin : Party → List Kept → StateMaps → ContractTree → Type 0
KeepsWithin party all s c =
    AllByRecursion (λ (k : Kept). PaidAtLeastWhile party k.token k.least s c × IfSome k.most (λ n. LosesAtMostWhile party k.token n s c)) all

-- none of these is of this token
abbrev pub IsUnnamed : List Kept → Token → Type 0
IsUnnamed all t = AllByRecursion (λ (k : Kept). k.token ≢ t) all

-- and of a token that isn't named it is paid at least 0 and loses nothing
abbrev pub OthersAreKept : Party → List Kept → StateMaps → ContractTree → Type 0
OthersAreKept party all s c = (t : Token) → IsUnnamed all t → PaidAtLeastWhile party t (pos 0) s c × LosesAtMostWhile party t (pos 0) s c
