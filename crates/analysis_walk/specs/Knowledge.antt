-- What is concluded of steps.
use Rattle.std.specs.Prelude.{List, [], ◌∷◌}
use Rattle.contract.specs.Names.declared.account.Account.{Account}
use Rattle.contract.specs.Names.declared.party.Party.{Party}
use Rattle.contract.specs.Names.declared.token.Token.{Token}
use Rattle.contract.specs.declared.tree.Case.{Case}
use Rattle.contract.specs.Tree.{ActionTree, deposit, choice, notify, action_tree}
use Rattle.analysis_walk.specs.declared.conclusion.Conclusion.{Conclusion}
use Rattle.analysis_walk.specs.Conclusions.{Description, DepositsSo, ChoosesSo, NotifiesSo, ClosesIn}
use Rattle.analysis_walk.specs.declared.span.Span.{Span}
use Rattle.analysis_walk.specs.Spans.{range_at}

-- the actions of cases behind others, the last one first
abbrev pub actions_behind : List ActionTree → List Case → List ActionTree
actions_behind earlier [] = earlier
actions_behind earlier (k ∷ ks) = actions_behind (action_tree k.action ∷ earlier) ks

abbrev pub actions_before : List Case → List ActionTree
actions_before = actions_behind []

-- where the contract is closed, each party is paid what is named, and nothing of what isn't
abbrev pub ClosesBy : {K : Type 0} → Description K → K → List (Account × Span) → Type 0
ClosesBy Describes k spans = (p : Party) (t : Token) → ClosesIn Describes k (range_at spans p t ∷ [])

-- what is concluded of an action is true, behind these of earlier cases
abbrev pub TakesSo : {K : Type 0} → Description K → K → List ActionTree → ActionTree → Conclusion K → Type 0
TakesSo Describes k earlier (deposit p q t v) x = DepositsSo Describes k earlier p q t v x
TakesSo Describes k earlier (choice id bounds) x = ChoosesSo Describes k earlier id bounds x
TakesSo Describes k earlier (notify o) x = NotifiesSo Describes k earlier o x
