-- Who brings something: which deposits a contract waits for.
use Rattle.std.specs.Prelude.{Bool, true, false, not, ◌&&◌, ◌||◌, Option, Some, None}
use Rattle.contract.specs.Names.declared.account.Account.{Account}
use Rattle.contract.specs.Names.declared.party.Party.{Party}
use Rattle.contract.specs.Names.declared.token.Token.{Token}
use Rattle.contract.specs.Names.Equal.{same_party, same_token}
use Rattle.contract.specs.Tree.{ActionTree, deposit, choice, notify, ContractTree, CaseTrees, close, pay, if_obs, when, let_be, assert, no_cases, case_then}

-- another party or token than these, where there are such
abbrev pub is_beyond : Option Account → Party → Token → Bool
is_beyond None p t = true
is_beyond (Some a) p t = not (same_party a.owner p && same_token a.token t)

-- a deposit by another party, or of another token
abbrev pub waits_beyond : Option Account → ActionTree → Bool
waits_beyond o (deposit q p t v) = is_beyond o p t
waits_beyond o (choice id bounds) = false
waits_beyond o (notify x) = false

abbrev mutual
  -- some case of a contract waits for such a deposit
  pub asks_beyond : Option Account → ContractTree → Bool
  asks_beyond o close = false
  asks_beyond o (pay p y t v c) = asks_beyond o c
  asks_beyond o (if_obs x c d) = asks_beyond o c || asks_beyond o d
  asks_beyond o (when ks t c) = ask_beyond o ks || asks_beyond o c
  asks_beyond o (let_be x v c) = asks_beyond o c
  asks_beyond o (assert x c) = asks_beyond o c

  -- .. of these, or of what follows them
  pub ask_beyond : Option Account → CaseTrees → Bool
  ask_beyond o no_cases = false
  ask_beyond o (case_then a c ks) = (waits_beyond o a || asks_beyond o c) || ask_beyond o ks
