-- What holds of every state: what is found after a set, which account is the first, and what the accounts hold of a
-- token together.
use Rattle.std.specs.Prelude.{◌≡◌, ◌≢◌, ℕ, ℤ, pos, ◌+ℤ◌, List, ◌∷◌, Some, All}
use Rattle.std.specs.declared.cmp.Ordering.{Ordering}
use Rattle.std.specs.FinMap as map
use Rattle.names.specs.declared.token.Token.{Token}
use Rattle.names.specs.declared.account.Account.{Account}
use Rattle.names.specs.declared.choice_id.ChoiceId.{ChoiceId}
use Rattle.names.specs.Orders.{account_cmp}
use Rattle.states.specs.States.{StateMaps, money_of, with_money, counted, total_of}

-- an account holds what was set
abbrev pub MoneyIsFound : Type 0
MoneyIsFound = (s : StateMaps) (account : Account) (amount : ℤ) → money_of (with_money s account amount) account ≡ amount

-- and each other account holds what it held
abbrev pub OtherMoneyStays : Type 0
OtherMoneyStays = (s : StateMaps) (account : Account) (amount : ℤ) (other : Account) → other ≢ account
    → money_of (with_money s account amount) other ≡ money_of s other

-- a choice has the number that was set
abbrev pub ChoiceIsFound : Type 0
ChoiceIsFound = (s : StateMaps) (id : ChoiceId) (number : ℤ) → map.get (map.insert s.choices id number) id ≡ Some number

-- and each other choice has the number that it had
abbrev pub OtherChoicesStay : Type 0
OtherChoicesStay = (s : StateMaps) (id : ChoiceId) (number : ℤ) (other : ChoiceId) → other ≢ id
    → map.get (map.insert s.choices id number) other ≡ map.get s.choices other

-- a name has the value that was bound
abbrev pub BoundValueIsFound : Type 0
BoundValueIsFound = (s : StateMaps) (name : List ℕ) (value : ℤ) → map.get (map.insert s.bound_values name value) name ≡ Some value

-- and each other name has the value that it had
abbrev pub OtherBoundValuesStay : Type 0
OtherBoundValuesStay = (s : StateMaps) (name : List ℕ) (value : ℤ) (other : List ℕ) → other ≢ name
    → map.get (map.insert s.bound_values name value) other ≡ map.get s.bound_values other

-- the first account stands before all others
abbrev pub FirstAccountIsLeast : Type 0
FirstAccountIsLeast = (s : StateMaps) (first : Account × ℤ) (others : List (Account × ℤ)) → map.entries s.accounts ≡ first ∷ others
    → All (λ other. account_cmp first.0 other.0 ≡ Ordering.Less) others

-- once it is emptied, the others are left
abbrev pub OthersAreLeft : Type 0
OthersAreLeft = (s : StateMaps) (first : Account × ℤ) (others : List (Account × ℤ)) → map.entries s.accounts ≡ first ∷ others
    → map.entries (with_money s first.0 (pos 0)).accounts ≡ others

-- a set changes a token's total by what the account holds more of it
abbrev pub TotalFollowsSet : Type 0
TotalFollowsSet = (token : Token) (s : StateMaps) (account : Account) (amount : ℤ)
    → total_of token (with_money s account amount) +ℤ counted token account.token (money_of s account) ≡ total_of token s +ℤ counted token account.token amount
