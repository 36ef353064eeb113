-- The definitions on small steps.
use Rattle.std.specs.Prelude.{◌≡◌, ℕ, ℤ, pos, true, false, List, [], ◌∷◌, Some, None}
use Rattle.std.specs.FinMap as map
use Rattle.contract.specs.Names.declared.party.Party.{Party}
use Rattle.contract.specs.Names.declared.party.Party.TheVariants.{Address, Role}
use Rattle.contract.specs.Names.declared.payee.Payee.TheVariants as to
use Rattle.contract.specs.declared.input.Input.TheVariants.{Notify}
use Rattle.contract.specs.declared.payment.Payment.{Payment}
use Rattle.contract.specs.States.States.{StateMaps}
use Rattle.eutxo.specs.Bundle.Bundles.{Amounts, amount_of}
use Rattle.compiler.specs.Nodes.declared.cont.Cont.{Cont}
use Rattle.eutxo.specs.Machine.declared.datum.Datum.{Datum}
use Rattle.eutxo.specs.EutxoTypes.declared.lock.Lock.TheVariants.{Key, Payout}
use Rattle.eutxo.specs.EutxoTypes.declared.output.Output.{Output}
use Rattle.eutxo.specs.EutxoTypes.declared.spend.Spend.{Spend}
use Rattle.roles.specs.Sums.{sums_of}
use Rattle.roles.specs.Steps.{same_output, role_token, authorised, unauthorised, lock_for, owed_output, due_above, due_to, due_outputs, first_unpaid, starts_from}

-- two equal payments are due in two outputs: one output at place 1 leaves the second, at place 2, unpaid
abbrev pub EqualPaymentsAreTwo : Type 0
EqualPaymentsAreTwo =
    (currency : List ℕ) (p : Payment) (party : Party) → due_to p ≡ Some party → let o = owed_output currency party p in
    (due_outputs currency (p ∷ p ∷ []) ≡ o ∷ o ∷ []) × (first_unpaid 1 (o ∷ o ∷ []) (o ∷ []) ≡ Some 2) × (first_unpaid 1 (o ∷ o ∷ []) (o ∷ o ∷ []) ≡ None)

-- two contracts that are over owe one payment each, equal ones: of two outputs the first is the payment, the second is another, and so
-- the second contract, whose block stands from place 1, is the one that isn't paid
abbrev pub OneServesOne : Type 0
OneServesOne =
    (currency : List ℕ) (p : Payment) (party : Party) (other : Output) → due_to p ≡ Some party → let o = owed_output currency party p in
    same_output other o ≡ false → (first_unpaid 0 (o ∷ []) (o ∷ other ∷ []) ≡ None) × (first_unpaid 1 (o ∷ []) (other ∷ []) ≡ Some 1)

-- a payment of 0, or to an account, is due in no output; one of 1 to a party is due to it
abbrev pub NothingIsDue : Type 0
NothingIsDue = (a b : Party) → (due_above (to.Party a) (pos 0) ≡ None) × (due_above (to.Account b) (pos 1) ≡ None) × (due_above (to.Party a) (pos 1) ≡ Some a)

-- an address is paid under its key, a role under its payout
abbrev pub PaidUnderLocks : Type 0
PaidUnderLocks = (currency name : List ℕ) → (lock_for currency (Address name) ≡ Key name) × (lock_for currency (Role name) ≡ Payout currency name)

-- a role's token in a key output grants the role; in a payout it doesn't; a notify needs nobody
abbrev pub TokensGrantInKeys : Type 0
TokensGrantInKeys =
    (currency role address : List ℕ) (x : Spend) (m : Amounts) → amount_of m (role_token currency role) ≡ pos 1 →
    let key : Output = record { lock = Key address; amount = m } in
    let payout : Output = record { lock = Payout currency role; amount = m } in
    (authorised currency [] ((x, key) ∷ []) (Role role) ≡ true) × (authorised currency [] ((x, payout) ∷ []) (Role role) ≡ false)
    × (unauthorised currency [] [] (Notify ∷ []) ≡ None)

-- a contract without accounts holds nothing, and starts at the root with nothing
abbrev pub EmptyStartsHoldNothing : Type 0
EmptyStartsHoldNothing =
    (root : Cont) (t : ℤ) →
    let s : StateMaps = record { accounts = map.empty; choices = map.empty; bound_values = map.empty; min_time = t } in
    let d : Datum = record { cont = root; state = s } in
    (sums_of s ≡ map.empty) × (starts_from root d map.empty ≡ true)
