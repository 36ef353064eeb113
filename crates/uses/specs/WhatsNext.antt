-- What a caller is promised who asks what can be done next, after some transactions.
use Rattle.std.specs.Prelude.{◌≡◌, ◌↔◌, ℕ, true, List, Some, Ok}
use Rattle.contract.specs.declared.input.Input.{Input}
use Rattle.contract.specs.declared.interval.Interval.{Interval}
use Rattle.contract.specs.declared.transaction.Transaction.{Transaction}
use Rattle.contract.specs.Tree.{ContractTree}
use Rattle.chain.specs.LedgerSpec.Evaluation.Path.{waits_for}
use Rattle.chain.specs.LedgerSpec.Semantics.Walk.{Standing}
use Rattle.next_inputs.specs.declared.offer.Offer.{Offer}
use Rattle.next_inputs.specs.Offers.{offered}
use Rattle.next_inputs.specs.Opening.{next_case}
use Rattle.trace.specs.Traces.{left_by}

-- a case of what is left offers an input exactly where that input, alone in a transaction over the interval, takes it
abbrev pub OffersWhatIsTaken : Standing → Interval → ContractTree → List Offer → Type 0
OffersWhatIsTaken b i c offers = (x : Input) (n : ℕ) → (offered (waits_for c) offers n x ≡ true) ↔ (next_case i b.state b.contract x ≡ Some n)

-- so it is where transactions leave a contract
abbrev pub IsNextAfter : Standing → List Transaction → Interval → ContractTree → List Offer → Type 0
IsNextAfter a ts i c offers = (b : Standing) × (left_by 0 a ts ≡ Ok b) × OffersWhatIsTaken b i c offers
