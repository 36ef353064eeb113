-- What the Publish calls of a history published.
use Rattle.std.specs.Prelude.{◌≡◌, ℕ, List, take, slice_get, Option, Some, Ok}
use Rattle.contract.specs.declared.tree.Contract.{Contract}
use Rattle.contract.specs.Tree.{contract_tree}
use Rattle.builder_spec.specs.Roles.declared.published.Published.{Published}
use Rattle.builder_spec.specs.Roles.Terms.{IsTable, terms_of}
use Rattle.builder_spec.specs.Ledger.declared.call.Call.TheVariants as on
use Rattle.builder_spec.specs.Ledger.declared.call.Entry.{Entry}
use Rattle.builder_spec.specs.Ledger.declared.call.Reply.TheVariants as answer
use Rattle.ledger_spec.specs.Replay.{Course, publication, published, published_at}
use Rattle.ledger_spec.specs.Legal.{IsLegal}

-- an entry published a contract and a currency under an id
pub record Publishes (es : List Entry) (id : List ℕ) (contract : Contract) (currency : List ℕ) : Type 0 where
  pub number : ℕ
  pub entry : Entry
  pub there : slice_get es number ≡ Some entry
  pub call : entry.call ≡ on.Publish contract currency
  pub reply : entry.reply ≡ answer.Published id

-- an object is what an entry published under an id: it has that id and the currency, its numbers are a table's, and its root stands
-- for the contract
pub record IsPublication (es : List Entry) (id : List ℕ) (p : Published) : Type 0 where
  pub contract : Contract
  pub published : Publishes es id contract p.currency
  pub named : p.id ≡ id
  pub table : IsTable (terms_of p)
  pub tree : (terms_of p).tree p.root ≡ contract_tree contract

-- what an entry published stands under its id
abbrev pub StandsUnderItsId : List Entry → (List ℕ → Option Published) → Type 0
StandsUnderItsId es named =
    (id : List ℕ) (contract : Contract) (currency : List ℕ) → Publishes es id contract currency → (p : Published) × (publication contract currency ≡ Ok p) × (named id ≡ Some p)

-- two entries that published under one id published one contract and one currency
abbrev pub IdsTellContracts : List Entry → Type 0
IdsTellContracts es =
    (id : List ℕ) (c d : Contract) (x y : List ℕ) → Publishes es id c x → Publishes es id d y → (contract_tree c ≡ contract_tree d) × (x ≡ y)

-- and an entry is answered that its id is in use only where an earlier one published another contract or currency under that
abbrev pub InUseByAnother : List Entry → Type 0
InUseByAnother es =
    (n : ℕ) (e : Entry) (c : Contract) (x : List ℕ) → slice_get es n ≡ Some e → e.call ≡ on.Publish c x → e.reply ≡ answer.IdInUse →
    (p : Published) × (publication c x ≡ Ok p) × (d : Contract) × (y : List ℕ) × Publishes (take n es) p.id d y × ((contract_tree c ≡ contract_tree d) × (x ≡ y) → ⊥)

-- so of every legal history
abbrev pub PublicationsAreEntries : Type 0
PublicationsAreEntries = (c : Course) → IsLegal c → (id : List ℕ) (p : Published) → published_at (published c.entries) id ≡ Some p → IsPublication c.entries id p

abbrev pub EntriesArePublished : Type 0
EntriesArePublished = (c : Course) → IsLegal c → StandsUnderItsId c.entries (published_at (published c.entries))

abbrev pub LegalIdsTellContracts : Type 0
LegalIdsTellContracts = (c : Course) → IsLegal c → IdsTellContracts c.entries

abbrev pub LegalIdsInUse : Type 0
LegalIdsInUse = (c : Course) → IsLegal c → InUseByAnother c.entries
