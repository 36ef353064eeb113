-- Publishing a contract: its table, and the id of its script.
use Rattle.std.specs.Prelude.{◌≡◌, ℕ, List, ◌++◌, None}
use Rattle.sha2.specs.Sha256.{sha256}
use Rattle.contract.specs.Tree.{ContractTree}
use Rattle.eutxo.specs.ContractBytes.Numbers.{text_bytes}
use Rattle.eutxo.specs.ContractBytes.Trees.{contract_bytes}
use Rattle.compiler.specs.Lowering.Code.{code}
use Rattle.compiler.specs.Limits.{compile_fault}
use Rattle.roles.specs.declared.published.Published.{Published}
use Rattle.roles.specs.Terms.{IsTable, terms_of}

-- the SHA-256 of the contract's bytes, then the length and the bytes of the currency
unfoldable pub script_id : ContractTree → List ℕ → List ℕ
script_id c currency = sha256 (contract_bytes c ++ text_bytes currency)

-- a contract as it is published with the currency of its roles' tokens
abbrev pub published_of : ContractTree → List ℕ → Published
published_of c currency = record { id = script_id c currency; table = (code c).0; root = (code c).1; currency = currency }

-- it is a table, and its root stands for the contract
abbrev pub IsTableOf : ContractTree → Published → Type 0
IsTableOf c p = IsTable (terms_of p) × ((terms_of p).tree p.root ≡ c)

-- what is published is a table, and its root stands for the contract
pub record IsPublished (c : ContractTree) (currency : List ℕ) : Type 0 where
  pub table : IsTable (terms_of (published_of c currency))
  pub tree : (terms_of (published_of c currency)).tree (published_of c currency).root ≡ c

-- so of every contract that can be published
abbrev pub PublishedAreTables : Type 0
PublishedAreTables = (c : ContractTree) (currency : List ℕ) → compile_fault c ≡ None → IsPublished c currency

-- and what is published tells contracts and currencies apart
abbrev pub PublishedTellApart : Type 0
PublishedTellApart = (c d : ContractTree) (x y : List ℕ) → compile_fault c ≡ None → compile_fault d ≡ None → published_of c x ≡ published_of d y → (c ≡ d) × (x ≡ y)
