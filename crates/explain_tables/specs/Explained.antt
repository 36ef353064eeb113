-- Why a contract has no table, and the text that says so.
use Rattle.std.specs.Prelude.{◌≡◌, ℕ, ◌^◌, ◌<◌, ◌≤◌, List, Option, Some, None, ◌⊎◌}
use Rattle.contract.specs.Tree.{ContractTree}
use Rattle.compiler.specs.Table.Heights.{contract_height}
use Rattle.compiler.specs.Lowering.Sizes.{conts, others}
use Rattle.compiler.specs.declared.fault.CompileFault.{CompileFault}
use Rattle.compiler.specs.declared.fault.CompileFault.TheVariants as faults
use Rattle.compiler.specs.Limits.{compile_fault}
use Rattle.explain_tables.specs.declared.explanation.Explanation.{Explanation}
use Rattle.explain_tables.specs.declared.explanation.Explanation.TheVariants as why
use Rattle.explain_tables.specs.Depths.{IsTooDeepAt}
use Rattle.json_members.specs.declared.spelling.Spelling.{Spelling}
use Rattle.json_members.specs.declared.spelling.Spelling.TheVariants as spellings
use Rattle.explain_tables.specs.Lines.{deep_line, continuations_line, others_line, deep_member, nodes_member}

-- an explanation is right of a contract
abbrev pub Explains : ContractTree → Explanation → Type 0
Explains c (why.Deep place) = IsTooDeepAt c place
Explains c (why.Continuations n) = (contract_height c ≤ 999) × (conts c ≡ n) × (65535 < n)
Explains c (why.Others n) = (contract_height c ≤ 999) × (conts c ≤ 65535) × (others c ≡ n) × (1000000 < n)

-- a contract has a table, or so many nodes that they aren't counted
abbrev pub IsUntold : ContractTree → Type 0
IsUntold c = (compile_fault c ≡ None) ⊎ ((2 ^ 32 ≤ conts c) ⊎ (2 ^ 32 ≤ others c))

-- the fault that it explains
abbrev pub fault_of : Explanation → CompileFault
fault_of (why.Deep place) = faults.TooDeep
fault_of (why.Continuations n) = faults.TooManyNodes
fault_of (why.Others n) = faults.TooManyNodes

-- its text
abbrev pub line_of : ContractTree → Explanation → List ℕ
line_of c (why.Deep place) = deep_line c place
line_of c (why.Continuations n) = continuations_line n
line_of c (why.Others n) = others_line n

abbrev pub member_of : ContractTree → Explanation → List ℕ
member_of c (why.Deep place) = deep_member c place
member_of c (why.Continuations n) = nodes_member n
member_of c (why.Others n) = nodes_member n

abbrev pub spelled : Spelling → ContractTree → Explanation → List ℕ
spelled spellings.Lines c e = line_of c e
spelled spellings.Members c e = member_of c e

-- a text explains why a contract has no table: it is that of an explanation that is right of it
pub record IsExplanation (w : Spelling) (c : ContractTree) (text : List ℕ) : Type 0 where
  pub explanation : Explanation
  pub explains : Explains c explanation
  pub is : text ≡ spelled w c explanation

-- there is a text exactly where the contract is refused, and its nodes are counted
abbrev pub TellsIfRefused : Spelling → ContractTree → Option (List ℕ) → Type 0
TellsIfRefused w c None = IsUntold c
TellsIfRefused w c (Some text) = IsExplanation w c text

-- ---- laws

-- a contract that is explained is refused, with the fault that the explanation is of
abbrev pub ExplainedIsRefused : Type 0
ExplainedIsRefused = (c : ContractTree) (e : Explanation) → Explains c e → compile_fault c ≡ Some (fault_of e)
