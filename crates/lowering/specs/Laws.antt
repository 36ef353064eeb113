-- What the layers above know of `code`: it is a function of the tree, and what it gives stands for that tree.
use Rattle.std.specs.Prelude.{◌≡◌, ◌≤◌, ◌↔◌}
use Rattle.contract.specs.Tree.{ContractTree}
use Rattle.table.specs.Flat.{Has, a_cont, cont_tree}
use Rattle.table.specs.Heights.{contract_height}
use Rattle.lowering.specs.Code.{code}

-- The number given stands in the table given, and stands for the contract. The height is a premise, since the tree of a
-- number is unfolded a thousand levels and no more: a higher contract has no number in any table. `compile` tests it.
abbrev pub CodesStand : Type 0
CodesStand = (c : ContractTree) → contract_height c ≤ 999 → Has (code c).0 (a_cont (code c).1.0) × (cont_tree (code c).0 (code c).1.0 ≡ c)

-- So equal contracts have equal tables, and contracts with equal tables are equal.
abbrev pub CodesTellApart : Type 0
CodesTellApart = (c d : ContractTree) → contract_height c ≤ 999 → contract_height d ≤ 999 → (c ≡ d) ↔ (code c ≡ code d)
