-- What is published: the numbers of a table and the contracts that they stand for, where turns lead, the number where the
-- contract starts, and the currency of its roles' tokens.
use Rattle.std.specs.Prelude.{◌≡◌, ℕ, Bool, true, List, Some}
use Rattle.contract.specs.Tree.{ContractTree}
use Rattle.compiler.specs.Evaluation.Path.{Turn, along}
use Rattle.compiler.specs.Nodes.declared.cont.Cont.{Cont}
use Rattle.compiler.specs.Table.Flat.{cont_tree}
use Rattle.compiler.specs.Table.Along.{has_cont, cont_at}
use Rattle.roles.specs.declared.published.Published.{Published}

pub record Terms : Type 0 where
  pub has : Cont → Bool
  pub tree : Cont → ContractTree
  pub at : Cont → List Turn → Cont
  pub root : Cont
  pub currency : List ℕ

-- those of a published contract are its table's
abbrev pub terms_of : Published → Terms
terms_of p = record { has = has_cont p.table; tree = λ k. cont_tree p.table k.0; at = cont_at p.table; root = p.root; currency = p.currency }

-- the root is one of the numbers, and turns that the contract of a number has lead to a number, which stands for the part
-- that they lead to
pub record IsTable (t : Terms) : Type 0 where
  pub root : t.has t.root ≡ true
  pub led : (p : Cont) (ts : List Turn) (c : ContractTree) → t.has p ≡ true → along (t.tree p) ts ≡ Some c → (t.has (t.at p ts) ≡ true) × (t.tree (t.at p ts) ≡ c)
