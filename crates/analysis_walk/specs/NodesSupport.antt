-- How large a contract is. It serves proofs alone: each walk goes to smaller ones.
use Rattle.std.specs.Prelude.{ℕ, ◌+◌}
use Rattle.contract.specs.Tree.{ContractTree, CaseTrees, close, pay, if_obs, when, let_be, assert, no_cases, case_then}

abbrev mutual
  pub nodes : ContractTree → ℕ
  nodes close = 1
  nodes (pay p y t v c) = 1 + nodes c
  nodes (if_obs o c d) = 1 + (nodes c + nodes d)
  nodes (when ks timeout c) = 2 + (nodes_of ks + nodes c)
  nodes (let_be x v c) = 1 + nodes c
  nodes (assert o c) = 1 + nodes c

  pub nodes_of : CaseTrees → ℕ
  nodes_of no_cases = 0
  nodes_of (case_then a c ks) = 1 + (nodes c + nodes_of ks)
