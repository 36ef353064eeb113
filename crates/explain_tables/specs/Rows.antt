-- Worked rows of depths, of lines and of members, computed on the definitions.
use Rattle.std.specs.Prelude.{◌≡◌, pos, [], ◌∷◌, codes}
use Rattle.contract.specs.Tree.{ContractTree, close, when, notify, true_obs, no_cases, case_then}
use Rattle.compiler.specs.Table.Heights.{contract_height}
use Rattle.analysis_spec.specs.declared.path.PathStep.TheVariants.{Then, TimeoutContinuation, Case}
use Rattle.explain_tables.specs.Depths.{levels_of}
use Rattle.explain_tables.specs.Lines.{deep_line, continuations_line, others_line, deep_member, nodes_member}

-- a When with one case, a notify
abbrev pub waits : ContractTree → ContractTree
waits c = when (case_then (notify true_obs) c no_cases) (pos 100) close

-- a case counts as a level: a When in a case of a When is four levels high, and stands two levels down
abbrev pub StepsGoDown : Type 0
StepsGoDown = (contract_height (waits (waits close)) ≡ 4) × (levels_of (Case 0 ∷ []) ≡ 2) × (levels_of (Then ∷ Case 1 ∷ TimeoutContinuation ∷ []) ≡ 4)

abbrev pub LinesAreTold : Type 0
LinesAreTold =
    (deep_line (waits (waits close)) (Case 0 ∷ []) ≡ codes "  the contract is more than 999 parts deep at .when[0].then.when\n")
    × (continuations_line 65536 ≡ codes "  the contract has 65536 continuations; a table has at most 65535\n")
    × (others_line 1000001 ≡ codes "  the contract has 1000001 values, observations and cases; a table has at most 1000000\n")

abbrev pub MembersAreTold : Type 0
MembersAreTold =
    (deep_member (waits (waits close)) (Case 0 ∷ []) ≡ codes "\"place\":[\"when\",0,\"then\",\"when\"]") × (nodes_member 65536 ≡ codes "\"nodes\":65536")
