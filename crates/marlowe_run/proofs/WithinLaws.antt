-- Within 127 levels each answer is that of the calls without a depth.
use Rattle.std.proofs.Common.{◌≡◌, ℕ, Bool, List, ap}
use Rattle.contract.specs.Collections.Answers.{◌>>=◌}
use Rattle.contract.specs.Tree.{contract_tree}
use Rattle.contract.specs.declared.tree.Contract.{Contract}
use Rattle.json_read_names.specs.Parts.{Reading}
use Rattle.contract_json.proofs.ReadContractsFit.{of-127}
use Rattle.marlowe_refusals.specs.Faults.{read_as, contract_fault}
use Rattle.marlowe_refusals.specs.TableFaults.{table_contract_fault}
use Rattle.marlowe_run.specs.Start.{state_reading}
use Rattle.marlowe_run.specs.Run.{run_by, run_from, run_within, within_127}
use Rattle.marlowe_run.specs.TableText.{printed_table, table_text, table_text_within}

pub runs-127 : (texts : Bool) (c s t : List ℕ) → run_within (within_127 texts) c s t ≡ run_by (state_reading texts) c s t
unfolding run_within run_by
runs-127 texts c s t = ap (λ (r : Reading Contract). read_as contract_fault r >>= λ given. run_from (state_reading texts) (contract_tree given) s t) (of-127 c)

pub tables-127 : (text : List ℕ) → table_text_within 127 text ≡ table_text text
unfolding table_text_within table_text
tables-127 text = ap (λ (r : Reading Contract). read_as table_contract_fault r >>= λ given. printed_table (contract_tree given)) (of-127 text)

pub ruleset runs_127 = runs-127

pub ruleset tables_127 = tables-127
