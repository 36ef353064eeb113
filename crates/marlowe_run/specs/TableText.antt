-- What the program prints of the table of a contract, or what it tells where there is none.
use Rattle.std.specs.Prelude.{ℕ, List, Option, Some, None, Result, Ok, Err}
use Rattle.contract.specs.Collections.Answers.{◌>>=◌}
use Rattle.contract.specs.Tree.{ContractTree, contract_tree}
use Rattle.json_read_names.specs.ReadsText.{of_text, of_text_within}
use Rattle.json_read_contracts.specs.ReadsContract.{contract}
use Rattle.compiler.specs.Lowering.Code.{code}
use Rattle.compiler.specs.declared.fault.CompileFault.{CompileFault}
use Rattle.compiler.specs.Limits.{compile_fault}
use Rattle.table_lines.specs.TableLines.{table_lines}
use Rattle.marlowe_refusals.specs.declared.table_fault.TableFault.{TableFault}
use Rattle.marlowe_refusals.specs.Faults.{read_as}
use Rattle.marlowe_refusals.specs.TableFaults.{table_contract_fault, table_compile_fault}

-- the lines of a contract's table
abbrev pub contract_lines : ContractTree → List ℕ
contract_lines c = table_lines (code c).0 (code c).1

-- these lines, unless there is a fault
abbrev pub unless_fault : List ℕ → Option CompileFault → Result (List ℕ) TableFault
unless_fault lines None = Ok lines
unless_fault lines (Some fault) = Err (table_compile_fault fault)

-- the lines of a contract's table, or why it has none
abbrev pub printed_table : ContractTree → Result (List ℕ) TableFault
printed_table c = unless_fault (contract_lines c) (compile_fault c)

-- the contract is read first
unfoldable pub table_text : List ℕ → Result (List ℕ) TableFault
table_text text = read_as table_contract_fault (of_text contract text) >>= λ given. printed_table (contract_tree given)

-- the same of a contract of this depth
unfoldable pub table_text_within : ℕ → List ℕ → Result (List ℕ) TableFault
table_text_within depth text = read_as table_contract_fault (of_text_within depth contract text) >>= λ given. printed_table (contract_tree given)
