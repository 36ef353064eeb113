-- The faults of a table's text: want of memory is one of its own, whatever it befell.
use Rattle.json_read_names.specs.declared.fault.JsonFault.{JsonFault}
use Rattle.json_read_names.specs.declared.fault.JsonFault.TheVariants as json
use Rattle.compiler.specs.declared.fault.CompileFault.{CompileFault}
use Rattle.compiler.specs.declared.fault.CompileFault.TheVariants as compile
use Rattle.marlowe_refusals.specs.declared.table_fault.TableFault.{TableFault}
use Rattle.marlowe_refusals.specs.declared.table_fault.TableFault.TheVariants as table

abbrev pub table_contract_fault : JsonFault → TableFault
table_contract_fault json.Memory = table.Memory
table_contract_fault other = table.Contract other

abbrev pub table_compile_fault : CompileFault → TableFault
table_compile_fault compile.Memory = table.Memory
table_compile_fault other = table.Compile other
