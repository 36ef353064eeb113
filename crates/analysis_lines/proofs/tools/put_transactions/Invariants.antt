use Rattle.std.proofs.Common.{take, map}
use Rattle.json_write_contracts.specs.Tokens.{Adds}
use Rattle.json_write_contracts.proofs.ListedLaws.{front}
use Rattle.contract_json.specs.WrittenInput.{transaction_json}
use Rattle.analysis_lines.proofs.tools.put_transactions.Given as goal

-- the items so far are written
abbrev pub invariant-loop-transaction : goal.invariant-loop-transaction
invariant-loop-transaction l = Adds l.initial.out l.out (front (map transaction_json (take l.transaction-index l.run)))
