-- What the writer of a warning puts, behind what was written before.
use Rattle.json.specs.Written as json
use Rattle.contract.specs.declared.warning.Warning.{Warning}
use Rattle.json_write_contracts.specs.Tokens.{Puts}
use Rattle.json_write_outcomes.specs.WrittenOutcome.{warning_json}

abbrev pub PutsWarning : json.Written → json.Written → Warning → Type 0
PutsWarning old new w = Puts old new (warning_json w)
