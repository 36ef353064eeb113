-- The contract that a request speaks of, as it is held.
use Rattle.contract.specs.declared.tree.Contract.{Contract}
use Rattle.request_parts.specs.declared.parts.Given.{Given}
use Rattle.request_parts.specs.declared.parts.Given.TheVariants.{Named, Read}

abbrev pub given_contract : Given → Contract
given_contract (Named c) = c.now
given_contract (Read c) = c
