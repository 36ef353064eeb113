use Rattle.contract.proofs.FromCollections.SameLaws.{same_by_from}
use Rattle.eutxo.specs.Machine.declared.datum.Datum.{Datum}
use Rattle.eutxo.specs.Machine.contracts.datum.Datum as datums
use Rattle.roles.proofs.owing.same_datum.Goals as goal

pub returns : goal.returns
returns c =
    let there : Datum = record { cont = c.args.there; state = c.args.state.now } in
    same_by_from datums.the_row.coded c.args.datum.now there c.is_datum.result c.is_datum.ensures
