use Rattle.std.proofs.Common.{rules, ◌≡◌, false}
use Rattle.builder_spec.specs.Holding.{sums}
use Rattle.builder_spec.specs.Causes.{is_much}
use Rattle.builder_spec.proofs.FundsLaws.{amount}
use Rattle.builder.proofs.CoveredLemmas.{covered_room}
use Rattle.builder.proofs.outputs.rest.Goals as goal

pub unreachable-requires : goal.unreachable-requires
unreachable-requires c =
    let room : is_much (sums amount c.args.made.now) ≡ false = covered_room c.args.all (sums amount c.args.made.now) c.entries.ensures.positive c.see_room.ensures c.requires in
    search (rules, room)
