use Rattle.builder_spec.specs.Holding.{amount_in}
use Rattle.builder_spec.specs.Fronts.{suffices}
use Rattle.builder_spec.proofs.FrontsLaws.{shortest_is}
use Rattle.builder_spec.proofs.SufficesLaws.{bundles_take}
use Rattle.coin_selection.proofs.front.front_of.Goals as goal

pub returns-clause-front : goal.returns-clause-front
returns-clause-front c = shortest_is (suffices c.args.roles.now c.args.amounts.now) c.args.offered.now c.in_ok-length.length c.in_ok-length.ensures

pub returns-clause-bundles : goal.returns-clause-bundles
returns-clause-bundles c = bundles_take amount_in c.in_ok-length.length c.args.offered.now c.requires
