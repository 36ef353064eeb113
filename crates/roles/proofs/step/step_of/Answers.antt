use Rattle.compiler.specs.Table.AlongLaws.{along_tree}
use Rattle.roles.proofs.step.step_of.Goals as goal

pub is_close-closed-requires : goal.is_close-closed-requires
is_close-closed-requires c = (along_tree c.args.published.now.table c.args.asked.datum.now.cont _ c.in-Ok.outcome.place (c.contains.ensures.stands.0 c.if-not-contains.false) c.in-Ok.ensures.place).0
