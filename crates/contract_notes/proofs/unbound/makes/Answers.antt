use Rattle.std.proofs.Common.{sym, ◌∙◌}
use Rattle.contract_notes.proofs.CaseLemmas.{makes_at, makes_over}
use Rattle.contract_notes.proofs.unbound.makes.Goals as goal

pub returns-in-Some : goal.returns-in-Some
returns-in-Some c = c.makes_it.ensures ∙ sym (makes_at c.args.source.now c.args.cases.now c.args.index c.in-Some.case.now c.in-Some.ensures.lookup.3.0 c.in-Some.ensures.lookup.1)

pub returns-in-None : goal.returns-in-None
returns-in-None c = sym (makes_over c.args.source.now c.args.cases.now c.args.index c.in-None.ensures.lookup.3)
