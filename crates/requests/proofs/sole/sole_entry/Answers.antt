use Rattle.std.proofs.Common.{sym, ◌∙◌}
use Rattle.requests.proofs.SoleLemmas.{sole-one, sole-other}
use Rattle.requests.proofs.sole.sole_entry.Goals as goal

pub returns-then-len-ne1 : goal.returns-then-len-ne1
returns-then-len-ne1 c = sole-other c.args.members.now.entries (λ one. c.if-len-ne1.true (c.len.ensures.len ∙ one))

pub returns-in-Some : goal.returns-in-Some
returns-in-Some c =
    sole-one c.args.members.now.entries c.in-Some.key.now c.in-Some.value.now c.as_str.result.now
    (sym c.len.ensures.len ∙ c.if-len-ne1.false) c.in-Some.ensures.first c.as_str.ensures.value
