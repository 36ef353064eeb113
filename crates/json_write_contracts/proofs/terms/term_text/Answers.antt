use Rattle.std.proofs.Common.{ap, ◌∙◌, ℕ, Vec, Global}
use Rattle.json_write_contracts.proofs.WholeText.{compact}
use Rattle.json_write_contracts.proofs.terms.term_text.Goals as goal

pub returns : goal.returns
returns g c =
    ap (λ (bytes : Vec ℕ Global). bytes.items) c.in-Ok.ensures.ok
    ∙ compact c.new-out.result c.put.new.out c.new.result.items c.into_inner.result.items (g.T.Term.json c.args.term.now)
    c.new.ensures.items c.new-out.ensures.before c.new-out.ensures.tokens c.in_ok-put.ensures.put c.into_inner.ensures.items
