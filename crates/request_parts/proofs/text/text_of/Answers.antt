use Rattle.marlowe_run.proofs.FromContractJson.InRange.{fitting}
use Rattle.marlowe_run.proofs.FromContractJson.Whole.{compact}
use Rattle.request_parts.proofs.text.text_of.Goals as goal

pub returns : goal.returns
returns g c =
    fitting _ _ _ c.in_ok-put.ensures.put.0
    (compact c.new-out.result c.put.new.out c.new.result.items c.into_inner.result.items (g.T.PutJson.json c.args.item.now)
    c.new.ensures.items c.new-out.ensures.before c.new-out.ensures.tokens c.in_ok-put.ensures.put.1 c.into_inner.ensures.items)
