use Rattle.contract_json.proofs.InRange.{fitting}
use Rattle.contract_json.proofs.Whole.{compact, utf8, reads, reads-deep}
use Rattle.contract_json.proofs.put_json.text_of.Goals as goal

pub returns-clause-written : goal.returns-clause-written
returns-clause-written g c =
    fitting _ _ _ c.in_ok-put.ensures.put.0
    (compact c.new-out.result c.put.new.out c.new.result.items c.into_inner.result.items (g.T.PutJson.json c.args.item.now)
    c.new.ensures.items c.new-out.ensures.before c.new-out.ensures.tokens c.in_ok-put.ensures.put.1 c.into_inner.ensures.items)

pub returns-clause-utf8 : goal.returns-clause-utf8
returns-clause-utf8 g c =
    utf8 c.new-out.result c.put.new.out c.new.result.items c.into_inner.result.items (g.T.PutJson.json c.args.item.now)
    c.new.ensures.items c.new-out.ensures.before c.new-out.ensures.tokens c.in_ok-put.ensures.put.1 c.into_inner.ensures.items c.into_inner.ensures.utf8

pub returns-clause-reads : goal.returns-clause-reads
returns-clause-reads g c = λ shallow.
    reads c.new-out.result c.put.new.out c.new.result.items c.into_inner.result.items (g.T.PutJson.json c.args.item.now)
    c.new.ensures.items c.new-out.ensures.before c.new-out.ensures.tokens c.in_ok-put.ensures.put.1 c.into_inner.ensures.items c.into_inner.ensures.reads_back
    c.in_ok-put.ensures.readable shallow

pub returns-clause-reads_within : goal.returns-clause-reads_within
returns-clause-reads_within g c =
    reads-deep c.new-out.result c.put.new.out c.new.result.items c.into_inner.result.items (g.T.PutJson.json c.args.item.now)
    c.new.ensures.items c.new-out.ensures.before c.new-out.ensures.tokens c.in_ok-put.ensures.put.1 c.into_inner.ensures.items c.into_inner.ensures.reads_back
    c.in_ok-put.ensures.readable
