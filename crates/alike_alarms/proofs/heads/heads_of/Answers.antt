use Rattle.std.proofs.Common.{ℕ, List, map, sym, ap, ◌∙◌, subst}
use Rattle.std.proofs.lemmas.Result.{IfOk-weaker}
use Rattle.contract.specs.Tree.{contract_tree}
use Rattle.alike_alarms.specs.Alike.{AreToldBy, heads}
use Rattle.alike_alarms.specs.AlikeSupport.{seen_of}
use Rattle.alike_alarms.proofs.HeadLemmas.{tellers_below}
use Rattle.alike_alarms.proofs.heads.heads_of.Goals as goal

pub heads_by-requires : goal.heads_by-requires
heads_by-requires c =
    let tree = contract_tree c.args.contract.now in
    let all = map seen_of c.args.seen.now in
    tellers_below tree all c.deref-2.result.now (subst (λ (ts : List ℕ). AreToldBy tree all ts) (sym c.deref-2.ensures.value) c.in_ok-tellers.ensures)

pub returns : goal.returns
returns c = IfOk-weaker c.heads_by.result _ _ (λ all h. (c.in_ok-tellers.tellers.items, c.in_ok-tellers.ensures, h ∙ ap heads c.deref-2.ensures.value)) c.heads_by.ensures
