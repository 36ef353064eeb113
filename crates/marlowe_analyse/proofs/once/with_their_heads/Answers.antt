use Rattle.std.proofs.Common.{◌≡◌, Option, ℕ, List, map, length, ap, ◌∙◌, subst}
use Rattle.contract.specs.Tree.{contract_tree}
use Rattle.alike_alarms.specs.Alike.{AreHeads}
use Rattle.analysis_lines.specs.declared.told.ToldAlarm.{ToldAlarm}
use Rattle.analysis_lines.specs.ToldLines.{line_of, with_heads}
use Rattle.marlowe_analyse.specs.OnceSupport.{seen_told}
use Rattle.marlowe_analyse.proofs.OnceLemmas.{as_many_told}
use Rattle.marlowe_analyse.proofs.once.with_their_heads.Goals as goal

pub put_heads-requires : goal.put_heads-requires
put_heads-requires c =
    let tree = contract_tree c.args.contract.now in
    let found = c.in_ok-heads.heads.items in
    let h = subst (λ (ts : List ToldAlarm). AreHeads tree (map seen_told ts) found) c.deref.ensures.value c.in_ok-heads.ensures in
    (ap length c.deref-2.ensures.value ∙ as_many_told tree c.args.alarms.items found h, c.requires)

pub returns : goal.returns
returns c =
    let tree = contract_tree c.args.contract.now in
    let found = c.in_ok-heads.heads.items in
    record {
      found = found;
      heads = subst (λ (ts : List ToldAlarm). AreHeads tree (map seen_told ts) found) c.deref.ensures.value c.in_ok-heads.ensures;
      lines = c.put_heads.ensures.lines ∙ ap (with_heads (map line_of c.args.alarms.items)) c.deref-2.ensures.value;
      fit = c.put_heads.ensures.fit;
    }
