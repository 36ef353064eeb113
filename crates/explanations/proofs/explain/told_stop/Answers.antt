use Rattle.std.proofs.Common.{ap, refl, map, subst, ◌∙◌}
use Rattle.std.proofs.lemmas.Result.{IfOk-weaker}
use Rattle.json.specs.Reads.{token_of}
use Rattle.told_parts.specs.Told.{Told}
use Rattle.explanations.specs.Indexes.{indexes_of}
use Rattle.explanations.specs.Explained.{IsFirst}
use Rattle.explanations.proofs.ExplainLemmas.{stop_told}
use Rattle.explanations.proofs.explain.told_stop.Goals as goal

pub returns : goal.returns
returns c =
    let stop = c.args.stop.now in
    let found = c.in_ok-found.found in
    let t : Told =
    record {
      path = c.deref-4.result.now;
      spot = found.0;
      sort = stop.sort;
      fault = stop.fault;
      token = token_of found.1;
      keys = map (λ key. key.now) c.deref-5.result.now;
      first = c.in_ok-first.first;
      names = map (λ name. name.now) c.args.names.now;
    } in
    IfOk-weaker c.spelled.result _ _
    (λ written are. stop_told c.args.how c.args.file.now c.args.text.now c.args.json.now c.args.part.now stop t (map (λ name. name.now) c.args.names.now) written.items c.deref-2.result.now c.requires c.in_ok-found.ensures
    (subst (λ path. IsFirst c.args.how.depth c.args.text.now c.args.json.now path stop.sort c.in_ok-first.first) c.deref-3.ensures.value c.in_ok-first.ensures)
    c.deref-4.ensures.value refl refl (c.deref-2.ensures.value ∙ c.in_ok-indexes.ensures ∙ ap (λ path. indexes_of path c.args.json.now) c.deref.ensures.value)
    (ap (map (λ key. key.now)) c.deref-5.ensures.value ∙ c.in_ok-keys.ensures) refl are)
    c.spelled.ensures
