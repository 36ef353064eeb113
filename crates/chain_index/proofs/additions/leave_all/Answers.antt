use Rattle.std.proofs.Common.{◌∙◌, ap, sym, subst, List}
use Rattle.ledger_spec.specs.EutxoTypes.declared.output_ref.OutputRef.{OutputRef}
use Rattle.chain_index.specs.Contents.{is_among}
use Rattle.chain_index.specs.PartsSupport.{IsFront}
use Rattle.chain_index.proofs.FrontLemmas.{with_front}
use Rattle.chain_index.proofs.OutputLemmas.{next_leaves}
use Rattle.chain_index.proofs.RefLemmas.{among_with}
use Rattle.chain_index.proofs.additions.leave_all.Goals as goal

pub loop-x-preserved : goal.loop-x-preserved
loop-x-preserved c =
    let old = c.loop-x.leaving.keys in
    let x = c.x-item.result in
    let e = c.in_ok-note.ensures.ok in
    record {
      leaving = λ r.
          c.loop-x.invariant.leaving r
          ∙ next_leaves c.args.inputs.now c.loop-x.x-index x r (is_among old r) (is_among c.note.new.set.keys r) c.loop-x-test.true c.x-item.is
          (ap (λ (rs : List OutputRef). is_among rs r) e ∙ among_with old x.reference r);
      grown = subst (IsFront c.args.leaving.now.keys) (sym e) (with_front c.args.leaving.now.keys old x.reference c.loop-x.invariant.grown);
    }
