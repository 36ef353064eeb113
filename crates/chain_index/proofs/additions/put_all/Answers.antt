use Rattle.std.proofs.Common.{◌∙◌, ◌+◌, ◌++◌, ◌∷◌, [], ap, sym, append_assoc, drop, Option, List}
use Rattle.ledger_spec.specs.EutxoTypes.declared.output.Output.{Output}
use Rattle.ledger_spec.specs.EutxoTypes.declared.output_ref.OutputRef.{OutputRef}
use Rattle.ledger_spec.specs.LedgerLaws.Past.{with_references}
use Rattle.chain_index.specs.Contents.{is_among}
use Rattle.chain_index.specs.HolesSupport.{known}
use Rattle.chain_index.specs.NamingSupport.{naming, slots}
use Rattle.chain_index.proofs.FrontLemmas.{front_more}
use Rattle.chain_index.proofs.OutputLemmas.{next_slots, absent_more}
use Rattle.chain_index.proofs.additions.put_all.Goals as goal

pub loop-i-preserved : goal.loop-i-preserved
loop-i-preserved c =
    let name = naming c.args.whose.now in
    let old = c.loop-i.outputs in
    let i = c.loop-i.i in
    let o = c.index-made-i.result in
    let one = slots ((name i, o) ∷ []) in
    let rest = slots (with_references name (i + 1) (drop (i + 1) c.args.made.now)) in
    let e = c.in_ok-put_one.ensures.ok in
    record {
      entries =
          ap (λ (l : List (OutputRef × Option Output)). l ++ rest) e
          ∙ append_assoc old one rest
          ∙ ap (λ (l : List (OutputRef × Option Output)). old ++ l) (sym (next_slots name c.args.made.now i o c.loop-i-test.true c.index-made-i.is))
          ∙ c.loop-i.invariant.entries;
      grown = front_more c.args.outputs.now old c.put_one.new.outputs one c.loop-i.invariant.grown e;
      absent = λ j h. ap (λ (l : List (OutputRef × Option Output)). is_among (known l) (name j)) e ∙ absent_more c.args.whose.now old i o c.loop-i.invariant.absent j h;
    }
