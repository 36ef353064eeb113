use Rattle.std.proofs.Common.{sym, ◌∙◌, ap, List}
use Rattle.ledger_spec.specs.EutxoTypes.declared.output_ref.OutputRef.{OutputRef}
use Rattle.chain_index.specs.HolesSupport.{live, staying}
use Rattle.chain_index.proofs.LiveLemmas.{staying_more, none_leave, no_keys}
use Rattle.chain_index.proofs.outputs.take_all_out.Goals as goal

pub loop-reference-preserved : goal.loop-reference-preserved
loop-reference-preserved c =
    let old = c.loop-reference in
    let keys = c.in-Some.ensures.keys in
    record {
      live =
          ap (staying c.pop.new.self.keys) c.take_out.ensures.live
          ∙ staying_more c.pop.new.self.keys c.in-Some.reference (live old.outputs)
          ∙ ap (λ (rs : List OutputRef). staying rs (live old.outputs)) (sym keys)
          ∙ old.invariant.live;
      keys = c.take_out.ensures.keys ∙ old.invariant.keys;
      live_datums =
          ap (staying c.pop.new.self.keys) c.take_out-in-Some.ensures.live
          ∙ staying_more c.pop.new.self.keys c.in-Some.reference (live old.datums.entries)
          ∙ ap (λ (rs : List OutputRef). staying rs (live old.datums.entries)) (sym keys)
          ∙ old.invariant.live_datums;
      datum_keys = c.take_out-in-Some.ensures.keys ∙ old.invariant.datum_keys;
    }

pub returns-clause-live : goal.returns-clause-live
returns-clause-live c =
    let old = c.loop-reference in
    sym (none_leave (live old.outputs)) ∙ ap (λ (rs : List OutputRef). staying rs (live old.outputs)) (sym (no_keys old.set.keys c.in_default.ensures.found.1)) ∙ old.invariant.live

pub returns-clause-live_datums : goal.returns-clause-live_datums
returns-clause-live_datums c =
    let old = c.loop-reference in
    sym (none_leave (live old.datums.entries)) ∙ ap (λ (rs : List OutputRef). staying rs (live old.datums.entries)) (sym (no_keys old.set.keys c.in_default.ensures.found.1)) ∙ old.invariant.live_datums
