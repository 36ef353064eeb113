use Rattle.std.proofs.Common.{◌∙◌, ap, subst, Some, None}
use Rattle.std.specs.List.{IsDistinct}
use Rattle.std.specs.Option.{option_copied_mut}
use Rattle.std.specs.Map.{keys_of, set_value}
use Rattle.ledger_spec.specs.EutxoTypes.contracts.output_ref.OutputRefPartialEq.TheImpl.{ghosts}
use Rattle.chain_index.specs.HolesSupport.{live}
use Rattle.chain_index.proofs.RefLemmas.{eq_same}
use Rattle.chain_index.proofs.LiveLemmas.{removed, value_so, without_so}
use Rattle.chain_index.proofs.holes.take_out.Goals as goal

pub returns-in-Some-clause-value : goal.returns-in-Some-clause-value
returns-in-Some-clause-value g c =
    c.take.ensures.value ∙ value_so c.args.reference.now c.args.slots.now.entries (Some c.in-Some.slot.now) c.get_mut.ensures.unique c.in-Some.ensures.value

pub returns-in-None-clause-value : goal.returns-in-None-clause-value
returns-in-None-clause-value g c = value_so c.args.reference.now c.args.slots.now.entries None c.get_mut.ensures.unique c.in-None.ensures.value

pub returns-in-Some-clause-live : goal.returns-in-Some-clause-live
returns-in-Some-clause-live g c =
    let m = c.args.slots.now in
    let r = c.args.reference.now in
    let d = subst (λ e. IsDistinct e (keys_of m.entries)) eq_same c.get_mut.ensures.unique in
    let w = (c.get_mut.follows.holds c.take.new.self).0 in
    ap live w ∙ ap (λ o. live (set_value (ghosts.eq r) m.entries o)) c.take.ensures.after ∙ ap (λ e. live (set_value (e r) m.entries None)) eq_same ∙ removed r m.entries d

pub returns-in-None-clause-live : goal.returns-in-None-clause-live
returns-in-None-clause-live g c =
    let m = c.args.slots.now in
    ap (λ x. live x.entries) c.get_mut.follows.holds-at-none ∙ without_so c.args.reference.now m.entries _ (ap option_copied_mut c.in-None.is) c.get_mut.ensures.value
