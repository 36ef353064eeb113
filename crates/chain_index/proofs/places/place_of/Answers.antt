use Rattle.std.proofs.Common.{◌∙◌, sym, ap, Option}
use Rattle.ledger_spec.specs.EutxoTypes.declared.output.Output.{Output}
use Rattle.chain_index.specs.LocksSupport.{is_named}
use Rattle.chain_index.specs.UnderLocksSupport.{is_shown}
use Rattle.chain_index.proofs.PlaceLemmas.{place_passes, place_fails, place_of_none}
use Rattle.chain_index.proofs.places.place_of.Goals as goal

pub returns-then-is_shown : goal.returns-then-is_shown
returns-then-is_shown c =
    let x = c.in-Some-default-default-Some in
    let test = is_shown (is_named c.args.name.now) c.args.leaving.now.keys in
    place_passes test c.args.reference.now c.args.slots.now.entries x.place x.key.now x.field-0-2.now c.len-len.ensures.unique x.ensures.entry x.ensures.key
    (ap (λ (o : Option Output). test (x.key.now, o)) x.field-0-2-is ∙ sym c.is_shown.ensures ∙ c.if-is_shown.true)

pub returns-else-is_shown : goal.returns-else-is_shown
returns-else-is_shown c =
    let x = c.in-Some-default-default-Some in
    let test = is_shown (is_named c.args.name.now) c.args.leaving.now.keys in
    place_fails test c.args.reference.now c.args.slots.now.entries x.place x.key.now x.field-0-2.now c.len-len.ensures.unique x.ensures.entry x.ensures.key
    (ap (λ (o : Option Output). test (x.key.now, o)) x.field-0-2-is ∙ sym c.is_shown.ensures ∙ c.if-is_shown.false)

pub returns-in-Some-default-default-None : goal.returns-in-Some-default-default-None
returns-in-Some-default-default-None c =
    let x = c.in-Some-default-default-None in
    let test = is_shown (is_named c.args.name.now) c.args.leaving.now.keys in
    place_fails test c.args.reference.now c.args.slots.now.entries x.field-0-0 x.field-0-1.now x.field-0-2.now c.len-len.ensures.unique x.ensures.entry x.ensures.key
    (ap (λ (o : Option Output). test (x.field-0-1.now, o)) x.field-0-2-is)

pub returns-in-None : goal.returns-in-None
returns-in-None c = place_of_none (is_shown (is_named c.args.name.now) c.args.leaving.now.keys) c.args.reference.now c.args.slots.now.entries c.in-None.ensures.value
