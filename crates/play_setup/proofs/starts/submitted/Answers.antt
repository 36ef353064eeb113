use Rattle.std.proofs.Common.{◌∙◌, ap, sym}
use Rattle.parties.specs.EutxoTypes.declared.output_ref.OutputRef.TheVariants.{Made}
use Rattle.parties.specs.Ledger.declared.call.Call.TheVariants as on
use Rattle.play_setup.proofs.SetUpLemmas.{accepted_is, is_judged, went_on_told}
use Rattle.play_setup.proofs.starts.submitted.Goals as goal

-- the start is accepted under its id
pub returns-in-Accepted : goal.returns-in-Accepted
returns-in-Accepted g c =
    let told = c.in_ok-told.ensures.told in
    let is = accepted_is _ c.args.tx c.in_ok-told.told.reply c.in-Accepted.id told.reply (sym c.reply.ensures ∙ c.in-Accepted.is) in
    (ap (λ id. Made id 0) is.0, went_on_told _ c.args.seat.now c.call.new.seat (on.Submit c.args.tx) c.in_ok-told.told _ told is.1)

-- a Submit is accepted or refused
pub unreachable-requires : goal.unreachable-requires
unreachable-requires g c = is_judged _ c.args.tx c.in_ok-told.told.reply c.in_ok-told.ensures.told.reply (λ x is. c.in_default.not-Accepted x (c.reply.ensures ∙ is)) (λ x is. c.in_default.not-Refused x (c.reply.ensures ∙ is))
