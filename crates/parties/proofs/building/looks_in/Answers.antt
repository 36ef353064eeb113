use Rattle.std.proofs.Common.{rules, ◌≡◌, ◌∙◌, ℕ, get_or}
use Rattle.hub.specs.Seats.{ReceiptRecord}
use Rattle.parties.proofs.PlaysLemmas.{is_a_look}
use Rattle.parties.proofs.building.looks_in.Goals as goal

-- the reply is a look
pub unreachable-requires : goal.unreachable-requires
unreachable-requires g c =
    let r : ReceiptRecord = c.receipt-item.result in
    let i : ℕ = c.loop-receipt.receipt-index in
    let item : get_or c.args.shown.now i r ≡ r = search rules in
    let shown = is_a_look c.args.shown.now c.requires.0 i r c.requires.1 c.loop-receipt-test.true item in
    c.in_default.not-Look shown.0 (c.reply.ensures ∙ shown.1)
