use Rattle.next_lines.specs.Lines.{payment_line}
use Rattle.places.proofs.PieceLaws.{piece_more}
use Rattle.next_lines.proofs.lines.put_payments.Goals as goal

pub loop-payment-preserved : goal.loop-payment-preserved
loop-payment-preserved c =
    piece_more payment_line c.args.payments.now c.loop-payment.payment-index c.payment-item.result c.args.out.now.items c.loop-payment.out.items c.put_payment.new.out.items c.loop-payment-test.true c.payment-item.is c.loop-payment.invariant c.in_ok-put_payment.ensures
