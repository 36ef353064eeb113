use Rattle.std.proofs.Common.{codes, string_bytes}
use Rattle.std.proofs.lemmas.Result.{on_ok_weaker}
use Rattle.step_notes.specs.StepObjects.{payment_objects, warning_objects}
use Rattle.step_notes.proofs.PieceLemmas.{pushed, put_five}
use Rattle.step_notes.proofs.objects.put_done.Goals as goal

pub returns : goal.returns
returns c =
    on_ok_weaker c.push_str-3.result
    (λ h. put_five (string_bytes c.args.out.now) (codes "\"payments\":[") (payment_objects 0 c.args.payments.now) (codes "],\"warnings\":[") (warning_objects 0 c.args.warnings.now) (codes "],")
    (string_bytes c.push_str.new.self) (string_bytes c.put_payments.new.out) (string_bytes c.push_str-2.new.self) (string_bytes c.put_warnings.new.out) (string_bytes c.push_str-3.new.self)
    c.in_ok-push_str.ensures.bytes c.in_ok-put_payments.ensures c.in_ok-push_str-2.ensures.bytes c.in_ok-put_warnings.ensures h)
    (pushed c.push_str-3.result (string_bytes c.put_warnings.new.out) (string_bytes c.push_str-3.new.self) (codes "],") c.push_str-3.ensures.bytes)
