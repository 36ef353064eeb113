use Rattle.std.proofs.Common.{string_bytes}
use Rattle.text_spots.proofs.ShownLemmas.{one_char}
use Rattle.text_spots.proofs.shown.put_char.Goals as goal

pub returns : goal.returns
returns c = one_char c.args.c (string_bytes c.args.out.now) (string_bytes c.push.new.self) c.in_ok-push.ensures.bytes
