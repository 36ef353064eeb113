use Rattle.std.proofs.Common.{◌≡◌, Some, inl}
use Rattle.marlowe_run.specs.Run.{run_within}
use Rattle.serve.specs.RefusalReasons.Reasons.{Tells}
use Rattle.serve.specs.RefusalReasons.declared.source.Behind.TheVariants as behind
use Rattle.marlowe_commands.specs.Streams.{saying_of}
use Rattle.marlowe_commands.specs.Tasks.{run_said}
use Rattle.marlowe_commands.proofs.ShownLemmas.{shown_by}
use Rattle.marlowe_commands.proofs.shown.run_plain.Goals as goal

pub returns : goal.returns
returns c =
    shown_by c.args.face
    (λ said. said ≡ run_said c.args.big (run_within c.args.readable c.args.contract.text.now c.args.state.text.now c.args.transaction.text.now))
    (Tells c.args.contract (Some c.args.state) c.args.readable (behind.One c.args.transaction)) (saying_of c.in_ok-said.said)
    c.new.result.items c.shown.result c.in_ok-said.ensures (inl c.new.ensures.items) c.shown.ensures
