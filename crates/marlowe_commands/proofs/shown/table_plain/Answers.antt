use Rattle.std.proofs.Common.{◌≡◌, inl}
use Rattle.marlowe_run.specs.TableText.{table_text_within}
use Rattle.serve.specs.RefusalReasons.Reasons.{TellsOfTable}
use Rattle.marlowe_commands.specs.Streams.{saying_of}
use Rattle.marlowe_commands.specs.Tasks.{table_said}
use Rattle.marlowe_commands.proofs.ShownLemmas.{shown_by}
use Rattle.marlowe_commands.proofs.shown.table_plain.Goals as goal

pub returns : goal.returns
returns c =
    shown_by c.args.face (λ said. said ≡ table_said c.args.face (table_text_within c.args.depth c.args.contract.text.now))
    (TellsOfTable c.args.contract c.args.depth) (saying_of c.in_ok-said.said) c.new.result.items c.shown.result c.in_ok-said.ensures (inl c.new.ensures.items)
    c.shown.ensures
