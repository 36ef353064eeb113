use Rattle.std.proofs.Common.{◌≡◌, ◌⊎◌, ◌∙◌, [], Some, ap, subst}
use Rattle.marlowe_play.specs.MarloweRefusals.declared.fault.Fault.TheVariants as fault
use Rattle.marlowe_run.specs.Run.{run_within}
use Rattle.serve.specs.RefusalReasons.Reasons.{Tells}
use Rattle.serve.specs.RefusalReasons.declared.source.Behind.TheVariants as behind
use Rattle.marlowe_commands.specs.Streams.{refuses, saying_of}
use Rattle.marlowe_commands.specs.Tasks.{refusal_by, run_said}
use Rattle.marlowe_commands.proofs.ShownLemmas.{shown_by, refused, run_refuses}
use Rattle.marlowe_commands.proofs.shown.run_explained.Goals as goal

pub returns-in_ok-said-in-Refused : goal.returns-in_ok-said-in-Refused
returns-in_ok-said-in-Refused c =
    let printed = run_within c.args.readable c.args.contract.text.now c.args.state.text.now c.args.transaction.text.now in
    let Why = Tells c.args.contract (Some c.args.state) c.args.readable (behind.One c.args.transaction) in
    let is = refused printed (Why c.spelling-spelling.result) c.in_ok-text.field-0 c.in-Refused.fault c.in-Refused.told c.in-Refused.is c.in_ok-text.ensures in
    let said = saying_of c.in_ok-said-in-Refused.said in
    let none = ap (λ text. refuses text (refusal_by (fault.Run c.in-Refused.fault))) c.new-in-Refused.ensures.items in
    shown_by c.args.face (λ s. s ≡ run_said c.args.big printed) Why said c.in-Refused.told.items c.shown-in-Refused.result
    (run_refuses c.args.big printed c.in-Refused.fault said is.0 (c.in_ok-said-in-Refused.ensures ∙ none))
    (subst (λ w. (c.in-Refused.told.items ≡ []) ⊎ Why w c.in-Refused.told.items) c.spelling-spelling.ensures is.1) c.shown-in-Refused.ensures
