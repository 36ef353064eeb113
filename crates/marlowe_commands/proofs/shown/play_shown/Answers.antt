use Rattle.std.proofs.Common.{map}
use Rattle.marlowe_play.specs.JsonReadNames.ReadsText.{of_text_within}
use Rattle.marlowe_play.specs.JsonReadScenarios.ReadsScenario as reads
use Rattle.marlowe_play.specs.Played.{wanted}
use Rattle.serve.specs.RefusalReasons.Reasons.{TellsScenario}
use Rattle.marlowe_commands.specs.Streams.{saying_of}
use Rattle.marlowe_commands.specs.Tasks.{SaysPlay}
use Rattle.marlowe_commands.proofs.ShownLemmas.{shown_by}
use Rattle.marlowe_commands.proofs.shown.play_shown.Goals as goal

pub returns : goal.returns
returns g c =
    shown_by c.args.face
    (SaysPlay c.args.big (of_text_within c.args.asked.depth reads.scenario c.args.scenario.text.now)
    (wanted c.args.asked.face c.args.asked.strict (map (λ s. s.now) c.args.asked.kept_open.now)))
    (λ spelling. TellsScenario c.args.asked.depth spelling c.args.scenario) (saying_of c.in_ok-said.said) c.scenario_if-told.result.items
    c.shown.result c.in_ok-said.ensures c.scenario_if-told.ensures c.shown.ensures
