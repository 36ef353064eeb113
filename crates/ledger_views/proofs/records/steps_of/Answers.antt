use Rattle.std.proofs.Common.{List, sym, ◌∙◌, subst}
use Rattle.std.proofs.lemmas.Result.{IfOk-weaker}
use Rattle.ledger_kept.specs.LedgerSpec.Replay.{world, past_of, published_at}
use Rattle.ledger_kept.specs.LedgerSpec.declared.step_record.StepRecord.{StepRecord}
use Rattle.ledger_kept.specs.LedgerSpec.Records.{AreSteps}
use Rattle.ledger_views.proofs.StartLemmas.{start_so, of_start, of_none}
use Rattle.ledger_views.proofs.records.steps_of.Goals as goal

pub steps_from-requires-clause-start : goal.steps_from-requires-clause-start
steps_from-requires-clause-start c =
    start_so c.names_are_single.ensures c.index_follows_threads.ensures.starts c.args.index.now.present (world c.args.kept.now) c.requires.tied c.args.start.now c.in-Some.found
    (sym c.start_at.ensures ∙ c.in-Some.is)

pub returns-in-Some : goal.returns-in-Some
returns-in-Some c =
    IfOk-weaker c.steps_from.result _ _
    (λ xs told.
    of_start c.names_are_single.ensures c.index_follows_threads.ensures.starts c.args.index.now.present (world c.args.kept.now) c.requires.tied c.args.start.now c.in-Some.found xs
    (sym c.start_at.ensures ∙ c.in-Some.is) told)
    c.steps_from.ensures

pub returns-in-None : goal.returns-in-None
returns-in-None c =
    let w = world c.args.kept.now in
    subst (λ (xs : List StepRecord). AreSteps (published_at w.published) (past_of w) c.args.start.now xs) (sym c.new.ensures)
    (of_none c.names_are_single.ensures c.index_follows_threads.ensures.starts c.args.index.now.present w c.requires.tied c.args.start.now (sym c.start_at.ensures ∙ c.in-None.is))
