use Rattle.std.proofs.Common.{[], arith, rules}
use Rattle.eutxo.specs.Checks.{check_of}
use Rattle.parallel_check.proofs.JobsLemmas.{answers_are_gathered, if_ok_then}
use Rattle.parallel_check.proofs.workers.check_all.Goals as goal

pub returns : goal.returns
returns g c =
    if_ok_then c.gather.result _ _ c.gather.ensures
    (λ all gathered.
    answers_are_gathered (λ job. check_of g.V.Validator.judges job.0 job.1) c.min.result c.len-count.result c.args.jobs.items
    c.in_ok-batches.batches.items c.in_ok-answers.answers.items c.in_ok-checks.checks.items all.items c.in_ok-batches.ensures
    (omega (arith, c.in_ok-answers.ensures.len, c.in_ok-answers.answers.ok.0, c.in_ok-batches.batches.ok.0))
    (λ w d within. let gives = (c.in_ok-answers.ensures.each w d within).1 in rw (gives.job_is []) (search (rules, gives.call.met)))
    c.in_ok-checks.ensures (omega (arith, c.len-count.ensures, c.args.jobs.ok.0)) gathered)
