use Rattle.std.proofs.Common.{◌≡◌, IfOk, subst}
use Rattle.builder_spec.specs.EutxoTypes.declared.tx.Tx.{Tx}
use Rattle.builder.proofs.FinishedLemmas.{finished_room, finished_covers, finished_layout}
use Rattle.builder.proofs.steps.finish.Goals as goal

pub blocks_of-requires : goal.blocks_of-requires
blocks_of-requires c =
    finished_room c.money_is_kept.ensures c.transactions_end_quiet.ensures c.payments_are_natural.ensures c.args.asked.now c.args.steps.now c.args.funds _ c.args.outcomes.items c.requires
    c.see_threads.ensures c.funds.view_is c.see_room.ensures

pub lay_out_steps-requires : goal.lay_out_steps-requires
lay_out_steps-requires c =
    finished_covers c.money_is_kept.ensures c.transactions_end_quiet.ensures c.payments_are_natural.ensures c.args.asked.now c.args.steps.now c.args.funds c.args.outcomes.items c.in-Ok.outputs c.requires
    c.see_threads.ensures c.in-Ok.ensures.outputs

pub returns-in-Ok-clause-ok : goal.returns-in-Ok-clause-ok
returns-in-Ok-clause-ok c =
    subst (λ (t : Tx). IfOk c.lay_out_steps.result (λ tx. tx ≡ t))
    (finished_layout c.args.asked.now c.args.steps.now c.args.funds c.args.outcomes.items c.in-Ok.outputs c.in-Ok.datums c.requires c.in-Ok.ensures.outputs c.in-Ok.ensures.datums)
    c.lay_out_steps.ensures.ok
