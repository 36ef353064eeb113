use Rattle.std.proofs.Common.{◌≡◌, ℤ, ◌∙◌, ap, to_z, of_z, w64, arith}
use Rattle.std.proofs.lemmas.Int.{ints}
use Rattle.std.proofs.lemmas.Result.{IfOk-weaker}
use Rattle.ledger_kept.specs.LedgerSpec.Replay.{world}
use Rattle.ledger_views.specs.ViewsSupport.{look_in}
use Rattle.ledger_views.proofs.LookLemmas.{same_look}
use Rattle.ledger_views.proofs.views.show.Goals as goal

pub returns : goal.returns
returns c =
    let w = world c.args.kept.now in
    let present = c.args.index.now.present in
    let tick : to_z w64 (of_z w64 c.tick.result) ≡ c.tick.result = omega (arith, ints) in
    IfOk-weaker c.look_at.result _ _
    (λ x is. is ∙ ap (λ (t : ℤ). look_in present t c.args.ask.now) (tick ∙ c.tick.ensures) ∙ same_look c.index_follows_threads.ensures.ends c.index_tells_data.ensures present w c.requires.tied c.args.ask.now)
    c.look_at.ensures
