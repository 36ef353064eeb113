use Rattle.std.proofs.Common.{ℤ, IsSome, sym, ◌∙◌, ap, subst}
use Rattle.std.proofs.Math.Facts.{to_z-of_z}
use Rattle.std.proofs.lemmas.Result.{on_ok_weaker}
use Rattle.std.specs.FinMap.{FinMap, put, get, insert, from_sorted, get-from_sorted}
use Rattle.names.specs.Orders.{choice_id_cmp}
use Rattle.names.specs.Totals.{choice_id_total}
use Rattle.states.specs.States.{StateMaps}
use Rattle.names.proofs.FromCollections.Maps.{put_is_insert}
use Rattle.states.proofs.state.State.set_choice.Goals as goal

pub returns-clause-ok : goal.returns-clause-ok
returns-clause-ok c = on_ok_weaker c.set.result (λ e.
    ap (λ (m : FinMap choice_id_cmp ℤ). record { accounts = from_sorted c.self.inside.accounts; choices = m; bound_values = from_sorted c.self.inside.bound_values; min_time = c.self.inside.min_time })
    (ap (from_sorted {R = choice_id_cmp}) (e ∙ ap (λ v. put choice_id_cmp c.args.id.now v c.self.inside.choices) (to_z-of_z c.ranges.number)) ∙ put_is_insert choice_id_cmp choice_id_total c.self.inside.choices c.set.ensures.sorted c.args.id.now c.args.number)
    ∙ ap (λ (s : StateMaps). record s { choices = insert s.choices c.args.id.now c.args.number }) c.self.view_is) c.set.ensures.ok

pub returns-clause-known : goal.returns-clause-known
returns-clause-known c h = c.set.ensures.known (subst IsSome (ap (λ s. get s.choices c.args.id.now) (sym c.self.view_is) ∙ get-from_sorted choice_id_cmp _ c.args.id.now c.set.ensures.sorted) h)
