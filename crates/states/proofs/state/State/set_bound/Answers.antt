use Rattle.std.proofs.Common.{ℤ, IsSome, sym, ◌∙◌, ap, subst}
use Rattle.std.proofs.Math.Facts.{to_z-of_z}
use Rattle.std.proofs.lemmas.Result.{on_ok_weaker}
use Rattle.std.specs.FinMap.{FinMap, put, get, insert, from_sorted, get-from_sorted}
use Rattle.names.specs.Orders.{bytes_cmp}
use Rattle.names.specs.Totals.{bytes_total}
use Rattle.states.specs.States.{StateMaps}
use Rattle.names.proofs.FromCollections.Maps.{put_is_insert}
use Rattle.states.proofs.state.State.set_bound.Goals as goal

pub returns-clause-ok : goal.returns-clause-ok
returns-clause-ok c = on_ok_weaker c.set.result (λ e.
    ap (λ (m : FinMap bytes_cmp ℤ). record { accounts = from_sorted c.self.inside.accounts; choices = from_sorted c.self.inside.choices; bound_values = m; min_time = c.self.inside.min_time })
    (ap (from_sorted {R = bytes_cmp}) (e ∙ ap (λ v. put bytes_cmp c.args.name.now v c.self.inside.bound_values) (to_z-of_z c.ranges.value)) ∙ put_is_insert bytes_cmp bytes_total c.self.inside.bound_values c.set.ensures.sorted c.args.name.now c.args.value)
    ∙ ap (λ (s : StateMaps). record s { bound_values = insert s.bound_values c.args.name.now c.args.value }) c.self.view_is) c.set.ensures.ok

pub returns-clause-known : goal.returns-clause-known
returns-clause-known c h = c.set.ensures.known (subst IsSome (ap (λ s. get s.bound_values c.args.name.now) (sym c.self.view_is) ∙ get-from_sorted bytes_cmp _ c.args.name.now c.set.ensures.sorted) h)
