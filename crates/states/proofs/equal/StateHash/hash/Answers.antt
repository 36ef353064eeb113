use Rattle.std.proofs.Common.{◌∙◌, ap}
use mir.Syntax.{w64}
use Rattle.std.proofs.Math.Facts.{to_z-of_z}
use Rattle.std.specs.Hash as fed
use Rattle.std.specs.FinMap.{entries}
use Rattle.std.specs.List.{fold}
use Rattle.states.specs.Hashing.{account_fed, choice_fed, bound_fed}
use Rattle.states.proofs.Fed.{fed_together}
use Rattle.states.proofs.equal.StateHash.hash.Goals as goal

pub returns : goal.returns
returns g c = fed_together g.H.Hasher.write c.args.state.now c.hash.new.state c.hash-2.new.state c.hash-3.new.state c.hash-4.new.state (fed.slice account_fed (entries c.args.self.now.accounts)) (fed.slice choice_fed (entries c.args.self.now.choices)) (fed.slice bound_fed (entries c.args.self.now.bound_values)) (fed.i64 c.args.self.now.min_time)
    (c.hash.ensures ∙ ap (λ xs. fold g.H.Hasher.write c.args.state.now (fed.slice account_fed xs)) c.accounts.ensures.all)
    (c.hash-2.ensures ∙ ap (λ xs. fold g.H.Hasher.write c.hash.new.state (fed.slice choice_fed xs)) c.choices.ensures)
    (c.hash-3.ensures ∙ ap (λ xs. fold g.H.Hasher.write c.hash-2.new.state (fed.slice bound_fed xs)) c.bound_values.ensures)
    (c.hash-4.ensures ∙ ap (λ n. fold g.H.Hasher.write c.hash-3.new.state (fed.i64 n)) (to_z-of_z {w = w64} (record { sfits = c.min_time.type_inv }) ∙ c.min_time.ensures))
