use Rattle.std.proofs.Common.{◌≡◌, sym, ◌∙◌, ap, subst, pos, ◌≤ℤ◌}
use mir.Syntax.{w128}
use Rattle.std.proofs.Math.Facts.{to_z-of_z}
use Rattle.std.specs.Option.{unwrap_or}
use Rattle.std.specs.FinMap.{get, get-from_sorted}
use Rattle.names.specs.declared.account.Account.{Account}
use Rattle.names.specs.Orders.{account_cmp}
use Rattle.states.specs.States.{StateMaps}
use Rattle.names.proofs.FromCollections.Positive.{AllPositive-find}
use Rattle.states.proofs.state.State.money.Goals as goal

pub returns : goal.returns
returns c =
    let key : Account = record { owner = c.args.owner.now; token = c.args.token.now } in
    let found : c.get.result ≡ get c.args.self.now.accounts key = c.get.ensures.value ∙ sym (get-from_sorted account_cmp c.self.inside.accounts key c.get.ensures.sorted) ∙ ap (λ (s : StateMaps). get s.accounts key) c.self.view_is in
    let is = to_z-of_z {w = w128} (record { sfits = c.unwrap_or.type_inv }) ∙ c.unwrap_or.ensures in
    record {
      held = is ∙ ap (λ o. unwrap_or o (pos 0)) found;
      positive = subst (λ n. pos 0 ≤ℤ n) (sym (is ∙ ap (λ o. unwrap_or o (pos 0)) c.get.ensures.value)) (AllPositive-find account_cmp key c.self.inside.accounts c.self.invariant);
    }
