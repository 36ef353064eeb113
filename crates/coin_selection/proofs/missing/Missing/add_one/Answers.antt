use Rattle.std.proofs.Common.{◌≡◌, pos, false, if◌then◌else◌, Some, sym, ◌∙◌, ap}
use Rattle.std.specs.Ordering.{eq_by_cmp}
use Rattle.std.specs.FinMap.{get}
use Rattle.contract.specs.Names.Orders.{token_cmp}
use Rattle.std.specs.Prelude.{is_some}
use Rattle.coin_selection.proofs.MissingLemmas.{known, kept, on_ok}
use Rattle.coin_selection.proofs.missing.Missing.add_one.Goals as goal

pub returns-then-contains_key-clause-one : goal.returns-then-contains_key-clause-one
returns-then-contains_key-clause-one c t =
    kept c.args.self.now c.args.token t (ap is_some (known c.self.inside.left.entries c.args.self.now c.self.view_is c.args.token) ∙ sym c.contains_key.ensures ∙ c.if-contains_key.true)

pub returns-clause-one : goal.returns-clause-one
returns-clause-one c =
    let n : is_some (get c.args.self.now c.args.token) ≡ false = ap is_some (known c.self.inside.left.entries c.args.self.now c.self.view_is c.args.token) ∙ sym c.contains_key.ensures ∙ c.if-contains_key.false in
    on_ok c.put.result
    (λ h t. h t ∙ ap (λ b. if eq_by_cmp token_cmp c.args.token t then (if b then get c.args.self.now c.args.token else Some (pos 1)) else get c.args.self.now t) (sym n))
    c.put.ensures.so_much
