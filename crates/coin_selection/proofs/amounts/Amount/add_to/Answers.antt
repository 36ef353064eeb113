use Rattle.std.proofs.Common.{ℤ, OnOk, subst, arith}
use Rattle.std.proofs.lemmas.Int.{ints}
use Rattle.contract.specs.Names.declared.token.Token.{Token}
use Rattle.coin_selection.specs.MissingSupport.{Adds}
use Rattle.coin_selection.proofs.amounts.Amount.add_to.Goals as goal

pub returns-clause-added : goal.returns-clause-added
returns-clause-added c =
    let added = λ (n : ℤ). OnOk c.add.result (Adds c.args.missing.now c.add.new.self c.self.inside.token.now n) in
    subst (λ (a : Token × ℤ). OnOk c.add.result (Adds c.args.missing.now c.add.new.self a.0 a.1)) c.self.view_is (subst added (omega (arith, ints)) c.add.ensures.adds)
