-- What the rule on sums tells of every token.
use Rattle.std.proofs.Common.{◌≡◌, ℤ, pos, ◌+ℤ◌, neg_ℤ, Option, Some, None, refl, subst, arith}
use Rattle.std.proofs.lemmas.Int.{ints}
use Rattle.std.specs.Option.{option_map}
use Rattle.contract.specs.Names.declared.token.Token.{Token}
use Rattle.eutxo_types.specs.Bundle.Totals.{total_of}
use Rattle.eutxo_types.specs.declared.fault.TxFault.TheVariants.{NotPreserved}
use Rattle.eutxo_types.specs.declared.output.Output.{Output}
use Rattle.eutxo_types.specs.declared.spend.Spend.{Spend}
use Rattle.eutxo.specs.Laws.{SumsAreTheSame, TheLeastIsNamed}
use Rattle.eutxo.proofs.ChangesLemmas.{IsLeastOf}
use Rattle.eutxo.proofs.DifferingLemmas.{first_is_least, none_differs}

none_named : (o : Option Token) → option_map NotPreserved o ≡ None → o ≡ None
none_named None h = refl
none_named (Some t) h = cc

named : (o : Option Token) (t : Token) → option_map NotPreserved o ≡ Some (NotPreserved t) → o ≡ Some t
named None t h = cc
named (Some u) t h = cc

pub same_totals : SumsAreTheSame
same_totals spent made h t = none_differs (λ (x : Spend × Output). x.1.amount) (λ (o : Output). o.amount) spent made (none_named _ h) t

balance : (a b : ℤ) → a ≡ b → a +ℤ neg_ℤ b ≡ pos 0
balance a b h = omega (arith, ints)

balanced : (a b : ℤ) → a +ℤ neg_ℤ b ≡ pos 0 → a ≡ b
balanced a b h = omega (arith, ints)

pub the_least_is_named : TheLeastIsNamed
the_least_is_named spent made t h =
    let ins = λ (u : Token). total_of (λ (x : Spend × Output). x.1.amount) u spent in
    let outs = λ (u : Token). total_of (λ (o : Output). o.amount) u made in
    let least = subst (IsLeastOf (λ u. ins u +ℤ neg_ℤ (outs u))) (named _ t h) (first_is_least (λ (x : Spend × Output). x.1.amount) (λ (o : Output). o.amount) spent made) in
    (λ e. least.0 (balance (ins t) (outs t) e), λ u l. balanced (ins u) (outs u) (least.1 u l))
