-- What code tells, as the definitions have it.
use Rattle.std.specs.Prelude.{ℕ, ◌^◌, ℤ, pos, ◌<ℤ◌, List, map}
use Rattle.places.specs.declared.key.Key.{Key}
use Rattle.contract.specs.Names.declared.party.Party.{Party}
use Rattle.contract.specs.Names.declared.token.Token.{Token}
use Rattle.next_lines.specs.declared.told.Deposit.{Deposit}
use Rattle.next_lines.specs.declared.told.CaseTold.{CaseTold}
use Rattle.next_lines.specs.declared.told.CaseTold.TheVariants as code
use Rattle.next_lines.specs.declared.told.ToldHere.{ToldHere}
use Rattle.next_lines.specs.declared.told.ToldWarning.{ToldWarning}
use Rattle.next_lines.specs.Applicable.{Applicable, deposits, chooses, notifies, deposit_leaves, notify_leaves}
use Rattle.next_lines.specs.Told.{Told}

-- what is made of a deposit: of its account, its party, its token and its amount
abbrev pub seen_deposit : {X : Type 0} → (Party → Party → Token → ℤ → X) → Deposit → X
seen_deposit f d = f d.account.now d.party.now d.token.now d.amount

abbrev pub seen_case : CaseTold → Applicable
seen_case (code.Deposit n d refused) = seen_deposit (λ a p t m. deposits n a p t m refused) d
seen_case (code.Choice n id bounds) = chooses n id.now bounds.now
seen_case (code.Notify n refused) = notifies n refused
seen_case (code.DepositLeaves n a p t) = deposit_leaves n a.now p.now t.now
seen_case (code.NotifyLeaves n) = notify_leaves n

abbrev pub seen_cases : List CaseTold → List Applicable
seen_cases = map seen_case

abbrev pub seen_warning : ToldWarning → List Key × List ℕ
seen_warning w = (w.place.items, w.name.now)

abbrev pub seen : ToldHere → Told
seen t = record { path = t.path.now; inputs = seen_cases t.cases.now; more = t.more; until = t.until; can_reduce = t.can_reduce; payments = t.payments.now; warned = map seen_warning t.warned.now }

-- a moment before the last of 64 bits
abbrev pub IsMoment : ℤ → Type 0
IsMoment n = n <ℤ pos (2 ^ 63)
