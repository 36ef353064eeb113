use Rattle.std.proofs.Common.{◌≡◌, ℤ, SFits, [], ◌∷◌, sym, subst, rules}
use Rattle.std.proofs.lemmas.Int.{to_z-of_z}
use Rattle.std.specs.Int.{w128}
use Rattle.contract.specs.declared.input.Input.TheVariants.{Deposit}
use Rattle.next_lines.specs.Applicable.{deposits}
use Rattle.marlowe_next.specs.AnswerSupport.{TellsCase}
use Rattle.marlowe_next.proofs.CasesLemmas.{deposit_told, notify_told}
use Rattle.marlowe_next.proofs.cases.told_case.Goals as goal

pub returns-in_ok-refused-in-Deposit-Deposit : goal.returns-in_ok-refused-in-Deposit-Deposit
returns-in_ok-refused-in-Deposit-Deposit g c =
    let S = g.S.Parts in
    let o = c.args.parts.now in
    let h = c.in-Deposit-Deposit in
    let own : c.in_ok-input-in-Deposit-Deposit.input ≡ Deposit h.account.now h.party.now h.token.now h.amount = search rules in
    let t = deposit_told c.args.interval c.args.state.now (S.tree o c.args.place) c.args.index c.args.offer.now h.account.now h.party.now h.token.now (S.value_tree o h.field-3-0) (S.tree o c.case-case.result.then) h.amount
    c.in_ok-input-in-Deposit-Deposit.input c.in_ok-refused-in-Deposit-Deposit.refused c.requires.takes (rw h.is-0 at c.case-case.ensures.tree) h.is-1 own c.in_ok-refused-in-Deposit-Deposit.ensures in
    let fits : SFits w128 h.amount = search rules in
    subst (λ (m : ℤ). TellsCase c.args.interval c.args.state.now (S.tree o c.args.place) c.args.index c.args.offer.now (deposits c.args.index h.account.now h.party.now h.token.now m c.in_ok-refused-in-Deposit-Deposit.refused ∷ []))
    (sym (to_z-of_z w128 h.amount fits)) t

pub returns-in_ok-refused-in-Notify-Notify : goal.returns-in_ok-refused-in-Notify-Notify
returns-in_ok-refused-in-Notify-Notify g c =
    let S = g.S.Parts in
    let o = c.args.parts.now in
    let h = c.in-Notify-Notify in
    notify_told c.args.interval c.args.state.now (S.tree o c.args.place) c.args.index c.args.offer.now (S.observation_tree o h.field-0-0) (S.tree o c.case-case.result.then) c.in_ok-refused-in-Notify-Notify.refused c.requires.takes
    (rw h.is-0 at c.case-case.ensures.tree) h.is-1 c.in_ok-refused-in-Notify-Notify.ensures
