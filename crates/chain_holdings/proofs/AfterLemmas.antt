-- What stands unspent after a history, summed.
use Rattle.std.proofs.Common.{◌≡◌, ℤ, ◌≤ℤ◌, List, map, Option, sym, ◌∙◌, ap, subst}
use Rattle.std.specs.List.{flat_map}
use Rattle.contract.specs.Names.declared.token.Token.{Token}
use Rattle.ledger_kept.specs.Bundle.Totals.{total_of}
use Rattle.ledger_kept.specs.EutxoTypes.declared.output.Output.{Output}
use Rattle.ledger_kept.specs.EutxoTypes.declared.output_ref.OutputRef.{OutputRef}
use Rattle.ledger_kept.specs.Ledger.declared.call.Entry.{Entry}
use Rattle.ledger_kept.specs.LedgerLaws.Laws.{IsPreserved}
use Rattle.ledger_kept.specs.LedgerLaws.Past.{unspent}
use Rattle.ledger_kept.specs.LedgerSpec.Genesis.{most, SumsFit}
use Rattle.ledger_kept.specs.LedgerSpec.Replay.{Course, world, past_of}
use Rattle.play_holdings.specs.declared.holding.Holding.{Holding}
use Rattle.play_holdings.specs.Holdings.{held_in, AreSums, come_to, of_token}
use Rattle.chain_holdings.specs.After.{course, shown_at, AreHoldings, AreWhatThereWas}

abbrev Rows : Type 0
Rows = List (OutputRef × Output)

abbrev held : Token → Rows → ℤ
held t es = total_of (λ (e : OutputRef × Output). e.1.amount) t es

-- a history is its parts
pub same_course : (c : Course) (first : List Output) (tick : ℤ) (entries : List Entry) → first ≡ c.genesis → tick ≡ c.first_tick → entries ≡ c.entries → c ≡ course first tick entries
same_course c first tick entries g t e = λ i. course (sym g i) (sym t i) (sym e i)

pub holdings_fit : (c : Course) (lent : Rows) → lent ≡ unspent (past_of (world c)) → IsPreserved (past_of (world c)) → SumsFit c.genesis → (t : Token) → held t lent ≤ℤ most
holdings_fit c lent are kept fit t = subst (λ n. n ≤ℤ most) (sym (ap (held t) are ∙ kept t)) (fit t)

pub are_holdings : (c d : Course) (starts : List OutputRef) (ends : List (Option OutputRef)) (lent : Rows) (hs : List Holding) → d ≡ c → ends ≡ map (shown_at (world d)) starts → lent ≡ unspent (past_of (world c)) →
    AreSums (flat_map (held_in ends) lent) hs → AreHoldings c starts hs
are_holdings c d starts ends lent hs same at are sums =
    let shown : ends ≡ map (shown_at (world c)) starts = at ∙ ap (λ (k : Course). map (shown_at (world k)) starts) same in
    subst (λ (l : Rows). AreSums (flat_map (held_in (map (shown_at (world c)) starts)) l) hs) are (subst (λ (es : List (Option OutputRef)). AreSums (flat_map (held_in es) lent) hs) shown sums)

pub are_what_there_was : (c : Course) (lent : Rows) (hs : List Holding) → lent ≡ unspent (past_of (world c)) → IsPreserved (past_of (world c)) → ((t : Token) → come_to (of_token t) hs ≡ held t lent) → AreWhatThereWas c hs
are_what_there_was c lent hs are kept told t = told t ∙ ap (held t) are ∙ kept t
