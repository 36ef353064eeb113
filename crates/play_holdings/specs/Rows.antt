-- Worked rows, computed on the definitions.
use Rattle.std.specs.Prelude.{◌≡◌, ◌++◌, ℤ, pos, List, [], ◌∷◌, Option, Some, None, codes}
use Rattle.std.specs.declared.cmp.Ordering.TheVariants.{Less, Equal, Greater}
use Rattle.eutxo.specs.Names.declared.token.Token.{Token}
use Rattle.eutxo.specs.Names.Equal.{ada}
use Rattle.eutxo.specs.EutxoTypes.declared.lock.Lock.TheVariants as locks
use Rattle.eutxo.specs.EutxoTypes.declared.output_ref.OutputRef.{OutputRef}
use Rattle.eutxo.specs.EutxoTypes.declared.output_ref.OutputRef.TheVariants as references
use Rattle.plans.specs.declared.scenario.NamedThread.{NamedThread}
use Rattle.play_holdings.specs.declared.holder.Holder.{Holder}
use Rattle.play_holdings.specs.declared.holder.Holder.TheVariants.{Address, Payout, Thread, Elsewhere}
use Rattle.play_holdings.specs.declared.holding.Holding.{Holding}
use Rattle.play_holdings.specs.Holders.{holder_cmp, holding_cmp}
use Rattle.play_holdings.specs.Holdings.{holder_under, AreSums}
use Rattle.play_holdings.specs.HoldingLines.{holding_lines}

abbrev pub gold : Token
gold = record { symbol = 0xaa ∷ []; name = codes "gold" }

abbrev pub held : Holder → Token → ℤ → Holding
held holder token amount = record { holder = holder; token = token; amount = amount }

-- ---- the order

-- an address stands before a payout, a payout before a thread, and a thread before what is elsewhere
abbrev pub KindsStandInOrder : Type 0
KindsStandInOrder =
    (holder_cmp (Address (codes "zoe")) (Payout [] (codes "a")) ≡ Less)
    × (holder_cmp (Payout (0xff ∷ []) (codes "z")) (Thread 0) ≡ Less)
    × (holder_cmp (Thread 9) Elsewhere ≡ Less)

-- addresses stand by their bytes, payouts by currency before role, threads by their places, and what is of one holder by token
abbrev pub EachKindStandsInOrder : Type 0
EachKindStandsInOrder =
    (holder_cmp (Address (codes "ann")) (Address (codes "anna")) ≡ Less)
    × (holder_cmp (Payout (0xaa ∷ []) (codes "z")) (Payout (0xab ∷ []) (codes "a")) ≡ Less)
    × (holder_cmp (Payout (0xaa ∷ []) (codes "z")) (Payout (0xaa ∷ []) (codes "a")) ≡ Greater)
    × (holder_cmp (Thread 10) (Thread 9) ≡ Greater)
    × (holding_cmp (held (Address (codes "ann")) ada (pos 7)) (held (Address (codes "ann")) gold (pos 1)) ≡ Less)
    × (holding_cmp (held (Thread 0) gold (pos 7)) (held (Thread 0) gold (pos 1)) ≡ Equal)

-- ---- who holds an output

-- the first thread is closed, and the second and the third end at the third output
abbrev pub three_ends : List (Option OutputRef)
three_ends = None ∷ Some (references.Genesis 2) ∷ Some (references.Genesis 2) ∷ []

abbrev pub LocksTellHolders : Type 0
LocksTellHolders =
    (digest : List _) →
    (holder_under three_ends (references.Genesis 2) (locks.Key (codes "ann")) ≡ Address (codes "ann"))
    × (holder_under three_ends (references.Genesis 2) (locks.Payout (0xaa ∷ []) (codes "b")) ≡ Payout (0xaa ∷ []) (codes "b"))
    × (holder_under three_ends (references.Genesis 2) (locks.Contract digest digest) ≡ Thread 1)
    × (holder_under three_ends (references.Genesis 3) (locks.Contract digest digest) ≡ Elsewhere)

-- ---- sums

-- ann's two outputs are one line, and her gold is another; the bank's stands behind them, and the payout to b last
abbrev pub OutputsAreSummed : Type 0
OutputsAreSummed =
    AreSums
    (held (Payout (0xaa ∷ []) (codes "b")) ada (pos 50) ∷ held (Address (codes "ann")) ada (pos 30) ∷ held (Address (codes "ann")) gold (pos 1)
    ∷ held (Address (codes "bank")) ada (pos 10) ∷ held (Address (codes "ann")) ada (pos 45) ∷ [])
    (held (Address (codes "ann")) ada (pos 75) ∷ held (Address (codes "ann")) gold (pos 1) ∷ held (Address (codes "bank")) ada (pos 10)
    ∷ held (Payout (0xaa ∷ []) (codes "b")) ada (pos 50) ∷ [])

-- ---- lines

-- names are JSON texts, and a thread has that of its place
abbrev pub HoldingsArePrinted : Type 0
HoldingsArePrinted =
    (first second : NamedThread) → second.name ≡ codes "the deal" →
    holding_lines (first ∷ second ∷ [])
    (held (Address (codes "ann")) ada (pos 75) ∷ held (Address (codes "an \"n")) gold (pos 1) ∷ held (Payout (0xaa ∷ []) (codes "b")) ada (pos 50)
    ∷ held (Thread 1) ada (pos 7) ∷ held Elsewhere gold (pos 9) ∷ [])
    ≡ codes "holds \"ann\" ADA 75\nholds \"an \\\"n\" {\"currency_symbol\":\"aa\",\"token_name\":\"gold\"} 1\nunclaimed \"aa\" \"b\" ADA 50\nin thread \"the deal\" ADA 7\nin no thread {\"currency_symbol\":\"aa\",\"token_name\":\"gold\"} 9\n"
