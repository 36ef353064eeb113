-- WHO HOLDS WHAT of some outputs, summed by holder and token.
use Rattle.std.specs.Prelude.{◌≡◌, ℕ, ◌+◌, ℤ, pos, ◌<ℤ◌, Bool, false, if◌then◌else◌, List, [], ◌∷◌, map, Option, Some, None}
use Rattle.std.specs.FinMap.{entries}
use Rattle.std.specs.declared.cmp.Ordering.TheVariants.{Less}
use Rattle.eutxo.specs.Collections.Total.{total}
use Rattle.eutxo.specs.Names.declared.token.Token.{Token}
use Rattle.eutxo.specs.Names.Equal.{same_token}
use Rattle.eutxo.specs.EutxoTypes.declared.lock.Lock.{Lock}
use Rattle.eutxo.specs.EutxoTypes.declared.lock.Lock.TheVariants as locks
use Rattle.eutxo.specs.EutxoTypes.declared.output.Output.{Output}
use Rattle.eutxo.specs.EutxoTypes.declared.output_ref.OutputRef.{OutputRef}
use Rattle.eutxo.specs.EutxoTypes.Parts.{same_ref}
use Rattle.play_holdings.specs.declared.holder.Holder.{Holder}
use Rattle.play_holdings.specs.declared.holder.Holder.TheVariants.{Address, Payout, Thread, Elsewhere}
use Rattle.play_holdings.specs.declared.holding.Holding.{Holding}
use Rattle.play_holdings.specs.Holders.{holding_cmp}

-- ---- one by one

-- whether a thread ends at an output
abbrev pub ends_at : OutputRef → Option OutputRef → Bool
ends_at r None = false
ends_at r (Some q) = same_ref q r

-- the first thread that ends there, of these, whose places count from n
abbrev pub thread_from : ℕ → OutputRef → List (Option OutputRef) → Option ℕ
thread_from n r [] = None
thread_from n r (end ∷ ends) = if ends_at r end then Some n else thread_from (n + 1) r ends

abbrev pub thread_holder : Option ℕ → Holder
thread_holder None = Elsewhere
thread_holder (Some place) = Thread place

-- who holds an output: the address of a key; whoever shows the token of a payout's role; of a contract the first of the threads that end there
abbrev pub holder_under : List (Option OutputRef) → OutputRef → Lock → Holder
holder_under ends r (locks.Key address) = Address address
holder_under ends r (locks.Payout currency role) = Payout currency role
holder_under ends r (locks.Contract script digest) = thread_holder (thread_from 0 r ends)

abbrev pub holding_of : Holder → Token × ℤ → Holding
holding_of holder e = record { holder = holder; token = e.0; amount = e.1 }

-- what an output holds
abbrev pub held_in : List (Option OutputRef) → OutputRef × Output → List Holding
held_in ends e = map (holding_of (holder_under ends e.0 e.1.lock)) (entries e.1.amount)

-- ---- sums

-- how much these come to, of the holders and tokens that are asked for
abbrev pub come_to : (Holder → Token → Bool) → List Holding → ℤ
come_to asked hs = total (λ (h : Holding). if asked h.holder h.token then h.amount else pos 0) hs

-- one token is asked for, whoever holds it
abbrev pub of_token : Token → Holder → Token → Bool
of_token t holder token = same_token t token

-- it stands before each of these
abbrev pub IsBefore : Holding → List Holding → Type 0
IsBefore x [] = Unit {0}
IsBefore x (h ∷ hs) = (holding_cmp x h ≡ Less) × IsBefore x hs

-- each holder and token once, in order
abbrev pub Ascend : List Holding → Type 0
Ascend [] = Unit {0}
Ascend (h ∷ hs) = IsBefore h hs × Ascend hs

abbrev pub AllAbove : List Holding → Type 0
AllAbove [] = Unit {0}
AllAbove (h ∷ hs) = (pos 0 <ℤ h.amount) × AllAbove hs

-- SUMS: each holder and token once, in order, with an amount above 0; and whichever holders and tokens are asked for, they come to what they come to
-- one by one
pub record AreSums (singly hs : List Holding) : Type 0 where
  pub ascend : Ascend hs
  pub above : AllAbove hs
  pub same : (asked : Holder → Token → Bool) → come_to asked hs ≡ come_to asked singly
