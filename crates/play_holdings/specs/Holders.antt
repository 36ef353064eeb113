-- The order in which holders are told.
use Rattle.std.specs.Prelude.{ℕ, List, []}
use Rattle.std.specs.declared.cmp.Ordering.{Ordering}
use Rattle.std.specs.Ordering.{nat_cmp, on, then_cmp}
use Rattle.eutxo.specs.Names.Orders.{bytes_cmp, token_cmp}
use Rattle.play_holdings.specs.declared.holder.Holder.{Holder}
use Rattle.play_holdings.specs.declared.holder.Holder.TheVariants.{Address, Payout, Thread, Elsewhere}
use Rattle.play_holdings.specs.declared.holding.Holding.{Holding}

abbrev pub kind_of : Holder → ℕ
kind_of (Address address) = 0
kind_of (Payout currency role) = 1
kind_of (Thread place) = 2
kind_of Elsewhere = 3

abbrev pub currency_of : Holder → List ℕ
currency_of (Address address) = []
currency_of (Payout currency role) = currency
currency_of (Thread place) = []
currency_of Elsewhere = []

-- an address, or the name of a role
abbrev pub name_of : Holder → List ℕ
name_of (Address address) = address
name_of (Payout currency role) = role
name_of (Thread place) = []
name_of Elsewhere = []

abbrev pub place_of : Holder → ℕ
place_of (Address address) = 0
place_of (Payout currency role) = 0
place_of (Thread place) = place
place_of Elsewhere = 0

-- addresses, by their bytes; payouts, by currency and then role; threads, by their places; and last what is elsewhere
abbrev pub holder_cmp : Holder → Holder → Ordering
holder_cmp = then_cmp (then_cmp (then_cmp (on kind_of nat_cmp) (on currency_of bytes_cmp)) (on name_of bytes_cmp)) (on place_of nat_cmp)

-- by holder, then token
abbrev pub holding_cmp : Holding → Holding → Ordering
holding_cmp = then_cmp (on (λ (h : Holding). h.holder) holder_cmp) (on (λ (h : Holding). h.token) token_cmp)
