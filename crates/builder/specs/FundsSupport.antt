-- No reader needs this file: what is known of what a request spends, once nothing hinders it.
use Rattle.std.specs.Prelude.{◌≡◌, true, List, is_none}
use Rattle.builder_spec.specs.Bundle.Bundles.{Amounts}
use Rattle.builder_spec.specs.Ledger.declared.look.Unspent.{Unspent}
use Rattle.builder_spec.specs.Requests.{StartRequest}
use Rattle.builder_spec.specs.Holding.{sums, amount_in, least_lacking, AreBundles}
use Rattle.builder_spec.specs.Starts.{accounts_of, start_front}

-- what is spent holds so much together, and so many of what is offered are spent
pub record Funds : Type 0 where
  pub all : Amounts
  pub front : List Unspent

-- a start spends this, and the front covers its accounts
pub record AreStartFunds (r : StartRequest) (funds : Funds) : Type 0 where
  pub all : funds.all ≡ sums amount_in (start_front r)
  pub front : funds.front ≡ start_front r
  pub covered : is_none (least_lacking (accounts_of r.state) funds.front) ≡ true
  pub bundles : AreBundles amount_in funds.front
