use Rattle.std.proofs.Common.{rules, ◌≡◌, to_z, of_z, w64, ap, sym, ◌∙◌, subst}
use Rattle.std.proofs.lemmas.Result.{IfOk-weaker}
use Rattle.ledger_kept.specs.LedgerSpec.Legal.{IsLegal}
use Rattle.chain_holdings.proofs.AfterLemmas.{same_course, holdings_fit, are_holdings, are_what_there_was}
use Rattle.chain_holdings.proofs.holdings.holdings_after.Goals as goal

-- the calls that are made again are those of a legal history
pub made_again-requires-clause-legal : goal.made_again-requires-clause-legal
made_again-requires-clause-legal c =
    let tick = to_z w64 (of_z w64 c.args.tick) in
    let same : tick ≡ c.args.tick = search rules in
    subst IsLegal (same_course c.args.chain.now c.in_ok-copy.copy tick c.history-entries.result.now (c.in_ok-copy.ensures ∙ c.requires.genesis) (same ∙ c.requires.tick) c.history-entries.ensures.all) c.history-entries.ensures.legal

-- what is unspent comes to what the ledger began with
pub holdings_of-requires : goal.holdings_of-requires
holdings_of-requires c = record {
  fit = holdings_fit c.args.chain.now c.deref-3.result.now (c.deref-3.ensures.value ∙ c.in_ok-lent.ensures) c.history-entries.ensures.first.preserved c.history-entries.ensures.begins.1;
}

pub returns-clause-holdings : goal.returns-clause-holdings
returns-clause-holdings c =
    let tick = to_z w64 (of_z w64 c.args.tick) in
    let same : tick ≡ c.args.tick = search rules in
    let whole = same_course c.args.chain.now c.in_ok-copy.copy tick c.history-entries.result.now (c.in_ok-copy.ensures ∙ c.requires.genesis) (same ∙ c.requires.tick) c.history-entries.ensures.all in
    IfOk-weaker c.holdings_of.result _ _
    (λ hs sums. are_holdings c.args.chain.now c.in_ok-again.again c.args.starts.now c.deref-2.result.now c.deref-3.result.now hs.items (c.in_ok-again.ensures ∙ sym whole) (c.deref-2.ensures.value ∙ c.in_ok-ends.ensures) (c.deref-3.ensures.value ∙ c.in_ok-lent.ensures) sums)
    c.holdings_of.ensures.sums

pub returns-clause-together : goal.returns-clause-together
returns-clause-together c =
    IfOk-weaker c.holdings_of.result _ _
    (λ hs told. are_what_there_was c.args.chain.now c.deref-3.result.now hs.items (c.deref-3.ensures.value ∙ c.in_ok-lent.ensures) c.history-entries.ensures.first.preserved told) c.holdings_of.ensures.together
