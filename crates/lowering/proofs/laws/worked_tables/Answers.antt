use Rattle.lowering.proofs.Examples.{empty_when, partial_pay, cond_let, equal_cases, escrow_table, tokens_differ, parties_differ, bounds_differ, timeouts_differ}
use Rattle.lowering.proofs.laws.worked_tables.Goals as goal

pub returns : goal.returns
returns c = record {
  waits = empty_when;
  pays = partial_pay;
  lets = cond_let;
  cases = equal_cases;
  escrow = escrow_table;
  tokens = tokens_differ;
  parties = parties_differ;
  bounds = bounds_differ;
  timeouts = timeouts_differ;
}
