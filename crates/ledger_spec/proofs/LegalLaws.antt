-- A legal history is legal before each of its entries.
use Rattle.std.proofs.Common.{ℕ, List, sym, subst, arith}
use Rattle.builder_spec.specs.Ledger.declared.call.Entry.{Entry}
use Rattle.ledger_laws.proofs.PlainLaws.{taken_at, take_twice}
use Rattle.ledger_spec.specs.Replay.{Course}
use Rattle.ledger_spec.specs.Legal.{Follows, IsLegal, before_entry}

pub legal_before : (c : Course) → IsLegal c → (n : ℕ) → IsLegal (before_entry c n)
legal_before c legal n k e h =
    let p = taken_at n k c.entries e h in
    let l = p.1 in
    subst (λ (es : List Entry). Follows (record c { entries = es }) e) (sym (take_twice k n c.entries (omega (arith, l)))) (legal k e p.0)
