use Rattle.std.proofs.Common.{ℤ, if◌then◌else◌, Some, sym, ◌∙◌, ap, arith}
use Rattle.std.proofs.lemmas.Int.{ints}
use Rattle.std.specs.Ordering.{eq_by_cmp}
use Rattle.std.specs.FinMap.{get, from_entries}
use Rattle.contract.specs.Names.Orders.{token_cmp}
use Rattle.coin_selection.proofs.MissingLemmas.{viewed, set_in_range}
use Rattle.coin_selection.proofs.missing.Missing.put.Goals as goal

pub returns-clause-so_much : goal.returns-clause-so_much
returns-clause-so_much c t =
    viewed c.self.inside.left.entries c.insert.new.self.entries c.args.self.now c.args.token (Some c.add.new.self) c.self.view_is c.in_ok-insert.ensures.updates.0 t
    ∙ ap (λ (z : ℤ). if eq_by_cmp token_cmp c.args.token t then Some z else get c.args.self.now t) (omega (arith, ints, c.add.ensures, c.zero-sum.ensures))

pub invariant_of-self-2 : goal.invariant_of-self-2
invariant_of-self-2 c =
    set_in_range (from_entries c.self.inside.left.entries) (from_entries {R = token_cmp} c.insert.new.self.entries) c.args.token (Some c.args.amount) c.self.invariant c.requires
    (λ t. returns-clause-so_much c t ∙ ap (λ v. if eq_by_cmp token_cmp c.args.token t then Some c.args.amount else get v t) (sym c.self.view_is))
