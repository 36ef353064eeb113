use Rattle.std.proofs.Common.{rules, ◌≡◌, ◌∙◌, sym, ap, subst, ℕ, length, position, Some, None, IfOk}
use Rattle.table.specs.Nodes.contracts.case_node.CaseNodePartialEq.TheImpl as case_eq
use Rattle.table.specs.Flat.{Flat}
use Rattle.table.specs.Pushing.{with_case}
use Rattle.table_builder.specs.Putting.{put_case}
use Rattle.table_builder.proofs.IndexingLemmas.{case_stands, case_new}
use Rattle.table_builder.proofs.builder.Builder.put_case.Goals as goal

stands : (c : goal.In-Stands) → put_case c.args.self.now c.args.node ≡ (c.self.inside.table, c.in-Stands.number)
stands c =
    let s : position ((case_eq.ghosts).eq c.args.node) c.self.inside.cases ≡ Some c.in-Stands.number = search rules in
    ap (λ (f : Flat). put_case f c.args.node) (sym c.self.view_is) ∙ case_stands c.self.inside.table c.self.inside.cases c.args.node c.in-Stands.number c.self.invariant.cases s

new : (c : goal.Else-is_err) → put_case c.args.self.now c.args.node ≡ (with_case c.self.inside.table c.in-New.node, length c.self.inside.table.cases)
new c =
    let s : (position ((case_eq.ghosts).eq c.args.node) c.self.inside.cases ≡ None) × (c.in-New.node ≡ c.args.node) = search rules in
    ap (λ (f : Flat). put_case f c.args.node) (sym c.self.view_is)
    ∙ (case_new c.self.inside.table c.self.inside.cases c.args.node c.self.invariant.cases s.0
    ∙ ap (λ n. (with_case c.self.inside.table n, length c.self.inside.table.cases)) (sym s.1))

pub returns-in-Stands-clause-code : goal.returns-in-Stands-clause-code
returns-in-Stands-clause-code c = sym (ap (λ (made : Flat × ℕ). made.0) (stands c))

pub returns-in-Stands-clause-number : goal.returns-in-Stands-clause-number
returns-in-Stands-clause-number c = sym (ap (λ (made : Flat × ℕ). made.1) (stands c))

pub returns-else-is_err-clause-code : goal.returns-else-is_err-clause-code
returns-else-is_err-clause-code c =
    subst (λ (made : Flat × ℕ). IfOk c.push_case-pushed.result (λ _. c.push_case-pushed.new.self ≡ made.0)) (sym (new c)) c.push_case-pushed.ensures.pushed

pub returns-else-is_err-clause-number : goal.returns-else-is_err-clause-number
returns-else-is_err-clause-number c =
    subst (λ (made : Flat × ℕ). IfOk c.push_case-pushed.result (λ k. k ≡ made.1)) (sym (new c)) (search (rules, c.push_case-pushed.ensures.number))
