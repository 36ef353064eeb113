use Rattle.std.proofs.Common.{rules, ◌≡◌, ◌∙◌, sym, ap, subst, length, position, Some, None, IfOk}
use Rattle.table.specs.Nodes.contracts.cont_node.ContNodePartialEq.TheImpl as cont_eq
use Rattle.table.specs.Nodes.declared.cont.Cont.{Cont}
use Rattle.table.specs.Flat.{Flat}
use Rattle.table.specs.Pushing.{with_cont}
use Rattle.table_builder.specs.Putting.{put_cont}
use Rattle.table_builder.proofs.IndexingLemmas.{cont_stands, cont_new}
use Rattle.table_builder.proofs.builder.Builder.put_cont.Goals as goal

stands : (c : goal.In-Stands) → put_cont c.args.self.now c.args.node ≡ (c.self.inside.table, record { 0 = c.in-Stands.number })
stands c =
    let s : position ((cont_eq.ghosts).eq c.args.node) c.self.inside.conts ≡ Some c.in-Stands.number = search rules in
    ap (λ (f : Flat). put_cont f c.args.node) (sym c.self.view_is) ∙ cont_stands c.self.inside.table c.self.inside.conts c.args.node c.in-Stands.number c.self.invariant.conts s

new : (c : goal.Else-is_err) → put_cont c.args.self.now c.args.node ≡ (with_cont c.self.inside.table c.in-New.node, record { 0 = length c.self.inside.table.conts })
new c =
    let s : (position ((cont_eq.ghosts).eq c.args.node) c.self.inside.conts ≡ None) × (c.in-New.node ≡ c.args.node) = search rules in
    ap (λ (f : Flat). put_cont f c.args.node) (sym c.self.view_is)
    ∙ (cont_new c.self.inside.table c.self.inside.conts c.args.node c.self.invariant.conts s.0
    ∙ ap (λ n. (with_cont c.self.inside.table n, record { 0 = length c.self.inside.table.conts })) (sym s.1))

pub returns-in-Stands-clause-code : goal.returns-in-Stands-clause-code
returns-in-Stands-clause-code c = sym (ap (λ (made : Flat × Cont). made.0) (stands c))

pub returns-in-Stands-clause-number : goal.returns-in-Stands-clause-number
returns-in-Stands-clause-number c = sym (ap (λ (made : Flat × Cont). made.1) (stands c))

pub returns-else-is_err-clause-code : goal.returns-else-is_err-clause-code
returns-else-is_err-clause-code c =
    subst (λ (made : Flat × Cont). IfOk c.push_cont-pushed.result (λ _. c.push_cont-pushed.new.self ≡ made.0)) (sym (new c)) c.push_cont-pushed.ensures.pushed

pub returns-else-is_err-clause-number : goal.returns-else-is_err-clause-number
returns-else-is_err-clause-number c =
    subst (λ (made : Flat × Cont). IfOk c.push_cont-pushed.result (λ k. k ≡ made.1)) (sym (new c)) (search (rules, c.push_cont-pushed.ensures.number))
