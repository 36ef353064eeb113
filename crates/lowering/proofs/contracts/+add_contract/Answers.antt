use Rattle.std.proofs.Common.{rules, to_z, of_z, w64, ◌≡◌, refl, sym, ap, ◌∙◌, subst, arith, ℕ, ◌+◌, ◌≤◌, List, drop}
use Rattle.std.specs.Prelude.{IfOk}
use Rattle.table.specs.Nodes.declared.cont.Cont.{Cont}
use Rattle.table_builder.specs.Putting.{put_cont}
use Rattle.contract.specs.declared.tree.Case.{Case}
use Rattle.contract.specs.Tree.{contract_tree}
use Rattle.lowering.proofs.Trees.{high-first, conts-first, others-first}
use Rattle.lowering.proofs.Cases.{Progress, progress-start, progress-at, progress-step, progress-end}
use Rattle.lowering.proofs.Trees.{is-Pay, is-Let, is-Assert, is-If, is-When}
use Rattle.lowering.proofs.Codes.{next-Pay, next-Let, next-Assert, next-then, next-otherwise, next-When, next-case, fits-Pay, fits-Let, fits-Assert, fits-If, fits-When, fits-case, codes-Pay, codes-Let, codes-Assert, codes-If, codes-When, codes-case}
use Rattle.table.specs.Nodes.declared.cont_node.ContNode.{ContNode}
use Rattle.table.specs.Heights.{contract_height}
use Rattle.table.specs.Flat.{Flat, AllStand, trees, cont_parts, cont_of}
use Rattle.lowering.proofs.contracts.«+add_contract».Goals as goal

pub add_cases-loop-case-init : goal.add_cases-loop-case-init
add_cases-loop-case-init t c =
    let b = c.args.builder.now in
    let all = c.args.cases.now in
    subst (λ (ks : List Case). Progress b b all ks c.new-numbers.result) (sym c.as_slice-case-items.ensures)
    (subst (λ (ns : List ℕ). Progress b b all all ns) (sym c.new-numbers.ensures) (progress-start b all c.requires.flat c.requires.low))

pub add_cases-add_case-requires : goal.add_cases-add_case-requires
add_cases-add_case-requires t c =
    let items = c.as_slice-case-items.result.now in
    let i = c.loop-case.case-index in
    let k = c.case-item.result in
    let p = progress-at c.args.builder.now c.loop-case.builder c.args.cases.now items i k c.loop-case.numbers c.loop-case.invariant c.loop-case-test.true c.case-item.is in
    let rest = drop (i + 1) items in (
      omega (arith, c.decreases, p.fewer, conts-first k rest),
      (
        p.flat,
        (
          omega (arith, p.low, high-first k rest),
          (
            omega (arith, p.others, others-first k rest, c.requires.room),
            omega (arith, p.conts, conts-first k rest, c.requires.conts),
          ),
        ),
      ),
    )

pub add_cases-loop-case-preserved : goal.add_cases-loop-case-preserved
add_cases-loop-case-preserved t c =
    let items = c.as_slice-case-items.result.now in
    let i = c.loop-case.case-index in
    let k = c.case-item.result in
    let p = progress-at c.args.builder.now c.loop-case.builder c.args.cases.now items i k c.loop-case.numbers c.loop-case.invariant c.loop-case-test.true c.case-item.is in
    let e = c.in_ok-add_case.ensures in
    subst (λ (ns : List ℕ). Progress c.args.builder.now c.add_case.new.builder c.args.cases.now (drop (i + 1) items) ns) (sym c.in_ok-push.ensures.added)
    (progress-step _ _ _ _ _ k _ c.in_ok-add_case.field-0 p e.code e.number)

pub add_cases-returns : goal.add_cases-returns
add_cases-returns t c =
    let d = progress-end _ _ c.args.cases.now c.as_slice-case-items.result.now c.loop-case.case-index c.loop-case.numbers c.loop-case.invariant c.loop-case-test.false in
    record { code = d.code; number = d.number }

pub add_contract-add_contract-requires : goal.add_contract-add_contract-requires
add_contract-add_contract-requires t c =
    let n = next-Pay _ _ _ _ _ _ _ _ _ (is-Pay _ _ _ _ _ _ _ c.in-Pay.is c.get.ensures) c.requires.flat c.requires.low c.requires.room c.requires.conts c.in_ok-number-in-Pay.ensures.code c.in_ok-number-in-Pay.ensures.number in
    (omega (arith, c.decreases, n.fewer), (n.flat, (n.low, (n.room, n.conts))))

pub add_contract-add_contract-requires-in-Let : goal.add_contract-add_contract-requires-in-Let
add_contract-add_contract-requires-in-Let t c =
    let n = next-Let _ _ _ _ _ _ _ (is-Let _ _ _ _ _ c.in-Let.is c.get-in-Let.ensures) c.requires.flat c.requires.low c.requires.room c.requires.conts c.in_ok-number-in-Let.ensures.code c.in_ok-number-in-Let.ensures.number in
    (omega (arith, c.decreases, n.fewer), (n.flat, (n.low, (n.room, n.conts))))

pub add_contract-add_contract-requires-in-Assert : goal.add_contract-add_contract-requires-in-Assert
add_contract-add_contract-requires-in-Assert t c =
    let n = next-Assert _ _ _ _ _ _ (is-Assert _ _ _ _ c.in-Assert.is c.get-in-Assert.ensures) c.requires.flat c.requires.low c.requires.room c.requires.conts c.in_ok-number-in-Assert.ensures.code c.in_ok-number-in-Assert.ensures.number in
    (omega (arith, c.decreases, n.fewer), (n.flat, (n.low, (n.room, n.conts))))

pub add_contract-add_contract-requires-in-If : goal.add_contract-add_contract-requires-in-If
add_contract-add_contract-requires-in-If t c =
    let n = next-then _ _ _ _ _ _ _ (is-If _ _ _ _ _ c.in-If.otherwise c.in-If.is c.get-in-If.ensures refl) c.requires.flat c.requires.low c.requires.room c.requires.conts c.in_ok-number-in-If.ensures.code c.in_ok-number-in-If.ensures.number in
    (omega (arith, c.decreases, n.fewer), (n.flat, (n.low, (n.room, n.conts))))

pub add_contract-add_contract-requires-in-If-2 : goal.add_contract-add_contract-requires-in-If-2
add_contract-add_contract-requires-in-If-2 t c =
    let n = next-otherwise _ _ _ _ _ _ _ _ _ (is-If _ _ _ _ _ _ c.in-If.is c.get-in-If.ensures c.get-in-If-2.ensures) c.requires.flat c.requires.low c.requires.room c.requires.conts c.in_ok-number-in-If.ensures.code c.in_ok-number-in-If.ensures.number c.in_ok-then-in-If.ensures.code c.in_ok-then-in-If.ensures.number in
    (omega (arith, c.decreases, n.fewer), (n.flat, (n.low, (n.room, n.conts))))

pub add_contract-add_contract-requires-in-When : goal.add_contract-add_contract-requires-in-When
add_contract-add_contract-requires-in-When t c =
    let n = next-When _ _ _ _ _ _ _ (is-When _ _ _ _ _ c.in-When.is c.get-in-When.ensures) c.requires.flat c.requires.low c.requires.room c.requires.conts c.in_ok-numbers-in-When.ensures.code c.in_ok-numbers-in-When.ensures.number in
    (omega (arith, c.decreases, n.fewer), (n.flat, (n.low, (n.room, n.conts))))

pub add_contract-put_cont-requires-in-If : goal.add_contract-put_cont-requires-in-If
add_contract-put_cont-requires-in-If t c =
    let h = fits-If _ _ _ _ _ _ _ _ _ _ _ (is-If _ _ _ _ _ _ c.in-If.is c.get-in-If.ensures c.get-in-If-2.ensures) c.requires.flat c.requires.low c.requires.conts c.in_ok-number-in-If.ensures.code c.in_ok-number-in-If.ensures.number c.in_ok-then-in-If.ensures.code c.in_ok-then-in-If.ensures.number c.in_ok-otherwise-in-If.ensures.code c.in_ok-otherwise-in-If.ensures.number in
    record { stand = h.0; low = h.1.0; room = h.1.1 }

pub add_contract-put_cont-requires-in-When : goal.add_contract-put_cont-requires-in-When
add_contract-put_cont-requires-in-When t c =
    let h = fits-When _ _ _ _ _ _ _ _ _ (is-When _ _ _ _ _ c.in-When.is c.get-in-When.ensures) c.requires.flat c.requires.low c.requires.conts c.in_ok-numbers-in-When.ensures.code c.in_ok-numbers-in-When.ensures.number c.in_ok-then-in-When.ensures.code c.in_ok-then-in-When.ensures.number in
    record { stand = h.0; low = h.1.0; room = h.1.1 }

pub add_contract-put_cont-requires-in-Assert : goal.add_contract-put_cont-requires-in-Assert
add_contract-put_cont-requires-in-Assert t c =
    let h = fits-Assert _ _ _ _ _ _ _ _ (is-Assert _ _ _ _ c.in-Assert.is c.get-in-Assert.ensures) c.requires.flat c.requires.low c.requires.conts c.in_ok-number-in-Assert.ensures.code c.in_ok-number-in-Assert.ensures.number c.in_ok-then-in-Assert.ensures.code c.in_ok-then-in-Assert.ensures.number in
    record { stand = h.0; low = h.1.0; room = h.1.1 }

pub add_contract-put_cont-requires-in-Pay : goal.add_contract-put_cont-requires-in-Pay
add_contract-put_cont-requires-in-Pay t c =
    let h = fits-Pay _ _ _ _ _ _ _ _ _ _ _ (is-Pay _ _ _ _ _ _ _ c.in-Pay.is c.get.ensures) c.requires.flat c.requires.low c.requires.conts c.in_ok-number-in-Pay.ensures.code c.in_ok-number-in-Pay.ensures.number c.in_ok-then-in-Pay.ensures.code c.in_ok-then-in-Pay.ensures.number in
    let g = c.add_contract.new.builder in
    let e = sym c.in_ok-pay_node-in-Pay.ensures in
    record {
      stand = subst (λ (x : ContNode). AllStand g (cont_parts x)) e h.0;
      low = subst (λ (x : ContNode). contract_height (cont_of (trees g) x) ≤ 999) e h.1.0;
      room = h.1.1;
    }

pub add_contract-put_cont-requires-in-Let : goal.add_contract-put_cont-requires-in-Let
add_contract-put_cont-requires-in-Let t c =
    let h = fits-Let _ _ _ _ _ _ _ _ _ (is-Let _ _ _ _ _ c.in-Let.is c.get-in-Let.ensures) c.requires.flat c.requires.low c.requires.conts c.in_ok-number-in-Let.ensures.code c.in_ok-number-in-Let.ensures.number c.in_ok-then-in-Let.ensures.code c.in_ok-then-in-Let.ensures.number in
    let g = c.add_contract-in-Let.new.builder in
    let e = sym c.in_ok-let_node-in-Let.ensures in
    record {
      stand = subst (λ (x : ContNode). AllStand g (cont_parts x)) e h.0;
      low = subst (λ (x : ContNode). contract_height (cont_of (trees g) x) ≤ 999) e h.1.0;
      room = h.1.1;
    }

pub add_case-add_contract-requires : goal.add_case-add_contract-requires
add_case-add_contract-requires t c = (
  omega (arith, c.decreases),
  next-case _ _ _ _ _ c.requires.flat c.requires.low c.requires.room c.requires.conts c.in_ok-number.ensures.code c.in_ok-number.ensures.number,
)

pub add_case-put_case_of-requires : goal.add_case-put_case_of-requires
add_case-put_case_of-requires t c =
    let h = fits-case _ _ _ _ _ _ (contract_tree c.args.case.now.then) c.requires.flat c.requires.low c.requires.room c.in_ok-number.ensures.code c.in_ok-number.ensures.number c.in_ok-then.ensures.code c.in_ok-then.ensures.number in
    record { waits = h.waits; stands = h.stands; low = h.low; room = h.room }

pub add_contract-returns-in_ok-then-in-Assert : goal.add_contract-returns-in_ok-then-in-Assert
add_contract-returns-in_ok-then-in-Assert t c =
    let e = codes-Assert _ _ _ _ _ _ _ _ (is-Assert _ _ _ _ c.in-Assert.is c.get-in-Assert.ensures) c.in_ok-number-in-Assert.ensures.code c.in_ok-number-in-Assert.ensures.number c.in_ok-then-in-Assert.ensures.code c.in_ok-then-in-Assert.ensures.number in
    record {
      code = subst (λ (x : Flat × Cont). IfOk c.put_cont-in-Assert.result (λ _. c.put_cont-in-Assert.new.self ≡ x.0)) e c.put_cont-in-Assert.ensures.code;
      number = subst (λ (x : Flat × Cont). IfOk c.put_cont-in-Assert.result (λ k. k ≡ x.1)) e c.put_cont-in-Assert.ensures.number;
    }

pub add_contract-returns-in_ok-otherwise-in-If : goal.add_contract-returns-in_ok-otherwise-in-If
add_contract-returns-in_ok-otherwise-in-If t c =
    let e = codes-If _ _ _ _ _ _ _ _ _ _ _ (is-If _ _ _ _ _ _ c.in-If.is c.get-in-If.ensures c.get-in-If-2.ensures) c.in_ok-number-in-If.ensures.code c.in_ok-number-in-If.ensures.number c.in_ok-then-in-If.ensures.code c.in_ok-then-in-If.ensures.number c.in_ok-otherwise-in-If.ensures.code c.in_ok-otherwise-in-If.ensures.number in
    record {
      code = subst (λ (x : Flat × Cont). IfOk c.put_cont-in-If.result (λ _. c.put_cont-in-If.new.self ≡ x.0)) e c.put_cont-in-If.ensures.code;
      number = subst (λ (x : Flat × Cont). IfOk c.put_cont-in-If.result (λ k. k ≡ x.1)) e c.put_cont-in-If.ensures.number;
    }

pub add_contract-returns-in_ok-pay_node-in-Pay : goal.add_contract-returns-in_ok-pay_node-in-Pay
add_contract-returns-in_ok-pay_node-in-Pay t c =
    let e = ap (λ (x : ContNode). put_cont c.add_contract.new.builder x) c.in_ok-pay_node-in-Pay.ensures ∙ codes-Pay _ _ _ _ _ _ _ _ _ _ _ (is-Pay _ _ _ _ _ _ _ c.in-Pay.is c.get.ensures) c.in_ok-number-in-Pay.ensures.code c.in_ok-number-in-Pay.ensures.number c.in_ok-then-in-Pay.ensures.code c.in_ok-then-in-Pay.ensures.number in
    record {
      code = subst (λ (x : Flat × Cont). IfOk c.put_cont-in-Pay.result (λ _. c.put_cont-in-Pay.new.self ≡ x.0)) e c.put_cont-in-Pay.ensures.code;
      number = subst (λ (x : Flat × Cont). IfOk c.put_cont-in-Pay.result (λ k. k ≡ x.1)) e c.put_cont-in-Pay.ensures.number;
    }

pub add_contract-returns-in_ok-let_node-in-Let : goal.add_contract-returns-in_ok-let_node-in-Let
add_contract-returns-in_ok-let_node-in-Let t c =
    let e = ap (λ (x : ContNode). put_cont c.add_contract-in-Let.new.builder x) c.in_ok-let_node-in-Let.ensures ∙ codes-Let _ _ _ _ _ _ _ _ _ (is-Let _ _ _ _ _ c.in-Let.is c.get-in-Let.ensures) c.in_ok-number-in-Let.ensures.code c.in_ok-number-in-Let.ensures.number c.in_ok-then-in-Let.ensures.code c.in_ok-then-in-Let.ensures.number in
    record {
      code = subst (λ (x : Flat × Cont). IfOk c.put_cont-in-Let.result (λ _. c.put_cont-in-Let.new.self ≡ x.0)) e c.put_cont-in-Let.ensures.code;
      number = subst (λ (x : Flat × Cont). IfOk c.put_cont-in-Let.result (λ k. k ≡ x.1)) e c.put_cont-in-Let.ensures.number;
    }

pub add_contract-returns-in_ok-then-in-When : goal.add_contract-returns-in_ok-then-in-When
add_contract-returns-in_ok-then-in-When t c =
    let timeout : to_z w64 (of_z w64 c.in-When.timeout) ≡ c.in-When.timeout = search rules in
    let e = codes-When _ _ _ _ _ _ _ _ _ _ (is-When _ _ _ _ _ c.in-When.is c.get-in-When.ensures) timeout c.in_ok-numbers-in-When.ensures.code c.in_ok-numbers-in-When.ensures.number c.in_ok-then-in-When.ensures.code c.in_ok-then-in-When.ensures.number in
    record {
      code = subst (λ (x : Flat × Cont). IfOk c.put_cont-in-When.result (λ _. c.put_cont-in-When.new.self ≡ x.0)) e c.put_cont-in-When.ensures.code;
      number = subst (λ (x : Flat × Cont). IfOk c.put_cont-in-When.result (λ k. k ≡ x.1)) e c.put_cont-in-When.ensures.number;
    }

pub add_case-returns : goal.add_case-returns
add_case-returns t c =
    let e = codes-case _ _ _ _ (contract_tree c.args.case.now.then) _ _ c.in_ok-number.ensures.code c.in_ok-number.ensures.number c.in_ok-then.ensures.code c.in_ok-then.ensures.number in
    record {
      code = subst (λ (x : Flat × ℕ). IfOk c.put_case_of.result (λ _. c.put_case_of.new.builder ≡ x.0)) e c.put_case_of.ensures.code;
      number = subst (λ (x : Flat × ℕ). IfOk c.put_case_of.result (λ k. k ≡ x.1)) e c.put_case_of.ensures.number;
    }
