use Rattle.std.proofs.Common.{◌≡◌, ◌∙◌, ap, subst, ◌<◌, ◌^◌, List, [], ◌∷◌, ◌++◌, length, arith, rules, w64, SFits}
use Rattle.std.proofs.lemmas.Grind.{common_steps}
use Rattle.std.proofs.lemmas.Int.{to_z-of_z}
use Rattle.std.specs.List.{flat_map}
use Rattle.contract.specs.Tree.{value_tree, observation_tree, contract_tree}
use Rattle.contract_bytes.specs.Numbers.{length_bytes, time_bytes, text_bytes}
use Rattle.contract_bytes.specs.Names.{party_bytes, token_bytes, payee_bytes}
use Rattle.contract_bytes.specs.Values.{value_bytes, observation_bytes}
use Rattle.contract_bytes.specs.Trees.{contract_bytes}
use Rattle.contract_bytes.specs.Writing.{AppendsFront}
use Rattle.contract_bytes.specs.WritingSupport.{SpellsContract, case_bytes, CaseFits}
use Rattle.contract_bytes.proofs.Fronts.{front_as, front_first, front_then, wrote_both}
use Rattle.contract_bytes.proofs.Spellings.{no_front, refused, a_byte, behind, fitting, form}
use Rattle.contract_bytes.proofs.Forms.{contract_bytes-Close, contract_bytes-Pay, contract_bytes-If, contract_bytes-When, contract_bytes-Let, contract_bytes-Assert}
use Rattle.contract_bytes.proofs.FitsForms.{contract_fits-Close, contract_fits-Pay, contract_fits-If, contract_fits-When, contract_fits-Let, contract_fits-Assert}
use Rattle.contract_bytes.proofs.OneMore.{one_more_stands, one_more_fits, one_more_front}
use Rattle.contract_bytes.proofs.tree.+put_contract.Goals as goal

-- ---- cases

pub put_cases-loop-case-preserved : goal.put_cases-loop-case-preserved
put_cases-loop-case-preserved t c =
    let cases = c.as_slice-case-items.result.now in
    let i = c.loop-case.case-index in (
      one_more_stands case_bytes cases i c.case-item.result c.loop-case-test.true c.case-item.is c.args.out.now.items c.loop-case.out.items c.put_case.new.out.items c.loop-case.invariant.0 c.in_ok-put_case.ensures.spelling,
      one_more_fits CaseFits cases i c.case-item.result c.loop-case-test.true c.case-item.is c.loop-case.invariant.1 c.in_ok-put_case.ensures.fits,
    )

pub put_cases-returns-in_err-put_case : goal.put_cases-returns-in_err-put_case
put_cases-returns-in_err-put_case t c =
    refused c.from_residual.result c.from_residual.ensures.0
    (subst (λ cases. AppendsFront (flat_map case_bytes cases) c.args.out.now.items c.put_case.new.out.items) c.as_slice-case-items.ensures
    (one_more_front case_bytes c.as_slice-case-items.result.now c.loop-case.case-index c.case-item.result c.loop-case-test.true c.case-item.is c.args.out.now.items c.loop-case.out.items c.put_case.new.out.items c.loop-case.invariant.0
    c.in_err-put_case.ensures.err))

pub put_case-returns-in_err-put_action : goal.put_case-returns-in_err-put_action
put_case-returns-in_err-put_action t c = refused c.from_residual.result c.from_residual.ensures.0 (front_first (contract_bytes (contract_tree c.args.case.now.then)) c.in_err-put_action.ensures.err)

pub put_case-returns : goal.put_case-returns
put_case-returns t c = fitting c.put_contract.result (λ h. (c.in_ok-put_action.ensures.fits, h)) (behind _ c.put_contract.result c.in_ok-put_action.ensures.spelling c.put_contract.ensures)

pub put_then-returns : goal.put_then-returns
put_then-returns t c = subst (λ k. SpellsContract c.put_contract.result (contract_tree k) c.args.out.now c.put_contract.new.out) c.get.ensures c.put_contract.ensures

-- ---- contracts, by their forms

pub put_contract-returns-in-Close : goal.put_contract-returns-in-Close
put_contract-returns-in-Close t c = rw c.in-Close.is (form c.put_byte.result contract_bytes-Close (λ _. contract_fits-Close) (a_byte 0x00 c.put_byte.result c.put_byte.ensures.spelling c.put_byte.ensures.err))

pub put_contract-returns-in_err-put_pay-in-Pay : goal.put_contract-returns-in_err-put_pay-in-Pay
put_contract-returns-in_err-put_pay-in-Pay t c =
    let d = c.in-Pay in
    rw d.is (refused c.from_residual.result c.from_residual.ensures.0 (front_as (contract_bytes-Pay d.account d.payee d.token d.value d.then) (front_first (contract_bytes (contract_tree d.then)) c.in_err-put_pay-in-Pay.ensures.err)))

pub put_contract-returns-in_ok-put_pay-in-Pay : goal.put_contract-returns-in_ok-put_pay-in-Pay
put_contract-returns-in_ok-put_pay-in-Pay t c =
    let d = c.in-Pay in
    let paid = c.in_ok-put_pay-in-Pay.ensures in
    let before = 0x01 ∷ party_bytes d.account ++ payee_bytes d.payee ++ token_bytes d.token ++ value_bytes (value_tree d.value) in
    rw d.is (form c.put_then.result (contract_bytes-Pay d.account d.payee d.token d.value d.then) (λ h. contract_fits-Pay d.account d.payee d.token d.value d.then paid.fits.0 paid.fits.1 paid.fits.2 paid.fits.3 h)
    (behind before c.put_then.result paid.spelling c.put_then.ensures))

pub put_contract-returns-in_err-put_test-in-If : goal.put_contract-returns-in_err-put_test-in-If
put_contract-returns-in_err-put_test-in-If t c =
    let d = c.in-If in
    rw d.is (refused c.from_residual-in_err-put_test-in-If.result c.from_residual-in_err-put_test-in-If.ensures.0 (front_as (contract_bytes-If d.observation d.then d.otherwise)
    (front_first (contract_bytes (contract_tree d.otherwise)) (front_first (contract_bytes (contract_tree d.then)) c.in_err-put_test-in-If.ensures.err))))

pub put_contract-returns-in_err-put_then-in-If : goal.put_contract-returns-in_err-put_then-in-If
put_contract-returns-in_err-put_then-in-If t c =
    let d = c.in-If in
    let test = observation_bytes (observation_tree d.observation) in
    rw d.is (refused c.from_residual-in_err-put_then-in-If.result c.from_residual-in_err-put_then-in-If.ensures.0 (front_as (contract_bytes-If d.observation d.then d.otherwise)
    (front_first (contract_bytes (contract_tree d.otherwise)) (front_then (0x02 ∷ test) c.in_ok-put_test-in-If.ensures.spelling c.in_err-put_then-in-If.ensures.err))))

pub put_contract-returns-in_ok-put_then-in-If : goal.put_contract-returns-in_ok-put_then-in-If
put_contract-returns-in_ok-put_then-in-If t c =
    let d = c.in-If in
    let r = c.put_then-in-If-2.result in
    let test = observation_bytes (observation_tree d.observation) in
    let then = contract_bytes (contract_tree d.then) in
    let first = wrote_both _ (0x02 ∷ test) then c.in_ok-put_test-in-If.ensures.spelling c.in_ok-put_then-in-If.ensures.spelling in
    rw d.is (form r (contract_bytes-If d.observation d.then d.otherwise) (λ h. contract_fits-If d.observation d.then d.otherwise c.in_ok-put_test-in-If.ensures.fits c.in_ok-put_then-in-If.ensures.fits h)
    (behind (0x02 ∷ test ++ then) r first c.put_then-in-If-2.ensures))

pub put_contract-returns-in_err-put_byte-in-When : goal.put_contract-returns-in_err-put_byte-in-When
put_contract-returns-in_err-put_byte-in-When t c = refused c.from_residual-in_err-put_byte-in-When.result c.from_residual-in_err-put_byte-in-When.ensures.0 (no_front _ c.in_err-put_byte-in-When.ensures.err)

pub put_contract-returns-in_err-put_length-in-When : goal.put_contract-returns-in_err-put_length-in-When
put_contract-returns-in_err-put_length-in-When t c =
    let d = c.in-When in
    let cases = flat_map case_bytes d.cases in
    rw d.is (refused c.from_residual-in_err-put_length-in-When.result c.from_residual-in_err-put_length-in-When.ensures.0 (front_as (contract_bytes-When d.cases d.timeout d.then)
    (front_then (0x03 ∷ []) c.in_ok-put_byte-in-When.ensures.spelling (no_front (length_bytes (length d.cases) ++ cases ++ time_bytes d.timeout ++ contract_bytes (contract_tree d.then)) c.in_err-put_length-in-When.ensures.err))))

pub put_contract-returns-in_err-put_cases-in-When : goal.put_contract-returns-in_err-put_cases-in-When
put_contract-returns-in_err-put_cases-in-When t c =
    let d = c.in-When in
    let counted = wrote_both c.args.out.now.items (0x03 ∷ []) (length_bytes (length d.cases)) c.in_ok-put_byte-in-When.ensures.spelling (c.in_ok-put_length-in-When.ensures.spelling ∙ ap (λ n. c.put_byte-in-When.new.out.items ++ length_bytes n) c.len.ensures) in
    rw d.is (refused c.from_residual-in_err-put_cases-in-When.result c.from_residual-in_err-put_cases-in-When.ensures.0 (front_as (contract_bytes-When d.cases d.timeout d.then)
    (front_first (contract_bytes (contract_tree d.then)) (front_first (time_bytes d.timeout) (front_then (0x03 ∷ length_bytes (length d.cases)) counted c.in_err-put_cases-in-When.ensures.err)))))

pub put_contract-returns-in_err-put_time-in-When : goal.put_contract-returns-in_err-put_time-in-When
put_contract-returns-in_err-put_time-in-When t c =
    let d = c.in-When in
    let out = c.args.out.now.items in
    let count = length_bytes (length d.cases) in
    let cases = flat_map case_bytes d.cases in
    let counted = wrote_both out (0x03 ∷ []) count c.in_ok-put_byte-in-When.ensures.spelling (c.in_ok-put_length-in-When.ensures.spelling ∙ ap (λ n. c.put_byte-in-When.new.out.items ++ length_bytes n) c.len.ensures) in
    let spelled = wrote_both out (0x03 ∷ count) cases counted c.in_ok-put_cases-in-When.ensures.spelling in
    rw d.is (refused c.from_residual-in_err-put_time-in-When.result c.from_residual-in_err-put_time-in-When.ensures.0 (front_as (contract_bytes-When d.cases d.timeout d.then)
    (front_first (contract_bytes (contract_tree d.then)) (front_then (0x03 ∷ count ++ cases) spelled (no_front (time_bytes d.timeout) c.in_err-put_time-in-When.ensures.err)))))

pub put_contract-returns-in_ok-put_time-in-When : goal.put_contract-returns-in_ok-put_time-in-When
put_contract-returns-in_ok-put_time-in-When t c =
    let d = c.in-When in
    let r = c.put_then-in-When.result in
    let out = c.args.out.now.items in
    let count = length_bytes (length d.cases) in
    let fits : SFits w64 d.timeout = search rules in
    let few : length d.cases < 2 ^ 64 = grind (arith, common_steps) in
    let cases = flat_map case_bytes d.cases in
    let counted = wrote_both out (0x03 ∷ []) count c.in_ok-put_byte-in-When.ensures.spelling (c.in_ok-put_length-in-When.ensures.spelling ∙ ap (λ n. c.put_byte-in-When.new.out.items ++ length_bytes n) c.len.ensures) in
    let spelled = wrote_both out (0x03 ∷ count) cases counted c.in_ok-put_cases-in-When.ensures.spelling in
    let timed = wrote_both out (0x03 ∷ count ++ cases) (time_bytes d.timeout) spelled (c.in_ok-put_time-in-When.ensures.spelling ∙ ap (λ z. c.put_cases.new.out.items ++ time_bytes z) (to_z-of_z w64 d.timeout fits)) in
    rw d.is (form r (contract_bytes-When d.cases d.timeout d.then) (λ h. contract_fits-When d.cases d.timeout d.then few c.in_ok-put_cases-in-When.ensures.fits fits h)
    (behind (0x03 ∷ count ++ cases ++ time_bytes d.timeout) r timed c.put_then-in-When.ensures))

pub put_contract-returns-in_err-put_let-in-Let : goal.put_contract-returns-in_err-put_let-in-Let
put_contract-returns-in_err-put_let-in-Let t c =
    let d = c.in-Let in
    rw d.is (refused c.from_residual-in_err-put_let-in-Let.result c.from_residual-in_err-put_let-in-Let.ensures.0 (front_as (contract_bytes-Let d.name d.value d.then) (front_first (contract_bytes (contract_tree d.then)) c.in_err-put_let-in-Let.ensures.err)))

pub put_contract-returns-in_ok-put_let-in-Let : goal.put_contract-returns-in_ok-put_let-in-Let
put_contract-returns-in_ok-put_let-in-Let t c =
    let d = c.in-Let in
    let named = c.in_ok-put_let-in-Let.ensures in
    rw d.is (form c.put_then-in-Let.result (contract_bytes-Let d.name d.value d.then) (λ h. contract_fits-Let d.name d.value d.then named.fits.0 named.fits.1 h)
    (behind (0x04 ∷ text_bytes d.name ++ value_bytes (value_tree d.value)) c.put_then-in-Let.result named.spelling c.put_then-in-Let.ensures))

pub put_contract-returns-in_err-put_test-in-Assert : goal.put_contract-returns-in_err-put_test-in-Assert
put_contract-returns-in_err-put_test-in-Assert t c =
    let d = c.in-Assert in
    rw d.is (refused c.from_residual-in_err-put_test-in-Assert.result c.from_residual-in_err-put_test-in-Assert.ensures.0 (front_as (contract_bytes-Assert d.observation d.then) (front_first (contract_bytes (contract_tree d.then)) c.in_err-put_test-in-Assert.ensures.err)))

pub put_contract-returns-in_ok-put_test-in-Assert : goal.put_contract-returns-in_ok-put_test-in-Assert
put_contract-returns-in_ok-put_test-in-Assert t c =
    let d = c.in-Assert in
    rw d.is (form c.put_then-in-Assert.result (contract_bytes-Assert d.observation d.then) (λ h. contract_fits-Assert d.observation d.then c.in_ok-put_test-in-Assert.ensures.fits h)
    (behind (0x05 ∷ observation_bytes (observation_tree d.observation)) c.put_then-in-Assert.result c.in_ok-put_test-in-Assert.ensures.spelling c.put_then-in-Assert.ensures))
