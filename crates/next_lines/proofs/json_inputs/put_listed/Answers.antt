use Rattle.json_write_contracts.proofs.AddsLaws.{wrote}
use Rattle.next_lines.specs.Seen.{seen_case}
use Rattle.next_lines.specs.ListsSupport.{in_list}
use Rattle.next_lines.proofs.ListedLemmas.{looked_at, all_looked_at}
use Rattle.next_lines.proofs.json_inputs.put_listed.Goals as goal

pub loop-case-preserved : goal.loop-case-preserved
loop-case-preserved c =
    looked_at (λ x. in_list c.args.which (seen_case x)) c.args.cases.now c.loop-case.case-index c.case-item.result c.begin_array.new.self c.loop-case.out c.put_if_listed.new.out c.loop-case-test.true c.case-item.is c.loop-case.invariant
    c.in_ok-put_if_listed.ensures

pub returns : goal.returns
returns c =
    all_looked_at (λ x. in_list c.args.which (seen_case x)) c.args.cases.now c.loop-case.case-index c.args.out.now c.begin_array.new.self c.loop-case.out c.end_array.new.self c.loop-case-test.false (wrote c.in_ok-begin_array.ensures) c.loop-case.invariant
    (wrote c.in_ok-end_array.ensures)
