use Rattle.std.proofs.Common.{pos, codes, int_le}
use Rattle.serde_json.specs.Data.{boolean, no_members, member}
use Rattle.json_write_contracts.specs.WrittenNames.{party_json}
use Rattle.json_write_contracts.proofs.AddsLaws.{wrote, behind}
use Rattle.next_lines.specs.Json.{refused_json}
use Rattle.next_lines.proofs.ListedLemmas.{ends_with_flag}
use Rattle.next_lines.proofs.json_inputs.put_deposit.Goals as goal

pub returns : goal.returns
returns c =
    let r = c.end_with_three.result in
    let d = c.args.deposit.now in
    let ending =
    ends_with_flag r c.put_member-5.new.out c.end_with_three.new.out (λ w. member (codes "party") (party_json d.party.now) (member (codes "refused") (refused_json c.args.refused) (member (codes "warns") (boolean w) no_members))) c.warns.result
    (int_le d.amount (pos 0)) c.warns.ensures c.end_with_three.ensures.put in
    behind _ _ r (wrote c.in_ok-begin_object.ensures)
    (behind _ _ r c.in_ok-put_member.ensures.put
    (behind _ _ r c.in_ok-put_member-2.ensures.put (behind _ _ r c.in_ok-put_member-3.ensures.put (behind _ _ r c.in_ok-put_member-4.ensures.put (behind _ _ r c.in_ok-put_member-5.ensures.put ending)))))
