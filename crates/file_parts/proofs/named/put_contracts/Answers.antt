use Rattle.std.proofs.Common.{rules, ◌≡◌, ℕ, ◌<◌, List, codes, length, get_or, refl}
use Rattle.json.specs.Value.{members_view, value_view}
use Rattle.file_parts.specs.Files.{file_path, if_at, named_among, named_if}
use Rattle.file_parts.specs.FilesSupport.{Entry}
use Rattle.file_parts.proofs.PieceLemmas.{past, to_end}
use Rattle.file_parts.proofs.named.put_contracts.Goals as goal

-- one member more
pub loop-member-preserved : goal.loop-member-preserved
loop-member-preserved c =
    let all : List Entry = c.args.members.now in
    let i : ℕ = c.loop-member.member-index in
    let v : Entry = c.member-item.result in
    let name : List ℕ = c.args.name.now in
    let here : i < length all = c.loop-member-test.true in
    let is : get_or all i v ≡ v = search rules in
    past (λ (ms : List Entry). named_among name (members_view ms)) (λ (e : Entry). if_at (codes "contract") e.0.now (named_if name (file_path (value_view e.1)))) (λ x xs. refl) _ _ _ all i v here is c.loop-member.invariant c.in_ok-put_part.ensures

pub returns : goal.returns
returns c =
    let name : List ℕ = c.args.name.now in
    to_end (λ (ms : List Entry). named_among name (members_view ms)) (λ (e : Entry). if_at (codes "contract") e.0.now (named_if name (file_path (value_view e.1)))) refl _ _ c.args.members.now c.loop-member.member-index c.loop-member-test.false c.loop-member.invariant
