use Rattle.std.proofs.Common.{rules, ◌≡◌, ◌++◌, IfOk, codes, string_bytes}
use Rattle.std.proofs.lemmas.Result.{IfOk-weaker}
use Rattle.next_lines.specs.Lines.{party_text}
use Rattle.step_notes.proofs.PieceLemmas.{two_pieces}
use Rattle.step_notes.proofs.cases.leaving_line.Goals as goal

pub returns : goal.returns
returns c =
    let party = string_bytes c.in_ok-party.party in
    let account = string_bytes c.in_ok-account.account in
    let printed : IfOk c.format.result (λ text. string_bytes text ≡ codes "waits for deposit by " ++ (party ++ (codes " into " ++ (account ++ codes ": Leaves128\n")))) = search rules in
    IfOk-weaker c.format.result _ _
    (λ text e. two_pieces (codes "waits for deposit by ") (codes " into ") (codes ": Leaves128\n") party (party_text c.args.party.now) account (party_text c.args.account.now) (string_bytes text) e c.in_ok-party.ensures c.in_ok-account.ensures)
    printed
