use Rattle.std.proofs.Common.{rules, ◌≡◌, ◌++◌, IfOk, codes, string_bytes}
use Rattle.std.proofs.lemmas.Result.{IfOk-weaker}
use Rattle.next_lines.specs.Lines.{party_text}
use Rattle.places.specs.Texts.{token_text}
use Rattle.next_lines.proofs.PieceLemmas.{leaving_pieces}
use Rattle.next_lines.proofs.words.leaving_line.Goals as goal

pub returns : goal.returns
returns c =
    let party = string_bytes c.in_ok-party.party in
    let account = string_bytes c.in_ok-account.account in
    let token = string_bytes c.in_ok-token.token in
    let printed : IfOk c.format.result (λ text. string_bytes text ≡ codes "deposit by " ++ (party ++ (codes " into " ++ (account ++ (codes " of " ++ (token ++ codes ": Leaves128\n")))))) = search rules in
    IfOk-weaker c.format.result _ _
    (λ text e. leaving_pieces party (party_text c.args.party.now) account (party_text c.args.account.now) token (token_text c.args.token.now) (string_bytes text) e c.in_ok-party.ensures c.in_ok-account.ensures c.in_ok-token.ensures)
    printed
