use Rattle.std.proofs.Common.{◌≡◌, ◌∷◌, [], ◌∙◌, ap, rules}
use Rattle.std.specs.FinMap.{from_sorted}
use Rattle.std.specs.FinMap.Entries.{put}
use Rattle.contract.specs.Names.Orders.{token_cmp}
use Rattle.roles.proofs.SumsLemmas.{only_is}
use Rattle.roles.proofs.amounts.only.Goals as goal

pub returns : goal.returns
returns c =
    let made : put token_cmp c.args.token.now c.args.number c.new-entries.result ≡ (c.args.token.now, c.args.number) ∷ [] = ap (put token_cmp c.args.token.now c.args.number) c.new-entries.ensures in
    let set : c.set.new.self ≡ put token_cmp c.args.token.now c.args.number c.new-entries.result = search (rules, c.in_ok-set.ensures.ok) in
    c.from_entries.ensures ∙ ap from_sorted (set ∙ made) ∙ only_is c.args.token.now c.args.number
