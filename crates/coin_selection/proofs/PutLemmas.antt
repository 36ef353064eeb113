-- What inputs need, one input after another.
use Rattle.std.proofs.Common.{◌≡◌, ℕ, ◌+◌, ◌<◌, List, [], ◌∷◌, ◌++◌, length, drop, get_or, ◌∙◌, ap}
use Rattle.std.specs.List.{filter_map, cons_option}
use Rattle.std.proofs.lemmas.List.Elements.{filter_map-append}
use Rattle.contract.specs.declared.input.Input.{Input}
use Rattle.builder_spec.specs.Roles.Steps.{actor}
use Rattle.builder_spec.specs.Steps.{deposit_of, deposits, token_of, roles_of}
use Rattle.coin_selection.proofs.ListLaws.{here}

pub deposits_next : (xs : List Input) (i : ℕ) (x : Input) → i < length xs → x ≡ get_or xs i x → deposits (drop i xs) ≡ cons_option (deposit_of x) (deposits (drop (i + 1) xs))
deposits_next xs i x l is = ap deposits (here xs i x l is)

pub roles_next : (currency : List ℕ) (xs : List Input) (i : ℕ) (x : Input) → i < length xs → x ≡ get_or xs i x →
    roles_of currency (drop i xs) ≡ roles_of currency (x ∷ []) ++ roles_of currency (drop (i + 1) xs)
roles_next currency xs i x l is =
    let rest = drop (i + 1) xs in
    ap (roles_of currency) (here xs i x l is)
    ∙ ap (filter_map (token_of currency)) (filter_map-append actor (x ∷ []) rest)
    ∙ filter_map-append (token_of currency) (filter_map actor (x ∷ [])) (filter_map actor rest)
