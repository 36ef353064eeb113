-- Entries that were sorted by their tokens.
use Rattle.std.proofs.Common.{◌≡◌, ℕ, ℤ, suc, ◌<◌, ◌≤◌, false, List, [], ◌∷◌, length, get_or, arith}
use Rattle.std.specs.List.Sorted.{IsSortedBy}
use Rattle.std.specs.Ordering.{is_lt}
use Rattle.std.proofs.lemmas.List.Sorted.{ranks_by, sorted_far}
use Rattle.contract.specs.Names.declared.token.Token.{Token}
use Rattle.contract.specs.Names.Orders.{token_cmp}
use Rattle.contract.specs.Names.Totals.{token_total}
use Rattle.eutxo.specs.ChangesSupport.{NoneBelow, NeverFalls}

none_below : (t : Token) (es : List (Token × ℤ)) → ((j : ℕ) (d : Token × ℤ) → j < length es → is_lt (token_cmp (get_or es j d).0 t) ≡ false) → NoneBelow t es
none_below t [] h = tt
none_below t (e ∷ es) h = (h 0 e (omega arith), none_below t es (λ j d l. h (suc j) d (omega arith)))

rising : (es : List (Token × ℤ)) → ((i j : ℕ) (d : Token × ℤ) → i ≤ j → j < length es → is_lt (token_cmp (get_or es j d).0 (get_or es i d).0) ≡ false) → NeverFalls es
rising [] h = tt
rising (e ∷ es) h = (none_below e.0 es (λ j d l. h 0 (suc j) d (omega arith) (omega arith)), rising es (λ i j d l m. h (suc i) (suc j) d (omega arith) (omega arith)))

pub never_falls : (es : List (Token × ℤ)) → IsSortedBy (λ x y. is_lt (token_cmp x.0 y.0)) es → NeverFalls es
never_falls es s = rising es (λ i j d l m. sorted_far (λ (x y : Token × ℤ). is_lt (token_cmp x.0 y.0)) (ranks_by token_total (λ (e : Token × ℤ). e.0)) es s i j d l m)
