-- Copies of accounts.
use Rattle.std.proofs.Common.{◌≡◌, ℕ, ◌+◌, ◌<◌, ℤ, List, [], ◌∷◌, ◌++◌, length, take, drop, get_or, refl, sym, ◌∙◌, ap, subst}
use Rattle.std.proofs.Math.Dec.{T}
use Rattle.std.proofs.lemmas.List.{take-append-drop}
use Rattle.std.specs.Ordering.{is_lt, ordering_reverse}
use Rattle.std.specs.declared.cmp.Ordering.{Ordering}
use Rattle.std.specs.declared.cmp.Ordering.TheVariants.{Less, Equal, Greater}
use Rattle.std.specs.FinMap.{FinMap, entries, empty, from_sorted, entries-from_sorted, entries_sorted, get-entries, same_map}
use Rattle.std.specs.FinMap.Entries.{find, put, is_sorted, below_all, by_order}
use Rattle.contract.proofs.FromCollections.Maps.{no_entries}
use Rattle.contract.proofs.FromCollections.Places.{second, third}
use Rattle.contract.specs.Names.declared.account.Account.{Account}
use Rattle.contract.specs.Names.Orders.{account_cmp, choice_id_cmp, bytes_cmp}
use Rattle.contract.specs.Names.Totals.{account_total}
use Rattle.contract.proofs.FromNames.Exact.{account_exact}
use Rattle.contract.specs.States.States.{StateMaps}
use Rattle.builder_spec.specs.Starts.{fresh_state}
use Rattle.coin_selection.proofs.ListLaws.{here, up_to}

less : (r : Ordering) → T (is_lt r) → r ≡ Less
less Less h = refl
less Equal h = absurd h
less Greater h = absurd h

below_at : (k : Account) (xs ys : List (Account × ℤ)) (e : Account × ℤ) → T (below_all account_cmp k (xs ++ e ∷ ys)) → T (is_lt (account_cmp k e.0))
below_at k [] ys e h = second _ _ h
below_at k (x ∷ xs) ys e h = below_at k xs ys e (third _ _ h)

greater : (a b : Account) → account_cmp a b ≡ Less → account_cmp b a ≡ Greater
greater a b h = account_total.antisymm b a ∙ ap ordering_reverse h

-- an entry after all others is put at the end
put_end : (xs ys : List (Account × ℤ)) (e : Account × ℤ) → T (is_sorted account_cmp (xs ++ e ∷ ys)) → put account_cmp e.0 e.1 xs ≡ xs ++ e ∷ []
put_end [] ys e s = refl
put_end (x ∷ xs) ys e s =
    let after = greater x.0 e.0 (less (account_cmp x.0 e.0) (below_at x.0 xs ys e (second _ _ s))) in
    ap (λ r. by_order r ((e.0, e.1) ∷ x ∷ xs) ((x.0, e.1) ∷ xs) (x ∷ put account_cmp e.0 e.1 xs)) after ∙ ap (λ zs. x ∷ zs) (put_end xs ys e (third _ _ s))

pub put_next : (es : List (Account × ℤ)) (i : ℕ) (e : Account × ℤ) → T (is_sorted account_cmp es) → i < length es → e ≡ get_or es i e → put account_cmp e.0 e.1 (take i es) ≡ take (i + 1) es
put_next es i e s l is =
    let split : es ≡ take i es ++ e ∷ drop (i + 1) es = sym (take-append-drop i es) ∙ ap (λ zs. take i es ++ zs) (here es i e l is) in
    put_end (take i es) (drop (i + 1) es) e (subst (λ zs. T (is_sorted account_cmp zs)) split s) ∙ up_to es i e l is

back_again : (m : FinMap account_cmp ℤ) → from_sorted (entries m) ≡ m
back_again m = same_map account_total account_exact (from_sorted (entries m)) m
    (λ k. get-entries (from_sorted (entries m)) k ∙ ap (find account_cmp k) (entries-from_sorted account_cmp (entries m) (entries_sorted m)) ∙ sym (get-entries m k))

abbrev pub state_of : FinMap account_cmp ℤ → FinMap choice_id_cmp ℤ → FinMap bytes_cmp ℤ → ℤ → StateMaps
state_of a c b t = record { accounts = a; choices = c; bound_values = b; min_time = t }

pub fresh_is : (s : StateMaps) (a : List (Account × ℤ)) (t : ℤ) → a ≡ entries s.accounts → t ≡ s.min_time → state_of (from_sorted a) (from_sorted []) (from_sorted []) t ≡ fresh_state s
fresh_is s a t h k =
    ap (λ m. state_of m (from_sorted []) (from_sorted []) t) (ap from_sorted h ∙ back_again s.accounts)
    ∙ ap (λ m. state_of s.accounts m (from_sorted []) t) (no_entries choice_id_cmp)
    ∙ ap (λ m. state_of s.accounts empty m t) (no_entries bytes_cmp)
    ∙ ap (λ n. state_of s.accounts empty empty n) k
