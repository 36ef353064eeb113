-- What was created and not spent, output by output.
use Rattle.std.proofs.Common.{◌≡◌, ℕ, ◌≤◌, Bool, true, false, not, cond, List, [], ◌∷◌, ◌++◌, Option, Some, None, length, get_or, drop, filter, map, refl, sym, ◌∙◌, ap, subst, append_assoc}
use Rattle.std.proofs.lemmas.List.{drop_all}
use Rattle.std.specs.Prelude.{is_some}
use Rattle.std.specs.Map.{lookup}
use Rattle.ledger_kept.specs.EutxoTypes.declared.output.Output.{Output}
use Rattle.ledger_kept.specs.EutxoTypes.declared.output_ref.OutputRef.{OutputRef}
use Rattle.ledger_kept.specs.EutxoTypes.declared.spend.Spend.{Spend}
use Rattle.ledger_kept.specs.EutxoTypes.declared.tx.Tx.{Tx}
use Rattle.ledger_kept.specs.EutxoTypes.Parts.{same_ref}
use Rattle.ledger_kept.specs.LedgerLaws.Past.{Past, created, created_by, created_by_all, is_spent, unspent, unspent_at, with_references}
use Rattle.ledger_kept.proofs.FromLedgerLaws.ReferenceLaws.{unspent_is, same_ref-refl}
use Rattle.chain_holdings.specs.CreatedSupport.{first_there, if_unspent, unspent_among}

abbrev Rows : Type 0
Rows = List (OutputRef × Output)

-- ---- what is found

-- of a transaction that spends one output, the first that is found
pub one_found : (past : Past) (r : OutputRef) (inputs : List Spend) (outputs : List (Option Output)) → map (λ (x : Spend). x.reference) inputs ≡ r ∷ [] → outputs ≡ map (λ (x : Spend). unspent_at past x.reference) inputs →
    first_there outputs ≡ is_some (unspent_at past r)
one_found past r [] outputs one are = absurd (cc)
one_found past r (x ∷ []) outputs one are =
    let same : x.reference ≡ r = ap (λ (l : List OutputRef). get_or l 0 r) one in
    ap first_there are ∙ ap (λ (q : OutputRef). is_some (unspent_at past q)) same
one_found past r (x ∷ y ∷ xs) outputs one are = absurd (cc)

-- ---- all of it

-- each of these is found in all
abbrev AreFound : Rows → Rows → Type 0
AreFound all [] = Unit {0}
AreFound all (e ∷ es) = (is_some (lookup (same_ref e.0) all) ≡ true) × AreFound all es

found_behind : (pre es : Rows) (e : OutputRef × Output) → is_some (lookup (same_ref e.0) (pre ++ e ∷ es)) ≡ true
found_behind [] es e = ap (λ (b : Bool). is_some (cond b (Some e.1) (lookup (same_ref e.0) es))) (same_ref-refl e.0)
found_behind (p ∷ pre) es e = by (same_ref e.0 p.0) (found_behind pre es e)
  where
    by : (b : Bool) → is_some (lookup (same_ref e.0) (pre ++ e ∷ es)) ≡ true → is_some (cond b (Some p.1) (lookup (same_ref e.0) (pre ++ e ∷ es))) ≡ true
    by true go = refl
    by false go = go

all_found : (pre es : Rows) → AreFound (pre ++ es) es
all_found pre [] = tt
all_found pre (e ∷ es) = (found_behind pre es e, subst (λ (l : Rows). AreFound l es) (append_assoc pre (e ∷ []) es) (all_found (pre ++ e ∷ []) es))

kept_here : (past : Past) (e : OutputRef × Output) (es : Rows) → is_some (lookup (same_ref e.0) (created past)) ≡ true → unspent_among past es ≡ filter (λ x. not (is_spent past.accepted x.0)) es →
    unspent_among past (e ∷ es) ≡ filter (λ x. not (is_spent past.accepted x.0)) (e ∷ es)
kept_here past e es found go =
    ap (λ (o : Option Output). cond (is_some o) (e ∷ []) [] ++ unspent_among past es) (unspent_is past e.0) ∙ by (not (is_spent past.accepted e.0)) ∙ ap (λ (l : Rows). cond (not (is_spent past.accepted e.0)) (e ∷ l) l) go
  where
    there : (o : Option Output) → is_some o ≡ true → cond (is_some o) (e ∷ []) [] ++ unspent_among past es ≡ e ∷ unspent_among past es
    there None h = cc
    there (Some x) h = refl

    by : (b : Bool) → cond (is_some (cond b (lookup (same_ref e.0) (created past)) None)) (e ∷ []) [] ++ unspent_among past es ≡ cond b (e ∷ unspent_among past es) (unspent_among past es)
    by true = there (lookup (same_ref e.0) (created past)) found
    by false = refl

all_kept : (past : Past) (es : Rows) → AreFound (created past) es → unspent_among past es ≡ filter (λ x. not (is_spent past.accepted x.0)) es
all_kept past [] f = refl
all_kept past (e ∷ es) f = kept_here past e es f.0 (all_kept past es f.1)

-- of all that was created, it is what is unspent
pub unspent_so : (past : Past) → unspent_among past (created past) ≡ unspent past
unspent_so past = all_kept past (created past) (all_found [] (created past))

nothing_behind : (xs : Rows) → xs ≡ xs ++ []
nothing_behind [] = refl
nothing_behind (x ∷ xs) = ap (λ (l : Rows). x ∷ l) (nothing_behind xs)

-- once no transaction is left, all of it is there
pub unspent_end : (past : Past) (txs : List Tx) (i : ℕ) (lent : Rows) → length txs ≤ i → lent ++ unspent_among past (created_by_all (drop i txs)) ≡ unspent_among past (created past) → lent ≡ unspent past
unspent_end past txs i lent none so =
    nothing_behind lent ∙ ap (λ (l : List Tx). lent ++ unspent_among past (created_by_all l)) (sym (drop_all i txs none)) ∙ so ∙ unspent_so past
