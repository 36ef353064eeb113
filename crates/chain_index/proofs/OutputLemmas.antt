-- Outputs that come with a transaction, and what it spends.
use Rattle.std.proofs.Common.{◌≡◌, ℕ, ◌+◌, ◌<◌, ◌≤◌, arith, Bool, true, false, ◌||◌, List, [], ◌∷◌, ◌++◌, refl, sym, ◌∙◌, ap, drop, length, get_or, Option, Some}
use Rattle.std.specs.Prelude.{◌==◌, ◌&&◌}
use Rattle.std.specs.List.{list_any}
use Rattle.std.proofs.lemmas.Bool.{ne_eqb}
use Rattle.std.proofs.lemmas.List.{at_drop_more, map-append}
use Rattle.ledger_spec.specs.EutxoTypes.declared.output.Output.{Output}
use Rattle.ledger_spec.specs.EutxoTypes.declared.output_ref.OutputRef.{OutputRef}
use Rattle.ledger_spec.specs.EutxoTypes.declared.output_ref.OutputRef.TheVariants as ref
use Rattle.ledger_spec.specs.EutxoTypes.declared.spend.Spend.{Spend}
use Rattle.ledger_spec.specs.EutxoTypes.Parts.{same_bytes, same_ref}
use Rattle.ledger_spec.specs.LedgerLaws.Past.{with_references}
use Rattle.ledger_spec.proofs.FromLedgerLaws.PlainLaws.{both_false}
use Rattle.chain_index.specs.declared.naming.Naming.{Naming}
use Rattle.chain_index.specs.declared.naming.Naming.TheVariants.{Genesis, Made}
use Rattle.chain_index.specs.Contents.{is_among}
use Rattle.chain_index.specs.HolesSupport.{known}
use Rattle.chain_index.specs.NamingSupport.{naming, slots}
use Rattle.chain_index.proofs.RefLemmas.{among_more}

pub next_slots : (name : ℕ → OutputRef) (os : List Output) (i : ℕ) (o : Output) → i < length os → o ≡ get_or os i o →
    slots (with_references name i (drop i os)) ≡ slots ((name i, o) ∷ []) ++ slots (with_references name (i + 1) (drop (i + 1) os))
next_slots name os i o h e =
    at_drop_more (λ l. slots (with_references name i l)) os i o h
    ∙ ap (λ (x : Output). slots ((name i, x) ∷ with_references name (i + 1) (drop (i + 1) os))) (sym e)

and_second : (a b : Bool) → b ≡ false → a && b ≡ false
and_second true b h = h
and_second false b h = refl

-- outputs at two places have two names
pub names_differ : (w : Naming) (i j : ℕ) → i < j → same_ref (naming w i) (naming w j) ≡ false
names_differ Genesis i j h = ne_eqb i j (λ e. omega (arith, h, e))
names_differ (Made id) i j h = and_second (same_bytes id id) (i == j) (ne_eqb i j (λ e. omega (arith, h, e)))

pub absent_more : (w : Naming) (es : List (OutputRef × Option Output)) (i : ℕ) (o : Output) → ((j : ℕ) → i ≤ j → is_among (known es) (naming w j) ≡ false) →
    (j : ℕ) → i + 1 ≤ j → is_among (known (es ++ (naming w i, Some o) ∷ [])) (naming w j) ≡ false
absent_more w es i o h j k =
    ap (λ (rs : List OutputRef). is_among rs (naming w j)) (map-append (λ e. e.0) es ((naming w i, Some o) ∷ []))
    ∙ among_more (known es) (naming w i) (naming w j)
    ∙ both_false (is_among (known es) (naming w j)) (same_ref (naming w i) (naming w j)) (h j (omega (arith, k))) (names_differ w i j (omega (arith, k)))

-- what is left of the inputs, and what leaves already
pub next_leaves : (xs : List Spend) (i : ℕ) (x : Spend) (r : OutputRef) (before after : Bool) → i < length xs → x ≡ get_or xs i x → after ≡ (same_ref x.reference r || before) →
    (list_any (λ y. same_ref y.reference r) (drop i xs) || before) ≡ (list_any (λ y. same_ref y.reference r) (drop (i + 1) xs) || after)
next_leaves xs i x r before after h e k =
    ap (λ b. b || before) (at_drop_more (λ l. list_any (λ y. same_ref y.reference r) l) xs i x h ∙ ap (λ (y : Spend). same_ref y.reference r || list_any (λ z. same_ref z.reference r) (drop (i + 1) xs)) (sym e))
    ∙ swap (same_ref x.reference r) (list_any (λ y. same_ref y.reference r) (drop (i + 1) xs)) before
    ∙ ap (λ b. list_any (λ y. same_ref y.reference r) (drop (i + 1) xs) || b) (sym k)
  where
    swap : (a b c : Bool) → ((a || b) || c) ≡ (b || (a || c))
    swap true true c = refl
    swap true false c = refl
    swap false b c = refl

pub made_named : (id : List ℕ) → naming (Made id) ≡ (λ j. ref.Made id j)
made_named id = λ i j. ref.Made id j

pub genesis_named : naming Genesis ≡ (λ j. ref.Genesis j)
genesis_named = λ i j. ref.Genesis j

pub none_made : (id : List ℕ) (i k : ℕ) (os : List Output) → is_among (known (slots (with_references (λ j. ref.Genesis j) k os))) (ref.Made id i) ≡ false
none_made id i k [] = refl
none_made id i k (o ∷ os) = none_made id i (k + 1) os
