-- What spends an unspent output has an id that no accepted transaction has.
use Rattle.std.proofs.Common.{◌≡◌, ℕ, zero, suc, ℤ, Bool, true, false, ◌||◌, List, [], ◌∷◌, refl, sym, ap, ◌∙◌, append-nil, Option, Some, None}
use Rattle.std.specs.List.{slice_get, list_any, AllByRecursion}
use Rattle.std.specs.Cmp.Lexicographic.{bytes_decides}
use Rattle.ledger_spec.specs.EutxoTypes.declared.fault.TxFault.TheVariants.{NoInputs}
use Rattle.ledger_spec.specs.EutxoTypes.declared.output.Output.{Output}
use Rattle.ledger_spec.specs.EutxoTypes.declared.spend.Spend.{Spend}
use Rattle.ledger_spec.specs.EutxoTypes.declared.tx.Tx.{Tx}
use Rattle.ledger_spec.specs.EutxoTypes.Fitting.{TxFits}
use Rattle.ledger_spec.specs.EutxoTypes.Ids.{id_of}
use Rattle.ledger_spec.specs.EutxoTypes.Spelling.{tx_bytes}
use Rattle.ledger_spec.specs.ContractBytes.Unambiguous.{BeginsNoOther}
use Rattle.ledger_spec.specs.Eutxo.Judgement.{judge}
use Rattle.ledger_spec.specs.Eutxo.Laws.{FoundIsEnough}
use Rattle.ledger_spec.specs.EutxoTypes.Parts.{same_ref}
use Rattle.ledger_spec.specs.Eutxo.Faults.{is_empty}
use Rattle.ledger_spec.specs.Eutxo.Rules.{no_inputs, too_many, repeated_input}
use Rattle.ledger_spec.specs.Roles.declared.published.Published.{Published}
use Rattle.ledger_spec.specs.Ledger.declared.look.Unspent.{Unspent}
use Rattle.ledger_spec.specs.LedgerLaws.Past as past
use Rattle.ledger_spec.specs.LedgerLaws.Past.{Past, has_id, is_spent, is_used, unspent_at}
use Rattle.ledger_spec.specs.LedgerLaws.Sound.{moment}
use Rattle.ledger_spec.specs.Roles.Steps.{marlowe}
use Rattle.ledger_spec.proofs.FromLedgerLaws.ReferenceLaws.{same_ref-refl, unspent_so}
use Rattle.ledger_spec.specs.Open.{IsAlone, IsOpen}
use Rattle.builder_laws.specs.AfterPasts.{Fit, BytesTellApart}
use Rattle.builder_laws.proofs.TestLemmas.{by_recursion, each_at, unless}
use Rattle.builder_laws.proofs.NamedLemmas.{refs}
use Rattle.builder_laws.proofs.PairLemmas.{names}
use Rattle.builder_laws.proofs.CausesLemmas.{first_clear}
use Rattle.builder_laws.proofs.AcceptingLemmas.{IsClean, judged}

-- where a test passes
passing_at : {A : Type 0} (test : A → Bool) (xs : List A) → list_any test xs ≡ true → (n : ℕ) × (x : A) × (slice_get xs n ≡ Some x) × (test x ≡ true)
passing_at test [] h = cc
passing_at {A} test (x ∷ xs) h = by (test x) refl h (passing_at test xs)
  where
    by : (b : Bool) → test x ≡ b → b || list_any test xs ≡ true → (list_any test xs ≡ true → (n : ℕ) × (y : A) × (slice_get xs n ≡ Some y) × (test y ≡ true)) → (n : ℕ) × (y : A) × (slice_get (x ∷ xs) n ≡ Some y) × (test y ≡ true)
    by true e k go = (0, x, refl, e)
    by false e k go = let p = go k in (suc p.0, p.1, p.2, p.3)

any_at : {A : Type 0} (test : A → Bool) (xs : List A) (n : ℕ) (x : A) → slice_get xs n ≡ Some x → test x ≡ true → list_any test xs ≡ true
any_at test [] n x e h = cc
any_at test (y ∷ ys) zero x e h = let same : y ≡ x = cc in ap (λ z. test z || list_any test ys) same ∙ ap (λ b. b || list_any test ys) h
any_at test (y ∷ ys) (suc n) x e h = either (test y) (list_any test ys) (any_at test ys n x e h)
  where
    either : (a b : Bool) → b ≡ true → a || b ≡ true
    either true b k = refl
    either false b k = k

names_first : (tx : Tx) (x : Spend) (xs : List Spend) → tx.inputs ≡ x ∷ xs → past.is_input_of x.reference tx ≡ true
names_first tx x xs e = ap (list_any (λ (y : Spend). same_ref y.reference x.reference)) e ∙ ap (λ b. b || list_any (λ (y : Spend). same_ref y.reference x.reference) xs) (same_ref-refl x.reference)

-- bytes tell transactions apart
pub bytes_tell_apart : BeginsNoOther TxFits tx_bytes → BytesTellApart
bytes_tell_apart law p tx other n fit at e =
    law other tx (each_at TxFits p.accepted (by_recursion TxFits p.accepted fit.accepted) n other at) fit.fits [] (append-nil (tx_bytes other) ∙ e)

-- an accepted transaction with its id is the same one
abbrev IsOnly : Past → Tx → Type 0
IsOnly p tx = (n : ℕ) (other : Tx) → slice_get p.accepted n ≡ Some other → id_of other ≡ id_of tx → other ≡ tx

is_only : BytesTellApart → (p : Past) (tx : Tx) → Fit p tx → IsAlone p tx → IsOnly p tx
is_only apart p tx fit alone n other at e = apart p tx other n fit at (alone n other at e)

-- a transaction that names an unspent output was not accepted
new : (p : Past) (tx : Tx) (x : Spend) (xs : List Spend) (o : Output) → tx.inputs ≡ x ∷ xs → unspent_at p x.reference ≡ Some o → IsOnly p tx → (b : Bool) → is_used p.accepted (id_of tx) ≡ b → b ≡ false
new p tx x xs o e h only false q = refl
new p tx x xs o e h only true q =
    let at = passing_at (has_id (id_of tx)) p.accepted q in
    let same : at.1 ≡ tx = only at.0 at.1 at.2 (sym ((bytes_decides (id_of tx) (id_of at.1)).0 at.3)) in
    let spent : is_spent p.accepted x.reference ≡ true =
    any_at (past.is_input_of x.reference) p.accepted at.0 at.1 at.2 (ap (past.is_input_of x.reference) same ∙ names_first tx x xs e) in
    sym spent ∙ (unspent_so p x.reference o h).0

from_first : (p : Past) (tx : Tx) (xs : List Spend) (spent : List Unspent) → tx.inputs ≡ xs → is_empty xs ≡ false → refs xs ≡ names spent → AllByRecursion (λ (u : Unspent). unspent_at p u.reference ≡ Some u.output) spent → IsOnly p tx →
    is_used p.accepted (id_of tx) ≡ false
from_first p tx [] spent e s n h only = cc
from_first p tx (x ∷ xs) [] e s n h only = cc
from_first p tx (x ∷ xs) (u ∷ us) e s n h only =
    let same : x.reference ≡ u.reference = cc in
    new p tx x xs u.output e (ap (unspent_at p) same ∙ h.0) only (is_used p.accepted (id_of tx)) refl

-- so what is clean is accepted after a past
pub judged_after : FoundIsEnough marlowe → BytesTellApart → (published : List ℕ → Option Published) (p : Past) (tick : ℤ) (tx : Tx) (spent : List Unspent) (ys : List (Spend × Output)) → IsClean published tx spent ys → Fit p tx → IsOpen p tick spent tx → judge marlowe (moment published p tick) tx ≡ None
judged_after enough apart published p tick tx spent ys h fit open_ =
    judged enough (moment published p tick) tx spent ys h (record {
      unspent = open_.unspent;
      unused = from_first p tx tx.inputs spent refl (unless (is_empty tx.inputs) NoInputs (first_clear (no_inputs tx) (too_many tx ∷ repeated_input tx ∷ []) h.first)) h.names (by_recursion (λ (u : Unspent). unspent_at p u.reference ≡ Some u.output) spent open_.unspent) (is_only apart p tx fit open_.alone);
      from = open_.from;
      to = open_.to;
    })
