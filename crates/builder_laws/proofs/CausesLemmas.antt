-- What the clauses leave that every request may fail of.
use Rattle.std.proofs.Common.{◌≡◌, ℕ, nat_lt, Bool, true, false, List, [], ◌∷◌, ◌++◌, length, refl, sym, ap, ◌∙◌, subst, append_assoc, Option, Some, None}
use Rattle.std.specs.Prelude.{if◌then◌else◌, is_none}
use Rattle.std.specs.List.{list_all, AllByRecursion}
use Rattle.ledger_spec.specs.EutxoTypes.declared.output.Output.{Output}
use Rattle.ledger_spec.specs.EutxoTypes.declared.redeemer.Redeemer.{Redeemer}
use Rattle.ledger_spec.specs.EutxoTypes.declared.redeemer.Redeemer.TheVariants as with
use Rattle.ledger_spec.specs.EutxoTypes.declared.spend.Spend.{Spend}
use Rattle.ledger_spec.specs.Eutxo.Found.{is_known}
use Rattle.ledger_spec.specs.Eutxo.Faults.{first_of}
use Rattle.ledger_spec.specs.Roles.declared.published.Published.{Published}
use Rattle.ledger_spec.specs.Ledger.declared.look.Unspent.{Unspent}
use Rattle.ledger_spec.specs.BuilderSpec.declared.fault.BuildFault.TheVariants.{NotSigned, TooMany, Repeated}
use Rattle.ledger_spec.specs.BuilderSpec.Holding.{sums, amount_in}
use Rattle.ledger_spec.specs.BuilderSpec.Causes.{is_signed, signature_cause, is_much, is_over, limit_cause, has_repeat, repeat_cause}
use Rattle.builder_laws.proofs.TestLemmas.{Everywhere, neither, each-append, each_front, each_so, all_everywhere, everywhere_all, unless, only_if}
use Rattle.builder_laws.proofs.NamedLemmas.{repeat_front}
use Rattle.builder_laws.proofs.PairLemmas.{paired, pairs, names, map-both, AreKeyed, IsKeyed, keyed}

pub is_nothing : {A : Type 0} (o : Option A) → o ≡ None → is_none o ≡ true
is_nothing o h = ap is_none h

pub unless_else : {F : Type 0} (b : Bool) (x : F) (o : Option F) → (if b then Some x else o) ≡ None → (b ≡ false) × (o ≡ None)
unless_else true x o h = cc
unless_else false x o h = (refl, h)

pub first_clear : {F : Type 0} (o : Option F) (os : List (Option F)) → first_of (o ∷ os) ≡ None → o ≡ None
first_clear None os h = refl
first_clear (Some x) os h = cc

-- the front is of signed keys
pub keyed_front : (signers : List (List ℕ)) (fs later offered : List Unspent) → offered ≡ fs ++ later → signature_cause signers offered ≡ None → AreKeyed signers fs
keyed_front signers fs later offered e h =
    let signed : Everywhere (λ (u : Unspent). is_signed signers u.output.lock) offered =
    all_everywhere (λ (u : Unspent). is_signed signers u.output.lock) offered (only_if (list_all (λ (u : Unspent). is_signed signers u.output.lock) offered) NotSigned h) in
    let is_so : Unspent → Type 0 = λ u. is_signed signers u.output.lock ≡ true in
    each_so is_so (IsKeyed signers) (keyed signers) fs (each_front is_so fs later (subst (AllByRecursion is_so) e signed))

-- nothing that is spent is named twice
pub named_once : (us fs later offered : List Unspent) → offered ≡ fs ++ later → repeat_cause (us ++ offered) ≡ None → has_repeat (names (us ++ fs)) ≡ false
named_once us fs later offered e h =
    repeat_front (names (us ++ fs)) (names later)
    (ap has_repeat (sym (map-both (λ (u : Unspent). u.reference) (us ++ fs) later) ∙ ap names (append_assoc us fs later) ∙ ap (λ zs. names (us ++ zs)) (sym e)) ∙ unless (has_repeat (names (us ++ offered))) Repeated h)

-- and it isn't too many
pub not_many : (spent : List Unspent) → limit_cause spent ≡ None → nat_lt 256 (length spent) ≡ false
not_many spent h = (neither (nat_lt 256 (length spent)) (is_much (sums amount_in spent)) (unless (is_over spent) TooMany h)).0

-- the scripts of all that is spent are known, where those of the first are
pub pairs_known : (named : List ℕ → Option Published) (w : Redeemer) (signers : List (List ℕ)) (us fs : List Unspent) → AllByRecursion (λ (u : Unspent). is_known named u.output.lock ≡ true) us → AreKeyed signers fs → list_all (λ (x : Spend × Output). is_known named x.1.lock) (pairs w us fs) ≡ true
pairs_known named w signers us fs h g =
    everywhere_all (λ (x : Spend × Output). is_known named x.1.lock) (pairs w us fs)
    (each-append (λ (x : Spend × Output). is_known named x.1.lock ≡ true) (paired w us) (paired with.None fs) (first us h) (keys fs g))
  where
    first : (xs : List Unspent) → AllByRecursion (λ (u : Unspent). is_known named u.output.lock ≡ true) xs → Everywhere (λ (x : Spend × Output). is_known named x.1.lock) (paired w xs)
    first [] k = tt
    first (x ∷ xs) k = (k.0, first xs k.1)

    keys : (xs : List Unspent) → AreKeyed signers xs → Everywhere (λ (x : Spend × Output). is_known named x.1.lock) (paired with.None xs)
    keys [] k = tt
    keys (x ∷ xs) k = (ap (is_known named) k.0.lock, keys xs k.1)
