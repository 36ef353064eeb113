-- The data that layouts bring have the digests that their outputs hold.
use Rattle.std.proofs.Common.{◌≡◌, ℕ, ◌+◌, false, List, [], ◌∷◌, ◌++◌, map, refl, sym, ap, ◌∙◌, append_assoc, Some, None}
use Rattle.std.specs.Prelude.{if◌then◌else◌}
use Rattle.std.specs.List.{AllByRecursion}
use Rattle.std.specs.Cmp.Lexicographic.{bytes_decides}
use Rattle.ledger_spec.specs.Machine.declared.datum.Datum.{Datum}
use Rattle.ledger_spec.specs.EutxoTypes.declared.fault.TxFault.TheVariants.{WrongDatum}
use Rattle.ledger_spec.specs.EutxoTypes.declared.output.Output.{Output}
use Rattle.ledger_spec.specs.EutxoTypes.declared.redeemer.Redeemer.{Redeemer}
use Rattle.ledger_spec.specs.EutxoTypes.declared.redeemer.Redeemer.TheVariants as with
use Rattle.ledger_spec.specs.EutxoTypes.declared.spend.Spend.{Spend}
use Rattle.ledger_spec.specs.EutxoTypes.declared.tx.Tx.{Tx}
use Rattle.ledger_spec.specs.EutxoTypes.Digests.{datum_hash}
use Rattle.ledger_spec.specs.EutxoTypes.Parts.{is_contract, contract_in}
use Rattle.ledger_spec.specs.Eutxo.Rules.{digest_in, digests_in, digests_held, first_unlike, wrong_datum}
use Rattle.ledger_spec.specs.Roles.Steps.{continuation}
use Rattle.ledger_spec.proofs.FromLedgerLaws.PartLaws.{no_contract_in}
use Rattle.ledger_spec.specs.Ledger.declared.look.Unspent.{Unspent}
use Rattle.builder_laws.proofs.TestLemmas.{mapped}
use Rattle.builder_laws.proofs.PairLemmas.{paired, pairs, AreKeyed}

-- ---- digests that are held

abbrev pub outputs_of : List (Spend × Output) → List Output
outputs_of ys = map (λ x. x.1) ys

-- keys hold none
pub none_of_keys : (signers : List (List ℕ)) (fs : List Unspent) → AreKeyed signers fs → digests_in (outputs_of (paired with.None fs)) ≡ []
none_of_keys signers [] g = refl
none_of_keys signers (f ∷ fs) g = ap (λ l. digest_in (contract_in l) ++ digests_in (outputs_of (paired with.None fs))) g.0.lock ∙ none_of_keys signers fs g.1

-- so where none of the others is a contract, what is spent holds none
pub none_spent : (w : Redeemer) (signers : List (List ℕ)) (us fs : List Unspent) → AllByRecursion (λ u. contract_in u.output.lock ≡ None) us → AreKeyed signers fs → digests_in (outputs_of (pairs w us fs)) ≡ []
none_spent w signers [] fs h g = none_of_keys signers fs g
none_spent w signers (u ∷ us) fs h g = ap (λ c. digest_in c ++ digests_in (outputs_of (pairs w us fs))) h.0 ∙ none_spent w signers us fs h.1 g

pub none_made : (os : List Output) → AllByRecursion (λ (o : Output). is_contract o.lock ≡ false) os → digests_in os ≡ []
none_made [] h = refl
none_made (o ∷ os) h = ap (λ c. digest_in c ++ digests_in os) (no_contract_in o.lock h.0) ∙ none_made os h.1

-- of outputs in which contracts go on, and others that are no contracts
pub digests_made : (script : List ℕ) (ds : List Datum) (os : List Output) → AllByRecursion (λ (o : Output). is_contract o.lock ≡ false) os → digests_in (map (continuation script) ds ++ os) ≡ map datum_hash ds
digests_made script [] os h = none_made os h
digests_made script (d ∷ ds) os h = ap (λ hs. datum_hash d ∷ hs) (digests_made script ds os h)

pub digests_append : (xs ys : List Output) → digests_in (xs ++ ys) ≡ digests_in xs ++ digests_in ys
digests_append [] ys = refl
digests_append (x ∷ xs) ys = ap (λ hs. digest_in (contract_in x.lock) ++ hs) (digests_append xs ys) ∙ sym (append_assoc (digest_in (contract_in x.lock)) (digests_in xs) (digests_in ys))

-- ---- data that are brought

-- the data of their own digests
own_digests : (i : ℕ) (ds : List Datum) → first_unlike i (map datum_hash ds) ds ≡ None
own_digests i [] = refl
own_digests i (d ∷ ds) =
    ap (λ b. if b then first_unlike (i + 1) (map datum_hash ds) ds else Some i) ((bytes_decides (datum_hash d) (datum_hash d)).1 refl) ∙ own_digests (i + 1) ds

-- no datum is wrong where those are brought of which the outputs hold the digests
pub none_wrong : (tx : Tx) (ys : List (Spend × Output)) (spent made : List (List ℕ)) → digests_in (outputs_of ys) ≡ spent → digests_in tx.outputs ≡ made → map datum_hash tx.datums ≡ spent ++ made → wrong_datum tx ys ≡ None
none_wrong tx ys spent made h k e =
    let held : digests_held tx ys ≡ map datum_hash tx.datums = ap (λ hs. hs ++ digests_in tx.outputs) h ∙ ap (λ hs. spent ++ hs) k ∙ sym e in
    mapped WrongDatum _ (ap (λ hs. first_unlike 0 hs tx.datums) held ∙ own_digests 0 tx.datums)
