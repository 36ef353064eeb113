-- Inputs of the parts of a request with the outputs that were handed in for them.
use Rattle.std.proofs.Common.{◌≡◌, ℕ, suc, ◌+ℤ◌, Bool, false, ◌||◌, List, [], ◌∷◌, ◌++◌, map, drop, length, refl, sym, ap, ◌∙◌, Option, Some}
use Rattle.std.specs.Prelude.{int_lt, ◌&&◌, pos, count_by}
use Rattle.std.specs.List.{AllByRecursion}
use Rattle.std.specs.Option.{option_map}
use Rattle.contract.specs.Names.declared.token.Token.{Token}
use Rattle.ledger_spec.specs.Bundle.Bundles.{amount_of}
use Rattle.ledger_spec.specs.Bundle.Totals.{total_of}
use Rattle.ledger_spec.specs.Machine.declared.datum.Datum.{Datum}
use Rattle.ledger_spec.specs.EutxoTypes.declared.output.Output.{Output}
use Rattle.ledger_spec.specs.EutxoTypes.declared.redeemer.Redeemer.TheVariants as with
use Rattle.ledger_spec.specs.EutxoTypes.declared.spend.Spend.{Spend}
use Rattle.ledger_spec.specs.EutxoTypes.Digests.{datum_hash}
use Rattle.ledger_spec.specs.EutxoTypes.Parts.{is_contract, is_key, is_step, step_count, contract_in}
use Rattle.ledger_spec.specs.Eutxo.Found.{with_outputs}
use Rattle.ledger_spec.specs.Eutxo.Rules.{digest_in, digests_in, Step, or_step, steps_of}
use Rattle.ledger_spec.specs.Roles.Steps.{role_token, holds_role}
use Rattle.ledger_spec.specs.Ledger.declared.look.Unspent.{Unspent}
use Rattle.ledger_spec.specs.BuilderSpec.Holding.{amount_in, holds_token}
use Rattle.ledger_spec.specs.BuilderSpec.Laying.{by_key, by_step}
use Rattle.ledger_spec.specs.BuilderSpec.Steps.{Stepped, own_output}
use Rattle.ledger_spec.specs.BuilderSpec.Parts.{own_outputs}
use Rattle.builder_laws.specs.Accepting.{contents}
use Rattle.builder_laws.proofs.TestLemmas.{Nowhere, none_counted, one_more}
use Rattle.builder_laws.proofs.NamedLemmas.{refs}
use Rattle.builder_laws.proofs.PairLemmas.{paired, map-both, keys_paired, names, refs_keys, AreKeyed, IsKeyed, nowhere_keys, keys_hold, total_paired, no_keys_step, none_steps}
use Rattle.builder_laws.proofs.DatumLemmas.{outputs_of, none_of_keys}
use Rattle.builder_laws.proofs.LookThreadLemmas.{IsThread}

-- the input of a part, and the output of its thread
abbrev pub part_input : Stepped → Spend
part_input s = by_step s.inputs (own_output s.thread)

abbrev pub part_pair : Stepped → Spend × Output
part_pair s = (part_input s, s.thread.shown.output)

abbrev pub parts_pairs : List Stepped → List Unspent → List (Spend × Output)
parts_pairs ss fs = map part_pair ss ++ paired with.None fs

-- the threads stand as looks show them
abbrev pub AreThreads : List Stepped → Type 0
AreThreads ss = AllByRecursion (λ (s : Stepped). IsThread s.thread) ss

front_paired : (ss : List Stepped) (xs : List Spend) (os : List (Option Output)) (zs : List (Spend × Output)) → with_outputs xs os ≡ Some zs → with_outputs (map part_input ss ++ xs) (contents (own_outputs ss) ++ os) ≡ Some (map part_pair ss ++ zs)
front_paired [] xs os zs h = h
front_paired (s ∷ ss) xs os zs h = ap (option_map (λ ys. part_pair s ∷ ys)) (front_paired ss xs os zs h)

-- each input with its output
pub parts_paired : (ss : List Stepped) (fs : List Unspent) → with_outputs (map part_input ss ++ map by_key fs) (contents (own_outputs ss ++ fs)) ≡ Some (parts_pairs ss fs)
parts_paired ss fs =
    ap (with_outputs (map part_input ss ++ map by_key fs)) (map-both (λ (u : Unspent). Some u.output) (own_outputs ss) fs)
    ∙ front_paired ss (map by_key fs) (contents fs) (paired with.None fs) (keys_paired fs)

refs_parts : (ss : List Stepped) (xs : List Spend) → refs (map part_input ss ++ xs) ≡ names (own_outputs ss) ++ refs xs
refs_parts [] xs = refl
refs_parts (s ∷ ss) xs = ap (λ rs. s.thread.shown.reference ∷ rs) (refs_parts ss xs)

-- the inputs name what is spent
pub parts_named : (ss : List Stepped) (fs : List Unspent) → refs (map part_input ss ++ map by_key fs) ≡ names (own_outputs ss ++ fs)
parts_named ss fs = refs_parts ss (map by_key fs) ∙ ap (λ rs. names (own_outputs ss) ++ rs) (refs_keys fs) ∙ sym (map-both (λ (u : Unspent). u.reference) (own_outputs ss) fs)

-- a test that neither a part nor a key passes
pub nowhere_parts : (signers : List (List ℕ)) (test : Spend × Output → Bool) (ss : List Stepped) (fs : List Unspent) → AllByRecursion (λ (s : Stepped). test (part_pair s) ≡ false) ss → ((u : Unspent) → IsKeyed signers u → test (by_key u, u.output) ≡ false) → AreKeyed signers fs →
    Nowhere test (parts_pairs ss fs)
nowhere_parts signers test [] fs h k g = nowhere_keys signers test k fs g
nowhere_parts signers test (s ∷ ss) fs h k g = (h.0, nowhere_parts signers test ss fs h.1 k g)

-- of a role's token, what the keys hold is shown
pub parts_hold : (signers : List (List ℕ)) (c r : List ℕ) (ss : List Stepped) (fs : List Unspent) → AreThreads ss → AreKeyed signers fs → holds_role (parts_pairs ss fs) c r ≡ holds_token fs (role_token c r)
parts_hold signers c r [] fs h g = keys_hold signers c r fs g
parts_hold signers c r (s ∷ ss) fs h g =
    ap (λ l. (is_key l && int_lt (pos 0) (amount_of s.thread.shown.output.amount (role_token c r))) || holds_role (parts_pairs ss fs) c r) (h.0).lock ∙ parts_hold signers c r ss fs h.1 g

-- they hold what is spent
pub parts_total : (t : Token) (ss : List Stepped) (fs : List Unspent) → total_of (λ (x : Spend × Output). x.1.amount) t (parts_pairs ss fs) ≡ total_of amount_in t (own_outputs ss ++ fs)
parts_total t [] fs = total_paired with.None t fs
parts_total t (s ∷ ss) fs = ap (λ n. amount_of s.thread.shown.output.amount t +ℤ n) (parts_total t ss fs)

-- ---- as many contracts, and steps, as there are parts

pub contracts_counted : (signers : List (List ℕ)) (ss : List Stepped) (fs : List Unspent) → AreThreads ss → AreKeyed signers fs → count_by (λ (x : Spend × Output). is_contract x.1.lock) (parts_pairs ss fs) ≡ length ss
contracts_counted signers [] fs h g = none_counted (λ (x : Spend × Output). is_contract x.1.lock) (paired with.None fs) (nowhere_keys signers (λ (x : Spend × Output). is_contract x.1.lock) (λ u k. ap is_contract k.lock) fs g)
contracts_counted signers (s ∷ ss) fs h g =
    one_more (λ (x : Spend × Output). is_contract x.1.lock) (part_pair s) (parts_pairs ss fs) (ap is_contract (h.0).lock) ∙ ap suc (contracts_counted signers ss fs h.1 g)

pub steps_counted : (ss : List Stepped) (fs : List Unspent) → step_count (map part_input ss ++ map by_key fs) ≡ length ss
steps_counted [] fs = none_counted (λ (x : Spend). is_step x.redeemer) (map by_key fs) (none_steps with.None refl fs)
steps_counted (s ∷ ss) fs = one_more (λ (x : Spend). is_step x.redeemer) (part_input s) (map part_input ss ++ map by_key fs) refl ∙ ap suc (steps_counted ss fs)

abbrev pub threads_data : List Stepped → List Datum
threads_data ss = map (λ (s : Stepped). s.thread.datum) ss

-- behind their data are those of the outputs
pub data_behind : (ss : List Stepped) (ds : List Datum) → drop (length ss) (threads_data ss ++ ds) ≡ ds
data_behind [] ds = refl
data_behind (s ∷ ss) ds = data_behind ss ds

abbrev pub part_step : Stepped → Step
part_step s = record { reference = s.thread.shown.reference; script = s.thread.shown.published.id; datum = s.thread.datum; inputs = s.inputs }

-- each part is stepped at its datum
pub parts_stepped : (signers : List (List ℕ)) (ss : List Stepped) (fs : List Unspent) (ds : List Datum) → AreThreads ss → AreKeyed signers fs → steps_of (parts_pairs ss fs) (threads_data ss ++ ds) ≡ map part_step ss
parts_stepped signers [] fs ds h g = no_keys_step signers fs ds g
parts_stepped signers (s ∷ ss) fs ds h g =
    ap (λ l. or_step (contract_in l) (part_input s) (threads_data (s ∷ ss) ++ ds) (steps_of (parts_pairs ss fs))) (h.0).lock ∙ ap (λ zs. part_step s ∷ zs) (parts_stepped signers ss fs ds h.1 g)

-- what is spent holds the digests of their data
pub parts_digests : (signers : List (List ℕ)) (ss : List Stepped) (fs : List Unspent) → AreThreads ss → AreKeyed signers fs → digests_in (outputs_of (parts_pairs ss fs)) ≡ map datum_hash (threads_data ss)
parts_digests signers [] fs h g = none_of_keys signers fs g
parts_digests signers (s ∷ ss) fs h g =
    ap (λ l. digest_in (contract_in l) ++ digests_in (outputs_of (parts_pairs ss fs))) (h.0).lock ∙ ap (λ hs. datum_hash s.thread.datum ∷ hs) (parts_digests signers ss fs h.1 g)
