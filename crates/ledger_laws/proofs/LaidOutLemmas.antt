-- What a step that no rule refuses is, and how its block is laid out.
use Rattle.std.proofs.Common.{◌≡◌, ℕ, ◌+◌, Bool, true, false, not, cond, List, [], ◌∷◌, ◌++◌, refl, sym, ◌∙◌, ap, Option, Some, None, Result, Ok, Err, drop, length}
use Rattle.std.specs.Prelude.{if◌then◌else◌, All}
use Rattle.std.specs.List.{slice_get, filter_map, find}
use Rattle.std.specs.Cmp.Lexicographic.{bytes_decides}
use Rattle.std.proofs.lemmas.List.Elements.{All-nil, All-cons}
use Rattle.contract.proofs.FromCollections.SameLaws.{same_by_decides}
use Rattle.contract.specs.Names.declared.party.Party.{Party}
use Rattle.contract.specs.declared.fault.SemFault.{SemFault}
use Rattle.contract.specs.declared.fault.SemFault.TheVariants.{NoMatch}
use Rattle.contract.specs.States.States.{StateMaps}
use Rattle.contract.specs.Tree.{ContractTree, close}
use Rattle.roles.specs.Evaluation.Numbers.{all_fit}
use Rattle.roles.specs.Semantics.Walk.{Standing, Walk, answer_of}
use Rattle.roles.specs.Semantics.Laws.{TurnsLead}
use Rattle.roles.specs.Bundle.Bundles.{Amounts}
use Rattle.roles.specs.Bundle.contracts.bundle.Bundle as bundles
use Rattle.roles.specs.Machine.declared.datum.Datum.{Datum}
use Rattle.roles.specs.Machine.contracts.datum.Datum as datums
use Rattle.roles.specs.Eutxo.declared.step_fault.StepFault.{StepFault}
use Rattle.roles.specs.Eutxo.declared.step_fault.StepFault.TheVariants.{NotAuthorised, WrongContinuation, WrongPayment}
use Rattle.roles.specs.EutxoTypes.declared.output.Output.{Output}
use Rattle.roles.specs.EutxoTypes.contracts.output.Output as outputs
use Rattle.roles.specs.EutxoTypes.declared.tx.Tx.{Tx}
use Rattle.roles.specs.Eutxo.declared.validator.StepAnswer.TheVariants.{Refused, Takes}
use Rattle.roles.specs.Eutxo.Faults.{first_of}
use Rattle.roles.specs.Eutxo.Blocks.{continues, fault_in}
use Rattle.roles.specs.Eutxo.Asked.{Stepping, refusal_of}
use Rattle.roles.specs.Terms.{Terms, IsTable}
use Rattle.roles.specs.Sums.{sums_of}
use Rattle.roles.specs.Table.Flat.{is_close}
use Rattle.roles.specs.Steps.{same_output, same_datum, continuation, due_outputs, actor, authorised, unauthorised, first_unpaid, is_instance, holds_just, goes_on_in, walk_of, not_authorised, wrong_continuation, wrong_payment, outcome_fault, next_datum, by_answer, step_of}
use Rattle.roles.specs.EutxoTypes.Parts.{same_bytes, Instance, lock_of, contract_at}
use Rattle.ledger_laws.specs.Threads.{Effect, LaidOut}
use Rattle.ledger_laws.proofs.PlainLaws.{and_true, not_false, same_some}
use Rattle.ledger_laws.proofs.PartLaws.{lock_so}
use Rattle.ledger_laws.proofs.DatumLaws.{Tells, output_so}
use Rattle.ledger_laws.proofs.JudgedLemmas.{each_none, mapped_none, unless}

unpaid_if : (b : Bool) (n : ℕ) (later : Option ℕ) → (if b then later else Some n) ≡ None → (b ≡ true) × (later ≡ None)
unpaid_if true n later h = (refl, h)
unpaid_if false n later h = cc

same_so : (a b : Output) → same_output a b ≡ true → a ≡ b
same_so a b h = (same_by_decides outputs.the_row.coded a b).0 h

-- where none is unpaid they come first
pub pays : (n : ℕ) (xs os : List Output) → first_unpaid n xs os ≡ None → (rest : List Output) × (os ≡ xs ++ rest)
pays n [] os h = (os, refl)
pays n (x ∷ xs) [] h = cc
pays n (x ∷ xs) (o ∷ os) h =
    let e = unpaid_if (same_output o x) n (first_unpaid (n + 1) xs os) h in
    let p = pays (n + 1) xs os e.1 in
    (p.0, ap (λ (z : Output). z ∷ os) (same_so o x e.0) ∙ ap (λ (zs : List Output). x ∷ zs) p.1)

-- the output in which a contract goes on
instance_same : (script : List ℕ) (d : Datum) (z : Option Instance) → is_instance script d z ≡ true → z ≡ Some (let c : Instance = record { script = script; datum = d } in c)
instance_same script d None h = cc
instance_same script d (Some c) h =
    let p = and_true (same_bytes c.script script) (same_datum c.datum d) h in
    let e = (bytes_decides c.script script).0 p.0 in
    let f = (same_by_decides datums.the_row.coded c.datum d).0 p.1 in
    λ i. Some (let x : Instance = record { script = e i; datum = f i } in x)

just_so : (m : Amounts) (z : Option Output) → holds_just m z ≡ true → (o : Output) × (z ≡ Some o) × (o.amount ≡ m)
just_so m None h = cc
just_so m (Some o) h = (o, refl, (same_by_decides bundles.the_row.coded o.amount m).0 h)

goes_so : (tx : Tx) → Tells tx → (i : ℕ) (script : List ℕ) (d : Datum) → goes_on_in tx i script d ≡ true →
    (contract_at tx i ≡ Some (record { script = script; datum = d })) × (slice_get tx.outputs i ≡ Some (continuation script d))
goes_so tx tells i script d h =
    let p = and_true (is_instance script d (contract_at tx i)) (holds_just (sums_of d.state) (slice_get tx.outputs i)) h in
    let it = instance_same script d (contract_at tx i) p.0 in
    let o = just_so (sums_of d.state) (slice_get tx.outputs i) p.1 in
    let z = output_so tx tells i (record { script = script; datum = d }) it in
    let lock = lock_so (z.0).lock (lock_of (record { script = script; datum = d })) z.2 in
    let amount = ap (λ (x : Output). x.amount) (same_some z.0 o.0 (sym z.1 ∙ o.1)) ∙ o.2 in
    (it, z.1 ∙ (λ k. Some (let x : Output = record { lock = lock k; amount = amount k } in x)))

abbrev pub effect_of : Walk → StateMaps → ContractTree → Effect
effect_of w s c = record { warnings = w.warnings; payments = w.payments; state = s; contract = c }

-- ---- a step that passes

-- where the contract goes on
abbrev pub datum_after : Terms → Stepping → StateMaps → Datum
datum_after t s state = next_datum t s.datum (walk_of t s) state

abbrev pub rules_after : Terms → Stepping → StateMaps → Bool → List (Option StepFault)
rules_after t s state closed = not_authorised t.currency s ∷ wrong_continuation closed (datum_after t s state) s ∷ wrong_payment t.currency closed (walk_of t s).payments s ∷ []

-- it is the transaction function's, from a number of the table, and no rule refuses its block, in whose first output it goes on unless
-- the contract is over; what is made holds the digests of its data
pub record Stepped (t : Terms) (s : Stepping) : Type 0 where
  pub at : Standing
  pub answer : answer_of (walk_of t s) ≡ Ok at
  pub has : t.has s.datum.cont ≡ true
  pub rules : first_of (rules_after t s at.state (is_close at.contract)) ≡ None
  pub goes : continues s.«from» (step_of t s) ≡ (if is_close at.contract then None else Some s.«from»)
  pub tells : Tells s.tx

-- where a block goes on of a contract that is taken
on_so : (i : ℕ) (closed : Bool) (f : Option StepFault) (n : ℕ) → continues i (Takes f (not closed) n) ≡ (if closed then None else Some i)
on_so i true f n = refl
on_so i false f n = refl

pub stepped_so : (t : Terms) (s : Stepping) → Tells s.tx → fault_in (step_of t s) ≡ None → Stepped t s
stepped_so t s tells h = by (t.has s.datum.cont) refl h
  where
    result : t.has s.datum.cont ≡ true → (r : Result Standing SemFault) → answer_of (walk_of t s) ≡ r → fault_in (by_answer t s (walk_of t s) r) ≡ None → Stepped t s
    result has (Err f) e h = cc
    result has (Ok a) e h =
        let closed = is_close a.contract in
        let fault = outcome_fault t.currency closed (datum_after t s a.state) (walk_of t s).payments s in
        record {
          at = a;
          answer = e;
          has = has;
          rules = mapped_none refusal_of fault h;
          goes =
              ap (λ (b : Bool). continues s.«from» (if b then by_answer t s (walk_of t s) (answer_of (walk_of t s)) else Refused NoMatch)) has
              ∙ ap (λ (r : Result Standing SemFault). continues s.«from» (by_answer t s (walk_of t s) r)) e
              ∙ on_so s.«from» closed fault (length (due_outputs t.currency (walk_of t s).payments));
          tells = tells;
        }

    by : (b : Bool) → t.has s.datum.cont ≡ b → fault_in (if b then by_answer t s (walk_of t s) (answer_of (walk_of t s)) else Refused NoMatch) ≡ None → Stepped t s
    by true e h = result e (answer_of (walk_of t s)) refl h
    by false e h = cc

-- ---- who acts is authorised

none_left : (test : Party → Bool) (ps : List Party) → find (λ p. not (test p)) ps ≡ None → All (λ p. test p ≡ true) ps
none_left test [] h = All-nil (λ p. test p ≡ true)
none_left test (p ∷ ps) h = by (test p) refl h (none_left test ps)
  where
    by : (b : Bool) → test p ≡ b → cond (not b) (Some p) (find (λ p. not (test p)) ps) ≡ None → (find (λ p. not (test p)) ps ≡ None → All (λ p. test p ≡ true) ps) → All (λ p. test p ≡ true) (p ∷ ps)
    by true e h go = All-cons (λ p. test p ≡ true) p ps e (go h)
    by false e h go = cc

pub authorised_so : (t : Terms) (s : Stepping) → Stepped t s → All (λ p. authorised t.currency s.tx.signers s.spent p ≡ true) (filter_map actor s.inputs)
authorised_so t s z =
    none_left (authorised t.currency s.tx.signers s.spent) (filter_map actor s.inputs)
    (mapped_none NotAuthorised (unauthorised t.currency s.tx.signers s.spent s.inputs) (each_none (rules_after t s (z.at).state (is_close (z.at).contract)) z.rules).0)

-- ---- where it goes on

-- the first output of its block is the one with which it goes on
pub goes_on : (t : Terms) (s : Stepping) → Tells s.tx → (state : StateMaps) → first_of (rules_after t s state false) ≡ None →
    (contract_at s.tx s.«from» ≡ Some (record { script = s.script; datum = datum_after t s state })) × (slice_get s.tx.outputs s.«from» ≡ Some (continuation s.script (datum_after t s state)))
goes_on t s tells state h =
    let d = datum_after t s state in
    goes_so s.tx tells s.«from» s.script d (not_false (goes_on_in s.tx s.«from» s.script d) (unless (not (goes_on_in s.tx s.«from» s.script d)) WrongContinuation (each_none (rules_after t s state false) h).1.0))

-- a contract output in which it goes on
pub record Continues (t : Terms) (s : Stepping) (a : Standing) (i : ℕ) (c : Instance) : Type 0 where
  pub contract : c ≡ record { script = s.script; datum = datum_after t s a.state }
  pub output : slice_get s.tx.outputs i ≡ Some (continuation s.script (datum_after t s a.state))

pub continues_so : (t : Terms) (s : Stepping) → (z : Stepped t s) → (i : ℕ) (c : Instance) → continues s.«from» (step_of t s) ≡ Some i → contract_at s.tx i ≡ Some c → Continues t s z.at i c
continues_so t s z i c e h = by (is_close (z.at).contract) z.rules (sym z.goes ∙ e)
  where
    by : (b : Bool) → first_of (rules_after t s (z.at).state b) ≡ None → (if b then None else Some s.«from») ≡ Some i → Continues t s z.at i c
    by true r f = cc
    by false r f =
        let place : s.«from» ≡ i = same_some s.«from» i f in
        let g = goes_on t s z.tells (z.at).state r in
        record {
          contract = same_some c _ (sym h ∙ ap (contract_at s.tx) (sym place) ∙ g.0);
          output = ap (slice_get s.tx.outputs) (sym place) ∙ g.1;
        }

-- ---- how it is laid out

laid_out : (t : Terms) (s : Stepping) → Tells s.tx → (state : StateMaps) (c : ContractTree) → first_of (rules_after t s state (is_close c)) ≡ None →
    (t.has (datum_after t s state).cont ≡ true) × (t.tree (datum_after t s state).cont ≡ c) →
    LaidOut t s.script (effect_of (walk_of t s) state c) s.«from» s.tx
laid_out t s tells state close h led =
    pays s.«from» (due_outputs t.currency (walk_of t s).payments) (drop s.«from» s.tx.outputs) (mapped_none WrongPayment _ (each_none (rules_after t s state true) h).1.1.0)
laid_out t s tells state c h led =
    let g = goes_on t s tells state h in
    let paid = mapped_none WrongPayment _ (each_none (rules_after t s state false) h).1.1.0 in
    ((datum_after t s state).cont, led.0, led.1, g.0, g.1, pays (s.«from» + 1) (due_outputs t.currency (walk_of t s).payments) (drop (s.«from» + 1) s.tx.outputs) paid)

ended_so : (b : Bool) (r : Result Standing SemFault) (f : SemFault) (a : Standing) → (if b then r else Err f) ≡ Ok a → r ≡ Ok a
ended_so true r f a h = h
ended_so false r f a h = cc

-- the number to which a step leads stands for what remains
pub led_so : TurnsLead → (t : Terms) → IsTable t → (s : Stepping) → (z : Stepped t s) →
    (t.has (datum_after t s (z.at).state).cont ≡ true) × (t.tree (datum_after t s (z.at).state).cont ≡ (z.at).contract)
led_so turns t table s z =
    let w = walk_of t s in
    let end : w.end ≡ Ok z.at = ended_so (all_fit w.numbers) w.end _ z.at z.answer in
    table.led s.datum.cont w.turns (z.at).contract z.has (turns s.tx.interval s.datum.state (t.tree s.datum.cont) s.inputs z.at end)

pub laid_so : TurnsLead → (t : Terms) → IsTable t → (s : Stepping) → (z : Stepped t s) → LaidOut t s.script (effect_of (walk_of t s) (z.at).state (z.at).contract) s.«from» s.tx
laid_so turns t table s z = laid_out t s z.tells (z.at).state (z.at).contract z.rules (led_so turns t table s z)
