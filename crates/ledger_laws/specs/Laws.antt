-- What holds of every sound past, however a ledger came by it.
use Rattle.std.specs.Prelude.{◌≡◌, ℕ, ◌+◌, ◌<◌, ◌≤◌, ℤ, true, List, [], map, slice_get, All, Option, Some, None}
use Rattle.std.specs.List.{filter_map}
use Rattle.contract.specs.Names.declared.token.Token.{Token}
use Rattle.contract.specs.Tree.{ContractTree}
use Rattle.roles.specs.Bundle.Totals.{total_of}
use Rattle.roles.specs.Machine.declared.datum.Datum.{Datum}
use Rattle.roles.specs.EutxoTypes.declared.output.Output.{Output}
use Rattle.roles.specs.EutxoTypes.declared.output_ref.OutputRef.{OutputRef}
use Rattle.roles.specs.EutxoTypes.declared.spend.Spend.{Spend}
use Rattle.roles.specs.EutxoTypes.declared.tx.Tx.{Tx}
use Rattle.roles.specs.Eutxo.Asked.{Judges}
use Rattle.roles.specs.Eutxo.Blocks.{Block, size}
use Rattle.roles.specs.Eutxo.Found.{with_outputs}
use Rattle.roles.specs.Eutxo.Judgement.{judge}
use Rattle.roles.specs.EutxoTypes.Digests.{datum_hash}
use Rattle.roles.specs.EutxoTypes.Ids.{id_of}
use Rattle.roles.specs.EutxoTypes.Parts.{is_contract, ContractLock, contract_in, is_step, inputs_of, Instance, lock_of}
use Rattle.roles.specs.declared.published.Published.{Published}
use Rattle.roles.specs.Terms.{IsTable, terms_of}
use Rattle.roles.specs.Steps.{actor, authorised, is_fresh, marlowe}
use Rattle.roles.specs.Sums.{sums_of}
use Rattle.ledger_laws.specs.Past.{Past, before, after, created, unspent, unspent_at}
use Rattle.ledger_laws.specs.Threads.{blocks_of, next_of, thread, thread_end, IsMade, IsStart, StartsThread, BringsWhatWasMade, Member, Run, contract_after, state_after, Carries}
use Rattle.ledger_laws.specs.Sound.{moment, AreKeys, IsSound, IsMore}

-- one, and no other
abbrev pub ExactlyOne : {A : Type 0} → (A → Type 0) → Type 0
ExactlyOne {A} F = (x : A) × F x × ((y : A) → F y → y ≡ x)

-- ---- whatever the scripts

-- a contract input of the n-th accepted transaction, by its place: what it spends is a contract's output
pub record IsContractInput (past : Past) (n i : ℕ) (tx : Tx) (x : Spend) (o : Output) : Type 0 where
  pub accepted : slice_get past.accepted n ≡ Some tx
  pub input : slice_get tx.inputs i ≡ Some x
  pub there : unspent_at (before past n) x.reference ≡ Some o
  pub contract : is_contract o.lock ≡ true

-- a transaction is the member of a thread that spends an output
abbrev pub IsMember : {V : Type 0} → Judges V → (List ℕ → Option V) → Past → OutputRef → OutputRef → Tx → Type 0
IsMember j named past r q tx = (i : ℕ) × (slice_get (thread j named past r) i ≡ Some (record { spends = q; tx = tx }))

-- EVERY CONTRACT INPUT OF AN ACCEPTED TRANSACTION STANDS ON EXACTLY ONE THREAD
abbrev pub EachStepHasItsThread : {V : Type 0} → Judges V → (List ℕ → Option V) → Past → Type 0
EachStepHasItsThread j named past =
    (n i : ℕ) (tx : Tx) (x : Spend) (o : Output) → IsContractInput past n i tx x o → ExactlyOne (λ r. StartsThread past r × IsMember j named past r x.reference tx)

abbrev pub StepsStandOnThreads : {V : Type 0} → Judges V → Type 0
StepsStandOnThreads {V} j = (published : List ℕ → Option V) (past : Past) → IsSound j published past → EachStepHasItsThread j published past

-- and a contract output is spent by a step alone: the input that names it brings one
abbrev pub ContractsAreStepped : Past → Type 0
ContractsAreStepped past = (n i : ℕ) (tx : Tx) (x : Spend) (o : Output) → IsContractInput past n i tx x o → is_step x.redeemer ≡ true

abbrev pub StepsSpendContracts : {V : Type 0} → Judges V → Type 0
StepsSpendContracts {V} j = (published : List ℕ → Option V) (past : Past) → IsSound j published past → ContractsAreStepped past

-- and a step spends a contract output: an input that brings one names it
abbrev pub StepsAreOfContracts : Past → Type 0
StepsAreOfContracts past =
    (n i : ℕ) (tx : Tx) (x : Spend) → slice_get past.accepted n ≡ Some tx → slice_get tx.inputs i ≡ Some x → is_step x.redeemer ≡ true → (o : Output) × IsContractInput past n i tx x o

abbrev pub StepsNameContracts : {V : Type 0} → Judges V → Type 0
StepsNameContracts {V} j = (published : List ℕ → Option V) (past : Past) → IsSound j published past → StepsAreOfContracts past

-- what holds of each unspent contract output: it was made with a contract, under whose lock it stands, and of which this holds
abbrev pub OfUnspentContracts : Past → (OutputRef → Output → Instance → Type 0) → Type 0
OfUnspentContracts past F =
    (q : OutputRef) (o : Output) → unspent_at past q ≡ Some o → is_contract o.lock ≡ true →
    (c : Instance) × IsMade past q c × (contract_in o.lock ≡ Some (lock_of c)) × F q o c

-- each is the end of exactly one thread: a start output, or the next output of a thread's last transaction
abbrev pub EachContractEndsAThread : {V : Type 0} → Judges V → (List ℕ → Option V) → Past → Type 0
EachContractEndsAThread j named past = OfUnspentContracts past (λ q o c. ExactlyOne (λ r. StartsThread past r × (thread_end j named past r ≡ Some q)))

-- and where a thread has an end, that is an unspent contract output
abbrev pub EachEndIsUnspent : {V : Type 0} → Judges V → (List ℕ → Option V) → Past → Type 0
EachEndIsUnspent j named past = (r q : OutputRef) → StartsThread past r → thread_end j named past r ≡ Some q → (o : Output) × (unspent_at past q ≡ Some o) × (is_contract o.lock ≡ true)

abbrev pub EndsAreUnspent : {V : Type 0} → Judges V → Type 0
EndsAreUnspent {V} j = (published : List ℕ → Option V) (past : Past) → IsSound j published past → EachEndIsUnspent j published past

abbrev pub ContractsEndThreads : {V : Type 0} → Judges V → Type 0
ContractsEndThreads {V} j = (published : List ℕ → Option V) (past : Past) → IsSound j published past → EachContractEndsAThread j published past

-- where a thread goes on after an accepted transaction stays: where more is published, and where one more is accepted
pub record NextStays {V : Type 0} (j : Judges V) (published later : List ℕ → Option V) (past : Past) (tx : Tx) : Type 0 where
  pub more : (r : OutputRef) → next_of j later past r tx ≡ next_of j published past r tx
  pub accepted : (s : Tx) (r : OutputRef) → next_of j published (after past s) r tx ≡ next_of j published past r tx

abbrev pub ThreadsStay : {V : Type 0} → Judges V → Type 0
ThreadsStay {V} j =
    (published later : List ℕ → Option V) (past : Past) → IsMore published later → IsSound j published past →
    (n : ℕ) (tx : Tx) → slice_get past.accepted n ≡ Some tx → NextStays j published later past tx

-- ONE OUTPUT NEVER SERVES TWO CONTRACTS: of two blocks of a transaction the outputs of the earlier, its payments among them, all stand before the
-- first of the later
abbrev pub BlocksAreApart : {V : Type 0} → Judges V → (List ℕ → Option V) → Past → Type 0
BlocksAreApart j named past =
    (tx : Tx) (n m : ℕ) (a b : Block) → slice_get (blocks_of j named past tx) n ≡ Some a → slice_get (blocks_of j named past tx) m ≡ Some b → n < m → a.from + size a.answer ≤ b.from

abbrev pub OutputsServeOneContract : {V : Type 0} → Judges V → Type 0
OutputsServeOneContract {V} j = (published : List ℕ → Option V) (past : Past) → BlocksAreApart j published past

-- of each token the unspent outputs hold together what the first outputs held
abbrev pub IsPreserved : Past → Type 0
IsPreserved past = (t : Token) → total_of (λ e. e.1.amount) t (unspent past) ≡ total_of (λ o. o.amount) t past.genesis

abbrev pub TokensArePreserved : {V : Type 0} → Judges V → Type 0
TokensArePreserved {V} j = (published : List ℕ → Option V) (past : Past) → IsSound j published past → IsPreserved past

-- no two outputs that there ever were have one reference
abbrev pub ReferencesAreSingle : Past → Type 0
ReferencesAreSingle past =
    (n m : ℕ) (a b : OutputRef × Output) → slice_get (created past) n ≡ Some a → slice_get (created past) m ≡ Some b → a.0 ≡ b.0 → n ≡ m

-- and no two accepted transactions have one id
abbrev pub IdsAreSingle : Past → Type 0
IdsAreSingle past = (n m : ℕ) (s t : Tx) → slice_get past.accepted n ≡ Some s → slice_get past.accepted m ≡ Some t → id_of s ≡ id_of t → n ≡ m

abbrev pub NamesAreSingle : {V : Type 0} → Judges V → Type 0
NamesAreSingle {V} j = (published : List ℕ → Option V) (past : Past) → IsSound j published past → ReferencesAreSingle past × IdsAreSingle past

-- no two inputs, of one accepted transaction or of two, name one output
abbrev pub IsSpentOnce : Past → Type 0
IsSpentOnce past =
    (n m i k : ℕ) (s t : Tx) (x y : Spend) → slice_get past.accepted n ≡ Some s → slice_get past.accepted m ≡ Some t →
    slice_get s.inputs i ≡ Some x → slice_get t.inputs k ≡ Some y → x.reference ≡ y.reference → (n ≡ m) × (i ≡ k)

abbrev pub OutputsAreSpentOnce : {V : Type 0} → Judges V → Type 0
OutputsAreSpentOnce {V} j = (published : List ℕ → Option V) (past : Past) → IsSound j published past → IsSpentOnce past

-- a ledger begins sound where it begins with key outputs, stays sound where it accepts what is judged without fault, and where
-- more is published
abbrev pub StartIsSound : {V : Type 0} → Judges V → Type 0
StartIsSound {V} j = (published : List ℕ → Option V) (genesis : List Output) → AreKeys genesis → IsSound j published (record { genesis = genesis; accepted = [] })

abbrev pub AfterIsSound : {V : Type 0} → Judges V → Type 0
AfterIsSound {V} j =
    (published : List ℕ → Option V) (past : Past) (tick : ℤ) (tx : Tx) → IsSound j published past → judge j (moment published past tick) tx ≡ None → IsSound j published (after past tx)

abbrev pub LaterIsSound : {V : Type 0} → Judges V → Type 0
LaterIsSound {V} j = (published later : List ℕ → Option V) (past : Past) → IsMore published later → IsSound j published past → IsSound j later past

-- ---- of Marlowe's contracts

-- the numbers of what is published are a table's
abbrev pub AreTables : (List ℕ → Option Published) → Type 0
AreTables published = (script : List ℕ) (p : Published) → published script ≡ Some p → IsTable (terms_of p)

-- THE PREMISE ON DIGESTS: no two different data that accepted transactions bring have one digest
abbrev pub DigestsTell : Past → Type 0
DigestsTell past =
    (n m i k : ℕ) (s t : Tx) (d e : Datum) → slice_get past.accepted n ≡ Some s → slice_get past.accepted m ≡ Some t →
    slice_get s.datums i ≡ Some d → slice_get t.datums k ≡ Some e → datum_hash d ≡ datum_hash e → d ≡ e

-- so each transaction of a thread brings, for the output that it spends, the datum that the output's maker brought
abbrev pub DigestsTellWhatWasMade : Type 0
DigestsTellWhatWasMade = (published : List ℕ → Option Published) (past : Past) → IsSound marlowe published past → DigestsTell past → (r : OutputRef) → BringsWhatWasMade marlowe published past r

-- the thread of a start output is exactly one run: it starts at the root of what is published, without choices and bound values, and carries one list of
-- members. Where it brings what was made, that is a run of the contract, from the state in the start's datum
pub record IsOneRun (named : List ℕ → Option Published) (past : Past) (r : OutputRef) (c : Instance) (p : Published) (contract : ContractTree) : Type 0 where
  pub root : c.datum.cont ≡ p.root
  pub fresh : is_fresh c.datum.state ≡ true
  pub carried : ExactlyOne (λ run. Carries named past (terms_of p) c.script (thread marlowe named past r) run)
  pub run : BringsWhatWasMade marlowe named past r → Run contract c.datum.state carried.0

-- THE THREAD OF EACH START OUTPUT IS EXACTLY ONE RUN of the contract that was published under its script
abbrev pub EachIsARun : (List ℕ → Option Published) → Past → Type 0
EachIsARun published past = (r : OutputRef) (c : Instance) → IsStart past r c → (p : Published) × (published c.script ≡ Some p) × IsOneRun published past r c p ((terms_of p).tree p.root)

abbrev pub ThreadsAreRuns : Type 0
ThreadsAreRuns = (published : List ℕ → Option Published) (past : Past) → AreTables published → IsSound marlowe published past → EachIsARun published past

-- and where the thread has an end, that is where its last member left it, and where nobody stepped it the start: of the thread's script, at a number that
-- stands for what remains, in the state that is left. This needs no premise on digests
abbrev pub EndsWithItsRun : (List ℕ → Option Published) → Past → Type 0
EndsWithItsRun published past =
    (r : OutputRef) (c : Instance) → IsStart past r c → (p : Published) → published c.script ≡ Some p →
    (run : List Member) → Carries published past (terms_of p) c.script (thread marlowe published past r) run →
    (q : OutputRef) (e : Instance) → thread_end marlowe published past r ≡ Some q → IsMade past q e →
    (e.script ≡ c.script) × ((terms_of p).tree e.datum.cont ≡ contract_after ((terms_of p).tree p.root) run) × (e.datum.state ≡ state_after c.datum.state run)

abbrev pub ThreadsEndWithRuns : Type 0
ThreadsEndWithRuns = (published : List ℕ → Option Published) (past : Past) → AreTables published → IsSound marlowe published past → EndsWithItsRun published past

-- each unspent contract output holds exactly the sums of its accounts
abbrev pub AreFunded : Past → Type 0
AreFunded past = OfUnspentContracts past (λ q o c. o.amount ≡ sums_of c.datum.state)

abbrev pub ContractsAreFunded : Type 0
ContractsAreFunded = (published : List ℕ → Option Published) (past : Past) → IsSound marlowe published past → AreFunded past

-- and stands at a number of what was published under its script
abbrev pub AreOfTables : (List ℕ → Option Published) → Past → Type 0
AreOfTables published past = OfUnspentContracts past (λ q o c. (p : Published) × (published c.script ≡ Some p) × ((terms_of p).has c.datum.cont ≡ true))

abbrev pub ContractsAreOfTables : Type 0
ContractsAreOfTables = (published : List ℕ → Option Published) (past : Past) → AreTables published → IsSound marlowe published past → AreOfTables published past

-- each party that the inputs of a step need is an address among the signers, or a role whose token, of the contract's currency,
-- the output of a key input holds
pub record IsAuthorised (published : List ℕ → Option Published) (tx : Tx) (spent : List (Spend × Output)) (x : Spend × Output) : Type 0 where
  pub lock : ContractLock
  pub contract : contract_in x.1.lock ≡ Some lock
  pub object : Published
  pub named : published lock.script ≡ Some object
  pub parties : All (λ party. authorised object.currency tx.signers spent party ≡ true) (filter_map actor (inputs_of x.0.redeemer))

-- the inputs of the n-th accepted transaction with the outputs that they spend
abbrev pub SpendsThere : Past → ℕ → Tx → List (Spend × Output) → Type 0
SpendsThere past n tx spent = with_outputs tx.inputs (map (λ x. unspent_at (before past n) x.reference) tx.inputs) ≡ Some spent

-- so is each step of an accepted transaction
abbrev pub EachIsAuthorised : (List ℕ → Option Published) → Past → Type 0
EachIsAuthorised published past =
    (n : ℕ) (tx : Tx) → slice_get past.accepted n ≡ Some tx →
    (spent : List (Spend × Output)) × SpendsThere past n tx spent
    × ((i : ℕ) (x : Spend × Output) → slice_get spent i ≡ Some x → is_step x.0.redeemer ≡ true → IsAuthorised published tx spent x)

abbrev pub PartiesAreAuthorised : Type 0
PartiesAreAuthorised = (published : List ℕ → Option Published) (past : Past) → IsSound marlowe published past → EachIsAuthorised published past
