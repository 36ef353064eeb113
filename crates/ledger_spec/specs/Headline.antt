-- THE HEADLINE: whatever a ledger accepts, the inputs that spend each contract are one run of that contract, also where one transaction steps
-- several, if no two different data that its transactions bring have one digest; and what is built of a request that nothing hinders is accepted.
--
-- Words: a `Course` is what a ledger began with and its entries; its `Past` is what it began with and accepted. A start output begins a `thread`, the
-- transactions that step one contract; its `thread_end` is the output where it goes on. A `Run` is a list of members, each what the transaction
-- function gives from where the one before ended; a thread `Carries` a run where its transactions have that run's inputs, payments and data. `named` is
-- what is published under an id. A request is what a builder is asked for, with the outputs that are offered: `hinders_..` is why it is refused, and
-- `layout_..` the transaction that is built.
use Rattle.std.specs.Prelude.{◌≡◌, ℕ, List, ◌++◌, All, Option, Some, None}
use Rattle.contract.specs.Tree.{contract_tree}
use Rattle.builder_spec.specs.EutxoTypes.declared.tx.Tx.{Tx}
use Rattle.builder_spec.specs.EutxoTypes.declared.output_ref.OutputRef.{OutputRef}
use Rattle.builder_spec.specs.EutxoTypes.Fitting.{TxFits}
use Rattle.builder_spec.specs.EutxoTypes.Parts.{Instance}
use Rattle.builder_spec.specs.Roles.declared.published.Published.{Published}
use Rattle.builder_spec.specs.Roles.Steps.{marlowe}
use Rattle.builder_spec.specs.Roles.Terms.{terms_of}
use Rattle.ledger_laws.specs.Past.{Past}
use Rattle.ledger_laws.specs.Sound.{AreKeys}
use Rattle.ledger_laws.specs.Threads.{thread, IsStart, BringsWhatWasMade, Run, Carries}
use Rattle.ledger_laws.specs.Laws.{ExactlyOne, IsOneRun, DigestsTell, EndsWithItsRun, BlocksAreApart, EachStepHasItsThread, ContractsAreStepped, EachIsAuthorised, EachContractEndsAThread, EachEndIsUnspent, AreFunded, AreOfTables, ReferencesAreSingle, IdsAreSingle, IsSpentOnce, IsPreserved, StepsAreOfContracts}
use Rattle.builder_spec.specs.Ledger.declared.call.Entry.{Entry}
use Rattle.builder_spec.specs.Ledger.declared.look.Unspent.{Unspent}
use Rattle.builder_spec.specs.Requests.{StepsRequest, StartRequest, ClaimRequest}
use Rattle.builder_spec.specs.Parts.{threads_of, parts_spent, ArePublished, hinders_steps, layout_steps}
use Rattle.builder_spec.specs.Steps.{Stepped}
use Rattle.builder_spec.specs.Starts.{start_front, hinders_start, layout_start}
use Rattle.builder_spec.specs.Claims.{claim_front, hinders_claim, layout_claim}
use Rattle.ledger_spec.specs.AcceptedAt.{Accepts, IsOpenAfter, AcceptsPlace, IsOpenAtPlace}
use Rattle.ledger_spec.specs.Legal.{IsLegal, before_entry}
use Rattle.ledger_spec.specs.Publishing.{IsPublication, StandsUnderItsId, IdsTellContracts}
use Rattle.ledger_spec.specs.Replay.{Course, published, published_at, world, past_of}
use Rattle.ledger_spec.specs.ThreadsShown.{AnyoneClosesShown, ShowsCurrentThreads, ShowsThreadsOfStarts, ShowsWhereThreadsStand, ShowsWhatIsNotOver}

-- ---- THE FIRST HALF: STEPS ARE RUNS

-- the thread of each start output is exactly one run of the contract that a Publish call published under its script
abbrev pub EachIsARunOfItsContract : List Entry → (List ℕ → Option Published) → Past → Type 0
EachIsARunOfItsContract es named past =
    (r : OutputRef) (i : Instance) → IsStart past r i →
    (p : Published) × (named i.script ≡ Some p) × (x : IsPublication es i.script p) × IsOneRun named past r i p (contract_tree x.contract)

-- and in one sentence, where it brings what was made: from the state in the start's datum
abbrev pub EachIsJustOneRun : List Entry → (List ℕ → Option Published) → Past → Type 0
EachIsJustOneRun es named past =
    (r : OutputRef) (i : Instance) → IsStart past r i →
    (p : Published) × (named i.script ≡ Some p) × (x : IsPublication es i.script p)
    × ExactlyOne (λ run. Run (contract_tree x.contract) i.datum.state run × Carries named past (terms_of p) i.script (thread marlowe named past r) run)

-- what holds after these entries of all that was accepted, where this is published under ids
pub record IsSoundLedger (es : List Entry) (named : List ℕ → Option Published) (past : Past) : Type 0 where
  -- what is published under an id is what an entry published: its root stands for the entry's contract
  pub published : (id : List ℕ) (p : Published) → named id ≡ Some p → IsPublication es id p
  -- and what an entry published stands under its id
  pub stands : StandsUnderItsId es named
  -- one contract and one currency
  pub told_apart : IdsTellContracts es
  -- the inputs of accepted transactions that spend each contract are one run of it, and of no other: from the state of its start, input for input,
  -- with the run's warnings, payments, states and remaining contracts. That each member goes on from where the one before ended needs that the
  -- thread's transactions bring what was made; nothing else does
  pub runs : EachIsARunOfItsContract es named past
  -- and they do, where no two different data that accepted transactions bring have one digest
  pub digests : DigestsTell past → (r : OutputRef) → BringsWhatWasMade marlowe named past r
  -- so there the thread of each start output is exactly one run
  pub one_run : DigestsTell past → EachIsJustOneRun es named past
  -- a thread that isn't over ends where its last member left it: the same remaining contract, in the same state
  pub ends_with_run : EndsWithItsRun named past
  -- every contract input of an accepted transaction stands on exactly one thread
  pub steps : EachStepHasItsThread marlowe named past
  -- a contract output is spent by a step alone
  pub stepped : ContractsAreStepped past
  -- and a step spends a contract output
  pub of_contracts : StepsAreOfContracts past
  -- one output never serves two contracts, be it the one in which a contract goes on or a payment
  pub apart : BlocksAreApart marlowe named past
  -- each party that a step's inputs need is an address that signed, or a role whose token a key input's output holds
  pub authorised : EachIsAuthorised named past
  -- each unspent contract output is the end of exactly one thread
  pub ends : EachContractEndsAThread marlowe named past
  -- and each end is an unspent contract output
  pub unspent : EachEndIsUnspent marlowe named past
  -- such an output holds exactly the sums of its accounts (above 0, and the totals by which the transaction function keeps money: laws of `roles`)
  pub funded : AreFunded past
  -- and stands at a number of the table that was published under its script
  pub numbers : AreOfTables named past
  -- no two outputs that there ever were have one reference
  pub references : ReferencesAreSingle past
  -- no two accepted transactions have one id
  pub ids : IdsAreSingle past
  -- no output is spent twice
  pub once : IsSpentOnce past
  -- of each token the unspent outputs hold together what the first outputs held
  pub preserved : IsPreserved past

-- HOWEVER CALLS INTERLEAVE, so it is after every legal history
abbrev pub StepsAreRuns : Course → Type 0
StepsAreRuns c = IsSoundLedger c.entries (published_at (published c.entries)) (past_of (world c))

-- ---- THE SECOND HALF: BUILDS ARE ACCEPTED

-- what is built of a request that nothing hinders is accepted, where this is published and it is open
pub record AcceptsBuilt (named : List ℕ → Option Published) (IsFree : List Unspent → Tx → Type 0) (IsAccepted : Tx → Type 0) : Type 0 where
  -- the layout of steps, where what each part's look shows under its thread's script is published: of one thread (`hinders_step` is of one part) or of
  -- several, also of several contracts and currencies
  pub parts : (r : StepsRequest) (ss : List Stepped) → threads_of r.parts ≡ Some ss → hinders_steps r ≡ None →
      ArePublished named ss → IsFree (parts_spent r ss) (layout_steps r) → IsAccepted (layout_steps r)
  -- that of a start, where what is started is published
  pub starts : (r : StartRequest) → hinders_start r ≡ None → named r.published.id ≡ Some r.published → IsFree (start_front r) (layout_start r) → IsAccepted (layout_start r)
  -- and that of a claim
  pub claims : (r : ClaimRequest) → hinders_claim r ≡ None → IsFree (r.payouts ++ claim_front r) (layout_claim r) → IsAccepted (layout_claim r)

-- WHAT IS BUILT IS ACCEPTED after this history, for every look and request, whatever other entries there are; and what the looks of its
-- end show
pub record BuildsAreAccepted (c : Course) : Type 0 where
  -- by a Submit: where nothing hinders steps (the transaction function succeeds from each state that a look shows; the offers are signed,
  -- authorise and fund them within the limits, none twice), their layout is accepted while what it spends is unspent as it was handed in, its scripts
  -- are published as shown, no accepted transaction of other bytes has its id, and the tick lies in its interval. So are the layouts of a start and
  -- of a claim
  pub built : AcceptsBuilt (published_at (world c).published) (IsOpenAfter c) (Accepts c)
  -- and at each place of a Round, where it is open when that place is judged
  pub places : (n : ℕ) → AcceptsBuilt (published_at (world c).published) (IsOpenAtPlace c n) (λ tx. AcceptsPlace c n)
  -- a look shows no thread but one that meets the first clause of what hinders a step
  pub shown : ShowsCurrentThreads c
  -- it is the thread of a start output, and shown where it ends
  pub of_starts : ShowsThreadsOfStarts c
  -- in its current state
  pub current : ShowsWhereThreadsStand c
  -- and each thread that isn't over is shown
  pub not_over : ShowsWhatIsNotOver c
  -- from the last timeout on anyone closes it
  pub closes : AnyoneClosesShown c

-- ---- BOTH HALVES

abbrev pub BothHalves : Course → Type 0
BothHalves c = StepsAreRuns c × BuildsAreAccepted c

-- BOTH HOLD THROUGHOUT EVERY LEGAL HISTORY that began with key outputs and whose accepted transactions fit their spelling: after the whole of it,
-- and before each of its entries
abbrev pub LegalHistoriesHaveBothHalves : Type 0
LegalHistoriesHaveBothHalves = (c : Course) → IsLegal c → AreKeys c.genesis → All TxFits (past_of (world c)).accepted → BothHalves c × ((n : ℕ) → BothHalves (before_entry c n))
