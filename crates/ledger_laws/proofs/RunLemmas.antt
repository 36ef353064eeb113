-- The thread of each start output is exactly one run, where it brings what was made.
use Rattle.std.proofs.Common.{◌≡◌, ℕ, suc, Bool, true, false, List, [], ◌∷◌, refl, sym, ◌∙◌, ap, subst, Option, Some, None, Result, Ok, drop}
use Rattle.std.specs.Prelude.{if◌then◌else◌}
use Rattle.std.specs.List.{slice_get}
use Rattle.contract.specs.declared.fault.SemFault.{SemFault}
use Rattle.contract.specs.declared.interval.Interval.{Interval}
use Rattle.contract.specs.declared.input.Input.{Input}
use Rattle.contract.specs.States.States.{StateMaps}
use Rattle.contract.specs.Tree.{ContractTree, close, pay, if_obs, when, let_be, assert}
use Rattle.roles.specs.Semantics.Walk.{Standing, standing, Walk, answer_of}
use Rattle.roles.specs.Semantics.Computed.{computed}
use Rattle.roles.specs.Semantics.Laws.{TurnsLead}
use Rattle.roles.specs.Machine.declared.datum.Datum.{Datum}
use Rattle.roles.specs.EutxoTypes.declared.output_ref.OutputRef.{OutputRef}
use Rattle.roles.specs.EutxoTypes.declared.output_ref.OutputRef.TheVariants.{Made}
use Rattle.roles.specs.EutxoTypes.declared.tx.Tx.{Tx}
use Rattle.roles.specs.EutxoTypes.Ids.{id_of}
use Rattle.roles.specs.Eutxo.Laws.{FoundIsEnough}
use Rattle.roles.specs.Eutxo.Asked.{Stepping}
use Rattle.roles.specs.Eutxo.Blocks.{answer_by, step_asked, continues, stands_from, fault_in}
use Rattle.roles.specs.Eutxo.Faults.{first_of}
use Rattle.roles.specs.declared.published.Published.{Published}
use Rattle.roles.specs.Terms.{Terms, terms_of}
use Rattle.roles.specs.EutxoTypes.Parts.{Instance, lock_of, contract_at, given_to}
use Rattle.ledger_laws.specs.Past.{Past, is_input_of}
use Rattle.ledger_laws.specs.Sound.{IsSound}
use Rattle.ledger_laws.specs.Threads.{Link, Effect, Member, Gives, Run, contract_after, state_after, blocks_of, next_in, next_of, spine_by, ends_by, thread, brought_to, brought_by, LaidOut, Carries, IsMade, IsStart}
use Rattle.roles.specs.Table.Flat.{is_close}
use Rattle.roles.specs.Steps.{is_fresh, walk_of, marlowe}
use Rattle.ledger_laws.specs.Laws.{AreTables, DigestsTellWhatWasMade, EachIsARun, ThreadsAreRuns, EndsWithItsRun, ThreadsEndWithRuns}
use Rattle.ledger_laws.proofs.PlainLaws.{same_some, head_at}
use Rattle.ledger_laws.proofs.PartLaws.{script_so, under_so, brought_so}
use Rattle.ledger_laws.proofs.SpineLaws.{member_stood, next_there}
use Rattle.ledger_laws.proofs.AcceptedLaws.{spent_at, tells_at, made_published, block_at}
use Rattle.ledger_laws.proofs.BroughtLemmas.{step_for, brought_at}
use Rattle.ledger_laws.proofs.MadeLaws.{made_output, made_once}
use Rattle.ledger_laws.proofs.LaidOutLemmas.{effect_of, datum_after, rules_after, Stepped, stepped_so, goes_on, led_so, laid_so}
use Rattle.ledger_laws.proofs.FundedLemmas.{starting_at}

-- ---- a run is settled by its transactions

same_effect : (a b : Effect) → a.warnings ≡ b.warnings → a.payments ≡ b.payments → a.state ≡ b.state → a.contract ≡ b.contract → a ≡ b
same_effect a b p q r s = λ i. record { warnings = p i; payments = q i; state = r i; contract = s i }

same_member : (a b : Member) → a.interval ≡ b.interval → a.inputs ≡ b.inputs → a.outcome ≡ b.outcome → a ≡ b
same_member a b p q r = λ i. record { interval = p i; inputs = q i; outcome = r i }

ends_same : (r : Result Standing SemFault) (s t : StateMaps) (c d : ContractTree) → r ≡ Ok (standing s c) → r ≡ Ok (standing t d) → (s ≡ t) × (c ≡ d)
ends_same r s t c d h k =
    let e : standing s c ≡ standing t d = let f : (let q : Result Standing SemFault = Ok (standing s c) in q) ≡ Ok (standing t d) = sym h ∙ k in cc in
    (ap (λ (a : Standing). a.state) e, ap (λ (a : Standing). a.contract) e)

-- what is given is determined
one_outcome : (c : ContractTree) (s : StateMaps) (x y : Member) → y.interval ≡ x.interval → y.inputs ≡ x.inputs → Gives c s x → Gives c s y → y.outcome ≡ x.outcome
one_outcome c s x y i j g h =
    let e : computed y.interval s c y.inputs ≡ computed x.interval s c x.inputs =
    ap (λ (k : Interval). computed k s c y.inputs) i ∙ ap (λ (k : List Input). computed x.interval s c k) j in
    let ends = ends_same (answer_of (computed x.interval s c x.inputs)) y.outcome.state x.outcome.state y.outcome.contract x.outcome.contract (sym (ap (λ (w : Walk). answer_of w) e) ∙ h.0) g.0 in
    same_effect y.outcome x.outcome (sym h.1 ∙ ap (λ (w : Walk). w.warnings) e ∙ g.1) (sym h.2 ∙ ap (λ (w : Walk). w.payments) e ∙ g.2) ends.0 ends.1

-- what a thread carries is determined
one_carried : (named : List ℕ → Option Published) (past : Past) (t : Terms) (script : List ℕ) (ls : List Link) (a b : List Member) → Carries named past t script ls a → Carries named past t script ls b → b ≡ a
one_carried named past t script [] [] [] ka kb = refl
one_carried named past t script [] [] (y ∷ b) ka kb = absurd kb
one_carried named past t script [] (x ∷ a) b ka kb = absurd ka
one_carried named past t script (l ∷ ls) [] b ka kb = absurd ka
one_carried named past t script (l ∷ ls) (x ∷ a) [] ka kb = absurd kb
one_carried named past t script (l ∷ ls) (x ∷ a) (y ∷ b) ka kb =
    let i : y.interval ≡ x.interval = sym kb.0.interval ∙ ka.0.interval in
    let j : y.inputs ≡ x.inputs = same_some y.inputs x.inputs (sym kb.0.inputs ∙ ka.0.inputs) in
    let d : kb.0.datum ≡ ka.0.datum = same_some kb.0.datum ka.0.datum (sym kb.0.brought ∙ ka.0.brought) in
    let e : y.outcome ≡ x.outcome = one_outcome (t.tree ka.0.datum.cont) ka.0.datum.state x y i j ka.0.gives (subst (λ (z : Datum). Gives (t.tree z.cont) z.state y) d kb.0.gives) in
    let u : b ≡ a = one_carried named past t script ls a b ka.1 kb.1 in
    let h : y ≡ x = same_member y x i j e in
    cc

-- ---- the premise on digests

-- each of these transactions brings what was made
abbrev Bring : Past → List Link → Type 0
Bring past ls = (n : ℕ) (l : Link) (c : Instance) → slice_get ls n ≡ Some l → IsMade past l.spends c → brought_by l ≡ Some c.datum

is_close_so : (c : ContractTree) → is_close c ≡ true → c ≡ close
is_close_so close h = refl
is_close_so (pay account to token value next) h = cc
is_close_so (if_obs test one other) h = cc
is_close_so (when cases timeout next) h = cc
is_close_so (let_be id value next) h = cc
is_close_so (assert test next) h = cc

-- ---- a thread

module _ (turns : TurnsLead) (enough : FoundIsEnough marlowe) (named : List ℕ → Option Published) (past : Past) (tables : AreTables named) (sound : IsSound marlowe named past) where
  module _ (script : List ℕ) (p : Published) (is : named script ≡ Some p) where
    abbrev t : Terms
    t = terms_of p

    abbrev at_datum : Datum → Instance
    at_datum d = record { script = script; datum = d }

    -- where a thread stands: at a contract that was made at a number that stands for this, in this state
    abbrev Points : Option OutputRef → ContractTree → StateMaps → Type 0
    Points None c s = Unit {0}
    Points (Some r) c s = (d : Datum) × IsMade past r (at_datum d) × (t.tree d.cont ≡ c) × (d.state ≡ s)

    -- what a transaction that spends the contract does: a member from the datum that it brings for it, laid out in its block, after which the thread
    -- stands where the member ends
    record Acts (tx : Tx) (r : OutputRef) : Type 0 where
      pub member : Member
      pub datum : Datum
      pub brought : brought_to r tx.inputs tx.datums ≡ Some datum
      pub has : t.has datum.cont ≡ true
      pub gives : Gives (t.tree datum.cont) datum.state member
      pub interval : tx.interval ≡ member.interval
      pub given : given_to r tx.inputs ≡ Some member.inputs
      pub from : ℕ
      pub block : stands_from (blocks_of marlowe named past tx) r ≡ Some from
      pub lays : LaidOut t script member.outcome from tx
      pub points : Points (next_of marlowe named past r tx) member.outcome.contract member.outcome.state
      pub gone : member.outcome.contract ≡ close → next_of marlowe named past r tx ≡ None
      pub ended : next_of marlowe named past r tx ≡ None → member.outcome.contract ≡ close

    -- in the first output of its block goes on what isn't over
    on_so : (s : Stepping) → (z : Stepped t s) → first_of (rules_after t s (z.at).state false) ≡ None → s.script ≡ script → contract_at s.tx s.«from» ≡ Some (at_datum (datum_after t s (z.at).state))
    on_so s z h of = (goes_on t s z.tells (z.at).state h).0 ∙ ap (λ (id : List ℕ). Some (let c : Instance = record { script = id; datum = datum_after t s (z.at).state } in c)) of

    -- where the thread stands after a step that is taken
    goes_so : (n : ℕ) (s : Stepping) → slice_get past.accepted n ≡ Some s.tx → s.script ≡ script → (z : Stepped t s) → (b : Bool) → first_of (rules_after t s (z.at).state b) ≡ None →
        Points (next_in s.tx (if b then None else Some s.«from»)) (z.at).contract (z.at).state
    goes_so n s at of z true h = tt
    goes_so n s at of z false h =
        let d = datum_after t s (z.at).state in
        let g = on_so s z h of in
        subst (λ (y : Option OutputRef). Points y (z.at).contract (z.at).state) (sym (next_there s.tx (Some s.«from») s.«from» (at_datum d) refl g))
        (d, record { number = n; tx = s.tx; accepted = at; index = s.«from»; name = refl; contract = g }, (led_so turns t (tables script p is) s z).1, refl)

    -- where it goes on in no output it is over
    over_so : (s : Stepping) → s.script ≡ script → (z : Stepped t s) → (b : Bool) → is_close (z.at).contract ≡ b → first_of (rules_after t s (z.at).state b) ≡ None →
        next_in s.tx (if b then None else Some s.«from») ≡ None → (z.at).contract ≡ close
    over_so s of z true e h none = is_close_so (z.at).contract e
    over_so s of z false e h none =
        let f : (let o : Option OutputRef = None in o) ≡ Some (Made (id_of s.tx) s.«from») = sym none ∙ next_there s.tx (Some s.«from») s.«from» (at_datum (datum_after t s (z.at).state)) refl (on_so s z h of) in
        cc

    acts : (n : ℕ) (tx : Tx) (r : OutputRef) (d : Datum) → slice_get past.accepted n ≡ Some tx → is_input_of r tx ≡ true → IsMade past r (at_datum d) → Acts tx r
    acts n tx r d at named_r made =
        let lock = lock_of (at_datum d) in
        let o = made_output marlowe enough named past sound r (at_datum d) made in
        let k = brought_at marlowe enough named past sound n tx at r o.0 lock named_r o.1 o.2 in
        let ys = (spent_at marlowe enough named past sound n tx at).ys in
        let b = block_at marlowe enough named past sound n tx at k.number (step_for r lock k.datum k.inputs) k.step in
        let s : Stepping = step_asked tx ys b.«from» (step_for r lock k.datum k.inputs) in
        let z = stepped_so t s (tells_at marlowe enough named past sound n tx at) (ap (λ (v : Option Published). fault_in (answer_by marlowe v s)) (sym is) ∙ b.passes) in
        let closed = is_close (z.at).contract in
        let goes : next_of marlowe named past r tx ≡ next_in tx (if closed then None else Some b.«from») =
        ap (next_in tx) (b.goes ∙ ap (λ (v : Option Published). continues b.«from» (answer_by marlowe v s)) is ∙ z.goes) in
        record {
          member = record { interval = tx.interval; inputs = k.inputs; outcome = effect_of (walk_of t s) (z.at).state (z.at).contract };
          datum = k.datum;
          brought = k.brought;
          has = z.has;
          gives = (z.answer, refl, refl);
          interval = refl;
          given = k.given;
          «from» = b.«from»;
          block = b.stands;
          lays = laid_so turns t (tables script p is) s z;
          points = subst (λ (y : Option OutputRef). Points y (z.at).contract (z.at).state) (sym goes) (goes_so n s at refl z closed z.rules);
          gone = λ e. goes ∙ ap (λ (c : ContractTree). next_in tx (if is_close c then None else Some b.«from»)) e;
          ended = λ none. over_so s refl z closed refl z.rules (sym goes ∙ none);
        }

    abbrev next : OutputRef → Tx → Option OutputRef
    next = next_of marlowe named past

    none_after : (z : Option OutputRef) (txs : List Tx) → z ≡ None → spine_by next z txs ≡ []
    none_after None txs h = refl
    none_after (Some r) txs h = cc

    -- links carry these members, which are a run from here where the links bring what was made; and the thread ends where the last of them does
    record Runs (z : Option OutputRef) (ls : List Link) (c : ContractTree) (s : StateMaps) : Type 0 where
      pub run : List Member
      pub carried : Carries named past t script ls run
      pub runs : Bring past ls → Run c s run
      pub ended : Points (ends_by next z ls) (contract_after c run) (state_after s run)

    run_from : (n : ℕ) (txs : List Tx) → drop n past.accepted ≡ txs → (z : Option OutputRef) (c : ContractTree) (s : StateMaps) → Points z c s → Runs z (spine_by next z txs) c s
    run_from n txs cut None c s at = record { run = []; carried = tt; runs = λ bring. tt; ended = tt }
    run_from n [] cut (Some r) c s at = record { run = []; carried = tt; runs = λ bring. tt; ended = at }
    run_from n (tx ∷ txs) cut (Some r) c s at = by (is_input_of r tx) refl (run_from (suc n) txs here.1)
      where
        here : (slice_get past.accepted n ≡ Some tx) × (drop (suc n) past.accepted ≡ txs)
        here = head_at n past.accepted tx txs cut

        by : (b : Bool) → is_input_of r tx ≡ b → ((z : Option OutputRef) (c : ContractTree) (s : StateMaps) → Points z c s → Runs z (spine_by next z txs) c s) →
            Runs (Some r) (if b then record { spends = r; tx = tx } ∷ spine_by next (next r tx) txs else spine_by next (Some r) txs) c s
        by false e go = go (Some r) c s at
        by true e go =
            let a = acts n tx r at.0 here.0 e at.1 in
            let x = a.member in
            let y = go (next r tx) x.outcome.contract x.outcome.state a.points in
            let first : Link = record { spends = r; tx = tx } in
            record {
              run = x ∷ y.run;
              carried = (
                record {
                  interval = a.interval;
                  inputs = a.given;
                  datum = a.datum;
                  brought = a.brought;
                  has = a.has;
                  gives = a.gives;
                  «from» = a.«from»;
                  block = a.block;
                  outputs = a.lays;
                  over = λ closed. none_after (next r tx) txs (a.gone closed);
                  gone = a.gone;
                  ended = a.ended;
                },
                y.carried,
              );
              runs = λ bring.
                  let same : a.datum ≡ at.0 = same_some a.datum at.0 (sym a.brought ∙ bring 0 first (at_datum at.0) refl at.1) in
                  let gives : Gives (t.tree at.0.cont) at.0.state x = subst (λ (d : Datum). Gives (t.tree d.cont) d.state x) same a.gives in
                  (subst (λ (k : ContractTree). Gives k s x) at.2 (subst (λ (k : StateMaps). Gives (t.tree at.0.cont) k x) at.3 gives), y.runs (λ i l d there made. bring (suc i) l d there made));
              ended = y.ended;
            }

    -- a start is at the root
    one_thread : (r : OutputRef) (d : Datum) → IsStart past r (at_datum d) → Runs (Some r) (thread marlowe named past r) (t.tree t.root) d.state × (d.cont ≡ t.root) × (is_fresh d.state ≡ true)
    one_thread r d start =
        let m = start.made in
        let o = under_so m.tx m.index (at_datum d) m.contract in
        let first = starting_at enough named past sound m.number m.tx m.accepted start.bare m.index o.0 (at_datum d) o.1 m.contract p is in
        (run_from 0 past.accepted refl (Some r) (t.tree t.root) d.state (d, m, ap t.tree (sym first.0), refl), sym first.0, first.2)

  pub each_is_a_run : EachIsARun named past
  each_is_a_run r c start =
      let m = start.made in
      let o = under_so m.tx m.index c m.contract in
      let p = made_published marlowe enough named past sound m.number m.tx m.accepted m.index o.0 c.script o.1 (script_so (o.0).lock o.2 o.3 ∙ ap (λ (id : List ℕ). Some id) o.4) in
      let one = one_thread c.script p.0 p.1 r c.datum start in
      let a = one.0 in (
        p.0,
        p.1,
        record {
          root = one.1;
          fresh = one.2;
          carried = (a.run, a.carried, λ b h. one_carried named past (terms_of p.0) c.script (thread marlowe named past r) a.run b a.carried h);
          run = a.runs;
        },
      )

  pub ends_with_its_run : EndsWithItsRun named past
  ends_with_its_run r c start p is run carried q e end made =
      let a = (one_thread c.script p is r c.datum start).0 in
      let same : a.run ≡ run = one_carried named past (terms_of p) c.script (thread marlowe named past r) run a.run carried a.carried in
      let points : Points c.script p is (Some q) (contract_after ((terms_of p).tree p.root) run) (state_after c.datum.state run) =
      subst (λ (l : List Member). Points c.script p is (Some q) (contract_after ((terms_of p).tree p.root) l) (state_after c.datum.state l)) same
      (subst (λ (z : Option OutputRef). Points c.script p is z (contract_after ((terms_of p).tree p.root) a.run) (state_after c.datum.state a.run)) end a.ended) in
      let it : e ≡ record { script = c.script; datum = points.0 } = made_once marlowe enough named past sound q (record { script = c.script; datum = points.0 }) e points.1 made in
      (ap (λ (z : Instance). z.script) it, ap (λ (z : Instance). (terms_of p).tree z.datum.cont) it ∙ points.2, ap (λ (z : Instance). z.datum.state) it ∙ points.3)

pub threads_are_runs : TurnsLead → FoundIsEnough marlowe → ThreadsAreRuns
threads_are_runs turns enough named past tables sound = each_is_a_run turns enough named past tables sound

pub threads_end_with_runs : TurnsLead → FoundIsEnough marlowe → ThreadsEndWithRuns
threads_end_with_runs turns enough named past tables sound = ends_with_its_run turns enough named past tables sound

-- ---- where digests tell data apart

-- a datum that is brought with the digest of the one that the maker brought is that one
pub digests_tell_what_was_made : FoundIsEnough marlowe → DigestsTellWhatWasMade
digests_tell_what_was_made enough named past sound apart r n l c there made =
    let w = member_stood (next_of marlowe named past) (Some r) past.accepted n l.spends l.tx there in
    let o = made_output marlowe enough named past sound l.spends c made in
    let k = brought_at marlowe enough named past sound w.number l.tx w.at l.spends o.0 (lock_of c) w.named o.1 o.2 in
    let m = brought_so made.tx made.index c made.contract in
    k.brought ∙ ap (λ (d : Datum). Some d) (apart w.number made.number k.place m.0 l.tx made.tx k.datum c.datum w.at made.accepted k.there m.1 k.digest)
