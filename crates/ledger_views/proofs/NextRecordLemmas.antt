-- One more record of a thread.
use Rattle.std.proofs.Common.{◌≡◌, ℕ, zero, suc, ◌+◌, ◌<◌, ◌≤◌, Bool, true, false, List, [], ◌∷◌, ◌++◌, refl, sym, ◌∙◌, ap, subst, arith, append_assoc, append-nil, map, drop, length, get_or, length-append, Option, Some, None, ◌⊎◌, inl, inr, Result, Ok}
use Rattle.std.specs.Prelude.{if◌then◌else◌}
use Rattle.std.specs.List.{All, slice_get}
use Rattle.std.proofs.Math.ListN.{drop_of_length-le}
use Rattle.std.proofs.lemmas.List.{at_drop_more, map-append}
use Rattle.std.proofs.lemmas.List.Elements.{All-append}
use Rattle.std.proofs.lemmas.Option.{slice_get_read}
use Rattle.std.specs.Option.{unwrap_or, option_map}
use Rattle.contract.specs.declared.fault.SemFault.{SemFault}
use Rattle.contract.specs.declared.interval.Interval.{Interval}
use Rattle.contract.specs.declared.input.Input.{Input}
use Rattle.contract.specs.Tree.{ContractTree, close}
use Rattle.ledger_kept.specs.Semantics.Walk.{Standing, Walk, standing, answer_of}
use Rattle.ledger_kept.specs.Semantics.Computed.{computed}
use Rattle.ledger_kept.specs.Nodes.declared.cont.Cont.{Cont}
use Rattle.ledger_kept.specs.Machine.declared.datum.Datum.{Datum}
use Rattle.ledger_kept.specs.EutxoTypes.declared.output_ref.OutputRef.{OutputRef}
use Rattle.ledger_kept.specs.EutxoTypes.declared.output_ref.OutputRef.TheVariants.{Made}
use Rattle.ledger_kept.specs.EutxoTypes.Ids.{id_of}
use Rattle.ledger_kept.specs.EutxoTypes.Parts.{same_ref, Instance, contract_at}
use Rattle.ledger_kept.specs.Eutxo.declared.validator.StepAnswer.{StepAnswer}
use Rattle.ledger_kept.specs.Eutxo.declared.validator.StepAnswer.TheVariants.{Refused, Takes}
use Rattle.ledger_kept.specs.Eutxo.Blocks.{Block, continues, goes_on_at, stands_from}
use Rattle.ledger_kept.specs.Roles.declared.published.Published.{Published}
use Rattle.ledger_kept.specs.Roles.Steps.{marlowe}
use Rattle.ledger_kept.specs.Roles.Terms.{Terms}
use Rattle.ledger_kept.specs.LedgerLaws.Past.{Past}
use Rattle.ledger_kept.specs.LedgerLaws.Threads.{blocks_of, next_in, next_of, Link, brought_by, Member, Gives, LaidOutAfter, Carries}
use Rattle.ledger_kept.proofs.FromLedgerLaws.PlainLaws.{same_some}
use Rattle.ledger_kept.specs.LedgerSpec.declared.step_record.StepRecord.{StepRecord}
use Rattle.ledger_kept.specs.LedgerSpec.Records.{member_of, HoldsNumber, HoldNumbers}
use Rattle.ledger_views.specs.RecordsSupport.{given, instance_next, number_after, IsStepOf, IsAStep, Goes}

-- ---- a walk

module _ (named : List ℕ → Option Published) (past : Past) where
  -- the next member of what is left
  record Next (t : Terms) (script : List ℕ) (next : Option OutputRef) (l : Link) (left : List Link) (run : List Member) : Type 0 where
    pub first : Member
    pub later : List Member
    pub is : run ≡ first ∷ later
    pub step : IsStepOf named past t next l first
    pub carried : Carries named past t script left later

  next_member : (t : Terms) (script : List ℕ) (next : Option OutputRef) (l : Link) (left : List Link) (run : List Member) → next_of marlowe named past l.spends l.tx ≡ next → Carries named past t script (l ∷ left) run → Next t script next l left run
  next_member t script next l left [] on h = absurd h
  next_member t script next l left (x ∷ xs) on h = record { first = x; later = xs; is = refl; step = record { script = script; later = left; carried = h.0; on = on }; carried = h.1 }

  step_there : (t : Terms) (script : List ℕ) (next : Option OutputRef) (ls : List Link) (xs : List StepRecord) (l : Link) (left : List Link) → next_of marlowe named past l.spends l.tx ≡ next → Goes named past t script ls xs (l ∷ left) →
      (x : Member) × IsStepOf named past t next l x
  step_there t script next ls xs l left on g = let n = next_member t script next l left g.rest on g.here in (n.first, n.step)

  goes_on : (t : Terms) (script : List ℕ) (next : Option OutputRef) (ls : List Link) (xs : List StepRecord) (l : Link) (left : List Link) (r : StepRecord) → next_of marlowe named past l.spends l.tx ≡ next → Goes named past t script ls xs (l ∷ left) →
      ((x : Member) → IsStepOf named past t next l x → member_of t r ≡ x) → Goes named past t script ls (xs ++ r ∷ []) left
  goes_on t script next ls xs l left r on g tells =
      let n = next_member t script next l left g.rest on g.here in
      let e : member_of t r ≡ n.first = tells n.first n.step in
      let all : map (member_of t) xs ++ g.rest ≡ map (member_of t) (xs ++ r ∷ []) ++ n.later =
      ap (λ (m : List Member). map (member_of t) xs ++ m) n.is
      ∙ ap (λ (m : Member). map (member_of t) xs ++ m ∷ n.later) (sym e)
      ∙ sym (append_assoc (map (member_of t) xs) (member_of t r ∷ []) n.later)
      ∙ ap (λ (m : List Member). m ++ n.later) (sym (map-append (member_of t) xs (r ∷ []))) in
      record { rest = n.later; whole = subst (λ (m : List Member). Carries named past t script ls m) all g.whole; here = n.carried }

-- ---- the next of these transactions

next_left : (ls : List Link) (i : ℕ) (l : Link) → i < length ls → l ≡ get_or ls i l → drop i ls ≡ l ∷ drop (i + 1) ls
next_left ls i l h e = at_drop_more (λ m. m) ls i l h ∙ ap (λ (x : Link). x ∷ drop (i + 1) ls) (sym e)

module _ (named : List ℕ → Option Published) (past : Past) where
  pub step_next : (t : Terms) (script : List ℕ) (next : Option OutputRef) (ls : List Link) (xs : List StepRecord) (i : ℕ) (l : Link) → i < length ls → l ≡ get_or ls i l → next_of marlowe named past l.spends l.tx ≡ next →
      Goes named past t script ls xs (drop i ls) → (x : Member) × IsStepOf named past t next l x
  step_next t script next ls xs i l h e on g = step_there named past t script next ls xs l (drop (i + 1) ls) on (subst (λ (m : List Link). Goes named past t script ls xs m) (next_left ls i l h e) g)

  pub goes_next : (t : Terms) (script : List ℕ) (next : Option OutputRef) (ls : List Link) (xs more : List StepRecord) (i : ℕ) (l : Link) (r : StepRecord) → i < length ls → l ≡ get_or ls i l →
      next_of marlowe named past l.spends l.tx ≡ next → Goes named past t script ls xs (drop i ls) → ((x : Member) → IsStepOf named past t next l x → member_of t r ≡ x) → more ≡ xs ++ r ∷ [] →
      Goes named past t script ls more (drop (i + 1) ls)
  goes_next t script next ls xs more i l r h e on g tells added =
      subst (λ (m : List StepRecord). Goes named past t script ls m (drop (i + 1) ls)) (sym added)
      (goes_on named past t script next ls xs l (drop (i + 1) ls) r on (subst (λ (m : List Link). Goes named past t script ls xs m) (next_left ls i l h e) g) tells)

-- where no links are left, the records are what they carry
all_carried : (named : List ℕ → Option Published) (past : Past) (t : Terms) (script : List ℕ) (ls : List Link) (ms rest : List Member) → Carries named past t script [] rest → Carries named past t script ls (ms ++ rest) → Carries named past t script ls ms
all_carried named past t script ls ms [] h k = subst (λ (m : List Member). Carries named past t script ls m) (append-nil ms) k
all_carried named past t script ls ms (x ∷ xs) h k = absurd h

pub none_left : (named : List ℕ → Option Published) (past : Past) (t : Terms) (script : List ℕ) (ls : List Link) (xs : List StepRecord) (i : ℕ) → length ls ≤ i → Goes named past t script ls xs (drop i ls) → Carries named past t script ls (map (member_of t) xs)
none_left named past t script ls xs i h g = all_carried named past t script ls (map (member_of t) xs) g.rest (subst (λ (m : List Link). Carries named past t script m g.rest) (drop_of_length-le ls h) g.here) g.whole

all_one : {A : Type 0} (P : A → Type 0) (x : A) → P x → All P (x ∷ [])
all_one P x h zero d l = h
all_one P x h (suc k) d l = absurd (omega (arith, l))

pub all_next : {A : Type 0} (P : A → Type 0) (xs more : List A) (x : A) → more ≡ xs ++ x ∷ [] → All P xs → P x → All P more
all_next P xs more x added all h = subst (λ (m : List _). All P m) (sym added) (All-append P xs (x ∷ []) all (all_one P x h))

-- ---- what the next output holds

last_or_before : {A : Type 0} (xs : List A) (x : A) (n : ℕ) (y : A) → slice_get (xs ++ x ∷ []) n ≡ Some y → (slice_get xs n ≡ Some y) ⊎ ((n ≡ length xs) × (x ≡ y))
last_or_before [] x zero y h = inr (refl, same_some x y h)
last_or_before [] x (suc n) y h = cc
last_or_before (z ∷ xs) x zero y h = inl h
last_or_before (z ∷ xs) x (suc n) y h = elim (last_or_before xs x n y h) [ inl e ↦ inl e | inr p ↦ inr (ap suc p.0, p.1) ]

pub hold_next : (named : List ℕ → Option Published) (past : Past) (ls : List Link) (xs more : List StepRecord) (i : ℕ) (l : Link) (r : StepRecord) → i < length ls → l ≡ get_or ls i l → length xs ≡ i → more ≡ xs ++ r ∷ [] →
    HoldNumbers named past ls xs → HoldsNumber named past l r → HoldNumbers named past ls more
hold_next named past ls xs more i l r h e count added old new = subst (λ (m : List StepRecord). HoldNumbers named past ls m) (sym added) (λ n k x at is. by n k x at (last_or_before xs r n x is))
  where
    here : slice_get ls i ≡ Some l
    here = slice_get_read ls (length ls) i l refl h e

    by : (n : ℕ) (k : Link) (x : StepRecord) → slice_get ls n ≡ Some k → (slice_get xs n ≡ Some x) ⊎ ((n ≡ length xs) × (r ≡ x)) → HoldsNumber named past k x
    by n k x at (inl is) = old n k x at is
    by n k x at (inr p) =
        let same : l ≡ k = same_some l k (sym here ∙ ap (λ (m : ℕ). slice_get ls m) (sym (p.0 ∙ count)) ∙ at) in
        subst (λ (z : Link). HoldsNumber named past z x) same (subst (λ (z : StepRecord). HoldsNumber named past l z) p.1 new)

pub count_next : {A : Type 0} (xs more : List A) (i : ℕ) (x : A) → length xs ≡ i → more ≡ xs ++ x ∷ [] → length more ≡ i + 1
count_next xs more i x count added = ap length added ∙ length-append xs (x ∷ []) ∙ ap (λ (n : ℕ). n + 1) count

-- where a contract goes on, its block stands
goes_stands : (bs : List Block) (r : OutputRef) (i : ℕ) → goes_on_at bs r ≡ Some i → stands_from bs r ≡ Some i
goes_stands [] r i h = cc
goes_stands (b ∷ bs) r i h = by (same_ref b.reference r) (goes_stands bs r i) h
  where
    on : (n : ℕ) (a : StepAnswer) → continues n a ≡ Some i → ◌≡◌ {A = Option ℕ} (Some n) (Some i)
    on n (Refused f) k = cc
    on n (Takes f true m) k = k
    on n (Takes f false m) k = cc

    by : (c : Bool) → (goes_on_at bs r ≡ Some i → stands_from bs r ≡ Some i) → (if c then continues b.from b.answer else goes_on_at bs r) ≡ Some i → (if c then Some b.from else stands_from bs r) ≡ Some i
    by true go k = on b.from b.answer k
    by false go k = go k

module _ (named : List ℕ → Option Published) (past : Past) where
  abbrev numbered : Terms → Member → Link → Option OutputRef → Cont → Type 0
  numbered t x l next place = (t.has (number_after (instance_next l.tx next) place) ≡ true) × (t.tree (number_after (instance_next l.tx next) place) ≡ x.outcome.contract)

  nowhere : (t : Terms) (x : Member) (l : Link) (next : Option OutputRef) (place : Cont) → next ≡ None → t.has place ≡ true → t.tree place ≡ x.outcome.contract → numbered t x l next place
  nowhere t x l next place none has is = (
    ap (λ (q : Option OutputRef). t.has (number_after (instance_next l.tx q) place)) none ∙ has,
    ap (λ (q : Option OutputRef). t.tree (number_after (instance_next l.tx q) place)) none ∙ is,
  )

  -- its number is one of the table's, and stands for what remains
  goes_at : (t : Terms) (next : Option OutputRef) (l : Link) (x : Member) (place : Cont) → IsStepOf named past t next l x → t.has place ≡ true → t.tree place ≡ x.outcome.contract → numbered t x l next place
  goes_at t next l x place step has is = by (goes_on_at (blocks_of marlowe named past l.tx) l.spends) refl
    where
      on : (i : ℕ) (d : Instance) (c : ContractTree) → x.outcome.contract ≡ c → LaidOutAfter t step.script x.outcome c (step.carried).from l.tx → (step.carried).from ≡ i → contract_at l.tx i ≡ Some d → next ≡ Some (Made (id_of l.tx) i) → numbered t x l next place
      on i d close e laid at made goes =
          let none = sym step.on ∙ (step.carried).gone e in
          let f : (let o : Option OutputRef = None in o) ≡ Some (Made (id_of l.tx) i) = sym none ∙ goes in
          cc
      on i d c e laid at made goes =
          let there = ap (λ (q : Option OutputRef). instance_next l.tx q) goes ∙ ap (contract_at l.tx) (sym at) ∙ laid.3 in
          (ap (λ (o : Option Instance). t.has (number_after o place)) there ∙ laid.1, ap (λ (o : Option Instance). t.tree (number_after o place)) there ∙ laid.2 ∙ sym e)

      made_in : (i : ℕ) (o : Option Instance) → contract_at l.tx i ≡ o → (step.carried).from ≡ i → next ≡ next_in l.tx (Some i) → numbered t x l next place
      made_in i None made at goes = nowhere t x l next place (goes ∙ ap (option_map (λ (c : Instance). Made (id_of l.tx) i)) made) has is
      made_in i (Some d) made at goes = on i d x.outcome.contract refl (step.carried).outputs at made (goes ∙ ap (option_map (λ (c : Instance). Made (id_of l.tx) i)) made)

      by : (g : Option ℕ) → goes_on_at (blocks_of marlowe named past l.tx) l.spends ≡ g → numbered t x l next place
      by None h = nowhere t x l next place (sym step.on ∙ ap (next_in l.tx) h) has is
      by (Some i) h =
          made_in i (contract_at l.tx i) refl
          (same_some (step.carried).from i (sym (step.carried).block ∙ goes_stands (blocks_of marlowe named past l.tx) l.spends i h)) (sym step.on ∙ ap (next_in l.tx) h)

  -- the number that is read there is held there
  pub held_so : (next : Option OutputRef) (l : Link) (r : StepRecord) (place : Cont) → next_of marlowe named past l.spends l.tx ≡ next → r.number ≡ number_after (instance_next l.tx next) place → HoldsNumber named past l r
  held_so next l r place on number = λ i c goes made.
      let there : next ≡ Some (Made (id_of l.tx) i) = sym on ∙ ap (next_in l.tx) goes ∙ ap (option_map (λ (d : Instance). Made (id_of l.tx) i)) made in
      sym (number ∙ ap (λ (q : Option OutputRef). number_after (instance_next l.tx q) place) there ∙ ap (λ (o : Option Instance). number_after o place) made)

same_standing : (a b : Standing) → ◌≡◌ {A = Result Standing SemFault} (Ok a) (Ok b) → a ≡ b
same_standing a b h = cc

-- from the datum that is brought the transaction function gives the member
module _ (named : List ℕ → Option Published) (past : Past) (t : Terms) (d : Datum) (next : Option OutputRef) (l : Link) (x : Member) (step : IsStepOf named past t next l x) (brought : brought_by l ≡ Some d) where
  gives : Gives (t.tree d.cont) d.state x
  gives = let c = step.carried in subst (λ (z : Datum). Gives (t.tree z.cont) z.state x) (same_some c.datum d (sym c.brought ∙ brought)) c.gives

  pub has_so : t.has d.cont ≡ true
  has_so = let c = step.carried in ap (λ (z : Datum). t.has z.cont) (sym (same_some c.datum d (sym c.brought ∙ brought))) ∙ c.has

  module _ (interval : Interval) (inputs : List Input) (ticks : interval ≡ l.tx.interval) (are : inputs ≡ given l.spends l.tx.inputs) where
    given_so : inputs ≡ x.inputs
    given_so = are ∙ ap (λ (o : Option (List Input)). unwrap_or o []) (step.carried).inputs

    walk : computed interval d.state (t.tree d.cont) inputs ≡ computed x.interval d.state (t.tree d.cont) x.inputs
    walk = λ i. computed ((ticks ∙ (step.carried).interval) i) d.state (t.tree d.cont) (given_so i)

    pub answer_so : answer_of (computed interval d.state (t.tree d.cont) inputs) ≡ Ok (standing x.outcome.state x.outcome.contract)
    answer_so = ap answer_of walk ∙ gives.0

    -- and its record tells it
    pub record_so : (r : StepRecord) (place : Cont) → r.interval ≡ interval → r.inputs ≡ inputs → answer_of (computed interval d.state (t.tree d.cont) inputs) ≡ Ok (standing r.state (t.tree place)) →
        r.warnings ≡ (computed interval d.state (t.tree d.cont) inputs).warnings → r.payments ≡ (computed interval d.state (t.tree d.cont) inputs).payments → t.has place ≡ true →
        r.number ≡ number_after (instance_next l.tx next) place → (t.has r.number ≡ true) × (member_of t r ≡ x)
    record_so r place r_ticks r_inputs answer warnings payments has number =
        let when : r.interval ≡ x.interval = r_ticks ∙ ticks ∙ (step.carried).interval in
        let same : r.inputs ≡ x.inputs = r_inputs ∙ given_so in
        let end : standing r.state (t.tree place) ≡ standing x.outcome.state x.outcome.contract = same_standing _ _ (sym answer ∙ answer_so) in
        let at = goes_at named past t next l x place step has (ap (λ (s : Standing). s.contract) end) in
        let state : r.state ≡ x.outcome.state = ap (λ (s : Standing). s.state) end in
        let warned : r.warnings ≡ x.outcome.warnings = warnings ∙ ap (λ (w : Walk). w.warnings) walk ∙ gives.1 in
        let paid : r.payments ≡ x.outcome.payments = payments ∙ ap (λ (w : Walk). w.payments) walk ∙ gives.2 in
        let tree : t.tree r.number ≡ x.outcome.contract = ap t.tree number ∙ at.1 in
        (ap t.has number ∙ at.0, λ i. record { interval = when i; inputs = same i; outcome = record { warnings = warned i; payments = paid i; state = state i; contract = tree i } })

-- a transaction of a thread brings a datum for the output that it spends
pub brings_one : (t : Terms) (next : Option OutputRef) (l : Link) → IsAStep t next l → brought_by l ≡ None → ⊥
brings_one t next l s none =
    let f : (let o : Option Datum = None in o) ≡ Some ((s.3).carried).datum = sym none ∙ ((s.3).carried).brought in
    cc
