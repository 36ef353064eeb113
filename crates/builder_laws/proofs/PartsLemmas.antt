-- Steps of several threads that nothing hinders are accepted.
use Rattle.std.proofs.Common.{◌≡◌, ℕ, suc, ◌+◌, nat_lt, Bool, true, false, cond, not, ◌||◌, List, [], ◌∷◌, ◌++◌, map, drop, length, refl, sym, ap, ◌∙◌, subst, append_assoc, append-nil, length-append, arith, Option, Some, None, Result, Ok, Err}
use Rattle.std.specs.Prelude.{if◌then◌else◌, is_some, is_none}
use Rattle.std.specs.List.{list_any, list_all, filter_map, flat_map, AllByRecursion}
use Rattle.std.proofs.lemmas.List.{length-map}
use Rattle.std.proofs.lemmas.List.Sums.{sum_by-append}
use Rattle.std.proofs.lemmas.Grind.{flat_map-append}
use Rattle.contract.specs.declared.fault.SemFault.{SemFault}
use Rattle.contract.specs.declared.fault.SemFault.TheVariants.{NoMatch}
use Rattle.ledger_spec.specs.Semantics.Walk.{Standing, Walk, answer_of}
use Rattle.ledger_spec.specs.Table.Flat.{is_close}
use Rattle.ledger_spec.specs.Machine.declared.datum.Datum.{Datum}
use Rattle.ledger_spec.specs.EutxoTypes.declared.output.Output.{Output}
use Rattle.ledger_spec.specs.EutxoTypes.declared.redeemer.Redeemer.TheVariants as with
use Rattle.ledger_spec.specs.EutxoTypes.declared.spend.Spend.{Spend}
use Rattle.ledger_spec.specs.EutxoTypes.declared.tx.Tx.{Tx}
use Rattle.ledger_spec.specs.EutxoTypes.Digests.{datum_hash}
use Rattle.ledger_spec.specs.EutxoTypes.Parts.{is_contract, made_datums, contract_count}
use Rattle.ledger_spec.specs.Eutxo.declared.step_fault.StepFault.TheVariants as faults
use Rattle.ledger_spec.specs.Eutxo.declared.validator.StepAnswer.TheVariants.{Refused, Takes}
use Rattle.ledger_spec.specs.Eutxo.Asked.{Stepping}
use Rattle.ledger_spec.specs.Eutxo.Blocks.{size, answer_by, step_asked, and_blocks, blocks, block_fault, step_fault}
use Rattle.ledger_spec.specs.Eutxo.Found.{script_at, is_known, all_known}
use Rattle.ledger_spec.specs.Eutxo.Laws.{FoundIsEnough}
use Rattle.ledger_spec.specs.Eutxo.Local.{tx_fault, spent_fault}
use Rattle.ledger_spec.specs.Eutxo.Faults.{is_empty}
use Rattle.ledger_spec.specs.Eutxo.Rules.{has_too_many, lacks_signer, opens, lacks_role, digests_in, Step, steps_of, wrong_datum}
use Rattle.ledger_spec.specs.Roles.declared.published.Published.{Published}
use Rattle.ledger_spec.specs.Roles.Steps.{holds_role, actor, authorised, continuation, due_outputs, next_datum, by_answer, marlowe}
use Rattle.ledger_spec.specs.Roles.Steps as roles
use Rattle.ledger_spec.specs.Ledger.declared.look.Unspent.{Unspent}
use Rattle.ledger_spec.specs.BuilderSpec.declared.fault.BuildFault.TheVariants.{NotAuthorised, NoFunds, TooMany}
use Rattle.ledger_spec.specs.BuilderSpec.Requests.{Part, StepsRequest}
use Rattle.ledger_spec.specs.BuilderSpec.Holding.{holds_token, least_lacking}
use Rattle.ledger_spec.specs.BuilderSpec.Fronts.{suffices}
use Rattle.ledger_spec.specs.BuilderSpec.Causes.{signature_cause, funds_cause, limit_cause, has_repeat, repeat_cause}
use Rattle.ledger_spec.specs.BuilderSpec.Laying.{by_key, paid_to, rest}
use Rattle.ledger_spec.specs.BuilderSpec.Steps.{Thread, Stepped, thread_terms, look_thread, semantics_cause, roles_of, may_act, authority_cause, step_outputs_of, next_data_of}
use Rattle.ledger_spec.specs.BuilderSpec.Parts.{and_stepped, stepped_in, has_clash, agreeing, threads_of, part_walk, all_roles, all_deposits, own_outputs, parts_front, parts_spent, ArePublished, parts_semantics_cause, parts_authority_cause, parts_limit_cause, hinders_threads, hinders_parts, part_outputs, parts_outputs, next_part_data, layout_threads, layout_parts}
use Rattle.ledger_spec.proofs.FromBuilderSpec.SufficesLaws.{front_suffices}
use Rattle.builder_laws.specs.Accepting.{PartsPass, PartsAreAccepted}
use Rattle.builder_laws.specs.AfterPasts.{BytesTellApart, PartsAreAcceptedAfter}
use Rattle.builder_laws.proofs.TestLemmas.{Nowhere, Everywhere, both, together, neither, each-append, each_front, each_back, each_so, by_recursion, any_nowhere, all_everywhere, everywhere_all, none_counted, one_more, not_found, found_nowhere, each_none, each_mapped, none_of, if_not, mapped, unmapped}
use Rattle.builder_laws.proofs.PairLemmas.{paired, map-both, AreKeyed, IsKeyed}
use Rattle.builder_laws.proofs.PartPairLemmas.{part_input, part_pair, parts_pairs, AreThreads, parts_paired, parts_named, nowhere_parts, parts_hold, parts_total, contracts_counted, steps_counted, threads_data, data_behind, part_step, parts_stepped, parts_digests}
use Rattle.builder_laws.proofs.DatumLemmas.{none_made, digests_made, digests_append, none_wrong}
use Rattle.builder_laws.proofs.SumsLemmas.{total-changed}
use Rattle.builder_laws.proofs.FrontLemmas.{shortest_rest}
use Rattle.builder_laws.proofs.OutputLemmas.{IsSo, each_due, each_given, each_unless}
use Rattle.builder_laws.proofs.BlockLemmas.{AreNoContracts, next_if, laid_block, taken, AreClear, no_blocks, one_block, blocks_pass, goes_on_at_front, paid_behind_front}
use Rattle.builder_laws.proofs.SpentLemmas.{tx_passes, keys_few, spent_passes}
use Rattle.builder_laws.proofs.LookThreadLemmas.{IsThread, thread_so}
use Rattle.builder_laws.proofs.CausesLemmas.{is_nothing, unless_else, keyed_front, named_once, not_many}
use Rattle.builder_laws.proofs.ActingLemmas.{offers_roles, all_act, ends_well}
use Rattle.builder_laws.proofs.AcceptingLemmas.{IsClean, passes, judged}
use Rattle.builder_laws.proofs.AfterPastsLemmas.{judged_after}

-- ---- the parts' threads

of_parts : (ps : List Part) (ss : List Stepped) → stepped_in ps ≡ Some ss → AreThreads ss
of_parts [] ss h = let same : [] ≡ ss = cc in subst AreThreads same tt
of_parts (p ∷ ps) ss h = by (look_thread p.look) (stepped_in ps) (thread_so p.look) (of_parts ps) h
  where
    by : (z : Option Thread) (more : Option (List Stepped)) → ((e : Thread) → z ≡ Some e → IsThread e) → ((ts : List Stepped) → more ≡ Some ts → AreThreads ts) → and_stepped z p.inputs more ≡ Some ss → AreThreads ss
    by None more one go k = cc
    by (Some e) None one go k = cc
    by (Some e) (Some ts) one go k =
        let s : Stepped = record { thread = e; inputs = p.inputs } in
        let same : s ∷ ts ≡ ss = cc in
        subst AreThreads same (one e refl, go ts refl)

agreed : (z : Option (List Stepped)) (ss : List Stepped) → agreeing z ≡ Some ss → (z ≡ Some ss) × (is_empty ss ≡ false)
agreed None ss h = cc
agreed (Some []) ss h = cc
agreed (Some (s ∷ ts)) ss h = by (has_clash (s ∷ ts)) h
  where
    by : (b : Bool) → (if b then None else Some (s ∷ ts)) ≡ Some ss → (◌≡◌ {A = Option (List Stepped)} (Some (s ∷ ts)) (Some ss)) × (is_empty ss ≡ false)
    by true k = cc
    by false k = let same : s ∷ ts ≡ ss = cc in (k, ap is_empty (sym same))

-- ---- what a part makes

one_counted : (e : Thread) (w : Walk) (end : Result Standing SemFault) → contract_count (step_outputs_of e w end) ≡ length (next_data_of e w end)
one_counted e w (Ok a) = counted (next_data_of e w (Ok a))
  where
    none : AreNoContracts (due_outputs e.shown.published.currency w.payments)
    none = each_due is_contract false (record { key = λ x. refl; payout = λ x y. refl }) e.shown.published.currency w.payments

    counted : (ds : List Datum) → contract_count (map (continuation e.shown.published.id) ds ++ due_outputs e.shown.published.currency w.payments) ≡ length ds
    counted [] = none_counted (λ (o : Output). is_contract o.lock) (due_outputs e.shown.published.currency w.payments) none
    counted (d ∷ ds) = one_more (λ (o : Output). is_contract o.lock) (continuation e.shown.published.id d) (map (continuation e.shown.published.id) ds ++ due_outputs e.shown.published.currency w.payments) refl ∙ ap suc (counted ds)
one_counted e w (Err f) = refl

-- as many contracts as data to go on from
all_counted : (r : StepsRequest) (ss : List Stepped) → contract_count (parts_outputs r ss) ≡ length (flat_map (next_part_data r) ss)
all_counted r [] = refl
all_counted r (s ∷ ss) =
    sum_by-append (λ (o : Output). cond (is_contract o.lock) 1 0) (part_outputs r s) (parts_outputs r ss)
    ∙ ap (λ n. n + contract_count (parts_outputs r ss)) (one_counted s.thread (part_walk r s) (answer_of (part_walk r s)))
    ∙ ap (λ n. length (next_part_data r s) + n) (all_counted r ss)
    ∙ sym (length-append (next_part_data r s) (flat_map (next_part_data r) ss))

one_digests : (e : Thread) (w : Walk) (end : Result Standing SemFault) → digests_in (step_outputs_of e w end) ≡ map datum_hash (next_data_of e w end)
one_digests e w (Ok a) =
    digests_made e.shown.published.id (next_data_of e w (Ok a)) (due_outputs e.shown.published.currency w.payments)
    (each_due is_contract false (record { key = λ x. refl; payout = λ x y. refl }) e.shown.published.currency w.payments)
one_digests e w (Err f) = refl

-- and their digests
all_digests : (r : StepsRequest) (ss : List Stepped) (os : List Output) → AreNoContracts os → digests_in (parts_outputs r ss ++ os) ≡ map datum_hash (flat_map (next_part_data r) ss)
all_digests r [] os h = none_made os h
all_digests r (s ∷ ss) os h =
    ap digests_in (append_assoc (part_outputs r s) (parts_outputs r ss) os)
    ∙ digests_append (part_outputs r s) (parts_outputs r ss ++ os)
    ∙ ap (λ hs. hs ++ digests_in (parts_outputs r ss ++ os)) (one_digests s.thread (part_walk r s) (answer_of (part_walk r s)))
    ∙ ap (λ hs. map datum_hash (next_part_data r s) ++ hs) (all_digests r ss os h)
    ∙ sym (map-both datum_hash (next_part_data r s) (flat_map (next_part_data r) ss))

-- the scripts of what is made are known
one_known : (named : List ℕ → Option Published) (e : Thread) (w : Walk) (end : Result Standing SemFault) → is_some (named e.shown.published.id) ≡ true → AllByRecursion (λ (o : Output). is_known named o.lock ≡ true) (step_outputs_of e w end)
one_known named e w (Ok a) h =
    each-append (λ (o : Output). is_known named o.lock ≡ true) (map (continuation e.shown.published.id) (next_data_of e w (Ok a))) (due_outputs e.shown.published.currency w.payments)
    (each_unless (is_known named) true (is_close a.contract) e.shown.published.id (next_datum (thread_terms e) e.datum w a.state) h)
    (each_due (is_known named) true (record { key = λ x. refl; payout = λ x y. refl }) e.shown.published.currency w.payments)
one_known named e w (Err f) h = tt

-- ---- a part of which nothing refuses

pub record IsPart (named : List ℕ → Option Published) (r : StepsRequest) (ys : List (Spend × Output)) (s : Stepped) : Type 0 where
  pub thread : IsThread s.thread
  pub there : named s.thread.shown.published.id ≡ Some s.thread.shown.published
  pub end : Standing
  pub ok : answer_of (part_walk r s) ≡ Ok end
  pub act : Nowhere (λ q. not (authorised s.thread.shown.published.currency r.signers ys q)) (filter_map actor s.inputs)

module _ (r : StepsRequest) (all : List Stepped) (some : is_empty all ≡ false) (are : AreThreads all) (clear : hinders_threads r all ≡ None) where
  abbrev us : List Unspent
  us = own_outputs all

  abbrev fs : List Unspent
  fs = parts_front r all

  abbrev ys : List (Spend × Output)
  ys = parts_pairs all fs

  abbrev tx : Tx
  tx = layout_threads r all

  abbrev change : List Output
  change = paid_to r.change (rest (parts_spent r all) (parts_outputs r all))

  clauses : AllByRecursion (λ x. x ≡ None) (parts_semantics_cause r all ∷ signature_cause r.signers r.offered ∷ parts_authority_cause r all ∷ funds_cause (all_deposits all) r.offered ∷ parts_limit_cause all (us ++ fs) ∷ repeat_cause (us ++ r.offered) ∷ [])
  clauses = each_none (parts_semantics_cause r all ∷ signature_cause r.signers r.offered ∷ parts_authority_cause r all ∷ funds_cause (all_deposits all) r.offered ∷ parts_limit_cause all (us ++ fs) ∷ repeat_cause (us ++ r.offered) ∷ []) clear

  succeed : AllByRecursion (λ (s : Stepped). semantics_cause (answer_of (part_walk r s)) ≡ None) all
  succeed = each_mapped (λ (s : Stepped). semantics_cause (answer_of (part_walk r s))) all clauses.0

  later : (more : List Unspent) × (r.offered ≡ fs ++ more)
  later = shortest_rest (suffices (all_roles all) (all_deposits all)) r.offered

  signed : AreKeyed r.signers fs
  signed = keyed_front r.signers fs later.0 r.offered later.1 clauses.1.0

  -- of each part the parties may act
  abbrev MayAct : Stepped → Type 0
  MayAct s = Nowhere (λ q. not (may_act s.thread.shown.published.currency r.signers r.offered q)) (filter_map actor s.inputs)

  parties : AllByRecursion MayAct all
  parties =
      each_so (λ (s : Stepped). authority_cause s.thread.shown.published.currency r.signers r.offered s.inputs ≡ None) MayAct
      (λ s h. found_nowhere (λ q. not (may_act s.thread.shown.published.currency r.signers r.offered q)) (filter_map actor s.inputs) (unmapped NotAuthorised _ h))
      all (each_mapped (λ (s : Stepped). authority_cause s.thread.shown.published.currency r.signers r.offered s.inputs) all clauses.1.1.0)

  -- so the tokens of all roles are offered
  all_offered : (ss : List Stepped) → AllByRecursion MayAct ss → Everywhere (holds_token r.offered) (all_roles ss)
  all_offered [] h = tt
  all_offered (s ∷ ss) h =
      each-append (λ t. holds_token r.offered t ≡ true) (roles_of s.thread.shown.published.currency s.inputs) (all_roles ss)
      (offers_roles s.thread.shown.published.currency r.signers r.offered (filter_map actor s.inputs) h.0) (all_offered ss h.1)

  -- the front holds them, and nothing lacks in it
  enough : (list_all (holds_token fs) (all_roles all) ≡ true) × (is_none (least_lacking (all_deposits all) fs) ≡ true)
  enough =
      let ts = all_roles all in
      let ns = all_deposits all in
      both (list_all (holds_token fs) ts) (is_none (least_lacking ns fs)) (front_suffices ts ns r.offered (together (list_all (holds_token r.offered) ts) (is_none (least_lacking ns r.offered))
      (everywhere_all (holds_token r.offered) ts (all_offered all parties))
      (is_nothing (least_lacking ns r.offered) (unmapped NoFunds _ clauses.1.1.1.0))))

  few : (nat_lt 8 (length all) || list_any (λ (s : Stepped). nat_lt 256 (length s.inputs)) all ≡ false) × (limit_cause (us ++ fs) ≡ None)
  few = unless_else (nat_lt 8 (length all) || list_any (λ (s : Stepped). nat_lt 256 (length s.inputs)) all) TooMany (limit_cause (us ++ fs)) clauses.1.1.1.1.0

  limits : (nat_lt 8 (length all) ≡ false) × (list_any (λ (s : Stepped). nat_lt 256 (length s.inputs)) all ≡ false)
  limits = neither (nat_lt 8 (length all)) (list_any (λ (s : Stepped). nat_lt 256 (length s.inputs)) all) few.0

  -- ---- of the transaction alone

  inputs_counted : length tx.inputs ≡ length (us ++ fs)
  inputs_counted = sym (length-map tx.inputs (λ (x : Spend). x.reference)) ∙ ap length (parts_named all fs) ∙ length-map (us ++ fs) (λ (u : Unspent). u.reference)

  some_inputs : (ss : List Stepped) → is_empty ss ≡ false → is_empty (map part_input ss ++ map by_key fs) ≡ false
  some_inputs [] h = cc
  some_inputs (s ∷ ss) h = refl

  given_few : (ss : List Stepped) → Nowhere (λ (s : Stepped). nat_lt 256 (length s.inputs)) ss → Nowhere has_too_many (map part_input ss)
  given_few [] h = tt
  given_few (s ∷ ss) h = (h.0, given_few ss h.1)

  first : tx_fault tx ≡ None
  first =
      tx_passes tx (some_inputs all some) (ap (nat_lt 256) inputs_counted ∙ not_many (us ++ fs) few.1)
      (each-append (λ x. has_too_many x ≡ false) (map part_input all) (map by_key fs) (given_few all (any_nowhere (λ (s : Stepped). nat_lt 256 (length s.inputs)) all limits.1)) (keys_few fs))
      (ap has_repeat (parts_named all fs) ∙ named_once us fs later.0 r.offered later.1 clauses.1.1.1.1.1.0)

  -- ---- the data

  none_so : IsSo is_contract false
  none_so = record { key = λ x. refl; payout = λ x y. refl }

  no_change : AreNoContracts change
  no_change = each_given is_contract false none_so r.change (rest (parts_spent r all) (parts_outputs r all))

  made_is : made_datums tx ≡ flat_map (next_part_data r) all
  made_is = ap (λ n. drop n (threads_data all ++ flat_map (next_part_data r) all)) (steps_counted all fs) ∙ data_behind all (flat_map (next_part_data r) all)

  brought : wrong_datum tx ys ≡ None
  brought =
      none_wrong tx ys (map datum_hash (threads_data all)) (map datum_hash (flat_map (next_part_data r) all))
      (parts_digests r.signers all fs are signed) (all_digests r all change no_change) (map-both datum_hash (threads_data all) (flat_map (next_part_data r) all))

  module _ (named : List ℕ → Option Published) (there : AllByRecursion (λ (s : Stepped). named s.thread.shown.published.id ≡ Some s.thread.shown.published) all) where
    -- ---- the parts

    parts_are : (ss : List Stepped) → AreThreads ss → AllByRecursion (λ (s : Stepped). named s.thread.shown.published.id ≡ Some s.thread.shown.published) ss → AllByRecursion (λ (s : Stepped). semantics_cause (answer_of (part_walk r s)) ≡ None) ss →
        AllByRecursion MayAct ss → Everywhere (holds_token fs) (all_roles ss) → AllByRecursion (IsPart named r ys) ss
    parts_are [] h t o m e = tt
    parts_are (s ∷ ss) h t o m e =
        let end = ends_well (answer_of (part_walk r s)) o.0 in
        let currency = s.thread.shown.published.currency in (
          record {
            thread = h.0;
            there = t.0;
            end = end.0;
            ok = end.1;
            act = all_act currency r.signers r.offered fs ys (λ role. parts_hold r.signers currency role all fs are signed) (filter_map actor s.inputs) m.0 (each_front (λ z. holds_token fs z ≡ true) (roles_of currency s.inputs) (all_roles ss) e);
          },
          parts_are ss h.1 t.1 o.1 m.1 (each_back (λ z. holds_token fs z ≡ true) (roles_of currency s.inputs) (all_roles ss) e),
        )

    parts : AllByRecursion (IsPart named r ys) all
    parts = parts_are all are there succeed parties (all_everywhere (holds_token fs) (all_roles all) enough.0)

    -- ---- the block of a part, between those before it and those behind

    module _ (before : List Stepped) (s : Stepped) (later_parts : List Stepped) (split : before ++ (s ∷ later_parts) ≡ all) (is : IsPart named r ys s) where
      abbrev p : Published
      p = s.thread.shown.published

      abbrev w : Walk
      w = part_walk r s

      abbrev closed : Bool
      closed = is_close is.end.contract

      abbrev next : Datum
      next = next_datum (thread_terms s.thread) s.thread.datum w is.end.state

      abbrev due : List Output
      due = due_outputs p.currency w.payments

      abbrev front : List Output
      front = parts_outputs r before

      abbrev behind : List Output
      behind = parts_outputs r later_parts ++ change

      abbrev stepping : Stepping
      stepping = step_asked tx ys (length front) (part_step s)

      outputs_are : part_outputs r s ≡ laid_block closed p.id next due
      outputs_are = ap (step_outputs_of s.thread w) is.ok

      data_are : next_part_data r s ≡ next_if closed next
      data_are = ap (next_data_of s.thread w) is.ok

      no_due : AreNoContracts due
      no_due = each_due is_contract false none_so p.currency w.payments

      outputs_so : tx.outputs ≡ front ++ (laid_block closed p.id next due ++ behind)
      outputs_so =
          ap (λ (ss : List Stepped). parts_outputs r ss ++ change) (sym split)
          ∙ ap (λ os. os ++ change) (flat_map-append (part_outputs r) before (s ∷ later_parts))
          ∙ append_assoc front (part_outputs r s ++ parts_outputs r later_parts) change
          ∙ ap (λ os. front ++ os) (append_assoc (part_outputs r s) (parts_outputs r later_parts) change ∙ ap (λ os. os ++ behind) outputs_are)

      made_so : made_datums tx ≡ flat_map (next_part_data r) before ++ (next_if closed next ++ flat_map (next_part_data r) later_parts)
      made_so =
          made_is ∙ ap (flat_map (next_part_data r)) (sym split) ∙ flat_map-append (next_part_data r) before (s ∷ later_parts)
          ∙ ap (λ ds. flat_map (next_part_data r) before ++ (ds ++ flat_map (next_part_data r) later_parts)) data_are

      acting : roles.not_authorised p.currency stepping ≡ None
      acting = mapped faults.NotAuthorised _ (not_found (λ q. not (authorised p.currency r.signers ys q)) (filter_map actor s.inputs) is.act)

      continued : roles.wrong_continuation closed next stepping ≡ None
      continued =
          if_not _ faults.WrongContinuation (ap not (goes_on_at_front closed tx p.id next front due behind (flat_map (next_part_data r) before) (flat_map (next_part_data r) later_parts) outputs_so made_so (all_counted r before)))

      paid : roles.wrong_payment p.currency closed w.payments stepping ≡ None
      paid = mapped faults.WrongPayment _ (paid_behind_front closed (roles.payments_from closed (length front)) p.id next front due behind tx.outputs outputs_so)

      answered : answer_by marlowe (named p.id) stepping ≡ taken closed (length due)
      answered =
          ap (λ v. answer_by marlowe v stepping) is.there
          ∙ ap (λ b. if b then by_answer (thread_terms s.thread) stepping w (answer_of w) else Refused NoMatch) is.thread.number
          ∙ ap (by_answer (thread_terms s.thread) stepping w) is.ok
          ∙ ap (λ f. Takes f (not closed) (length due))
          (none_of (roles.not_authorised p.currency stepping ∷ roles.wrong_continuation closed next stepping ∷ roles.wrong_payment p.currency closed w.payments stepping ∷ []) (acting, (continued, (paid, tt))))

      length_laid : (b : Bool) → length (laid_block b p.id next due) ≡ size (taken b (length due))
      length_laid true = let e : length due ≡ 0 + length due = omega arith in e
      length_laid false = let e : suc (length due) ≡ 1 + length due = omega arith in e

      -- where the next one begins
      longer : length (parts_outputs r (before ++ (s ∷ []))) ≡ length front + size (taken closed (length due))
      longer =
          ap length (flat_map-append (part_outputs r) before (s ∷ [])) ∙ length-append front (part_outputs r s ++ [])
          ∙ ap (λ os. length front + length os) (append-nil (part_outputs r s) ∙ outputs_are) ∙ ap (λ n. length front + n) (length_laid closed)

      block_so : AreClear (blocks marlowe named tx ys (map part_step later_parts) (length (parts_outputs r (before ++ (s ∷ []))))) (length (parts_outputs r (before ++ (s ∷ [])))) behind →
          AreClear (blocks marlowe named tx ys (map part_step (s ∷ later_parts)) (length front)) (length front) (parts_outputs r (s ∷ later_parts) ++ change)
      block_so h =
          let i = length front in
          let more = blocks marlowe named tx ys (map part_step later_parts) in
          let there : AreClear (more (i + size (taken closed (length due)))) (i + size (taken closed (length due))) behind = subst (λ n. AreClear (more n) n behind) longer h in
          let one = one_block closed i s.thread.shown.reference p.id next due behind (more (i + size (taken closed (length due)))) no_due there in
          subst (λ a. AreClear (and_blocks i s.thread.shown.reference a more) i (parts_outputs r (s ∷ later_parts) ++ change)) (sym answered)
          (subst (AreClear (and_blocks i s.thread.shown.reference (taken closed (length due)) more) i) (ap (λ os. os ++ behind) (sym outputs_are) ∙ sym (append_assoc (part_outputs r s) (parts_outputs r later_parts) change)) one)

    blocks_are : (before ss : List Stepped) → before ++ ss ≡ all → AllByRecursion (IsPart named r ys) ss → AreClear (blocks marlowe named tx ys (map part_step ss) (length (parts_outputs r before))) (length (parts_outputs r before)) (parts_outputs r ss ++ change)
    blocks_are before [] split h = no_blocks (length (parts_outputs r before)) change no_change
    blocks_are before (s ∷ ss) split h = block_so before s ss split h.0 (blocks_are (before ++ (s ∷ [])) ss (append_assoc before (s ∷ []) ss ∙ split) h.1)

    stepped_so : (zs : List Step) → is_empty zs ≡ false → block_fault (blocks marlowe named tx ys zs 0) tx.outputs ≡ None → step_fault marlowe named tx ys zs ≡ None
    stepped_so [] h k = cc
    stepped_so (z ∷ zs) h k = k

    some_steps : (ss : List Stepped) → is_empty ss ≡ false → is_empty (map part_step ss) ≡ false
    some_steps [] h = cc
    some_steps (s ∷ ss) h = refl

    steps : step_fault marlowe named tx ys (steps_of ys tx.datums) ≡ None
    steps =
        ap (step_fault marlowe named tx ys) (parts_stepped r.signers all fs (flat_map (next_part_data r) all) are signed)
        ∙ stepped_so (map part_step all) (some_steps all some) (blocks_pass (blocks marlowe named tx ys (map part_step all) 0) tx.outputs (blocks_are [] all refl parts))

    -- ---- what is known

    known_so : (ss : List Stepped) → AllByRecursion (IsPart named r ys) ss → AllByRecursion (λ (o : Output). is_known named o.lock ≡ true) (parts_outputs r ss)
    known_so [] h = tt
    known_so (s ∷ ss) h =
        each-append (λ (o : Output). is_known named o.lock ≡ true) (part_outputs r s) (parts_outputs r ss)
        (one_known named s.thread (part_walk r s) (answer_of (part_walk r s)) (ap is_some (h.0).there)) (known_so ss h.1)

    spent_known : (ss : List Stepped) → AllByRecursion (IsPart named r ys) ss → Everywhere (λ (x : Spend × Output). is_known named x.1.lock) (map part_pair ss)
    spent_known [] h = tt
    spent_known (s ∷ ss) h = (ap (is_known named) (h.0).thread.lock ∙ ap is_some (h.0).there, spent_known ss h.1)

    keys_known : (xs : List Unspent) → AreKeyed r.signers xs → Everywhere (λ (x : Spend × Output). is_known named x.1.lock) (paired with.None xs)
    keys_known [] h = tt
    keys_known (x ∷ xs) h = (ap (is_known named) (h.0).lock, keys_known xs h.1)

    all_known_is : all_known named tx.outputs ys ≡ true
    all_known_is =
        together (list_all (λ (o : Output). is_known named o.lock) tx.outputs) (list_all (λ (x : Spend × Output). is_known named x.1.lock) ys)
        (everywhere_all (λ (o : Output). is_known named o.lock) tx.outputs
        (each-append (λ (o : Output). is_known named o.lock ≡ true) (parts_outputs r all) change (known_so all parts)
        (each_given (is_known named) true (record { key = λ x. refl; payout = λ x y. refl }) r.change (rest (parts_spent r all) (parts_outputs r all)))))
        (everywhere_all (λ (x : Spend × Output). is_known named x.1.lock) ys
        (each-append (λ (x : Spend × Output). is_known named x.1.lock ≡ true) (map part_pair all) (paired with.None fs) (spent_known all parts) (keys_known fs signed)))

    -- a test that no lock of a thread passes, nor a key
    nowhere : (test : Spend × Output → Bool) → ((s : Stepped) → IsThread s.thread → test (part_pair s) ≡ false) → ((u : Unspent) → IsKeyed r.signers u → test (by_key u, u.output) ≡ false) → Nowhere test ys
    nowhere test h k = nowhere_parts r.signers test all fs (each_so (λ (s : Stepped). IsThread s.thread) (λ (s : Stepped). test (part_pair s) ≡ false) h all are) k signed

    rules : spent_fault marlowe named tx ys ≡ None
    rules =
        spent_passes named tx ys
        (nowhere (λ (x : Spend × Output). lacks_signer r.signers x.1.lock) (λ s h. ap (lacks_signer r.signers) h.lock) (λ u k. ap (lacks_signer r.signers) k.lock ∙ ap not k.signed))
        (ap (nat_lt 8) (contracts_counted r.signers all fs are signed) ∙ limits.0)
        (nowhere (λ (x : Spend × Output). not (opens x.0.redeemer x.1.lock)) (λ s h. ap (λ l. not (opens (with.Step s.inputs) l)) h.lock) (λ u k. ap (λ l. not (opens with.None l)) k.lock))
        (nowhere (λ (x : Spend × Output). lacks_role (holds_role ys) x.1.lock) (λ s h. ap (lacks_role (holds_role ys)) h.lock) (λ u k. ap (lacks_role (holds_role ys)) k.lock))
        brought steps (λ t. parts_total t all fs ∙ sym (total-changed r.change (us ++ fs) (parts_outputs r all) t))

    clean : IsClean named tx (us ++ fs) ys
    clean = record { first = first; names = parts_named all fs; pairs = parts_paired all fs; known = all_known_is; rules = rules }

abbrev pub its_pairs : StepsRequest → List Stepped → List (Spend × Output)
its_pairs r ss = parts_pairs ss (parts_front r ss)

-- no rule refuses the layout
pub clean_parts : (r : StepsRequest) (ss : List Stepped) → threads_of r.parts ≡ Some ss → hinders_parts r (threads_of r.parts) ≡ None → (named : List ℕ → Option Published) → AllByRecursion (λ (s : Stepped). named s.thread.shown.published.id ≡ Some s.thread.shown.published) ss →
    IsClean named (layout_parts r (threads_of r.parts)) (parts_spent r ss) (its_pairs r ss)
clean_parts r ss shown clear named there =
    let so = agreed (stepped_in r.parts) ss shown in
    subst (λ o. IsClean named (layout_parts r o) (parts_spent r ss) (its_pairs r ss)) (sym shown)
    (clean r ss so.1 (of_parts r.parts ss so.0) (ap (hinders_parts r) (sym shown) ∙ clear) named there)

there_so : (named : List ℕ → Option Published) (ss : List Stepped) → ArePublished named ss → AllByRecursion (λ (s : Stepped). named s.thread.shown.published.id ≡ Some s.thread.shown.published) ss
there_so named ss h = by_recursion (λ (s : Stepped). named s.thread.shown.published.id ≡ Some s.thread.shown.published) ss h

pub parts_pass : PartsPass
parts_pass r ss found shown clear outputs scripts =
    passes (layout_parts r (threads_of r.parts)) found (parts_spent r ss) (its_pairs r ss) (clean_parts r ss shown clear (script_at found.scripts) (there_so (script_at found.scripts) ss scripts)) outputs

pub parts_are_accepted : FoundIsEnough marlowe → PartsAreAccepted
parts_are_accepted enough r ss m shown clear scripts admits =
    judged enough m (layout_parts r (threads_of r.parts)) (parts_spent r ss) (its_pairs r ss) (clean_parts r ss shown clear m.published (there_so m.published ss scripts)) admits

pub parts_are_accepted_after : FoundIsEnough marlowe → BytesTellApart → PartsAreAcceptedAfter
parts_are_accepted_after enough apart r ss published past tick shown clear scripts fit is =
    judged_after enough apart published past tick (layout_parts r (threads_of r.parts)) (parts_spent r ss) (its_pairs r ss) (clean_parts r ss shown clear published (there_so published ss scripts)) fit is
