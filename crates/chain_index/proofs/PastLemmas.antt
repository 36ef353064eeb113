-- What is indexed of a past.
use Rattle.std.proofs.Common.{◌≡◌, ℕ, suc, ◌+◌, Bool, true, false, ◌||◌, ◌&&◌, not, filter, ℤ, List, [], ◌∷◌, ◌++◌, refl, sym, ◌∙◌, ap, subst, append_assoc, length, map, arith, Option, Some, None}
use Rattle.std.specs.Prelude.{is_some, is_none, if◌then◌else◌}
use Rattle.std.specs.List.{list_any, slice_get, IsDistinct, AllByRecursion}
use Rattle.std.specs.Map.{keys_of}
use Rattle.std.proofs.Math.Seq.{take-append_seam}
use Rattle.std.proofs.lemmas.List.{map-append, length-map}
use Rattle.std.proofs.lemmas.List.Elements.{filter-append}
use Rattle.std.specs.Option.{option_or}
use Rattle.std.proofs.lemmas.List.Folds.{list_any-append, find-append}
use Rattle.std.proofs.lemmas.Map.Keys.{IsDistinct-cons}
use Rattle.std.proofs.lemmas.Map.Views.{any-filter_same}
use Rattle.ledger_spec.specs.Machine.declared.datum.Datum.{Datum}
use Rattle.ledger_spec.specs.EutxoTypes.declared.output.Output.{Output}
use Rattle.ledger_spec.specs.EutxoTypes.declared.output_ref.OutputRef.{OutputRef}
use Rattle.ledger_spec.specs.EutxoTypes.declared.output_ref.OutputRef.TheVariants.{Genesis, Made}
use Rattle.ledger_spec.specs.EutxoTypes.declared.spend.Spend.{Spend}
use Rattle.ledger_spec.specs.EutxoTypes.declared.tx.Tx.{Tx}
use Rattle.ledger_spec.specs.EutxoTypes.Ids.{id_of}
use Rattle.ledger_spec.specs.EutxoTypes.Parts.{same_bytes, same_ref, is_step, steps, contract_at}
use Rattle.ledger_spec.specs.Eutxo.Asked.{Judges}
use Rattle.ledger_spec.specs.Eutxo.Blocks.{Block, blocks, blocks_on, places_in, goes_on_at}
use Rattle.ledger_spec.specs.Eutxo.Found.{with_outputs, if_known}
use Rattle.ledger_spec.specs.Eutxo.Judgement.{found, judge}
use Rattle.ledger_spec.specs.Eutxo.Laws.{FoundIsEnough, FoundTellsPlaces}
use Rattle.ledger_spec.specs.Eutxo.Local.{places_of}
use Rattle.ledger_spec.specs.Eutxo.Rules.{digests_in, steps_of}
use Rattle.ledger_spec.specs.Roles.declared.published.Published.{Published}
use Rattle.ledger_spec.specs.Roles.Steps.{marlowe}
use Rattle.ledger_spec.specs.LedgerLaws.Laws.{AfterIsSound, ThreadsStay}
use Rattle.ledger_spec.specs.LedgerLaws.Sound.{moment, IsSound, IsMore}
use Rattle.ledger_spec.specs.LedgerLaws.Past.{Past, before, after, is_input_of, is_spent, created, created_by, unspent, unspent_at, has_id}
use Rattle.ledger_spec.specs.LedgerLaws.Past as past_words
use Rattle.ledger_spec.specs.LedgerLaws.Threads.{next_in}
use Rattle.ledger_spec.proofs.FromLedgerLaws.PlainLaws.{EachFalse, and_true, or_false, both_false, not_both, is_there, any_there, each_at, no_more}
use Rattle.ledger_spec.proofs.FromLedgerLaws.ReferenceLaws.{same_ref_so, created_grown, spent_more, unspent_so, and_never}
use Rattle.ledger_spec.proofs.FromLedgerLaws.DatumLaws.{told}
use Rattle.ledger_spec.proofs.FromLedgerLaws.AcceptedLaws.{Spent, spent_at, fresh_at_steps, blocks_so, still_there}
use Rattle.ledger_spec.proofs.FromLedgerLaws.FreshLemmas.{Fresh, fresh}
use Rattle.ledger_spec.proofs.FromLedgerLaws.JudgedLemmas.{Passes, passes}
use Rattle.ledger_spec.specs.Replay.{published_at}
use Rattle.ledger_spec.specs.Views.{starts_in}
use Rattle.chain_index.specs.declared.moves.Move.{Move}
use Rattle.chain_index.specs.Contents.{next_after, contents_of, without, blocks_in, accepting, moment_at, is_used, is_among}
use Rattle.chain_index.specs.Laws.{ReadsAlike, AcceptsAlike, PlacesAlike, PublishesAlike, JudgedCanBeAdded}
use Rattle.chain_index.specs.Moves.{Next, move_to, moves_by, moves_in, moves_to, moves_from, starts_by, starts_of}
use Rattle.chain_index.specs.Data.{data_by, data_of, unspent_data}
use Rattle.chain_index.proofs.DataLemmas.{made_among, data_after, data_stay}
use Rattle.chain_index.proofs.MovedLemmas.{moves_by_blocks}
use Rattle.chain_index.proofs.PartsLemmas.{filtered_twice, all_stay}
use Rattle.chain_index.proofs.RefLemmas.{flips, flip_or, or_left, or_elim}

-- ---- read alike

used_alike : (txs : List Tx) (id : List ℕ) → is_used (map id_of txs) id ≡ past_words.is_used txs id
used_alike [] id = refl
used_alike (tx ∷ txs) id = ap (λ b. same_bytes id (id_of tx) || b) (used_alike txs id)

pub reads_alike : ReadsAlike
reads_alike ps past tick = λ i. record { unspent = unspent_at past; published = published_at ps; is_used = λ id. used_alike past.accepted id i; tick = tick }

-- ---- accepted alike

at_end : {A : Type 0} (xs : List A) (x : A) → slice_get (xs ++ x ∷ []) (length xs) ≡ Some x
at_end [] x = refl
at_end (y ∷ xs) x = at_end xs x

unspent_after : (past : Past) (tx : Tx) → ((i : ℕ) → is_spent (past.accepted ++ tx ∷ []) (Made (id_of tx) i) ≡ false) → without tx (unspent past) ++ created_by tx ≡ unspent (after past tx)
unspent_after past tx new =
    sym (ap (filter (λ e. not (is_spent (past.accepted ++ tx ∷ []) e.0))) (created_grown past past.accepted tx)
    ∙ filter-append (λ e. not (is_spent (past.accepted ++ tx ∷ []) e.0)) (created past) (created_by tx)
    ∙ (λ j. filter (λ e. not ((spent_more past.accepted tx e.0 ∙ flip_or (is_spent past.accepted e.0) (is_input_of e.0 tx)) j)) (created past) ++ all_stay (is_spent (past.accepted ++ tx ∷ [])) (id_of tx) 0 tx.outputs new j)
    ∙ ap (λ (l : List (OutputRef × Output)). l ++ created_by tx) (filtered_twice (λ e. is_input_of e.0 tx) (λ e. is_spent past.accepted e.0) (created past)))

unspent_data_after : (past : Past) (tx : Tx) → ((i : ℕ) → is_spent (past.accepted ++ tx ∷ []) (Made (id_of tx) i) ≡ false) → without tx (unspent_data past) ++ data_by tx ≡ unspent_data (after past tx)
unspent_data_after past tx new =
    sym (ap (filter (λ e. not (is_spent (past.accepted ++ tx ∷ []) e.0))) (data_after past.accepted tx)
    ∙ filter-append (λ e. not (is_spent (past.accepted ++ tx ∷ []) e.0)) (data_of past.accepted) (data_by tx)
    ∙ (λ j. filter (λ e. not ((spent_more past.accepted tx e.0 ∙ flip_or (is_spent past.accepted e.0) (is_input_of e.0 tx)) j)) (data_of past.accepted) ++ data_stay (is_spent (past.accepted ++ tx ∷ [])) tx (id_of tx) 0 tx.outputs new j)
    ∙ ap (λ (l : List (OutputRef × Datum)). l ++ data_by tx) (filtered_twice (λ e. is_input_of e.0 tx) (λ e. is_spent past.accepted e.0) (data_of past.accepted)))

moves_after : (next : Next) (n : ℕ) (txs : List Tx) (tx : Tx) → moves_from next n (txs ++ tx ∷ []) ≡ moves_from next n txs ++ moves_in next (n + length txs) tx
moves_after next n [] tx = no_more (moves_in next n tx) ∙ ap (λ k. moves_in next k tx) (let e : n ≡ n + 0 = omega arith in e)
moves_after next n (t ∷ txs) tx =
    let e : (n + 1) + length txs ≡ n + suc (length txs) = omega arith in
    ap (λ (l : List (OutputRef × Move)). moves_in next n t ++ l) (moves_after next (n + 1) txs tx ∙ ap (λ k. moves_from next (n + 1) txs ++ moves_in next k tx) e)
    ∙ sym (append_assoc (moves_in next n t) (moves_from next (n + 1) txs) (moves_in next (n + suc (length txs)) tx))

-- moves are the same where threads go on alike
same_by : (next other : Next) (n : ℕ) (tx : Tx) → ((r : OutputRef) → other r tx ≡ next r tx) → (xs : List Spend) → moves_by other n tx xs ≡ moves_by next n tx xs
same_by next other n tx same [] = refl
same_by next other n tx same (x ∷ xs) =
    λ i. if is_step x.redeemer then (let m : OutputRef × Move = (x.reference, move_to n (same x.reference i)) in m) ∷ same_by next other n tx same xs i else same_by next other n tx same xs i

pub same_moves : (next other : Next) (n : ℕ) (txs : List Tx) → ((k : ℕ) (tx : Tx) → slice_get txs k ≡ Some tx → (r : OutputRef) → other r tx ≡ next r tx) → moves_from other n txs ≡ moves_from next n txs
same_moves next other n [] same = refl
same_moves next other n (tx ∷ txs) same = λ i. same_by next other n tx (same 0 tx refl) tx.inputs i ++ same_moves next other (n + 1) txs (λ k t e. same (suc k) t e) i

starts_after : (txs : List Tx) (tx : Tx) → starts_of (txs ++ tx ∷ []) ≡ starts_of txs ++ starts_by tx
starts_after [] tx = no_more (starts_by tx)
starts_after (t ∷ txs) tx = ap (λ (l : List OutputRef). starts_by t ++ l) (starts_after txs tx) ∙ sym (append_assoc (starts_by t) (starts_of txs) (starts_by tx))

module _ (enough : FoundIsEnough marlowe) (grows : AfterIsSound marlowe) (stay : ThreadsStay marlowe) (ps : List Published) (past : Past) (tick : ℤ) (tx : Tx) (sound : IsSound marlowe (published_at ps) past) (h : judge marlowe (moment (published_at ps) past tick) tx ≡ None) where
  abbrev later : Past
  later = after past tx

  grown : IsSound marlowe (published_at ps) later
  grown = grows (published_at ps) past tick tx sound h

  at : slice_get later.accepted (length past.accepted) ≡ Some tx
  at = at_end past.accepted tx

  new : (i : ℕ) → is_spent (past.accepted ++ tx ∷ []) (Made (id_of tx) i) ≡ false
  new =
      subst (λ (l : List Tx). (i : ℕ) → is_spent (l ++ tx ∷ []) (Made (id_of tx) i) ≡ false) (take-append_seam past.accepted (tx ∷ []))
      (still_there marlowe enough (published_at ps) later grown (length past.accepted) tx at)

  -- the earlier ones move as they did
  earlier : moves_from (next_after later ps) 0 past.accepted ≡ moves_from (next_after past ps) 0 past.accepted
  earlier = same_moves (next_after past ps) (next_after later ps) 0 past.accepted (λ k t e. (stay (published_at ps) (published_at ps) past (λ id v f. f) sound k t e).accepted tx)

  abbrev spent : Spent marlowe enough (published_at ps) later grown (length past.accepted) tx
  spent = spent_at marlowe enough (published_at ps) later grown (length past.accepted) tx at

  abbrev all : List Block
  all = blocks marlowe (published_at ps) tx spent.ys (steps_of spent.ys tx.datums) 0

  -- what it spends was unspent
  there : with_outputs tx.inputs (map (λ x. unspent_at past x.reference) tx.inputs) ≡ Some spent.ys
  there = subst (λ (l : List Tx). with_outputs tx.inputs (map (λ x. unspent_at (record past { accepted = l }) x.reference) tx.inputs) ≡ Some spent.ys) (take-append_seam past.accepted (tx ∷ [])) spent.there

  -- and the one that is added moves as its blocks say
  added : (n : ℕ) → moves_to n tx tx.inputs (places_in (blocks_in (contents_of past ps) tx)) ≡ moves_in (next_after later ps) n tx
  added n =
      ap (λ (o : Option (List (Spend × Output))). moves_to n tx tx.inputs (places_in (blocks_on marlowe (published_at ps) tx o))) there
      ∙ moves_by_blocks marlowe (published_at ps) tx spent.ys n (unspent_at (before later (length past.accepted))) tx.inputs spent.ys tx.datums (digests_in tx.outputs) spent.pairs spent.kinds
      (told tx spent.ys spent.datums) (fresh_at_steps marlowe enough (published_at ps) later grown (length past.accepted) tx at)
      ∙ same_by (next_after later ps) (λ r t. next_in t (goes_on_at all r)) n tx (λ r. ap (λ (bs : List Block). next_in tx (goes_on_at bs r)) (sym (blocks_so marlowe enough (published_at ps) later grown (length past.accepted) tx at))) tx.inputs

  accepted : accepting (contents_of past ps) tx ≡ contents_of later ps
  accepted =
      let u = unspent_after past tx new in
      let d = sym (map-append id_of past.accepted (tx ∷ [])) in
      let z : length past.accepted ≡ 0 + length past.accepted = omega arith in
      let m =
      added (length (map id_of past.accepted))
      ∙ ap (λ n. moves_in (next_after later ps) n tx) (length-map past.accepted id_of ∙ z) in
      let moved = (λ i. sym earlier i ++ m i) ∙ sym (moves_after (next_after later ps) 0 past.accepted tx) in
      let s = sym (starts_after past.accepted tx) in
      let a = unspent_data_after past tx new in
      λ i. record { unspent = u i; used = d i; published = ps; moves = moved i; starts = s i; datums = a i }

  -- what is found of it tells where its contracts go on
  whole : if_known (published_at ps) tx.outputs (with_outputs tx.inputs (map (λ x. unspent_at past x.reference) tx.inputs)) ≡ Some spent.ys
  whole =
      subst (λ (l : List Tx). if_known (published_at ps) tx.outputs (with_outputs tx.inputs (map (λ x. unspent_at (record past { accepted = l }) x.reference) tx.inputs)) ≡ Some spent.ys)
      (take-append_seam past.accepted (tx ∷ [])) spent.whole

  told_places : FoundTellsPlaces marlowe → places_of marlowe tx (found (moment_at (contents_of past ps) tick) tx) ≡ places_in (blocks_in (contents_of past ps) tx)
  told_places tells =
      tells (moment_at (contents_of past ps) tick) tx
      ∙ ap (λ (o : Option (List (Spend × Output))). places_in (blocks_on marlowe (published_at ps) tx o)) (whole ∙ sym there)

pub places_alike : FoundIsEnough marlowe → FoundTellsPlaces marlowe → AfterIsSound marlowe → ThreadsStay marlowe → PlacesAlike
places_alike enough tells grows stay ps past tick tx sound h = told_places enough grows stay ps past tick tx sound h tells

pub accepts_alike : FoundIsEnough marlowe → AfterIsSound marlowe → ThreadsStay marlowe → AcceptsAlike
accepts_alike enough grows stay ps past tick tx sound h = accepted enough grows stay ps past tick tx sound h

-- ---- published alike

pub publishes_alike : ThreadsStay marlowe → PublishesAlike
publishes_alike stay ps past p sound h =
    let more : IsMore (published_at ps) (published_at (ps ++ p ∷ [])) = λ id v e. find-append (λ r. same_bytes r.id id) ps (p ∷ []) ∙ ap (λ (o : Option Published). option_or o (published_at (p ∷ []) id)) e in
    let m = same_moves (next_after past ps) (next_after past (ps ++ p ∷ [])) 0 past.accepted (λ k t e. (stay (published_at ps) (published_at (ps ++ p ∷ [])) past more sound k t e).more) in
    λ i. record { unspent = unspent past; used = map id_of past.accepted; published = ps ++ p ∷ []; moves = sym m i; starts = starts_of past.accepted; datums = unspent_data past }

-- ---- what is judged without a fault can be added

-- a move is under an output that its transaction spends
pub moves_spend : (next : Next) (n : ℕ) (tx : Tx) (xs : List Spend) (r : OutputRef) → is_among (keys_of (moves_by next n tx xs)) r ≡ true → list_any (λ x. same_ref x.reference r) xs ≡ true
moves_spend next n tx [] r h = h
moves_spend next n tx (x ∷ xs) r h = by (is_step x.redeemer) h (moves_spend next n tx xs r)
  where
    m : OutputRef × Move
    m = (x.reference, move_to n (next x.reference tx))

    or_more : (a b c : Bool) → (b ≡ true → c ≡ true) → a || b ≡ true → a || c ≡ true
    or_more true b c f k = refl
    or_more false b c f k = f k

    later : (a c : Bool) → c ≡ true → a || c ≡ true
    later true c k = refl
    later false c k = k

    by : (b : Bool) → is_among (keys_of (if b then m ∷ moves_by next n tx xs else moves_by next n tx xs)) r ≡ true → (is_among (keys_of (moves_by next n tx xs)) r ≡ true → list_any (λ y. same_ref y.reference r) xs ≡ true) →
        same_ref x.reference r || list_any (λ y. same_ref y.reference r) xs ≡ true
    by true k go =
        or_more (same_ref x.reference r) (is_among (keys_of (moves_by next n tx xs)) r) (list_any (λ y. same_ref y.reference r) xs) go (ap (λ b. b || is_among (keys_of (moves_by next n tx xs)) r) (flips x.reference r) ∙ k)
    by false k go = later (same_ref x.reference r) (list_any (λ y. same_ref y.reference r) xs) (go k)

pub moved_spent : (next : Next) (n : ℕ) (txs : List Tx) (r : OutputRef) → is_among (keys_of (moves_from next n txs)) r ≡ true → is_spent txs r ≡ true
moved_spent next n [] r h = h
moved_spent next n (tx ∷ txs) r h =
    or_elim (is_among (keys_of (moves_in next n tx)) r) (is_among (keys_of (moves_from next (n + 1) txs)) r)
    (sym (list_any-append (same_ref r) (keys_of (moves_in next n tx)) (keys_of (moves_from next (n + 1) txs))) ∙ sym (ap (λ (rs : List OutputRef). is_among rs r) (map-append (λ e. e.0) (moves_in next n tx) (moves_from next (n + 1) txs))) ∙ h)
    (λ k. or_left (is_input_of r tx) (is_spent txs r) (moves_spend next n tx tx.inputs r k))
    (λ k. flip_or (is_input_of r tx) (is_spent txs r) ∙ or_left (is_spent txs r) (is_input_of r tx) (moved_spent next (n + 1) txs r k))

some_if : {A : Type 0} (o : Option A) → is_none o ≡ false → is_some o ≡ true
some_if None h = cc
some_if (Some x) h = refl

pub false_if : (b : Bool) → (b ≡ true → ⊥) → b ≡ false
false_if true h = absurd (h refl)
false_if false h = refl

none_apart : IsDistinct same_ref []
unfolding IsDistinct
none_apart = tt

apart : (xs : List Spend) → Fresh xs → IsDistinct same_ref (map (λ x. x.reference) xs)
apart [] f = none_apart
apart (x ∷ xs) f = IsDistinct-cons same_ref x.reference (map (λ y. y.reference) xs) (all xs f.0) (apart xs f.1)
  where
    all : (ys : List Spend) → EachFalse (λ y. same_ref x.reference y.reference) ys → AllByRecursion (λ r. same_ref x.reference r ≡ false) (map (λ y. y.reference) ys)
    all [] h = tt
    all (y ∷ ys) h = (h.0, all ys h.1)

-- ---- starts

-- a start is one of the transaction's outputs
start_made : (r : OutputRef) (tx : Tx) → starts_in r tx ≡ true → is_among (keys_of (created_by tx)) r ≡ true
start_made (Genesis i) tx h = cc
start_made (Made id i) tx h =
    let a = and_true (has_id id tx) (not (steps tx) && is_some (contract_at tx i)) h in
    let b = and_true (not (steps tx)) (is_some (contract_at tx i)) a.1 in
    let c = is_there (contract_at tx i) b.1 in
    made_among tx id i c.0 a.0 c.1

starts_one : (tx : Tx) (r : OutputRef) → is_among (starts_by tx) r ≡ starts_in r tx
starts_one tx r = any-filter_same (same_ref r) (λ q. starts_in q tx) (starts_in r tx) (λ q e. ap (λ (x : OutputRef). starts_in x tx) (sym (same_ref_so r q e))) (keys_of (created_by tx)) ∙ by (starts_in r tx) refl
  where
    by : (b : Bool) → starts_in r tx ≡ b → b && is_among (keys_of (created_by tx)) r ≡ b
    by true e = start_made r tx e
    by false e = refl

pub starts_alike : (txs : List Tx) (r : OutputRef) → is_among (starts_of txs) r ≡ list_any (starts_in r) txs
starts_alike [] r = refl
starts_alike (tx ∷ txs) r = list_any-append (same_ref r) (starts_by tx) (starts_of txs) ∙ (λ i. starts_one tx r i || starts_alike txs r i)

unstarted : (txs : List Tx) (id : List ℕ) (i : ℕ) → list_any (has_id id) txs ≡ false → list_any (starts_in (Made id i)) txs ≡ false
unstarted [] id i h = refl
unstarted (tx ∷ txs) id i h =
    let q = or_false (has_id id tx) (list_any (has_id id) txs) h in
    both_false (starts_in (Made id i) tx) (list_any (starts_in (Made id i)) txs) (and_never (has_id id tx) (not (steps tx) && is_some (contract_at tx i)) q.0) (unstarted txs id i q.1)

pub can_be_added : (j : Judges Published) → FoundIsEnough j → JudgedCanBeAdded j
can_be_added j enough published ps past tick tx h = record {
  unused = used_alike past.accepted (id_of tx) ∙ p.fresh;
  there = there;
  once = apart tx.inputs (fresh tx.inputs p.alone);
  unmoved = λ r n. false_if (is_among (keys_of (moves_from (next_after past ps) 0 past.accepted)) r) (λ k.
      let o = is_there (unspent_at past r) (there r n) in
      not_both (moved_spent (next_after past ps) 0 past.accepted r k) (unspent_so past r o.0 o.1).0);
  unstarted = λ i. starts_alike past.accepted (Made (id_of tx) i) ∙ unstarted past.accepted (id_of tx) i p.fresh;
}
  where
    p : Passes j published past tx
    p = passes j enough published past tick tx h

    there : (r : OutputRef) → is_input_of r tx ≡ true → is_some (unspent_at past r) ≡ true
    there r n =
        let m = any_there (λ x. same_ref x.reference r) tx.inputs n in
        ap (λ (q : OutputRef). is_some (unspent_at past q)) (sym (same_ref_so m.1.reference r m.3)) ∙ some_if (unspent_at past m.1.reference) (each_at (λ x. is_none (unspent_at past x.reference)) m.0 tx.inputs m.1 p.unspent m.2)
