-- The moves of a sound past lead along its threads.
use Rattle.std.proofs.Common.{◌≡◌, ℕ, zero, suc, ◌+◌, ◌≤◌, arith, Bool, true, false, List, [], ◌∷◌, ◌++◌, refl, sym, ◌∙◌, ap, subst, take, drop, length, map, Option, Some, None}
use Rattle.std.specs.Prelude.{if◌then◌else◌}
use Rattle.std.specs.Option.{option_map}
use Rattle.std.specs.List.{slice_get, list_any}
use Rattle.std.specs.Map.{lookup, keys_of}
use Rattle.std.proofs.lemmas.List.{length-append, take-append-drop}
use Rattle.ledger_spec.specs.EutxoTypes.declared.output.Output.{Output}
use Rattle.ledger_spec.specs.EutxoTypes.declared.output_ref.OutputRef.{OutputRef}
use Rattle.ledger_spec.specs.EutxoTypes.declared.spend.Spend.{Spend}
use Rattle.ledger_spec.specs.EutxoTypes.declared.tx.Tx.{Tx}
use Rattle.ledger_spec.specs.EutxoTypes.Parts.{same_ref, is_step, is_contract, Instance, lock_of}
use Rattle.ledger_spec.specs.Eutxo.Blocks.{goes_on_at}
use Rattle.ledger_spec.specs.Eutxo.Laws.{FoundIsEnough}
use Rattle.ledger_spec.specs.Roles.declared.published.Published.{Published}
use Rattle.ledger_spec.specs.Roles.Steps.{marlowe}
use Rattle.ledger_spec.specs.LedgerLaws.Past.{Past, created, is_input_of, is_spent}
use Rattle.ledger_spec.specs.LedgerLaws.Sound.{IsSound}
use Rattle.ledger_spec.specs.LedgerLaws.Threads.{blocks_of, Link, next_of, spine_by, thread_end, IsMade}
use Rattle.ledger_spec.proofs.FromLedgerLaws.PlainLaws.{or_false, both_false, not_both, same_some, head_at, take_some, no_more}
use Rattle.ledger_spec.proofs.FromLedgerLaws.PartLaws.{under_so, is_contract_so}
use Rattle.ledger_spec.proofs.FromLedgerLaws.ReferenceLaws.{same_ref_so, same_ref-refl, lookup_front, lookup_back, spent_more}
use Rattle.ledger_spec.proofs.FromLedgerLaws.AcceptedLaws.{named_input, steps_contract, made_there, still_there}
use Rattle.ledger_spec.proofs.FromLedgerLaws.MadeLaws.{made_output}
use Rattle.ledger_spec.proofs.FromLedgerLaws.SpineLaws.{reached, ends_reached, next_so}
use Rattle.ledger_spec.specs.Replay.{published_at}
use Rattle.ledger_spec.specs.Views.{starts_in}
use Rattle.ledger_spec.proofs.StartsLaws.{start_told}
use Rattle.chain_index.specs.declared.moves.Move.{Move}
use Rattle.chain_index.specs.Contents.{next_after, is_among}
use Rattle.chain_index.specs.Laws.{link_at, TellsThread, ThreadsAlike, EndsAlike}
use Rattle.chain_index.specs.Moves.{Next, move_to, moves_by, moves_in, moves_from, place_of, step_at, steps_after, steps_within, leads_after, leads_within, leads}
use Rattle.chain_index.proofs.LiveLemmas.{absent_lookup}
use Rattle.chain_index.proofs.MoveLemmas.{Listed}
use Rattle.chain_index.proofs.PastLemmas.{false_if, moves_spend, moved_spent, starts_alike}

-- ---- where a move is

-- that of an input, which is a step
move_of_input : (next : Next) (n : ℕ) (tx : Tx) (r : OutputRef) (xs : List Spend) (i : ℕ) (x : Spend) → slice_get xs i ≡ Some x → x.reference ≡ r → is_step x.redeemer ≡ true →
    lookup (same_ref r) (moves_by next n tx xs) ≡ Some (move_to n (next r tx))
move_of_input next n tx r [] i x at name step = cc
move_of_input next n tx r (y ∷ xs) i x at name step = by (is_step y.redeemer) refl (same_ref r y.reference) refl i at (λ k h. move_of_input next n tx r xs k x h name step)
  where
    m : OutputRef × Move
    m = (y.reference, move_to n (next y.reference tx))

    by : (b : Bool) → is_step y.redeemer ≡ b → (c : Bool) → same_ref r y.reference ≡ c → (k : ℕ) → slice_get (y ∷ xs) k ≡ Some x →
        ((k : ℕ) → slice_get xs k ≡ Some x → lookup (same_ref r) (moves_by next n tx xs) ≡ Some (move_to n (next r tx))) → lookup (same_ref r) (moves_by next n tx (y ∷ xs)) ≡ Some (move_to n (next r tx))
    by true e true f k h go =
        ap (λ b. lookup (same_ref r) (if b then m ∷ moves_by next n tx xs else moves_by next n tx xs)) e
        ∙ ap (λ b. if b then Some m.1 else lookup (same_ref r) (moves_by next n tx xs)) f
        ∙ ap (λ (q : OutputRef). Some (move_to n (next q tx))) (sym (same_ref_so r y.reference f))
    by true e false f zero h go =
        let same : y ≡ x = same_some y x h in
        absurd (not_both (ap (same_ref r) (ap (λ (s : Spend). s.reference) same ∙ name) ∙ same_ref-refl r) f)
    by false e c f zero h go = absurd (not_both (ap (λ (s : Spend). is_step s.redeemer) (same_some y x h) ∙ step) e)
    by true e false f (suc k) h go =
        ap (λ b. lookup (same_ref r) (if b then m ∷ moves_by next n tx xs else moves_by next n tx xs)) e
        ∙ ap (λ b. if b then Some m.1 else lookup (same_ref r) (moves_by next n tx xs)) f
        ∙ go k h
    by false e c f (suc k) h go = ap (λ b. lookup (same_ref r) (if b then m ∷ moves_by next n tx xs else moves_by next n tx xs)) e ∙ go k h

none_of_tx : (next : Next) (n : ℕ) (tx : Tx) (r : OutputRef) → is_input_of r tx ≡ false → lookup (same_ref r) (moves_in next n tx) ≡ None
none_of_tx next n tx r h = absent_lookup r (moves_in next n tx) (false_if (is_among (keys_of (moves_in next n tx)) r) (λ k. not_both (moves_spend next n tx tx.inputs r k) h))

none_moved : (next : Next) (n : ℕ) (txs : List Tx) (r : OutputRef) → is_spent txs r ≡ false → lookup (same_ref r) (moves_from next n txs) ≡ None
none_moved next n txs r h = absent_lookup r (moves_from next n txs) (false_if (is_among (keys_of (moves_from next n txs)) r) (λ k. not_both (moved_spent next n txs r k) h))

-- that of the n-th transaction, where none before spends the output
move_of_tx : (next : Next) (k : ℕ) (txs : List Tx) (n : ℕ) (tx : Tx) (r : OutputRef) (m : Move) → slice_get txs n ≡ Some tx → is_spent (take n txs) r ≡ false → lookup (same_ref r) (moves_in next (k + n) tx) ≡ Some m →
    lookup (same_ref r) (moves_from next k txs) ≡ Some m
move_of_tx next k [] n tx r m at free h = cc
move_of_tx next k (t ∷ txs) zero tx r m at free h =
    lookup_front (same_ref r) (moves_in next k t) (moves_from next (k + 1) txs) m
    (let e : k ≡ k + 0 = omega arith in ap (λ (z : Tx). lookup (same_ref r) (moves_in next k z)) (same_some t tx at) ∙ ap (λ i. lookup (same_ref r) (moves_in next i tx)) e ∙ h)
move_of_tx next k (t ∷ txs) (suc n) tx r m at free h =
    let p = or_false (is_input_of r t) (is_spent (take n txs) r) free in
    let e : (k + 1) + n ≡ k + suc n = omega arith in
    lookup_back (same_ref r) (moves_in next k t) (moves_from next (k + 1) txs) (none_of_tx next k t r p.0)
    ∙ move_of_tx next (k + 1) txs n tx r m at p.1 (ap (λ i. lookup (same_ref r) (moves_in next i tx)) e ∙ h)

-- ---- nowhere to go

stops : (f : ℕ) (ms : Listed) (s : Option OutputRef) → step_at s ms ≡ None → (steps_within f ms s ≡ []) × (leads_within f ms s ≡ s)
stops zero ms s h = (refl, refl)
stops (suc f) ms s h = (ap (λ o. steps_after o (λ q. steps_within f ms q)) h, ap (λ o. leads_after s o (λ q. leads_within f ms q)) h)

none_left : (a b : ℕ) → 1 ≤ a → a + b ≤ 0 → ⊥
none_left a b x y = omega (arith, x, y)

some_there : (ms : Listed) (r : OutputRef) (m : Move) → lookup (same_ref r) ms ≡ Some m → 1 ≤ length ms
some_there [] r m h = cc
some_there (x ∷ ms) r m h = omega arith

module _ (enough : FoundIsEnough marlowe) (named : List ℕ → Option Published) (past : Past) (sound : IsSound marlowe named past) where
  abbrev next : Next
  next = next_of marlowe named past

  abbrev all : Listed
  all = moves_from next 0 past.accepted

  -- a contract output, which none of the first n transactions spends
  record Open (n : ℕ) (r : OutputRef) : Type 0 where
    pub output : Output
    pub there : lookup (same_ref r) (created past) ≡ Some output
    pub contract : is_contract output.lock ≡ true
    pub free : is_spent (take n past.accepted) r ≡ false

  abbrev IsOpen : ℕ → Option OutputRef → Type 0
  IsOpen n s = (r : OutputRef) → s ≡ Some r → Open n r

  one_more : (n : ℕ) (tx : Tx) → slice_get past.accepted n ≡ Some tx → take (n + 1) past.accepted ≡ take n past.accepted ++ tx ∷ []
  one_more n tx at = let e : n + 1 ≡ suc n = omega arith in ap (λ k. take k past.accepted) e ∙ take_some n past.accepted tx at

  passed : (n : ℕ) (tx : Tx) (r : OutputRef) → slice_get past.accepted n ≡ Some tx → is_input_of r tx ≡ false → Open n r → Open (n + 1) r
  passed n tx r at other o = record {
    output = o.output;
    there = o.there;
    contract = o.contract;
    free =
        ap (λ (l : List Tx). is_spent l r) (one_more n tx at) ∙ spent_more (take n past.accepted) tx r
        ∙ both_false (is_spent (take n past.accepted) r) (is_input_of r tx) o.free other;
  }

  opened_next : (n : ℕ) (tx : Tx) (r : OutputRef) → slice_get past.accepted n ≡ Some tx → IsOpen (n + 1) (next r tx)
  opened_next n tx r at q h =
      let x = next_so tx (goes_on_at (blocks_of marlowe named past tx) r) q h in
      let o = under_so tx x.place x.made x.contract in
      record {
        output = o.0;
        there = ap (λ (k : OutputRef). lookup (same_ref k) (created past)) x.name ∙ made_there marlowe enough named past sound n tx at x.place o.0 o.1;
        contract = is_contract_so (o.0).lock o.2 o.3;
        free = ap (λ (l : List Tx). is_spent l q) (one_more n tx at) ∙ ap (is_spent (take n past.accepted ++ tx ∷ [])) x.name ∙ still_there marlowe enough named past sound n tx at x.place;
      }

  -- what a transaction that spends it does is a move
  move_there : (n : ℕ) (tx : Tx) (r : OutputRef) → slice_get past.accepted n ≡ Some tx → is_input_of r tx ≡ true → Open n r → lookup (same_ref r) (moves_in next n tx) ≡ Some (move_to n (next r tx))
  move_there n tx r at spent o =
      let k = named_input marlowe enough named past sound n tx at r o.output spent o.there o.contract in
      move_of_input next n tx r tx.inputs k.0.index k.0.input k.0.at k.0.name (steps_contract marlowe enough named past sound n k.0.index tx k.0.input o.output k.1)

  record Follows (f : ℕ) (s : Option OutputRef) (txs : List Tx) : Type 0 where
    pub steps : map (link_at past.accepted) (steps_within f all s) ≡ map (λ (l : Link). Some l) (spine_by next s txs)
    pub end : leads_within f all s ≡ reached next s txs

  abbrev Later : List Tx → Type 0
  Later txs = (m g : ℕ) (s : Option OutputRef) → drop m past.accepted ≡ txs → IsOpen m s → length (moves_from next m txs) ≤ g → Follows g s txs

  nowhere : (f : ℕ) (txs : List Tx) → Follows f None txs
  nowhere f txs = let p = stops f all None refl in record { steps = ap (map (link_at past.accepted)) p.0; end = p.1 }

  follows : (txs : List Tx) (n f : ℕ) (s : Option OutputRef) → drop n past.accepted ≡ txs → IsOpen n s → length (moves_from next n txs) ≤ f → Follows f s txs
  follows txs n f None e o l = nowhere f txs
  follows [] n f (Some r) e o l =
      let whole : take n past.accepted ≡ past.accepted = sym (no_more (take n past.accepted)) ∙ ap (λ (x : List Tx). take n past.accepted ++ x) (sym e) ∙ take-append-drop n past.accepted in
      let none : step_at (Some r) all ≡ None = ap (option_map (λ (m : Move). (place_of r m.number, m.next))) (none_moved next 0 past.accepted r (ap (λ (x : List Tx). is_spent x r) (sym whole) ∙ (o r refl).free)) in
      let p = stops f all (Some r) none in
      record { steps = ap (map (link_at past.accepted)) p.0; end = p.1 }
  follows (tx ∷ txs) n f (Some r) e o l = by (is_input_of r tx) refl (λ m g s a b c. follows txs m g s a b c)
    where
      at : slice_get past.accepted n ≡ Some tx
      at = (head_at n past.accepted tx txs e).0

      rest : drop (n + 1) past.accepted ≡ txs
      rest = let k : n + 1 ≡ suc n = omega arith in ap (λ i. drop i past.accepted) k ∙ (head_at n past.accepted tx txs e).1

      long : length (moves_in next n tx) + length (moves_from next (n + 1) txs) ≤ f
      long = let a = length-append (moves_in next n tx) (moves_from next (n + 1) txs) in omega (arith, a, l)

      goes : Later txs → is_input_of r tx ≡ true → (g : ℕ) → length (moves_in next n tx) + length (moves_from next (n + 1) txs) ≤ g → Follows g (Some r) (tx ∷ txs)
      goes go spent zero k =
          let a = some_there (moves_in next n tx) r (move_to n (next r tx)) (move_there n tx r at spent (o r refl)) in
          absurd (none_left (length (moves_in next n tx)) (length (moves_from next (n + 1) txs)) a k)
      goes go spent (suc g) k =
          let here = move_there n tx r at spent (o r refl) in
          let a = some_there (moves_in next n tx) r (move_to n (next r tx)) here in
          let zero_plus : n ≡ 0 + n = omega arith in
          let there = move_of_tx next 0 past.accepted n tx r (move_to n (next r tx)) at (o r refl).free (ap (λ i. lookup (same_ref r) (moves_in next i tx)) (sym zero_plus) ∙ here) in
          let step : step_at (Some r) all ≡ Some (place_of r n, next r tx) = ap (option_map (λ (m : Move). (place_of r m.number, m.next))) there in
          let after = go (n + 1) g (next r tx) rest (opened_next n tx r at) (omega (arith, a, k)) in
          record {
            steps =
                ap (λ x. map (link_at past.accepted) (steps_after x (λ q. steps_within g all q))) step
                ∙ (λ i. (let x : Option Link = option_map (λ t. let y : Link = record { spends = r; tx = t } in y) (at i) in x) ∷ after.steps i)
                ∙ sym (ap (λ b. map (λ (y : Link). Some y) (if b then (let y : Link = record { spends = r; tx = tx } in y) ∷ spine_by next (next r tx) txs else spine_by next (Some r) txs)) spent);
            end =
                ap (λ x. leads_after (Some r) x (λ q. leads_within g all q)) step ∙ after.end
                ∙ sym (ap (λ b. if b then reached next (next r tx) txs else reached next (Some r) txs) spent);
          }

      by : (b : Bool) → is_input_of r tx ≡ b → Later txs → Follows f (Some r) (tx ∷ txs)
      by true spent go = goes go spent f long
      by false other go =
          let after = go (n + 1) f (Some r) rest (λ q h. passed n tx q at (ap (λ (z : OutputRef). is_input_of z tx) (sym (same_some r q h)) ∙ other) (o q h)) (omega (arith, long)) in
          record {
            steps = after.steps ∙ sym (ap (λ b. map (λ (y : Link). Some y) (if b then (let y : Link = record { spends = r; tx = tx } in y) ∷ spine_by next (next r tx) txs else spine_by next (Some r) txs)) other);
            end = after.end ∙ sym (ap (λ b. if b then reached next (next r tx) txs else reached next (Some r) txs) other);
          }

  pub tells_thread : (r : OutputRef) (c : Instance) → IsMade past r c → TellsThread named past r
  tells_thread r c m =
      let o = made_output marlowe enough named past sound r c m in
      let stands : Open 0 r = record { output = o.0; there = o.1; contract = is_contract_so (o.0).lock (lock_of c) o.2; free = refl } in
      let f = follows past.accepted 0 (length all) (Some r) refl (λ q h. subst (Open 0) (same_some r q h) stands) (omega arith) in
      record { steps = f.steps; end = f.end ∙ sym (ends_reached next (Some r) past.accepted) }

pub threads_alike : FoundIsEnough marlowe → ThreadsAlike
threads_alike enough published past sound r c m = tells_thread enough published past sound r c m

pub ends_alike : FoundIsEnough marlowe → EndsAlike
ends_alike enough ps past sound r = ap (λ b. if b then leads r (moves_from (next_after past ps) 0 past.accepted) else None) (starts_alike past.accepted r) ∙ by (list_any (starts_in r) past.accepted) refl
  where
    by : (b : Bool) → list_any (starts_in r) past.accepted ≡ b → (if b then leads r (moves_from (next_after past ps) 0 past.accepted) else None) ≡ (if b then thread_end marlowe (published_at ps) past r else None)
    by true h = let s = start_told past r h in (tells_thread enough (published_at ps) past sound r s.0 s.1.made).end
    by false h = refl
