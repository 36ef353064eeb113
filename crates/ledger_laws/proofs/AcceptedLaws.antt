-- What every accepted transaction of a sound past meets.
use Rattle.std.proofs.Common.{◌≡◌, ℕ, zero, suc, ◌+◌, ◌<◌, Bool, true, false, not, cond, List, [], ◌∷◌, ◌++◌, refl, sym, ◌∙◌, ap, subst, arith, Option, Some, None, take}
use Rattle.std.specs.Prelude.{if◌then◌else◌, is_some, map}
use Rattle.std.specs.List.{slice_get, list_any, list_all}
use Rattle.std.specs.Map.{lookup}
use Rattle.roles.specs.EutxoTypes.declared.fault.TxFault.{TxFault}
use Rattle.roles.specs.EutxoTypes.declared.fault.TxFault.TheVariants.{WrongRedeemer}
use Rattle.roles.specs.EutxoTypes.declared.lock.Lock.{Lock}
use Rattle.roles.specs.EutxoTypes.declared.lock.Lock.TheVariants.{Key, Payout, Contract}
use Rattle.roles.specs.EutxoTypes.declared.output.Output.{Output}
use Rattle.roles.specs.EutxoTypes.declared.output_ref.OutputRef.{OutputRef}
use Rattle.roles.specs.EutxoTypes.declared.output_ref.OutputRef.TheVariants.{Genesis, Made}
use Rattle.roles.specs.EutxoTypes.declared.spend.Spend.{Spend}
use Rattle.roles.specs.EutxoTypes.declared.tx.Tx.{Tx}
use Rattle.roles.specs.EutxoTypes.Ids.{id_of}
use Rattle.roles.specs.Eutxo.Laws.{FoundIsEnough}
use Rattle.roles.specs.Eutxo.Asked.{Judges}
use Rattle.roles.specs.Eutxo.Blocks.{Block, blocks, blocks_on, step_fault, step_fault_unless}
use Rattle.roles.specs.Eutxo.BlockLaws.{AreFresh}
use Rattle.roles.specs.Eutxo.Found.{is_known, all_known, with_outputs, if_known}
use Rattle.roles.specs.Eutxo.Local.{spent_rules, spent_fault, whole_fault}
use Rattle.roles.specs.Eutxo.Rules.{opens, digests_in, Step, steps_of, not_preserved, wrong_datum}
use Rattle.roles.specs.EutxoTypes.Parts.{is_contract, script_in, ContractLock, contract_in, same_bytes, same_ref, is_key, is_step, steps}
use Rattle.ledger_laws.specs.Past.{Past, before, with_references, created_by, created_by_all, created, created_at, is_input_of, is_spent, unspent_at, has_id}
use Rattle.roles.specs.Eutxo.Judgement.{is_unknown}
use Rattle.ledger_laws.specs.Sound.{AreKeys, IsSound}
use Rattle.ledger_laws.specs.Laws.{IsContractInput}
use Rattle.ledger_laws.specs.Threads.{blocks_of}
use Rattle.ledger_laws.proofs.PlainLaws.{EachFalse, both, not_both, not_false, same_some, is_there, each_at, any_at, any_there, any_taken, any_take, take_some, taken_at}
use Rattle.ledger_laws.proofs.ReferenceLaws.{itself, unspent_so, unspent_created, output_nth, none_created, spender}
use Rattle.ledger_laws.proofs.JudgedLemmas.{found, each_none, nowhere, Passes, passes, made_known}
use Rattle.ledger_laws.proofs.PartLaws.{script_so, is_contract_so}
use Rattle.ledger_laws.proofs.PairedLemmas.{Paired, paired, spent_known, pair_at, input_at, pairs_of, NamedAt, named_at, misfits, step_opens, contract_steps, ReadStep, step_read, step_there}
use Rattle.ledger_laws.proofs.FreshLemmas.{fresh}
use Rattle.ledger_laws.proofs.SteppingLemmas.{fresh_steps, pairs_by}
use Rattle.ledger_laws.proofs.FindingLemmas.{BlockOf, block_of}
use Rattle.ledger_laws.proofs.DatumLaws.{told, Tells, tells_so}

key_opens : (l : Lock) → is_key l ≡ true → is_contract l ≡ true → ⊥
key_opens (Key a) h e = cc
key_opens (Payout c r) h e = cc
key_opens (Contract s d) h e = cc

-- no output that there was at first has a contract lock
pub no_contract_first : (os : List Output) → AreKeys os → (i : ℕ) (o : Output) → slice_get os i ≡ Some o → is_contract o.lock ≡ true → ⊥
no_contract_first [] h i o e c = cc
no_contract_first (x ∷ os) h zero o e c = key_opens o.lock (subst (λ (z : Output). is_key z.lock ≡ true) (same_some x o e) (h 0 x (omega arith))) c
no_contract_first (x ∷ os) h (suc i) o e c = no_contract_first os (λ k d l. h (suc k) d (omega arith)) i o e c

module _ {V : Type 0} (j : Judges V) (enough : FoundIsEnough j) (named : List ℕ → Option V) (past : Past) (sound : IsSound j named past) where
  -- ---- the scripts of all outputs are known

  abbrev pub AllKnown : List (OutputRef × Output) → Type 0
  AllKnown [] = Unit {0}
  AllKnown (e ∷ es) = (is_known named e.1.lock ≡ true) × AllKnown es

  known_append : (es fs : List (OutputRef × Output)) → AllKnown es → AllKnown fs → AllKnown (es ++ fs)
  known_append [] fs h k = k
  known_append (e ∷ es) fs h k = (h.0, known_append es fs h.1 k)

  known_referred : (name : ℕ → OutputRef) (i : ℕ) (os : List Output) → EachFalse (is_unknown named) os → AllKnown (with_references name i os)
  known_referred name i [] h = tt
  known_referred name i (o ∷ os) h = (not_false (is_known named o.lock) h.0, known_referred name (i + 1) os h.1)

  key_known : (l : Lock) → is_key l ≡ true → not (is_known named l) ≡ false
  key_known (Key a) h = refl
  key_known (Payout c r) h = cc
  key_known (Contract s d) h = cc

  keys_known : (os : List Output) → AreKeys os → EachFalse (is_unknown named) os
  keys_known [] h = tt
  keys_known (o ∷ os) h = (key_known o.lock (h 0 o (omega arith)), keys_known os (λ k d l. h (suc k) d (omega arith)))

  made_all_known : (txs : List Tx) → ((n : ℕ) (tx : Tx) → slice_get txs n ≡ Some tx → EachFalse (is_unknown named) tx.outputs) → AllKnown (created_by_all txs)
  made_all_known [] h = tt
  made_all_known (tx ∷ txs) h =
      known_append (created_by tx) (created_by_all txs) (known_referred (λ j. Made (id_of tx) j) 0 tx.outputs (h 0 tx refl)) (made_all_known txs (λ n t e. h (suc n) t e))

  pub passes_at : (n : ℕ) (tx : Tx) → slice_get past.accepted n ≡ Some tx → Passes j named (before past n) tx
  passes_at n tx e = let l = sound.admitted n tx e in passes j enough named (before past n) l.0 tx l.1

  all_created_known : AllKnown (created past)
  all_created_known =
      known_append (with_references (λ j. Genesis j) 0 past.genesis) (created_by_all past.accepted)
      (known_referred (λ j. Genesis j) 0 past.genesis (keys_known past.genesis sound.keys))
      (made_all_known past.accepted (λ n tx e. (passes_at n tx e).known))

  known_of : (test : OutputRef → Bool) (es : List (OutputRef × Output)) (o : Output) → AllKnown es → lookup test es ≡ Some o → is_known named o.lock ≡ true
  known_of test [] o h e = cc
  known_of test (x ∷ es) o h e = by (test x.0) e (known_of test es o h.1)
    where
      by : (b : Bool) → cond b (Some x.1) (lookup test es) ≡ Some o → (lookup test es ≡ Some o → is_known named o.lock ≡ true) → is_known named o.lock ≡ true
      by true q go = subst (λ (z : Output). is_known named z.lock ≡ true) (same_some x.1 o q) h.0
      by false q go = go q

  -- what a transaction finds is of a published script
  pub find_known : (n : ℕ) (r : OutputRef) (o : Output) → unspent_at (before past n) r ≡ Some o → is_known named o.lock ≡ true
  find_known n r o f = known_of (same_ref r) (created past) o all_created_known (unspent_created past n r o f)

  -- ---- what an accepted transaction spends

  pub record Spent (n : ℕ) (tx : Tx) : Type 0 where
    pub ys : List (Spend × Output)
    pub pairs : Paired (unspent_at (before past n)) tx.inputs ys
    pub there : found (unspent_at (before past n)) tx ≡ Some ys
    pub whole : if_known named tx.outputs (found (unspent_at (before past n)) tx) ≡ Some ys
    pub kinds : EachFalse misfits ys
    pub step : step_fault j named tx ys (steps_of ys tx.datums) ≡ None
    pub sums : not_preserved ys tx.outputs ≡ None
    pub datums : wrong_datum tx ys ≡ None

  from_rules : (n : ℕ) (tx : Tx) (ys : List (Spend × Output)) → Paired (unspent_at (before past n)) tx.inputs ys → found (unspent_at (before past n)) tx ≡ Some ys →
      if_known named tx.outputs (found (unspent_at (before past n)) tx) ≡ Some ys → spent_fault j named tx ys ≡ None → Spent n tx
  from_rules n tx ys p f w h =
      let e = each_none (spent_rules j named tx ys) h in
      record {
        ys = ys;
        pairs = p;
        there = f;
        whole = w;
        kinds = nowhere WrongRedeemer misfits ys e.1.1.0;
        step = subst (λ (w : Option TxFault). step_fault_unless w j named tx ys ≡ None) e.1.1.1.1.1.1.0 e.1.1.1.1.0;
        sums = e.1.1.1.1.1.0;
        datums = e.1.1.1.1.1.1.0;
      }

  pub spent_at : (n : ℕ) (tx : Tx) → slice_get past.accepted n ≡ Some tx → Spent n tx
  spent_at n tx e =
      let p = passes_at n tx e in
      let find = unspent_at (before past n) in
      let q = paired find tx.inputs p.unspent in
      let created_by = made_known named tx.outputs p.known in
      let spent = spent_known named find (find_known n) tx.inputs q.0 q.2 in
      let known : all_known named tx.outputs q.0 ≡ true = both (list_all (λ o. is_known named o.lock) tx.outputs) (list_all (λ x. is_known named x.1.lock) q.0) created_by spent in
      from_rules n tx q.0 q.2 q.1 (ap (if_known named tx.outputs) q.1 ∙ ap (λ (b : Bool). if b then Some q.0 else None) known)
      (subst (λ (b : Bool). whole_fault j named tx (if b then Some q.0 else None) ≡ None) known
      (subst (λ (o : Option (List (Spend × Output))). whole_fault j named tx (if_known named tx.outputs o) ≡ None) q.1 p.local))

  -- ---- its steps and its blocks

  abbrev pub steps_at : (n : ℕ) (tx : Tx) → slice_get past.accepted n ≡ Some tx → List Step
  steps_at n tx at = steps_of (spent_at n tx at).ys tx.datums

  pub fresh_at_steps : (n : ℕ) (tx : Tx) → (at : slice_get past.accepted n ≡ Some tx) → AreFresh (steps_at n tx at)
  fresh_at_steps n tx at = let s = spent_at n tx at in fresh_steps (unspent_at (before past n)) tx.inputs s.ys tx.datums s.pairs (fresh tx.inputs (passes_at n tx at).alone)

  -- by every look-up that finds what it found
  pub spent_by : (n : ℕ) (tx : Tx) → (at : slice_get past.accepted n ≡ Some tx) → (f : OutputRef → Option Output) → ((r : OutputRef) (o : Output) → created_at past r ≡ Some o → f r ≡ Some o) →
      with_outputs tx.inputs (map (λ x. f x.reference) tx.inputs) ≡ Some (spent_at n tx at).ys
  spent_by n tx at f k = let s = spent_at n tx at in pairs_by (unspent_at (before past n)) f (λ r o e. k r o (unspent_created past n r o e)) tx.inputs s.ys s.pairs

  -- the blocks by which it was judged are those of the past
  pub blocks_so : (n : ℕ) (tx : Tx) → (at : slice_get past.accepted n ≡ Some tx) → blocks_of j named past tx ≡ blocks j named tx (spent_at n tx at).ys (steps_at n tx at) 0
  blocks_so n tx at = ap (blocks_on j named tx) (spent_by n tx at (created_at past) (λ r o e. e))

  pub block_at : (n : ℕ) (tx : Tx) → (at : slice_get past.accepted n ≡ Some tx) → (k : ℕ) (s : Step) → slice_get (steps_at n tx at) k ≡ Some s → BlockOf j named tx (spent_at n tx at).ys (blocks_of j named past tx) s
  block_at n tx at k s e =
      let z = spent_at n tx at in
      subst (λ (bs : List Block). BlockOf j named tx z.ys bs s) (sym (blocks_so n tx at)) (block_of j named tx z.ys (steps_at n tx at) k s (fresh_at_steps n tx at) z.step e)

  -- each contract output is made at the datum whose digest it holds
  pub tells_at : (n : ℕ) (tx : Tx) → slice_get past.accepted n ≡ Some tx → Tells tx
  tells_at n tx at = let s = spent_at n tx at in tells_so tx s.ys (pairs_of (unspent_at (before past n)) tx.inputs s.ys s.pairs) s.kinds s.datums

  known_script : (l : Lock) (script : List ℕ) → script_in l ≡ Some script → is_known named l ≡ true → (v : V) × (named script ≡ Some v)
  known_script (Key a) script e h = cc
  known_script (Payout c r) script e h = cc
  known_script (Contract s d) script e h = is_there (named script) (subst (λ (id : List ℕ). is_some (named id) ≡ true) (same_some s script e) h)

  -- the script of what it finds was published
  pub published : (n : ℕ) (r : OutputRef) (o : Output) (script : List ℕ) → unspent_at (before past n) r ≡ Some o → script_in o.lock ≡ Some script → (v : V) × (named script ≡ Some v)
  published n r o script f l = known_script o.lock script l (find_known n r o f)

  -- and that of what it makes
  pub made_published : (n : ℕ) (tx : Tx) → slice_get past.accepted n ≡ Some tx → (i : ℕ) (o : Output) (script : List ℕ) → slice_get tx.outputs i ≡ Some o →
      script_in o.lock ≡ Some script → (v : V) × (named script ≡ Some v)
  made_published n tx at i o script m l = known_script o.lock script l (not_false (is_known named o.lock) (each_at (is_unknown named) i tx.outputs o (passes_at n tx at).known m))

  -- ---- ids and references

  pub fresh_at : (n : ℕ) (tx : Tx) → slice_get past.accepted n ≡ Some tx → list_any (has_id (id_of tx)) (take n past.accepted) ≡ false
  fresh_at n tx at = (passes_at n tx at).fresh

  not_earlier : (n m : ℕ) (s t : Tx) → slice_get past.accepted n ≡ Some s → slice_get past.accepted m ≡ Some t → id_of s ≡ id_of t → n < m → ⊥
  not_earlier n m s t a b e l =
      not_both (any_taken (has_id (id_of t)) past.accepted n m s l a (subst (λ (id : List ℕ). same_bytes id (id_of s) ≡ true) e (itself (id_of s)))) (fresh_at m t b)

  -- one id, one place
  pub one_place : (n m : ℕ) (s t : Tx) → slice_get past.accepted n ≡ Some s → slice_get past.accepted m ≡ Some t → id_of s ≡ id_of t → n ≡ m
  one_place n m s t a b e =
      let p : n < m → ⊥ = not_earlier n m s t a b e in
      let q : m < n → ⊥ = not_earlier m n t s b a (sym e) in
      omega arith

  -- an output that it makes stands under its name
  pub made_there : (n : ℕ) (tx : Tx) → slice_get past.accepted n ≡ Some tx → (i : ℕ) (o : Output) → slice_get tx.outputs i ≡ Some o → lookup (same_ref (Made (id_of tx) i)) (created past) ≡ Some o
  made_there n tx at i o m = output_nth past n i tx o at (fresh_at n tx at) m

  -- ---- the contracts that it steps

  -- what is spent at a place
  beside : (n i : ℕ) (tx : Tx) (x : Spend) (o : Output) → (at : slice_get past.accepted n ≡ Some tx) → slice_get tx.inputs i ≡ Some x → unspent_at (before past n) x.reference ≡ Some o →
      slice_get (spent_at n tx at).ys i ≡ Some (x, o)
  beside n i tx x o at in_at there =
      let p = pair_at (unspent_at (before past n)) i x tx.inputs (spent_at n tx at).ys (spent_at n tx at).pairs in_at in
      p.1 ∙ ap (λ (u : Output). Some (let y : Spend × Output = (x, u) in y)) (same_some p.0 o (sym p.2 ∙ there))

  -- its redeemer is of its kind
  fits : (n i : ℕ) (tx : Tx) (x : Spend) (o : Output) → slice_get past.accepted n ≡ Some tx → slice_get tx.inputs i ≡ Some x → unspent_at (before past n) x.reference ≡ Some o →
      opens x.redeemer o.lock ≡ true
  fits n i tx x o at in_at there = not_false (opens x.redeemer o.lock) (each_at misfits i (spent_at n tx at).ys (x, o) (spent_at n tx at).kinds (beside n i tx x o at in_at there))

  finds : (n i : ℕ) (tx : Tx) (x : Spend) → slice_get past.accepted n ≡ Some tx → slice_get tx.inputs i ≡ Some x → (o : Output) × (unspent_at (before past n) x.reference ≡ Some o)
  finds n i tx x at in_at = let s = spent_at n tx at in let p = pair_at (unspent_at (before past n)) i x tx.inputs s.ys s.pairs in_at in (p.0, p.2)

  -- what it names is an input's, which finds it
  named_there : (n : ℕ) (tx : Tx) → slice_get past.accepted n ≡ Some tx → (r : OutputRef) → is_input_of r tx ≡ true →
      (m : NamedAt r tx.inputs) × (o : Output) × (unspent_at (before past n) m.input.reference ≡ Some o)
  named_there n tx at r named_r = let m = named_at r tx.inputs named_r in let f = finds n m.index tx m.input at m.at in (m, f.0, f.1)

  -- where that is a contract's it is a contract input
  pub named_input : (n : ℕ) (tx : Tx) → slice_get past.accepted n ≡ Some tx → (r : OutputRef) (o : Output) → is_input_of r tx ≡ true → lookup (same_ref r) (created past) ≡ Some o →
      is_contract o.lock ≡ true →
      (m : NamedAt r tx.inputs) × IsContractInput past n m.index tx m.input o
  named_input n tx at r o named_r out c =
      let f = named_there n tx at r named_r in
      let same : f.1 ≡ o = same_some f.1 o (sym (unspent_created past n f.0.input.reference f.1 f.2) ∙ ap (λ (q : OutputRef). lookup (same_ref q) (created past)) f.0.name ∙ out) in
      (f.0, record { accepted = at; input = f.0.at; there = f.2 ∙ ap Some same; contract = c })

  -- a contract input brings a step
  pub steps_contract : (n i : ℕ) (tx : Tx) (x : Spend) (o : Output) → IsContractInput past n i tx x o → is_step x.redeemer ≡ true
  steps_contract n i tx x o k = contract_steps x.redeemer o.lock k.contract (fits n i tx x o k.accepted k.input k.there)

  -- and an input that brings a step is one
  pub step_input : (n i : ℕ) (tx : Tx) (x : Spend) (o : Output) → slice_get past.accepted n ≡ Some tx → slice_get tx.inputs i ≡ Some x →
      unspent_at (before past n) x.reference ≡ Some o → is_step x.redeemer ≡ true → IsContractInput past n i tx x o
  step_input n i tx x o at in_at there h = record { accepted = at; input = in_at; there = there; contract = step_opens x.redeemer o.lock h (fits n i tx x o at in_at there) }

  pub contract_stepped : (n i : ℕ) (tx : Tx) (x : Spend) → slice_get past.accepted n ≡ Some tx → slice_get tx.inputs i ≡ Some x → is_step x.redeemer ≡ true →
      (o : Output) × IsContractInput past n i tx x o
  contract_stepped n i tx x at in_at h = let f = finds n i tx x at in_at in (f.0, step_input n i tx x f.0 at in_at f.1 h)

  -- a transaction with a contract input steps
  pub input_steps : (n i : ℕ) (tx : Tx) (x : Spend) (o : Output) → IsContractInput past n i tx x o → steps tx ≡ true
  input_steps n i tx x o k = any_at (λ (z : Spend). is_step z.redeemer) tx.inputs i x k.input (steps_contract n i tx x o k)

  -- and one that steps has a contract input
  pub steps_one : (n : ℕ) (tx : Tx) → slice_get past.accepted n ≡ Some tx → steps tx ≡ true → (i : ℕ) × (x : Spend) × (o : Output) × IsContractInput past n i tx x o
  steps_one n tx at h =
      let a = any_there (λ (z : Spend). is_step z.redeemer) tx.inputs h in
      let c = contract_stepped n a.0 tx a.1 at a.2 a.3 in
      (a.0, a.1, c.0, c.1)

  -- its script was published
  pub input_published : (n i : ℕ) (tx : Tx) (x : Spend) (o : Output) (c : ContractLock) → IsContractInput past n i tx x o → contract_in o.lock ≡ Some c → (v : V) × (named c.script ≡ Some v)
  input_published n i tx x o c k h = published n x.reference o c.script k.there (script_so o.lock c h)

  -- it is read at a datum that is brought with the digest that it holds
  pub read_at : (n i : ℕ) (tx : Tx) (x : Spend) (o : Output) (c : ContractLock) → (at : slice_get past.accepted n ≡ Some tx) → IsContractInput past n i tx x o → contract_in o.lock ≡ Some c →
      ReadStep (spent_at n tx at).ys tx.datums (x, o) c
  read_at n i tx x o c at k h =
      let s = spent_at n tx at in
      step_read s.ys tx.datums (digests_in tx.outputs) i (x, o) c (told tx s.ys s.datums) (beside n i tx x o at k.input k.there) h

  -- and a step is of a contract input, whose script was published
  pub record StepInput (n : ℕ) (tx : Tx) (s : Step) : Type 0 where
    pub index : ℕ
    pub input : Spend
    pub output : Output
    pub contract : IsContractInput past n index tx input output
    pub reference : input.reference ≡ s.reference
    pub script : V
    pub published : named s.script ≡ Some script

  pub step_from : (n : ℕ) (tx : Tx) → (at : slice_get past.accepted n ≡ Some tx) → (k : ℕ) (s : Step) → slice_get (steps_at n tx at) k ≡ Some s → StepInput n tx s
  step_from n tx at k s e =
      let z = spent_at n tx at in
      let t = step_there z.ys tx.datums k s e in
      let p = input_at (unspent_at (before past n)) t.index t.pair tx.inputs z.ys z.pairs t.at in
      let input : IsContractInput past n t.index tx t.pair.0 t.pair.1 = record { accepted = at; input = p.0; there = p.1; contract = is_contract_so t.pair.1.lock t.lock t.contract } in
      let v = input_published n t.index tx t.pair.0 t.pair.1 t.lock input t.contract in
      record { index = t.index; input = t.pair.0; output = t.pair.1; contract = input; reference = t.reference; script = v.0; published = ap named (sym t.script) ∙ v.1 }

  -- ---- what it makes is new

  -- what names an output of this id before the id was used
  not_named : (n : ℕ) (tx : Tx) → slice_get past.accepted n ≡ Some tx → (id : List ℕ) (i : ℕ) → list_any (has_id id) (take n past.accepted) ≡ false → is_input_of (Made id i) tx ≡ false
  not_named n tx at id i new = by (is_input_of (Made id i) tx) refl
    where
      by : (b : Bool) → is_input_of (Made id i) tx ≡ b → b ≡ false
      by true e =
          let f = named_there n tx at (Made id i) e in
          let out = (unspent_so (before past n) (Made id i) f.1 (ap (unspent_at (before past n)) (sym f.0.name) ∙ f.2)).1 in
          let g : (let o : Option Output = Some f.1 in o) ≡ None = sym out ∙ none_created (before past n) id i new in
          cc
      by false e = refl

  -- what it makes isn't spent yet
  pub still_there : (n : ℕ) (tx : Tx) → slice_get past.accepted n ≡ Some tx → (i : ℕ) → is_spent (take n past.accepted ++ tx ∷ []) (Made (id_of tx) i) ≡ false
  still_there n tx at i = by (is_spent (take n past.accepted ++ tx ∷ []) (Made (id_of tx) i)) refl
    where
      new : list_any (has_id (id_of tx)) (take n past.accepted) ≡ false
      new = fresh_at n tx at

      by : (b : Bool) → is_spent (take n past.accepted ++ tx ∷ []) (Made (id_of tx) i) ≡ b → b ≡ false
      by true e =
          let u : is_spent (take (suc n) past.accepted) (Made (id_of tx) i) ≡ true = ap (λ l. is_spent l (Made (id_of tx) i)) (take_some n past.accepted tx at) ∙ e in
          let s = spender (Made (id_of tx) i) (take (suc n) past.accepted) u in
          let m = taken_at (suc n) s.0 past.accepted s.1 s.2 in
          let l = m.1 in
          absurd (not_both s.3 (not_named s.0 s.1 m.0 (id_of tx) i (any_take (has_id (id_of tx)) s.0 n past.accepted (omega (arith, l)) new)))
      by false e = refl
