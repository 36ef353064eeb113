-- Threads in a past whose transactions let contracts flow, however they go on: each contract input stands on exactly one thread, each
-- unspent contract output ends exactly one, and where a thread ends there is one.
use Rattle.std.proofs.Common.{◌≡◌, ℕ, zero, suc, Bool, true, false, List, refl, sym, ◌∙◌, ap, subst, arith, Option, Some, None, take, length, ◌⊎◌, inl, inr}
use Rattle.std.specs.Prelude.{if◌then◌else◌}
use Rattle.std.specs.List.{slice_get}
use Rattle.roles.specs.EutxoTypes.declared.output_ref.OutputRef.{OutputRef}
use Rattle.roles.specs.EutxoTypes.declared.output_ref.OutputRef.TheVariants.{Made}
use Rattle.roles.specs.EutxoTypes.declared.tx.Tx.{Tx}
use Rattle.roles.specs.EutxoTypes.Ids.{id_of}
use Rattle.roles.specs.EutxoTypes.Parts.{Instance, contract_at, steps}
use Rattle.ledger_laws.specs.Past.{Past, before, is_input_of, is_spent}
use Rattle.ledger_laws.specs.Threads.{spine_by, ends_by, IsMade, StartsThread}
use Rattle.ledger_laws.specs.Laws.{ExactlyOne}
use Rattle.ledger_laws.proofs.PlainLaws.{or_false, not_both, same_some, take_none, take_some, take_whole, taken_at, get_grown}
use Rattle.ledger_laws.proofs.ReferenceLaws.{same_made, spent_more}
use Rattle.ledger_laws.proofs.SpineLaws.{reached, moved, reached_more, ends_reached, stays, member_stood, member_at, led}

-- a contract output that the past made, and that it doesn't spend
pub record IsOpen (past : Past) (r : OutputRef) : Type 0 where
  pub contract : Instance
  pub made : IsMade past r contract
  pub unspent : is_spent past.accepted r ≡ false

-- what is made in a past is made in one that has accepted its transaction at the same place
abbrev made_in : (past other : Past) (r : OutputRef) (c : Instance) → (m : IsMade past r c) → slice_get other.accepted m.number ≡ Some m.tx → IsMade other r c
made_in past other r c m at = record { number = m.number; tx = m.tx; accepted = at; index = m.index; name = m.name; contract = m.contract }

-- a transaction spends a contract output that the past made
abbrev pub Spends : Past → Tx → OutputRef → Type 0
Spends past tx r = (is_input_of r tx ≡ true) × ((c : Instance) × IsMade past r c)

-- THE FLOW of contracts through each accepted transaction, where they go on by `next`: ids are single; where a contract goes on is a
-- contract output of a transaction that steps; no two go on in one output; and each contract output of a transaction that steps is
-- where an open contract that it spends goes on
pub record Flow (next : OutputRef → Tx → Option OutputRef) (past : Past) : Type 0 where
  pub single : (n k : ℕ) (a b : Tx) → slice_get past.accepted n ≡ Some a → slice_get past.accepted k ≡ Some b → id_of a ≡ id_of b → n ≡ k
  pub goes : (n : ℕ) (tx : Tx) (p q : OutputRef) → slice_get past.accepted n ≡ Some tx → next p tx ≡ Some q → (i : ℕ) × (c : Instance) × (q ≡ Made (id_of tx) i) × (contract_at tx i ≡ Some c)
  pub stepped : (n : ℕ) (tx : Tx) (p : OutputRef) → slice_get past.accepted n ≡ Some tx → Spends past tx p → steps tx ≡ true
  pub apart : (n : ℕ) (tx : Tx) (p q r : OutputRef) → slice_get past.accepted n ≡ Some tx → Spends past tx p → Spends past tx q → next p tx ≡ Some r → next q tx ≡ Some r → p ≡ q
  pub onto : (n : ℕ) (tx : Tx) (i : ℕ) (c : Instance) → slice_get past.accepted n ≡ Some tx → steps tx ≡ true → contract_at tx i ≡ Some c →
      (p : OutputRef) × IsOpen (before past n) p × (is_input_of p tx ≡ true) × (next p tx ≡ Some (Made (id_of tx) i))

module _ (next : OutputRef → Tx → Option OutputRef) (past : Past) (flow : Flow next past) where
  abbrev txs : List Tx
  txs = past.accepted

  step_on : (n : ℕ) (tx : Tx) (s : Option OutputRef) → slice_get txs n ≡ Some tx → reached next s (take (suc n) txs) ≡ moved next (reached next s (take n txs)) tx
  step_on n tx s at = ap (reached next s) (take_some n txs tx at) ∙ reached_more next s (take n txs) tx

  -- ---- some thread stands at each open contract output

  record StandsAt (n : ℕ) (q : OutputRef) : Type 0 where
    pub start : OutputRef
    pub starts : StartsThread past start
    pub stands : reached next (Some start) (take n txs) ≡ Some q

  -- all inputs of a transaction stand on what came before it, so no order among them is needed
  some_stands : (n : ℕ) (q : OutputRef) → IsOpen (before past n) q → StandsAt n q
  some_stands zero q o = let e : (let z : Option Tx = None in z) ≡ Some (o.made).tx = (o.made).accepted in cc
  some_stands (suc n) q o = by (slice_get txs n) refl (some_stands n)
    where
      old : (tx : Tx) → slice_get txs n ≡ Some tx → is_input_of q tx ≡ false → StandsAt n q → StandsAt (suc n) q
      old tx at apart t = record {
        start = t.start;
        starts = t.starts;
        stands = step_on n tx (Some t.start) at ∙ ap (λ z. moved next z tx) t.stands ∙ ap (λ (b : Bool). if b then next q tx else Some q) apart;
      }

      new : (tx : Tx) → slice_get txs n ≡ Some tx → (o.made).tx ≡ tx → ((q : OutputRef) → IsOpen (before past n) q → StandsAt n q) → (b : Bool) → steps tx ≡ b → StandsAt (suc n) q
      new tx at e go false bare = record {
        start = q;
        starts = (
          o.contract,
          record {
            made = made_in (before past (suc n)) past q o.contract o.made (taken_at (suc n) (o.made).number txs (o.made).tx (o.made).accepted).0;
            bare = ap steps e ∙ bare;
          },
        );
        stands = stays next q (take (suc n) txs) o.unspent;
      }
      new tx at e go true step =
          let w = flow.onto n tx (o.made).index o.contract at step (subst (λ (z : Tx). contract_at z (o.made).index ≡ Some o.contract) e (o.made).contract) in
          let t = go w.0 w.1 in
          let here : q ≡ Made (id_of tx) (o.made).index = (o.made).name ∙ ap (λ (z : Tx). Made (id_of z) (o.made).index) e in
          record {
            start = t.start;
            starts = t.starts;
            stands = step_on n tx (Some t.start) at ∙ ap (λ z. moved next z tx) t.stands ∙ ap (λ (b : Bool). if b then next w.0 tx else Some w.0) w.2 ∙ w.3 ∙ ap Some (sym here);
          }

      by : (z : Option Tx) → slice_get txs n ≡ z → ((q : OutputRef) → IsOpen (before past n) q → StandsAt n q) → StandsAt (suc n) q
      by None e go =
          let t = go q (subst (λ (l : List Tx). IsOpen (record past { accepted = l }) q) (take_none n txs e) o) in
          record { start = t.start; starts = t.starts; stands = ap (reached next (Some t.start)) (take_none n txs e) ∙ t.stands }
      by (Some tx) at go =
          let grown = take_some n txs tx at in
          let a = or_false (is_spent (take n txs) q) (is_input_of q tx) (sym (spent_more (take n txs) tx q) ∙ ap (λ (l : List Tx). is_spent l q) (sym grown) ∙ o.unspent) in
          elim (get_grown (take n txs) tx (o.made).number (o.made).tx (ap (λ (l : List Tx). slice_get l (o.made).number) (sym grown) ∙ (o.made).accepted)) [
            | inl p ↦ old tx at a.1 (go q (record { contract = o.contract; made = made_in (before past (suc n)) (before past n) q o.contract o.made p.0; unspent = a.0 }))
            | inr p ↦ new tx at (sym p.0) go (steps tx) refl
          ]

  -- ---- and no other

  -- no thread stands at what a step makes before the step
  not_yet : (n : ℕ) (tx : Tx) (p q : OutputRef) → slice_get txs n ≡ Some tx → Spends past tx p → next p tx ≡ Some q → (r : OutputRef) → StartsThread past r →
      reached next (Some r) (take n txs) ≡ Some q → ⊥
  not_yet n tx p q at spends goes r s h =
      let g = flow.goes n tx p q at goes in
      elim (led next (Some r) (take n txs) q h) [
        | inl e ↦
            let k = s.1.made in
            let place = flow.single k.number n k.tx tx k.accepted at (same_made (id_of k.tx) (id_of tx) k.index g.0 (sym k.name ∙ same_some r q e.0 ∙ g.2)).0 in
            let same : k.tx ≡ tx = same_some k.tx tx (sym k.accepted ∙ ap (slice_get txs) place ∙ at) in
            not_both (ap steps same ∙ flow.stepped n tx p at spends) s.1.bare
        | inr l ↦
            let k = taken_at n l.number txs l.tx l.at in
            let f = flow.goes l.number l.tx l.spends q k.0 l.goes in
            let place = flow.single l.number n l.tx tx k.0 at (same_made (id_of l.tx) (id_of tx) f.0 g.0 (sym f.2 ∙ g.2)).0 in
            let less = k.1 in
            omega (arith, place, less)
      ]

  -- where a thread stands a contract was made
  stands_made : (n : ℕ) (r q : OutputRef) → StartsThread past r → reached next (Some r) (take n txs) ≡ Some q → (c : Instance) × IsMade past q c
  stands_made n r q s h = elim (led next (Some r) (take n txs) q h) [
    | inl e ↦ (s.0, subst (λ (z : OutputRef). IsMade past z s.0) (same_some r q e.0) s.1.made)
    | inr l ↦
        let k = (taken_at n l.number txs l.tx l.at).0 in
        let g = flow.goes l.number l.tx l.spends q k l.goes in
        (g.1, record { number = l.number; tx = l.tx; accepted = k; index = g.0; name = g.2; contract = g.3 })
  ]

  moves : (s : Option OutputRef) (tx : Tx) (q : OutputRef) → moved next s tx ≡ Some q → (p : OutputRef) × (s ≡ Some p) × (((is_input_of p tx ≡ true) × (next p tx ≡ Some q)) ⊎ (p ≡ q))
  moves None tx q h = cc
  moves (Some p) tx q h = (p, refl, by (is_input_of p tx) refl h)
    where
      by : (b : Bool) → is_input_of p tx ≡ b → (if b then next p tx else Some p) ≡ Some q → ((is_input_of p tx ≡ true) × (next p tx ≡ Some q)) ⊎ (p ≡ q)
      by true e h = inl (e, h)
      by false e h = inr (same_some p q h)

  one_stands : (n : ℕ) (q r s : OutputRef) → StartsThread past r → StartsThread past s → reached next (Some r) (take n txs) ≡ Some q → reached next (Some s) (take n txs) ≡ Some q → r ≡ s
  one_stands zero q r s a b h k = same_some r q h ∙ sym (same_some s q k)
  one_stands (suc n) q r s a b h k = by (slice_get txs n) refl (one_stands n)
    where
      by : (z : Option Tx) → slice_get txs n ≡ z →
          ((q r s : OutputRef) → StartsThread past r → StartsThread past s → reached next (Some r) (take n txs) ≡ Some q → reached next (Some s) (take n txs) ≡ Some q → r ≡ s) → r ≡ s
      by None e go = go q r s a b (sym (ap (reached next (Some r)) (take_none n txs e)) ∙ h) (sym (ap (reached next (Some s)) (take_none n txs e)) ∙ k)
      by (Some tx) at go =
          let x = moves (reached next (Some r) (take n txs)) tx q (sym (step_on n tx (Some r) at) ∙ h) in
          let y = moves (reached next (Some s) (take n txs)) tx q (sym (step_on n tx (Some s) at) ∙ k) in
          elim x.2 [
            | inl e ↦ elim y.2 [
              | inl f ↦ let same = flow.apart n tx x.0 y.0 q at (e.0, stands_made n r x.0 a x.1) (f.0, stands_made n s y.0 b y.1) e.1 f.1 in go x.0 r s a b x.1 (y.1 ∙ ap Some (sym same))
              | inr f ↦ absurd (not_yet n tx x.0 q at (e.0, stands_made n r x.0 a x.1) e.1 s b (y.1 ∙ ap Some f))
            ]
            | inr e ↦ elim y.2 [
              | inl f ↦ absurd (not_yet n tx y.0 q at (f.0, stands_made n s y.0 b y.1) f.1 r a (x.1 ∙ ap Some e))
              | inr f ↦ go q r s a b (x.1 ∙ ap Some e) (y.1 ∙ ap Some f)
            ]
          ]

  -- ---- the laws

  -- EVERY CONTRACT INPUT STANDS ON EXACTLY ONE THREAD
  pub inputs_stand : (n : ℕ) (tx : Tx) (q : OutputRef) → slice_get txs n ≡ Some tx → is_input_of q tx ≡ true → IsOpen (before past n) q →
      ExactlyOne (λ r. StartsThread past r × ((i : ℕ) × (slice_get (spine_by next (Some r) txs) i ≡ Some (record { spends = q; tx = tx }))))
  inputs_stand n tx q at named o =
      let t = some_stands n q o in (
        t.start,
        (t.starts, member_at next (Some t.start) txs n q tx at t.stands named),
        λ s h.
            let w = member_stood next (Some s) txs h.1.0 q tx h.1.1 in
            let place = flow.single w.number n tx tx w.at at refl in
            one_stands n q s t.start h.0 t.starts (subst (λ (i : ℕ). reached next (Some s) (take i txs) ≡ Some q) place w.stood) t.stands,
      )

  -- and every open contract output ends exactly one
  pub opens_end : (q : OutputRef) → IsOpen past q → ExactlyOne (λ r. StartsThread past r × (ends_by next (Some r) (spine_by next (Some r) txs) ≡ Some q))
  opens_end q o =
      let all = take_whole txs in
      let t = some_stands (length txs) q (subst (λ (l : List Tx). IsOpen (record past { accepted = l }) q) (sym all) o) in (
        t.start,
        (t.starts, ends_reached next (Some t.start) txs ∙ ap (reached next (Some t.start)) (sym all) ∙ t.stands),
        λ s h.
            one_stands (length txs) q s t.start h.0 t.starts (ap (reached next (Some s)) all ∙ sym (ends_reached next (Some s) txs) ∙ h.1) t.stands,
      )

  -- where a thread ends a contract was made
  pub ends_made : (r q : OutputRef) → StartsThread past r → ends_by next (Some r) (spine_by next (Some r) txs) ≡ Some q → (c : Instance) × IsMade past q c
  ends_made r q s h = stands_made (length txs) r q s (ap (reached next (Some r)) (take_whole txs) ∙ sym (ends_reached next (Some r) txs) ∙ h)
