-- Where a thread starts, as it is read off an index.
use Rattle.std.proofs.Common.{◌≡◌, ℕ, ◌<◌, ◌≤◌, Bool, true, false, List, [], refl, sym, ◌∙◌, ap, subst, arith, Option, Some, None, map, length, get_or}
use Rattle.std.specs.Prelude.{if◌then◌else◌, position}
use Rattle.std.specs.List.{slice_get, list_any, position_or_len}
use Rattle.std.specs.Option.{option_map}
use Rattle.std.specs.Cmp.Lexicographic.{bytes_decides}
use Rattle.std.proofs.lemmas.Bool.Decides.{nat_tests}
use Rattle.std.proofs.lemmas.List.{length-map}
use Rattle.std.proofs.lemmas.List.Quantifiers.{position-Some}
use Rattle.std.proofs.lemmas.List.Sums.{fails_before_first}
use Rattle.std.proofs.lemmas.Option.{slice_get-map, slice_get-get_or, slice_get_within, get_or_from_slice_get}
use Rattle.ledger_kept.specs.EutxoTypes.declared.output_ref.OutputRef.{OutputRef}
use Rattle.ledger_kept.specs.EutxoTypes.declared.tx.Tx.{Tx}
use Rattle.ledger_kept.specs.EutxoTypes.Ids.{id_of}
use Rattle.ledger_kept.specs.EutxoTypes.Parts.{Instance, same_bytes}
use Rattle.ledger_kept.specs.Roles.Steps.{marlowe}
use Rattle.ledger_kept.specs.LedgerLaws.Past.{Past}
use Rattle.ledger_kept.specs.LedgerLaws.Laws.{NamesAreSingle}
use Rattle.ledger_kept.specs.LedgerLaws.Threads.{IsMade, IsStart}
use Rattle.ledger_kept.proofs.FromLedgerLaws.PlainLaws.{not_both, same_some}
use Rattle.ledger_kept.proofs.FromLedgerLaws.ReferenceLaws.{itself}
use Rattle.ledger_kept.specs.LedgerSpec.Replay.{World, past_of, published_at}
use Rattle.ledger_kept.specs.LedgerSpec.Views.{starts_in}
use Rattle.ledger_kept.specs.LedgerSpec.declared.step_record.StepRecord.{StepRecord}
use Rattle.ledger_kept.specs.LedgerSpec.Records.{TellTheRun, AreSteps}
use Rattle.ledger_kept.proofs.FromLedgerSpec.StartsLaws.{told_start, start_told}
use Rattle.ledger_kept.specs.ChainIndex.Contents.{Contents}
use Rattle.ledger_kept.specs.ChainIndex.Laws.{StartsAlike}
use Rattle.ledger_kept.specs.Kept.{IsIndexOf}
use Rattle.ledger_views.specs.RecordsSupport.{numbered, contract_by, contract_named, start_at}

-- ---- a transaction by its id

id_at : (txs : List Tx) (n : ℕ) (tx : Tx) (d : List ℕ) → slice_get txs n ≡ Some tx → get_or (map id_of txs) n d ≡ id_of tx
id_at txs n tx d at = get_or_from_slice_get (map id_of txs) n (id_of tx) d (slice_get-map id_of txs n ∙ ap (option_map id_of) at)

-- where none is found, none has the id
none_named : (id : List ℕ) (ids : List (List ℕ)) (n : ℕ) (d : List ℕ) → position (same_bytes id) ids ≡ None → n < length ids → same_bytes id (get_or ids n d) ≡ false
none_named id ids n d h l =
    let far : length ids ≤ position_or_len (same_bytes id) ids = grind (arith, nat_tests) in
    fails_before_first (same_bytes id) ids n d (omega (arith, l, far))

module _ (singles : NamesAreSingle marlowe) (alike : StartsAlike) (present : Contents) (w : World) (tied : IsIndexOf present w) where
  abbrev past : Past
  past = past_of w

  abbrev ids : List (List ℕ)
  ids = map id_of past.accepted

  -- since no two have one id, it is the one that is found
  found : (n : ℕ) (tx : Tx) → slice_get past.accepted n ≡ Some tx → numbered past.accepted (position (same_bytes (id_of tx)) ids) ≡ Some tx
  found n tx at = by (position (same_bytes (id_of tx)) ids) refl
    where
      long : length ids ≡ length past.accepted
      long = length-map past.accepted id_of

      by : (o : Option ℕ) → position (same_bytes (id_of tx)) ids ≡ o → numbered past.accepted o ≡ Some tx
      by None h =
          let l = slice_get_within past.accepted n tx at in
          let other = none_named (id_of tx) ids n [] h (omega (arith, l, long)) in
          absurd (not_both (ap (same_bytes (id_of tx)) (id_at past.accepted n tx [] at) ∙ itself (id_of tx)) other)
      by (Some m) h =
          let p = position-Some (same_bytes (id_of tx)) ids m [] h in
          let l = p.0 in
          let t = get_or past.accepted m tx in
          let there : slice_get past.accepted m ≡ Some t = slice_get-get_or past.accepted m tx (omega (arith, l, long)) in
          let same = (bytes_decides (id_of tx) (id_of t)).0 (ap (same_bytes (id_of tx)) (sym (id_at past.accepted m t [] there)) ∙ p.1) in
          let place = (singles (published_at w.published) past tied.sound).1 m n t tx there at (sym same) in
          ap (slice_get past.accepted) place ∙ at

  named : (r : OutputRef) (c : Instance) → IsMade past r c → contract_named ids past.accepted r ≡ Some c
  named r c m = ap (contract_named ids past.accepted) m.name ∙ ap (contract_by m.index) (found m.number m.tx m.accepted) ∙ m.contract

  -- ---- a start

  here : (r : OutputRef) → start_at present past.accepted r ≡ (if list_any (starts_in r) past.accepted then contract_named ids past.accepted r else None)
  here r =
      ap (λ (c : Contents). start_at c past.accepted r) tied.contents
      ∙ ap (λ b. if b then contract_named ids past.accepted r else None) (alike past r)

  start_known : (r : OutputRef) (c : Instance) → IsStart past r c → start_at present past.accepted r ≡ Some c
  start_known r c s = here r ∙ ap (λ b. if b then contract_named ids past.accepted r else None) (told_start past r (c, s)) ∙ named r c s.made

  pub start_so : (r : OutputRef) (c : Instance) → start_at present past.accepted r ≡ Some c → IsStart past r c
  start_so r c h = by (list_any (starts_in r) past.accepted) refl (sym (here r) ∙ h)
    where
      by : (b : Bool) → list_any (starts_in r) past.accepted ≡ b → (if b then contract_named ids past.accepted r else None) ≡ Some c → IsStart past r c
      by true e k = let s = start_told past r e in subst (IsStart past r) (same_some s.0 c (sym (named r s.0 s.1.made) ∙ k)) s.1
      by false e k = cc

  pub of_start : (r : OutputRef) (c : Instance) (xs : List StepRecord) → start_at present past.accepted r ≡ Some c → TellTheRun (published_at w.published) past r c xs →
      AreSteps (published_at w.published) past r xs
  of_start r c xs h told = record {
    thread = λ other z. subst (λ (e : Instance). TellTheRun (published_at w.published) past r e xs) (same_some c other (sym h ∙ start_known r other z)) told;
    none = λ no. absurd (no (c, start_so r c h));
  }

  pub of_none : (r : OutputRef) → start_at present past.accepted r ≡ None → AreSteps (published_at w.published) past r []
  of_none r h = record {
    thread = λ c s. let f : (let q : Option Instance = None in q) ≡ Some c = sym h ∙ start_known r c s in cc;
    none = λ no. refl;
  }
