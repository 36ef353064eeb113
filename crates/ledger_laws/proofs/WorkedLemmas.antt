-- The definitions on small lists of transactions.
use Rattle.std.proofs.Common.{◌≡◌, Bool, true, false, not, ◌||◌, cond, List, [], ◌∷◌, ◌++◌, ◌∙◌, ap, Some, None}
use Rattle.std.specs.Prelude.{if◌then◌else◌}
use Rattle.std.specs.List.{list_any}
use Rattle.std.specs.Map.{lookup}
use Rattle.roles.specs.EutxoTypes.declared.output_ref.OutputRef.{OutputRef}
use Rattle.roles.specs.EutxoTypes.declared.output_ref.OutputRef.TheVariants.{Genesis, Made}
use Rattle.roles.specs.EutxoTypes.declared.spend.Spend.{Spend}
use Rattle.roles.specs.EutxoTypes.declared.tx.Tx.{Tx}
use Rattle.roles.specs.EutxoTypes.Ids.{id_of}
use Rattle.roles.specs.EutxoTypes.Parts.{same_ref}
use Rattle.ledger_laws.specs.Past.{Past, with_references, created_by, created, is_input_of, is_spent}
use Rattle.ledger_laws.specs.Threads.{Link, spine_by, ends_by}
use Rattle.ledger_laws.specs.Worked.{Next, NobodyCame, TwoSteps, NoneAfterTheEnd, GivenByName, OneMoves}
use Rattle.ledger_laws.proofs.ReferenceLaws.{same_ref-refl, unspent_is}

-- a transaction that names the output is the thread's next member
named_first : (next : Next) (r : OutputRef) (a : Tx) (txs : List Tx) → is_input_of r a ≡ true → spine_by next (Some r) (a ∷ txs) ≡ record { spends = r; tx = a } ∷ spine_by next (next r a) txs
named_first next r a txs h = ap (λ (b : Bool). if b then record { spends = r; tx = a } ∷ spine_by next (next r a) txs else spine_by next (Some r) txs) h

pub nobody_came : NobodyCame
nobody_came next r tx h =
    let e : spine_by next (Some r) (tx ∷ []) ≡ [] = ap (λ (b : Bool). if b then record { spends = r; tx = tx } ∷ spine_by next (next r tx) [] else []) h in
    (e, ap (ends_by next (Some r)) e)

pub two_steps : TwoSteps
two_steps next r q a b h k m n =
    let l : List Link = record { spends = r; tx = a } ∷ record { spends = q; tx = b } ∷ [] in
    let e : spine_by next (Some r) (a ∷ b ∷ []) ≡ l =
    named_first next r a (b ∷ []) h
    ∙ ap (λ ls. record { spends = r; tx = a } ∷ ls)
    (ap (λ s. spine_by next s (b ∷ [])) k ∙ named_first next q b [] m ∙ ap (λ s. record { spends = q; tx = b } ∷ spine_by next s []) n) in
    (e, ap (ends_by next (Some r)) e ∙ n)

pub none_after_the_end : NoneAfterTheEnd
none_after_the_end next r a b h k = named_first next r a (b ∷ []) h ∙ ap (λ s. record { spends = r; tx = a } ∷ spine_by next s (b ∷ [])) k

pub given_by_name : GivenByName
given_by_name p q xs ys h =
    ap (λ (b : Bool). if b then Some xs else (if same_ref q q then Some ys else None)) h ∙ ap (λ (b : Bool). if b then Some ys else None) (same_ref-refl q)

pub one_moves : OneMoves
one_moves first created_by tx x ins ref outs =
    let past : Past = record { genesis = first ∷ []; accepted = tx ∷ [] } in
    let named : (r : OutputRef) → is_spent (tx ∷ []) r ≡ ((same_ref (Genesis 0) r || false) || false) =
    λ r. ap (λ (xs : List Spend). list_any (λ y. same_ref y.reference r) xs || false) ins ∙ ap (λ q. (same_ref q r || false) || false) ref in
    let gone : is_spent (tx ∷ []) (Genesis 0) ≡ true = named (Genesis 0) in
    let free : is_spent (tx ∷ []) (Made (id_of tx) 0) ≡ false = named (Made (id_of tx) 0) in
    let there : lookup (same_ref (Made (id_of tx) 0)) (created past) ≡ Some created_by =
    ap (λ os. lookup (same_ref (Made (id_of tx) 0)) (with_references (λ j. Made (id_of tx) j) 0 os ++ [])) outs
    ∙ ap (λ (b : Bool). cond b (Some created_by) None) (same_ref-refl (Made (id_of tx) 0)) in (
      unspent_is past (Genesis 0) ∙ ap (λ (b : Bool). cond (not b) (lookup (same_ref (Genesis 0)) (created past)) None) gone,
      unspent_is past (Made (id_of tx) 0) ∙ ap (λ (b : Bool). cond (not b) (lookup (same_ref (Made (id_of tx) 0)) (created past)) None) free ∙ there,
    )
