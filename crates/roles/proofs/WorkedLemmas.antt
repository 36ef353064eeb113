-- The definitions on small steps.
use Rattle.std.proofs.Common.{◌≡◌, ℕ, ℤ, pos, Bool, true, false, ◌&&◌, ◌||◌, List, [], ◌∷◌, refl, sym, ◌∙◌, ap, Option, Some, None, Ordering}
use Rattle.std.specs.Prelude.{if◌then◌else◌, int_lt}
use Rattle.std.proofs.lemmas.Bool.{eq-eqb}
use Rattle.std.specs.FinMap as map
use Rattle.std.specs.FinMap.{entries, entries-from_sorted}
use Rattle.contract.proofs.FromCollections.SameLaws.{same_by_decides}
use Rattle.contract.proofs.FromCollections.Maps.{no_entries}
use Rattle.eutxo.specs.Bundle.contracts.bundle.Bundle as bundles
use Rattle.contract.specs.Names.Orders.{bytes_cmp, account_cmp, choice_id_cmp}
use Rattle.contract.specs.Names.declared.party.Party.{Party}
use Rattle.eutxo.specs.EutxoTypes.contracts.output.Output as outputs
use Rattle.eutxo.specs.EutxoTypes.declared.output.Output.{Output}
use Rattle.eutxo.specs.Faults.{is_empty}
use Rattle.roles.specs.Sums.{sums_in}
use Rattle.roles.specs.Steps.{same_output, same_amounts, owed_output, and_owed_output, due_to, due_outputs}
use Rattle.roles.specs.Worked.{EqualPaymentsAreTwo, OneServesOne, NothingIsDue, PaidUnderLocks, TokensGrantInKeys, EmptyStartsHoldNothing}

same_itself : (o : Output) → same_output o o ≡ true
same_itself o = (same_by_decides outputs.the_row.coded o o).1 refl

pub equal_payments : EqualPaymentsAreTwo
equal_payments currency p party h =
    let o = owed_output currency party p in
    let more : (os : List Output) → and_owed_output currency p (due_to p) os ≡ o ∷ os = λ os. ap (λ (z : Option Party). and_owed_output currency p z os) h in (
      more (due_outputs currency (p ∷ [])) ∙ ap (λ (os : List Output). o ∷ os) (more []),
      ap (λ (b : Bool). if b then (let u : Option ℕ = Some 2 in u) else Some 1) (same_itself o),
      ap (λ (b : Bool). if b then (if b then None else Some 2) else Some 1) (same_itself o),
    )

pub one_serves_one : OneServesOne
one_serves_one currency p party other h d = (
  ap (λ (b : Bool). if b then (let u : Option ℕ = None in u) else Some 0) (same_itself (owed_output currency party p)),
  ap (λ (b : Bool). if b then (let u : Option ℕ = None in u) else Some 1) d,
)

pub nothing_due : NothingIsDue
nothing_due a b = (refl, refl, refl)

pub under_locks : PaidUnderLocks
under_locks currency name = (refl, refl)

pub in_keys : TokensGrantInKeys
in_keys currency role address x m h = (ap (λ (n : ℤ). (true && int_lt (pos 0) n) || false) h, refl, refl)

none_in : {K X : Type 0} (R : K → K → Ordering) → entries (map.empty {K = K} {X = X} {R = R}) ≡ []
none_in R = ap entries (sym (no_entries R)) ∙ entries-from_sorted R [] tt

same_nothing : same_amounts map.empty map.empty ≡ true
same_nothing = (same_by_decides bundles.the_row.coded map.empty map.empty).1 refl

both : (a b : Bool) → a ≡ true → b ≡ true → (a && b) ≡ true
both true b h k = k
both false b h k = cc

pub empty_starts : EmptyStartsHoldNothing
empty_starts root t =
    let sums = ap sums_in (none_in {X = ℤ} account_cmp) in
    let fresh = both _ _ (ap is_empty (none_in {X = ℤ} choice_id_cmp)) (ap is_empty (none_in {X = ℤ} bytes_cmp)) in
    (sums, both _ _ (both _ _ (eq-eqb root.0 root.0 refl) fresh) (ap (same_amounts map.empty) sums ∙ same_nothing))
