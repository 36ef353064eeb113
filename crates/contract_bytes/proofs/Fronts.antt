-- What a writer of several parts leaves where one of them is refused.
use Rattle.std.proofs.Common.{◌≡◌, sym, ◌∙◌, ap, subst, ℕ, List, ◌++◌, append_assoc, Result, Ok, Err, OnErr}
use Rattle.contract_bytes.specs.Writing.{AppendsFront}

pub on_any_err : {T E P : Type 0} (r : Result T E) → P → OnErr r P
on_any_err (Ok a) p = tt
on_any_err (Err e) p = p

-- of the same bytes, spelled in another way
pub front_as : {bytes all old new : List ℕ} → all ≡ bytes → AppendsFront bytes old new → AppendsFront all old new
front_as {old = old} {new = new} same h = subst (λ b. AppendsFront b old new) (sym same) h

-- a front of the first part
pub front_first : {a old new : List ℕ} (b : List ℕ) → AppendsFront a old new → AppendsFront (a ++ b) old new
front_first b h = record {
  front = h.front;
  rest = h.rest ++ b;
  split = ap (λ l. l ++ b) h.split ∙ append_assoc h.front h.rest b;
  appended = h.appended;
}

-- two parts one after the other
pub wrote_both : (old a b : List ℕ) {mid new : List ℕ} → mid ≡ old ++ a → new ≡ mid ++ b → new ≡ old ++ (a ++ b)
wrote_both old a b first second = second ∙ ap (λ l. l ++ b) first ∙ append_assoc old a b

-- the first part whole, and a front of the next
pub front_then : {b old mid new : List ℕ} (a : List ℕ) → mid ≡ old ++ a → AppendsFront b mid new → AppendsFront (a ++ b) old new
front_then {old = old} a first h = record {
  front = a ++ h.front;
  rest = h.rest;
  split = ap (λ l. a ++ l) h.split ∙ sym (append_assoc a h.front h.rest);
  appended = wrote_both old a h.front first h.appended;
}
