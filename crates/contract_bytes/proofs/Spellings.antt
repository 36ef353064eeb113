-- Writers of several parts: what each part leaves gives what all of them leave.
use Rattle.std.proofs.Common.{◌≡◌, refl, sym, ◌∙◌, ℕ, List, [], ◌∷◌, ◌++◌, append-nil, Result, Ok, Err, OnOk, OnErr}
use Rattle.std.proofs.lemmas.Result.{IfOk-from_err, on_ok_weaker, on_err_weaker}
use Rattle.std.specs.Result.{IsErr}
use Rattle.contract_bytes.specs.Writing.{AppendsFront}
use Rattle.contract_bytes.specs.WritingSupport.{Spells}
use Rattle.contract_bytes.proofs.Fronts.{on_any_err, front_as, front_then, wrote_both}

-- nothing was appended
pub no_front : (bytes : List ℕ) {old new : List ℕ} → new ≡ old → AppendsFront bytes old new
no_front bytes {old} h = record { front = []; rest = bytes; split = refl; appended = h ∙ sym (append-nil old) }

-- a part was refused, and a front stands
pub refused : {E F : Type 0} {bytes old new : List ℕ} (r : Result (Unit {0}) E) → IsErr r → AppendsFront bytes old new → Spells r bytes F old new
refused {E} {F} {bytes} {old} {new} r is h = record {
  spelling = IfOk-from_err r (λ _. new ≡ old ++ bytes) is;
  fits = IfOk-from_err r (λ _. F) is;
  err = on_any_err r h;
}

-- what is so anyway
pub held : {T E P : Type 0} (r : Result T E) → P → OnOk r P
held (Ok a) p = p
held (Err e) p = tt

-- what a writer says in three clauses
pub part : {E F : Type 0} {bytes old new : List ℕ} (r : Result (Unit {0}) E) → OnOk r (new ≡ old ++ bytes) → OnOk r F → OnErr r (AppendsFront bytes old new) → Spells r bytes F old new
part r h f k = record { spelling = h; fits = f; err = k }

-- a byte alone
pub a_byte : {E : Type 0} {old new : List ℕ} (b : ℕ) (r : Result (Unit {0}) E) → OnOk r (new ≡ old ++ b ∷ []) → OnErr r (new ≡ old) → Spells r (b ∷ []) (Unit {0}) old new
a_byte b (Ok done) h k = record { spelling = h; fits = tt; err = tt }
a_byte b (Err e) h k = record { spelling = tt; fits = tt; err = no_front (b ∷ []) k }

-- a number, which fits anyway
pub a_number : {E F : Type 0} {bytes old new : List ℕ} (r : Result (Unit {0}) E) → OnOk r (new ≡ old ++ bytes) → F → OnErr r (new ≡ old) → Spells r bytes F old new
a_number (Ok done) h f k = record { spelling = h; fits = f; err = tt }
a_number {bytes = bytes} (Err e) h f k = record { spelling = tt; fits = tt; err = no_front bytes k }

-- those before it stand, and it comes last
pub behind : {E F : Type 0} {b old mid new : List ℕ} (a : List ℕ) (r : Result (Unit {0}) E) → mid ≡ old ++ a → Spells r b F mid new → Spells r (a ++ b) F old new
behind {b = b} {old = old} a r first h = record {
  spelling = on_ok_weaker r (wrote_both old a b first) h.spelling;
  fits = h.fits;
  err = on_err_weaker r (front_then a first) h.err;
}

-- what fits, with what is known besides
pub fitting : {E F G : Type 0} {bytes old new : List ℕ} (r : Result (Unit {0}) E) → (F → G) → Spells r bytes F old new → Spells r bytes G old new
fitting r f h = record { spelling = h.spelling; fits = on_ok_weaker r f h.fits; err = h.err }

-- the same of a form, whose spelling is that of its parts
pub form : {E F G : Type 0} {bytes all old new : List ℕ} (r : Result (Unit {0}) E) → all ≡ bytes → (F → G) → Spells r bytes F old new → Spells r all G old new
form {old = old} {new = new} r is f h = record {
  spelling = on_ok_weaker r (λ e. e ∙ (λ i. old ++ sym is i)) h.spelling;
  fits = on_ok_weaker r f h.fits;
  err = on_err_weaker r (front_as is) h.err;
}
