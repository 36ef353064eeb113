-- Laws for writers: tokens behind tokens.
use Rattle.std.proofs.Common.{◌≡◌, Bool, true, List, [], ◌∷◌, ◌++◌, sym, ap, ◌∙◌, append_assoc, append-nil, Result, Ok, Err, OnOk, OnErr}
use Rattle.json.specs.Token.{Token}
use Rattle.std.specs.declared.alloc.AllocError.{AllocError}
use Rattle.json.specs.Written.{Written, Writes}
use Rattle.json_write_contracts.specs.declared.fault.WriteFault.{WriteFault}
use Rattle.json_write_contracts.specs.Members.{AddsFitting}
use Rattle.json_write_contracts.specs.Tokens.{Adds, Keeps}

pub flat : (xs ys zs : List Token) → (xs ++ ys) ++ zs ≡ xs ++ (ys ++ zs)
flat xs ys zs = append_assoc xs ys zs

-- first these, then those
pub then : {a b c : Written} {xs ys : List Token} → Adds a b xs → Adds b c ys → Adds a c (xs ++ ys)
then {a} {b} {c} {xs} {ys} h k = record { tokens = k.tokens ∙ ap (λ ts. ts ++ ys) h.tokens ∙ append_assoc a.tokens xs ys; before = k.before ∙ h.before }

-- one token was written
pub wrote : {old new : Written} {t : Token} → Writes {E = AllocError} (Ok tt) old new t → Adds old new (t ∷ [])
wrote w = record { tokens = w.ok; before = w.room.0 }

-- these were written, and what came next was refused
pub stopped : {E : Type 0} {a b c : Written} {xs : List Token} (r : Result (Unit {0}) E) → Adds a b xs → Keeps b c → OnErr r (Keeps a c)
stopped {E} {a} {b} {c} {xs} (Ok done) h k = tt
stopped {E} {a} {b} {c} {xs} (Err e) h k = (xs ++ k.0, then h k.1)

-- one token was refused
pub refused : {e : AllocError} {old new : Written} {t : Token} → Writes {E = AllocError} (Err e) old new t → Keeps old new
refused {e} {old} {new} {t} w = ([], record { tokens = w.err ∙ sym (append-nil old.tokens); before = w.room.0 })

-- what a call of the writer leaves, refused or not
pub token_put : {old new : Written} {t : Token} (r : Result (Unit {0}) AllocError) → Writes r old new t → OnOk r (Adds old new (t ∷ []))
token_put (Ok done) w = wrote w
token_put (Err e) w = tt

pub token_left : {old new : Written} {t : Token} (r : Result (Unit {0}) AllocError) → Writes r old new t → OnErr r (Keeps old new)
token_left (Ok done) w = tt
token_left (Err e) w = refused w

-- these were written, and then those or not
pub behind : {E : Type 0} {a b : Written} {xs : List Token} (c : Written) (ys : List Token) (r : Result (Unit {0}) E) → Adds a b xs → OnOk r (Adds b c ys) → OnOk r (Adds a c (xs ++ ys))
behind c ys (Ok done) h k = then h k
behind c ys (Err e) h k = tt

pub left : {E : Type 0} {a b : Written} {xs : List Token} (c : Written) (r : Result (Unit {0}) E) → Adds a b xs → OnErr r (Keeps b c) → OnErr r (Keeps a c)
left c (Ok done) h k = tt
left {E} {a} {b} {xs} c (Err e) h k = (xs ++ k.0, then h k.1)

-- the same of what may have numbers that JSON lacks
pub after : {a b : Written} {xs : List Token} (c : Written) (ys : List Token) (g : Bool) (r : Result (Unit {0}) WriteFault) → Adds a b xs → AddsFitting r b c g ys → AddsFitting r a c g (xs ++ ys)
after c ys g (Ok done) k p = (p.0, then k p.1)
after c ys g (Err e) k p = p

-- .. and all that came before fits
pub flagged : {f : Bool} (a c : Written) (ys : List Token) (r : Result (Unit {0}) WriteFault) → f ≡ true → AddsFitting r a c true ys → AddsFitting r a c f ys
flagged a c ys (Ok done) h p = (h, p.1)
flagged a c ys (Err e) h p = λ other. h ∙ p other

-- what is so anyway, and what was left by a call that was refused
pub held : {E : Type 0} {P : Type 0} (r : Result (Unit {0}) E) → P → OnOk r P
held (Ok done) h = h
held (Err e) h = tt

pub failed : {E : Type 0} {P : Type 0} (r : Result (Unit {0}) E) → P → OnErr r P
failed (Ok done) h = tt
failed (Err e) h = h

-- what follows from what is known once all is written
pub mapped : {E : Type 0} {P Q : Type 0} (r : Result (Unit {0}) E) → (P → Q) → OnOk r P → OnOk r Q
mapped (Ok done) f h = f h
mapped (Err e) f h = tt

pub both : {E : Type 0} {P Q S : Type 0} (r : Result (Unit {0}) E) → (P → Q → S) → OnOk r P → OnOk r Q → OnOk r S
both (Ok done) f h i = f h i
both (Err e) f h i = tt

pub all_three : {E : Type 0} {P Q S T : Type 0} (r : Result (Unit {0}) E) → (P → Q → S → T) → OnOk r P → OnOk r Q → OnOk r S → OnOk r T
all_three (Ok done) f h i j = f h i j
all_three (Err e) f h i j = tt
