-- Spellings of data tell data apart.
use Rattle.std.proofs.Common.{◌≡◌, sym, ◌∙◌, ℕ, ◌<◌, ◌^◌}
use Rattle.std.proofs.Math.Nat.{mod-eq_of_lt}
use Rattle.contract_bytes.proofs.Apart.{Tells, shows, both, word}
use Rattle.contract_bytes.proofs.ApartNames.{state_tells}
use Rattle.machine.specs.declared.datum.Datum.{Datum}
use Rattle.machine.specs.Spelling.{cont_bytes, datum_bytes, DatumFits}

cont_tells : (m n : ℕ) → m < 2 ^ 32 → n < 2 ^ 32 → Tells (m ≡ n) (cont_bytes m) (cont_bytes n)
unfolding cont_bytes
cont_tells m n f g = shows (λ e. sym (mod-eq_of_lt f) ∙ e ∙ mod-eq_of_lt g) (word 4 m n)

pub datum_tells : (x y : Datum) → DatumFits x → DatumFits y → Tells (x ≡ y) (datum_bytes x) (datum_bytes y)
datum_tells x y f g =
    shows (λ e. λ k. record { cont = record { 0 = e.0 k }; state = e.1 k })
    (both (cont_tells x.cont.0 y.cont.0 f.0 g.0) (state_tells x.state y.state f.1 g.1))
