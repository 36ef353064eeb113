-- Tables with the same lists are the same.
use Rattle.std.proofs.Common.{◌≡◌}
use Rattle.table.specs.Flat.{Flat}

pub same_flat : (f g : Flat) → f.values ≡ g.values → f.observations ≡ g.observations → f.cases ≡ g.cases → f.conts ≡ g.conts → f ≡ g
same_flat f g v o c k = λ i. record { values = v i; observations = o i; cases = c i; conts = k i }
