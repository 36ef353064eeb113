-- What a call tells. It serves proofs alone.
use Rattle.std.specs.Prelude.{◌≢◌, ℕ, List, Result, Ok, Err, MatchResult}
use Rattle.std.specs.declared.vec.Vec.{Vec}
use Rattle.std.specs.declared.alloc.Global.{Global}
use Rattle.request_reasons.specs.RequestParts.declared.refusal.Refusal.{Refusal}
use Rattle.request_reasons.specs.RequestParts.declared.refusal.Refusal.TheVariants as refusals

-- a call tells this, memory aside
unfoldable pub Told : (Result (List ℕ) Refusal → Type 0) → Result (Vec ℕ Global) Refusal → Type 0
Told Tells result = MatchResult result (λ text. Tells (Ok text.items)) (λ refusal. refusal ≢ refusals.Memory → Tells (Err refusal))
