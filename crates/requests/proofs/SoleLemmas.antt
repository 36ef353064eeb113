-- Objects of one member.
use Rattle.std.proofs.Common.{◌≡◌, ℕ, List, [], ◌∷◌, length, Some, None, refl, sym, ap, ◌∙◌, arith, string_bytes}
use Rattle.std.specs.Prelude.{String, slice_get}
use Rattle.std.specs.declared.alloc.Global.{Global}
use Rattle.serde_json.specs.View.{view, members_view}
use Rattle.serde_json.specs.declared.value.Value.{Value}
use Rattle.requests.specs.Requests.{sole_of}

pub sole-other : (es : List (String Global × Value)) → (length es ≡ 1 → ⊥) → None ≡ sole_of (members_view es)
sole-other [] h = refl
sole-other (e ∷ []) h = absurd (h refl)
sole-other (e ∷ f ∷ es) h = refl

pub sole-one : (es : List (String Global × Value)) (k : String Global) (v : Value) (name : List ℕ) → length es ≡ 1 → slice_get es 0 ≡ Some (k, v) → name ≡ string_bytes k
    → Some (name, view v) ≡ sole_of (members_view es)
sole-one [] k v name one is named = absurd (omega arith)
sole-one (e ∷ []) k v name one is named =
    let same : e ≡ (k, v) = cc in
    ap (λ n. Some (n, view v)) named ∙ ap (λ (p : String Global × Value). Some (string_bytes p.0, view p.1)) (sym same)
sole-one (e ∷ f ∷ es) k v name one is named = absurd (omega arith)
