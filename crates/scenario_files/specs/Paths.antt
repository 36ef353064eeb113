-- Where a path leads that a file names.
use Rattle.std.specs.Prelude.{◌≡◌, ◌⊎◌, ℕ, ◌==◌, List, [], ◌∷◌, ◌++◌, slice_index, None, if◌then◌else◌}
use Rattle.std.specs.Str.Pattern.{RFindsChar, SplitsAroundMatch}

abbrev pub slash : ℕ
slash = 47

-- the folder of a path: what is up to its last slash; nothing where there is none
abbrev pub IsFolder : List ℕ → List ℕ → Type 0
IsFolder path folder =
    (RFindsChar slash path None × (folder ≡ []))
    ⊎ ((front : List ℕ) × (back : List ℕ) × SplitsAroundMatch (RFindsChar slash) path front back × (folder ≡ front ++ slash ∷ []))

-- A path beside another: in the folder of the other, unless it begins with a slash
abbrev pub IsBeside : List ℕ → List ℕ → List ℕ → Type 0
IsBeside other path joined = (folder : List ℕ) × IsFolder other folder × (joined ≡ (if slice_index path 0 == slash then path else folder ++ path))
