-- How lengths, numbers, times, texts and lists are spelled in bytes, and which of them fit their places.
use Rattle.std.specs.Prelude.{ℕ, ℤ, ◌<◌, ◌^◌, List, ◌++◌, length, FitsSigned}
use Rattle.std.specs.Int.{w64, w128, cast_unsigned, to_be_bytes}
use Rattle.std.specs.List.{All, flat_map}

-- a length: 8 bytes, the highest first
unfoldable pub length_bytes : ℕ → List ℕ
length_bytes n = to_be_bytes w64 n

-- a number: 16 bytes of two's complement, the highest first
unfoldable pub number_bytes : ℤ → List ℕ
number_bytes n = to_be_bytes w128 (cast_unsigned w128 n)

-- a time: 8 bytes of two's complement, the highest first
unfoldable pub time_bytes : ℤ → List ℕ
time_bytes t = to_be_bytes w64 (cast_unsigned w64 t)

-- a text or a string of bytes: its length, then its bytes
abbrev pub text_bytes : List ℕ → List ℕ
text_bytes text = length_bytes (length text) ++ text

-- a list: its length, then its items
abbrev pub list_bytes : {X : Type 0} → (X → List ℕ) → List X → List ℕ
list_bytes spelling items = length_bytes (length items) ++ flat_map spelling items

-- ---- what fits: everything that was spelled (the clause `fits` of the encode calls)

abbrev pub NumberFits : ℤ → Type 0
NumberFits n = FitsSigned w128 n

abbrev pub TimeFits : ℤ → Type 0
TimeFits t = FitsSigned w64 t

abbrev pub TextFits : List ℕ → Type 0
TextFits text = length text < 2 ^ 64

abbrev pub ListFits : {X : Type 0} → (X → Type 0) → List X → Type 0
ListFits Fits items = (length items < 2 ^ 64) × All Fits items
