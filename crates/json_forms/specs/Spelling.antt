-- How far two words are apart, in letters: bytes, since the keys of all forms are ASCII.
use Rattle.std.specs.Prelude.{ℕ, nat_eq, Bool, ◌||◌, List, drop}
use Rattle.std.specs.List.{common_prefix_len}
use Rattle.names.specs.Equal.{same_text}

-- the test passes for what is left where a letter is exchanged, put in or left out
abbrev pub but_for_a_letter : (List ℕ → List ℕ → Bool) → List ℕ → List ℕ → Bool
but_for_a_letter test xs ys = test (drop 1 xs) (drop 1 ys) || (test xs (drop 1 ys) || test (drop 1 xs) ys)

-- the same behind what both begin with
abbrev pub behind_common : (List ℕ → List ℕ → Bool) → ℕ → List ℕ → List ℕ → Bool
behind_common test n xs ys = but_for_a_letter test (drop n xs) (drop n ys)

-- at most one letter apart, and at most two
unfoldable pub one_apart : List ℕ → List ℕ → Bool
one_apart xs ys = behind_common same_text (common_prefix_len nat_eq xs ys) xs ys

unfoldable pub two_apart : List ℕ → List ℕ → Bool
two_apart xs ys = behind_common one_apart (common_prefix_len nat_eq xs ys) xs ys
