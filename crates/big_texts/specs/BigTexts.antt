-- The JSON data of an outcome, with its big numbers as texts: for tools that hold each number as a double, which has all whole numbers from
-- -2^53 to 2^53 and not all others.
use Rattle.std.specs.Prelude.{ℕ, ℤ, pos, neg_ℤ, ◌^◌, int_lt, Bool, false, ◌||◌, List, codes, option_map, if◌then◌else◌}
use Rattle.std.specs.Option.{unwrap_or}
use Rattle.contract.specs.Names.Equal.{same_text}
use Rattle.serde_json.specs.Data.{Num, Data, null, boolean, number, string, array, object, Items, no_items, item, Members, no_members, member}
use Rattle.serde_json.specs.Find.{as_integer}
use Rattle.serde_json.specs.Written.{number_text}

-- below -2^53 or above 2^53
abbrev pub is_big : ℤ → Bool
is_big n = int_lt n (neg_ℤ (pos (2 ^ 53))) || int_lt (pos (2 ^ 53)) n

-- a number that is no whole one isn't big
abbrev pub is_big_number : Num → Bool
is_big_number n = unwrap_or (option_map is_big (as_integer n)) false

-- the members of these keys stay as they are, since they are read again: the contract that remains, and the minimum time, as times always are
abbrev pub stays : List ℕ → Bool
stays key = same_text key (codes "contract") || same_text key (codes "minTime")

-- each big number is the text of its digits
abbrev mutual
  pub with_texts : Data → Data
  with_texts null = null
  with_texts (boolean b) = boolean b
  with_texts (number n) = if is_big_number n then string (number_text n) else number n
  with_texts (string s) = string s
  with_texts (array ds) = array (items_with_texts ds)
  with_texts (object ms) = object (members_with_texts ms)

  pub items_with_texts : Items → Items
  items_with_texts no_items = no_items
  items_with_texts (item d ds) = item (with_texts d) (items_with_texts ds)

  pub members_with_texts : Members → Members
  members_with_texts no_members = no_members
  members_with_texts (member key d ms) = member key (if stays key then d else with_texts d) (members_with_texts ms)
