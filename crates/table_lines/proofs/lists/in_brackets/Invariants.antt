use Rattle.std.proofs.Common.{◌≡◌, ◌++◌, drop, map, string_bytes}
use Rattle.table_lines.specs.TableLines.{listed_on}
use Rattle.table_lines.proofs.lists.in_brackets.Given as goal

-- what was printed and the items that are left are one text
abbrev pub invariant-loop-item : goal.invariant-loop-item
invariant-loop-item g l =
    string_bytes l.text ++ listed_on (map g.T.Item.word (drop l.item-index l.rest)) ≡ string_bytes l.initial.text ++ listed_on (map g.T.Item.word l.rest)
