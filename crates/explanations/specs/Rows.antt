-- Worked rows, computed on the definitions.
use Rattle.std.specs.Prelude.{◌≡◌, codes}
use Rattle.text_spots.specs.Spots.{mark}
use Rattle.explanations.specs.declared.broken.NoJson.TheVariants as no_json
use Rattle.explanations.specs.TextLines.{no_json_lines, no_json_members, too_long_line, too_long_members}

-- a text that ends too early, one that begins with a mark, and one that is too long
abbrev pub BrokenTextsAreTold : Type 0
BrokenTextsAreTold =
    (no_json_lines 127 (codes "contract.json") (codes "{\n ") no_json.Syntax 3 ≡ codes "  contract.json:2:2: no JSON; here stands the end of the text\n")
    × (no_json_lines 127 (codes "contract.json") mark no_json.Mark 0 ≡ codes "  contract.json:1:1: a byte order mark stands before the text\n")
    × (no_json_lines 127 (codes "contract.json") (codes "[[[ ") no_json.TooDeep 3
    ≡ codes "  contract.json:1:4: nested deeper than 127\n  wait less often in a row, or run what is left as a contract of its own\n")
    × (too_long_line (codes "contract.json") 1048577 ≡ codes "  contract.json: 1048577 bytes, and 1048576 are read\n")

-- the same for tools
abbrev pub BrokenTextsAreMembers : Type 0
BrokenTextsAreMembers =
    (no_json_members 127 (codes "contract.json") (codes "{\n ") no_json.Syntax 3
    ≡ codes "\"file\":\"contract.json\",\"line\":2,\"column\":2,\"reason\":\"no JSON; here stands the end of the text\"")
    × (no_json_members 400 (codes "contract.json") (codes "[[[ ") no_json.TooDeep 3
    ≡ codes
    "\"file\":\"contract.json\",\"line\":1,\"column\":4,\"reason\":\"nested deeper than 400\",\"hint\":\"wait less often in a row, or run what is left as a contract of its own\"")
    × (too_long_members (codes "contract.json") 1048577 ≡ codes "\"file\":\"contract.json\",\"length\":1048577")
