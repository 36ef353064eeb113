-- What is put, in other words.
use Rattle.std.proofs.Common.{◌≡◌, ℕ, List, subst}
use Rattle.serde_json.specs.Data.{string}
use Rattle.json.specs.Written.{Written}
use Rattle.json_write_contracts.specs.Tokens.{Puts}
use Rattle.places.specs.declared.key.Key.{Key}
use Rattle.places.specs.Texts.{place_json}
use Rattle.contract_notes.specs.declared.note.Source.{Source}
use Rattle.note_lines.specs.NoteLines.{source_json}

pub word_put : (a b : Written) (w v : List ℕ) → w ≡ v → Puts a b (string w) → Puts a b (string v)
word_put a b w v e h = subst (λ (x : List ℕ). Puts a b (string x)) e h

pub place_put : (a b : Written) (ks ls : List Key) → ks ≡ ls → Puts a b (place_json ks) → Puts a b (place_json ls)
place_put a b ks ls e h = subst (λ (x : List Key). Puts a b (place_json x)) e h

pub source_put : (a b : Written) (x y : Source) → x ≡ y → Puts a b (source_json x) → Puts a b (source_json y)
source_put a b x y e h = subst (λ (z : Source). Puts a b (source_json z)) e h
