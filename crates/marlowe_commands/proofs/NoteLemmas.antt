-- Notes on files, one behind another.
use Rattle.std.proofs.Common.{◌≡◌, ◌⊎◌, ◌∙◌, ℕ, List, [], ◌∷◌, Result, Ok, Err, inl, inr, refl, sym, ap, subst}
use Rattle.std.specs.Prelude.{◌++◌}
use Rattle.std.specs.Str.{IsUtf8}
use Rattle.std.proofs.lemmas.List.{append-nil, append_assoc}
use Rattle.serve.specs.JsonForms.declared.sort.Sort.{Sort}
use Rattle.unread_keys.specs.Unread.{notes_in}
use Rattle.unread_notes.specs.Notes.{AreNotes as FileNotes}
use Rattle.marlowe_commands.specs.Streams.{AreNotes, AreOfFiles}

pub none : (notes : List ℕ) → notes ≡ [] → AreNotes notes
none notes is = ([], is)

pub one : (file text : List ℕ) (sort : Sort) (depth : ℕ) (lines : List ℕ) → IsUtf8 text
    → (IsUtf8 text → FileNotes file text (notes_in depth text sort) lines) → AreNotes lines
one file text sort depth lines utf8 are = (lines ∷ [], ([], (file, text, sort, depth, utf8, are utf8), refl, sym (append-nil lines)))

behind : (files others : List (List ℕ)) (notes more : List ℕ) → AreOfFiles files notes → AreOfFiles others more → AreOfFiles (files ++ others) (notes ++ more)
behind [] others notes more is are = subst (λ n. AreOfFiles others (n ++ more)) (sym is) are
behind (lines ∷ files) others notes more (rest, of, behind_it, is) are =
    (rest ++ more, of, behind files others rest more behind_it are, ap (λ n. n ++ more) is ∙ append_assoc lines rest more)

pub both : (notes more : List ℕ) → AreNotes notes → AreNotes more → AreNotes (notes ++ more)
both notes more (files, are) (others, too) = (files ++ others, behind files others notes more are too)

-- notes are put behind others, or none are
pub joined : (old new more slice : List ℕ) → slice ≡ more → (new ≡ old ++ slice) ⊎ (new ≡ old ++ []) → AreNotes old → AreNotes more → AreNotes new
joined old new more slice same (inl is) are too = subst AreNotes (sym (is ∙ ap (λ m. old ++ m) same)) (both old more are too)
joined old new more slice same (inr is) are too = subst AreNotes (sym (is ∙ append-nil old)) are
