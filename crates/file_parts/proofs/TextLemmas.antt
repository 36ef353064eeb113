-- A list of texts is searched from the front, one after another.
use Rattle.std.proofs.Common.{◌≡◌, ℕ, ◌+◌, ◌<◌, ◌≤◌, true, false, List, [], ◌∷◌, length, get_or, drop, map, Option, None, ap, ◌∙◌}
use Rattle.std.specs.Prelude.{if◌then◌else◌}
use Rattle.std.specs.Str.{bytes_eq}
use Rattle.std.proofs.lemmas.List.{drop_more, drop_all}
use Rattle.json.specs.Json.{Json}
use Rattle.file_parts.specs.declared.join.FileText.{FileText}
use Rattle.file_parts.specs.Files.{document_within, text_of, tree_at}

module _ (files : List FileText) (path : List ℕ) (depth i : ℕ) where
  abbrev found_from : ℕ → Option Json
  found_from n = tree_at depth (map text_of (drop n files)) path

  module _ (d : FileText) (below : i < length files) where
    opened : found_from i ≡ (if bytes_eq (get_or files i d).path.now path then document_within depth (get_or files i d).text.now else found_from (i + 1))
    opened = ap (λ fs. tree_at depth (map text_of fs) path) (drop_more files i d below)

    pub text_here : tree_at depth (map text_of files) path ≡ found_from i → bytes_eq (get_or files i d).path.now path ≡ true → tree_at depth (map text_of files) path ≡ document_within depth (get_or files i d).text.now
    text_here so e = so ∙ opened ∙ ap (λ b. if b then document_within depth (get_or files i d).text.now else found_from (i + 1)) e

    pub text_past : tree_at depth (map text_of files) path ≡ found_from i → bytes_eq (get_or files i d).path.now path ≡ false → tree_at depth (map text_of files) path ≡ found_from (i + 1)
    text_past so e = so ∙ opened ∙ ap (λ b. if b then document_within depth (get_or files i d).text.now else found_from (i + 1)) e

  pub text_nowhere : length files ≤ i → tree_at depth (map text_of files) path ≡ found_from i → tree_at depth (map text_of files) path ≡ None
  text_nowhere over so = so ∙ ap (λ fs. tree_at depth (map text_of fs) path) (drop_all i files over)
