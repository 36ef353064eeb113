-- Worked rows, computed on the definitions.
use Rattle.std.specs.Prelude.{◌≡◌, ℕ, List, [], ◌∷◌, Some, option_map, codes}
use Rattle.json.specs.Json.{document}
use Rattle.file_parts.specs.Files.{Named, files_in, document_within, with_files, tree_at}

-- a contract that is an object of the member `file` alone is given as a file; others aren't
abbrev pub FilesAreNamed : Type 0
FilesAreNamed =
    (files_in 9 (codes "{\"contracts\":[{\"name\":\"a\",\"contract\":{\"file\":\"a.json\"}},{\"name\":\"b\",\"contract\":\"close\"}]}") ≡ (codes "a", codes "a.json") ∷ [])
    × (files_in 9 (codes "{\"contracts\":[{\"contract\":{\"file\":\"a.json\"}}]}") ≡ ([], codes "a.json") ∷ [])
    × (files_in 9 (codes "{\"contracts\":[{\"name\":\"a\",\"contract\":{\"file\":\"a.json\",\"pay\":1}},{\"contract\":{\"file\":1}}]}") ≡ [])
    × (files_in 9 (codes "{\"contract\":{\"file\":\"a.json\"}}") ≡ [])
    × (files_in 3 (codes "{\"contracts\":[{\"name\":\"a\",\"contract\":{\"file\":\"a.json\"}}]}") ≡ [])

-- each is the tree of the file in the scenario with files
abbrev pub FilesAreInPlace : Type 0
FilesAreInPlace =
    option_map (with_files (tree_at 9 ((codes "a.json", codes "\n\"close\"\n") ∷ []))) (document_within 9 (codes "{\"tick\":1,\"contracts\":[{\"name\":\"a\",\"contract\":{\"file\":\"a.json\"}}]}"))
    ≡ document_within 9 (codes "{\"tick\":1,\"contracts\":[{\"name\":\"a\",\"contract\": \"close\" }]}")
