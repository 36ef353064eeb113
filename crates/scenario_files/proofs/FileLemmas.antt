-- Files beside their texts, one after another.
use Rattle.std.proofs.Common.{◌≡◌, ℕ, ◌+◌, ◌<◌, ◌≤◌, List, [], ◌∷◌, ◌++◌, length, get_or, drop, map, Option, Vec, Global, refl, sym, ap, subst, ◌∙◌, append_assoc, append-nil}
use Rattle.std.specs.Prelude.{◌≢◌, None, Some, Bool, true, false, Result, Ok, Err, IfOk, IsUtf8, if◌then◌else◌}
use Rattle.std.specs.Str.{is_utf8}
use Rattle.std.proofs.lemmas.List.{drop_more, drop_all}
use Rattle.std.proofs.lemmas.Str.{is_utf8-from_IsUtf8, IsUtf8-from_is_utf8}
use Rattle.contract.specs.Collections.Answers.{Aside}
use Rattle.json_read_names.specs.declared.fault.JsonFault.{JsonFault}
use Rattle.json_read_names.specs.declared.fault.JsonFault.TheVariants as json
use Rattle.json_read_names.specs.Parts.{Reading}
use Rattle.file_parts.specs.declared.join.FileText.{FileText}
use Rattle.file_parts.specs.declared.named.FileName.{FileName}
use Rattle.file_parts.specs.Files.{HasFiles, Text, files_in, seen, text_of}
use Rattle.scenario_files.specs.ScenarioFiles.{IsFaultOf, beside, fault_of, fault_or, file_fault, first_fault, named_files}
use Rattle.scenario_files.specs.declared.fault.FilesFault.{FilesFault}
use Rattle.scenario_files.specs.declared.fault.FilesFault.TheVariants.{Contract, NotJoined, Memory}

abbrev Bytes : Type 0
Bytes = Vec ℕ Global

abbrev pub texts_of : List Bytes → List (List ℕ)
texts_of ts = map (λ (t : Bytes). t.items) ts

-- ---- what is named

-- nothing in a text that isn't UTF-8
pub none_named : (depth : ℕ) (scenario : List ℕ) (b : Bool) → is_utf8 scenario ≡ b → (IsUtf8 scenario → ⊥)
    → [] ≡ (if b then files_in depth scenario else [])
none_named depth scenario true e not = absurd (not (IsUtf8-from_is_utf8 scenario e))
none_named depth scenario false e not = refl

pub all_named : {E : Type 0} (depth : ℕ) (scenario text : List ℕ) (r : Result (Vec FileName Global) E) → (text ≡ scenario) × IsUtf8 scenario
    → IfOk r (λ files. map seen files.items ≡ files_in depth text) → IfOk r (λ files. map seen files.items ≡ named_files depth scenario)
all_named depth scenario text (Ok files) (same, utf8) is =
    is ∙ ap (files_in depth) same ∙ sym (ap (λ b. if b then files_in depth scenario else []) (is_utf8-from_IsUtf8 scenario utf8))
all_named depth scenario text (Err e) so is = tt {0}

-- ---- what is joined

pub joined_is : (depth : ℕ) (scenario text : List ℕ) (slice placed : List FileText) (all : List Text) (made : List ℕ) → text ≡ scenario → slice ≡ placed
    → map text_of placed ≡ all → HasFiles depth text (map text_of slice) made → HasFiles depth scenario all made
joined_is depth scenario text slice placed all made same is are has =
    subst (λ s. HasFiles depth s all made) same (subst (λ ts. HasFiles depth text ts made) (ap (map text_of) is ∙ are) has)

-- ---- faults

-- what a reading tells, memory aside, is the fault of the text
pub fault_aside : {X : Type 0} (read : Reading X) (reading : Reading X) (told : Option JsonFault) → Aside json.Memory read reading → told ≡ fault_of read
    → told ≢ Some json.Memory → fault_of reading ≡ told
fault_aside (Ok x) reading told is so other = ap fault_of is ∙ sym so
fault_aside (Err fault) reading told is so other = ap fault_of (is (λ memory. other (so ∙ ap Some memory))) ∙ sym so

-- a file that is no contract has a fault of its own
never : (name : List ℕ) (o : Option JsonFault) (later : Option FilesFault) → (later ≡ Some NotJoined → ⊥) → fault_or name o later ≡ Some NotJoined → ⊥
never name (Some f) later other e = cc
never name None later other e = other e

never_joined : (depth : ℕ) (fs : List FileName) (ts : List (List ℕ)) → first_fault depth fs ts ≡ Some NotJoined → ⊥
never_joined depth [] ts e = cc
never_joined depth (f ∷ fs) [] e = cc
never_joined depth (f ∷ fs) (t ∷ ts) e = never f.contract (file_fault depth t) (first_fault depth fs ts) (never_joined depth fs ts) e

pub is_fault : (depth : ℕ) (fs : List FileName) (ts : List (List ℕ)) (fault : FilesFault) → (fault ≢ Memory → first_fault depth fs ts ≡ Some fault)
    → IsFaultOf depth fs ts fault
is_fault depth fs ts (Contract name f) is = is (λ e. cc)
is_fault depth fs ts NotJoined is = absurd (never_joined depth fs ts (is (λ e. cc)))
is_fault depth fs ts Memory is = tt {0}

-- ---- files beside their texts

no_texts : (depth : ℕ) (fs : List FileName) → first_fault depth fs [] ≡ None
no_texts depth [] = refl
no_texts depth (f ∷ fs) = refl

-- a fault is told, whatever follows
kept : (name : List ℕ) (o : Option JsonFault) (later : Option FilesFault) (fault : FilesFault) → fault_or name o None ≡ Some fault → fault_or name o later ≡ Some fault
kept name (Some f) later fault e = e
kept name None later fault e = absurd (cc)

nothing_beside : (fs : List FileName) → beside fs [] ≡ []
nothing_beside [] = refl
nothing_beside (f ∷ fs) = refl

module _ (files : List FileName) (texts : List Bytes) (i : ℕ) where
  module _ (f : FileName) (t : Bytes) (below : i < length files) (within : i < length texts) (is : f ≡ get_or files i f) (at : t ≡ get_or texts i t) where
    files_cut : drop i files ≡ f ∷ drop (i + 1) files
    files_cut = drop_more files i f below ∙ ap (λ x. x ∷ drop (i + 1) files) (sym is)

    texts_cut : texts_of (drop i texts) ≡ t.items ∷ texts_of (drop (i + 1) texts)
    texts_cut = ap texts_of (drop_more texts i t within ∙ ap (λ x. x ∷ drop (i + 1) texts) (sym at))

    module _ (depth : ℕ) (all : Option FilesFault) (so : all ≡ first_fault depth (drop i files) (texts_of (drop i texts))) where
      opened : all ≡ fault_or f.contract (file_fault depth t.items) (first_fault depth (drop (i + 1) files) (texts_of (drop (i + 1) texts)))
      opened = so ∙ ap (λ fs. first_fault depth fs (texts_of (drop i texts))) files_cut ∙ ap (first_fault depth (f ∷ drop (i + 1) files)) texts_cut

      pub fault_past : file_fault depth t.items ≡ None → all ≡ first_fault depth (drop (i + 1) files) (texts_of (drop (i + 1) texts))
      fault_past none = opened ∙ ap (λ o. fault_or f.contract o (first_fault depth (drop (i + 1) files) (texts_of (drop (i + 1) texts)))) none

      pub fault_here : (fault : FilesFault) → fault_or f.contract (file_fault depth t.items) None ≡ Some fault → all ≡ Some fault
      fault_here fault e = opened ∙ kept f.contract (file_fault depth t.items) (first_fault depth (drop (i + 1) files) (texts_of (drop (i + 1) texts))) fault e

    pub placed_past : (out new all : List Text) → out ++ beside (drop i files) (texts_of (drop i texts)) ≡ all → new ≡ out ++ (f.path, t.items) ∷ [] → new ++ beside (drop (i + 1) files) (texts_of (drop (i + 1) texts)) ≡ all
    placed_past out new all so made =
        ap (λ xs. xs ++ beside (drop (i + 1) files) (texts_of (drop (i + 1) texts))) made
        ∙ append_assoc out ((f.path, t.items) ∷ []) (beside (drop (i + 1) files) (texts_of (drop (i + 1) texts)))
        ∙ ap (λ xs. out ++ xs) (sym (ap (λ fs. beside fs (texts_of (drop i texts))) files_cut ∙ ap (beside (f ∷ drop (i + 1) files)) texts_cut))
        ∙ so

  pub fault_over : (depth : ℕ) (all : Option FilesFault) → length files ≤ i → all ≡ first_fault depth (drop i files) (texts_of (drop i texts)) → all ≡ None
  fault_over depth all over so = so ∙ ap (λ fs. first_fault depth fs (texts_of (drop i texts))) (drop_all i files over)

  pub fault_out : (depth : ℕ) (all : Option FilesFault) → length texts ≤ i → all ≡ first_fault depth (drop i files) (texts_of (drop i texts)) → all ≡ None
  fault_out depth all out so = so ∙ ap (λ ts. first_fault depth (drop i files) (texts_of ts)) (drop_all i texts out) ∙ no_texts depth (drop i files)

  pub placed_over : (out all : List Text) → length files ≤ i → out ++ beside (drop i files) (texts_of (drop i texts)) ≡ all → out ≡ all
  placed_over out all over so = sym (append-nil out) ∙ sym (ap (λ fs. out ++ beside fs (texts_of (drop i texts))) (drop_all i files over)) ∙ so

  pub placed_out : (out all : List Text) → length texts ≤ i → out ++ beside (drop i files) (texts_of (drop i texts)) ≡ all → out ≡ all
  placed_out out all over so = sym (append-nil out) ∙ sym (ap (λ ts. out ++ beside (drop i files) (texts_of ts)) (drop_all i texts over) ∙ ap (λ xs. out ++ xs) (nothing_beside (drop i files))) ∙ so
