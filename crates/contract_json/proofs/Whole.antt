-- The text of a whole value, from a new writer.
use Rattle.std.proofs.Common.{◌≡◌, ℕ, ◌≤◌, List, [], ◌++◌, length, Some, subst, sym, ap, ◌∙◌}
use Rattle.std.specs.Str.{IsUtf8}
use Rattle.json.specs.Lex.{tokens}
use Rattle.json.specs.Print.{print}
use Rattle.json.specs.Written.{Written}
use Rattle.serde_json.specs.Data.{Data, depth}
use Rattle.serde_json.specs.Read.{read, max_depth}
use Rattle.serde_json.specs.Written.{compact_text}
use Rattle.serde_json.proofs.Texts.{print-outline}
use Rattle.json_tree.specs.View.{read_within}
use Rattle.json_write_contracts.specs.Tokens.{Puts, data_tokens}
use Rattle.contract_json.specs.Readable.{Readable}
use Rattle.contract_json.proofs.ReadBack.{back-within, depth-text}

module _ (a b : Written) (start bytes : List ℕ) (d : Data) (empty : start ≡ []) (before : a.before ≡ start) (none : a.tokens ≡ []) (put : Puts a b d) (is : bytes ≡ b.before ++ print b.tokens) where
  all-tokens : b.tokens ≡ data_tokens d
  all-tokens = put.tokens ∙ ap (λ ts. ts ++ data_tokens d) none

  all-bytes : bytes ≡ print b.tokens
  all-bytes = is ∙ ap (λ xs. xs ++ print b.tokens) (put.before ∙ before ∙ empty)

  pub compact : bytes ≡ compact_text d
  compact = all-bytes ∙ ap print all-tokens ∙ print-outline d

  pub utf8 : IsUtf8 (print b.tokens) → IsUtf8 bytes
  utf8 h = subst IsUtf8 (sym all-bytes) h

  same-tokens : tokens (print b.tokens) ≡ b.tokens → tokens bytes ≡ data_tokens d
  same-tokens h = ap tokens all-bytes ∙ h ∙ all-tokens

  pub reads : tokens (print b.tokens) ≡ b.tokens → Readable d → depth d ≤ max_depth → read bytes ≡ Some d
  reads h r shallow = back-within max_depth d bytes r shallow (same-tokens h)

  pub reads-deep : tokens (print b.tokens) ≡ b.tokens → Readable d → read_within (length bytes) bytes ≡ Some d
  reads-deep h r = back-within (length bytes) d bytes r (depth-text d bytes (all-bytes ∙ ap print all-tokens)) (same-tokens h)
