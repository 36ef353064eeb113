-- The text of a whole value, from a new writer.
use Rattle.std.proofs.Common.{◌≡◌, ℕ, List, [], ◌++◌, ap, ◌∙◌}
use Rattle.json.specs.Print.{print}
use Rattle.json.specs.Written.{Written}
use Rattle.serde_json.specs.Data.{Data}
use Rattle.serde_json.specs.Written.{compact_text}
use Rattle.serde_json.proofs.Texts.{print-outline}
use Rattle.json_write_contracts.specs.Tokens.{Puts, data_tokens}

module _ (a b : Written) (start bytes : List ℕ) (d : Data) (empty : start ≡ []) (before : a.before ≡ start) (none : a.tokens ≡ []) (put : Puts a b d) (is : bytes ≡ b.before ++ print b.tokens) where
  all-tokens : b.tokens ≡ data_tokens d
  all-tokens = put.tokens ∙ ap (λ ts. ts ++ data_tokens d) none

  all-bytes : bytes ≡ print b.tokens
  all-bytes = is ∙ ap (λ xs. xs ++ print b.tokens) (put.before ∙ before ∙ empty)

  -- it is the compact text
  pub compact : bytes ≡ compact_text d
  compact = all-bytes ∙ ap print all-tokens ∙ print-outline d
