-- What is spent and what is made hold the same, token by token.
use Rattle.std.proofs.Common.{◌≡◌, ℕ, ℤ, pos, ◌+ℤ◌, ◌-ℤ◌, false, not, List, [], ◌∷◌, ◌++◌, refl, sym, ap, ◌∙◌, None, arith}
use Rattle.std.proofs.lemmas.Int.{ints}
use Rattle.std.proofs.lemmas.Bool.Decides.{Decides-int_eq}
use Rattle.std.specs.Prelude.{if◌then◌else◌}
use Rattle.std.specs.Option.{unwrap_or, option_map}
use Rattle.std.specs.Ordering.{int_eq}
use Rattle.std.specs.FinMap.{entries, get-entries}
use Rattle.std.specs.FinMap.Entries.{find}
use Rattle.contract.specs.Names.declared.token.Token.{Token}
use Rattle.contract.specs.Names.Orders.{token_cmp}
use Rattle.ledger_spec.specs.Bundle.Bundles.{Amounts, amount_of}
use Rattle.ledger_spec.specs.Bundle.Totals.{total_of}
use Rattle.ledger_spec.proofs.FromBundle.AmountLaws.{rests_are_of_each_token}
use Rattle.ledger_spec.specs.EutxoTypes.declared.fault.TxFault.TheVariants.{NotPreserved}
use Rattle.ledger_spec.specs.EutxoTypes.declared.lock.Lock.TheVariants.{Key}
use Rattle.ledger_spec.specs.EutxoTypes.declared.output.Output.{Output}
use Rattle.ledger_spec.specs.EutxoTypes.declared.spend.Spend.{Spend}
use Rattle.ledger_spec.specs.Eutxo.Differing.{tokens_of, differs, least}
use Rattle.ledger_spec.specs.Eutxo.Faults.{is_empty}
use Rattle.ledger_spec.specs.Eutxo.Rules.{not_preserved}
use Rattle.ledger_spec.specs.Ledger.declared.look.Unspent.{Unspent}
use Rattle.ledger_spec.specs.BuilderSpec.Holding.{sums, amount_in}
use Rattle.ledger_spec.specs.BuilderSpec.Laying.{paid_to, rest}
use Rattle.ledger_spec.proofs.FromBuilderSpec.HoldingLaws.{amount_of-sums, total_of-append}
use Rattle.builder_laws.proofs.TestLemmas.{Nowhere, none_kept}

no_more : (n : ℤ) → n +ℤ pos 0 ≡ n
no_more n = omega (arith, ints)

-- what is given to an address is all that there is
given_by : (o : Output) (t : Token) (es : List (Token × ℤ)) → entries o.amount ≡ es → total_of (λ (x : Output). x.amount) t (if is_empty es then [] else o ∷ []) ≡ amount_of o.amount t
given_by o t [] e = sym (ap (λ n. unwrap_or n (pos 0)) (get-entries o.amount t ∙ ap (find token_cmp t) e))
given_by o t (x ∷ es) e = no_more (amount_of o.amount t)

pub total-given : (address : List ℕ) (m : Amounts) (t : Token) → total_of (λ (o : Output). o.amount) t (paid_to address m) ≡ amount_of m t
total-given address m t = given_by (record { lock = Key address; amount = m }) t (entries m) refl

all_again : (s r d : ℤ) → r ≡ d -ℤ s → s +ℤ r ≡ d
all_again s r d h = omega (arith, ints)

-- what is made and the change are all that is spent
pub total-changed : (address : List ℕ) (spent : List Unspent) (made : List Output) (t : Token) → total_of (λ (o : Output). o.amount) t (made ++ paid_to address (rest spent made)) ≡ total_of amount_in t spent
total-changed address spent made t =
    total_of-append (λ (o : Output). o.amount) t made (paid_to address (rest spent made))
    ∙ ap (λ n. total_of (λ (o : Output). o.amount) t made +ℤ n) (total-given address (rest spent made) t)
    ∙ all_again (total_of (λ (o : Output). o.amount) t made) (amount_of (rest spent made) t) (total_of amount_in t spent)
    (rests_are_of_each_token (sums amount_in spent) (sums (λ (o : Output). o.amount) made) t
    ∙ ap (λ n. n -ℤ amount_of (sums (λ (o : Output). o.amount) made) t) (amount_of-sums amount_in spent t)
    ∙ ap (λ n. total_of amount_in t spent -ℤ n) (amount_of-sums (λ (o : Output). o.amount) made t))

equal_sums : (x y : ℤ) → x ≡ y → not (int_eq x y) ≡ false
equal_sums x y e = ap not ((Decides-int_eq x y).1 e)

none_differs : (f g : Token → ℤ) → ((t : Token) → f t ≡ g t) → (ts : List Token) → Nowhere (λ t. not (int_eq (f t) (g t))) ts
none_differs f g h [] = tt
none_differs f g h (t ∷ ts) = (equal_sums (f t) (g t) (h t), none_differs f g h ts)

-- where the sums are the same, the rule on them refuses nothing
pub preserved : (spent : List (Spend × Output)) (made : List Output) → ((t : Token) → total_of (λ (x : Spend × Output). x.1.amount) t spent ≡ total_of (λ (o : Output). o.amount) t made) → not_preserved spent made ≡ None
preserved spent made h =
    let ts = tokens_of (λ (x : Spend × Output). x.1.amount) spent ++ tokens_of (λ (o : Output). o.amount) made in
    ap (λ ts. option_map NotPreserved (least ts))
    (none_kept (differs (λ (x : Spend × Output). x.1.amount) (λ (o : Output). o.amount) spent made) ts
    (none_differs (λ t. total_of (λ (x : Spend × Output). x.1.amount) t spent) (λ t. total_of (λ (o : Output). o.amount) t made) h ts))
