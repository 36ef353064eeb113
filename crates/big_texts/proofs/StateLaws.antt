-- Outcomes and states, of which numbers are texts.
use Rattle.std.proofs.Common.{◌≡◌, ℕ, ℤ, pos, negsuc, ◌<◌, ◌^◌, true, false, cond, List, [], ◌∷◌, map, Ok, Err, FitsSigned, refl, sym, ap, ◌∙◌, append-nil, arith}
use Rattle.std.specs.Prelude.{codes, int_lt}
use Rattle.std.specs.Int.{w128}
use Rattle.std.specs.Fmt.{signed_decimal}
use Rattle.std.specs.FinMap.{FinMap, empty, contains_key, insert, entries}
use Rattle.std.specs.declared.cmp.Ordering.{Ordering}
use Rattle.contract.specs.Collections.Answers.{◌>>=◌}
use Rattle.contract.specs.Names.declared.account.Account.{Account}
use Rattle.contract.specs.Names.declared.choice_id.ChoiceId.{ChoiceId}
use Rattle.contract.specs.Names.declared.party.Party.{Party}
use Rattle.contract.specs.Names.declared.party.Party.TheVariants as parties
use Rattle.contract.specs.Names.Orders.{bytes_cmp, account_cmp, choice_id_cmp}
use Rattle.serde_json.specs.Data.{Num, unsigned, negative, float, Data, null, boolean, number, string, array, object, Items, no_items, item, Members, no_members, member}
use Rattle.serde_json.specs.Find.{of_integer}
use Rattle.serde_json.specs.View.{items_of}
use Rattle.serde_json.specs.Written.{number_text}
use Rattle.json_read_names.specs.Parts.{Reading, time}
use Rattle.json_read_names.specs.declared.fault.JsonFault.TheVariants.{BadState}
use Rattle.json_read_names.specs.ReadsNames.{choice_id}
use Rattle.json_read_inputs.specs.ReadsNumber.{number_or_text}
use Rattle.json_read_inputs.specs.ReadsState.{account, account_row_by, choice_row_by, bound_row_by, rows_into}
use Rattle.json_read_inputs.proofs.DigitLaws.{text-written}
use Rattle.json_write_contracts.specs.WrittenNames.{number_fits, number_json, wide_json, party_json, token_json, pair_json}
use Rattle.json_write_outcomes.specs.WrittenOutcome.{account_row_json, choice_row_json, bound_row_json, outcome_json}
use Rattle.contract_json.specs.Readable.{Readable, ItemsReadable, MembersReadable}
use Rattle.contract_json.proofs.ReadableLemmas.{outcome-readable}
use Rattle.contract_json.proofs.ReturnsNames.{whole-number_json}
use Rattle.big_texts.specs.BigTexts.{is_big_number, with_texts, items_with_texts}
use Rattle.big_texts.specs.Lines.{big_as_text}
use Rattle.big_texts.specs.Laws.{AreWhole, IsWhole, ItemsAreWhole, MembersAreWhole, line_of, OutcomesHaveTexts, StatesAreReadAlike}
use Rattle.big_texts.proofs.LineLaws.{lines_are_of_values}

-- ---- outcomes

number_whole : (x : Num) → Readable (number x) → IsWhole x
number_whole (unsigned n) h = h
number_whole (negative (pos n)) h = h
number_whole (negative (negsuc n)) h = h
number_whole (float x) h = h

mutual
  whole_of : (d : Data) → Readable d → AreWhole d
  whole_of null h = tt
  whole_of (boolean b) h = tt
  whole_of (number x) h = number_whole x h
  whole_of (string s) h = tt
  whole_of (array ds) h = items_whole_of ds h
  whole_of (object ms) h = members_whole_of ms h.0

  items_whole_of : (ds : Items) → ItemsReadable ds → ItemsAreWhole ds
  items_whole_of no_items h = tt
  items_whole_of (item d ds) h = (whole_of d h.0, items_whole_of ds h.1)

  members_whole_of : (ms : Members) → MembersReadable ms → MembersAreWhole ms
  members_whole_of no_members h = tt
  members_whole_of (member k d ms) h = (whole_of d h.0, members_whole_of ms h.1)

pub outcomes_have_texts : OutcomesHaveTexts
outcomes_have_texts ws ps s c fits time =
    let d = outcome_json ws ps s c in
    ap big_as_text (sym (append-nil (line_of d))) ∙ lines_are_of_values (d ∷ []) (whole_of d (outcome-readable ws ps s c fits time), tt) ∙ append-nil (line_of (with_texts d))

-- ---- numbers of states

digits_are : (n : ℤ) → number_text (of_integer n) ≡ signed_decimal n
digits_are (pos n) = refl
digits_are (negsuc n) = refl

in_bits : (n : ℤ) → number_fits n ≡ true → FitsSigned w128 n
in_bits (pos n) h = let small : n < 2 ^ 127 = grind arith in record { sfits = small }
in_bits (negsuc n) h = let small : n < 2 ^ 127 = grind arith in record { sfits = small }

-- a number of 64 bits is read as its text is
number_alike : (n : ℤ) → number_fits n ≡ true → number_or_text (with_texts (number_json n)) ≡ number_or_text (number_json n)
number_alike n h =
    elim (is_big_number (of_integer n)) as (λ b. number_or_text (cond b (string (number_text (of_integer n))) (number (of_integer n))) ≡ number_or_text (number_json n)) [
      | true ↦ ap (λ s. number_or_text (string s)) (digits_are n) ∙ text-written n (in_bits n h) ∙ sym (whole-number_json n)
      | false ↦ refl
    ]

wide_alike : (n : ℤ) → number_or_text (with_texts (wide_json n)) ≡ number_or_text (wide_json n)
wide_alike n =
    elim (number_fits n) as (λ b. number_fits n ≡ b
    → number_or_text (with_texts (cond b (number_json n) (string (signed_decimal n)))) ≡ number_or_text (cond b (number_json n) (string (signed_decimal n)))) [
      | true ↦ λ h. number_alike n h
      | false ↦ λ h. refl
    ] refl

-- ---- rows of states

party_stays : (p : Party) → with_texts (party_json p) ≡ party_json p
party_stays (parties.Address t) = refl
party_stays (parties.Role t) = refl

account_row_alike : (e : Account × ℤ) → account_row_by number_or_text (with_texts (account_row_json e)) ≡ account_row_by number_or_text (account_row_json e)
unfolding account_row_by
account_row_alike e =
    λ i. account (pair_json (party_stays e.0.owner i) (token_json e.0.token)) >>= λ a. wide_alike e.1 i >>= λ amount. cond (int_lt (pos 0) amount) (Ok (a, amount)) (Err BadState)

choice_row_alike : (e : ChoiceId × ℤ) → choice_row_by number_or_text (with_texts (choice_row_json e)) ≡ choice_row_by number_or_text (choice_row_json e)
unfolding choice_row_by
choice_row_alike e =
    λ i. choice_id (object (member (codes "choice_name") (string e.0.name) (member (codes "choice_owner") (party_stays e.0.owner i) no_members))) >>= λ id.
    wide_alike e.1 i >>= λ chosen. Ok (id, chosen)

bound_row_alike : (e : List ℕ × ℤ) → bound_row_by number_or_text (with_texts (bound_row_json e)) ≡ bound_row_by number_or_text (bound_row_json e)
unfolding bound_row_by
bound_row_alike e = λ i. wide_alike e.1 i >>= λ value. Ok (e.0, value)

rows_alike : {K : Type 0} {R : K → K → Ordering} {E : Type 0} (row : Data → Reading (K × ℤ)) (json : E → Data) → ((e : E) → row (with_texts (json e)) ≡ row (json e))
    → (m : FinMap R ℤ) (es : List E) → rows_into row m (items_with_texts (items_of (map json es))) ≡ rows_into row m (items_of (map json es))
unfolding rows_into
rows_alike row json alike m [] = refl
rows_alike row json alike m (e ∷ es) = λ i. alike e i >>= λ x. cond (contains_key m x.0) (Err BadState) (rows_alike row json alike (insert m x.0 x.1) es i)

pub states_are_read_alike : StatesAreReadAlike
states_are_read_alike s =
    λ i. rows_alike (account_row_by number_or_text) account_row_json account_row_alike (empty {R = account_cmp}) (entries s.accounts) i >>= λ accounts.
    rows_alike (choice_row_by number_or_text) choice_row_json choice_row_alike (empty {R = choice_id_cmp}) (entries s.choices) i >>= λ choices.
    rows_alike (bound_row_by number_or_text) bound_row_json bound_row_alike (empty {R = bytes_cmp}) (entries s.bound_values) i >>= λ bound_values.
    time (number_json s.min_time) >>= λ min_time.
    Ok (record { accounts = accounts; choices = choices; bound_values = bound_values; min_time = min_time })
