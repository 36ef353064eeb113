-- Faults of rules and of builders in words, one line a fault.
use Rattle.std.specs.Prelude.{ℕ, ℤ, List, ◌++◌, codes, decimal}
use Rattle.std.specs.Fmt.{signed_decimal}
use Rattle.serde_json.specs.Written.{compact_text}
use Rattle.contract.specs.Names.declared.party.Party.{Party}
use Rattle.contract.specs.Names.declared.party.Party.TheVariants.{Address, Role}
use Rattle.contract.specs.Names.declared.token.Token.{Token}
use Rattle.json_write_contracts.specs.WrittenNames.{party_json}
use Rattle.builder_spec.specs.EutxoTypes.declared.fault.TxFault.{TxFault}
use Rattle.builder_spec.specs.EutxoTypes.declared.fault.TxFault.TheVariants as rules
use Rattle.builder_spec.specs.declared.fault.BuildFault.{BuildFault}
use Rattle.builder_spec.specs.declared.fault.BuildFault.TheVariants as causes
use Rattle.marlowe_refusals.specs.Refusals.{sem_fault_name}
use Rattle.places.specs.Texts.{token_text}

-- words, and among them a place
abbrev pub around : List ℕ → ℕ → List ℕ → List ℕ
around before place behind = before ++ (decimal place ++ behind)

-- a party as compact JSON
abbrev pub party_text : Party → List ℕ
party_text p = compact_text (party_json p)

-- a party that doesn't act: an address doesn't sign, and a role's token isn't there
abbrev pub missing_signer : Party → List ℕ
missing_signer p = party_text p ++ codes " isn't among the signers"

abbrev pub missing_among : Party → List ℕ → List ℕ
missing_among (Address a) behind = missing_signer (Address a)
missing_among (Role r) behind = codes "no " ++ (behind ++ (codes " holds the token of " ++ party_text (Role r)))

-- ---- the 19 rules

abbrev pub rule_words : TxFault → List ℕ
rule_words rules.NoInputs = codes "rule 1: nothing is spent"
rule_words rules.TooMany = codes "rule 2: there are more than 256 inputs, or more than 256 are brought to one contract"
rule_words (rules.RepeatedInput n) = around (codes "rule 3: input ") n (codes " spends what an earlier input spends")
rule_words (rules.NotUnspent n) = around (codes "rule 4: what input ") n (codes " spends was spent before, or never was")
rule_words rules.IdInUse = codes "rule 5: an accepted transaction has the same id"
rule_words rules.OutsideInterval = codes "rule 6: the ledger's tick isn't in the interval"
rule_words (rules.UnknownScript n) = around (codes "rule 7: the contract of output ") n (codes " isn't published")
rule_words (rules.NotSigned n) = around (codes "rule 8: input ") n (codes " spends an output of an address that isn't among the signers")
rule_words rules.TooManyContracts = codes "rule 9: more than 8 contracts are stepped"
rule_words (rules.WrongRedeemer n) = around (codes "rule 10: what is brought to spend the output of input ") n (codes " isn't of its kind")
rule_words (rules.RoleMissing n) = around (codes "rule 11: input ") n (codes " claims a payout, and no output of an address that is spent holds the role's token")
rule_words (rules.Semantics f) = codes "rule 12: the contract refuses its inputs: " ++ sem_fault_name f
rule_words (rules.NotAuthorised p) = codes "rule 13: " ++ missing_among p (codes "output of an address that is spent")
rule_words rules.WrongContinuation = codes "rule 14: the contract goes on, and the first output of its block isn't the one in which it does"
rule_words (rules.WrongPayment n) = around (codes "rule 15: output ") n (codes " isn't the payment that is due there")
rule_words (rules.StrayContract n) = around (codes "rule 16: output ") n (codes " is a contract's, and no contract goes on in it")
rule_words (rules.WrongStart n) = around (codes "rule 17: output ") n (codes " doesn't start its contract")
rule_words (rules.NotPreserved t) = codes "rule 18: another sum of " ++ (token_text t ++ codes " is spent than made")
rule_words (rules.WrongDatum n) = around (codes "rule 19: datum ") n (codes " isn't the one whose digest its output holds")

-- ---- builders

abbrev pub build_words : BuildFault → List ℕ
build_words causes.NoThread = codes "there is no thread to step, or no payout to claim"
build_words (causes.Semantics f) = codes "the contract refuses its inputs: " ++ sem_fault_name f
build_words causes.NotSigned = codes "an output is offered whose address isn't among the signers"
build_words (causes.NotAuthorised p) = missing_among p (codes "offered output")
build_words (causes.NoFunds t) = codes "the offered outputs hold too little of " ++ token_text t
build_words causes.TooMany = codes "there are too many contracts, inputs or outputs for one transaction, or they hold too much"
build_words causes.Repeated = codes "an output is offered twice, or a thread is stepped twice"
build_words causes.Memory = codes "memory was refused"

-- where it is known how much lacks
abbrev pub lacking_words : ℤ → Token → List ℕ
lacking_words n t = codes "the offered outputs lack " ++ (signed_decimal n ++ (codes " " ++ token_text t))
