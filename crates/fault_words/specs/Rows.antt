-- Worked rows of the words, computed on the definitions.
use Rattle.std.specs.Prelude.{◌≡◌, pos, codes}
use Rattle.contract.specs.Names.declared.party.Party.TheVariants.{Address, Role}
use Rattle.contract.specs.Names.Equal.{ada}
use Rattle.contract.specs.declared.fault.SemFault.TheVariants.{NoMatch}
use Rattle.builder_spec.specs.EutxoTypes.declared.fault.TxFault.TheVariants as rules
use Rattle.builder_spec.specs.declared.fault.BuildFault.TheVariants as causes
use Rattle.fault_words.specs.Words.{rule_words, build_words, lacking_words}

abbrev pub RulesAreTold : Type 0
RulesAreTold =
    (rule_words (rules.NotUnspent 0) ≡ codes "rule 4: what input 0 spends was spent before, or never was")
    × (rule_words (rules.Semantics NoMatch) ≡ codes "rule 12: the contract refuses its inputs: NoMatch")
    × (rule_words (rules.NotAuthorised (Address (codes "x"))) ≡ codes "rule 13: {\"address\":\"x\"} isn't among the signers")
    × (rule_words (rules.NotAuthorised (Role (codes "r"))) ≡ codes "rule 13: no output of an address that is spent holds the token of {\"role_token\":\"r\"}")
    × (rule_words (rules.NotPreserved ada) ≡ codes "rule 18: another sum of ADA is spent than made")

abbrev pub BuildersAreTold : Type 0
BuildersAreTold =
    (build_words (causes.NotAuthorised (Role (codes "r"))) ≡ codes "no offered output holds the token of {\"role_token\":\"r\"}")
    × (build_words (causes.NoFunds ada) ≡ codes "the offered outputs hold too little of ADA") × (lacking_words (pos 7) ada ≡ codes "the offered outputs lack 7 ADA")
