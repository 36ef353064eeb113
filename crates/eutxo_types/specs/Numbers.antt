-- The numbers of faults: where several stand, the lowest answers.
use Rattle.std.specs.Prelude.{ℕ}
use Rattle.eutxo_types.specs.declared.fault.TxFault.{TxFault}
use Rattle.eutxo_types.specs.declared.fault.TxFault.TheVariants.{NoInputs, TooMany, RepeatedInput, NotUnspent, IdInUse, OutsideInterval, UnknownScript, NotSigned, TooManyContracts, WrongRedeemer, RoleMissing, Semantics, NotAuthorised, WrongContinuation, WrongPayment, StrayContract, WrongStart, NotPreserved, WrongDatum}

abbrev pub number : TxFault → ℕ
number NoInputs = 1
number TooMany = 2
number (RepeatedInput i) = 3
number (NotUnspent i) = 4
number IdInUse = 5
number OutsideInterval = 6
number (UnknownScript i) = 7
number (NotSigned i) = 8
number TooManyContracts = 9
number (WrongRedeemer i) = 10
number (RoleMissing i) = 11
number (Semantics fault) = 12
number (NotAuthorised party) = 13
number WrongContinuation = 14
number (WrongPayment i) = 15
number (StrayContract i) = 16
number (WrongStart i) = 17
number (NotPreserved token) = 18
number (WrongDatum i) = 19
