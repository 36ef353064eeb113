-- The forms of each sort that are objects, and their keys, in the order in which they are sought and read.
use Rattle.std.specs.Prelude.{ℕ, List, [], ◌∷◌, map, Option, Some, None, codes}
use Rattle.json_forms.specs.declared.key.Key.{Key}
use Rattle.json_forms.specs.declared.key.Key.TheVariants as keys
use Rattle.json_forms.specs.declared.sort.Sort.{Sort}
use Rattle.json_forms.specs.declared.sort.Sort.TheVariants as sorts
use Rattle.json_forms.specs.declared.sort.Numbers.TheVariants as numbers
use Rattle.json_forms.specs.declared.sort.ScenarioSort.{ScenarioSort}
use Rattle.json_forms.specs.declared.sort.ScenarioSort.TheVariants as parts
use Rattle.json_forms.specs.declared.sort.NamedSort.TheVariants as named
use Rattle.json_forms.specs.declared.form.Form.{Form}
use Rattle.json_forms.specs.declared.form.Form.TheVariants as forms

abbrev pub key_word : Key → List ℕ
key_word keys.Pay = codes "pay"
key_word keys.Token = codes "token"
key_word keys.FromAccount = codes "from_account"
key_word keys.To = codes "to"
key_word keys.Then = codes "then"
key_word keys.If = codes "if"
key_word keys.Else = codes "else"
key_word keys.When = codes "when"
key_word keys.Timeout = codes "timeout"
key_word keys.TimeoutContinuation = codes "timeout_continuation"
key_word keys.Let = codes "let"
key_word keys.Be = codes "be"
key_word keys.Assert = codes "assert"
key_word keys.Case = codes "case"
key_word keys.Party = codes "party"
key_word keys.Deposits = codes "deposits"
key_word keys.OfToken = codes "of_token"
key_word keys.IntoAccount = codes "into_account"
key_word keys.ForChoice = codes "for_choice"
key_word keys.ChooseBetween = codes "choose_between"
key_word keys.NotifyIf = codes "notify_if"
key_word keys.AmountOfToken = codes "amount_of_token"
key_word keys.InAccount = codes "in_account"
key_word keys.Negate = codes "negate"
key_word keys.Add = codes "add"
key_word keys.And = codes "and"
key_word keys.Value = codes "value"
key_word keys.Minus = codes "minus"
key_word keys.Multiply = codes "multiply"
key_word keys.Times = codes "times"
key_word keys.Divide = codes "divide"
key_word keys.By = codes "by"
key_word keys.ValueOfChoice = codes "value_of_choice"
key_word keys.UseValue = codes "use_value"
key_word keys.Both = codes "both"
key_word keys.Either = codes "either"
key_word keys.Or = codes "or"
key_word keys.Not = codes "not"
key_word keys.ChoseSomethingFor = codes "chose_something_for"
key_word keys.GeThan = codes "ge_than"
key_word keys.Gt = codes "gt"
key_word keys.Lt = codes "lt"
key_word keys.LeThan = codes "le_than"
key_word keys.EqualTo = codes "equal_to"
key_word keys.From = codes "from"
key_word keys.ChoiceName = codes "choice_name"
key_word keys.ChoiceOwner = codes "choice_owner"
key_word keys.CurrencySymbol = codes "currency_symbol"
key_word keys.TokenName = codes "token_name"
key_word keys.Address = codes "address"
key_word keys.RoleToken = codes "role_token"
key_word keys.Account = codes "account"
key_word keys.TxInterval = codes "tx_interval"
key_word keys.TxInputs = codes "tx_inputs"
key_word keys.InputFromParty = codes "input_from_party"
key_word keys.ThatDeposits = codes "that_deposits"
key_word keys.ForChoiceId = codes "for_choice_id"
key_word keys.InputThatChoosesNum = codes "input_that_chooses_num"
key_word keys.Accounts = codes "accounts"
key_word keys.Choices = codes "choices"
key_word keys.BoundValues = codes "boundValues"
key_word keys.MinTime = codes "minTime"
key_word keys.Tick = codes "tick"
key_word keys.Genesis = codes "genesis"
key_word keys.Amount = codes "amount"
key_word keys.Contracts = codes "contracts"
key_word keys.Name = codes "name"
key_word keys.Currency = codes "currency"
key_word keys.Contract = codes "contract"
key_word keys.Threads = codes "threads"
key_word keys.Plans = codes "plans"
key_word keys.Keys = codes "keys"
key_word keys.Change = codes "change"
key_word keys.Intents = codes "intents"
key_word keys.StopAfter = codes "stop_after"
key_word keys.Step = codes "step"
key_word keys.Inputs = codes "inputs"
key_word keys.Pool = codes "pool"
key_word keys.Steps = codes "steps"
key_word keys.Claim = codes "claim"
key_word keys.Role = codes "role"
key_word keys.Round = codes "round"
key_word keys.Workers = codes "workers"
key_word keys.Advance = codes "advance"

-- a key, and what its value is read as
abbrev pub Field : Type 0
Field = Key × Sort

-- of a part that only a scenario has
abbrev pub scenario_forms : ScenarioSort → List Form
scenario_forms parts.Scenario = forms.Scenario ∷ []
scenario_forms parts.Funds = forms.Funds ∷ []
scenario_forms parts.NamedContract = forms.NamedContract ∷ []
scenario_forms parts.NamedThread = forms.NamedThread ∷ []
scenario_forms parts.Plan = forms.Plan ∷ []
scenario_forms parts.Intent = forms.Step ∷ forms.Steps ∷ forms.Claim ∷ forms.Round ∷ forms.Advance ∷ []
scenario_forms parts.OneStep = forms.OneStep ∷ []
scenario_forms other = []

abbrev pub forms_of : Sort → List Form
forms_of sorts.Contract = forms.Pay ∷ forms.If ∷ forms.When ∷ forms.Let ∷ forms.Assert ∷ []
forms_of sorts.Case = forms.Case ∷ []
forms_of sorts.Action = forms.Deposit ∷ forms.Choice ∷ forms.Notify ∷ []
forms_of sorts.Value = forms.AvailableMoney ∷ forms.NegValue ∷ forms.AddValue ∷ forms.SubValue ∷ forms.MulValue ∷ forms.DivValue ∷ forms.ChoiceValue ∷ forms.UseValue ∷ forms.Cond ∷ []
forms_of sorts.Observation = forms.AndObs ∷ forms.OrObs ∷ forms.NotObs ∷ forms.ChoseSomething ∷ forms.ValueGE ∷ forms.ValueGT ∷ forms.ValueLT ∷ forms.ValueLE ∷ forms.ValueEQ ∷ []
forms_of sorts.Bound = forms.Bound ∷ []
forms_of sorts.ChoiceId = forms.ChoiceId ∷ []
forms_of sorts.Token = forms.Token ∷ []
forms_of sorts.Party = forms.Address ∷ forms.Role ∷ []
forms_of sorts.Payee = forms.ToAccount ∷ forms.ToParty ∷ []
forms_of sorts.Transaction = forms.Transaction ∷ []
forms_of sorts.Interval = forms.Interval ∷ []
forms_of sorts.Input = forms.DepositInput ∷ forms.ChoiceInput ∷ []
forms_of (sorts.State numbers) = forms.State numbers ∷ []
forms_of (sorts.OfScenario part) = scenario_forms part
forms_of other = []

abbrev pub fields_of : Form → List Field
fields_of forms.Pay = (keys.Pay, sorts.Value) ∷ (keys.Token, sorts.Token) ∷ (keys.FromAccount, sorts.Party) ∷ (keys.To, sorts.Payee) ∷ (keys.Then, sorts.Contract) ∷ []
fields_of forms.If = (keys.If, sorts.Observation) ∷ (keys.Then, sorts.Contract) ∷ (keys.Else, sorts.Contract) ∷ []
fields_of forms.When = (keys.When, sorts.Cases) ∷ (keys.Timeout, sorts.Time) ∷ (keys.TimeoutContinuation, sorts.Contract) ∷ []
fields_of forms.Let = (keys.Let, sorts.Text) ∷ (keys.Be, sorts.Value) ∷ (keys.Then, sorts.Contract) ∷ []
fields_of forms.Assert = (keys.Assert, sorts.Observation) ∷ (keys.Then, sorts.Contract) ∷ []
fields_of forms.Case = (keys.Case, sorts.Action) ∷ (keys.Then, sorts.Contract) ∷ []
fields_of forms.Deposit = (keys.Party, sorts.Party) ∷ (keys.Deposits, sorts.Value) ∷ (keys.OfToken, sorts.Token) ∷ (keys.IntoAccount, sorts.Party) ∷ []
fields_of forms.Choice = (keys.ForChoice, sorts.ChoiceId) ∷ (keys.ChooseBetween, sorts.Bounds) ∷ []
fields_of forms.Notify = (keys.NotifyIf, sorts.Observation) ∷ []
fields_of forms.AvailableMoney = (keys.AmountOfToken, sorts.Token) ∷ (keys.InAccount, sorts.Party) ∷ []
fields_of forms.NegValue = (keys.Negate, sorts.Value) ∷ []
fields_of forms.AddValue = (keys.Add, sorts.Value) ∷ (keys.And, sorts.Value) ∷ []
fields_of forms.SubValue = (keys.Value, sorts.Value) ∷ (keys.Minus, sorts.Value) ∷ []
fields_of forms.MulValue = (keys.Multiply, sorts.Value) ∷ (keys.Times, sorts.Value) ∷ []
fields_of forms.DivValue = (keys.Divide, sorts.Value) ∷ (keys.By, sorts.Value) ∷ []
fields_of forms.ChoiceValue = (keys.ValueOfChoice, sorts.ChoiceId) ∷ []
fields_of forms.UseValue = (keys.UseValue, sorts.Text) ∷ []
fields_of forms.Cond = (keys.If, sorts.Observation) ∷ (keys.Then, sorts.Value) ∷ (keys.Else, sorts.Value) ∷ []
fields_of forms.AndObs = (keys.Both, sorts.Observation) ∷ (keys.And, sorts.Observation) ∷ []
fields_of forms.OrObs = (keys.Either, sorts.Observation) ∷ (keys.Or, sorts.Observation) ∷ []
fields_of forms.NotObs = (keys.Not, sorts.Observation) ∷ []
fields_of forms.ChoseSomething = (keys.ChoseSomethingFor, sorts.ChoiceId) ∷ []
fields_of forms.ValueGE = (keys.Value, sorts.Value) ∷ (keys.GeThan, sorts.Value) ∷ []
fields_of forms.ValueGT = (keys.Value, sorts.Value) ∷ (keys.Gt, sorts.Value) ∷ []
fields_of forms.ValueLT = (keys.Value, sorts.Value) ∷ (keys.Lt, sorts.Value) ∷ []
fields_of forms.ValueLE = (keys.Value, sorts.Value) ∷ (keys.LeThan, sorts.Value) ∷ []
fields_of forms.ValueEQ = (keys.Value, sorts.Value) ∷ (keys.EqualTo, sorts.Value) ∷ []
fields_of forms.Bound = (keys.From, sorts.Whole) ∷ (keys.To, sorts.Whole) ∷ []
fields_of forms.ChoiceId = (keys.ChoiceName, sorts.Text) ∷ (keys.ChoiceOwner, sorts.Party) ∷ []
fields_of forms.Token = (keys.CurrencySymbol, sorts.Hex) ∷ (keys.TokenName, sorts.Text) ∷ []
fields_of forms.Address = (keys.Address, sorts.Text) ∷ []
fields_of forms.Role = (keys.RoleToken, sorts.Text) ∷ []
fields_of forms.ToAccount = (keys.Account, sorts.Party) ∷ []
fields_of forms.ToParty = (keys.Party, sorts.Party) ∷ []
fields_of forms.Transaction = (keys.TxInterval, sorts.Interval) ∷ (keys.TxInputs, sorts.Inputs) ∷ []
fields_of forms.Interval = (keys.From, sorts.Time) ∷ (keys.To, sorts.Time) ∷ []
fields_of forms.DepositInput = (keys.InputFromParty, sorts.Party) ∷ (keys.ThatDeposits, sorts.Whole) ∷ (keys.OfToken, sorts.Token) ∷ (keys.IntoAccount, sorts.Party) ∷ []
fields_of forms.ChoiceInput = (keys.ForChoiceId, sorts.ChoiceId) ∷ (keys.InputThatChoosesNum, sorts.Whole) ∷ []
fields_of (forms.State numbers) = (keys.Accounts, sorts.Accounts numbers) ∷ (keys.Choices, sorts.Choices numbers) ∷ (keys.BoundValues, sorts.BoundValues numbers) ∷ (keys.MinTime, sorts.Time) ∷ []
fields_of forms.Scenario = (keys.Tick, sorts.Time) ∷ (keys.Genesis, sorts.OfScenario parts.Genesis) ∷ (keys.Contracts, sorts.OfScenario parts.Contracts) ∷ (keys.Threads, sorts.OfScenario parts.Threads) ∷ (keys.Plans, sorts.OfScenario parts.Plans) ∷ []
fields_of forms.Funds = (keys.Address, sorts.Text) ∷ (keys.Amount, sorts.Amounts) ∷ []
fields_of forms.NamedContract = (keys.Name, sorts.OfScenario (parts.NewName named.Contract)) ∷ (keys.Currency, sorts.Hex) ∷ (keys.Contract, sorts.Contract) ∷ []
fields_of forms.NamedThread = (keys.Name, sorts.OfScenario (parts.NewName named.Thread)) ∷ (keys.Contract, sorts.OfScenario (parts.NameOf named.Contract)) ∷ (keys.By, sorts.Text) ∷ (keys.Accounts, sorts.Accounts numbers.Whole) ∷ (keys.MinTime, sorts.Time) ∷ []
fields_of forms.Plan = (keys.Name, sorts.OfScenario (parts.NewName named.Plan)) ∷ (keys.Keys, sorts.OfScenario parts.PlanKeys) ∷ (keys.Change, sorts.Text) ∷ (keys.Intents, sorts.OfScenario parts.Intents) ∷ []
fields_of forms.Step = (keys.Step, sorts.OfScenario (parts.NameOf named.Thread)) ∷ (keys.Inputs, sorts.Inputs) ∷ (keys.From, sorts.Time) ∷ (keys.To, sorts.Time) ∷ []
fields_of forms.Steps = (keys.Steps, sorts.OfScenario parts.Steps) ∷ (keys.From, sorts.Time) ∷ (keys.To, sorts.Time) ∷ []
fields_of forms.Claim = (keys.Claim, sorts.OfScenario (parts.NameOf named.Contract)) ∷ (keys.Role, sorts.Text) ∷ (keys.From, sorts.Time) ∷ (keys.To, sorts.Time) ∷ []
fields_of forms.Round = (keys.Round, sorts.OfScenario parts.Count) ∷ (keys.Workers, sorts.OfScenario parts.Workers) ∷ []
fields_of forms.Advance = (keys.Advance, sorts.Time) ∷ []
fields_of forms.OneStep = (keys.Step, sorts.OfScenario (parts.NameOf named.Thread)) ∷ (keys.Inputs, sorts.Inputs) ∷ []

-- the key of a form that may lack: it is read last
abbrev pub more_of : Form → Option Field
more_of forms.Plan = Some (keys.StopAfter, sorts.OfScenario parts.Calls)
more_of forms.Step = Some (keys.Pool, sorts.OfScenario parts.Truth)
more_of forms.Steps = Some (keys.Pool, sorts.OfScenario parts.Truth)
more_of other = None

-- the words of a form's keys
abbrev pub words_of : Form → List (List ℕ)
words_of form = map (λ field. key_word field.0) (fields_of form)
