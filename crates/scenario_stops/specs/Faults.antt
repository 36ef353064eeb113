-- Why a part of a scenario isn't read, beside what is there.
use Rattle.std.specs.Prelude.{Option}
use Rattle.serde_json.specs.Data.{Data}
use Rattle.json_read_names.specs.Parts.{text, list}
use Rattle.json_read_names.specs.declared.fault.JsonFault.{JsonFault}
use Rattle.json_read_scenarios.specs.Names.{known, new_name}
use Rattle.json_read_scenarios.specs.ReadsPlan.{contract_name, thread_name, plan_name, count, workers, calls, truth, step_item, intent, plan}
use Rattle.json_read_scenarios.specs.ReadsScenario.{contract, funds, new_thread, scenario}
use Rattle.json_forms.specs.declared.sort.NamedSort.{NamedSort}
use Rattle.json_forms.specs.declared.sort.NamedSort.TheVariants as named
use Rattle.json_forms.specs.declared.sort.ScenarioSort.{ScenarioSort}
use Rattle.json_forms.specs.declared.sort.ScenarioSort.TheVariants as parts
use Rattle.json_forms.specs.declared.sort.Sort.{Sort}
use Rattle.json_forms.specs.declared.sort.Sort.TheVariants as sorts
use Rattle.json_stops.specs.Stops.{fault_of, fault_as}
use Rattle.scenario_stops.specs.There.{There, in_turn}

-- a name that none has
abbrev pub new_fault : NamedSort → There → Data → Option JsonFault
new_fault named.Contract t d = fault_of (new_name contract_name t.contracts d)
new_fault named.Thread t d = fault_of (new_name thread_name t.threads d)
new_fault named.Plan t d = fault_of (new_name plan_name t.plans d)

-- a name that one has
abbrev pub name_fault : NamedSort → There → Data → Option JsonFault
name_fault named.Contract t d = fault_of (known contract_name t.contracts d)
name_fault named.Thread t d = fault_of (known thread_name t.threads d)
name_fault named.Plan t d = fault_of (known plan_name t.plans d)

abbrev pub own_fault : ScenarioSort → There → Data → Option JsonFault
own_fault parts.Scenario t d = fault_of (scenario d)
own_fault parts.Genesis t d = fault_of (list funds d)
own_fault parts.Funds t d = fault_of (funds d)
own_fault parts.Contracts t d = fault_of (in_turn named.Contract t d)
own_fault parts.NamedContract t d = fault_of (contract t.contracts d)
own_fault parts.Threads t d = fault_of (in_turn named.Thread t d)
own_fault parts.NamedThread t d = fault_of (new_thread t.contracts t.threads d)
own_fault parts.Plans t d = fault_of (in_turn named.Plan t d)
own_fault parts.Plan t d = fault_of (plan t.contracts t.threads t.plans d)
own_fault parts.PlanKeys t d = fault_of (list text d)
own_fault parts.Intents t d = fault_of (list (intent t.contracts t.threads) d)
own_fault parts.Intent t d = fault_of (intent t.contracts t.threads d)
own_fault parts.Steps t d = fault_of (list (step_item t.threads) d)
own_fault parts.OneStep t d = fault_of (step_item t.threads d)
own_fault (parts.NewName kind) t d = new_fault kind t d
own_fault (parts.NameOf kind) t d = name_fault kind t d
own_fault parts.Count t d = fault_of (count d)
own_fault parts.Workers t d = fault_of (workers d)
own_fault parts.Calls t d = fault_of (calls d)
own_fault parts.Truth t d = fault_of (truth d)

-- why a value isn't read as one of a sort; what a contract or a state has too is read without what is there
abbrev pub fault_in : Sort → There → Data → Option JsonFault
fault_in (sorts.OfScenario part) t d = own_fault part t d
fault_in other t d = fault_as other d
