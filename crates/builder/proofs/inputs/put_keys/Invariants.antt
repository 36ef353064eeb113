use Rattle.std.proofs.Common.{◌≡◌, ◌++◌, drop, map}
use Rattle.builder_spec.specs.Laying.{by_key}
use Rattle.builder.proofs.inputs.put_keys.Given as goal

abbrev pub invariant-loop-unspent : goal.invariant-loop-unspent
invariant-loop-unspent l = l.spends ++ map by_key (drop l.unspent-index l.outputs) ≡ l.fn.spends ++ map by_key l.outputs
