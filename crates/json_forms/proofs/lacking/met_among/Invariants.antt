use Rattle.std.proofs.Common.{◌≡◌, ◌≤◌, map, take, count_by}
use Rattle.json_forms.specs.Lacking.{is_met}
use Rattle.json_forms.proofs.lacking.met_among.Given as goal

-- how many of the keys so far are met
abbrev pub invariant-loop-field : goal.invariant-loop-field
invariant-loop-field l = record {
  counted : l.count ≡ count_by (is_met (map (λ key. key.now) l.keys) l.form) (take l.field-index l.fields);
  few : l.count ≤ l.field-index;
}
