use Rattle.analysis_values.proofs.TimeLemmas.{time_added}
use Rattle.analysis_values.proofs.known.Known.new_time.Goals as goal

pub returns : goal.returns
returns c =
    rw (← c.self.view_is)
    (time_added c.self.inside.symbols c.unknown.new.self c.self.inside.view c.put_time.new.self c.in_ok-e.e c.count-name.result c.in_ok-e.ensures.any c.in_ok-e.ensures.name c.count-name.ensures
    c.in_ok-put_time.ensures)
