use Rattle.explain_tables.proofs.strides.«+far_part».Given as goal

abbrev pub decreases-far_part : goal.decreases-far_part
decreases-far_part l = l.room
