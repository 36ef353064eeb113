use Rattle.rows_chain.proofs.seats.admit.Given as goal

-- the session is what the opening made
abbrev pub ghosts-admit_by_one : goal.ghosts-admit_by_one
ghosts-admit_by_one g a = record { session = a.opening }
