use Rattle.rows_chain.proofs.play_hub.Given as goal

-- the session is what the opening made
abbrev pub ghosts-play_at : goal.ghosts-play_at
ghosts-play_at g a = record { session = a.opening }
