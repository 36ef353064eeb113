use Rattle.marlowe_play.proofs.playing.play_scenario.Given as goal

-- the session is what the opening made
abbrev pub ghosts-play_on : goal.ghosts-play_on
ghosts-play_on g a = record { session = a.opening }
