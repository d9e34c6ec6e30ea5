use Rattle.dp_board_cases.proofs.play.play_in_session.Given as goal

abbrev pub ghosts-play_on-S-Session : goal.ghosts-play_on-S-Session
ghosts-play_on-S-Session g a = record { opening = a.machine }

abbrev pub ghosts-play_on-S-Ledger : goal.ghosts-play_on-S-Ledger
ghosts-play_on-S-Ledger g a = record { name = a.blank.name; parts = a.blank.parts }
