use Rattle.dp_commands.proofs.threads.share.Given as goal

abbrev pub ghosts-history_of-S-Session : goal.ghosts-history_of-S-Session
ghosts-history_of-S-Session g a = record { opening = a.opened.machine }

abbrev pub ghosts-history_of-S-Ledger : goal.ghosts-history_of-S-Ledger
ghosts-history_of-S-Ledger g a = record { name = a.blank.name; parts = a.blank.parts }
