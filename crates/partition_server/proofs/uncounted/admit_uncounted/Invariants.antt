use Rattle.partition_server.proofs.uncounted.admit_uncounted.Given as goal

-- the count's own ledger
abbrev pub ghosts-admit_with : goal.ghosts-admit_with
ghosts-admit_with a = record { name = a.blank.name; parts = a.blank.parts }
