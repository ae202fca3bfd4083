use Rattle.suite_server.proofs.locks.asked.Given as goal

-- the ledger of the blank
abbrev pub ghosts-asked_with : goal.ghosts-asked_with
ghosts-asked_with a = record { name = a.blank.name; parts = a.blank.parts }
