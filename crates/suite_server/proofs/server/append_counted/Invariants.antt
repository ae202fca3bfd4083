use Rattle.suite_server.proofs.server.append_counted.Given as goal

-- the ledger of the blank
abbrev pub ghosts-append_with : goal.ghosts-append_with
ghosts-append_with a = record { name = a.blank.name; parts = a.blank.parts }
