-- Clauses that hold of a result because they hold anyway.
use Rattle.std.proofs.Common.{Result, Ok, Err, OnErr}

-- after an error, what holds anyway
pub if_err : {A E P : Type 0} (r : Result A E) → P → OnErr r P
if_err (Ok x) h = tt
if_err (Err e) h = h
