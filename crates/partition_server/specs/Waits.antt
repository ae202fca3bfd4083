-- The requests that wait for their records to be committed.
use Rattle.std.specs.Prelude.{◌≡◌, ℕ, ◌+◌, ◌≤◌, List, [], ◌∷◌, length, ⊤}
use Rattle.proto_model.specs.Validity.{IsWord}
use Rattle.proto_model.specs.Servers.{Waiting}

-- a request for a record of the log, with so many requests behind it
pub record WaitsBefore (behind last : ℕ) (w : Waiting) : Type 0 where
  pub place : w.id + behind ≡ last
  pub some : 1 ≤ w.id
  pub request : IsWord w.request

-- from some record on each one of the log has its request, up to the last
abbrev pub WaitUpTo : ℕ → List Waiting → Type 0
WaitUpTo last [] = ⊤
WaitUpTo last (w ∷ waiting) = WaitsBefore (length waiting) last w × WaitUpTo last waiting
