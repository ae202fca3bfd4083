-- What a user of the log can rely on.
use Rattle.std.specs.Prelude.{◌≡◌, ℕ, ◌≤◌, List, length, take, slice_get, Some}
use Rattle.std.specs.List.{AllByRecursion}
use Rattle.tx_model.specs.declared.record.Record.{Record}
use Rattle.tx_model.specs.Records.{IsLog}
use Rattle.tx_model.specs.Logs.{IsClean}
use Rattle.tx_model.specs.Applications.{serial}
use Rattle.client_core.specs.Clients.{ClientState}
use Rattle.world_law.specs.Worlds.{WorldState}
use Rattle.world_law.specs.OneLog.{IsCommitted, IsOneLog, one_log}

-- a log is the first records of another one
pub record IsPrefix (front log : List Record) : Type 0 where
  pub fits : length front ≤ length log
  pub same : take (length front) log ≡ front

-- a session's first k records stand in its book, and are a prefix of the one log
pub record IsOnOneLog (w : WorldState) (session k : ℕ) : Type 0 where
  pub fits : k ≤ length (w.books session).log
  pub begins : IsPrefix (take k (w.books session).log) (one_log w)

-- the application is that of the first transactions of the log, as many as the mark says
pub record IsApplied (log : List Record) (cl : ClientState) : Type 0 where
  pub fits : cl.mark ≤ length log
  pub serial : cl.app ≡ serial log cl.mark

pub record IsSafe (w : WorldState) : Type 0 where
  -- the one log is the longest commit of any session
  pub found : IsOneLog w (one_log w)
  -- it is a log: its k-th record has the id k
  pub numbered : IsLog (one_log w)
  -- all committed logs are prefixes of it
  pub committed : (session k : ℕ) → IsCommitted w session k → IsOnOneLog w session k
  -- no record strictly between a transaction's mark and its place holds a lock that it named
  pub clean : IsClean (one_log w)
  -- every application at mark m is the serial application of its first m transactions
  pub applied : (client : ℕ) → IsApplied (one_log w) (w.clients client)

-- the one log only grows
abbrev pub OneLogGrows : List WorldState → Type 0
OneLogGrows worlds =
    (i j : ℕ) (v w : WorldState) → i ≤ j → slice_get worlds i ≡ Some v → slice_get worlds j ≡ Some w → IsPrefix (one_log v) (one_log w)

pub record IsSafeRun (worlds : List WorldState) : Type 0 where
  pub each : AllByRecursion IsSafe worlds
  pub grows : OneLogGrows worlds
