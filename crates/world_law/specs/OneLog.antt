-- The one log: what a quorum of nodes has voted for, of the book of one session.
use Rattle.std.specs.Prelude.{◌≡◌, ℕ, zero, suc, ◌≤◌, ◌⊎◌, Bool, false, ◌&&◌, ◌||◌, nat_lt, nat_le, ◌==◌, if◌then◌else◌, List, [], ◌∷◌, length, take}
use Rattle.tx_model.specs.declared.record.Record.{Record}
use Rattle.proto_model.specs.Quorums.{count, quorum, reached}
use Rattle.world_law.specs.Worlds.{WorldState, Vote}

-- the vote is of this node, in this session, of this length or more
abbrev pub is_vote : ℕ → ℕ → ℕ → Vote → Bool
is_vote session k node vote = vote.node == node && (vote.session == session && nat_le k vote.length)

-- whether a node has such a vote
abbrev pub voted : List Vote → ℕ → ℕ → ℕ → Bool
voted [] session k node = false
voted (vote ∷ votes) session k node = is_vote session k node vote || voted votes session k node

-- A session's first k records are committed: a quorum of nodes has voted for them.
pub record IsCommitted (w : WorldState) (session k : ℕ) : Type 0 where
  pub some : 1 ≤ session
  pub enough : quorum w.cluster.nodes ≤ count (voted w.votes session k) w.cluster.nodes

-- ---- what the one log is

-- No session has more committed records, and none before this one has as many.
pub record IsLongestCommit (w : WorldState) (session k : ℕ) : Type 0 where
  pub committed : IsCommitted w session k
  pub greatest : (other j : ℕ) → IsCommitted w other j → j ≤ k
  pub least : (other : ℕ) → IsCommitted w other k → session ≤ other

-- the first k records of a session's book, where they are the longest commit
pub record IsLongestLog (w : WorldState) (log : List Record) : Type 0 where
  pub session : ℕ
  pub k : ℕ
  pub longest : IsLongestCommit w session k
  pub log_is : log ≡ take k (w.books session).log

-- nothing, where no record is committed
pub record IsNoLog (w : WorldState) (log : List Record) : Type 0 where
  pub none : (session k : ℕ) → IsCommitted w session k → k ≡ 0
  pub log_is : log ≡ []

abbrev pub IsOneLog : WorldState → List Record → Type 0
IsOneLog w log = IsLongestLog w log ⊎ IsNoLog w log

-- ---- the one log found, by a search among the sessions that were won

-- how many of a session's records are committed
abbrev pub committed_length : WorldState → ℕ → ℕ
committed_length w session = reached w.cluster.nodes (voted w.votes session) (length (w.books session).log)

-- the session of most committed records up to this one, and of several the first
abbrev pub longest : WorldState → ℕ → ℕ
longest w zero = 0
longest w (suc session) =
    if nat_lt (committed_length w (longest w session)) (committed_length w (suc session)) then suc session else longest w session

-- the committed records of the session that has most of them
abbrev pub committed_of : WorldState → ℕ → List Record
committed_of w session = take (committed_length w session) (w.books session).log

abbrev pub one_log : WorldState → List Record
one_log w = committed_of w (longest w w.number)
