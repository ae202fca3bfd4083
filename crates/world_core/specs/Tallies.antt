-- What is kept of the sessions that were won: each node's greatest vote in it, and the entries of its book.
use Rattle.std.specs.Prelude.{◌≡◌, ℕ, zero, suc, ◌-◌, Bool, false, ◌&&◌, nat_lt, nat_le, ◌==◌, if◌then◌else◌, List, [], ◌++◌, length, map, take, drop}
use Rattle.tx_model.specs.declared.record.Record.{Record}
use Rattle.proto_model.specs.Tables.{table}
use Rattle.proto_model.specs.Quorums.{is_within, reached}
use Rattle.quorum_append.specs.Kept.{Kept, AreKeptWithin, nothing_kept, has_kept}
use Rattle.net_model.specs.declared.shown.Entry.{Entry}
use Rattle.net_model.specs.declared.outcome.Outcome.{Outcome}
use Rattle.net_model.specs.declared.outcome.Outcome.TheVariants as outcome
use Rattle.world_law.specs.Outcomes.{entry_of}
use Rattle.world_core.specs.declared.tally.Row.{Row}

-- ---- rows as tables, from session 1 on

abbrev pub acks_of : ℕ → List Row → ℕ → Kept
acks_of nodes rows = table (nothing_kept nodes) (map (λ (r : Row). r.acks) rows)

abbrev pub entries_of : List Row → ℕ → List Entry
entries_of rows = table [] (map (λ (r : Row). r.entries.items) rows)

-- of so many nodes, and of no others
pub record IsRowOf (nodes : ℕ) (row : Row) : Type 0 where
  pub count : row.acks.nodes ≡ nodes
  pub places : length row.acks.lens ≡ 8
  pub others : (i : ℕ) → is_within nodes i ≡ false → has_kept row.acks 0 i ≡ false

-- no node voted for more than there are entries
abbrev pub IsBounded : Row → Type 0
IsBounded row = AreKeptWithin (length row.entries.items) row.acks

-- ---- what is noted

-- whether a node that adopted this session, with a log of this length, has voted for k records of a session
abbrev pub is_cast : ℕ → ℕ → ℕ → ℕ → ℕ → ℕ → Bool
is_cast adopted len node s k i = if adopted == 0 then false else (node == i && (adopted == s && nat_le k len))

-- entries with those of a log that they lack
abbrev pub continued : List Entry → List Record → List Entry
continued entries log = entries ++ map entry_of (drop (length entries) log)

-- ---- the one log

-- how many records of a session a quorum has voted for
abbrev pub row_length : ℕ → List Row → ℕ → ℕ
row_length nodes rows s = reached nodes (has_kept (acks_of nodes rows s)) (length (entries_of rows s))

-- the session of most such records up to this one, and of several the first
abbrev pub longest_row : ℕ → List Row → ℕ → ℕ
longest_row nodes rows zero = 0
longest_row nodes rows (suc s) =
    if nat_lt (row_length nodes rows (longest_row nodes rows s)) (row_length nodes rows (suc s)) then suc s else longest_row nodes rows s

-- among so many sessions this is the one, with so many records
pub record IsLongestRow (nodes : ℕ) (rows : List Row) (sessions session len : ℕ) : Type 0 where
  pub session_is : session ≡ longest_row nodes rows sessions
  pub len_is : len ≡ row_length nodes rows session

abbrev pub shown_entries : List Entry → ℕ → ℕ → List Entry
shown_entries entries len from = take 64 (drop (from - 1) (take len entries))

-- the log of a session, from an id on
abbrev pub row_outcome : ℕ → List Row → ℕ → ℕ → Outcome
row_outcome nodes rows s from = outcome.Log (row_length nodes rows s) (shown_entries (entries_of rows s) (row_length nodes rows s) from)

abbrev pub rows_outcome : ℕ → List Row → ℕ → Outcome
rows_outcome nodes rows from = row_outcome nodes rows (longest_row nodes rows (length rows)) from
