-- What is kept of acknowledgements: of each node the greatest length.
use Rattle.std.specs.Prelude.{◌≡◌, ℕ, ◌≤◌, nat_le, max, Bool, false, List, Option, None, Some, replicate, slice_index_or, slice_set}
use Rattle.quorum_append.specs.Acknowledgements.{Ack, has_acked}

pub record Kept : Type 0 where
  pub nodes : ℕ
  -- by node
  pub lens : List (Option ℕ)

abbrev pub nothing_kept : ℕ → Kept
nothing_kept nodes = record { nodes = nodes; lens = replicate 8 None }

abbrev pub reaches : Option ℕ → ℕ → Bool
reaches None k = false
reaches (Some len) k = nat_le k len

-- nothing acknowledged counts as the length 0
abbrev pub or_zero : Option ℕ → ℕ
or_zero None = 0
or_zero (Some len) = len

-- the greatest length that the node acknowledged, or 0
abbrev pub length_kept : Kept → ℕ → ℕ
length_kept kept node = or_zero (slice_index_or kept.lens node None)

-- no node acknowledged more than this
abbrev pub AreKeptWithin : ℕ → Kept → Type 0
AreKeptWithin bound kept = (node : ℕ) → length_kept kept node ≤ bound

-- whether the node acknowledged this length or more, by what is kept
abbrev pub has_kept : Kept → ℕ → ℕ → Bool
has_kept kept k node = reaches (slice_index_or kept.lens node None) k

abbrev pub greater : Option ℕ → ℕ → Option ℕ
greater None len = Some len
greater (Some before) len = Some (max before len)

abbrev pub kept_with : ℕ → ℕ → Kept → Kept
kept_with node len kept = record kept { lens = slice_set kept.lens node (greater (slice_index_or kept.lens node None) len) }

-- this is kept of these acknowledgements
abbrev pub AreKept : List Ack → Kept → Type 0
AreKept acks kept = (k node : ℕ) → 1 ≤ node → node ≤ kept.nodes → has_kept kept k node ≡ has_acked acks k node
