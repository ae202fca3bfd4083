-- Envelopes that are kept, and the cursor.
use Rattle.std.specs.Prelude.{ℕ, ◌+◌, ◌-◌, ◌^◌, nat_lt, ◌&&◌, if◌then◌else◌, zero, suc, List, length, slice_get, Option, None}
use Rattle.net_model.specs.declared.mail.Envelope.{Envelope}

pub record Post : Type 0 where
  -- the first has the number 1
  pub sent : List Envelope
  -- the number of the one to be delivered next
  pub cursor : ℕ

-- the envelope of a number
abbrev pub envelope_at : Post → ℕ → Option Envelope
envelope_at p zero = None
envelope_at p (suc before) = slice_get p.sent before

-- past the envelope at the cursor, where there is one that is not the last there can be
abbrev pub moved_on : Post → Post
moved_on p = if nat_lt p.cursor (2 ^ 32 - 1) && nat_lt p.cursor (length p.sent + 1) then record p { cursor = p.cursor + 1 } else p
