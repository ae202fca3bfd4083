-- What the bytes of a request are read as.
use Rattle.std.specs.Prelude.{◌≡◌, Bool, true, false, List, [], ◌∷◌, ℕ, Option, None, Some, ⊤}
use Rattle.proto_model.specs.Validity.{IsValidToNode, IsValidToServer}
use Rattle.wire_codec.specs.declared.message.Message.{Message}
use Rattle.wire_codec.specs.declared.message.Message.TheVariants as of
use Rattle.wire_codec.specs.declared.message.Control.TheVariants.{Bye}
use Rattle.wire_codec.specs.Spelling.{SpellsMessage, IsValidToRegister}
use Rattle.node_loops.specs.declared.requests.Asked.{Asked}
use Rattle.node_loops.specs.declared.requests.Asked.TheVariants as asks
use Rattle.node_loops.specs.declared.end.End.{End}
use Rattle.node_loops.specs.declared.end.End.TheVariants as ends

-- the one message that all of the bytes spell, or none where they spell no message
abbrev pub Reads : List ℕ → Option Message → Type 0
Reads bytes None = (m : Message) → SpellsMessage bytes m → ⊥
Reads bytes (Some m) = SpellsMessage bytes m

-- a message of a family that is served, `Bye`, or anything else
abbrev pub asked_of : Option Message → Asked
asked_of (Some (of.ToNode m)) = asks.Node m
asked_of (Some (of.ToServer m)) = asks.Server m
asked_of (Some (of.ToRegister m)) = asks.Register m
asked_of (Some (of.Control Bye)) = asks.Bye
asked_of _ = asks.Other

-- the bytes ask for this
pub record Asks (bytes : List ℕ) (asked : Asked) : Type 0 where
  pub message : Option Message
  pub read : Reads bytes message
  pub is : asked ≡ asked_of message

abbrev pub IsValidAsked : Asked → Type 0
IsValidAsked (asks.Node m) = IsValidToNode m
IsValidAsked (asks.Server m) = IsValidToServer m
IsValidAsked (asks.Register m) = IsValidToRegister m
IsValidAsked asks.Bye = ⊤
IsValidAsked asks.Other = ⊤

abbrev pub is_bye : Asked → Bool
is_bye asks.Bye = true
is_bye _ = false

-- the first request to come is taken, and asks for this
pub record Takes (old new : List (List ℕ)) (asked : Asked) : Type 0 where
  pub request : List ℕ
  pub took : old ≡ request ∷ new
  pub asks : Asks request asked

-- why no request is answered: none comes, the port failed, or there was no memory to read it
abbrev pub IsUntaken : List (List ℕ) → List (List ℕ) → End → Type 0
IsUntaken old new ends.Port = (old ≡ []) × (new ≡ old)
IsUntaken old new ends.Peer = new ≡ old
IsUntaken old new ends.Memory = (request : List ℕ) × (old ≡ request ∷ new)
IsUntaken old new _ = ⊥
