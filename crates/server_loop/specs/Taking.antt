-- How the next request is taken.
use Rattle.std.specs.Prelude.{◌≡◌, ℕ, List, [], ◌∷◌, Option}
use Rattle.wire_codec.specs.declared.message.Message.{Message}
use Rattle.server_loop.specs.Requests.{Reads}
use Rattle.server_loop.specs.declared.end.End.{End}
use Rattle.server_loop.specs.declared.end.End.TheVariants as ends

-- the first request to come is taken, and read as this
pub record Takes (old new : List (List ℕ)) (asked : Option Message) : Type 0 where
  pub request : List ℕ
  pub took : old ≡ request ∷ new
  pub read : Reads request asked

-- why no request is answered
abbrev pub IsUntaken : List (List ℕ) → List (List ℕ) → End → Type 0
IsUntaken old new ends.Port = (old ≡ []) × (new ≡ old)
IsUntaken old new ends.Peer = new ≡ old
IsUntaken old new ends.Memory = (request : List ℕ) × (old ≡ request ∷ new)
IsUntaken old new _ = ⊥
