-- What a server is asked.
use Rattle.std.specs.Prelude.{◌≡◌, false, List, ℕ, Option, Some}
use Rattle.wire_codec.specs.declared.message.Message.{Message}
use Rattle.wire_codec.specs.declared.message.Message.TheVariants as of
use Rattle.wire_codec.specs.declared.message.Control.TheVariants as control
use Rattle.proto_model.specs.Servers.{Config}
use Rattle.server_loop.specs.Requests.{is_bye}
use Rattle.server_loop.specs.declared.requests.Asked.{Asked}
use Rattle.server_loop.specs.declared.requests.Asked.TheVariants as asks
use Rattle.server_loop.specs.Serving.{Standing, IsReplied}

-- nothing that a server answers but by `No`
pub record IsOther (asked : Option Message) : Type 0 where
  pub no_bye : is_bye asked ≡ false
  pub replied : (c : Config) (ports : List ℕ) (a : Standing) → IsReplied c ports asked (of.Control control.No) a a

abbrev pub IsAskedSo : Option Message → Asked → Type 0
IsAskedSo asked (asks.Server m) = asked ≡ Some (of.ToServer m)
IsAskedSo asked asks.Bye = asked ≡ Some (of.Control control.Bye)
IsAskedSo asked asks.Other = IsOther asked
