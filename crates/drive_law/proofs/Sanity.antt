-- A peer that is honest, and two users that each won a session of it: the laws speak of something. So do the definitions of
-- a drive in which memory ran out.
use Rattle.std.proofs.Common.{ℕ, ◌+◌, ◌<◌, ◌^◌, false, List, [], ◌∷◌, ◌++◌, Ok, refl, inr, arith}
use Rattle.io_core.specs.Links.{Exchange}
use Rattle.io_core.specs.Links as links
use Rattle.proto_model.specs.declared.message.ToNode.TheVariants.{Open}
use Rattle.proto_model.specs.Servers.{Config, drawn}
use Rattle.wire_codec.specs.declared.message.Message.TheVariants as of
use Rattle.wire_codec.specs.declared.message.ToRegister.TheVariants as to
use Rattle.wire_codec.specs.declared.message.FromRegister.TheVariants as from
use Rattle.wire_codec.specs.Spelling.{SpellsMessage, message_frame}
use Rattle.session_register.specs.declared.register.Cas.TheVariants as cas
use Rattle.server_loop.specs.declared.exchanges.Reply.TheVariants as replies
use Rattle.server_loop.specs.Registers.{IsCasAt, answered}
use Rattle.server_loop.specs.Drives.{driving, IsCutDrive, at_start, none}
use Rattle.server_loop.specs.Serving.{all_in}
use Rattle.drive_law.specs.Honest.{Taken, IsHonest, IsExchangeOf, EndsAt, IsWonByUser, called}

-- two draws between which another one lost
abbrev taken : List Taken
taken =
    record { request = to.Read; reply = from.Value 0 }
    ∷ record { request = to.Cas 0; reply = from.Won 1 }
    ∷ record { request = to.Cas 0; reply = from.Lost 1 }
    ∷ record { request = to.Cas 1; reply = from.Won 2 }
    ∷ []

is_honest : IsHonest 0 taken
is_honest = (refl, (refl, (refl, (refl, tt))))

-- what a user sent and heard where it won the session after this number
abbrev exchange : ℕ → ℕ → Exchange
exchange port number = record {
  port = port;
  sent = message_frame (of.ToRegister (to.Cas number));
  heard = links.Reply (message_frame (of.FromRegister (from.Won (number + 1))));
}

abbrev won : ℕ → Taken
won number = record { request = to.Cas number; reply = from.Won (number + 1) }

spells_won : (number : ℕ) → number + 1 < 2 ^ 48 → SpellsMessage (message_frame (of.FromRegister (from.Won (number + 1)))) (of.FromRegister (from.Won (number + 1)))
spells_won number less = record { valid = less; spelled = refl }

is_exchange : (port number : ℕ) → number + 1 < 2 ^ 48 → IsExchangeOf (won number) (exchange port number)
is_exchange port number less = record {
  asked = record { valid = omega (arith, less); spelled = refl };
  bytes = message_frame (of.FromRegister (from.Won (number + 1)));
  heard = refl;
  replied = spells_won number less;
}

won_first : (port : ℕ) → IsCasAt port 0 [] (exchange port 0 ∷ []) (Ok (cas.Won 1))
won_first port = answered (exchange port 0 ∷ []) (Ok (cas.Won 1)) (record {
  reply = replies.Message (of.FromRegister (from.Won 1));
  exchanged = record { heard = links.Reply (message_frame (of.FromRegister (from.Won 1))); read = spells_won 0 (omega arith); past = refl };
  made = refl;
})

won_second : (port : ℕ) → IsCasAt port 1 [] (exchange port 1 ∷ []) (Ok (cas.Won 2))
won_second port = answered (exchange port 1 ∷ []) (Ok (cas.Won 2)) (record {
  reply = replies.Message (of.FromRegister (from.Won 2));
  exchanged = record { heard = links.Reply (message_frame (of.FromRegister (from.Won 2))); read = spells_won 1 (omega arith); past = refl };
  made = refl;
})

first_user : (port : ℕ) → IsWonByUser taken 1 1
first_user port =
    let ends : EndsAt taken 1 (exchange port 0 ∷ []) = record { past = []; last = exchange port 0; ends = refl; was = won 0; at = refl; exchanged = is_exchange port 0 (omega arith) } in
    called port 0 [] (exchange port 0 ∷ []) (won_first port) ends

second_user : (port : ℕ) → IsWonByUser taken 3 2
second_user port =
    let ends : EndsAt taken 3 (exchange port 1 ∷ []) = record { past = []; last = exchange port 1; ends = refl; was = won 1; at = refl; exchanged = is_exchange port 1 (omega arith) } in
    called port 1 [] (exchange port 1 ∷ []) (won_second port) ends

-- ---- a recovery's drive in which memory ran out: its first message was sent, and the reply is lost

abbrev one_node : Config
one_node = record { nodes = 1; rows = 1; slots = 1 }

abbrev opening : ℕ → ℕ → Exchange
opening port session = record { port = port; sent = message_frame (of.ToNode (Open session)); heard = links.Nothing }

cut_drive : (port session : ℕ) (past : List Exchange) → IsCutDrive one_node (port ∷ []) (driving (drawn session) all_in past) (past ++ opening port session ∷ [])
cut_drive port session past = record {
  before = driving (drawn session) all_in past;
  rounds = none;
  cut = record {
    visits = 0;
    sent = false;
    at = driving (drawn session) all_in past;
    round = at_start;
    more = omega arith;
    works = refl;
    cut = inr (record { message = Open session; wanted = refl; is_in = refl; sent = (links.Nothing, refl) });
  };
}
