-- One turn of a server, from its parts.
use Rattle.std.proofs.Common.{◌≡◌, ℕ, Bool, true, false, List, [], ◌∷◌, ◌++◌, sym, ap, ◌∙◌, Option, inr, refl}
use Rattle.std.specs.Prelude.{MatchOption}
use Rattle.io_core.specs.Ports.{Answered}
use Rattle.proto_model.specs.declared.message.Phase.{Phase}
use Rattle.proto_model.specs.declared.message.Phase.TheVariants.{Idle, Opening, Fetching, Repairing, Running, Closed}
use Rattle.proto_model.specs.Servers.{Config}
use Rattle.wire_codec.specs.declared.message.Message.{Message}
use Rattle.wire_codec.specs.Spelling.{message_frame}
use Rattle.server_loop.specs.Requests.{is_bye}
use Rattle.server_loop.specs.Drives.{is_closed}
use Rattle.server_loop.specs.declared.end.End.{End}
use Rattle.server_loop.specs.declared.end.End.TheVariants as ends
use Rattle.server_loop.specs.Turns.{Desk, desk, IsLeft}
use Rattle.server_loop.specs.Serving.{Standing, IsReplied, IsUnreplied, IsServerTurn, GoesOn, EndsBy, unsent, unreplied, ungiven, end_after}
use Rattle.server_loop.specs.Taking.{Takes, IsUntaken}

-- the calls of `answer` with one more, given or not
abbrev pub OneMore : List Answered → List Answered → Message → Type 0
OneMore old new m = (given : Bool) × (new ≡ old ++ record { bytes = message_frame m; given = given } ∷ [])

pub made_turn : (c : Config) (ports : List ℕ) (asked : Option Message) (reply : Message) (bye : Bool) (coming between coming' : List (List ℕ)) (answers before answers' : List Answered) (s s' : Standing) →
    Takes coming between asked → before ≡ answers → coming' ≡ between → OneMore before answers' reply → bye ≡ is_bye asked → IsReplied c ports asked reply s s' →
    IsServerTurn c ports bye (desk coming answers s) (desk coming' answers' s')
made_turn c ports asked reply bye coming between coming' answers before answers' s s' taken same same' sent e replied = record {
  request = taken.request;
  asked = asked;
  reply = reply;
  given = sent.0;
  took = rw same' taken.took;
  read = taken.read;
  kind = sym e;
  answered = sent.1 ∙ ap (λ l. l ++ record { bytes = message_frame reply; given = sent.0 } ∷ []) same;
  replied = replied;
}

-- the turn as it ends or goes on
ended : (c : Config) (ports : List ℕ) (a b : Desk Standing) (bye : Bool) (phase : Phase) → b.server.state.phase ≡ phase → IsServerTurn c ports bye a b →
    MatchOption (end_after bye phase) (GoesOn c ports a b) (λ end. EndsBy c ports a b end)
ended c ports a b true phase e turn = turn
ended c ports a b false (Closed p) e turn = (turn, e)
ended c ports a b false Idle e turn = record { turn = turn; works = ap is_closed e }
ended c ports a b false Opening e turn = record { turn = turn; works = ap is_closed e }
ended c ports a b false Fetching e turn = record { turn = turn; works = ap is_closed e }
ended c ports a b false Repairing e turn = record { turn = turn; works = ap is_closed e }
ended c ports a b false Running e turn = record { turn = turn; works = ap is_closed e }

pub ended_turn : (c : Config) (ports : List ℕ) (a b : Desk Standing) (bye : Bool) (phase : Phase) (o : Option End) → o ≡ end_after bye phase → phase ≡ b.server.state.phase → IsServerTurn c ports bye a b →
    MatchOption o (GoesOn c ports a b) (λ end. EndsBy c ports a b end)
ended_turn c ports a b bye phase o is same turn = rw is (ended c ports a b bye phase (sym same) turn)

-- no request is answered
pub untaken_turn : (c : Config) (ports : List ℕ) (coming coming' : List (List ℕ)) (answers answers' : List Answered) (s : Standing) (end : End) → IsUntaken coming coming' end → answers' ≡ answers →
    EndsBy c ports (desk coming answers s) (desk coming' answers' s) end
untaken_turn c ports coming coming' answers answers' s ends.Port h same = (h.0, λ i. record { coming = h.1 i; answers = same i; server = s })
untaken_turn c ports coming coming' answers answers' s ends.Peer h same = λ i. record { coming = h i; answers = same i; server = s }
untaken_turn c ports coming coming' answers answers' s ends.Memory h same = (record { took = inr h; answered = same }, unsent refl)
untaken_turn c ports coming coming' answers answers' s ends.Bye h same = absurd h
untaken_turn c ports coming coming' answers answers' s ends.Turns h same = absurd h
untaken_turn c ports coming coming' answers answers' s ends.Register h same = absurd h
untaken_turn c ports coming coming' answers answers' s ends.Garbled h same = absurd h
untaken_turn c ports coming coming' answers answers' s ends.Exhausted h same = absurd h
untaken_turn c ports coming coming' answers answers' s (ends.TakenOver p) h same = absurd h
untaken_turn c ports coming coming' answers answers' s (ends.NoQuorum out) h same = absurd h
untaken_turn c ports coming coming' answers answers' s ends.WriteFault h same = absurd h

-- a request is taken, and there is no memory for its answer
left_turn : (c : Config) (ports : List ℕ) (asked : Option Message) (coming between coming' : List (List ℕ)) (answers before answers' : List Answered) (s s' : Standing) →
    Takes coming between asked → before ≡ answers → coming' ≡ between → answers' ≡ before → IsLeft Standing (desk coming answers s) (desk coming' answers' s')
left_turn c ports asked coming between coming' answers before answers' s s' taken same same' kept =
    record { took = inr (taken.request, rw same' taken.took); answered = kept ∙ same }

-- there is none for its reply
pub unreplied_turn : (c : Config) (ports : List ℕ) (asked : Option Message) (coming between : List (List ℕ)) (answers before : List Answered) (s s' : Standing) →
    Takes coming between asked → before ≡ answers → IsUnreplied c ports asked s s'.past → EndsBy c ports (desk coming answers s) (desk between before s') ends.Memory
unreplied_turn c ports asked coming between answers before s s' taken same h =
    (left_turn c ports asked coming between between answers before before s s' taken same refl refl, unreplied asked taken h)

-- there is none to give it
pub ungiven_turn : (c : Config) (ports : List ℕ) (asked : Option Message) (reply : Message) (coming between coming' : List (List ℕ)) (answers before answers' : List Answered) (s s' : Standing) →
    Takes coming between asked → before ≡ answers → coming' ≡ between → answers' ≡ before → IsReplied c ports asked reply s s' → EndsBy c ports (desk coming answers s) (desk coming' answers' s') ends.Memory
ungiven_turn c ports asked reply coming between coming' answers before answers' s s' taken same same' kept h =
    (left_turn c ports asked coming between coming' answers before answers' s s' taken same same' kept, ungiven asked reply s' (rw same' taken) h refl)
