-- One turn of a command that serves, from its parts.
use Rattle.std.proofs.Common.{◌≡◌, ℕ, Bool, true, false, List, [], ◌∷◌, ◌++◌, sym, ap, ◌∙◌, refl, Option, None, Some}
use Rattle.std.specs.Prelude.{MatchOption}
use Rattle.io_core.specs.Ports.{Answered}
use Rattle.wire_codec.specs.declared.message.Message.{Message}
use Rattle.wire_codec.specs.Spelling.{message_frame}
use Rattle.node_loops.specs.declared.requests.Asked.{Asked}
use Rattle.node_loops.specs.declared.end.End.{End}
use Rattle.node_loops.specs.declared.end.End.TheVariants as ends
use Rattle.node_loops.specs.Requests.{is_bye, Takes, IsUntaken}
use Rattle.node_loops.specs.Serving.{Desk, desk, Replying, Failing, IsTurn, GoesOn, IsUnanswered, IsUnsent, EndsBy, parted, closed, none_came, port_failed, unread, end_after}

-- the calls of `answer` with one more, given or not
abbrev pub OneMore : List Answered → List Answered → Message → Type 0
OneMore old new m = (given : Bool) × (new ≡ old ++ record { bytes = message_frame m; given = given } ∷ [])

pub made_turn : {S : Type 0} (Replies : Replying S) (asked : Asked) (reply : Message) (bye : Bool) (coming between coming' : List (List ℕ)) (answers before answers' : List Answered) (s s' : S) →
    Takes coming between asked → before ≡ answers → coming' ≡ between → OneMore before answers' reply → bye ≡ is_bye asked → Replies asked reply s s' →
    IsTurn S Replies bye (desk coming answers s) (desk coming' answers' s')
made_turn Replies asked reply bye coming between coming' answers before answers' s s' taken same same' sent e replied = record {
  request = taken.request;
  asked = asked;
  reply = reply;
  given = sent.0;
  took = rw same' taken.took;
  asks = taken.asks;
  kind = sym e;
  answered = sent.1 ∙ ap (λ l. l ++ record { bytes = message_frame reply; given = sent.0 } ∷ []) same;
  replied = replied;
}

-- the turn as it ends or goes on
ended : {S : Type 0} (Replies : Replying S) (Fails : Failing S) (over : S → Option End) (a b : Desk S) (bye : Bool) (o : Option End) → over b.server ≡ o → IsTurn S Replies bye a b →
    MatchOption (end_after bye o) (GoesOn S Replies over a b) (λ end. EndsBy S Replies Fails over a b end)
ended Replies Fails over a b true o e turn = parted turn
ended Replies Fails over a b false (Some end) e turn = closed end turn e
ended Replies Fails over a b false None e turn = record { turn = turn; serves = e }

pub ended_turn : {S : Type 0} (Replies : Replying S) (Fails : Failing S) (over : S → Option End) (a b : Desk S) (bye : Bool) (end result : Option End) → result ≡ end_after bye end → end ≡ over b.server → IsTurn S Replies bye a b →
    MatchOption result (GoesOn S Replies over a b) (λ end. EndsBy S Replies Fails over a b end)
ended_turn Replies Fails over a b bye end result is same turn = rw is (ended Replies Fails over a b bye end (sym same) turn)

-- no request is answered
pub untaken_turn : {S : Type 0} (Replies : Replying S) (Fails : Failing S) (over : S → Option End) (coming coming' : List (List ℕ)) (answers answers' : List Answered) (s : S) (end : End) → IsUntaken coming coming' end → answers' ≡ answers →
    EndsBy S Replies Fails over (desk coming answers s) (desk coming' answers' s) end
untaken_turn Replies Fails over coming coming' answers answers' s ends.Port h same = none_came h.0 (λ i. record { coming = h.1 i; answers = same i; server = s })
untaken_turn Replies Fails over coming coming' answers answers' s ends.Peer h same = port_failed (λ i. record { coming = h i; answers = same i; server = s })
untaken_turn Replies Fails over coming coming' answers answers' s ends.Memory h same = unread (record { request = h.0; took = h.1; answered = same; server = refl })
untaken_turn Replies Fails over coming coming' answers answers' s ends.Bye h same = absurd h
untaken_turn Replies Fails over coming coming' answers answers' s ends.Turns h same = absurd h
untaken_turn Replies Fails over coming coming' answers answers' s ends.Unheard h same = absurd h
untaken_turn Replies Fails over coming coming' answers answers' s ends.Disk h same = absurd h
untaken_turn Replies Fails over coming coming' answers answers' s (ends.Damaged file at) h same = absurd h
untaken_turn Replies Fails over coming coming' answers answers' s (ends.TakenOver session) h same = absurd h
untaken_turn Replies Fails over coming coming' answers answers' s ends.Answer h same = absurd h
untaken_turn Replies Fails over coming coming' answers answers' s ends.Full h same = absurd h
untaken_turn Replies Fails over coming coming' answers answers' s ends.WriteFault h same = absurd h

-- a request is taken, at which what serves fails
pub failed_turn : {S : Type 0} (Fails : Failing S) (asked : Asked) (end : End) (coming between : List (List ℕ)) (answers before : List Answered) (s s' : S) →
    Takes coming between asked → before ≡ answers → Fails asked end s s' → IsUnanswered S Fails end (desk coming answers s) (desk between before s')
failed_turn Fails asked end coming between answers before s s' taken same fails =
    record { request = taken.request; asked = asked; took = taken.took; asks = taken.asks; answered = same; failed = fails }

-- a request is taken, and there is no memory for its answer
pub unsent_turn : {S : Type 0} (Replies : Replying S) (asked : Asked) (reply : Message) (coming between coming' : List (List ℕ)) (answers before answers' : List Answered) (s s' : S) →
    Takes coming between asked → before ≡ answers → coming' ≡ between → answers' ≡ before → Replies asked reply s s' → IsUnsent S Replies (desk coming answers s) (desk coming' answers' s')
unsent_turn Replies asked reply coming between coming' answers before answers' s s' taken same same' kept replied =
    record { request = taken.request; asked = asked; reply = reply; took = rw same' taken.took; asks = taken.asks; answered = kept ∙ same; replied = replied }
