-- What a client prints: lines with their line feed.
use Rattle.std.specs.Prelude.{◌≡◌, ℕ, ◌+◌, ◌==◌, ◌&&◌, Bool, true, false, List, [], ◌∷◌, ◌++◌, codes, decimal, Option, Some, None}
use Rattle.tx_model.specs.Applications.{application_text}
use Rattle.proto_model.specs.declared.client_message.FromServer.{FromServer}
use Rattle.proto_model.specs.declared.client_message.FromServer.TheVariants.{Committed, Pending, Refused, Heads, Flushed, Unserved}
use Rattle.client_core.specs.Clients.{ClientState, is_none}
use Rattle.schedule_text.specs.Outcomes.{refusal_text, read_refusal_text}

abbrev pub number_line : List ℕ → ℕ → List ℕ
number_line name number = name ++ (decimal number ++ 10 ∷ [])

abbrev pub refused_line : List ℕ → List ℕ
refused_line reason = codes "refused " ++ (reason ++ 10 ∷ [])

abbrev pub more_line : ℕ → List ℕ
more_line mark = codes "mark " ++ (decimal mark ++ (codes " more" ++ 10 ∷ []))

abbrev pub app_line : ℕ → ClientState → List ℕ
app_line id cl = codes "app " ++ (decimal id ++ (codes " mark=" ++ (decimal cl.mark ++ (application_text cl.app ++ 10 ∷ []))))

-- ---- what an answer says; none where it is not an awaited one

abbrev pub if_same : Bool → List ℕ → Option (List ℕ)
if_same true line = Some line
if_same false line = None

-- after an append of this request
abbrev pub append_line : ℕ → FromServer → Option (List ℕ)
append_line request (Committed other id) = if_same (other == request) (number_line (codes "committed ") id)
append_line request (Pending other id) = if_same (other == request) (number_line (codes "pending ") id)
append_line request (Refused other reason) = if_same (other == request) (refused_line (refusal_text reason))
append_line request _ = None

abbrev pub flush_line : FromServer → Option (List ℕ)
flush_line (Flushed committed) = Some (number_line (codes "flushed ") committed)
flush_line (Unserved reason) = Some (refused_line (read_refusal_text reason))
flush_line _ = None

-- after an ask for heads or for a record: that no head follows, or why nothing is shown
abbrev pub sync_line : ClientState → FromServer → Option (List ℕ)
sync_line cl (Heads from committed heads) =
    if_same (is_none cl.heads && (is_none heads && from == cl.mark + 1)) (number_line (codes "mark ") cl.mark)
sync_line cl (Unserved reason) = Some (refused_line (read_refusal_text reason))
sync_line cl _ = None

-- the line is added where there is one, and there is none otherwise
abbrev pub Says : Bool → Option (List ℕ) → List ℕ → List ℕ → Type 0
Says true (Some line) old new = new ≡ old ++ line
Says true None old new = ⊥
Says false (Some line) old new = ⊥
Says false None old new = new ≡ old
