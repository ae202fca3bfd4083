-- The text of a number's schedule, line by line, and what is written of it.
use Rattle.std.proofs.Common.{◌≡◌, ℕ, zero, suc, ◌+◌, ◌≤◌, List, [], ◌∷◌, ◌++◌, length, map, arith, refl, sym, ◌∙◌, ap, subst, length-append, append_assoc, append-nil, add-one, Option, Result, Ok, Err, OnErr, inl, inr}
use Rattle.std.proofs.lemmas.List.{map-append, take-append-le}
use Rattle.std.proofs.lemmas.Grind.{flat_map-append}
use Rattle.std.proofs.Math.Seq.{take-append_seam}
use Rattle.std.proofs.lemmas.Bool.{cases_lt}
use Rattle.std.specs.Io.KnownBytes.{Appends}
use Rattle.io_core.specs.Bytes.{AppendsPrefix}
use Rattle.io_core.proofs.Known.{Appends-nothing, Appends-more, AppendsPrefix-more}
use Rattle.net_model.specs.declared.event.Event.{Event}
use Rattle.schedule_text.specs.Lines.{line_text}
use Rattle.schedule_text.specs.Spellings.{first_parts}
use Rattle.schedule_text.specs.Taken.{text_of}
use Rattle.schedule_replay.specs.Numbered.{numbered_from, state_after, event_after, numbered_cluster, numbered_events, numbered_lines, numbered_text, event_line}
use Rattle.schedule_replay.specs.Steps.{Counts, Moves, BreaksOff, WritesOf}
use Rattle.schedule_replay.specs.declared.fault.ReplayFault.{ReplayFault}
use Rattle.schedule_replay.specs.declared.fault.ReplayFault.TheVariants.{Read, Write, Line, Range, TooManyEvents, Memory}
use Rattle.schedule_replay.specs.Writing.{Writes}

-- ---- the text

pub state_next : (number i : ℕ) → state_after number (i + 1) ≡ (numbered_from (i + 1) (state_after number i)).state
state_next number i = rw add-one refl

text_suc : (number i : ℕ) → numbered_text number (suc i) ≡ numbered_text number i ++ (event_line (event_after number i) ++ 10 ∷ [])
text_suc number i =
    let first = numbered_lines number 0 in
    let ended = λ (l : List ℕ). l ++ 10 ∷ [] in
    let lines : map event_line (numbered_events number (suc i)) ≡ map event_line (numbered_events number i) ++ event_line (event_after number i) ∷ [] =
    map-append event_line (numbered_events number i) (event_after number i ∷ []) in
    ap (λ ls. text_of (first ++ ls)) lines
    ∙ (flat_map-append ended (numbered_lines number i) (event_line (event_after number i) ∷ [])
    ∙ ap (λ t. numbered_text number i ++ t) (append-nil (event_line (event_after number i) ++ 10 ∷ [])))

pub text_next : (number i : ℕ) → numbered_text number (i + 1) ≡ numbered_text number i ++ (event_line (numbered_from (i + 1) (state_after number i)).event ++ 10 ∷ [])
text_next number i = rw add-one (text_suc number i)

-- fewer lines begin the text
record Begins (front text : List ℕ) : Type 0 where
  rest : List ℕ
  text_is : text ≡ front ++ rest

text_begins : (number i n : ℕ) → i ≤ n → Begins (numbered_text number i) (numbered_text number n)
text_begins number i zero less =
    let same : i ≡ 0 = omega arith in
    rw same (record { rest = []; text_is = sym (append-nil (numbered_text number 0)) })
text_begins number i (suc n) less = elim (cases_lt i (suc n)) [
  | inl below ↦
      let before = text_begins number i n (omega arith) in
      let line = event_line (event_after number n) ++ 10 ∷ [] in
      record {
        rest = before.rest ++ line;
        text_is = text_suc number n ∙ (ap (λ t. t ++ line) before.text_is ∙ append_assoc (numbered_text number i) before.rest line);
      }
  | inr above ↦
      let same : i ≡ suc n = omega arith in
      rw same (record { rest = []; text_is = sym (append-nil (numbered_text number (suc n))) })
]

-- ---- what is written of it

pub writes_first : (number : ℕ) (held : Option (List ℕ)) (waiting : List ℕ) → waiting ≡ line_text (first_parts numbered_cluster) ++ 10 ∷ [] → Writes held held waiting (numbered_text number 0)
writes_first number held waiting is =
    record { written = []; held = Appends-nothing held; told = is ∙ sym (append-nil (line_text (first_parts numbered_cluster) ++ 10 ∷ [])) }

pub writes_more : (h0 h1 : Option (List ℕ)) (waiting text line : List ℕ) → Writes h0 h1 waiting text → Writes h0 h1 (waiting ++ line) (text ++ line)
writes_more h0 h1 waiting text line w =
    record { written = w.written; held = w.held; told = sym (append_assoc w.written waiting line) ∙ ap (λ t. t ++ line) w.told }

pub writes_moved : (h0 h1 h2 : Option (List ℕ)) (w0 w1 text : List ℕ) → Writes h0 h1 w0 text → Moves h1 h2 w0 w1 → Writes h0 h2 w1 text
writes_moved h0 h1 h2 w0 w1 text w moves = record {
  written = w.written ++ moves.moved;
  held = Appends-more h0 h1 h2 w.written moves.moved w.held moves.held;
  told = append_assoc w.written moves.moved w1 ∙ (ap (λ t. w.written ++ t) (sym moves.split) ∙ w.told);
}

prefix_longer : (a b : Option (List ℕ)) (front rest : List ℕ) → AppendsPrefix a b front → AppendsPrefix a b (front ++ rest)
prefix_longer a b front rest p =
    (p.0, omega (arith, p.1, length-append front rest), subst (λ t. Appends a b t) (sym (take-append-le p.0 front rest p.1)) p.2)

prefix_of_text : (number i n : ℕ) → i ≤ n → (a b : Option (List ℕ)) → AppendsPrefix a b (numbered_text number i) → AppendsPrefix a b (numbered_text number n)
prefix_of_text number i n less a b p =
    let begins = text_begins number i n less in
    subst (λ t. AppendsPrefix a b t) (sym begins.text_is) (prefix_longer a b (numbered_text number i) begins.rest p)

-- some of the text is written, and no more of it
pub writes_part : (number i n : ℕ) → i ≤ n → (h0 h1 : Option (List ℕ)) (waiting : List ℕ) → Writes h0 h1 waiting (numbered_text number i) → AppendsPrefix h0 h1 (numbered_text number n)
writes_part number i n less h0 h1 waiting w =
    let whole : AppendsPrefix h0 h1 (w.written ++ waiting) =
    (length w.written, omega (arith, length-append w.written waiting), subst (λ t. Appends h0 h1 t) (sym (take-append_seam w.written waiting)) w.held) in
    prefix_of_text number i n less h0 h1 (subst (λ t. AppendsPrefix h0 h1 t) w.told whole)

-- writing broke off
pub writes_broken : (number i n : ℕ) → i ≤ n → (h0 h1 h2 : Option (List ℕ)) (w0 w1 : List ℕ) → Writes h0 h1 w0 (numbered_text number i) → BreaksOff h1 h2 w0 w1 → AppendsPrefix h0 h2 (numbered_text number n)
writes_broken number i n less h0 h1 h2 w0 w1 w broken =
    prefix_of_text number i n less h0 h2 (subst (λ t. AppendsPrefix h0 h2 t) w.told (AppendsPrefix-more h0 h1 h2 w.written w0 w.held broken.held))

-- all that waits is written
pub writes_all : (h0 h1 h2 : Option (List ℕ)) (waiting text : List ℕ) → Writes h0 h1 waiting text → Appends h1 h2 waiting → Appends h0 h2 text
writes_all h0 h1 h2 waiting text w p = subst (λ t. Appends h0 h2 t) w.told (Appends-more h0 h1 h2 w.written waiting w.held p)

-- one event's line more
pub writes_event : (number i : ℕ) (h0 h1 : Option (List ℕ)) (w0 w1 : List ℕ) (e : Event) (x : ℕ) → Writes h0 h1 w0 (numbered_text number i) → x ≡ state_after number i
    → e ≡ (numbered_from (i + 1) x).event → w1 ≡ w0 ++ (event_line e ++ 10 ∷ []) → Writes h0 h1 w1 (numbered_text number (i + 1))
writes_event number i h0 h1 w0 w1 e x w state event more =
    let T : List ℕ → Type 0 = λ t. Writes h0 h1 w1 t in
    let W : List ℕ → Type 0 = λ t. Writes h0 h1 t (numbered_text number i ++ (event_line e ++ 10 ∷ [])) in
    let same : e ≡ (numbered_from (i + 1) (state_after number i)).event = event ∙ ap (λ s. (numbered_from (i + 1) s).event) state in
    let text : numbered_text number (i + 1) ≡ numbered_text number i ++ (event_line e ++ 10 ∷ []) =
    text_next number i ∙ ap (λ x. numbered_text number i ++ (event_line x ++ 10 ∷ [])) (sym same) in
    subst T (sym text) (subst W (sym more) (writes_more h0 h1 w0 (numbered_text number i) (event_line e ++ 10 ∷ []) w))

pub state_event : (number i x y : ℕ) → x ≡ state_after number i → y ≡ (numbered_from (i + 1) x).state → y ≡ state_after number (i + 1)
state_event number i x y state next = next ∙ (ap (λ s. (numbered_from (i + 1) s).state) state ∙ sym (state_next number i))

-- a write that failed broke off
pub writes_err : (h0 h1 : Option (List ℕ)) (w0 w1 : List ℕ) (fault : ReplayFault) → WritesOf h0 h1 w0 w1 (Err fault) → BreaksOff h0 h1 w0 w1
writes_err h0 h1 w0 w1 Write is = is
writes_err h0 h1 w0 w1 Memory is = is
writes_err h0 h1 w0 w1 Read is = absurd is
writes_err h0 h1 w0 w1 (Line l at) is = absurd is
writes_err h0 h1 w0 w1 (Range l name) is = absurd is
writes_err h0 h1 w0 w1 TooManyEvents is = absurd is

-- where this was no fault, none was counted
pub unchanged : (before now : ℕ) (result : Result Unit ReplayFault) (u : Unit) (fault : ReplayFault) → result ≡ Ok u → Counts before now (result ≡ Err fault) → now ≡ before
unchanged before now result u fault is counts = counts.same (λ e. let never : Ok u ≡ Err fault = sym is ∙ e in cc)

-- writing the rest failed
pub writes_end : {E : Type 0} (h0 h1 h2 : Option (List ℕ)) (waiting text : List ℕ) (result : Result Unit E) → Writes h0 h1 waiting text → OnErr result (AppendsPrefix h1 h2 waiting)
    → OnErr result (AppendsPrefix h0 h2 text)
writes_end h0 h1 h2 waiting text (Ok u) w p = tt
writes_end h0 h1 h2 waiting text (Err fault) w p =
    subst (λ t. AppendsPrefix h0 h2 t) w.told (AppendsPrefix-more h0 h1 h2 w.written waiting w.held p)
