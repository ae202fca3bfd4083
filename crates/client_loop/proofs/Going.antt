-- A script, line by line: what was read and done so far, one line more, and how it ends.
use Rattle.std.proofs.Common.{◌≡◌, ℕ, ◌+◌, ◌<◌, ◌≤◌, List, [], ◌∷◌, ◌++◌, length, arith, refl, sym, ◌∙◌, ap, subst, length-append, Option, None, Some, Result, Ok, Err, inl, inr}
use Rattle.std.specs.Prelude.{OnOk, IfErr}
use Rattle.std.specs.Io.KnownBytes.{Appends, prepend_known}
use Rattle.std.proofs.KnownBytes.{prepend_known-nil}
use Rattle.io_core.specs.Bytes.{AppendsPrefix}
use Rattle.io_core.specs.Lines.{lines_of}
use Rattle.io_core.specs.Links.{Exchange}
use Rattle.io_core.proofs.Known.{Appends-nothing, Appends-more, AppendsPrefix-more}
use Rattle.client_core.specs.Clients.{ClientState, fresh_client}
use Rattle.schedule_text.specs.declared.lines.script.ScriptLine.{ScriptLine}
use Rattle.schedule_text.specs.Spellings.{SpellsScript}
use Rattle.schedule_text.specs.Places.{IsBadScript}
use Rattle.schedule_text.specs.Taken.{ReadsOn, TakesLines}
use Rattle.schedule_text.proofs.Taken.{TakesLines-none, TakesLines-more, some_line, some_first, all_read, part_left, keeps_part, room-some, room-none, where_some}
use Rattle.client_loop.specs.declared.end.End.{End}
use Rattle.client_loop.specs.declared.end.End.TheVariants.{Done, Bad, Limit, ReadFault, WriteFault, Peer, Garbled, Memory}
use Rattle.client_loop.specs.Asks.{IsAskEnd}
use Rattle.client_loop.specs.Ends.{IsTold}
use Rattle.client_loop.specs.Scripts.{Seat, seat, DoesLine, FailsLine}
use Rattle.client_loop.specs.Reading.{AreScripts, TakesScript, IsAfter, IsFollowed, Leaves, NeedsRead, ReadsWhere, LastOf, NeedsLastRead}
use Rattle.client_loop.specs.Runs.{AreDone, none, one_more, AllDone, LastFails, Goes, Turns, Fails, DoesOf, WritesOf, Going, Reaches}
use Rattle.client_loop.proofs.Leaving.{needs_more, known_last, reads, asked, memory_after}

-- ---- before the first line

first_last : (a before : Option (List ℕ)) → NeedsLastRead [] a before a
first_last None before = tt
first_last (Some bytes) before = inl refl

fresh_done : (id port : ℕ) (client : ClientState) (past : List Exchange) → client ≡ fresh_client → AreDone id port (seat fresh_client past) [] (seat client past) []
fresh_done id port client past is = rw is none

pub going_start : (tells : Type 0) (id port : ℕ) (past : List Exchange) (a before held : Option (List ℕ)) (pending : List ℕ) (client : ClientState) → pending ≡ [] → client ≡ fresh_client → Going tells id port past a (prepend_known pending a) before a held held (seat client past) 0
going_start tells id port past a before held pending client empty is = record {
  lines = [];
  scripts = [];
  text = [];
  spelled = tt;
  done = λ told. fresh_done id port client past is;
  read = rw (empty, prepend_known-nil a) (TakesLines-none a);
  last = first_last a before;
  held = Appends-nothing held;
  count = refl;
}

-- there was no memory to begin
untouched : (a before : Option (List ℕ)) → ReadsWhere Memory a before a []
untouched None before = tt
untouched (Some bytes) before = record { rest = lines_of bytes; split = refl; followed = tt; leaves = inl (inl refl) }

pub not_begun : (tells : Type 0) (id port : ℕ) (past : List Exchange) (a before held : Option (List ℕ)) (refused : Type 0) (end : End) → end ≡ Memory → Reaches tells id port past past a before a held held refused end
not_begun tells id port past a before held refused end is = rw is (record {
  lines = [];
  scripts = [];
  text = [];
  after = tt;
  few = omega arith;
  read = untouched a before;
  spelled = tt;
  done = λ told. inl (record { client = fresh_client; done = none });
  told = inl (Appends-nothing held);
})

-- ---- one line more

AreScripts-push : (lines : List (List ℕ)) (scripts : List ScriptLine) (line : List ℕ) (script : ScriptLine) → AreScripts lines scripts → SpellsScript line script → AreScripts (lines ++ line ∷ []) (scripts ++ script ∷ [])
AreScripts-push [] [] line script spelled more = (more, tt)
AreScripts-push [] (s ∷ scripts) line script spelled more = absurd spelled
AreScripts-push (l ∷ lines) [] line script spelled more = absurd spelled
AreScripts-push (l ∷ lines) (s ∷ scripts) line script spelled more = (spelled.0, AreScripts-push lines scripts line script spelled.1 more)

-- where a script stands once a line more was taken
record Stands (tells : Type 0) (id port : ℕ) (past : List Exchange) (a here before left : Option (List ℕ)) (script : ScriptLine) (total : ℕ) : Type 0 where
  lines : List (List ℕ)
  earlier : List ScriptLine
  spelled : AreScripts lines (earlier ++ script ∷ [])
  read : TakesLines a here lines
  last : NeedsLastRead lines a before left
  count : length lines ≡ total

takes_more : {S : Type 0} (left before : S → Option (List ℕ)) (s0 s1 : S) (tells : Type 0) (id port : ℕ) (past : List Exchange) (a h0 h1 : Option (List ℕ)) (pending0 pending1 : List ℕ) (at : Seat) (n : ℕ) (script : ScriptLine) → n < 20000 → (going : Going tells id port past a (prepend_known pending0 (left s0)) (before s0) (left s0) h0 h1 at n) → TakesScript (prepend_known pending0 (left s0)) (prepend_known pending1 (left s1)) script → ReadsOn left before s0 s1 512 pending0 → (stands : Stands tells id port past a (prepend_known pending1 (left s1)) (before s1) (left s1) script (n + 1)) × (stands.earlier ≡ going.scripts)
takes_more left before s0 s1 tells id port past a h0 h1 pending0 pending1 at n script few going takes on =
    let O : ℕ → Type 0 = λ room. ReadsOn left before s0 s1 room pending0 in (
      record {
        lines = going.lines ++ takes.line ∷ [];
        earlier = going.scripts;
        spelled = AreScripts-push going.lines going.scripts takes.line script going.spelled takes.spelled;
        read = TakesLines-more a (prepend_known pending0 (left s0)) (prepend_known pending1 (left s1)) going.lines takes.line going.read takes.read;
        last = needs_more left before s0 s1 a (prepend_known pending1 (left s1)) pending0 takes.line going.lines going.read going.last takes.read (subst O (sym (room-some 20000 going.lines n going.count few)) on);
        count = simp length-append (omega (arith, going.count));
      },
      refl,
    )

done_more : (tells : Type 0) (id port : ℕ) (past : List Exchange) (left_old left_new : Option (List ℕ)) (at0 at1 : Seat) (scripts earlier : List ScriptLine) (text line : List ℕ) → earlier ≡ scripts → (tells → AreDone id port (seat fresh_client past) scripts at0 text) → (turn : Turns tells id port left_old left_new at0 at1 line) → tells → AreDone id port (seat fresh_client past) (earlier ++ turn.script ∷ []) at1 (text ++ line)
done_more tells id port past left_old left_new at0 at1 scripts earlier text line same done turn told =
    rw same (one_more scripts turn.script at0 at1 text line (done told) (turn.does told))

pub going_more : {S : Type 0} (left before : S → Option (List ℕ)) (s0 s1 : S) (tells : Type 0) (id port : ℕ) (past : List Exchange) (a h0 h1 h2 : Option (List ℕ)) (pending0 pending1 line : List ℕ) (at0 at1 : Seat) (n : ℕ) → n < 20000 → Going tells id port past a (prepend_known pending0 (left s0)) (before s0) (left s0) h0 h1 at0 n → Turns tells id port (prepend_known pending0 (left s0)) (prepend_known pending1 (left s1)) at0 at1 line → ReadsOn left before s0 s1 512 pending0 → Appends h1 h2 line → Going tells id port past a (prepend_known pending1 (left s1)) (before s1) (left s1) h0 h2 at1 (n + 1)
going_more left before s0 s1 tells id port past a h0 h1 h2 pending0 pending1 line at0 at1 n few going turn on written =
    let more = takes_more left before s0 s1 tells id port past a h0 h1 pending0 pending1 at0 n turn.script few going turn.takes on in
    let stands = more.0 in
    record {
      lines = stands.lines;
      scripts = stands.earlier ++ turn.script ∷ [];
      text = going.text ++ line;
      spelled = stands.spelled;
      done = done_more tells id port past _ _ at0 at1 going.scripts stands.earlier going.text line more.1 going.done turn;
      read = stands.read;
      last = stands.last;
      held = Appends-more h0 h1 h2 going.text line going.held written;
      count = stands.count;
    }

-- ---- how it ends

-- it ends between two lines
stays : (tells : Type 0) (id port : ℕ) (past past1 : List Exchange) (a here before0 left0 before left h0 h1 : Option (List ℕ)) (refused : Type 0) (client : ClientState) (at : Seat) (n : ℕ) (end : End) (going : Going tells id port past a here before0 left0 h0 h1 at n) → seat client past1 ≡ at → n ≤ 20000 → IsAfter end going.lines → ReadsWhere end a before left going.lines → (AllDone id port going.scripts past past1 going.text → Goes id port end going.scripts past past1 going.text) → (Appends h0 h1 going.text → IsTold refused end h0 h1 going.text) → Reaches tells id port past past1 a before left h0 h1 refused end
stays tells id port past past1 a here before0 left0 before left h0 h1 refused client at n end going same few after read goes told = record {
  lines = going.lines;
  scripts = going.scripts;
  text = going.text;
  after = after;
  few = omega (arith, going.count);
  read = read;
  spelled = going.spelled;
  done = λ t.
      let D : Seat → Type 0 = λ s. AreDone id port (seat fresh_client past) going.scripts s going.text in
      goes (record { client = client; done = subst D (sym same) (going.done t) });
  told = told going.held;
}

-- it ends in a line
breaks : {S : Type 0} (left before : S → Option (List ℕ)) (s0 s1 : S) (tells : Type 0) (id port : ℕ) (past past1 : List Exchange) (a h0 h1 : Option (List ℕ)) (refused : Type 0) (pending0 pending1 : List ℕ) (client : ClientState) (at : Seat) (n : ℕ) (end : End) → n < 20000 → ((lines : List (List ℕ)) → IsAfter end lines) → ((rest : List (List ℕ)) → IsFollowed end rest) → ((lines : List (List ℕ)) (bytes : List ℕ) (b l : Option (List ℕ)) → NeedsRead lines bytes b l → Leaves end lines bytes b l) → ((scripts : List ScriptLine) (text : List ℕ) → LastFails id port end scripts past past1 text → Goes id port end scripts past past1 text) → ((text : List ℕ) → Appends h0 h1 text → IsTold refused end h0 h1 text) → Going tells id port past a (prepend_known pending0 (left s0)) (before s0) (left s0) h0 h1 at n → Fails tells id port (prepend_known pending0 (left s0)) (prepend_known pending1 (left s1)) at (seat client past1) end → ReadsOn left before s0 s1 512 pending0 → Reaches tells id port past past1 a (before s1) (left s1) h0 h1 refused end
breaks left before s0 s1 tells id port past past1 a h0 h1 refused pending0 pending1 client at n end few after followed leaves goes told going fails on =
    let more = takes_more left before s0 s1 tells id port past a h0 h1 pending0 pending1 at n fails.script few going fails.takes on in
    let stands = more.0 in
    record {
      lines = stands.lines;
      scripts = stands.earlier ++ fails.script ∷ [];
      text = going.text;
      after = after stands.lines;
      few = omega (arith, stands.count);
      read = reads a (prepend_known pending1 (left s1)) (before s1) (left s1) end stands.lines stands.read (λ bytes rest known known' taken. (followed (lines_of rest), leaves stands.lines bytes (before s1) (left s1) (known_last a (before s1) (left s1) bytes stands.lines known stands.last)));
      spelled = stands.spelled;
      done = λ t.
          let D : List ScriptLine → Type 0 = λ s. AreDone id port (seat fresh_client past) s at going.text in
          goes (stands.earlier ++ fails.script ∷ []) going.text (record { earlier = stands.earlier; script = fails.script; split = refl; before = at; client = client; done = subst D (sym more.1) (going.done t); fails = fails.fails t });
      told = told going.text going.held;
    }

-- reading a line or doing it ends the script
pub take_ends : {S : Type 0} (left before : S → Option (List ℕ)) (s0 s1 : S) (tells : Type 0) (id port : ℕ) (past past1 : List Exchange) (a h0 h1 : Option (List ℕ)) (refused : Type 0) (pending0 pending1 line : List ℕ) (client : ClientState) (at : Seat) (n number : ℕ) (end : End) → n < 20000 → number ≡ n + 1 → Going tells id port past a (prepend_known pending0 (left s0)) (before s0) (left s0) h0 h1 at n → DoesOf tells id port (prepend_known pending0 (left s0)) (prepend_known pending1 (left s1)) at (seat client past1) line number (Err end) → (end ≡ ReadFault → pending1 ≡ []) → ReadsOn left before s0 s1 512 pending0 → Reaches tells id port past past1 a (before s1) (left s1) h0 h1 refused end
take_ends left before s0 s1 tells id port past past1 a h0 h1 refused pending0 pending1 line client at n number Done few is going does empty on =
    stays tells id port past past1 a _ (before s0) (left s0) (before s1) (left s1) h0 h1 refused client at n Done going does.1 (omega (arith, few)) tt
    (reads a (prepend_known pending0 (left s0)) (before s1) (left s1) Done going.lines going.read (λ bytes rest known known' taken. all_read (prepend_known pending0 (left s0)) (left s1) pending1 rest known' does.0))
    (λ all. all) (λ held. held)
take_ends left before s0 s1 tells id port past past1 a h0 h1 refused pending0 pending1 line client at n number (Bad bad place) few is going does empty on =
    let O : ℕ → Type 0 = λ room. ReadsOn left before s0 s1 room pending0 in
    stays tells id port past past1 a _ (before s0) (left s0) (before s1) (left s1) h0 h1 refused client at n (Bad bad place) going does.2 (omega (arith, few)) (omega (arith, going.count, does.1, is), omega (arith, going.count, few))
    (reads a (prepend_known pending0 (left s0)) (before s1) (left s1) (Bad bad place) going.lines going.read (λ bytes rest known known' taken.
    let wrong = rw known' at does.0 in
    (wrong, where_some rest (left s1) (asked left before s0 s1 a going.lines bytes pending0 rest known known' taken going.last (subst O (sym (room-some 20000 going.lines n going.count few)) on)) (some_first (λ x. IsBadScript x place) rest wrong))))
    (λ all. all) (λ held. held)
take_ends left before s0 s1 tells id port past past1 a h0 h1 refused pending0 pending1 line client at n number ReadFault few is going does empty on =
    stays tells id port past past1 a _ (before s0) (left s0) (before s1) (left s1) h0 h1 refused client at n ReadFault going does.1 (omega (arith, few)) tt
    (reads a (prepend_known pending0 (left s0)) (before s1) (left s1) ReadFault going.lines going.read (λ bytes rest known known' taken. (tt, part_left 20000 512 (prepend_known pending0 (left s0)) (left s1) pending1 bytes rest going.lines (room-some 20000 going.lines n going.count few) known' taken (empty refl) does.0)))
    (λ all. all) (λ held. held)
take_ends left before s0 s1 tells id port past past1 a h0 h1 refused pending0 pending1 line client at n number Memory few is going (inl same) empty on =
    let O : ℕ → Type 0 = λ room. ReadsOn left before s0 s1 room pending0 in
    stays tells id port past past1 a _ (before s0) (left s0) (before s1) (left s1) h0 h1 refused client at n Memory going same (omega (arith, few)) tt
    (reads a (prepend_known pending0 (left s0)) (before s1) (left s1) Memory going.lines going.read (λ bytes rest known known' taken. (tt, elim (asked left before s0 s1 a going.lines bytes pending0 rest known known' taken going.last (subst O (sym (room-some 20000 going.lines n going.count few)) on)) [ inl further ↦ inl further | inr over ↦ inr over.1 ])))
    (λ all. inl all) (λ held. inl held)
take_ends left before s0 s1 tells id port past past1 a h0 h1 refused pending0 pending1 line client at n number Memory few is going (inr fails) empty on =
    breaks left before s0 s1 tells id port past past1 a h0 h1 refused pending0 pending1 client at n Memory few (λ lines. tt) (λ rest. tt) memory_after (λ scripts text last. inr last) (λ text held. inl held) going fails on
take_ends left before s0 s1 tells id port past past1 a h0 h1 refused pending0 pending1 line client at n number Peer few is going fails empty on =
    breaks left before s0 s1 tells id port past past1 a h0 h1 refused pending0 pending1 client at n Peer few (λ lines. tt) (λ rest. tt) (λ lines bytes b l needs. needs) (λ scripts text last. last) (λ text held. held) going fails on
take_ends left before s0 s1 tells id port past past1 a h0 h1 refused pending0 pending1 line client at n number Garbled few is going fails empty on =
    breaks left before s0 s1 tells id port past past1 a h0 h1 refused pending0 pending1 client at n Garbled few (λ lines. tt) (λ rest. tt) (λ lines bytes b l needs. needs) (λ scripts text last. last) (λ text held. held) going fails on
take_ends left before s0 s1 tells id port past past1 a h0 h1 refused pending0 pending1 line client at n number Limit few is going does empty on = absurd does
take_ends left before s0 s1 tells id port past past1 a h0 h1 refused pending0 pending1 line client at n number WriteFault few is going does empty on = absurd does

-- a line was done, and its text is written in part
cut : {S : Type 0} (left before : S → Option (List ℕ)) (s0 s1 : S) (tells : Type 0) (id port : ℕ) (past past1 : List Exchange) (a h0 h1 h2 : Option (List ℕ)) (refused : Type 0) (pending0 pending1 line : List ℕ) (client : ClientState) (at : Seat) (n : ℕ) (end : End) → n < 20000 → ((lines : List (List ℕ)) → IsAfter end lines) → ((rest : List (List ℕ)) → IsFollowed end rest) → ((lines : List (List ℕ)) (bytes : List ℕ) (b l : Option (List ℕ)) → NeedsRead lines bytes b l → Leaves end lines bytes b l) → ((scripts : List ScriptLine) (text : List ℕ) → AllDone id port scripts past past1 text → Goes id port end scripts past past1 text) → ((text : List ℕ) → AppendsPrefix h0 h2 text → IsTold refused end h0 h2 text) → Going tells id port past a (prepend_known pending0 (left s0)) (before s0) (left s0) h0 h1 at n → Turns tells id port (prepend_known pending0 (left s0)) (prepend_known pending1 (left s1)) at (seat client past1) line → ReadsOn left before s0 s1 512 pending0 → AppendsPrefix h1 h2 line → Reaches tells id port past past1 a (before s1) (left s1) h0 h2 refused end
cut left before s0 s1 tells id port past past1 a h0 h1 h2 refused pending0 pending1 line client at n end few after followed leaves goes told going turn on written =
    let more = takes_more left before s0 s1 tells id port past a h0 h1 pending0 pending1 at n turn.script few going turn.takes on in
    let stands = more.0 in
    record {
      lines = stands.lines;
      scripts = stands.earlier ++ turn.script ∷ [];
      text = going.text ++ line;
      after = after stands.lines;
      few = omega (arith, stands.count);
      read = reads a (prepend_known pending1 (left s1)) (before s1) (left s1) end stands.lines stands.read (λ bytes rest known known' taken. (followed (lines_of rest), leaves stands.lines bytes (before s1) (left s1) (known_last a (before s1) (left s1) bytes stands.lines known stands.last)));
      spelled = stands.spelled;
      done = λ t. goes (stands.earlier ++ turn.script ∷ []) (going.text ++ line) (record { client = client; done = done_more tells id port past _ _ at (seat client past1) going.scripts stands.earlier going.text line more.1 going.done turn t });
      told = told (going.text ++ line) (AppendsPrefix-more h0 h1 h2 going.text line going.held written);
    }

-- writing a line ends the script
pub write_ends : {S : Type 0} (left before : S → Option (List ℕ)) (s0 s1 : S) (tells : Type 0) (id port : ℕ) (past past1 : List Exchange) (a h0 h1 h2 : Option (List ℕ)) (refused : Type 0) (pending0 pending1 line : List ℕ) (client : ClientState) (at : Seat) (n : ℕ) (end : End) → n < 20000 → Going tells id port past a (prepend_known pending0 (left s0)) (before s0) (left s0) h0 h1 at n → Turns tells id port (prepend_known pending0 (left s0)) (prepend_known pending1 (left s1)) at (seat client past1) line → ReadsOn left before s0 s1 512 pending0 → WritesOf h1 h2 line (Err end) → (end ≡ Memory → refused) → Reaches tells id port past past1 a (before s1) (left s1) h0 h2 refused end
write_ends left before s0 s1 tells id port past past1 a h0 h1 h2 refused pending0 pending1 line client at n WriteFault few going turn on written why =
    cut left before s0 s1 tells id port past past1 a h0 h1 h2 refused pending0 pending1 line client at n WriteFault few (λ lines. tt) (λ rest. tt) (λ lines bytes b l needs. needs) (λ scripts text all. all) (λ text held. held) going turn on written
write_ends left before s0 s1 tells id port past past1 a h0 h1 h2 refused pending0 pending1 line client at n Memory few going turn on written why =
    cut left before s0 s1 tells id port past past1 a h0 h1 h2 refused pending0 pending1 line client at n Memory few (λ lines. tt) (λ rest. tt) memory_after (λ scripts text all. inl all) (λ text held. inr (why refl, held)) going turn on written
write_ends left before s0 s1 tells id port past past1 a h0 h1 h2 refused pending0 pending1 line client at n Done few going turn on written why = absurd written
write_ends left before s0 s1 tells id port past past1 a h0 h1 h2 refused pending0 pending1 line client at n (Bad bad place) few going turn on written why = absurd written
write_ends left before s0 s1 tells id port past past1 a h0 h1 h2 refused pending0 pending1 line client at n Limit few going turn on written why = absurd written
write_ends left before s0 s1 tells id port past past1 a h0 h1 h2 refused pending0 pending1 line client at n ReadFault few going turn on written why = absurd written
write_ends left before s0 s1 tells id port past past1 a h0 h1 h2 refused pending0 pending1 line client at n Peer few going turn on written why = absurd written
write_ends left before s0 s1 tells id port past past1 a h0 h1 h2 refused pending0 pending1 line client at n Garbled few going turn on written why = absurd written

-- what follows the last line that is allowed
pub going_last : {S : Type 0} (left before : S → Option (List ℕ)) (s0 s1 : S) (tells : Type 0) (id port : ℕ) (past past1 : List Exchange) (a h0 h1 : Option (List ℕ)) (refused : Type 0) (pending0 pending1 : List ℕ) (client : ClientState) (n : ℕ) (end : End) → n ≡ 20000 → Going tells id port past a (prepend_known pending0 (left s0)) (before s0) (left s0) h0 h1 (seat client past1) n → LastOf (prepend_known pending0 (left s0)) (prepend_known pending1 (left s1)) end → (end ≡ ReadFault → pending1 ≡ []) → (end ≡ Limit → ReadsOn left before s0 s1 0 pending0) → Reaches tells id port past past1 a (before s1) (left s1) h0 h1 refused end
going_last left before s0 s1 tells id port past past1 a h0 h1 refused pending0 pending1 client n Done all going ends empty on =
    stays tells id port past past1 a _ (before s0) (left s0) (before s1) (left s1) h0 h1 refused client (seat client past1) n Done going refl (omega (arith, all)) tt
    (reads a (prepend_known pending0 (left s0)) (before s1) (left s1) Done going.lines going.read (λ bytes rest known known' taken. all_read (prepend_known pending0 (left s0)) (left s1) pending1 rest known' ends))
    (λ done. done) (λ held. held)
going_last left before s0 s1 tells id port past past1 a h0 h1 refused pending0 pending1 client n Limit all going ends empty on =
    let O : ℕ → Type 0 = λ room. ReadsOn left before s0 s1 room pending0 in
    stays tells id port past past1 a _ (before s0) (left s0) (before s1) (left s1) h0 h1 refused client (seat client past1) n Limit going refl (omega (arith, all)) (going.count ∙ all)
    (reads a (prepend_known pending0 (left s0)) (before s1) (left s1) Limit going.lines going.read (λ bytes rest known known' taken.
    let more = rw known' at ends in
    (some_line rest more, where_some rest (left s1) (asked left before s0 s1 a going.lines bytes pending0 rest known known' taken going.last (subst O (sym (room-none 20000 going.lines (going.count ∙ all))) (on refl))) more)))
    (λ done. done) (λ held. held)
going_last left before s0 s1 tells id port past past1 a h0 h1 refused pending0 pending1 client n ReadFault all going ends empty on =
    stays tells id port past past1 a _ (before s0) (left s0) (before s1) (left s1) h0 h1 refused client (seat client past1) n ReadFault going refl (omega (arith, all)) tt
    (reads a (prepend_known pending0 (left s0)) (before s1) (left s1) ReadFault going.lines going.read (λ bytes rest known known' taken. (tt, part_left 20000 0 (prepend_known pending0 (left s0)) (left s1) pending1 bytes rest going.lines (room-none 20000 going.lines (going.count ∙ all)) known' taken (empty refl) (keeps_part _ _ ends))))
    (λ done. done) (λ held. held)
going_last left before s0 s1 tells id port past past1 a h0 h1 refused pending0 pending1 client n (Bad bad place) all going ends empty on = absurd ends
going_last left before s0 s1 tells id port past past1 a h0 h1 refused pending0 pending1 client n WriteFault all going ends empty on = absurd ends
going_last left before s0 s1 tells id port past past1 a h0 h1 refused pending0 pending1 client n Peer all going ends empty on = absurd ends
going_last left before s0 s1 tells id port past past1 a h0 h1 refused pending0 pending1 client n Garbled all going ends empty on = absurd ends
going_last left before s0 s1 tells id port past past1 a h0 h1 refused pending0 pending1 client n Memory all going ends empty on = absurd ends

-- ---- a line's text

-- what is added to an empty text is the text
said_line : (id port : ℕ) (script : ScriptLine) (a b : Seat) (old new : List ℕ) → old ≡ [] → ((line : List ℕ) × DoesLine id port script a b line × (new ≡ old ++ line)) → DoesLine id port script a b new
said_line id port script a b old new empty said =
    let D : List ℕ → Type 0 = λ line. DoesLine id port script a b line in
    subst D (sym (said.2 ∙ ap (λ (o : List ℕ). o ++ said.0) empty)) said.1

-- a line that fails
fails_of : (tells : Type 0) (id port : ℕ) (left_old left_new : Option (List ℕ)) (a b : Seat) (line : List ℕ) (number : ℕ) (script : ScriptLine) (end : End) → TakesScript left_old left_new script → (tells → FailsLine id port script a b end) → IsAskEnd end → DoesOf tells id port left_old left_new a b line number (Err end)
fails_of tells id port left_old left_new a b line number script Peer takes fails is = record { script = script; takes = takes; fails = fails }
fails_of tells id port left_old left_new a b line number script Garbled takes fails is = record { script = script; takes = takes; fails = fails }
fails_of tells id port left_old left_new a b line number script Memory takes fails is = inr (record { script = script; takes = takes; fails = fails })
fails_of tells id port left_old left_new a b line number script Done takes fails is = absurd is
fails_of tells id port left_old left_new a b line number script (Bad bad place) takes fails is = absurd is
fails_of tells id port left_old left_new a b line number script Limit takes fails is = absurd is
fails_of tells id port left_old left_new a b line number script ReadFault takes fails is = absurd is
fails_of tells id port left_old left_new a b line number script WriteFault takes fails is = absurd is

-- a line of the script was read, and then done or not
pub line_does : (tells : Type 0) (id port : ℕ) (left_old left_new : Option (List ℕ)) (a b : Seat) (old new : List ℕ) (number : ℕ) (script : ScriptLine) (result : Result Unit End) → old ≡ [] → TakesScript left_old left_new script → OnOk result (tells → (line : List ℕ) × DoesLine id port script a b line × (new ≡ old ++ line)) → IfErr result (λ end. tells → FailsLine id port script a b end) → IfErr result IsAskEnd → DoesOf tells id port left_old left_new a b new number result
line_does tells id port left_old left_new a b old new number script (Ok u) empty takes does fails ends =
    record { script = script; takes = takes; does = λ t. said_line id port script a b old new empty (does t) }
line_does tells id port left_old left_new a b old new number script (Err end) empty takes does fails ends =
    fails_of tells id port left_old left_new a b new number script end takes fails ends

-- doing a line is no fault of the source
pub never_read : (result : Result Unit End) → IfErr result IsAskEnd → result ≡ Err ReadFault → ⊥
never_read (Ok u) ends is = cc
never_read (Err end) ends is = let e : end ≡ ReadFault = cc in rw e at ends
