-- How the server's command ends: its status, and the lines that it prints.
use Rattle.std.specs.Prelude.{◌≡◌, ◌⊎◌, ℕ, zero, suc, ◌+◌, List, [], ◌++◌, codes, decimal, slice_index_or, ⊤, Option}
use Rattle.std.specs.Io.KnownBytes.{Appends}
use Rattle.io_core.specs.Bytes.{AppendsPrefix}
use Rattle.server_loop.specs.declared.driving.Out.{Out}
use Rattle.server_loop.specs.declared.driving.Out.TheVariants as outs
use Rattle.server_loop.specs.Failures.{failures, RoseBy}
use Rattle.server_loop.specs.declared.end.End.{End}
use Rattle.server_loop.specs.declared.end.End.TheVariants.{Bye, Port, Turns, Peer, Register, Garbled, Exhausted, TakenOver, NoQuorum, WriteFault, Memory}

abbrev pub status_of : End → ℕ
status_of Bye = 0
status_of Port = 0
status_of Turns = 0
status_of Peer = 13
status_of Register = 14
status_of Garbled = 19
status_of Exhausted = 18
status_of (TakenOver p) = 16
status_of (NoQuorum list) = 17
status_of WriteFault = 11
status_of Memory = 20

-- a node that is out, with the reason
abbrev pub out_text : ℕ → Out → List ℕ
out_text node outs.In = []
out_text node outs.Failed = codes " " ++ decimal node ++ codes ":failed"
out_text node outs.Other = codes " " ++ decimal node ++ codes ":other"

-- those of the nodes 1 to k, in order
abbrev pub outs_text : List Out → ℕ → List ℕ
outs_text list zero = []
outs_text list (suc k) = outs_text list k ++ out_text (k + 1) (slice_index_or list (k + 1) outs.In)

-- with its line feed
abbrev pub last_line : End → List ℕ
last_line Bye = codes "end bye\n"
last_line Port = codes "end port\n"
last_line Turns = codes "end turns\n"
last_line Peer = codes "! peer\n"
last_line Register = codes "! register\n"
last_line Garbled = codes "! answer\n"
last_line Exhausted = codes "! exhausted\n"
last_line (TakenOver p) = codes "! taken over by " ++ decimal p ++ codes "\n"
last_line (NoQuorum list) = codes "! no quorum" ++ outs_text list 7 ++ codes "\n"
last_line WriteFault = []
last_line Memory = []

-- the line of a server that is running after its recovery: its session, and the length of the log that it recovered
abbrev pub session_line : ℕ → ℕ → List ℕ
session_line session recovered = codes "session " ++ decimal session ++ codes " recovered " ++ decimal recovered ++ codes "\n"

-- the line of a server that has begun to listen
abbrev pub listening_line : ℕ → List ℕ
listening_line port = codes "listening " ++ decimal port ++ codes "\n"

abbrev pub IsBrokenEnd : End → Type 0
IsBrokenEnd WriteFault = ⊤
IsBrokenEnd Memory = ⊤
IsBrokenEnd _ = ⊥

-- what is printed at an end, before its last line: all of the lines, or where the output broke off or there was no
-- memory a prefix of them
abbrev pub HasPrinted : Option (List ℕ) → Option (List ℕ) → List ℕ → End → Type 0
HasPrinted old new lines WriteFault = AppendsPrefix old new lines
HasPrinted old new lines Memory = AppendsPrefix old new lines
HasPrinted old new lines _ = Appends old new lines

-- why a server that runs doesn't serve: it can't listen, or its lines can't be printed
abbrev pub IsUnannounced : Option (List ℕ) → Option (List ℕ) → List ℕ → List ℕ → End → Type 0
IsUnannounced old new first second Peer = Appends old new first
IsUnannounced old new first second WriteFault = AppendsPrefix old new (first ++ second)
IsUnannounced old new first second Memory = AppendsPrefix old new (first ++ second)
IsUnannounced old new first second _ = ⊥

-- the text that an end is the reason not to print, or a prefix of it
abbrev pub SaysPart : Option (List ℕ) → Option (List ℕ) → List ℕ → End → Type 0
SaysPart old new text WriteFault = AppendsPrefix old new text
SaysPart old new text Memory = AppendsPrefix old new text
SaysPart old new text _ = ⊥

-- the output failed, or there was no memory
abbrev pub IsBroken : ℕ → Type 0
IsBroken status = (status ≡ 11) ⊎ (status ≡ 20)

-- the text is printed, and the status is that of the end; or the output broke off, or there was no memory
abbrev pub Prints : Option (List ℕ) → Option (List ℕ) → List ℕ → ℕ → ℕ → Type 0
Prints old new text due status =
    ((status ≡ due) × Appends old new text)
    ⊎ (IsBroken status × AppendsPrefix old new text)

-- the ends of a server that has begun no session, and those of one that serves
abbrev pub IsBeginningEnd : End → Type 0
IsBeginningEnd Register = ⊤
IsBeginningEnd Garbled = ⊤
IsBeginningEnd Exhausted = ⊤
IsBeginningEnd (TakenOver p) = ⊤
IsBeginningEnd (NoQuorum list) = ⊤
IsBeginningEnd Memory = ⊤
IsBeginningEnd _ = ⊥

abbrev pub IsServingEnd : End → Type 0
IsServingEnd Bye = ⊤
IsServingEnd Port = ⊤
IsServingEnd Turns = ⊤
IsServingEnd Peer = ⊤
IsServingEnd (TakenOver p) = ⊤
IsServingEnd Memory = ⊤
IsServingEnd _ = ⊥

-- the ends of a server that has begun a session
abbrev pub IsSessionEnd : End → Type 0
IsSessionEnd Register = ⊥
IsSessionEnd Garbled = ⊥
IsSessionEnd Exhausted = ⊥
IsSessionEnd (NoQuorum list) = ⊥
IsSessionEnd _ = ⊤

-- each node that an end tells to be out by a failed exchange has a counted fault of its own
abbrev pub HasCountedOuts : End → ℕ → ℕ → Type 0
HasCountedOuts (NoQuorum list) before now = RoseBy before now (failures list)
HasCountedOuts _ before now = ⊤
