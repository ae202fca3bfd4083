-- A register's command over a disk: what it makes of the requests, and what the disk stands for afterwards.
use Rattle.std.specs.Prelude.{◌≡◌, ℕ, List, Option}
use Rattle.io_core.specs.Ports.{Answered}
use Rattle.tx_model.specs.Framing.{meta_len}
use Rattle.disk_model.specs.File.{File, IsImage}
use Rattle.disk_model.specs.Frames.{HasFirmFrames}
use Rattle.disk_model.specs.History.{History, EachMoment}
use Rattle.session_register.specs.Values.{StandsFor, EachLeftStandsFor, EachLeftStandsForEither, IsDamagedAt}
use Rattle.wire_codec.specs.declared.message.ToRegister.{ToRegister}
use Rattle.node_loops.specs.declared.requests.Asked.TheVariants as asks
use Rattle.node_loops.specs.declared.end.End.{End}
use Rattle.node_loops.specs.declared.end.End.TheVariants as ends
use Rattle.node_loops.specs.Ends.{status_of, last_line, serving_text, Prints}
use Rattle.node_loops.specs.Serving.{desk, Replying, Failing, Runs}
use Rattle.node_loops.specs.Storage.{goes_on}
use Rattle.node_loops.specs.Registers.{number_then, register_reply, register_after, SuitsRegister}

-- ---- whatever the number is

abbrev pub Suiting : Replying (Unit {0})
Suiting asked reply a b = SuitsRegister asked reply

abbrev pub Breaking : Failing (Unit {0})
Breaking asked end a b = (m : ToRegister) × (asked ≡ asks.Register m)

-- ---- by its number

-- the number, and where the disk failed in a call the one that it would have come to, else the same
pub record Numbers : Type 0 where
  pub number : ℕ
  pub next : ℕ

abbrev pub alone : ℕ → Numbers
alone n = record { number = n; next = n }

abbrev pub Calling : Replying Numbers
Calling asked reply a b = (reply ≡ register_reply a.number asked) × (b ≡ alone (register_after a.number asked))

abbrev pub LeavesAt : ToRegister → End → Numbers → Numbers → Type 0
LeavesAt m ends.Disk a b = b ≡ record { number = a.number; next = number_then a.number m }
LeavesAt m ends.Memory a b = b ≡ a
LeavesAt m _ a b = ⊥

abbrev pub Stopping : Failing Numbers
Stopping asked end a b = (m : ToRegister) × ((asked ≡ asks.Register m) × LeavesAt m end a b)

-- ---- the command

-- What the file stands for, whatever a crash leaves of it: the number, or one of two where the disk failed.
abbrev pub FileStands : Type 0 → End → File → Numbers → Type 0
FileStands plain ends.Disk file n = EachLeftStandsForEither plain n.number n.next file
FileStands plain _ file n = (image : List ℕ) → IsImage file image → StandsFor image n.number

-- From this number the calls go from number to number, and the file stands for the one after them.
pub record GoesFrom (plain : Type 0) (n : ℕ) (coming coming' : List (List ℕ)) (answers answers' : List Answered) (end : End) (file : File) : Type 0 where
  pub after : Numbers
  pub runs : Runs Numbers Calling Stopping goes_on (desk coming answers (alone n)) (desk coming' answers' after) end
  pub stands : FileStands plain end file after

-- what a disk is like whose file could not be loaded
abbrev pub IsUnloaded : (tells plain : Type 0) → History → History → End → Type 0
IsUnloaded tells plain old new ends.Disk =
    tells → HasFirmFrames meta_len (old.now 0) → (n : ℕ) → StandsFor (old.now 0).reads n → EachMoment 0 (EachLeftStandsFor plain n) old new
IsUnloaded tells plain old new (ends.Damaged file at) =
    (file ≡ 0) × (tells → IsDamagedAt (old.now 0).reads at × (new ≡ old))
IsUnloaded tells plain old new ends.Memory = tells → new ≡ old
IsUnloaded tells plain old new _ = ⊥

-- It is loaded and serves, or isn't loaded and prints its last line alone. heard says whether the port tells.
pub data IsRegister (tells plain heard : Type 0) (number : ℕ) (old new : History) (coming coming' : List (List ℕ)) (answers answers' : List Answered) : List ℕ → End → Type 0 where
  unloaded : (end : End) → IsUnloaded tells plain old new end → coming' ≡ coming → answers' ≡ answers
      → IsRegister tells plain heard number old new coming coming' answers answers' (last_line end) end
  loaded : (end : End)
      → (heard → Runs (Unit {0}) Suiting Breaking goes_on (desk coming answers tt) (desk coming' answers' tt) end)
      → (tells → (n : ℕ) × (StandsFor (old.now 0).reads n
      × (heard → GoesFrom plain n coming coming' answers answers' end (new.now 0))))
      → IsRegister tells plain heard number old new coming coming' answers answers' (serving_text number end) end

-- What the command does: what is answered and printed, and what the disk stands for then.
abbrev pub ServesRegister : (tells plain heard : Type 0) (number : ℕ) (old new : History) (coming coming' : List (List ℕ)) (answers answers' : List Answered) (held_old held_new : Option (List ℕ)) (status : ℕ) → Type 0
ServesRegister tells plain heard number old new coming coming' answers answers' held_old held_new status =
    (end : End) × (text : List ℕ) × IsRegister tells plain heard number old new coming coming' answers answers' text end × Prints held_old held_new text (status_of end) status
