-- A register's turns, by its number, and what its file stands for after them.
use Rattle.std.proofs.Common.{◌≡◌, ◌≢◌, ℕ, List, Option, None, Some, refl, sym, ◌∙◌}
use Rattle.disk_model.specs.File.{File, IsImage}
use Rattle.session_register.specs.Values.{StandsFor, EachLeftStandsForEither}
use Rattle.wire_codec.specs.declared.message.Message.{Message}
use Rattle.wire_codec.specs.declared.message.ToRegister.{ToRegister}
use Rattle.node_loops.specs.declared.requests.Asked.{Asked}
use Rattle.node_loops.specs.declared.end.End.{End}
use Rattle.node_loops.specs.declared.end.End.TheVariants as ends
use Rattle.node_loops.specs.Serving.{Desk, desk, Runs}
use Rattle.node_loops.specs.Storage.{goes_on}
use Rattle.node_loops.specs.Registers.{number_then, register_after, IsRegisterReply, IsRegisterFault, FailsToAnswer}
use Rattle.serve_commands.specs.Registers.{Suiting, Breaking, Numbers, alone, Calling, LeavesAt, Stopping, FileStands}
use Rattle.serve_commands.proofs.Seen.{seen_runs}

-- what it is kept in stands for the number, or where the disk failed for one of two
abbrev pub LeftBy : {G : Type 0} (stands : G → ℕ → Type 0) (leaves : G → ℕ → ℕ → Type 0) → End → G → Numbers → Type 0
LeftBy stands leaves ends.Disk x n = leaves x n.number n.next
LeftBy stands leaves _ x n = stands x n.number

module _ {G : Type 0} (told : G → Option ℕ) (stands : G → ℕ → Type 0) (leaves : G → ℕ → ℕ → Type 0) where
  -- whatever the number is
  pub suiting_runs : (a b : Desk G) (end : End) → Runs G (IsRegisterReply told stands) (IsRegisterFault told stands leaves) goes_on a b end →
      Runs (Unit {0}) Suiting Breaking goes_on (desk a.coming a.answers tt) (desk b.coming b.answers tt) end
  suiting_runs a b end runs =
      (seen_runs (IsRegisterReply told stands) (IsRegisterFault told stands leaves) Suiting Breaking
      (λ _ _. Unit {0}) (λ _ _ _. Unit {0})
      (λ asked reply x y t _ r. (tt, (r.suits, tt)))
      (λ asked e x y t _ f. (tt, ((f.message, f.asked_is), tt)))
      (λ e x t _ _. tt) a b tt end tt runs).1.0

  -- it tells this number, and its file stands for it
  record IsAt (x : G) (n : Numbers) : Type 0 where
    alone_is : n ≡ alone n.number
    told_is : told x ≡ Some n.number
    stands_is : stands x n.number

  abbrev Left : End → G → Numbers → Type 0
  Left end x n = LeftBy stands leaves end x n

  kept : (end : End) (x : G) (n : Numbers) → end ≢ ends.Disk → IsAt x n → Left end x n
  kept ends.Disk x n not at = absurd (not refl)
  kept ends.Bye x n not at = at.stands_is
  kept ends.Port x n not at = at.stands_is
  kept ends.Turns x n not at = at.stands_is
  kept ends.Unheard x n not at = at.stands_is
  kept ends.Peer x n not at = at.stands_is
  kept (ends.Damaged file place) x n not at = at.stands_is
  kept (ends.TakenOver session) x n not at = at.stands_is
  kept ends.Answer x n not at = at.stands_is
  kept ends.Full x n not at = at.stands_is
  kept ends.WriteFault x n not at = at.stands_is
  kept ends.Memory x n not at = at.stands_is

  stepped : (asked : Asked) (reply : Message) (x y : G) (n : Numbers) → IsAt x n → IsRegisterReply told stands asked reply x y →
      (n' : Numbers) × (Calling asked reply n n' × IsAt y n')
  stepped asked reply x y n at is = (
    alone (register_after n.number asked),
    (
      (is.reply_is n.number at.told_is, refl),
      record {
        alone_is = refl;
        told_is = is.after n.number at.told_is;
        stands_is = is.files n.number at.told_is at.stands_is;
      },
    ),
  )

  stopped : (m : ToRegister) (end : End) (x y : G) (n : Numbers) → IsAt x n → FailsToAnswer told stands leaves m end x y →
      (n' : Numbers) × (LeavesAt m end n n' × Left end y n')
  stopped m ends.Disk x y n at fails =
      (record { number = n.number; next = number_then n.number m }, (refl, fails n.number at.told_is at.stands_is))
  stopped m ends.Memory x y n at fails = (n, (refl, fails.1 n.number at.told_is at.stands_is))
  stopped m ends.Answer x y n at fails = absurd (let never : Some n.number ≡ None = sym at.told_is ∙ fails in cc)
  stopped m ends.Bye x y n at fails = absurd fails
  stopped m ends.Port x y n at fails = absurd fails
  stopped m ends.Turns x y n at fails = absurd fails
  stopped m ends.Unheard x y n at fails = absurd fails
  stopped m ends.Peer x y n at fails = absurd fails
  stopped m (ends.Damaged file place) x y n at fails = absurd fails
  stopped m (ends.TakenOver session) x y n at fails = absurd fails
  stopped m ends.Full x y n at fails = absurd fails
  stopped m ends.WriteFault x y n at fails = absurd fails

  -- by its number
  pub calling_runs : (a b : Desk G) (end : End) (n : ℕ) → told a.server ≡ Some n → stands a.server n →
      Runs G (IsRegisterReply told stands) (IsRegisterFault told stands leaves) goes_on a b end →
      (n' : Numbers) × (Runs Numbers Calling Stopping goes_on (desk a.coming a.answers (alone n)) (desk b.coming b.answers n') end × LeftBy stands leaves end b.server n')
  calling_runs a b end n is files runs =
      seen_runs (IsRegisterReply told stands) (IsRegisterFault told stands leaves) Calling Stopping
      IsAt Left stepped
      (λ asked e x y t at f. let l = stopped f.message e x y t at f.fails in (l.0, ((f.message, (f.asked_is, l.1.0)), l.1.1)))
      kept a b (alone n) end (record { alone_is = refl; told_is = is; stands_is = files }) runs

-- what the file stands for
module _ {G : Type 0} (tells plain : Type 0) (file : G → File) where
  abbrev Stands : G → ℕ → Type 0
  Stands r n = tells → (image : List ℕ) → IsImage (file r) image → StandsFor image n

  abbrev Leaves : G → ℕ → ℕ → Type 0
  Leaves r a b = tells → EachLeftStandsForEither plain a b (file r)

  pub file_stands : (end : End) (x : G) (n : Numbers) → tells → LeftBy Stands Leaves end x n → FileStands plain end (file x) n
  file_stands ends.Disk x n t left = left t
  file_stands ends.Bye x n t left = left t
  file_stands ends.Port x n t left = left t
  file_stands ends.Turns x n t left = left t
  file_stands ends.Unheard x n t left = left t
  file_stands ends.Peer x n t left = left t
  file_stands (ends.Damaged f place) x n t left = left t
  file_stands (ends.TakenOver session) x n t left = left t
  file_stands ends.Answer x n t left = left t
  file_stands ends.Full x n t left = left t
  file_stands ends.WriteFault x n t left = left t
  file_stands ends.Memory x n t left = left t
