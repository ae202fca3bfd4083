-- What holds of books, sessions and clients in every world of every run.
use Rattle.std.specs.Prelude.{◌≡◌, ℕ, ◌<◌, true, List, [], take, Option, Some, None, ⊤}
use Rattle.std.specs.List.{AllByRecursion}
use Rattle.tx_model.specs.declared.record.Record.{Record}
use Rattle.tx_model.specs.declared.record.Head.{Head}
use Rattle.tx_model.specs.Records.{head_of}
use Rattle.tx_model.specs.Logs.{record_at, IsClean}
use Rattle.proto_model.specs.declared.message.Report.{Report}
use Rattle.proto_model.specs.declared.client_message.FromServer.{FromServer}
use Rattle.proto_model.specs.declared.client_message.FromServer.TheVariants.{Heads, Entry}
use Rattle.net_model.specs.declared.mail.Mail.{Mail}
use Rattle.net_model.specs.declared.mail.Mail.TheVariants as mail
use Rattle.net_model.specs.declared.mail.Envelope.{Envelope}
use Rattle.world_law.specs.Worlds.{WorldState, Book}
use Rattle.world_law.specs.OneLog.{IsCommitted, one_log}
use Rattle.world_law.specs.Safety.{IsPrefix, IsOnOneLog, IsApplied}

-- ---- books

-- every book is clean, and each node's log begins that of its adopted session
pub record HasCleanBooks (w : WorldState) : Type 0 where
  pub clean : (session : ℕ) → IsClean (w.books session).log
  pub nodes : (node : ℕ) → IsPrefix (w.nodes node).log (w.books (w.nodes node).adopted).log
  pub none : (node : ℕ) → (w.nodes node).adopted ≡ 0 → (w.nodes node).log ≡ []

-- ---- sessions

-- what a session chose, of these books
abbrev pub chosen_from : (ℕ → Book) → Option Report → List Record
chosen_from books None = []
chosen_from books (Some r) = take r.length (books r.adopted).log

abbrev pub chosen_log : WorldState → ℕ → List Record
chosen_log w session = chosen_from w.books (w.books session).choice

-- what is committed begins the chosen log of each later session that came to repairing, and the one log
pub record Agrees (w : WorldState) : Type 0 where
  pub later : (session k next : ℕ) → IsCommitted w session k → session < next → (w.books next).repaired ≡ true →
      IsPrefix (take k (w.books session).log) (chosen_log w next)
  pub committed : (session k : ℕ) → IsCommitted w session k → IsOnOneLog w session k

-- ---- clients

-- the head of the record that stands in the log at its id
pub record IsHeadIn (log : List Record) (head : Head) : Type 0 where
  pub of : Record
  pub stands : record_at log head.id ≡ Some of
  pub same : head ≡ head_of of

-- each head and each entry stands in the log at its id
abbrev pub Stands : List Record → FromServer → Type 0
Stands log (Heads from committed heads) = AllByRecursion (IsHeadIn log) heads
Stands log (Entry r) = record_at log r.id ≡ Some r
Stands log _ = ⊤

abbrev pub MailStands : List Record → Mail → Type 0
MailStands log (mail.FromServer m) = Stands log m
MailStands log _ = ⊤

abbrev pub AllStand : List Record → List Envelope → Type 0
AllStand log sent = AllByRecursion (λ (e : Envelope). MailStands log e.message) sent

-- what clients are told stands in the one log, and each application is serial
pub record Serves (w : WorldState) : Type 0 where
  pub told : AllStand (one_log w) w.sent
  pub applied : (client : ℕ) → IsApplied (one_log w) (w.clients client)
