-- A transaction that was built and sent, and whose answer ends the script.
use Rattle.std.proofs.Common.{◌≡◌, ℕ, List, None, Result, Ok, Err}
use Rattle.std.specs.Prelude.{IfErr}
use Rattle.tx_model.specs.Transactions.{Transaction}
use Rattle.proto_model.specs.declared.client_message.ToServer.TheVariants as to_server
use Rattle.client_core.specs.Clients.{built}
use Rattle.client_core.specs.Building.{build_refusal}
use Rattle.client_loop.specs.declared.end.End.{End}
use Rattle.client_loop.specs.Texts.{append_line}
use Rattle.client_loop.specs.Scripts.{Seat, IsUnsaid, IsUnsubmitted}

pub unsubmitted : (tells : Type 0) (id port : ℕ) (writes reads : List (List ℕ)) (ops : List ℕ) (a b : Seat) (tx : Transaction) (result : Result Unit End) → build_refusal a.client writes reads ops ≡ None → tx ≡ built a.client id writes reads ops → IfErr result (λ end. tells → IsUnsaid port (to_server.Append tx) (append_line tx.request) a.past b.past end) → IfErr result (λ end. tells → IsUnsubmitted id port writes reads ops a b end)
unsubmitted tells id port writes reads ops a b tx (Ok u) fits same unsaid = tt
unsubmitted tells id port writes reads ops a b tx (Err end) fits same unsaid =
    λ t. record { sent = λ _. fits; unsaid = rw same at (unsaid t) }
