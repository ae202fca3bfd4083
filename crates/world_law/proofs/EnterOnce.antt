-- Two places of the one log with one client's request hold one transaction, which has no write lock.
use Rattle.std.proofs.Common.{Contains, ◌≡◌, ℕ, zero, suc, ◌<◌, ◌⊎◌, arith, refl, ap, sym, inl, inr, subst, List, [], ◌∷◌, ◌++◌, Option, Some, None}
use Rattle.proto_model.proofs.TableLemmas.{AllByRecursion-get}
use Rattle.client_core.specs.Clients.{built}
use Rattle.world_law.specs.OneLog.{committed_length, longest, one_log}
use Rattle.world_law.specs.Worlds.{WorldState, start}
use Rattle.world_law.specs.Steps.{asked, submission, submitted}
use Rattle.net_model.specs.declared.cluster.Cluster.{Cluster}
use Rattle.net_model.specs.declared.mail.Envelope.{Envelope}
use Rattle.std.proofs.lemmas.List.Elements.{Contains-append_right}
use Rattle.std.specs.List.{AllByRecursion}
use Rattle.tx_model.specs.Logs.{record_at}
use Rattle.tx_model.specs.Transactions.{Transaction}
use Rattle.tx_model.specs.declared.record.Record.{Record}
use Rattle.world_law.proofs.Requests.{IsAsked, asked_split, asked_left, asked_right, StepAsks, step_asks}
use Rattle.proto_model.specs.declared.refusal.BuildFault.{BuildFault}
use Rattle.client_core.specs.Building.{build_refusal}
use Rattle.net_model.specs.declared.event.Event.{Event}
use Rattle.net_model.specs.declared.outcome.Outcome.{Outcome}
use Rattle.world_law.specs.Steps.{Fate, Allows, happens}
use Rattle.world_law.specs.Runs.{WorldStep, IsRun}
use Rattle.world_law.proofs.Steps.{Good, good_start}
use Rattle.world_law.proofs.SafeRuns.{step_ahead}
use Rattle.world_law.proofs.Origins.{Made}
use Rattle.world_law.proofs.OriginEvents.{WorldMade, world_more, NewHas, step_made, start_made}
use Rattle.world_law.proofs.OneLog.{one_log_clean}
use Rattle.world_law.proofs.Served.{all_taken}
use Rattle.world_law.specs.Laws.{RequestsEnterOnce}
use Rattle.world_law.specs.Gains.{HasNoRepeats}
use Rattle.proto_model.specs.declared.client_message.ToServer.TheVariants as to_server
use Rattle.net_model.specs.declared.event.Event.TheVariants as event

pub record Requests (w : WorldState) : Type 0 where
  -- of one client's request one transaction was sent
  pub once : (tx ux : Transaction) → IsAsked w.sent tx → IsAsked w.sent ux → tx.client ≡ ux.client → tx.request ≡ ux.request → tx ≡ ux
  pub counted : (tx : Transaction) → IsAsked w.sent tx → tx.request < (w.clients tx.client).request
  pub made : WorldMade (IsAsked w.sent) w

-- a new transaction has its client's next number, which none before it had
new_number : (w new : WorldState) → Requests w → StepAsks w new → (tx ux : Transaction) → (a : StepAsks w new) → IsAsked w.sent tx
    → IsAsked a.more ux → tx.client ≡ ux.client → tx.request ≡ ux.request → ⊥
new_number w new r s tx ux a old more client request =
    let below = r.counted tx old in
    let at = a.number ux more in
    let same : (w.clients tx.client).request ≡ (w.clients ux.client).request = ap (λ (c : ℕ). (w.clients c).request) client in
    omega (arith, below, at, same, request)

once_by : (w new : WorldState) → Requests w → (a : StepAsks w new) → (tx ux : Transaction) → IsAsked w.sent tx ⊎ IsAsked a.more tx
    → IsAsked w.sent ux ⊎ IsAsked a.more ux → tx.client ≡ ux.client → tx.request ≡ ux.request → tx ≡ ux
once_by w new r a tx ux (inl f) (inl g) client request = r.once tx ux f g client request
once_by w new r a tx ux (inl f) (inr g) client request = absurd (new_number w new r a tx ux a f g client request)
once_by w new r a tx ux (inr f) (inl g) client request = absurd (new_number w new r a ux tx a g f (sym client) (sym request))
once_by w new r a tx ux (inr f) (inr g) client request = a.one tx ux f g

counted_by : (w new : WorldState) → Requests w → (a : StepAsks w new) → (tx : Transaction) → IsAsked w.sent tx ⊎ IsAsked a.more tx
    → tx.request < (new.clients tx.client).request
counted_by w new r a tx (inl f) = let below = r.counted tx f in let counts = a.counts tx.client in omega arith
counted_by w new r a tx (inr f) = a.counted tx f

asked_of : (w new : WorldState) → (a : StepAsks w new) → (tx : Transaction) → IsAsked new.sent tx → IsAsked w.sent tx ⊎ IsAsked a.more tx
asked_of w new a tx is = asked_split w.sent a.more tx (subst (λ (l : List Envelope). IsAsked l tx) a.sent is)

appended_has : (w : WorldState) (c v : ℕ) (writes reads : List (List ℕ)) (ops : List ℕ) (o : Option BuildFault) → o ≡ None
    → IsAsked (submitted w c (submission w c v writes reads ops) o).sent (built (w.clients c) c writes reads ops)
appended_has w c v writes reads ops o none =
    let tx = built (w.clients c) c writes reads ops in
    subst (λ (x : Option BuildFault). IsAsked (submitted w c (submission w c v writes reads ops) x).sent tx) (sym none)
    (asked_right w.sent (asked c v (to_server.Append tx) ∷ []) tx (inl refl))

new_has : (w : WorldState) (fate : Fate) (e : Event) → NewHas (IsAsked (happens w fate e).sent) w e
new_has w fate (event.Append c v writes reads ops) = appended_has w c v writes reads ops (build_refusal (w.clients c) writes reads ops)
new_has w fate (event.Read v) = tt
new_has w fate (event.Cas v) = tt
new_has w fate (event.Waste v) = tt
new_has w fate (event.Tick v) = tt
new_has w fate event.Next = tt
new_has w fate event.Skip = tt
new_has w fate (event.Deliver k) = tt
new_has w fate (event.Tear k bytes) = tt
new_has w fate (event.Crash i) = tt
new_has w fate (event.Restart v) = tt
new_has w fate (event.Reboot c) = tt
new_has w fate (event.Ask c v) = tt
new_has w fate (event.Flush c v) = tt
new_has w fate (event.Show i) = tt
new_has w fate (event.Server v) = tt
new_has w fate (event.App c) = tt
new_has w fate (event.Log from) = tt
new_has w fate (event.Dump i file at) = tt

happens_requests : (w : WorldState) (fate : Fate) (e : Event) → Requests w → Allows w e fate → Requests (happens w fate e)
happens_requests w fate e r may =
    let new = happens w fate e in
    let a = step_asks w fate e in
    let P = IsAsked new.sent in
    record {
      once = λ tx ux f g. once_by w new r a tx ux (asked_of w new a tx f) (asked_of w new a ux g);
      counted = λ tx f. counted_by w new r a tx (asked_of w new a tx f);
      made = step_made P w fate e
          (world_more (IsAsked w.sent) P (λ tx f. subst (λ (l : List Envelope). IsAsked l tx) (sym a.sent) (asked_left w.sent a.more tx f)) w r.made)
          (new_has w fate e) may;
    }

requests_step : (old : WorldState) (e : Event) (o : Outcome) (new : WorldState) → Requests old → WorldStep old e o new → Requests new
requests_step old e o new r step = subst Requests (sym step.new_is) (happens_requests old step.fate e r step.allowed)

start_requests : (c : Cluster) → Requests (start c)
start_requests c = record { once = λ tx ux f. absurd f; counted = λ tx f. absurd f; made = start_made (IsAsked []) c }

-- what a clean log says of two records with one transaction

first_of : (lock : List ℕ) (locks : List (List ℕ)) → Contains (lock ∷ locks) lock
first_of lock locks = (zero, omega arith, refl)

writes_none : (reads writes : List (List ℕ)) → ((lock : List ℕ) → Contains writes lock → ¬ Contains (reads ++ writes) lock) → writes ≡ []
writes_none reads [] f = refl
writes_none reads (lock ∷ writes) f =
    let held = first_of lock writes in
    absurd (f lock held (Contains-append_right reads (lock ∷ writes) lock held))

pub at_made : (P : Transaction → Type 0) (log : List Record) → Made P log → (t : ℕ) (r : Record) → record_at log t ≡ Some r → P r.tx
at_made P log all zero r is = absurd cc
at_made P log all (suc k) r is = AllByRecursion-get (λ (x : Record). P x.tx) log k r all is

no_repeats : (w : WorldState) → Good w → Requests w → HasNoRepeats (one_log w)
no_repeats w g r u t earlier later less at_u at_t client request =
    let P = IsAsked w.sent in
    let s = longest w w.number in
    let all : Made P (one_log w) = all_taken (λ (x : Record). P x.tx) (committed_length w s) (w.books s).log (r.made.books s) in
    let same : earlier.tx ≡ later.tx = r.once earlier.tx later.tx (at_made P (one_log w) all u earlier at_u)
    (at_made P (one_log w) all t later at_t) client request in
    let clean = one_log_clean w g.holds in
    let mark : earlier.tx.mark ≡ later.tx.mark = ap (λ (x : Transaction). x.mark) same in
    let below = clean.below u earlier at_u in (
      same,
      writes_none later.tx.reads later.tx.writes (λ lock held.
          clean.apart t u later earlier lock at_t at_u (omega (arith, mark, below)) less
          (subst (λ (x : Transaction). Contains x.writes lock) (sym same) held)),
    )

in_run : (old : WorldState) (events : List Event) (outcomes : List Outcome) (worlds : List WorldState) → Good old → Requests old
    → IsRun old events outcomes worlds
    → AllByRecursion (λ (w : WorldState). HasNoRepeats (one_log w)) (old ∷ worlds)
in_run old [] [] [] g r run = (no_repeats old g r, tt)
in_run old (e ∷ es) (o ∷ os) (w ∷ ws) g r run =
    (no_repeats old g r, in_run w es os ws (step_ahead old e o w g run.0).good (requests_step old e o w r run.0) run.1)
in_run old [] [] (w ∷ ws) g r run = absurd run
in_run old [] (o ∷ os) ws g r run = absurd run
in_run old (e ∷ es) [] ws g r run = absurd run
in_run old (e ∷ es) (o ∷ os) [] g r run = absurd run

pub enter_once : RequestsEnterOnce
enter_once c events outcomes worlds run = in_run (start c) events outcomes worlds (good_start c) (start_requests c) run
