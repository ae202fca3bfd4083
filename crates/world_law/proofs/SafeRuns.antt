-- Every world of every run is good, and what follows from it: every run is safe, and the laws of books, sessions and clients.
use Rattle.std.proofs.Common.{◌≡◌, ℕ, zero, suc, ◌≤◌, true, arith, refl, ap, sym, ◌∙◌, subst, List, [], ◌∷◌, length, take, length-take-le, slice_get, Some}
use Rattle.std.specs.List.{AllByRecursion}
use Rattle.tx_model.specs.declared.record.Record.{Record}
use Rattle.tx_model.specs.Records.{IsLog}
use Rattle.tx_model.specs.Logs.{IsClean}
use Rattle.proto_model.specs.Servers.{length_of}
use Rattle.net_model.specs.declared.event.Event.{Event}
use Rattle.net_model.specs.declared.outcome.Outcome.{Outcome}
use Rattle.world_law.specs.Worlds.{WorldState, start}
use Rattle.world_law.specs.OneLog.{IsOneLog, one_log}
use Rattle.world_law.specs.Runs.{WorldStep, IsRun}
use Rattle.world_law.specs.Safety.{IsPrefix, IsSafe}
use Rattle.world_law.specs.Promises.{chosen_log, HasCleanBooks, Agrees, Serves}
use Rattle.world_law.specs.Laws.{InEveryWorld, EveryRunIsSafe, BooksAreClean, SessionsAgree, TheOneLogGrows, TheOneLogIsFound, TheOneLogIsALog, TheOneLogIsClean, ClientsAreServed}
use Rattle.world_law.proofs.CommitsStay.{agreement}
use Rattle.world_law.proofs.Invariant.{Holds}
use Rattle.world_law.proofs.Lists.{IsFront, HasIds, still, front_trans}
use Rattle.world_law.proofs.OneLog.{begins_of, committed_safe, one_log_clean, one_log_ids, one_log_grows}
use Rattle.world_law.proofs.OneLogFound.{found}
use Rattle.world_law.proofs.Steps.{Good, good_start, Ahead, ahead}

pub step_ahead : (old : WorldState) (event : Event) (outcome : Outcome) (new : WorldState) → Good old → WorldStep old event outcome new → Ahead old new
step_ahead old event outcome new g step = subst (Ahead old) (sym step.new_is) (ahead old g step.fate event step.allowed)

-- each world comes by such a step
abbrev pub Chain : WorldState → List WorldState → Type 0
Chain old [] = Unit {0}
Chain old (w ∷ worlds) = Ahead old w × Chain w worlds

chain : (old : WorldState) (events : List Event) (outcomes : List Outcome) (worlds : List WorldState) → Good old → IsRun old events outcomes worlds
    → Chain old worlds
chain old [] [] [] g run = tt
chain old (e ∷ es) (o ∷ os) (w ∷ ws) g run =
    let next : Ahead old w = step_ahead old e o w g run.0 in
    (next, chain w es os ws next.good run.1)
chain old [] [] (w ∷ ws) g run = absurd run
chain old [] (o ∷ os) ws g run = absurd run
chain old (e ∷ es) [] ws g run = absurd run
chain old (e ∷ es) (o ∷ os) [] g run = absurd run

-- what follows from the invariant holds in every world
in_chain : (P : WorldState → Type 0) → ((w : WorldState) → Good w → P w) → (old : WorldState) (worlds : List WorldState) → Good old
    → Chain old worlds → AllByRecursion P (old ∷ worlds)
in_chain P f old [] g steps = (f old g, tt)
in_chain P f old (w ∷ ws) g steps = (f old g, in_chain P f w ws steps.0.good steps.1)

pub in_every_world : (P : WorldState → Type 0) → ((w : WorldState) → Good w → P w) → InEveryWorld P
in_every_world P f c events outcomes worlds run =
    in_chain P f (start c) worlds (good_start c) (chain (start c) events outcomes worlds (good_start c) run)

-- ---- safety

log_of : (log : List Record) → HasIds log → IsLog log
log_of log ids k other lt = ids k other lt

safe_world : (w : WorldState) → Good w → IsSafe w
safe_world w g = record {
  found = found w g.holds;
  numbered = log_of (one_log w) (one_log_ids w g.holds);
  committed = committed_safe w g.holds;
  clean = one_log_clean w g.holds;
  applied = g.served.applied;
}

log_grown_to : (old : WorldState) (worlds : List WorldState) (j : ℕ) (w : WorldState) → Good old → Chain old worlds
    → slice_get (old ∷ worlds) j ≡ Some w → IsFront (one_log old) (one_log w)
log_grown_to old worlds zero w g steps is = let same : old ≡ w = cc in subst (λ x. IsFront (one_log old) (one_log x)) same (still (one_log old))
log_grown_to old [] (suc j) w g steps is = absurd cc
log_grown_to old (x ∷ ws) (suc j) w g steps is =
    front_trans (one_log old) (one_log x) (one_log w) (one_log_grows old x g.holds steps.0.later) (log_grown_to x ws j w steps.0.good steps.1 is)

log_grown : (old : WorldState) (worlds : List WorldState) (i j : ℕ) (v w : WorldState) → Good old → Chain old worlds
    → i ≤ j → slice_get (old ∷ worlds) i ≡ Some v → slice_get (old ∷ worlds) j ≡ Some w → IsFront (one_log v) (one_log w)
log_grown old worlds zero j v w g steps less is is' =
    let same : old ≡ v = cc in subst (λ x. IsFront (one_log x) (one_log w)) same (log_grown_to old worlds j w g steps is')
log_grown old worlds (suc i) zero v w g steps less is is' = absurd (omega arith)
log_grown old [] (suc i) (suc j) v w g steps less is is' = absurd cc
log_grown old (x ∷ ws) (suc i) (suc j) v w g steps less is is' = log_grown x ws i j v w steps.0.good steps.1 (omega arith) is is'

pub every_run : EveryRunIsSafe
every_run c events outcomes worlds run =
    let steps = chain (start c) events outcomes worlds (good_start c) run in
    record {
      each = in_chain IsSafe safe_world (start c) worlds (good_start c) steps;
      grows = λ i j v w less is is'. begins_of (one_log v) (one_log w) (log_grown (start c) worlds i j v w (good_start c) steps less is is');
    }

-- ---- books

nothing_left : (log : List Record) → length log ≤ 0 → log ≡ []
nothing_left [] none = refl
nothing_left (r ∷ log) none = absurd (omega arith)

clean_books : (w : WorldState) → Good w → HasCleanBooks w
clean_books w g = record {
  clean = g.holds.clean;
  nodes = λ i. begins_of (w.nodes i).log (w.books (w.nodes i).adopted).log (g.holds.nodes i).front;
  none = λ i e. nothing_left (w.nodes i).log (let none = g.holds.none in let fits = rw (e, none) at (g.holds.nodes i).front.fits in fits);
}

pub books_clean : BooksAreClean
books_clean = in_every_world HasCleanBooks clean_books

-- ---- sessions

begins_at : (xs ys : List Record) (k : ℕ) → k ≤ length xs → k ≤ length ys → take k xs ≡ take k ys → IsPrefix (take k xs) ys
begins_at xs ys k fits fits' e =
    let l : length (take k xs) ≡ k = length-take-le k xs fits in
    record { fits = omega (arith, l); same = ap (λ (j : ℕ). take j ys) l ∙ sym e }

-- the chosen log has the length that was reported
chosen_long : (w : WorldState) → Holds w → (t : ℕ) → (w.books t).repaired ≡ true → (k : ℕ) → k ≤ length_of (w.books t).choice
    → k ≤ length (chosen_log w t)
chosen_long w h t came k le =
    let r = h.repaired t came in
    let f = h.choices t r.0 r.1 in
    let l : length (take r.0.length (w.books r.0.adopted).log) ≡ r.0.length = length-take-le r.0.length (w.books r.0.adopted).log f.fits in
    let le' : k ≤ r.0.length = rw r.1 at le in
    rw r.1 (omega (arith, l, le'))

agrees : (w : WorldState) → Good w → Agrees w
agrees w g = record {
  later = λ s k t c lt came.
      (let a = agreement w g.holds s k t c lt came in
      begins_at (w.books s).log (chosen_log w t) k a.fits (chosen_long w g.holds t came k a.long) a.same);
  committed = committed_safe w g.holds;
}

pub sessions_agree : SessionsAgree
sessions_agree = in_every_world Agrees agrees

-- ---- the one log

pub log_grows : TheOneLogGrows
log_grows c events outcomes worlds run = (every_run c events outcomes worlds run).grows

pub log_found : TheOneLogIsFound
log_found = in_every_world (λ (w : WorldState). IsOneLog w (one_log w)) (λ w g. found w g.holds)

pub log_numbered : TheOneLogIsALog
log_numbered = in_every_world (λ (w : WorldState). IsLog (one_log w)) (λ w g. log_of (one_log w) (one_log_ids w g.holds))

pub log_clean : TheOneLogIsClean
log_clean = in_every_world (λ (w : WorldState). IsClean (one_log w)) (λ w g. one_log_clean w g.holds)

-- ---- clients

serves : (w : WorldState) → Good w → Serves w
serves w g = record { told = g.served.sent; applied = g.served.applied }

pub clients_served : ClientsAreServed
clients_served = in_every_world Serves serves
