-- All of a run, from its parts.
use Rattle.std.proofs.Common.{◌≡◌, ℕ, List, [], ◌++◌, length, sym, refl, Option, Result, Ok, Err}
use Rattle.io_core.specs.Ports.{Answered}
use Rattle.io_core.specs.Links.{Exchange}
use Rattle.io_core.proofs.Known.{Appends-nothing}
use Rattle.proto_model.specs.Servers.{drawn}
use Rattle.server_loop.specs.declared.driving.Out.{Out}
use Rattle.server_loop.specs.declared.end.End.{End}
use Rattle.server_loop.specs.declared.end.End.TheVariants.{Bye, Port, Turns, Peer, Register, Garbled, Exhausted, TakenOver, NoQuorum, WriteFault, Memory}
use Rattle.session_register.specs.declared.register.Cas.{Cas}
use Rattle.session_register.specs.declared.register.Cas.TheVariants as cas
use Rattle.session_register.specs.declared.register.RegisterFault.{RegisterFault}
use Rattle.session_register.specs.declared.register.RegisterFault.TheVariants as faults
use Rattle.server_loop.specs.Registers.{IsDraw}
use Rattle.server_loop.specs.Turns.{Desk, desk}
use Rattle.server_loop.specs.Serving.{Standing, standing, IsFreshDrive, IsFreshCut, Serves}
use Rattle.server_loop.specs.Sessions.{Post, Begins, IsRecovered, IsCutRecovery, Runs, undrawn, unbegun, unheard, unprinted, served, session_of}
use Rattle.server_loop.specs.Ends.{session_line, listening_line, HasPrinted, IsUnannounced}
use Rattle.server_loop.proofs.Printing.{all_printed}

won_of : (answer : Result Cas RegisterFault) (session : ℕ) → session_of answer ≡ Ok session → answer ≡ Ok (cas.Won session)
won_of (Ok (cas.Won won)) session e = let f : won ≡ session = cc in rw f refl
won_of (Ok (cas.Lost other)) session e = absurd (cc)
won_of (Ok cas.Exhausted) session e = absurd (cc)
won_of (Err faults.Failed) session e = absurd (cc)
won_of (Err faults.Garbled) session e = absurd (cc)
won_of (Err faults.Memory) session e = absurd (cc)

pub drew_none : (at : Post) (old : List Exchange) (b : Standing) (answer : Result Cas RegisterFault) (end : End) → IsDraw at.register old b.past answer → Err end ≡ session_of answer → Begins at old b (Err end)
drew_none at old b answer end draw e = undrawn b answer end draw (sym e)

pub recovery : (at : Post) (old between : List Exchange) (b : Standing) (answer : Result Cas RegisterFault) (session : ℕ) (out : List Out) → IsDraw at.register old between answer → Ok session ≡ session_of answer →
    IsFreshDrive at.config at.nodes (standing (drawn session) between) b out → IsRecovered at old b session out
recovery at old between b answer session out draw e drive = record { between = between; draw = rw (won_of answer session (sym e)) at draw; driven = drive }

pub cut_recovery : (at : Post) (old between new : List Exchange) (answer : Result Cas RegisterFault) (session : ℕ) → IsDraw at.register old between answer → Ok session ≡ session_of answer →
    IsFreshCut at.config at.nodes (standing (drawn session) between) new → IsCutRecovery at old new session
cut_recovery at old between new answer session draw e cut = record { between = between; draw = rw (won_of answer session (sym e)) at draw; cut = cut }

-- a run that ends before it serves prints no line but the last
pub unbegun_run : (at : Post) (old : List Exchange) (coming : List (List ℕ)) (answers : List Answered) (b : Standing) (x : Option (List ℕ)) (end : End) →
    (lines : List ℕ) × HasPrinted x x lines end × (Begins at old b (Err end) → Runs at old coming answers (desk coming answers b) lines end)
unbegun_run at old coming answers b x end = ([], all_printed x x [] end (Appends-nothing x), λ begins. unbegun b end begins)

pub unannounced_run : (at : Post) (old : List Exchange) (coming coming' : List (List ℕ)) (answers answers' : List Answered) (b : Standing) (s len : ℕ) (x y : Option (List ℕ)) (end : End) →
    len ≡ length b.state.log → IsUnannounced x y (session_line s len) (listening_line at.number) end →
    (lines : List ℕ) × HasPrinted x y lines end × (Begins at old b (Ok s) → coming' ≡ coming → answers' ≡ answers → Runs at old coming answers (desk coming' answers' b) lines end)
unannounced_run at old coming coming' answers answers' b s len x y Peer e h = (session_line s len, h, λ begins same same'. rw (e, same, same') (unheard b s begins))
unannounced_run at old coming coming' answers answers' b s len x y WriteFault e h = (session_line s len ++ listening_line at.number, h, λ begins same same'. rw (e, same, same') (unprinted b s WriteFault begins tt))
unannounced_run at old coming coming' answers answers' b s len x y Memory e h = (session_line s len ++ listening_line at.number, h, λ begins same same'. rw (e, same, same') (unprinted b s Memory begins tt))
unannounced_run at old coming coming' answers answers' b s len x y Bye e h = absurd h
unannounced_run at old coming coming' answers answers' b s len x y Port e h = absurd h
unannounced_run at old coming coming' answers answers' b s len x y Turns e h = absurd h
unannounced_run at old coming coming' answers answers' b s len x y Register e h = absurd h
unannounced_run at old coming coming' answers answers' b s len x y Garbled e h = absurd h
unannounced_run at old coming coming' answers answers' b s len x y Exhausted e h = absurd h
unannounced_run at old coming coming' answers answers' b s len x y (TakenOver p) e h = absurd h
unannounced_run at old coming coming' answers answers' b s len x y (NoQuorum out) e h = absurd h

pub served_run : (at : Post) (old : List Exchange) (coming coming' : List (List ℕ)) (answers answers' : List Answered) (b : Standing) (s len : ℕ) (d : Desk Standing) (end : End) →
    len ≡ length b.state.log → Begins at old b (Ok s) → coming' ≡ coming → answers' ≡ answers → Serves at.config at.nodes (desk coming' answers' b) d end →
    Runs at old coming answers d (session_line s len ++ listening_line at.number) end
served_run at old coming coming' answers answers' b s len d end e begins same same' serves = rw e (served b s d end begins (rw (same, same') at serves))
