-- What each reply keeps of a server's state, a drive keeps.
use Rattle.std.proofs.Common.{ℕ, ◌+◌, ◌≤◌, Bool, true, false, List, sym, subst, arith}
use Rattle.proto_model.specs.declared.message.FromNode.{FromNode}
use Rattle.proto_model.specs.Servers.{Config, ServerState, server_after}
use Rattle.server_loop.specs.declared.awaiting.Answer.{Answer}
use Rattle.server_loop.specs.declared.awaiting.Answer.TheVariants as answer
use Rattle.server_loop.specs.Drives.{Driving, IsVisit, IsInRound, AreRounds, at_start, visited, none, round, state_after}

-- it lasts over every reply of a node
abbrev pub Lasts : Config → (ServerState → Type 0) → Type 0
Lasts c P = (sv : ServerState) (i : ℕ) (m : FromNode) → 1 ≤ i → i ≤ c.nodes → P sv → P (server_after c sv i m)

answer_keeps : (c : Config) (P : ServerState → Type 0) (sv : ServerState) (i : ℕ) (a : Answer) → Lasts c P → 1 ≤ i → i ≤ c.nodes → P sv → P (state_after c sv i a)
answer_keeps c P sv i (answer.From m) lasts some low p = lasts sv i m some low p
answer_keeps c P sv i answer.Garbled lasts some low p = p
answer_keeps c P sv i answer.Failed lasts some low p = p

visit_keeps : (c : Config) (P : ServerState → Type 0) (ports : List ℕ) (i : ℕ) (more : Bool) (b d : Driving) → Lasts c P → IsVisit c ports i more b d → 1 ≤ i → i ≤ c.nodes → P b.state → P d.state
visit_keeps c P ports i true b d lasts visit some low p = subst P (sym visit.state) (answer_keeps c P b.state i visit.answer lasts some low p)
visit_keeps c P ports i false b d lasts visit some low p = subst (λ (x : Driving). P x.state) (sym visit.0) p

pub round_keeps : (c : Config) (P : ServerState → Type 0) (ports : List ℕ) (a : Driving) (k : ℕ) (sent : Bool) (d : Driving) → Lasts c P → IsInRound c ports a k sent d → k ≤ c.nodes → P a.state → P d.state
round_keeps c P ports a _ _ _ lasts at_start low p = p
round_keeps c P ports a _ _ _ lasts (visited k sent more b d before works visit) low p =
    visit_keeps c P ports (k + 1) more b d lasts visit (omega arith) low (round_keeps c P ports a k sent b lasts before (omega (arith, low)) p)

pub rounds_keep : (c : Config) (P : ServerState → Type 0) (ports : List ℕ) (a d : Driving) → Lasts c P → AreRounds c ports a d → P a.state → P d.state
rounds_keep c P ports a _ lasts none p = p
rounds_keep c P ports a _ lasts (round b d before last) p = round_keeps c P ports b c.nodes true d lasts last.0 (omega arith) (rounds_keep c P ports a b lasts before p)
