-- What is shown of a server.
use Rattle.std.proofs.Common.{◌≡◌, ℕ, refl, subst, length}
use Rattle.proto_model.specs.declared.message.Phase.{Phase}
use Rattle.proto_model.specs.declared.message.Phase.TheVariants.{Idle, Opening, Fetching, Repairing, Running, Closed}
use Rattle.proto_model.specs.Servers.{Config, ServerState, commit_mark}
use Rattle.net_model.specs.declared.outcome.Outcome.TheVariants as outcome
use Rattle.world_law.specs.Outcomes.{outcome_in, server_outcome}

other_phase : (server : ℕ) (c : Config) (sv : ServerState) (p : Phase) → (p ≡ Idle → ⊥) → outcome.Server server p sv.session (length sv.log) (commit_mark c sv) ≡ outcome_in p server c sv
other_phase server c sv Idle other = absurd (other refl)
other_phase server c sv Opening other = refl
other_phase server c sv Fetching other = refl
other_phase server c sv Repairing other = refl
other_phase server c sv Running other = refl
other_phase server c sv (Closed by) other = refl

-- a server that is not idle
pub shows_server : (server : ℕ) (c : Config) (sv : ServerState) (p : Phase) → p ≡ sv.phase → (p ≡ Idle → ⊥) → outcome.Server server p sv.session (length sv.log) (commit_mark c sv) ≡ server_outcome server c sv
shows_server server c sv p is other =
    let P : Phase → Type 0 = λ q. outcome.Server server p sv.session (length sv.log) (commit_mark c sv) ≡ outcome_in q server c sv in
    subst P is (other_phase server c sv p other)

-- the same by its numbers
pub shows_other : (server : ℕ) (c c' : Config) (sv sv' : ServerState) (p : Phase) (session last committed : ℕ) → sv' ≡ sv → c ≡ c' → p ≡ sv.phase → (p ≡ Idle → ⊥) → session ≡ sv.session → last ≡ length sv.log → committed ≡ commit_mark c sv
    → outcome.Server server p session last committed ≡ server_outcome server c' sv'
shows_other server c c' sv sv' p session last committed same set is other s l k = rw (same, ← set, s, l, k) (shows_server server c sv p is other)
