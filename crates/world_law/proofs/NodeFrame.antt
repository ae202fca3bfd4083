-- A step of a node, whatever it is.
use Rattle.std.proofs.Common.{◌≡◌, ℕ, ◌<◌, ◌≤◌, true, arith, refl, sym, ◌∙◌, inl, inr, subst, List, ◌++◌, length, le_trans}
use Rattle.proto_model.specs.Replicas.{ReplicaState}
use Rattle.proto_model.specs.Servers.{length_of}
use Rattle.world_law.specs.OneLog.{voted}
use Rattle.world_law.specs.Worlds.{Book, Vote, WorldState, vote_of, with_node}
use Rattle.world_law.proofs.Invariant.{NodeFacts, VoteFacts, LowFacts, StagedFacts, Holds}
use Rattle.world_law.proofs.Later.{Later, Onward, choice_later, low_later, staged_later, sent_later, active_later}
use Rattle.world_law.proofs.Lists.{still}
use Rattle.world_law.proofs.Quorums.{step}
use Rattle.world_law.proofs.Tables.{put_each}
use Rattle.world_law.proofs.Votes.{cast_own, cast_old, cast_inv, fewer, cast_others, same_bools}

-- what a step of node i keeps by itself
pub record NodeStep (w : WorldState) (i : ℕ) (after : ReplicaState) : Type 0 where
  pub promised : (w.nodes i).promised ≤ after.promised
  pub facts : NodeFacts w.books (w.votes ++ vote_of i after) i after
  pub came : 0 < after.adopted → (w.books after.adopted).repaired ≡ true
  pub same : after.adopted < (w.nodes i).promised → (after.adopted ≡ (w.nodes i).adopted) × (length after.log ≡ length (w.nodes i).log)
  pub low : LowFacts w after
  pub staged : StagedFacts w after

-- a vote below what was promised was there
frozen_vote : (w : WorldState) → Holds w → (i : ℕ) (after : ReplicaState) → NodeStep w i after → (s k : ℕ) → s ≡ after.adopted
    → s < (w.nodes i).promised → k ≤ length after.log → 0 < after.adopted → voted w.votes s k i ≡ true
frozen_vote w h i after step s k at lt le some =
    let same = step.same (omega arith) in
    let own = (h.nodes i).own (omega (arith, same.0)) in
    fewer w.votes s (length (w.nodes i).log) k i (omega (arith, same.1)) (rw (at, same.0) own)

frozen_node : (w : WorldState) → Holds w → (i : ℕ) (after : ReplicaState) → NodeStep w i after → (j s k : ℕ) → s < (w.nodes j).promised
    → voted (w.votes ++ vote_of i after) s k j ≡ true → voted w.votes s k j ≡ true
frozen_node w h i after step j s k lt vote =
    elim (cast_inv w.votes i after s k j vote) [
      | inl v ↦ v
      | inr e ↦ subst (λ (j' : ℕ). voted w.votes s k j' ≡ true) e.0 (frozen_vote w h i after step s k e.1 (rw e.0 lt) e.2 e.3)
    ]

pub node_later : (w : WorldState) → Holds w → (i : ℕ) (after : ReplicaState) (files : ℕ → List ℕ) → NodeStep w i after
    → Later w (with_node w i after files)
node_later w h i after files step = record {
  cluster = refl;
  promised = put_each (λ (j : ℕ) (n : ReplicaState). (w.nodes j).promised ≤ n.promised) w.nodes i after step.promised (λ j ne. omega arith);
  cast = λ j s k v. cast_old w.votes i after s k j v;
  frozen = λ j s k lt. same_bools (voted (w.votes ++ vote_of i after) s k j) (voted w.votes s k j) (frozen_node w h i after step j s k lt)
      (cast_old w.votes i after s k j);
  chosen = λ s r e. e;
  repaired = λ s e. e;
  grown = λ s. still (w.books s).log;
}

same_votes : (books : ℕ → Book) (votes votes' : List Vote) (i : ℕ) (n : ReplicaState) → ((s k : ℕ) → voted votes' s k i ≡ voted votes s k i)
    → NodeFacts books votes i n → NodeFacts books votes' i n
same_votes books votes votes' i n e f = record {
  promised = f.promised;
  front = f.front;
  based = f.based;
  own = λ some. e n.adopted (length n.log) ∙ f.own some;
  above = λ s k lt. e s k ∙ f.above s k lt;
  most = λ k v. f.most k (sym (e n.adopted k) ∙ v);
}

votes_kept : (w : WorldState) → Holds w → (i : ℕ) (after : ReplicaState) → NodeStep w i after → (j s k : ℕ)
    → voted (w.votes ++ vote_of i after) s k j ≡ true → VoteFacts (w.books s) k
votes_kept w h i after step j s k vote =
    elim (cast_inv w.votes i after s k j vote) [
      | inl v ↦ h.votes j s k v
      | inr e ↦ record { repaired = rw e.1 (step.came e.3); fits = rw e.1 (le_trans e.2 step.facts.front.fits) }
    ]

based_kept : (w : WorldState) → Holds w → (i : ℕ) (after : ReplicaState) → NodeStep w i after → (j s : ℕ)
    → voted (w.votes ++ vote_of i after) s 0 j ≡ true → voted (w.votes ++ vote_of i after) s (length_of (w.books s).choice) j ≡ true
based_kept w h i after step j s vote =
    elim (cast_inv w.votes i after s 0 j vote) [
      | inl v ↦ cast_old w.votes i after s (length_of (w.books s).choice) j (h.based j s v)
      | inr e ↦ subst (λ (j' : ℕ). voted (w.votes ++ vote_of i after) s (length_of (w.books s).choice) j' ≡ true) e.0
          (rw e.1 (cast_own w.votes i after (length_of (w.books after.adopted).choice) e.3 step.facts.based))
    ]

pub node_event : (w : WorldState) → Holds w → (i : ℕ) (after : ReplicaState) (files : ℕ → List ℕ) → NodeStep w i after
    → Onward w (with_node w i after files)
node_event w h i after files step =
    let new = with_node w i after files in
    let l : Later w new = node_later w h i after files step in
    record {
      later = l;
      holds = record {
        nodes = put_each (λ (j : ℕ) (n : ReplicaState). NodeFacts w.books (w.votes ++ vote_of i after) j n) w.nodes i after step.facts
            (λ j ne. same_votes w.books w.votes (w.votes ++ vote_of i after) j (w.nodes j) (λ s k. cast_others w.votes i after s k j
            (λ e. ne (sym e))) (h.nodes j));
        votes = λ j s k v. votes_kept w h i after step j s k v;
        based = λ j s v. based_kept w h i after step j s v;
        choices = λ s r e. choice_later w new l h h.none s r.adopted r.length (h.choices s r e);
        kept = h.kept;
        lows = put_each (λ (j : ℕ) (n : ReplicaState). LowFacts new n) w.nodes i after (low_later w new l after step.low)
            (λ j ne. low_later w new l (w.nodes j) (h.lows j));
        staged = put_each (λ (j : ℕ) (n : ReplicaState). StagedFacts new n) w.nodes i after (staged_later w new l h after step.staged)
            (λ j ne. staged_later w new l h (w.nodes j) (h.staged j));
        sent = sent_later w new l h;
        active = λ v a. active_later w new l (omega arith) (w.servers v) (h.active v a);
        phases = h.phases;
        distinct = h.distinct;
        repaired = h.repaired;
        unrepaired = h.unrepaired;
        unused = h.unused;
        none = h.none;
        clean = h.clean;
        ids = h.ids;
      };
    }
