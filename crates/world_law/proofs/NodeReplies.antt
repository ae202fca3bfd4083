-- Each reply of a node is warranted.
use Rattle.std.proofs.Common.{◌≡◌, ◌≢◌, ℕ, zero, suc, ◌+◌, ◌-◌, ◌<◌, ◌≤◌, ◌⊎◌, ◌==◌, nat_lt, nat_le, if◌then◌else◌, true, arith, refl, ap, sym, ◌∙◌, inl, inr, subst, List, [], ◌++◌, length, take, drop, le_antisymm, true≢false}
use Rattle.proto_model.specs.Replicas.{ReplicaState, next_staged, grown, replica_after, gated, has_records, adopt_reply, append_reply, replica_reply}
use Rattle.proto_model.specs.Tables.{put}
use Rattle.proto_model.specs.declared.message.FromNode.{FromNode}
use Rattle.proto_model.specs.declared.message.FromNode.TheVariants.{Opened, Stale, Unopened, Records, Staged, StageAt, Adopted, Acked, Gap, NotAdopted, LowSet}
use Rattle.proto_model.specs.declared.message.ToNode.{ToNode}
use Rattle.proto_model.specs.declared.message.ToNode.TheVariants.{Open, Fetch, Stage, Adopt, Append, Low}
use Rattle.world_law.specs.OneLog.{voted}
use Rattle.world_law.specs.Worlds.{Vote, WorldState, vote_of, with_node}
use Rattle.std.proofs.lemmas.Bool.Decides.{nat_tests}
use Rattle.tx_model.specs.Records.{first_id}
use Rattle.tx_model.specs.declared.record.Record.{Record}
use Rattle.world_law.proofs.Invariant.{NodeFacts, IsGreatest, RecordsWarrant, AdoptWarrant, AppendWarrant, AskWarrant, ReplyWarrant, Holds}
use Rattle.world_law.proofs.Lists.{HasIds, front_take, joined_length, ids_front, part_of, no_record}
use Rattle.world_law.proofs.NodeSteps.{came_of, stays, open_step, append_step}
use Rattle.world_law.proofs.Tables.{put_same}
use Rattle.world_law.proofs.Tests.{if_each, not_above, equal, unequal}
use Rattle.world_law.proofs.Votes.{cast_own, cast_old}

split : (a b : ℕ) → (a < b) ⊎ (b ≤ a)
split a b = grind arith

-- a node's own last vote is its greatest below a later session
facts_greatest : (w : WorldState) → Holds w → (votes : List Vote) (i s : ℕ) (n : ReplicaState) → NodeFacts w.books votes i n → n.adopted < s
    → IsGreatest votes i s n.adopted (length n.log)
facts_greatest w h votes i s n f lt = record {
  before = lt;
  none = λ t k at below. f.above t k at;
  most = f.most;
  own = f.own;
  zero = λ e. (let fits = rw (e, h.none) at f.front.fits in omega arith);
}

open_adopted : (n : ReplicaState) (s : ℕ) → (replica_after n (Open s)).adopted ≡ n.adopted
open_adopted n s = grind arith

open_log : (n : ReplicaState) (s : ℕ) → (replica_after n (Open s)).log ≡ n.log
open_log n s = grind arith

open_promised : (n : ReplicaState) (s : ℕ) → n.promised ≤ s → (replica_after n (Open s)).promised ≡ s
open_promised n s le = grind (arith, nat_tests)

-- the node's entry is the new one
put_at : (nodes : ℕ → ReplicaState) (i : ℕ) (after : ReplicaState) → (put nodes i after) i ≡ after
put_at nodes i after = put_same nodes i after

open_reply : (w : WorldState) → Holds w → (i s : ℕ) (files : ℕ → List ℕ)
    → ReplyWarrant (with_node w i (replica_after (w.nodes i) (Open s)) files) i (replica_reply (w.nodes i) (Open s))
open_reply w h i s files =
    let n = w.nodes i in
    let after = replica_after n (Open s) in
    let new = with_node w i after files in
    let f = (open_step w h i s).facts in
    if_each (ReplyWarrant new i) (nat_lt s n.promised) (Stale s n.promised) (Opened s n.adopted n.low (length n.log)) (λ e. tt)
    (λ e lt. record {
      promised = rw (put_at w.nodes i after, open_promised n s (not_above s n.promised e)) (omega arith);
      greatest = subst (λ (len : ℕ). IsGreatest new.votes i s n.adopted len) (ap (λ (l : List Record). length l) (open_log n s))
          (subst (λ (a : ℕ). IsGreatest new.votes i s a (length after.log)) (open_adopted n s)
          (facts_greatest w h new.votes i s after f (rw (open_adopted n s) lt)));
    })

-- replies behind the session's gate
gate : (w : WorldState) (i : ℕ) (n : ReplicaState) (s : ℕ) (reply : FromNode) → (s ≡ n.promised → ReplyWarrant w i reply)
    → ReplyWarrant w i (gated n s reply)
gate w i n s reply f =
    if_each (ReplyWarrant w i) (nat_lt s n.promised) (Stale s n.promised) (if nat_lt n.promised s then Unopened s n.promised else reply) (λ e. tt)
    (λ e. if_each (ReplyWarrant w i) (nat_lt n.promised s) (Unopened s n.promised) reply (λ e'. tt)
    (λ e'. f (let a = not_above s n.promised e in let b = not_above n.promised s e' in omega arith)))

not_later : (votes : List Vote) (i s a len b len' : ℕ) → IsGreatest votes i s a len → IsGreatest votes i s b len' → b ≤ a
not_later votes i s a len b len' f g =
    elim (split a b) [
      | inl lt ↦ (let v = g.own (omega arith) in let none = f.none b len' lt g.before in absurd (true≢false (sym v ∙ none)))
      | inr le ↦ le
    ]

not_longer : (votes : List Vote) (i s a len len' : ℕ) → IsGreatest votes i s a len → IsGreatest votes i s a len' → len ≤ len'
not_longer votes i s zero len len' f g = (let e = f.zero refl in omega arith)
not_longer votes i s (suc a) len len' f g = g.most len (f.own (omega arith))

greatest_same : (votes : List Vote) (i s a len b len' : ℕ) → IsGreatest votes i s a len → IsGreatest votes i s b len' → (a ≡ b) × (len ≡ len')
greatest_same votes i s a len b len' f g =
    let e : a ≡ b = le_antisymm (not_later votes i s b len' a len g f) (not_later votes i s a len b len' f g) in
    let g' = subst (λ (c : ℕ). IsGreatest votes i s c len') (sym e) g in
    (e, le_antisymm (not_longer votes i s a len len' f g') (not_longer votes i s a len' len g' f))

-- what a node keeps has ids
node_ids : (w : WorldState) → Holds w → (i : ℕ) → HasIds (w.nodes i).log
node_ids w h i = ids_front (w.nodes i).log (w.books (w.nodes i).adopted).log (h.nodes i).front (h.ids (w.nodes i).adopted)

fetch_records : (w : WorldState) → Holds w → (i s from most : ℕ) (files : ℕ → List ℕ) → 1 ≤ from → from ≤ length (w.nodes i).log
    → 1 ≤ most → s ≡ (w.nodes i).promised
    → RecordsWarrant (with_node w i (w.nodes i) files) i s (take most (drop (from - 1) (w.nodes i).log))
fetch_records w h i s from most files some le any at =
    let n = w.nodes i in
    let new = with_node w i n files in
    let f = (stays w h i).facts in
    record {
      promised = rw (put_at w.nodes i n) (omega arith);
      part = λ not_yet a len g.
          elim (split n.adopted s) [
            | inl lt ↦ (let e = greatest_same new.votes i s n.adopted (length n.log) a len (facts_greatest w h new.votes i s n f lt) g in
                rw (← e.0, ← e.1, ← front_take n.log (w.books n.adopted).log f.front) (part_of n.log (from - 1) most no_record (node_ids w h i) (omega arith) any))
            | inr ge ↦ (let b = g.before in let p = f.promised in let came = came_of w h i (omega arith) in
                let e : n.adopted ≡ s = omega arith in
                absurd (true≢false (sym (rw e at came) ∙ not_yet)))
          ];
    }

pub there : (n : ReplicaState) (from most : ℕ) → has_records n from most ≡ true → (1 ≤ from) × (from ≤ length n.log) × (1 ≤ most)
there n from most t = grind (arith, nat_tests)

fetch_reply : (w : WorldState) → Holds w → (i s from most : ℕ) (files : ℕ → List ℕ)
    → ReplyWarrant (with_node w i (w.nodes i) files) i (replica_reply (w.nodes i) (Fetch s from most))
fetch_reply w h i s from most files =
    let n = w.nodes i in
    let new = with_node w i n files in
    gate new i n s (if has_records n from most then Records s (take most (drop (from - 1) n.log)) else Gap s (length n.log))
    (λ at. if_each (ReplyWarrant new i) (has_records n from most) (Records s (take most (drop (from - 1) n.log))) (Gap s (length n.log))
    (λ e. (let t = there n from most e in fetch_records w h i s from most files t.0 t.1 t.2 at)) (λ e. tt))

-- the vote that a node had
own_old : (w : WorldState) → Holds w → (i s : ℕ) (after : ReplicaState) → 1 ≤ s → (w.nodes i).adopted ≡ s
    → voted (w.votes ++ vote_of i after) s (length (w.nodes i).log) i ≡ true
own_old w h i s after some e = cast_old w.votes i after s (length (w.nodes i).log) i (rw (← e) ((h.nodes i).own (omega arith)))

stage_reply : (w : WorldState) → Holds w → (i s : ℕ) (batch : List Record) (after : ReplicaState) (files : ℕ → List ℕ) → 1 ≤ s
    → ReplyWarrant (with_node w i after files) i (replica_reply (w.nodes i) (Stage s batch))
stage_reply w h i s batch after files some =
    let n = w.nodes i in
    let new = with_node w i after files in
    gate new i n s
    (if n.adopted == s then Adopted s (length n.log) else if first_id batch == next_staged n then Staged s (n.low + length n.staged + length batch)
    else StageAt s (next_staged n))
    (λ at. if_each (ReplyWarrant new i) (n.adopted == s) (Adopted s (length n.log))
    (if first_id batch == next_staged n then Staged s (n.low + length n.staged + length batch) else StageAt s (next_staged n))
    (λ e. own_old w h i s after some (equal n.adopted s e))
    (λ e. if_each (ReplyWarrant new i) (first_id batch == next_staged n) (Staged s (n.low + length n.staged + length batch))
    (StageAt s (next_staged n)) (λ e'. tt) (λ e'. tt)))

low_reply : (w : WorldState) (i s k : ℕ) (n : ReplicaState) → ReplyWarrant w i (replica_reply n (Low s k))
low_reply w i s k n =
    gate w i n s
    (if n.adopted == s then
    (if nat_lt (length n.log) k then Gap s (length n.log) else if nat_le k n.low then LowSet s n.low else LowSet s k) else NotAdopted s n.adopted)
    (λ at. if_each (ReplyWarrant w i) (n.adopted == s)
    (if nat_lt (length n.log) k then Gap s (length n.log) else if nat_le k n.low then LowSet s n.low else LowSet s k) (NotAdopted s n.adopted)
    (λ e. if_each (ReplyWarrant w i) (nat_lt (length n.log) k) (Gap s (length n.log)) (if nat_le k n.low then LowSet s n.low else LowSet s k) (λ e'. tt)
    (λ e'. if_each (ReplyWarrant w i) (nat_le k n.low) (LowSet s n.low) (LowSet s k) (λ e''. tt) (λ e''. tt)))
    (λ e. tt))

append_taken : (n : ReplicaState) (s : ℕ) (batch : List Record) → s ≡ n.promised → n.adopted ≡ s → first_id batch ≤ length n.log + 1
    → replica_after n (Append s batch) ≡ record n { log = grown n.log batch }
append_taken n s batch at e le = grind (arith, nat_tests)

append_reply_ok : (w : WorldState) → Holds w → (i s : ℕ) (batch : List Record) (files : ℕ → List ℕ) → AppendWarrant w s batch
    → ReplyWarrant (with_node w i (replica_after (w.nodes i) (Append s batch)) files) i (replica_reply (w.nodes i) (Append s batch))
append_reply_ok w h i s batch files f =
    let n = w.nodes i in
    let after = replica_after n (Append s batch) in
    let new = with_node w i after files in
    let grew = record n { log = grown n.log batch } in
    let step = append_step w h i s batch f in
    gate new i n s (append_reply n s batch)
    (λ at. if_each (ReplyWarrant new i) (n.adopted == s)
    (if nat_lt (length n.log + 1) (first_id batch) then Gap s (length n.log) else Acked s (length (grown n.log batch))) (NotAdopted s n.adopted)
    (λ e. if_each (ReplyWarrant new i) (nat_lt (length n.log + 1) (first_id batch)) (Gap s (length n.log)) (Acked s (length (grown n.log batch)))
    (λ e'. tt)
    (λ e'. (let t = append_taken n s batch at (equal n.adopted s e) (not_above (length n.log + 1) (first_id batch) e') in
    subst (λ (m : ReplicaState). voted (w.votes ++ vote_of i m) s (length (grown n.log batch)) i ≡ true) (sym t)
    (subst (λ (a : ℕ). voted (w.votes ++ vote_of i grew) a (length (grown n.log batch)) i ≡ true) (equal n.adopted s e)
    (cast_own w.votes i grew (length (grown n.log batch)) (let some = f.some in let eq = equal n.adopted s e in omega arith) (omega arith))))))
    (λ e. tt))

adopt_taken : (n : ReplicaState) (s len : ℕ) → s ≡ n.promised → n.adopted ≢ s → len + 1 ≡ next_staged n
    → replica_after n (Adopt s len) ≡ record n { adopted = s; log = take n.low n.log ++ n.staged; staged = [] }
adopt_taken n s len at e le = grind (arith, nat_tests)

adopt_reply_ok : (w : WorldState) → Holds w → (i s len : ℕ) (files : ℕ → List ℕ) → AdoptWarrant w s len
    → ReplyWarrant (with_node w i (replica_after (w.nodes i) (Adopt s len)) files) i (replica_reply (w.nodes i) (Adopt s len))
adopt_reply_ok w h i s len files f =
    let n = w.nodes i in
    let after = replica_after n (Adopt s len) in
    let new = with_node w i after files in
    let m = record n { adopted = s; log = take n.low n.log ++ n.staged; staged = [] } in
    gate new i n s (adopt_reply n s len)
    (λ at. if_each (ReplyWarrant new i) (n.adopted == s) (Adopted s (length n.log)) (if len + 1 == next_staged n then Adopted s len else StageAt s (next_staged n))
    (λ e. own_old w h i s after f.some (equal n.adopted s e))
    (λ e. if_each (ReplyWarrant new i) (len + 1 == next_staged n) (Adopted s len) (StageAt s (next_staged n))
    (λ e'. subst (λ (m' : ReplicaState). voted (w.votes ++ vote_of i m') s len i ≡ true)
    (sym (adopt_taken n s len at (unequal n.adopted s e) (equal (len + 1) (next_staged n) e')))
    (cast_own w.votes i m len f.some (let l = joined_length n.log n.staged n.low (h.lows i).fits in let q = equal (len + 1) (next_staged n) e' in omega arith)))
    (λ e'. tt)))

pub reply_warranted : (w : WorldState) → Holds w → (i : ℕ) (m : ToNode) (files : ℕ → List ℕ) → AskWarrant w i m
    → ReplyWarrant (with_node w i (replica_after (w.nodes i) m) files) i (replica_reply (w.nodes i) m)
reply_warranted w h i (Open s) files f = open_reply w h i s files
reply_warranted w h i (Fetch s from most) files f = fetch_reply w h i s from most files
reply_warranted w h i (Stage s batch) files f = stage_reply w h i s batch (replica_after (w.nodes i) (Stage s batch)) files f.some
reply_warranted w h i (Adopt s len) files f = adopt_reply_ok w h i s len files f
reply_warranted w h i (Append s batch) files f = append_reply_ok w h i s batch files f
reply_warranted w h i (Low s k) files f = low_reply (with_node w i (replica_after (w.nodes i) (Low s k)) files) i s k (w.nodes i)
