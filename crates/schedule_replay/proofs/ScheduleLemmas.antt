-- Lines decide their events.
use Rattle.std.proofs.Common.{◌≡◌, ◌<◌, ℕ, List, [], ◌∷◌, ◌++◌, length, arith}
use Rattle.net_model.specs.declared.cluster.Cluster.{Cluster}
use Rattle.net_model.specs.declared.event.Event.{Event}
use Rattle.schedule_text.proofs.LawLemmas.{lines_one}
use Rattle.schedule_replay.specs.Schedules.{IsFirstLine, IsFurtherLine, AreFurtherLines, IsSchedule}

-- a first line is one cluster
pub one_cluster : (line : List ℕ) (a b : Cluster) → IsFirstLine line a → IsFirstLine line b → a ≡ b
one_cluster line a b p q = lines_one.clusters line a b p.text q.text

-- one line more
AreFurtherLines-push : (cluster : Cluster) (lines : List (List ℕ)) (events : List Event) (line : List ℕ) (event : Event) → AreFurtherLines cluster lines events → IsFurtherLine cluster line event → AreFurtherLines cluster (lines ++ line ∷ []) (events ++ event ∷ [])
AreFurtherLines-push cluster [] [] line event so_far is = (is, tt)
AreFurtherLines-push cluster (l ∷ ls) (e ∷ es) line event so_far is = (so_far.0, AreFurtherLines-push cluster ls es line event so_far.1 is)
AreFurtherLines-push cluster [] (e ∷ es) line event so_far is = absurd so_far
AreFurtherLines-push cluster (l ∷ ls) [] line event so_far is = absurd so_far

pub IsSchedule-push : (cluster : Cluster) (lines : List (List ℕ)) (events : List Event) (line : List ℕ) (event : Event) → 0 < length lines → IsSchedule lines cluster events → IsFurtherLine cluster line event → IsSchedule (lines ++ line ∷ []) cluster (events ++ event ∷ [])
IsSchedule-push cluster [] events line event some schedule is = absurd (omega arith)
IsSchedule-push cluster (first ∷ lines) events line event some schedule is = (schedule.0, AreFurtherLines-push cluster lines events line event schedule.1 is)
