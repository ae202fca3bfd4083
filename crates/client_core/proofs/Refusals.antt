-- A draft has one refusal at most, and a draft that passes all tests has none.
use Rattle.std.proofs.Common.{◌≡◌, ℕ, ◌+◌, ◌≤◌, ◌<◌, List, length, refl, ap, arith}
use Rattle.kv_app.specs.Places.{IsBadAt}
use Rattle.proto_model.specs.declared.refusal.BuildFault.{BuildFault}
use Rattle.proto_model.specs.declared.refusal.BuildFault.TheVariants.{BadOps, TooManyLocks, DoubleLock, PayloadTooLong, Unlocked, LastRequest, Memory}
use Rattle.client_core.specs.Building.{Draft, named_keys, IsLeastUnlocked, HasOps, HasFewLocks, HasPayload, HasLockedKeys, IsBuildable, IsRefusal}
use Rattle.client_core.proofs.Orders.{same_unless_before}

-- ---- a place and a key are told once

same_place : (text : List ℕ) (at other : ℕ) → IsBadAt text at → IsBadAt text other → at ≡ other
same_place text at other (len, stops, is) (len2, stops2, is2) =
    let one : len2 ≤ len = stops.longest.most len2 stops2.longest.within stops2.longest.begins in
    let two : len ≤ len2 = stops2.longest.most len stops.longest.within stops.longest.begins in
    omega arith

same_key : (writes keys : List (List ℕ)) (key other : List ℕ) → IsLeastUnlocked writes keys key → IsLeastUnlocked writes keys other → key ≡ other
same_key writes keys key other a b =
    same_unless_before key other (b.least key a.named a.unlocked) (a.least other b.named b.unlocked)

-- ---- a refusal is not passed by

no_ops : (d : Draft) (at : ℕ) → IsBadAt d.ops at → HasOps d → ⊥
no_ops d at (len, stops, is) ops = stops.refused ops

no_few : (d : Draft) → 64 < length d.reads + length d.writes → HasFewLocks d → ⊥
no_few d many few = let le = few.few in absurd (omega arith)

no_names : (d : Draft) → 65536 < length d.ops → HasPayload d → ⊥
no_names d long payload = let le = payload.short in absurd (omega arith)

no_locks : (d : Draft) (key : List ℕ) → IsLeastUnlocked d.writes (named_keys d.ops) key → HasLockedKeys d → ⊥
no_locks d key least locked = least.unlocked (locked.keys key least.named)

-- ---- one refusal

only_bad_ops : (d : Draft) (at : ℕ) (g : BuildFault) → IsRefusal d (BadOps at) → IsRefusal d g → BadOps at ≡ g
only_bad_ops d at (BadOps other) h k = ap BadOps (same_place d.ops at other h k)
only_bad_ops d at TooManyLocks h k = absurd (no_ops d at h k.0)
only_bad_ops d at DoubleLock h k = absurd (no_ops d at h k.0.ops)
only_bad_ops d at PayloadTooLong h k = absurd (no_ops d at h k.0.locks.ops)
only_bad_ops d at (Unlocked other) h k = absurd (no_ops d at h k.0.names.locks.ops)
only_bad_ops d at LastRequest h k = absurd (no_ops d at h k.0.payload.names.locks.ops)
only_bad_ops d at Memory h k = absurd k

only_many : (d : Draft) (g : BuildFault) → IsRefusal d TooManyLocks → IsRefusal d g → TooManyLocks ≡ g
only_many d (BadOps other) h k = absurd (no_ops d other k h.0)
only_many d TooManyLocks h k = refl
only_many d DoubleLock h k = absurd (no_few d h.1 k.0)
only_many d PayloadTooLong h k = absurd (no_few d h.1 k.0.locks)
only_many d (Unlocked other) h k = absurd (no_few d h.1 k.0.names.locks)
only_many d LastRequest h k = absurd (no_few d h.1 k.0.payload.names.locks)
only_many d Memory h k = absurd k

only_double : (d : Draft) (g : BuildFault) → IsRefusal d DoubleLock → IsRefusal d g → DoubleLock ≡ g
only_double d (BadOps other) h k = absurd (no_ops d other k h.0.ops)
only_double d TooManyLocks h k = absurd (no_few d k.1 h.0)
only_double d DoubleLock h k = refl
only_double d PayloadTooLong h k = absurd (k.0.once h.1)
only_double d (Unlocked other) h k = absurd (k.0.names.once h.1)
only_double d LastRequest h k = absurd (k.0.payload.names.once h.1)
only_double d Memory h k = absurd k

only_long : (d : Draft) (g : BuildFault) → IsRefusal d PayloadTooLong → IsRefusal d g → PayloadTooLong ≡ g
only_long d (BadOps other) h k = absurd (no_ops d other k h.0.locks.ops)
only_long d TooManyLocks h k = absurd (no_few d k.1 h.0.locks)
only_long d DoubleLock h k = absurd (h.0.once k.1)
only_long d PayloadTooLong h k = refl
only_long d (Unlocked other) h k = absurd (no_names d h.1 k.0)
only_long d LastRequest h k = absurd (no_names d h.1 k.0.payload)
only_long d Memory h k = absurd k

only_unlocked : (d : Draft) (key : List ℕ) (g : BuildFault) → IsRefusal d (Unlocked key) → IsRefusal d g → Unlocked key ≡ g
only_unlocked d key (BadOps other) h k = absurd (no_ops d other k h.0.names.locks.ops)
only_unlocked d key TooManyLocks h k = absurd (no_few d k.1 h.0.names.locks)
only_unlocked d key DoubleLock h k = absurd (h.0.names.once k.1)
only_unlocked d key PayloadTooLong h k = absurd (no_names d k.1 h.0)
only_unlocked d key (Unlocked other) h k = ap Unlocked (same_key d.writes (named_keys d.ops) key other h.1 k.1)
only_unlocked d key LastRequest h k = absurd (no_locks d key h.1 k.0)
only_unlocked d key Memory h k = absurd k

only_last : (d : Draft) (g : BuildFault) → IsRefusal d LastRequest → IsRefusal d g → LastRequest ≡ g
only_last d (BadOps other) h k = absurd (no_ops d other k h.0.payload.names.locks.ops)
only_last d TooManyLocks h k = absurd (no_few d k.1 h.0.payload.names.locks)
only_last d DoubleLock h k = absurd (h.0.payload.names.once k.1)
only_last d PayloadTooLong h k = absurd (no_names d k.1 h.0.payload)
only_last d (Unlocked other) h k = absurd (no_locks d other k.1 h.0)
only_last d LastRequest h k = refl
only_last d Memory h k = absurd k

pub one_refusal : (d : Draft) (fault g : BuildFault) → IsRefusal d fault → IsRefusal d g → fault ≡ g
one_refusal d (BadOps at) g h k = only_bad_ops d at g h k
one_refusal d TooManyLocks g h k = only_many d g h k
one_refusal d DoubleLock g h k = only_double d g h k
one_refusal d PayloadTooLong g h k = only_long d g h k
one_refusal d (Unlocked key) g h k = only_unlocked d key g h k
one_refusal d LastRequest g h k = only_last d g h k
one_refusal d Memory g h k = absurd h

-- ---- what is built

pub buildable_not : (d : Draft) (g : BuildFault) → IsBuildable d → IsRefusal d g → ⊥
buildable_not d (BadOps at) b is = no_ops d at is b.locked.payload.names.locks.ops
buildable_not d TooManyLocks b is = no_few d is.1 b.locked.payload.names.locks
buildable_not d DoubleLock b is = b.locked.payload.names.once is.1
buildable_not d PayloadTooLong b is = no_names d is.1 b.locked.payload
buildable_not d (Unlocked key) b is = no_locks d key is.1 b.locked
buildable_not d LastRequest b is = b.request is.1
buildable_not d Memory b is = is
