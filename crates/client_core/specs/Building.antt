-- What a client refuses to build. Of the refusals that fit, the first is given.
use Rattle.std.specs.Prelude.{◌≡◌, ◌≢◌, ℕ, ◌+◌, ◌-◌, ◌≤◌, ◌<◌, ◌^◌, ◌==◌, ◌||◌, Bool, false, not, nat_lt, if◌then◌else◌, List, [], ◌∷◌, ◌++◌, length, find, Contains, Option, Some, None}
use Rattle.tx_model.specs.Transactions.{is_before, is_among, HasDouble}
pub use Rattle.tx_model.specs.Applications.{keys_of, named_keys}
use Rattle.kv_app.specs.Places.{IsOpText, IsBadAt, is_op_text, bad_place}
use Rattle.proto_model.specs.declared.refusal.BuildFault.{BuildFault}
use Rattle.proto_model.specs.declared.refusal.BuildFault.TheVariants.{BadOps, TooManyLocks, DoubleLock, PayloadTooLong, Unlocked, LastRequest, Memory}
use Rattle.client_core.specs.Clients.{ClientOf, after_build}
use Rattle.client_core.specs.States.{Kept}

-- ---- the refusal, as a function

-- some name stands at two places
abbrev pub has_double : List (List ℕ) → Bool
has_double [] = false
has_double (name ∷ names) = is_among name names || has_double names

-- what is refused whatever keys the ops name
abbrev pub form_refusal : List (List ℕ) → List (List ℕ) → List ℕ → Option BuildFault
form_refusal writes reads ops =
    if not (is_op_text ops) then Some (BadOps (bad_place ops))
    else if nat_lt 64 (length reads + length writes) then Some TooManyLocks
    else if has_double (reads ++ writes) then Some DoubleLock
    else if nat_lt 65536 (length ops) then Some PayloadTooLong
    else None

-- the least key that the ops name and that is no write lock
abbrev pub unlocked_key : List (List ℕ) → List ℕ → Option (List ℕ)
unlocked_key writes ops = find (λ key. not (is_among key writes)) (named_keys ops)

-- the greatest request number is never given out
abbrev pub request_refusal : ℕ → Option BuildFault
request_refusal request = if request == 2 ^ 64 - 1 then Some LastRequest else None

abbrev pub or_unlocked : Option (List ℕ) → Option BuildFault → Option BuildFault
or_unlocked None later = later
or_unlocked (Some key) later = Some (Unlocked key)

abbrev pub or_earlier : Option BuildFault → Option BuildFault → Option BuildFault
or_earlier None later = later
or_earlier (Some fault) later = Some fault

-- why a client builds no transaction, but where memory runs out. Of several reasons the first of these is told
unfoldable pub build_refusal : {S : Type 0} → ClientOf S → List (List ℕ) → List (List ℕ) → List ℕ → Option BuildFault
build_refusal cl writes reads ops =
    or_earlier (form_refusal writes reads ops) (or_unlocked (unlocked_key writes ops) (request_refusal cl.request))

-- the client after it built, or refused to for this reason
abbrev pub after_building : {S : Type 0} → ClientOf S → Option BuildFault → ClientOf S
after_building cl None = after_build cl
after_building cl (Some fault) = cl

-- what is to be built
pub record Draft : Type 0 where
  pub request : ℕ
  pub writes : List (List ℕ)
  pub reads : List (List ℕ)
  pub ops : List ℕ

abbrev pub draft_of : {A : Type 0} → Kept A → List (List ℕ) → List (List ℕ) → List ℕ → Draft
draft_of kept writes reads ops = record { request = kept.request; writes = writes; reads = reads; ops = ops }

-- ---- the keys of a payload

-- the least of these keys that is no write lock
pub record IsLeastUnlocked (writes keys : List (List ℕ)) (key : List ℕ) : Type 0 where
  pub named : Contains keys key
  pub unlocked : ¬ Contains writes key
  pub least : (other : List ℕ) → Contains keys other → ¬ Contains writes other → is_before other key ≡ false

-- ---- the tests, each behind those before it

abbrev pub HasOps : Draft → Type 0
HasOps d = IsOpText d.ops

pub record HasFewLocks (d : Draft) : Type 0 where
  pub ops : HasOps d
  pub few : length d.reads + length d.writes ≤ 64

pub record HasNames (d : Draft) : Type 0 where
  pub locks : HasFewLocks d
  pub once : ¬ HasDouble (d.reads ++ d.writes)

pub record HasPayload (d : Draft) : Type 0 where
  pub names : HasNames d
  pub short : length d.ops ≤ 65536

pub record HasLockedKeys (d : Draft) : Type 0 where
  pub payload : HasPayload d
  pub keys : (key : List ℕ) → Contains (named_keys d.ops) key → Contains d.writes key

-- it passes all tests
pub record IsBuildable (d : Draft) : Type 0 where
  pub locked : HasLockedKeys d
  pub request : d.request ≢ 2 ^ 64 - 1

-- ---- the refusal of the first test that is not passed. Running out of memory is no such refusal

abbrev pub IsRefusal : Draft → BuildFault → Type 0
IsRefusal d (BadOps at) = IsBadAt d.ops at
IsRefusal d TooManyLocks = HasOps d × (64 < length d.reads + length d.writes)
IsRefusal d DoubleLock = HasFewLocks d × HasDouble (d.reads ++ d.writes)
IsRefusal d PayloadTooLong = HasNames d × (65536 < length d.ops)
IsRefusal d (Unlocked key) = HasPayload d × IsLeastUnlocked d.writes (named_keys d.ops) key
IsRefusal d LastRequest = HasLockedKeys d × (d.request ≡ 2 ^ 64 - 1)
IsRefusal d Memory = ⊥
