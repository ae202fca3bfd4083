-- Clean logs by tests: what a scan finds of a lock among others.
use Rattle.std.proofs.Common.{◌≡◌, ℕ, ◌<◌, true, false, List, Some}
use Rattle.tx_model.specs.declared.record.Record.{Record}
use Rattle.tx_model.specs.Transactions.{named_locks, held_locks, is_among}
use Rattle.tx_model.specs.Logs.{record_at, IsClean}
use Rattle.tx_model.proofs.Names.{Contains-from_is_among, is_among-from_Contains, not_true}

-- no lock that an earlier record above a later record's mark holds is among those that the later one named
abbrev pub AreApart : List Record → Type 0
AreApart log = (t u : ℕ) (later earlier : Record) (lock : List ℕ) →
    record_at log t ≡ Some later → record_at log u ≡ Some earlier → later.tx.mark < u → u < t →
    is_among lock (held_locks earlier.tx) ≡ true → is_among lock (named_locks later.tx) ≡ false

pub IsClean-apart : (log : List Record) → IsClean log → AreApart log
IsClean-apart log clean t u later earlier lock at_t at_u above less held =
    not_true (is_among lock (named_locks later.tx)) (λ named.
    clean.apart t u later earlier lock at_t at_u above less (Contains-from_is_among lock _ held) (Contains-from_is_among lock _ named))

pub IsClean-from_tests : (log : List Record) → ((t : ℕ) (later : Record) → record_at log t ≡ Some later → later.tx.mark < t) → AreApart log → IsClean log
IsClean-from_tests log below apart = record {
  below = below;
  apart = λ t u later earlier lock at_t at_u above less held named.
      absurd cc (apart t u later earlier lock at_t at_u above less (is_among-from_Contains lock _ held), is_among-from_Contains lock _ named);
}
