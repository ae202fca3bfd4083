-- A message that all of the bytes spell.
use Rattle.std.proofs.Common.{◌≡◌, ◌≢◌, ℕ, List, [], ◌++◌, length, sym, ap, Result, Ok, Err, None, Some, arith}
use Rattle.std.proofs.lemmas.List.{append-nil, take_all}
use Rattle.record_frame.specs.declared.fault.FrameFault.{FrameFault}
use Rattle.record_frame.specs.declared.fault.FrameFault.TheVariants.{Short, Bad}
use Rattle.record_frame.specs.Reading.{BeginsWith, OkOrMemory}
use Rattle.wire_codec.specs.declared.message.Message.{Message}
use Rattle.wire_codec.specs.Spelling.{SpellsMessage}
use Rattle.server_loop.specs.Requests.{Reads}

abbrev Only : List ℕ → Result (Message × ℕ) FrameFault → Type 0
Only bytes r = (m : Message) (spelled rest : List ℕ) → SpellsMessage spelled m → bytes ≡ spelled ++ rest → OkOrMemory r (m, length spelled)

pub whole_found : (bytes : List ℕ) (x : Message) (n : ℕ) → BeginsWith SpellsMessage bytes x n → n ≡ length bytes → Reads bytes (Some x)
whole_found bytes x n found same = rw (take_all n bytes (omega (arith, same))) at found.spelled

pub part_read : (bytes : List ℕ) (x : Message) (n : ℕ) → Only bytes (Ok (x, n)) → n ≢ length bytes → Reads bytes None
part_read bytes x n only apart m spelled = apart (ap (λ p. p.1) (only m bytes [] spelled (sym (append-nil bytes))))

pub short_read : (bytes : List ℕ) → Only bytes (Err Short) → Reads bytes None
short_read bytes only m spelled = only m bytes [] spelled (sym (append-nil bytes))

pub bad_read : (bytes : List ℕ) (at : ℕ) → Only bytes (Err (Bad at)) → Reads bytes None
bad_read bytes at only m spelled = only m bytes [] spelled (sym (append-nil bytes))
