-- A command whose disk could not be loaded.
use Rattle.std.proofs.Common.{◌≡◌, ◌⊎◌, ℕ, ◌<◌, Option, Some, Err, List, arith, refl}
use Rattle.tx_model.specs.Framing.{meta_len}
use Rattle.disk_model.specs.Frames.{HasFirmFrames}
use Rattle.disk_model.specs.History.{History, EachMoment}
use Rattle.disk_model.specs.LoadFaults.{IsOfDamage, IsRefusal, HasDiskCause}
use Rattle.disk_model.specs.declared.unloaded.LoadFault.{LoadFault}
use Rattle.disk_model.specs.declared.unloaded.LoadFault.TheVariants.{Disk, Damaged, Memory}
use Rattle.proto_model.specs.Held.{Held, held_in, replica_of}
use Rattle.proto_model.specs.Damages.{IsDamaged}
use Rattle.partition_store.specs.Stands.{reads_of, LeavesAtEach}
use Rattle.partition_store.specs.Loading.{HasFirmFiles}
use Rattle.session_register.specs.Values.{StandsFor, EachLeftStandsFor, IsDamagedAt}
use Rattle.node_loops.specs.Ends.{status_of, Prints, IsBroken}
use Rattle.node_loops.proofs.Counted.{due_or_broken}
use Rattle.serve_commands.specs.Ends.{end_of}
use Rattle.serve_commands.specs.Storages as storage
use Rattle.serve_commands.specs.Registers as register

pub storage_unloaded : (tells plain : Type 0) (old new : History) (fault : LoadFault)
    → IsOfDamage fault (λ file at. tells → IsDamaged (reads_of old.now) file at × (new ≡ old))
    → (tells → HasFirmFiles old.now → (h : Held) → held_in (reads_of old.now) ≡ Some h → LeavesAtEach plain (λ r. r ≡ replica_of h) old new)
    → (fault ≡ Memory → tells → held_in (reads_of new.now) ≡ held_in (reads_of old.now))
    → storage.IsUnloaded tells plain old new (end_of fault)
storage_unloaded tells plain old new Disk damaged moments memory = λ t firm h is c left. ((moments t firm h is).now c left).stands
storage_unloaded tells plain old new (Damaged file at) damaged moments memory = damaged
storage_unloaded tells plain old new Memory damaged moments memory = memory refl

pub register_unloaded : (T : Type 0) (tells plain : Type 0) (old new : History) (fault : LoadFault)
    → IsOfDamage fault (λ file at. (file ≡ 0) × (tells → IsDamagedAt (old.now 0).reads at))
    → (IsRefusal {T = T} (Err fault) → tells → new ≡ old)
    → (tells → HasFirmFrames meta_len (old.now 0) → (n : ℕ) → StandsFor (old.now 0).reads n → EachMoment 0 (EachLeftStandsFor plain n) old new)
    → register.IsUnloaded tells plain old new (end_of fault)
register_unloaded T tells plain old new Disk damaged same moments = moments
register_unloaded T tells plain old new (Damaged file at) damaged same moments = (damaged.0, λ t. (damaged.1 t, same tt t))
register_unloaded T tells plain old new Memory damaged same moments = same tt

-- a fault of the disk that was counted in loading is told
pub unloaded_told : {T : Type 0} (before now status : ℕ) (fault : LoadFault) (old new : Option (List ℕ)) (text : List ℕ)
    → HasDiskCause {T = T} before now (Err fault) → Prints old new text (status_of (end_of fault)) status → before < now
    → (status ≡ 12) ⊎ IsBroken status
unloaded_told before now status Disk old new text cause prints rose = due_or_broken old new text 12 status prints
unloaded_told before now status (Damaged file at) old new text cause prints rose = absurd (omega (arith, rose, cause.none (λ e. cc)))
unloaded_told before now status Memory old new text cause prints rose = absurd (omega (arith, rose, cause.none (λ e. cc)))
