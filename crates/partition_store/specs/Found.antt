-- Where the records of a log are read.
use Rattle.std.specs.Prelude.{◌≡◌, ℕ, Bool, true, false, List, ◌∷◌, ◌++◌, Result, Ok, Err}
use Rattle.std.specs.List.{AllByRecursion}
use Rattle.disk_model.specs.declared.unloaded.LoadFault.{LoadFault}
use Rattle.disk_model.specs.declared.unloaded.LoadFault.TheVariants.{Disk, Damaged, Memory}
use Rattle.segment_store.specs.Index.{Index, HasId, IsIndexOf}
use Rattle.proto_model.specs.Held.{Contents}
use Rattle.proto_model.specs.declared.replica.NodeFault.{NodeFault}
use Rattle.proto_model.specs.declared.replica.NodeFault.TheVariants.{Disk as NodeDisk, Damaged as NodeDamaged, Memory as NodeMemory}

-- the records of each segment stand in these bytes
abbrev pub AreIndexed : Contents → List Index → Type 0
AreIndexed c segments = AllByRecursion (λ i. IsIndexOf i (c i.file)) segments

-- the segment is one of these, and has a record with this id
pub record IsFound (segments : List Index) (id : ℕ) (i : Index) : Type 0 where
  pub front : List Index
  pub back : List Index
  pub is : segments ≡ front ++ i ∷ back
  pub has : HasId i id

-- what a fault of a segment is to one who reads the log
abbrev pub node_fault : LoadFault → NodeFault
node_fault Disk = NodeDisk
node_fault (Damaged file at) = NodeDamaged file at
node_fault Memory = NodeMemory

abbrev pub node_result : {T : Type 0} → Result T LoadFault → Result T NodeFault
node_result (Ok x) = Ok x
node_result (Err fault) = Err (node_fault fault)

-- whether it shuts the store
abbrev pub shuts_store : {T : Type 0} → Result T LoadFault → Bool
shuts_store (Ok x) = false
shuts_store (Err Disk) = true
shuts_store (Err (Damaged file at)) = true
shuts_store (Err Memory) = false
