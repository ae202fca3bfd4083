-- The end of a command whose disk could not be loaded.
use Rattle.disk_model.specs.declared.unloaded.LoadFault.{LoadFault}
use Rattle.disk_model.specs.declared.unloaded.LoadFault.TheVariants as faults
use Rattle.node_loops.specs.declared.end.End.{End}
use Rattle.node_loops.specs.declared.end.End.TheVariants as ends

abbrev pub end_of : LoadFault → End
end_of faults.Disk = ends.Disk
end_of (faults.Damaged file at) = ends.Damaged file at
end_of faults.Memory = ends.Memory
