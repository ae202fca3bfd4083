-- What the fields of a lock table hold.
use Rattle.lock_table.specs.declared.table.LockTable.TheInside.{Inside}
use Rattle.lock_table.specs.Tables.{Table, IsTable}

abbrev pub table_by : Inside → Table
table_by t = record { rows = t.rows; slots = t.slots; entries = t.entries.items }

abbrev pub IsLockTable : Inside → Type 0
IsLockTable t = IsTable (table_by t)
