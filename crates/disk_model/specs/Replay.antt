-- What the changes of a disk in memory make of its files.
use Rattle.std.specs.Prelude.{◌≡◌, ◌≤◌, ℕ, zero, suc, List, [], ◌∷◌, ◌++◌, length, take, Vec}
use Rattle.std.specs.Ordering.{nat_cmp}
use Rattle.std.specs.Option.{option_map_or}
use Rattle.std.specs.BTreeMap.{get, BTreeMap}
use Rattle.std.specs.declared.alloc.Global.{Global}
use Rattle.disk_model.specs.declared.change.Change.{Change}
use Rattle.disk_model.specs.declared.change.Change.TheVariants.{Write, Cut}
use Rattle.disk_model.specs.File.{File, settled, overlaid}
use Rattle.disk_model.specs.History.{Files, History, moments, at_file}

-- the bytes of a file, of which one that isn't there has none
abbrev pub bytes_of : BTreeMap ℕ (Vec ℕ Global) → ℕ → List ℕ
bytes_of files q = option_map_or (λ (v : Vec ℕ Global). v.items) (get nat_cmp files q) []

-- the first k bytes of a write stand
abbrev pub half_written : ℕ → List ℕ → ℕ → File → File
half_written at bytes k f = settled (overlaid f.reads at (take k bytes))

-- at most m bytes of a write stand over these, and all is on the disk
abbrev pub IsFrontWritten : ℕ → ℕ → List ℕ → List ℕ → File → Type 0
IsFrontWritten at m bytes old f = (k : ℕ) × (k ≤ m) × (f ≡ settled (overlaid old at (take k bytes)))

abbrev pub cut_to : ℕ → File → File
cut_to len f = settled (take len f.reads)

-- while the write went on, up to k bytes
unfoldable pub progress : ℕ → ℕ → List ℕ → ℕ → Files → List Files
progress file at bytes zero s = at_file file (half_written at bytes zero) s ∷ []
progress file at bytes (suc k) s = at_file file (half_written at bytes (suc k)) s ∷ progress file at bytes k s

unfoldable pub after : Change → History → History
after (Write file at bytes) h = record {
  now = at_file file (half_written at bytes (length bytes)) h.now;
  past = progress file at bytes (length bytes) h.now ++ moments h;
}
after (Cut file len) h = record { now = at_file file (cut_to len) h.now; past = moments h }

unfoldable pub replay : History → List Change → History
replay h [] = h
replay h (c ∷ cs) = replay (after c h) cs

-- no file has a byte
abbrev pub start : History
start = record { now = λ _. settled []; past = [] }

abbrev pub history_of : List Change → History
history_of changes = replay start changes
