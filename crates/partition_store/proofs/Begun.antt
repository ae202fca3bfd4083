-- A file that no entry names: emptied, and the first records written to it.
use Rattle.std.proofs.Common.{◌≡◌, ℕ, List, [], ◌++◌, refl, ◌∙◌, ap}
use Rattle.tx_model.specs.declared.record.Record.{Record}
use Rattle.tx_model.specs.Frames.{walk}
use Rattle.tx_model.specs.Contents.{records_in}
use Rattle.disk_model.specs.File.{File, settled}
use Rattle.disk_model.specs.History.{History, EachMoment}
use Rattle.disk_model.proofs.Moments.{goes_on, weaker}

-- an empty file holds none
pub none_in : records_in [] ≡ []
unfolding walk
none_in = refl

pub first_in : (f : File) (now records : List Record) → f ≡ settled [] → now ≡ records_in f.reads ++ records → now ≡ records
first_in f now records empty is = is ∙ ap (λ (l : List Record). l ++ records) (ap (λ (g : File). records_in g.reads) empty ∙ none_in)

-- whatever runs on one file, the others stay
pub aside_one : (file : ℕ) (P : File → Type 0) (old new : History) → EachMoment file P old new → EachMoment file (λ f. Unit {0}) old new
aside_one file P old new run = weaker file (λ f. Unit {0}) P old new run (λ f it. tt)

pub aside_then : (file : ℕ) (P Q : File → Type 0) (old mid new : History) → EachMoment file P old mid → EachMoment file Q mid new → EachMoment file (λ f. Unit {0}) old new
aside_then file P Q old mid new first next = goes_on file (λ f. Unit {0}) Q old mid new (aside_one file P old mid first) next (λ f it. tt)
