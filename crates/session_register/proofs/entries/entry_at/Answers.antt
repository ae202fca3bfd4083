use Rattle.std.proofs.Common.{◌≡◌, ◌<◌, ◌≤◌, ◌-◌, ℕ, List, length, take, drop, min, arith}
use Rattle.std.proofs.lemmas.List.{length-take-le, length-drop}
use Rattle.session_register.proofs.Framed.{IsPieceOf, entry_some, entry_none}
use Rattle.session_register.proofs.entries.entry_at.Goals as goal

few : (n a b : ℕ) → n ≡ min a b → n < a → b ≤ n
few n a b is less = omega (arith, is, less)

-- what was read is a piece of the file
part : (at n : ℕ) (file into : List ℕ) → take n into ≡ take n (drop at file) → length into ≡ 41 → n ≤ 41 → n ≡ min 41 (length file - at) → IsPieceOf (drop at file) (take n into)
part at n file into bytes size bound count = record {
  n = n;
  is = bytes;
  size = length-take-le n into (omega (arith, size, bound));
  enough = λ less. (let rest = few n 41 (length file - at) count less in omega (arith, rest, length-drop at file));
}

pub returns-clause-some : goal.returns-clause-some
returns-clause-some g c = rw c.ok.ensures.value
    (entry_some g.D.Disk.tells (drop c.args.at ((g.D.Disk.history c.args.disk.now).now 0).reads) (take c.in_ok-count.count c.read_full.new.into) c.decode_meta.result c.decode_meta.ensures.exact
    (λ t. part c.args.at c.in_ok-count.count ((g.D.Disk.history c.args.disk.now).now 0).reads c.read_full.new.into (c.in_ok-count.ensures.bytes t) c.read_full.auto.into c.in_ok-count.ensures.bound (c.in_ok-count.ensures.count t)))

pub returns-clause-none : goal.returns-clause-none
returns-clause-none g c = rw c.ok.ensures.value
    (entry_none g.D.Disk.tells (drop c.args.at ((g.D.Disk.history c.args.disk.now).now 0).reads) (take c.in_ok-count.count c.read_full.new.into) c.decode_meta.result c.decode_meta.ensures.exact
    (λ t. part c.args.at c.in_ok-count.count ((g.D.Disk.history c.args.disk.now).now 0).reads c.read_full.new.into (c.in_ok-count.ensures.bytes t) c.read_full.auto.into c.in_ok-count.ensures.bound (c.in_ok-count.ensures.count t)))
