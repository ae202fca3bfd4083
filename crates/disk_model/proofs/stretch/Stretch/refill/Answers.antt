use Rattle.std.proofs.Common.{rules, ◌≡◌, ◌≤◌, ◌++◌, length, drop, arith, ◌∙◌, ap, List, ℕ}
use Rattle.disk_model.proofs.Pieces.{front_of_piece}
use Rattle.disk_model.proofs.stretch.Stretch.refill.Goals as goal

pub returns-clause-bytes : goal.returns-clause-bytes
returns-clause-bytes g c = λ t.
    let file = ((g.D.Disk.history c.args.disk.now).now c.args.self.now.file).reads in
    let le : c.min-n.result ≤ c.in_ok-count.count = search rules in
    let size : length c.read.new.into ≡ c.args.self.now.piece.len = omega (arith, c.read.auto.into, c.deref_mut.ensures.len) in
    let front = front_of_piece c.deref.result.now c.read.new.into c.args.self.now.piece.items (drop c.args.self.now.next file) c.args.self.now.piece.len c.in_ok-count.count c.min-n.result c.deref.ensures.value size (c.in_ok-count.ensures.read t).bytes le in
    c.in_ok-extend_from_slice.ensures.items ∙ ap (λ (l : List ℕ). c.args.self.now.bytes.items ++ l) front
