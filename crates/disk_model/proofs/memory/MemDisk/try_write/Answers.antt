use Rattle.std.proofs.Common.{◌≡◌, ◌∙◌, ℕ, ap, length, take, arith, rules}
use Rattle.std.proofs.lemmas.List.{take_all}
use Rattle.disk_model.specs.MemDisk.{MemState, mem_history, let_through}
use Rattle.disk_model.proofs.Kept.{write_agrees, write_reads, write_goes, write_is_front}
use Rattle.disk_model.proofs.memory.MemDisk.try_write.Goals as goal

pub put-requires : goal.put-requires
put-requires c =
    let was : c.refuses.new.self ≡ c.args.self.now = search rules in
    let same = ap (λ (m : MemState). length ((mem_history m).now c.args.file).reads) (c.self.view_is ∙ was) in
    let there = c.requires in
    omega (arith, ap length (c.self.invariant c.args.file), same, there)

pub invariant_of-self-then-kept-bytes : goal.invariant_of-self-then-kept-bytes
invariant_of-self-then-kept-bytes c =
    let was : c.refuses.new.self ≡ c.args.self.now = search rules in
    write_agrees c.args.self.now.changes c.self.inside.changes.items c.push.new.self.items c.self.inside.files c.put.new.files c.args.file c.args.at c.args.bytes.now c.in_ok-from_slice.field-0 c.split_at.result.0.now
    (ap (λ (m : MemState). m.changes) (c.self.view_is ∙ was)) (search rules) c.in_ok-from_slice.ensures c.in_ok-put.ensures.ok c.self.invariant

pub invariant_of-self-else-kept-bytes : goal.invariant_of-self-else-kept-bytes
invariant_of-self-else-kept-bytes c =
    let was : c.refuses.new.self ≡ c.args.self.now = search rules in
    write_agrees c.args.self.now.changes c.self.inside.changes.items c.push.new.self.items c.self.inside.files c.put.new.files c.args.file c.args.at c.args.bytes.now c.in_ok-from_slice.field-0 c.split_at.result.0.now
    (ap (λ (m : MemState). m.changes) (c.self.view_is ∙ was)) (search rules) c.in_ok-from_slice.ensures c.in_ok-put.ensures.ok c.self.invariant

pub returns-then-kept-bytes-clause-moments : goal.returns-then-kept-bytes-clause-moments
returns-then-kept-bytes-clause-moments c =
    let was : c.refuses.new.self ≡ c.args.self.now = search rules in
    write_goes c.args.self.now.changes c.self.inside.changes.items c.push.new.self.items c.self.inside.files c.put.new.files c.args.file c.args.at c.args.bytes.now c.in_ok-from_slice.field-0 c.split_at.result.0.now
    (ap (λ (m : MemState). m.changes) (c.self.view_is ∙ was)) (search rules) c.in_ok-from_slice.ensures c.in_ok-put.ensures.ok c.self.invariant
    c.let_through-kept.result c.split_at.ensures.front c.requires

pub returns-clause-moments : goal.returns-clause-moments
returns-clause-moments c =
    let was : c.refuses.new.self ≡ c.args.self.now = search rules in
    write_goes c.args.self.now.changes c.self.inside.changes.items c.push.new.self.items c.self.inside.files c.put.new.files c.args.file c.args.at c.args.bytes.now c.in_ok-from_slice.field-0 c.split_at.result.0.now
    (ap (λ (m : MemState). m.changes) (c.self.view_is ∙ was)) (search rules) c.in_ok-from_slice.ensures c.in_ok-put.ensures.ok c.self.invariant
    c.let_through-kept.result c.split_at.ensures.front c.requires

pub returns-clause-reads : goal.returns-clause-reads
returns-clause-reads c =
    let was : c.refuses.new.self ≡ c.args.self.now = search rules in
    let all : c.split_at.result.0.now ≡ c.args.bytes.now = c.split_at.ensures.front ∙ take_all c.let_through-kept.result c.args.bytes.now (omega arith) in
    write_reads c.args.self.now.changes c.self.inside.changes.items c.push.new.self.items c.self.inside.files c.put.new.files c.args.file c.args.at c.args.bytes.now c.in_ok-from_slice.field-0 c.split_at.result.0.now
    (ap (λ (m : MemState). m.changes) (c.self.view_is ∙ was)) (search rules) c.in_ok-from_slice.ensures c.in_ok-put.ensures.ok c.self.invariant all

pub returns-then-kept-bytes-clause-fronts : goal.returns-then-kept-bytes-clause-fronts
returns-then-kept-bytes-clause-fronts c =
    let was : c.refuses.new.self ≡ c.args.self.now = search rules in
    let kept = c.let_through-kept.ensures ∙ ap (λ (m : MemState). let_through m.fuse (length c.args.bytes.now)) (c.self.view_is ∙ was) in
    write_is_front c.args.self.now.changes c.self.inside.changes.items c.push.new.self.items c.self.inside.files c.put.new.files c.args.file c.args.at c.args.bytes.now c.in_ok-from_slice.field-0 c.split_at.result.0.now
    (ap (λ (m : MemState). m.changes) (c.self.view_is ∙ was)) (search rules) c.in_ok-from_slice.ensures c.in_ok-put.ensures.ok c.self.invariant
    (let_through c.args.self.now.fuse (length c.args.bytes.now)) (c.split_at.ensures.front ∙ ap (λ (k : ℕ). take k c.args.bytes.now) kept)

pub returns-clause-fronts : goal.returns-clause-fronts
returns-clause-fronts c =
    let was : c.refuses.new.self ≡ c.args.self.now = search rules in
    let kept = c.let_through-kept.ensures ∙ ap (λ (m : MemState). let_through m.fuse (length c.args.bytes.now)) (c.self.view_is ∙ was) in
    write_is_front c.args.self.now.changes c.self.inside.changes.items c.push.new.self.items c.self.inside.files c.put.new.files c.args.file c.args.at c.args.bytes.now c.in_ok-from_slice.field-0 c.split_at.result.0.now
    (ap (λ (m : MemState). m.changes) (c.self.view_is ∙ was)) (search rules) c.in_ok-from_slice.ensures c.in_ok-put.ensures.ok c.self.invariant
    (let_through c.args.self.now.fuse (length c.args.bytes.now)) (c.split_at.ensures.front ∙ ap (λ (k : ℕ). take k c.args.bytes.now) kept)
