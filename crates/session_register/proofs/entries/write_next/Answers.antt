use Rattle.std.proofs.Common.{◌+◌, ◌∙◌, arith}
use Rattle.session_register.proofs.Written.{writes, syncs, tidy_then}
use Rattle.session_register.proofs.entries.write_next.Goals as goal

pub returns-in_err-write_at-clause-any_moment : goal.returns-in_err-write_at-clause-any_moment
returns-in_err-write_at-clause-any_moment g c = λ t.
    writes g.D.Disk.plain (g.D.Disk.history c.args.disk.now) c.args.front.number c.args.front.end (c.requires.tidy t) c.requires.range c.split_at.result.0.now (c.split_at.ensures.front ∙ c.encode_meta-len.ensures.spelled) (g.D.Disk.history c.write_at.new.self) (g.met.D.Disk.sound c.write_at.new.self t) (g.met.D.Disk.settles c.write_at.new.self t) (c.write_at.ensures.moments t)

pub returns-in_err-sync-clause-any_moment : goal.returns-in_err-sync-clause-any_moment
returns-in_err-sync-clause-any_moment g c = λ t.
    syncs g.D.Disk.plain (g.D.Disk.history c.args.disk.now) c.args.front.number c.args.front.end (c.requires.tidy t) c.requires.range c.split_at.result.0.now (c.split_at.ensures.front ∙ c.encode_meta-len.ensures.spelled) (g.D.Disk.history c.write_at.new.self) (g.D.Disk.history c.sync.new.self) (g.met.D.Disk.sound c.sync.new.self t) (g.met.D.Disk.settles c.sync.new.self t) (c.write_at.ensures.moments t) (c.in_ok-write_at.ensures.reads t) (c.sync.ensures.moments t)

pub returns-clause-any_moment : goal.returns-clause-any_moment
returns-clause-any_moment g c = λ t.
    syncs g.D.Disk.plain (g.D.Disk.history c.args.disk.now) c.args.front.number c.args.front.end (c.requires.tidy t) c.requires.range c.split_at.result.0.now (c.split_at.ensures.front ∙ c.encode_meta-len.ensures.spelled) (g.D.Disk.history c.write_at.new.self) (g.D.Disk.history c.sync.new.self) (g.met.D.Disk.sound c.sync.new.self t) (g.met.D.Disk.settles c.sync.new.self t) (c.write_at.ensures.moments t) (c.in_ok-write_at.ensures.reads t) (c.sync.ensures.moments t)

pub returns-clause-tidy : goal.returns-clause-tidy
returns-clause-tidy g c = λ t.
    tidy_then g.D.Disk.plain (g.D.Disk.history c.args.disk.now) c.args.front.number c.args.front.end (c.requires.tidy t) c.requires.range c.split_at.result.0.now (c.split_at.ensures.front ∙ c.encode_meta-len.ensures.spelled) (g.D.Disk.history c.write_at.new.self) (g.D.Disk.history c.sync.new.self) (c.in_ok-write_at.ensures.reads t) (c.in_ok-sync.ensures.synced t)
    (c.args.front.end + c.encode_meta-len.result) (omega (arith, c.split_at.ensures.front_len))
