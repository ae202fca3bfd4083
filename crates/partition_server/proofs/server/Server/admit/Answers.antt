use Rattle.std.proofs.Common.{◌≡◌, ◌≢◌, ◌<◌, ◌^◌, Result, Ok, Err, OnOk, ap, length, arith, rules}
use Rattle.proto_model.specs.Serving.{last_id}
use Rattle.partition_server.specs.Held.{Held}
use Rattle.feed_service.proofs.Parts.{log_within}
use Rattle.partition_server.proofs.server.Server.admit.Goals as goal

on_ok : {A E P Q : Type 0} (r : Result A E) → (P → Q) → OnOk r P → OnOk r Q
on_ok (Ok x) f h = f h
on_ok (Err e) f h = tt

pub returns-clause-room : goal.returns-clause-room
returns-clause-room g c =
    let log = c.self.inside.log.log in
    let same : length log ≡ length c.args.self.now.log = ap (λ (h : Held). length h.log) c.self.view_is in
    let last : c.len-last.result ≡ length log = search rules in
    let low : length log < 2 ^ 48 = log_within log c.self.invariant.is.sound.rise in
    on_ok {P = c.len-last.result ≢ last_id} c.check_room.result (λ other. omega (arith, other)) c.check_room.ensures.room

pub returns-then-mark-last-clause-valid : goal.returns-then-mark-last-clause-valid
returns-then-mark-last-clause-valid g c =
    let log = c.self.inside.log.log in
    let last : c.len-last.result ≡ length log = search rules in
    let low : length log < 2 ^ 48 = log_within log c.self.invariant.is.sound.rise in
    omega (arith, last, low)
