use Rattle.std.proofs.Common.{◌≡◌, ◌∙◌, refl, sym, ap, length, map, drop, rules, arith}
use Rattle.std.specs.Vec.{vec_items}
use Rattle.std.proofs.lemmas.List.{length-map, drop-drop}
use Rattle.io_core.specs.Rooms.{first_of}
use Rattle.io_core.proofs.Coming.{coming-front, before_end, length-added}
use Rattle.io_core.proofs.Pasts.{transcript_of-replied, replied_count-replied}
use Rattle.io_core.proofs.mem_link.MemLink.take_reply.Goals as goal

pub invariant_of-self-2 : goal.invariant_of-self-2
invariant_of-self-2 c =
    let within = before_end vec_items c.self.inside.replies.items (length c.self.inside.sent.items) c.self.invariant.0 (λ e. c.requires (rw (← c.self.view_is) e)) in
    let more = length-added vec_items c.self.inside.sent.items c.add_both.new.texts.items c.args.bytes.now c.in_ok-add_both.ensures.text in
    (omega (arith, within, more), rw (c.in_ok-add_both.ensures.item, replied_count-replied c.self.inside.past.items c.args.port (length c.args.into.now), more) (omega (arith, c.self.invariant.1)))

pub returns-clause-back : goal.returns-clause-back
returns-clause-back c =
    let place : c.len.result ≡ length c.self.inside.sent.items = search rules in
    let within = before_end vec_items c.self.inside.replies.items (length c.self.inside.sent.items) c.self.invariant.0 (λ e. c.requires (rw (← c.self.view_is) e)) in
    let front = coming-front vec_items c.self.inside.replies.items (length c.self.inside.sent.items) c.index-reply.result.now within (rw place at c.index-reply.ensures) in
    rw (← c.self.view_is, front) (rw c.deref.ensures.value at c.show_reply.ensures.back)

pub returns-clause-room : goal.returns-clause-room
returns-clause-room c =
    let place : c.len.result ≡ length c.self.inside.sent.items = search rules in
    let within = before_end vec_items c.self.inside.replies.items (length c.self.inside.sent.items) c.self.invariant.0 (λ e. c.requires (rw (← c.self.view_is) e)) in
    let front = coming-front vec_items c.self.inside.replies.items (length c.self.inside.sent.items) c.index-reply.result.now within (rw place at c.index-reply.ensures) in
    rw (← c.self.view_is, front) (rw c.deref.ensures.value at c.show_reply.ensures.room)

pub returns-clause-ok : goal.returns-clause-ok
returns-clause-ok c =
    let sent = c.self.inside.sent.items in
    let replies = map vec_items c.self.inside.replies.items in
    let more = length-added vec_items sent c.add_both.new.texts.items c.args.bytes.now c.in_ok-add_both.ensures.text in
    let told = transcript_of-replied c.self.inside.past.items (map vec_items sent) replies c.args.port (length c.args.into.now) c.args.bytes.now
    (first_of (drop (length sent) replies)) (c.self.invariant.1 ∙ sym (length-map _ _)) (ap (λ n. first_of (drop n replies)) (sym (length-map _ _))) in
    rw (← c.self.view_is, c.in_ok-add_both.ensures.item, c.in_ok-add_both.ensures.text, told, more, drop-drop 1 (length sent) replies) refl
