-- Turns of what serves, as turns of another thing that stands for it.
use Rattle.std.proofs.Common.{◌≡◌, ◌≢◌, ◌<◌, ◌⊎◌, ℕ, Bool, true, false, None, Some, refl, inl, inr, subst, sym, ◌∙◌}
use Rattle.wire_codec.specs.declared.message.Message.{Message}
use Rattle.node_loops.specs.declared.requests.Asked.{Asked}
use Rattle.node_loops.specs.declared.end.End.{End}
use Rattle.node_loops.specs.declared.end.End.TheVariants as ends
use Rattle.node_loops.specs.Ends.{IsEarlyEnd}
use Rattle.node_loops.specs.Serving.{Desk, desk, Replying, Failing, InARow, none, one_more, IsTurn, GoesOn, EndsBy, parted, closed, failed, none_came, port_failed, unread, unsent, Runs, unbegun, served}
use Rattle.node_loops.specs.Storage.{goes_on}

module _ {S T : Type 0}
    (Replies : Replying S) (Fails : Failing S) (Replies' : Replying T) (Fails' : Failing T)
    (Seen : S → T → Type 0) (After : End → S → T → Type 0)
    (step : (asked : Asked) (reply : Message) (a b : S) (t : T) → Seen a t → Replies asked reply a b → (t' : T) × (Replies' asked reply t t' × Seen b t'))
    (fail : (asked : Asked) (end : End) (a b : S) (t : T) → Seen a t → Fails asked end a b → (t' : T) × (Fails' asked end t t' × After end b t'))
    (rest : (end : End) (a : S) (t : T) → end ≢ ends.Disk → Seen a t → After end a t) where
  turn_seen : (bye : Bool) (a b : Desk S) (t : T) → Seen a.server t → IsTurn S Replies bye a b →
      (t' : T) × (IsTurn T Replies' bye (desk a.coming a.answers t) (desk b.coming b.answers t') × Seen b.server t')
  turn_seen bye a b t seen turn =
      let s = step turn.asked turn.reply a.server b.server t seen turn.replied in (
        s.0,
        (
          record {
            request = turn.request;
            asked = turn.asked;
            reply = turn.reply;
            given = turn.given;
            took = turn.took;
            asks = turn.asks;
            kind = turn.kind;
            answered = turn.answered;
            replied = s.1.0;
          },
          s.1.1,
        ),
      )

  row_seen : (a : Desk S) (t : T) → Seen a.server t → (n : ℕ) (b : Desk S) → InARow (Desk S) (GoesOn S Replies goes_on) a n b →
      (t' : T) × (InARow (Desk T) (GoesOn T Replies' goes_on) (desk a.coming a.answers t) n (desk b.coming b.answers t') × Seen b.server t')
  row_seen a t seen _ _ none = (t, (none, seen))
  row_seen a t seen _ _ (one_more n b c before last) =
      let r = row_seen a t seen n b before in
      let s = turn_seen false b c r.0 r.1.1 last.turn in
      (s.0, (one_more n _ _ r.1.0 (record { turn = s.1.0; serves = refl }), s.1.1))

  abbrev EndSeen : Desk S → Desk S → T → End → Type 0
  EndSeen a b t end =
      (t' : T) × (EndsBy T Replies' Fails' goes_on (desk a.coming a.answers t) (desk b.coming b.answers t') end × After end b.server t')

  end_seen : (a b : Desk S) (t : T) (end : End) → Seen a.server t → EndsBy S Replies Fails goes_on a b end → EndSeen a b t end
  end_seen a b t _ seen (parted turn) =
      let s = turn_seen true a b t seen turn in (s.0, (parted s.1.0, rest ends.Bye b.server s.0 (λ e. let never : ends.Bye ≡ ends.Disk = e in cc) s.1.1))
  end_seen a b t _ seen (closed end turn over) = absurd (let never : None ≡ Some end = over in cc)
  end_seen a b t _ seen (failed end un) =
      let f = fail un.asked end a.server b.server t seen un.failed in
      (f.0, (failed end (record { request = un.request; asked = un.asked; took = un.took; asks = un.asks; answered = un.answered; failed = f.1.0 }), f.1.1))
  end_seen a b t _ seen (none_came empty same) = rw same (t, (none_came empty refl, rest ends.Port a.server t (λ e. let never : ends.Port ≡ ends.Disk = e in cc) seen))
  end_seen a b t _ seen (port_failed same) = rw same (t, (port_failed refl, rest ends.Peer a.server t (λ e. let never : ends.Peer ≡ ends.Disk = e in cc) seen))
  end_seen a b t _ seen (unread un) =
      (t, (unread (record { request = un.request; took = un.took; answered = un.answered; server = refl }), rw un.server (rest ends.Memory a.server t (λ e. let never : ends.Memory ≡ ends.Disk = e in cc) seen)))
  end_seen a b t _ seen (unsent un) =
      let s = step un.asked un.reply a.server b.server t seen un.replied in
      (s.0, (unsent (record { request = un.request; asked = un.asked; reply = un.reply; took = un.took; asks = un.asks; answered = un.answered; replied = s.1.0 }), rest ends.Memory b.server s.0 (λ e. let never : ends.Memory ≡ ends.Disk = e in cc) s.1.1))

  pub seen_runs : (a b : Desk S) (t : T) (end : End) → Seen a.server t → Runs S Replies Fails goes_on a b end →
      (t' : T) × (Runs T Replies' Fails' goes_on (desk a.coming a.answers t) (desk b.coming b.answers t') end × After end b.server t')
  seen_runs a b t _ seen (unbegun end early same) = rw same (t, (unbegun end early refl, rest end a.server t (λ e. subst IsEarlyEnd e early) seen))
  seen_runs a b t _ seen (served end s) = served_seen (row_seen a t seen s.count s.before s.turns) s.ends
    where
      served_seen : (t' : T) × (InARow (Desk T) (GoesOn T Replies' goes_on) (desk a.coming a.answers t) s.count (desk s.before.coming s.before.answers t') × Seen s.before.server t') →
          ((s.count < 1000000) × EndsBy S Replies Fails goes_on s.before b end) ⊎ ((end ≡ ends.Turns) × (s.count ≡ 1000000) × (b ≡ s.before)) →
          (t' : T) × (Runs T Replies' Fails' goes_on (desk a.coming a.answers t) (desk b.coming b.answers t') end × After end b.server t')
      served_seen r (inl e) =
          let last = end_seen s.before b r.0 end r.1.1 e.1 in
          (last.0, (served end (record { count = s.count; before = desk s.before.coming s.before.answers r.0; turns = r.1.0; ends = inl (e.0, last.1.0) }), last.1.1))
      served_seen r (inr e) =
          rw e.2 (r.0, (served end (record { count = s.count; before = desk s.before.coming s.before.answers r.0; turns = r.1.0; ends = inr (e.0, e.1, refl) }), rest end s.before.server r.0 (λ d. let never : ends.Turns ≡ ends.Disk = sym e.0 ∙ d in cc) r.1.1))
