use Rattle.std.proofs.Common.{◌∙◌, refl, ap, rules, inl, inr, arith}
use Rattle.proto_model.specs.declared.client_message.ToServer.TheVariants as wish
use Rattle.world_core.proofs.Fits.{client_listed, room_for_one, sends_more, clients_change}
use Rattle.world_core.proofs.Events.{built_happens, refused_happens}
use Rattle.world_core.proofs.system.System.append.Goals as goal

pub build-requires-clause-client : goal.build-requires-clause-client
build-requires-clause-client g c =
    let ready = rw (← c.self.view_is) at c.requires.ready in
    let within = rw (← c.self.view_is) at c.requires.client in
    client_listed _ _ _ _ ready within

pub build-requires-clause-numbers : goal.build-requires-clause-numbers
build-requires-clause-numbers g c =
    let ready = rw (← c.self.view_is) at c.requires.ready in
    ready.system.numbers

pub send_one-requires : goal.send_one-requires
send_one-requires g c =
    let ready = rw (← c.self.view_is) at c.requires.ready in
    room_for_one _ _ _ ready

pub returns-in_ok-outcome-in-Ok : goal.returns-in_ok-outcome-in-Ok
returns-in_ok-outcome-in-Ok g c =
    rw (← c.self.view_is, c.in_ok-outcome-in-Ok.ensures.pool, ← (c.into_items-writes.ensures ∙ c.in_ok-copy.ensures), ← (c.into_items-reads.ensures ∙ c.in_ok-copy-2.ensures), ← c.items.ensures) (record {
      cluster_same = refl;
      happens_so = built_happens _ _ _ c.args.c c.args.v _ _ _ _ c.in_ok-outcome-in-Ok.outcome c.in-Ok.ensures.buildable c.in-Ok.ensures.clients (ap wish.Append c.in-Ok.ensures.built) refl c.in_ok-outcome-in-Ok.ensures.outcome;
      system = λ n is. sends_more _ _ n _ _ _ c.in-Ok.ensures.size c.in-Ok.ensures.numbers (tt, tt) (omega arith) is;
    })

pub returns-in-Err : goal.returns-in-Err
returns-in-Err g c =
    elim c.in-Err.ensures.cause [
      | inl memory ↦ search rules
      | inr refusal ↦ rw (← c.self.view_is, ← (c.into_items-writes.ensures ∙ c.in_ok-copy.ensures), ← (c.into_items-reads.ensures ∙ c.in_ok-copy-2.ensures), ← c.items.ensures) (record {
        cluster_same = refl;
        happens_so = refused_happens _ _ c.args.c c.args.v _ _ _ c.in-Err.fault refusal c.in-Err.ensures.refused;
        system = λ n is. clients_change _ _ n _ _ c.in-Err.ensures.size c.in-Err.ensures.numbers is;
      })
    ]
