use Rattle.std.proofs.Common.{◌≡◌, ◌∙◌, ◌+◌, refl, sym, ap}
use Rattle.net_model.specs.declared.mail.Envelope.{Envelope}
use Rattle.world_core.proofs.Fits.{going_on, stays, nodes_change, found_fit}
use Rattle.world_core.proofs.Events.{torn_happens, untorn_happens}
use Rattle.world_core.proofs.system.System.tear.Goals as goal

pub tear_node-requires-clause-valid : goal.tear_node-requires-clause-valid
tear_node-requires-clause-valid g c =
    let ready = rw (← c.self.view_is) at c.requires.ready in
    rw c.in-ToNode.is at (found_fit c.self.inside.pool _ c.in-Some.envelope.now ready.system.fit c.in-Some.ensures.some)

pub tear_node-requires-clause-going : goal.tear_node-requires-clause-going
tear_node-requires-clause-going g c =
    let ready = rw (← c.self.view_is) at c.requires.ready in
    going_on _ _ _ ready

pub returns-in_default : goal.returns-in_default
returns-in_default g c =
    rw (← c.self.view_is) (record {
      cluster_same = refl;
      happens_so = untorn_happens _ c.args.number c.args.keep (λ e m i found message to. let none = rw c.in_default.is at c.get.ensures.none in cc);
      system = λ n is. stays _ _ n _ is;
    })

pub returns-in_default-message : goal.returns-in_default-message
returns-in_default-message g c =
    rw (← c.self.view_is) (record {
      cluster_same = refl;
      happens_so = untorn_happens _ c.args.number c.args.keep (λ e m i found message to. let some = c.in-Some.ensures.some in let same : c.in-Some.envelope.now ≡ e = cc in absurd (c.in_default-message.not-ToNode m (ap (λ (x : Envelope). x.message) same ∙ message)));
      system = λ n is. stays _ _ n _ is;
    })

pub returns-in_default-to : goal.returns-in_default-to
returns-in_default-to g c =
    rw (← c.self.view_is) (record {
      cluster_same = refl;
      happens_so = untorn_happens _ c.args.number c.args.keep (λ e m i found message to. let some = c.in-Some.ensures.some in let same : c.in-Some.envelope.now ≡ e = cc in absurd (c.in_default-to.not-Node i (ap (λ (x : Envelope). x.to) same ∙ to)));
      system = λ n is. stays _ _ n _ is;
    })

pub returns-then-not-within : goal.returns-then-not-within
returns-then-not-within g c =
    rw (← c.self.view_is) (record {
      cluster_same = refl;
      happens_so = untorn_happens _ c.args.number c.args.keep (λ e m i found message to. let some = c.in-Some.ensures.some in let same : c.in-Some.envelope.now ≡ e = cc in let its = c.in-Node.is in let eq : c.in-Node.i ≡ i = cc in rw (← eq) (sym c.within.ensures ∙ c.if-not-within.true));
      system = λ n is. stays _ _ n _ is;
    })

pub returns : goal.returns
returns g c =
    let t = c.in_ok-s.ensures.torn in
    rw (← c.self.view_is) (record {
      cluster_same = refl;
      happens_so = torn_happens _ _ _ t.2.bytes c.args.number c.args.keep c.in-Node.i c.in-Some.envelope.now c.in-ToNode.m t.0 c.in_ok-s.s c.in-Some.ensures.some c.in-Node.is c.in-ToNode.is (sym c.within.ensures ∙ c.if-not-within.false) t.1 t.2.states t.2.files t.3;
      system = λ n is. nodes_change _ _ n _ _ c.in_ok-s.ensures.size (c.in_ok-s.ensures.going (n + 1) is.going) is;
    })
