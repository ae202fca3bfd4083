use Rattle.std.proofs.Common.{refl}
use Rattle.world_core.proofs.Fits.{client_listed, clients_change}
use Rattle.world_core.proofs.Events.{rebooted_happens}
use Rattle.world_core.proofs.system.System.reboot.Goals as goal

pub reboot_client-requires-clause-client : goal.reboot_client-requires-clause-client
reboot_client-requires-clause-client g c =
    let ready = rw (← c.self.view_is) at c.requires.ready in
    let within = rw (← c.self.view_is) at c.requires.client in
    client_listed _ _ _ _ ready within

pub reboot_client-requires-clause-numbers : goal.reboot_client-requires-clause-numbers
reboot_client-requires-clause-numbers g c =
    let ready = rw (← c.self.view_is) at c.requires.ready in
    ready.system.numbers

pub returns : goal.returns
returns g c =
    rw (← c.self.view_is) (record {
      cluster_same = refl;
      happens_so = rebooted_happens _ _ c.args.c c.reboot_client.ensures.clients;
      system = λ n is. clients_change _ _ n _ _ c.reboot_client.ensures.size c.reboot_client.ensures.numbers is;
    })
