-- What the register was asked, from the exchange.
use Rattle.std.proofs.Common.{◌≡◌, ℕ, List, Result, Ok, Err, refl, sym, ap, ◌∙◌}
use Rattle.io_core.specs.Links.{Exchange}
use Rattle.wire_codec.specs.declared.message.Message.TheVariants as of
use Rattle.wire_codec.specs.declared.message.ToRegister.{ToRegister}
use Rattle.wire_codec.specs.declared.message.FromRegister.{FromRegister}
use Rattle.session_register.specs.declared.register.RegisterFault.{RegisterFault}
use Rattle.session_register.specs.declared.register.RegisterFault.TheVariants.{Memory}
use Rattle.server_loop.specs.declared.exchanges.Reply.{Reply}
use Rattle.server_loop.specs.Exchanges.{ExchangesOf}
use Rattle.server_loop.specs.Registers.{message_of, made_of, Asks, answered, no_memory}

made_all : (r : Result FromRegister RegisterFault) → made_of Ok r ≡ r
made_all (Ok m) = refl
made_all (Err fault) = refl

-- it replied
pub asked_reply : {E : Type 0} (port : ℕ) (m : ToRegister) (old new : List Exchange) (reply : Reply) (exchanged : Result Reply E) (result : Result FromRegister RegisterFault) → exchanged ≡ Ok reply →
    ExchangesOf port (of.ToRegister m) old new exchanged → result ≡ message_of reply → Asks FromRegister port m Ok old new result
asked_reply port m old new reply exchanged result e h is = answered new result (record { reply = reply; exchanged = rw e at h; made = is ∙ sym (made_all (message_of reply)) })

-- memory ran out
pub asked_none : {E : Type 0} (port : ℕ) (m : ToRegister) (old new : List Exchange) (error : E) (exchanged : Result Reply E) → exchanged ≡ Err error →
    ExchangesOf port (of.ToRegister m) old new exchanged → Asks FromRegister port m Ok old new (Err Memory)
asked_none port m old new error exchanged e h = no_memory new (rw e at h)

-- what is made of a message of the register
pub asks_made : {A : Type 0} (port : ℕ) (m : ToRegister) (make : FromRegister → Result A RegisterFault) (old new : List Exchange) (x : FromRegister) (asked : Result FromRegister RegisterFault) (result : Result A RegisterFault) → asked ≡ Ok x →
    Asks FromRegister port m Ok old new asked → result ≡ make x → Asks A port m make old new result
asks_made port m make old _ x _ result e (answered new asked h) is =
    answered new result (record { reply = h.reply; exchanged = h.exchanged; made = is ∙ sym (ap (made_of make) (sym (made_all (message_of h.reply)) ∙ (sym h.made ∙ e))) })
asks_made port m make old _ x _ result e (no_memory new h) is = absurd (let f : Err Memory ≡ Ok x = e in cc)

-- and of none
pub asks_fault : {A : Type 0} (port : ℕ) (m : ToRegister) (make : FromRegister → Result A RegisterFault) (old new : List Exchange) (fault : RegisterFault) (asked : Result FromRegister RegisterFault) → asked ≡ Err fault →
    Asks FromRegister port m Ok old new asked → Asks A port m make old new (Err fault)
asks_fault port m make old _ fault _ e (answered new asked h) =
    answered new (Err fault) (record { reply = h.reply; exchanged = h.exchanged; made = sym (ap (made_of make) (sym (made_all (message_of h.reply)) ∙ (sym h.made ∙ e))) })
asks_fault port m make old _ fault _ e (no_memory new h) = let f : fault ≡ Memory = cc in rw f (no_memory new h)
