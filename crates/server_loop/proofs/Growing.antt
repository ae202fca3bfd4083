-- The exchanges of before stay, whatever a server does.
use Rattle.std.proofs.Common.{◌≡◌, ℕ, Bool, true, false, List, [], ◌∷◌, ◌++◌, Option, None, Some, Ok, sym, ap, ◌∙◌, inl, inr, append_assoc}
use Rattle.std.proofs.lemmas.List.{append-nil}
use Rattle.io_core.specs.Links.{Exchange}
use Rattle.proto_model.specs.declared.client_message.ToServer.{ToServer}
use Rattle.proto_model.specs.declared.client_message.FromServer.{FromServer}
use Rattle.proto_model.specs.Servers.{Config}
use Rattle.proto_model.specs.Serving.{served_after, served_answers}
use Rattle.wire_codec.specs.declared.message.Message.{Message}
use Rattle.wire_codec.specs.declared.message.Message.TheVariants as of
use Rattle.wire_codec.specs.declared.message.Control.TheVariants.{Bye, Done, No}
use Rattle.server_loop.specs.declared.end.End.{End}
use Rattle.server_loop.specs.declared.end.End.TheVariants as ends
use Rattle.server_loop.specs.Exchanges.{Grows}
use Rattle.server_loop.specs.Drives.{Driving, driving, IsVisit, IsCutVisit, IsInRound, IsCutRound, AreRounds, IsDrive, IsCutDrive, EndsDrive, at_start, visited, none, round}
use Rattle.server_loop.specs.Serving.{Standing, all_in, IsServedBy, IsUnserved, IsReplied, IsUnreplied}
use Rattle.server_loop.specs.Sessions.{Post, Begins, Opens, begun}
use Rattle.server_loop.specs.Ends.{IsServingEnd, IsUnannounced}

pub stays : (list : List Exchange) → Grows list list
stays list = record { more = []; are = sym (append-nil list) }

pub grows_both : (a b c : List Exchange) → Grows a b → Grows b c → Grows a c
grows_both a b c p q = record { more = p.more ++ q.more; are = q.are ∙ ap (λ l. l ++ q.more) p.are ∙ append_assoc a p.more q.more }

same_grows : (a b : Standing) → b ≡ a → Grows a.past b.past
same_grows a b e = rw e (stays a.past)

visit_grows : (c : Config) (ports : List ℕ) (i : ℕ) (sent : Bool) (a b : Driving) → IsVisit c ports i sent a b → Grows a.past b.past
visit_grows c ports i true a b h = record { more = _; are = h.answered.exchanged.past }
visit_grows c ports i false a b h = rw h.0 (stays a.past)

round_grows : (c : Config) (ports : List ℕ) (a b : Driving) (k : ℕ) (sent : Bool) → IsInRound c ports a k sent b → Grows a.past b.past
round_grows c ports a _ _ _ at_start = stays a.past
round_grows c ports a _ _ _ (visited k sent more d b before works visit) = grows_both a.past d.past b.past (round_grows c ports a d k sent before) (visit_grows c ports _ more d b visit)

rounds_grow : (c : Config) (ports : List ℕ) (a b : Driving) → AreRounds c ports a b → Grows a.past b.past
rounds_grow c ports a _ none = stays a.past
rounds_grow c ports a _ (round d b before one) = grows_both a.past d.past b.past (rounds_grow c ports a d before) (round_grows c ports d b _ _ one.0)

end_grows : (c : Config) (ports : List ℕ) (a b : Driving) → EndsDrive c ports a b → Grows a.past b.past
end_grows c ports a b (inl h) = round_grows c ports a b _ _ h
end_grows c ports a b (inr h) = round_grows c ports a b _ _ h.round

drive_grows : (c : Config) (ports : List ℕ) (a b : Driving) → IsDrive c ports a b → Grows a.past b.past
drive_grows c ports a b h = grows_both a.past h.before.past b.past (rounds_grow c ports a h.before h.rounds) (end_grows c ports h.before b h.ends)

served_grows : (c : Config) (ports : List ℕ) (m : ToServer) (list : List FromServer) (answer : FromServer) (a b : Standing) → IsServedBy c ports m list answer a b → Grows a.past b.past
served_grows c ports m [] answer a b h = drive_grows c ports _ _ h.driven.drive
served_grows c ports m (first ∷ more) answer a b h = rw h.1 (stays a.past)

-- what a server does to reply
pub reply_grows : (c : Config) (ports : List ℕ) (asked : Option Message) (reply : Message) (a b : Standing) → IsReplied c ports asked reply a b → Grows a.past b.past
reply_grows c ports (Some (of.ToServer m)) (of.FromServer answer) a b h = served_grows c ports m (served_answers c a.state m) answer a b h
reply_grows c ports (Some (of.ToServer m)) (of.ToNode _) a b h = absurd h
reply_grows c ports (Some (of.ToServer m)) (of.FromNode _) a b h = absurd h
reply_grows c ports (Some (of.ToServer m)) (of.ToServer _) a b h = absurd h
reply_grows c ports (Some (of.ToServer m)) (of.ToRegister _) a b h = absurd h
reply_grows c ports (Some (of.ToServer m)) (of.FromRegister _) a b h = absurd h
reply_grows c ports (Some (of.ToServer m)) (of.Control _) a b h = absurd h
reply_grows c ports (Some (of.Control Bye)) reply a b h = same_grows a b h.1
reply_grows c ports (Some (of.Control Done)) reply a b h = same_grows a b h.1
reply_grows c ports (Some (of.Control No)) reply a b h = same_grows a b h.1
reply_grows c ports (Some (of.ToNode _)) reply a b h = same_grows a b h.1
reply_grows c ports (Some (of.FromNode _)) reply a b h = same_grows a b h.1
reply_grows c ports (Some (of.FromServer _)) reply a b h = same_grows a b h.1
reply_grows c ports (Some (of.ToRegister _)) reply a b h = same_grows a b h.1
reply_grows c ports (Some (of.FromRegister _)) reply a b h = same_grows a b h.1
reply_grows c ports None reply a b h = same_grows a b h.1

-- ---- where memory runs out

cut_visit_grows : (c : Config) (ports : List ℕ) (i : ℕ) (a : Driving) (past : List Exchange) → IsCutVisit c ports i a past → Grows a.past past
cut_visit_grows c ports i a past (inl same) = rw same (stays a.past)
cut_visit_grows c ports i a past (inr h) = record { more = _; are = h.sent.1 }

cut_round_grows : (c : Config) (ports : List ℕ) (a : Driving) (past : List Exchange) → IsCutRound c ports a past → Grows a.past past
cut_round_grows c ports a past h = grows_both a.past h.at.past past (round_grows c ports a h.at _ _ h.round) (cut_visit_grows c ports _ h.at past h.cut)

cut_drive_grows : (c : Config) (ports : List ℕ) (a : Driving) (past : List Exchange) → IsCutDrive c ports a past → Grows a.past past
cut_drive_grows c ports a past h = grows_both a.past h.before.past past (rounds_grow c ports a h.before h.rounds) (cut_round_grows c ports h.before past h.cut)

unserved_grows : (c : Config) (ports : List ℕ) (m : ToServer) (a : Standing) (past : List Exchange) → IsUnserved c ports m a past → Grows a.past past
unserved_grows c ports m a past (inl same) = rw same (stays a.past)
unserved_grows c ports m a past (inr h) = cut_drive_grows c ports (driving (served_after c a.state m) all_in a.past) past h.1

pub unreplied_grows : (c : Config) (ports : List ℕ) (asked : Option Message) (a : Standing) (past : List Exchange) → IsUnreplied c ports asked a past → Grows a.past past
unreplied_grows c ports (Some (of.ToServer m)) a past h = unserved_grows c ports m a past h
unreplied_grows c ports (Some (of.ToNode _)) a past h = absurd h
unreplied_grows c ports (Some (of.FromNode _)) a past h = absurd h
unreplied_grows c ports (Some (of.FromServer _)) a past h = absurd h
unreplied_grows c ports (Some (of.ToRegister _)) a past h = absurd h
unreplied_grows c ports (Some (of.FromRegister _)) a past h = absurd h
unreplied_grows c ports (Some (of.Control _)) a past h = absurd h
unreplied_grows c ports None a past h = absurd h

-- ---- how a run opens

pub unannounced_opens : (at : Post) (old : List Exchange) (b : Standing) (session : ℕ) (x y : Option (List ℕ)) (first second : List ℕ) (end : End) → Begins at old b (Ok session) →
    IsUnannounced x y first second end → Opens at old b.past end
unannounced_opens at old b session x y first second ends.Peer begins h = begun b session ends.Peer begins tt (stays b.past)
unannounced_opens at old b session x y first second ends.WriteFault begins h = begun b session ends.WriteFault begins tt (stays b.past)
unannounced_opens at old b session x y first second ends.Memory begins h = begun b session ends.Memory begins tt (stays b.past)
unannounced_opens at old b session x y first second ends.Bye begins h = absurd h
unannounced_opens at old b session x y first second ends.Port begins h = absurd h
unannounced_opens at old b session x y first second ends.Turns begins h = absurd h
unannounced_opens at old b session x y first second ends.Register begins h = absurd h
unannounced_opens at old b session x y first second ends.Garbled begins h = absurd h
unannounced_opens at old b session x y first second ends.Exhausted begins h = absurd h
unannounced_opens at old b session x y first second (ends.TakenOver p) begins h = absurd h
unannounced_opens at old b session x y first second (ends.NoQuorum out) begins h = absurd h

pub served_opens : (at : Post) (old new : List Exchange) (b : Standing) (session : ℕ) (end : End) → Begins at old b (Ok session) → Grows b.past new →
    IsServingEnd end → Opens at old new end
served_opens at old new b session ends.Memory begins grows h = begun b session ends.Memory begins tt grows
served_opens at old new b session ends.Bye begins grows h = begun b session ends.Bye begins tt grows
served_opens at old new b session ends.Port begins grows h = begun b session ends.Port begins tt grows
served_opens at old new b session ends.Turns begins grows h = begun b session ends.Turns begins tt grows
served_opens at old new b session ends.Peer begins grows h = begun b session ends.Peer begins tt grows
served_opens at old new b session (ends.TakenOver p) begins grows h = begun b session (ends.TakenOver p) begins tt grows
served_opens at old new b session ends.WriteFault begins grows h = absurd h
served_opens at old new b session ends.Register begins grows h = absurd h
served_opens at old new b session ends.Garbled begins grows h = absurd h
served_opens at old new b session ends.Exhausted begins grows h = absurd h
served_opens at old new b session (ends.NoQuorum out) begins grows h = absurd h
