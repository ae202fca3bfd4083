-- What a delivery makes of worlds with these parties.
use Rattle.std.proofs.Common.{◌≡◌, ◌∙◌, ℕ, ◌+◌, List, [], ◌∷◌, length, map, filter, Bool, true, false, refl, sym, ap, subst, arith, Option, None, Some}
use Rattle.std.specs.Prelude.{Vec, IfSome, option_to_list, ◌&&◌, if◌then◌else◌}
use Rattle.std.specs.List.{AllByRecursion}
use Rattle.std.specs.declared.alloc.Global.{Global}
use Rattle.proto_model.specs.declared.message.ToNode.{ToNode}
use Rattle.proto_model.specs.declared.message.FromNode.{FromNode}
use Rattle.proto_model.specs.declared.client_message.ToServer.{ToServer}
use Rattle.proto_model.specs.declared.client_message.FromServer.{FromServer}
use Rattle.proto_model.specs.Tables.{put}
use Rattle.proto_model.specs.Quorums.{is_within}
use Rattle.proto_model.specs.Replicas.{ReplicaState, replica_after, replica_reply}
use Rattle.proto_model.specs.Servers.{ServerState, Waiting, server_after, server_answers}
use Rattle.proto_model.specs.Serving.{served_after, served_answers}
use Rattle.client_core.specs.Clients.{ClientState, client_step}
use Rattle.proto_model.specs.Validity.{HasPlace, IsValidFromNode}
use Rattle.partition_server.specs.Answers.{addressed}
use Rattle.net_model.specs.declared.mail.Party.{Party}
use Rattle.net_model.specs.declared.mail.Party.TheVariants as party
use Rattle.net_model.specs.declared.mail.Mail.{Mail}
use Rattle.net_model.specs.declared.mail.Mail.TheVariants as mail
use Rattle.net_model.specs.declared.mail.Envelope.{Envelope}
use Rattle.net_model.specs.Briefs.{items_from}
use Rattle.world_law.specs.Worlds.{WorldState, config_of}
use Rattle.world_law.specs.Deliveries.{taken, sends, told, is_client, answer_from}
use Rattle.net_model.specs.declared.outcome.Outcome.TheVariants as outcome
use Rattle.world_law.specs.Outcomes.{mail_outcome, sent_outcome}
use Rattle.world_core.specs.declared.deliver.Got.TheVariants as got
use Rattle.world_core.specs.Kept.{Parties, nodes_of, files_of, no_files, servers_of, clients_of, with_parties, HasParties}
use Rattle.world_core.specs.Fit.{AreFit}
use Rattle.world_core.specs.Deliveries.{Delivers, items_outcome, is_to_client, pair_envelope}

sent_items : (w : WorldState) (envelopes : List Envelope) → sent_outcome w envelopes ≡ items_outcome (items_from (length w.sent + 1) envelopes)
sent_items w [] = refl
sent_items w (e ∷ envelopes) = refl

pub made_outcome : (w : WorldState) (v made : List Envelope) → v ≡ made → items_outcome (items_from (length w.sent + 1) v) ≡ sent_outcome w made
made_outcome w v made same = ap (λ l. items_outcome (items_from (length w.sent + 1) l)) same ∙ sym (sent_items w made)

-- it is enough to look at the worlds with the old parties
delivers : (p new : Parties) (files : ℕ → List ℕ) (from to : Party) (m : Mail) (v : Vec Envelope Global) → ((w : WorldState) → HasParties new (taken (with_parties p w) files from to m)) → ((w : WorldState) → v.items ≡ sends (with_parties p w) from to m)
    → ((w : WorldState) → mail_outcome (with_parties p w) from to m ≡ sent_outcome (with_parties p w) (sends (with_parties p w) from to m)) → AreFit v.items → Delivers p new from to m (got.Made v)
delivers p new files from to m v leads made said fit = record {
  files = files;
  leads = λ w has. let P : WorldState → Type 0 = λ x. HasParties new (taken x files from to m) in subst P (sym has) (leads w);
  made = λ w has. let P : WorldState → Type 0 = λ x. v.items ≡ sends x from to m in subst P (sym has) (made w);
  gives = λ w has.
      let P : WorldState → Type 0 = λ x. items_outcome (items_from (length x.sent + 1) v.items) ≡ mail_outcome x from to m in
      subst P (sym has) (made_outcome (with_parties p w) v.items (sends (with_parties p w) from to m) (made w) ∙ sym (said w));
  fit = fit;
}

-- a message to a party that is not there
nothing : (p : Parties) (from to : Party) (m : Mail) (v : Vec Envelope Global) → v.items ≡ [] → ((w : WorldState) → taken (with_parties p w) no_files from to m ≡ with_parties p w) → ((w : WorldState) → sends (with_parties p w) from to m ≡ [])
    → ((w : WorldState) → mail_outcome (with_parties p w) from to m ≡ outcome.Quiet) → Delivers p p from to m (got.Made v)
nothing p from to m v empty same none quiet =
    delivers p p no_files from to m v
    (λ w. let P : WorldState → Type 0 = λ x. HasParties p x in subst P (sym (same w)) refl)
    (λ w. empty ∙ sym (none w))
    (λ w. quiet w ∙ sym (ap (sent_outcome (with_parties p w)) (none w)))
    (subst AreFit (sym empty) tt)

-- ---- requests to nodes

pub request_delivers : (p : Parties) (ns : List ReplicaState) (fs : List (ℕ → List ℕ)) (bytes : ℕ → List ℕ) (from to : Party) (i : ℕ) (m : ToNode) (reply : FromNode) (v : Vec Envelope Global) → to ≡ party.Node i → is_within p.cluster.nodes i ≡ true
    → nodes_of ns ≡ put (nodes_of p.nodes) i (replica_after (nodes_of p.nodes i) m) → files_of fs ≡ put (files_of p.files) i bytes → reply ≡ replica_reply (nodes_of p.nodes i) m → IsValidFromNode reply
    → v.items ≡ record { from = party.Node i; to = from; message = mail.FromNode reply } ∷ [] → Delivers p (record p { nodes = ns; files = fs }) from to (mail.ToNode m) (got.Made v)
request_delivers p ns fs bytes from to i m reply v there within nodes files answered valid is =
    let P : Party → Type 0 = λ x. Delivers p (record p { nodes = ns; files = fs }) from x (mail.ToNode m) (got.Made v) in
    subst P (sym there) (delivers p (record p { nodes = ns; files = fs }) bytes from (party.Node i) (mail.ToNode m) v
    (λ w. rw (within, nodes, files) refl) (λ w. rw (within, is, answered) refl) (λ w. refl) (subst AreFit (sym is) (valid, tt)))

no_request : (p : Parties) (from to : Party) (m : ToNode) (v : Vec Envelope Global) → v.items ≡ [] → ((i : ℕ) → to ≡ party.Node i → is_within p.cluster.nodes i ≡ false) → Delivers p p from to (mail.ToNode m) (got.Made v)
no_request p from (party.Node i) m v empty out = nothing p from (party.Node i) (mail.ToNode m) v empty (λ w. rw (out i refl) refl) (λ w. rw (out i refl) refl) (λ w. rw (out i refl) refl)
no_request p from (party.Server i) m v empty out = nothing p from (party.Server i) (mail.ToNode m) v empty (λ w. refl) (λ w. refl) (λ w. refl)
no_request p from (party.Client i) m v empty out = nothing p from (party.Client i) (mail.ToNode m) v empty (λ w. refl) (λ w. refl) (λ w. refl)

pub request_lost : (p : Parties) (ns : List ReplicaState) (fs : List (ℕ → List ℕ)) (from to : Party) (m : ToNode) (v : Vec Envelope Global) → p.nodes ≡ ns → p.files ≡ fs → v.items ≡ []
    → ((i : ℕ) → to ≡ party.Node i → is_within p.cluster.nodes i ≡ false) → Delivers p (record p { nodes = ns; files = fs }) from to (mail.ToNode m) (got.Made v)
request_lost p ns fs from to m v same same_files empty out =
    let P : List ReplicaState → Type 0 = λ x. Delivers p (record p { nodes = x }) from to (mail.ToNode m) (got.Made v) in
    let Q : List (ℕ → List ℕ) → Type 0 = λ x. Delivers p (record p { nodes = ns; files = x }) from to (mail.ToNode m) (got.Made v) in
    subst Q same_files (subst P same (no_request p from to m v empty out))

-- ---- replies to servers

one_told : (server : ℕ) (b : Bool) (x : Waiting) (pairs : List (ℕ × FromServer)) (waiting : List Waiting) → map (pair_envelope server) pairs ≡ map (told server) waiting → map (pair_envelope server) (if b then addressed x ∷ pairs else pairs) ≡ map (told server) (if b then x ∷ waiting else waiting)
one_told server true x pairs waiting rest = ap (λ l. told server x ∷ l) rest
one_told server false x pairs waiting rest = rest

told_pairs : (server : ℕ) (w : WorldState) (waiting : List Waiting) → map (pair_envelope server) (filter (is_to_client w.cluster.clients) (map addressed waiting)) ≡ map (told server) (filter (is_client w) waiting)
told_pairs server w [] = refl
told_pairs server w (x ∷ waiting) = one_told server (is_within w.cluster.clients x.client) x (filter (is_to_client w.cluster.clients) (map addressed waiting)) (filter (is_client w) waiting) (told_pairs server w waiting)

pair_placed : (server : ℕ) (b : Bool) (x : Waiting) (pairs : List (ℕ × FromServer)) → AreFit (map (pair_envelope server) pairs) → AreFit (map (pair_envelope server) (if b then addressed x ∷ pairs else pairs))
pair_placed server true x pairs rest = (tt, rest)
pair_placed server false x pairs rest = rest

pairs_placed : (server clients : ℕ) (waiting : List Waiting) → AreFit (map (pair_envelope server) (filter (is_to_client clients) (map addressed waiting)))
pairs_placed server clients [] = tt
pairs_placed server clients (x ∷ waiting) = pair_placed server (is_within clients x.client) x (filter (is_to_client clients) (map addressed waiting)) (pairs_placed server clients waiting)

pub reply_delivers : (p : Parties) (ss : List ServerState) (from to : Party) (i server : ℕ) (m : FromNode) (answers : List (ℕ × FromServer)) (v : Vec Envelope Global) → from ≡ party.Node i → to ≡ party.Server server
    → is_within p.cluster.nodes i ≡ true → is_within p.cluster.servers server ≡ true
    → servers_of ss ≡ put (servers_of p.servers) server (server_after (config_of p.cluster) (servers_of p.servers server) i m)
    → answers ≡ map addressed (server_answers (config_of p.cluster) (servers_of p.servers server) i m)
    → v.items ≡ map (pair_envelope server) (filter (is_to_client p.cluster.clients) answers) → Delivers p (record p { servers = ss }) from to (mail.FromNode m) (got.Made v)
reply_delivers p ss from to i server m answers v here there node within servers answered is =
    let P : Party → Type 0 = λ x. Delivers p (record p { servers = ss }) x to (mail.FromNode m) (got.Made v) in
    let Q : Party → Type 0 = λ x. Delivers p (record p { servers = ss }) (party.Node i) x (mail.FromNode m) (got.Made v) in
    let made : v.items ≡ map (pair_envelope server) (filter (is_to_client p.cluster.clients) (map addressed (server_answers (config_of p.cluster) (servers_of p.servers server) i m))) =
    is ∙ ap (λ x. map (pair_envelope server) (filter (is_to_client p.cluster.clients) x)) answered in
    subst P (sym here) (subst Q (sym there) (delivers p (record p { servers = ss }) no_files (party.Node i) (party.Server server) (mail.FromNode m) v
    (λ w. rw (node, within, servers) refl)
    (λ w. rw (node, within) (made ∙ told_pairs server (with_parties p w) (server_answers (config_of p.cluster) (servers_of p.servers server) i m)))
    (λ w. refl)
    (subst AreFit (sym made) (pairs_placed server p.cluster.clients (server_answers (config_of p.cluster) (servers_of p.servers server) i m)))))

no_reply : (p : Parties) (from to : Party) (m : FromNode) (v : Vec Envelope Global) → v.items ≡ [] → ((i server : ℕ) → from ≡ party.Node i → to ≡ party.Server server → (is_within p.cluster.nodes i && is_within p.cluster.servers server) ≡ false) → Delivers p p from to (mail.FromNode m) (got.Made v)
no_reply p (party.Node i) (party.Server s) m v empty out = nothing p (party.Node i) (party.Server s) (mail.FromNode m) v empty (λ w. rw (out i s refl refl) refl) (λ w. rw (out i s refl refl) refl) (λ w. rw (out i s refl refl) refl)
no_reply p (party.Node i) (party.Node s) m v empty out = nothing p (party.Node i) (party.Node s) (mail.FromNode m) v empty (λ w. refl) (λ w. refl) (λ w. refl)
no_reply p (party.Node i) (party.Client s) m v empty out = nothing p (party.Node i) (party.Client s) (mail.FromNode m) v empty (λ w. refl) (λ w. refl) (λ w. refl)
no_reply p (party.Server i) to m v empty out = nothing p (party.Server i) to (mail.FromNode m) v empty (λ w. refl) (λ w. refl) (λ w. refl)
no_reply p (party.Client i) to m v empty out = nothing p (party.Client i) to (mail.FromNode m) v empty (λ w. refl) (λ w. refl) (λ w. refl)

pub reply_lost : (p : Parties) (ss : List ServerState) (from to : Party) (m : FromNode) (v : Vec Envelope Global) → p.servers ≡ ss → v.items ≡ [] → ((i server : ℕ) → from ≡ party.Node i → to ≡ party.Server server → (is_within p.cluster.nodes i && is_within p.cluster.servers server) ≡ false) → Delivers p (record p { servers = ss }) from to (mail.FromNode m) (got.Made v)
reply_lost p ss from to m v same empty out =
    let P : List ServerState → Type 0 = λ x. Delivers p (record p { servers = x }) from to (mail.FromNode m) (got.Made v) in
    subst P same (no_reply p from to m v empty out)

pub first_out : (a b : Bool) → a ≡ false → (a && b) ≡ false
first_out a b out = grind (arith, out)

pub second_out : (a b : Bool) → b ≡ false → (a && b) ≡ false
second_out a b out = grind (arith, out)

-- ---- requests to servers

answers_placed : (server : ℕ) (from : Party) (answers : List FromServer) → AllByRecursion HasPlace answers → AreFit (map (answer_from server from) answers)
answers_placed server from [] each = tt
answers_placed server from (x ∷ answers) each = (each.0, answers_placed server from answers each.1)

one_each : (answer : Option FromServer) → IfSome answer HasPlace → AllByRecursion HasPlace (option_to_list answer)
one_each None placed = tt
one_each (Some m) placed = (placed, tt)

pub wish_delivers : (p : Parties) (ss : List ServerState) (from to : Party) (server : ℕ) (m : ToServer) (answer : Option FromServer) (v : Vec Envelope Global) → to ≡ party.Server server → is_within p.cluster.servers server ≡ true
    → servers_of ss ≡ put (servers_of p.servers) server (served_after (config_of p.cluster) (servers_of p.servers server) m)
    → option_to_list answer ≡ served_answers (config_of p.cluster) (servers_of p.servers server) m
    → v.items ≡ map (answer_from server from) (option_to_list answer) → IfSome answer HasPlace → Delivers p (record p { servers = ss }) from to (mail.ToServer m) (got.Made v)
wish_delivers p ss from to server m answer v there within servers answered is placed =
    let P : Party → Type 0 = λ x. Delivers p (record p { servers = ss }) from x (mail.ToServer m) (got.Made v) in
    subst P (sym there) (delivers p (record p { servers = ss }) no_files from (party.Server server) (mail.ToServer m) v
    (λ w. rw (within, servers) refl) (λ w. rw (within, ← answered) is) (λ w. refl)
    (subst AreFit (sym is) (answers_placed server from (option_to_list answer) (one_each answer placed))))

no_wish : (p : Parties) (from to : Party) (m : ToServer) (v : Vec Envelope Global) → v.items ≡ [] → ((i : ℕ) → to ≡ party.Server i → is_within p.cluster.servers i ≡ false) → Delivers p p from to (mail.ToServer m) (got.Made v)
no_wish p from (party.Server i) m v empty out = nothing p from (party.Server i) (mail.ToServer m) v empty (λ w. rw (out i refl) refl) (λ w. rw (out i refl) refl) (λ w. rw (out i refl) refl)
no_wish p from (party.Node i) m v empty out = nothing p from (party.Node i) (mail.ToServer m) v empty (λ w. refl) (λ w. refl) (λ w. refl)
no_wish p from (party.Client i) m v empty out = nothing p from (party.Client i) (mail.ToServer m) v empty (λ w. refl) (λ w. refl) (λ w. refl)

pub wish_lost : (p : Parties) (ss : List ServerState) (from to : Party) (m : ToServer) (v : Vec Envelope Global) → p.servers ≡ ss → v.items ≡ [] → ((i : ℕ) → to ≡ party.Server i → is_within p.cluster.servers i ≡ false) → Delivers p (record p { servers = ss }) from to (mail.ToServer m) (got.Made v)
wish_lost p ss from to m v same empty out =
    let P : List ServerState → Type 0 = λ x. Delivers p (record p { servers = x }) from to (mail.ToServer m) (got.Made v) in
    subst P same (no_wish p from to m v empty out)

-- ---- answers to clients

pub answer_delivers : (p : Parties) (cs : List ClientState) (from to : Party) (client : ℕ) (m : FromServer) (mark : ℕ) → to ≡ party.Client client → is_within p.cluster.clients client ≡ true
    → clients_of cs ≡ put (clients_of p.clients) client (client_step (clients_of p.clients client) m) → mark ≡ (client_step (clients_of p.clients client) m).mark
    → Delivers p (record p { clients = cs }) from to (mail.FromServer m) (got.Client client mark)
answer_delivers p cs from to client m mark there within clients is =
    let P : Party → Type 0 = λ x. Delivers p (record p { clients = cs }) from x (mail.FromServer m) (got.Client client mark) in
    subst P (sym there) (record {
      files = no_files;
      leads = λ w has.
          let Q : WorldState → Type 0 = λ x. HasParties (record p { clients = cs }) (taken x no_files from (party.Client client) (mail.FromServer m)) in
          subst Q (sym has) (rw (within, clients) refl);
      made = λ w has. refl;
      gives = λ w has.
          let Q : WorldState → Type 0 = λ x. outcome.Client client mark ≡ mail_outcome x from (party.Client client) (mail.FromServer m) in
          subst Q (sym has) (rw (within, is) refl);
      fit = tt;
    })

no_answer : (p : Parties) (from to : Party) (m : FromServer) (v : Vec Envelope Global) → v.items ≡ [] → ((i : ℕ) → to ≡ party.Client i → is_within p.cluster.clients i ≡ false) → Delivers p p from to (mail.FromServer m) (got.Made v)
no_answer p from (party.Client i) m v empty out = nothing p from (party.Client i) (mail.FromServer m) v empty (λ w. rw (out i refl) refl) (λ w. refl) (λ w. rw (out i refl) refl)
no_answer p from (party.Node i) m v empty out = nothing p from (party.Node i) (mail.FromServer m) v empty (λ w. refl) (λ w. refl) (λ w. refl)
no_answer p from (party.Server i) m v empty out = nothing p from (party.Server i) (mail.FromServer m) v empty (λ w. refl) (λ w. refl) (λ w. refl)

pub answer_lost : (p : Parties) (cs : List ClientState) (from to : Party) (m : FromServer) (v : Vec Envelope Global) → p.clients ≡ cs → v.items ≡ [] → ((i : ℕ) → to ≡ party.Client i → is_within p.cluster.clients i ≡ false) → Delivers p (record p { clients = cs }) from to (mail.FromServer m) (got.Made v)
answer_lost p cs from to m v same empty out =
    let P : List ClientState → Type 0 = λ x. Delivers p (record p { clients = x }) from to (mail.FromServer m) (got.Made v) in
    subst P same (no_answer p from to m v empty out)
