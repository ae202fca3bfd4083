-- Each end by its cause, from what was counted; and which status tells of which fault.
use Rattle.std.proofs.Common.{◌≡◌, ◌≢◌, ◌⊎◌, inl, inr, ℕ, ◌<◌, ◌≤◌, Bool, true, false, Option, None, Some, Result, Ok, Err, List, refl, subst, arith, ◌∙◌}
use Rattle.std.specs.Prelude.{IfSome}
use Rattle.io_core.specs.Causes.{Rose}
use Rattle.node_loops.specs.declared.end.End.{End}
use Rattle.node_loops.specs.declared.end.End.TheVariants.{Bye, Port, Turns, Unheard, Peer, Disk, Damaged, TakenOver, Answer, Full, WriteFault, Memory}
use Rattle.node_loops.specs.Ends.{status_of, Prints, IsBroken, IsBrokenEnd, IsRequestEnd, IsFailing, IsClosing, IsOwn, IsBlind, IsPortEnd, Counts, HasItsCause}
use Rattle.node_loops.specs.Serving.{end_after}

-- ---- counts

-- nothing was counted
pub none_counted : (before now : ℕ) (fault : Type 0) → ¬ fault → now ≡ before → Counts before now fault
none_counted before now fault not same = record { later = omega (arith, same); rose = λ f. absurd (not f); same = λ _. same }

-- nothing was counted before
counts_from : (start before now : ℕ) (fault : Type 0) → before ≡ start → Counts before now fault → Counts start now fault
counts_from start before now fault same counts = subst (λ (n : ℕ). Counts n now fault) same counts

-- the same fault in other words
counts_as : (before now : ℕ) (fault fault' : Type 0) → (fault → fault') → (fault' → fault) → Counts before now fault → Counts before now fault'
counts_as before now fault fault' to from counts =
    record { later = counts.later; rose = λ f. counts.rose (from f); same = λ not. counts.same (λ f. not (to f)) }

-- the fault of a result is that of its end
of_end : {T : Type 0} (before now : ℕ) (result : Result T End) (end : End) → result ≡ Err end → Counts before now (result ≡ Err Disk) → Counts before now (end ≡ Disk)
of_end before now result end is counts =
    counts_as before now (result ≡ Err Disk) (end ≡ Disk) (λ e. cc) (λ e. cc) counts

-- no fault is told by Ok
pub ok_counts_none : {T : Type 0} (before now : ℕ) (result : Result T End) (x : T) (end : End) → result ≡ Ok x → Counts before now (result ≡ Err end) → now ≡ before
ok_counts_none before now result x end is counts = counts.same (λ e. cc)

-- ---- ends

-- a port doesn't fail where what serves gives no answer
no_port_end : (end : End) → IsFailing end → ¬ IsPortEnd end
no_port_end Unheard is x = is
no_port_end Peer is x = is
no_port_end Bye is x = x
no_port_end Port is x = x
no_port_end Turns is x = x
no_port_end Disk is x = x
no_port_end (Damaged file at) is x = x
no_port_end (TakenOver session) is x = x
no_port_end Answer is x = x
no_port_end Full is x = x
no_port_end WriteFault is x = x
no_port_end Memory is x = x

module _ (port port' server server' : ℕ) (own blind : End → Type 0) where
  abbrev Caused : End → Type 0
  Caused end = HasItsCause port port' server server' own blind end

  -- an end at which nothing was counted, and which tells and hides nothing
  plain : (end : End) → ¬ IsPortEnd end → ¬ (end ≡ Disk) → ¬ IsOwn end → ¬ IsBlind end → port' ≡ port → server' ≡ server → Caused end
  plain end no_port no_disk no_own no_blind p s = record {
    peer = none_counted port port' (IsPortEnd end) no_port p;
    disk = none_counted server server' (end ≡ Disk) no_disk s;
    told = λ o. absurd (no_own o);
    hidden = λ b. absurd (no_blind b);
  }

  pub turns_cause : port' ≡ port → server' ≡ server → Caused Turns
  turns_cause p s = plain Turns (λ x. x) (λ e. cc) (λ x. x) (λ x. x) p s

  pub memory_cause : port' ≡ port → server' ≡ server → Caused Memory
  memory_cause p s = plain Memory (λ x. x) (λ e. cc) (λ x. x) (λ x. x) p s

  pub broken_cause : (end : End) → IsBrokenEnd end → port' ≡ port → server' ≡ server → Caused end
  broken_cause WriteFault is p s = plain WriteFault (λ x. x) (λ e. cc) (λ x. x) (λ x. x) p s
  broken_cause Memory is p s = memory_cause p s
  broken_cause Bye is p s = absurd is
  broken_cause Port is p s = absurd is
  broken_cause Turns is p s = absurd is
  broken_cause Unheard is p s = absurd is
  broken_cause Peer is p s = absurd is
  broken_cause Disk is p s = absurd is
  broken_cause (Damaged file at) is p s = absurd is
  broken_cause (TakenOver session) is p s = absurd is
  broken_cause Answer is p s = absurd is
  broken_cause Full is p s = absurd is

  -- the port failed
  pub port_cause : (end : End) → IsPortEnd end → ¬ (end ≡ Disk) → ¬ IsOwn end → ¬ IsBlind end → port ≤ port' → Rose port port' → server' ≡ server → Caused end
  port_cause end is no_disk no_own no_blind later rose s = record {
    peer = record { later = later; rose = λ _. rose; same = λ not. absurd (not is) };
    disk = none_counted server server' (end ≡ Disk) no_disk s;
    told = λ o. absurd (no_own o);
    hidden = λ b. absurd (no_blind b);
  }

  pub unheard_cause : port ≤ port' → Rose port port' → server' ≡ server → Caused Unheard
  unheard_cause later rose s = port_cause Unheard tt (λ e. cc) (λ x. x) (λ x. x) later rose s

  -- no request was read
  pub request_cause : {T : Type 0} (result : Result T End) (end : End) → result ≡ Err end → IsRequestEnd end → Counts port port' (result ≡ Err Peer) → server' ≡ server → Caused end
  request_cause result Port is kind counts s = plain Port (λ x. x) (λ e. cc) (λ x. x) (λ x. x) (counts.same (λ e. cc)) s
  request_cause result Peer is kind counts s = port_cause Peer tt (λ e. cc) (λ x. x) (λ x. x) counts.later (counts.rose is) s
  request_cause result Memory is kind counts s = memory_cause (counts.same (λ e. cc)) s
  request_cause result Bye is kind counts s = absurd kind
  request_cause result Turns is kind counts s = absurd kind
  request_cause result Unheard is kind counts s = absurd kind
  request_cause result Disk is kind counts s = absurd kind
  request_cause result (Damaged file at) is kind counts s = absurd kind
  request_cause result (TakenOver session) is kind counts s = absurd kind
  request_cause result Answer is kind counts s = absurd kind
  request_cause result Full is kind counts s = absurd kind
  request_cause result WriteFault is kind counts s = absurd kind

  -- what serves gave no answer
  pub failing_cause : {T : Type 0} (result : Result T End) (end : End) → result ≡ Err end → IsFailing end → Counts server server' (result ≡ Err Disk) → (IsOwn end → own end) → (IsBlind end → blind end) → port' ≡ port → Caused end
  failing_cause result end is kind counts told hidden p = record {
    peer = none_counted port port' (IsPortEnd end) (no_port_end end kind) p;
    disk = of_end server server' result end is counts;
    told = told;
    hidden = hidden;
  }

  -- after an answer
  closing_cause : (end : End) → IsClosing end → own end → port' ≡ port → server' ≡ server → Caused end
  closing_cause (TakenOver session) is o p s = record {
    peer = none_counted port port' (IsPortEnd (TakenOver session)) (λ x. x) p;
    disk = none_counted server server' (TakenOver session ≡ Disk) (λ e. cc) s;
    told = λ _. o;
    hidden = λ x. absurd x;
  }
  closing_cause Bye is o p s = absurd is
  closing_cause Port is o p s = absurd is
  closing_cause Turns is o p s = absurd is
  closing_cause Unheard is o p s = absurd is
  closing_cause Peer is o p s = absurd is
  closing_cause Disk is o p s = absurd is
  closing_cause (Damaged file at) is o p s = absurd is
  closing_cause Answer is o p s = absurd is
  closing_cause Full is o p s = absurd is
  closing_cause WriteFault is o p s = absurd is
  closing_cause Memory is o p s = absurd is

  ended : (bye : Bool) (over : Option End) → IfSome over IsClosing → IfSome over own → port' ≡ port → server' ≡ server → IfSome (end_after bye over) Caused
  ended true over closing o p s = plain Bye (λ x. x) (λ e. cc) (λ x. x) (λ x. x) p s
  ended false None closing o p s = tt
  ended false (Some end) closing o p s = closing_cause end closing o p s

  pub ended_cause : (bye : Bool) (over result : Option End) → result ≡ end_after bye over → IfSome over IsClosing → IfSome over own → port' ≡ port → server' ≡ server → IfSome result Caused
  ended_cause bye over result is closing o p s = rw is (ended bye over closing o p s)

-- what was counted since, where nothing was counted before
pub cause_from : (start port port' first server server' : ℕ) (own blind blind' : End → Type 0) (end : End) → port ≡ start → server ≡ first → (blind end → blind' end) → HasItsCause port port' server server' own blind end → HasItsCause start port' first server' own blind' end
cause_from start port port' first server server' own blind blind' end p s wider cause = record {
  peer = counts_from start port port' (IsPortEnd end) p cause.peer;
  disk = counts_from first server server' (end ≡ Disk) s cause.disk;
  told = cause.told;
  hidden = λ b. wider (cause.hidden b);
}

-- ---- statuses

-- by the status, whose fault the end is
abbrev Fault : End → Type 0
Fault end =
    ((status_of end ≡ 12) × (end ≡ Disk) × (¬ IsPortEnd end))
    ⊎ (((status_of end ≡ 13) × IsPortEnd end × (¬ (end ≡ Disk)))
    ⊎ ((status_of end ≢ 12) × (status_of end ≢ 13) × (¬ (end ≡ Disk)) × (¬ IsPortEnd end)))

fault_of : (end : End) → Fault end
fault_of Disk = inl (refl, refl, λ x. x)
fault_of Unheard = inr (inl (refl, tt, λ e. cc))
fault_of Peer = inr (inl (refl, tt, λ e. cc))
fault_of Bye = inr (inr (omega arith, omega arith, (λ e. cc), λ x. x))
fault_of Port = inr (inr (omega arith, omega arith, (λ e. cc), λ x. x))
fault_of Turns = inr (inr (omega arith, omega arith, (λ e. cc), λ x. x))
fault_of (Damaged file at) = inr (inr (omega arith, omega arith, (λ e. cc), λ x. x))
fault_of (TakenOver session) = inr (inr (omega arith, omega arith, (λ e. cc), λ x. x))
fault_of Answer = inr (inr (omega arith, omega arith, (λ e. cc), λ x. x))
fault_of Full = inr (inr (omega arith, omega arith, (λ e. cc), λ x. x))
fault_of WriteFault = inr (inr (omega arith, omega arith, (λ e. cc), λ x. x))
fault_of Memory = inr (inr (omega arith, omega arith, (λ e. cc), λ x. x))

-- the status is that of the end, or the output failed or there was no memory
pub due_or_broken : (old new : Option (List ℕ)) (text : List ℕ) (due status : ℕ) → Prints old new text due status → (status ≡ due) ⊎ IsBroken status
due_or_broken old new text due status (inl p) = inl p.0
due_or_broken old new text due status (inr p) = inr p.0

-- a status that is no broken one is that of the end
is_due : (due status n : ℕ) → n ≢ 11 → n ≢ 20 → status ≡ n → (status ≡ due) ⊎ IsBroken status → due ≡ n
is_due due status n a b is (inl e) = omega (arith, is, e)
is_due due status n a b is (inr (inl e)) = absurd (a (omega (arith, is, e)))
is_due due status n a b is (inr (inr e)) = absurd (b (omega (arith, is, e)))

module _ (before now status : ℕ) (end : End) where
  disk_rose : Counts before now (end ≡ Disk) → status_of end ≡ 12 → Fault end → Rose before now
  disk_rose counts is (inl e) = counts.rose e.1
  disk_rose counts is (inr (inl e)) = absurd (omega (arith, is, e.0))
  disk_rose counts is (inr (inr e)) = absurd (e.0 is)

  port_rose : Counts before now (IsPortEnd end) → status_of end ≡ 13 → Fault end → Rose before now
  port_rose counts is (inl e) = absurd (omega (arith, is, e.0))
  port_rose counts is (inr (inl e)) = counts.rose e.1
  port_rose counts is (inr (inr e)) = absurd (e.1 is)

  disk_end : Counts before now (end ≡ Disk) → before < now → Fault end → status_of end ≡ 12
  disk_end counts rose (inl e) = e.0
  disk_end counts rose (inr (inl e)) = absurd (omega (arith, rose, counts.same e.2))
  disk_end counts rose (inr (inr e)) = absurd (omega (arith, rose, counts.same e.2))

  port_end : Counts before now (IsPortEnd end) → before < now → Fault end → status_of end ≡ 13
  port_end counts rose (inl e) = absurd (omega (arith, rose, counts.same e.2))
  port_end counts rose (inr (inl e)) = e.0
  port_end counts rose (inr (inr e)) = absurd (omega (arith, rose, counts.same e.3))

  due_told : (due n : ℕ) → due ≡ n → (status ≡ due) ⊎ IsBroken status → (status ≡ n) ⊎ IsBroken status
  due_told due n same (inl is) = inl (is ∙ same)
  due_told due n same (inr broken) = inr broken

  -- what a command that serves prints last, and the status
  module _ (old new : Option (List ℕ)) (text : List ℕ) (prints : Prints old new text (status_of end) status) where
    pub disk_cause : Counts before now (end ≡ Disk) → status ≡ 12 → Rose before now
    disk_cause counts is =
        disk_rose counts (is_due (status_of end) status 12 (omega arith) (omega arith) is (due_or_broken old new text (status_of end) status prints)) (fault_of end)

    pub peer_cause : Counts before now (IsPortEnd end) → status ≡ 13 → Rose before now
    peer_cause counts is =
        port_rose counts (is_due (status_of end) status 13 (omega arith) (omega arith) is (due_or_broken old new text (status_of end) status prints)) (fault_of end)

    pub disk_told : Counts before now (end ≡ Disk) → before < now → (status ≡ 12) ⊎ IsBroken status
    disk_told counts rose =
        due_told (status_of end) 12 (disk_end counts rose (fault_of end)) (due_or_broken old new text (status_of end) status prints)

    pub peer_told : Counts before now (IsPortEnd end) → before < now → (status ≡ 13) ⊎ IsBroken status
    peer_told counts rose =
        due_told (status_of end) 13 (port_end counts rose (fault_of end)) (due_or_broken old new text (status_of end) status prints)
