-- The last line, and which status tells of which fault.
use Rattle.std.proofs.Common.{◌≡◌, ◌⊎◌, inl, inr, ℕ, ◌<◌, ◌≤◌, List, [], arith, refl, Option}
use Rattle.std.specs.Io.KnownBytes.{Appends}
use Rattle.std.proofs.lemmas.List.{append-nil}
use Rattle.io_core.specs.Causes.{Rose}
use Rattle.io_core.proofs.Known.{Appends-nothing, Appends-more, AppendsPrefix-more}
use Rattle.client_loop.specs.declared.end.End.{End}
use Rattle.client_loop.specs.declared.end.End.TheVariants.{Done, Bad, Limit, ReadFault, WriteFault, Peer, Garbled, Memory}
use Rattle.client_loop.specs.Ends.{status_of, last_line, IsBroken, IsBrokenBy, IsReported, Counts, Prints, IsTold, Finishes}

-- ---- what is printed

broken_by : (refused whole : Type 0) (status : ℕ) → (refused → whole) → IsBrokenBy refused status → IsBrokenBy whole status
broken_by refused whole status so (inl is) = inl is
broken_by refused whole status so (inr p) = inr (p.0, so p.1)

-- an end whose whole text was told
reported : (whole refused : Type 0) (end : End) (h0 h1 h2 : Option (List ℕ)) (text : List ℕ) (status : ℕ) → (refused → whole) → IsReported end → Appends h0 h1 text → Finishes refused h1 h2 end status → Prints whole end h0 h2 text status
reported whole refused end h0 h1 h2 text status so is held (inl p) = inl (is, p.0, Appends-more h0 h1 h2 text (last_line end) held p.1)
reported whole refused end h0 h1 h2 text status so is held (inr (inl p)) = inr (inl (p.0, rw p.1 held))
reported whole refused end h0 h1 h2 text status so is held (inr (inr p)) =
    inr (inr (broken_by refused whole status so p.0, AppendsPrefix-more h0 h1 h2 text (last_line end) held p.1))

-- how the text ends, by how the command ended
pub prints : (whole met refused : Type 0) (end : End) (h0 h1 h2 : Option (List ℕ)) (text : List ℕ) (status : ℕ) → (met → whole) → (refused → whole) → IsTold met end h0 h1 text → Finishes refused h1 h2 end status → ((end ≡ WriteFault) ⊎ (end ≡ Memory) → (status ≡ status_of end) × (h2 ≡ h1)) → Prints whole end h0 h2 text status
prints whole met refused Done h0 h1 h2 text status m so told finish cut = reported whole refused Done h0 h1 h2 text status so tt told finish
prints whole met refused (Bad line at) h0 h1 h2 text status m so told finish cut = reported whole refused (Bad line at) h0 h1 h2 text status so tt told finish
prints whole met refused Limit h0 h1 h2 text status m so told finish cut = reported whole refused Limit h0 h1 h2 text status so tt told finish
prints whole met refused ReadFault h0 h1 h2 text status m so told finish cut = reported whole refused ReadFault h0 h1 h2 text status so tt told finish
prints whole met refused Peer h0 h1 h2 text status m so told finish cut = reported whole refused Peer h0 h1 h2 text status so tt told finish
prints whole met refused Garbled h0 h1 h2 text status m so told finish cut = reported whole refused Garbled h0 h1 h2 text status so tt told finish
prints whole met refused WriteFault h0 h1 h2 text status m so told finish cut =
    let same = cut (inl refl) in
    inr (inr (inl same.0, rw (append-nil text, same.1) told))
prints whole met refused Memory h0 h1 h2 text status m so (inl told) finish cut =
    let same = cut (inr refl) in
    inr (inl (same.0, rw same.1 told))
prints whole met refused Memory h0 h1 h2 text status m so (inr told) finish cut =
    let same = cut (inr refl) in
    inr (inr (inr (same.0, m told.0), rw (append-nil text, same.1) told.1))

-- where no line was printed there is no text to tell
pub nothing_told : (refused : Type 0) (end : End) (h : Option (List ℕ)) → IsTold refused end h h []
nothing_told refused Done h = Appends-nothing h
nothing_told refused (Bad line at) h = Appends-nothing h
nothing_told refused Limit h = Appends-nothing h
nothing_told refused ReadFault h = Appends-nothing h
nothing_told refused WriteFault h = (0, omega arith, Appends-nothing h)
nothing_told refused Peer h = Appends-nothing h
nothing_told refused Garbled h = Appends-nothing h
nothing_told refused Memory h = inl (Appends-nothing h)

-- ---- faults

by_cause : (refused : Type 0) (status : ℕ) → IsBrokenBy refused status → IsBroken status
by_cause refused status (inl is) = inl is
by_cause refused status (inr is) = inr is.0

-- the status of an end, or a broken one
status_or_broken : (refused : Type 0) (h0 h1 : Option (List ℕ)) (end : End) (status : ℕ) → Finishes refused h0 h1 end status → (status ≡ status_of end) ⊎ IsBroken status
status_or_broken refused h0 h1 end status (inl p) = inl p.0
status_or_broken refused h0 h1 end status (inr (inl p)) = inr (inr p.0)
status_or_broken refused h0 h1 end status (inr (inr p)) = inr (by_cause refused status p.0)

-- an end that came where a count rose, and else didn't
rose_end : (end other : End) (before now : ℕ) → Counts before now (end ≡ other) → before < now → ¬ (¬ (end ≡ other))
rose_end end other before now counts rose not = absurd (omega (arith, rose, counts.same not))

-- a read fault that was counted is told
pub read_fault_told : (end : End) (before now status : ℕ) (refused : Type 0) (h0 h1 : Option (List ℕ)) → Counts before now (end ≡ ReadFault) → before < now → Finishes refused h0 h1 end status → (status ≡ 10) ⊎ IsBroken status
read_fault_told ReadFault before now status refused h0 h1 counts rose finish = status_or_broken refused h0 h1 ReadFault status finish
read_fault_told Done before now status refused h0 h1 counts rose finish = absurd (rose_end Done ReadFault before now counts rose (λ e. cc))
read_fault_told (Bad line at) before now status refused h0 h1 counts rose finish = absurd (rose_end (Bad line at) ReadFault before now counts rose (λ e. cc))
read_fault_told Limit before now status refused h0 h1 counts rose finish = absurd (rose_end Limit ReadFault before now counts rose (λ e. cc))
read_fault_told WriteFault before now status refused h0 h1 counts rose finish = absurd (rose_end WriteFault ReadFault before now counts rose (λ e. cc))
read_fault_told Peer before now status refused h0 h1 counts rose finish = absurd (rose_end Peer ReadFault before now counts rose (λ e. cc))
read_fault_told Garbled before now status refused h0 h1 counts rose finish = absurd (rose_end Garbled ReadFault before now counts rose (λ e. cc))
read_fault_told Memory before now status refused h0 h1 counts rose finish = absurd (rose_end Memory ReadFault before now counts rose (λ e. cc))

-- a peer's failure that was counted is told
pub peer_fault_told : (end : End) (before now status : ℕ) (refused : Type 0) (h0 h1 : Option (List ℕ)) → Counts before now (end ≡ Peer) → before < now → Finishes refused h0 h1 end status → (status ≡ 13) ⊎ IsBroken status
peer_fault_told Peer before now status refused h0 h1 counts rose finish = status_or_broken refused h0 h1 Peer status finish
peer_fault_told Done before now status refused h0 h1 counts rose finish = absurd (rose_end Done Peer before now counts rose (λ e. cc))
peer_fault_told (Bad line at) before now status refused h0 h1 counts rose finish = absurd (rose_end (Bad line at) Peer before now counts rose (λ e. cc))
peer_fault_told Limit before now status refused h0 h1 counts rose finish = absurd (rose_end Limit Peer before now counts rose (λ e. cc))
peer_fault_told ReadFault before now status refused h0 h1 counts rose finish = absurd (rose_end ReadFault Peer before now counts rose (λ e. cc))
peer_fault_told WriteFault before now status refused h0 h1 counts rose finish = absurd (rose_end WriteFault Peer before now counts rose (λ e. cc))
peer_fault_told Garbled before now status refused h0 h1 counts rose finish = absurd (rose_end Garbled Peer before now counts rose (λ e. cc))
peer_fault_told Memory before now status refused h0 h1 counts rose finish = absurd (rose_end Memory Peer before now counts rose (λ e. cc))

-- a write fault that was counted is told, whether it came before the last line or at it
pub write_fault_told : (end : End) (f0 f1 f2 status : ℕ) → Counts f0 f1 (end ≡ WriteFault) → ((end ≡ WriteFault) ⊎ (end ≡ Memory) → status ≡ status_of end) → (f1 < f2 → status ≡ 11) → f0 < f2 → status ≡ 11
write_fault_told WriteFault f0 f1 f2 status counts ended told rose = ended (inl refl)
write_fault_told Done f0 f1 f2 status counts ended told rose = told (omega (arith, rose, counts.same (λ e. cc)))
write_fault_told (Bad line at) f0 f1 f2 status counts ended told rose = told (omega (arith, rose, counts.same (λ e. cc)))
write_fault_told Limit f0 f1 f2 status counts ended told rose = told (omega (arith, rose, counts.same (λ e. cc)))
write_fault_told ReadFault f0 f1 f2 status counts ended told rose = told (omega (arith, rose, counts.same (λ e. cc)))
write_fault_told Peer f0 f1 f2 status counts ended told rose = told (omega (arith, rose, counts.same (λ e. cc)))
write_fault_told Garbled f0 f1 f2 status counts ended told rose = told (omega (arith, rose, counts.same (λ e. cc)))
write_fault_told Memory f0 f1 f2 status counts ended told rose = told (omega (arith, rose, counts.same (λ e. cc)))

-- what was counted in a part was counted in the whole
pub rose_early : (a b c : ℕ) → b ≤ c → Rose a b → Rose a c
rose_early a b c later rose = omega (arith, later, rose)

pub rose_late : (a b c : ℕ) → a ≤ b → Rose b c → Rose a c
rose_late a b c later rose = grind (arith, later, rose)
