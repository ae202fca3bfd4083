-- What a function returned, as what reading gives says it.
use Rattle.std.proofs.Common.{◌≡◌, ℕ, Result, Ok, Err, refl, sym, ap, ◌∙◌}
use Rattle.std.specs.Prelude.{◌↔◌, IfOk}
use Rattle.record_frame.specs.declared.fault.FrameFault.{FrameFault}
use Rattle.record_frame.specs.declared.fault.FrameFault.TheVariants.{Short, Bad, Memory}
use Rattle.record_frame.specs.Reading.{Checks, Builds, OkOrMemory}
use Rattle.record_frame.proofs.Values.{done}

module _ {V : Type 0} where
  -- ---- a function that builds a value

  pub builds-only : (result read : Result (V × ℕ) FrameFault) (x : V × ℕ) → Builds result read → read ≡ Ok x → OkOrMemory result x
  builds-only (Ok y) read x h e = cc
  builds-only (Err Memory) read x h e = tt
  builds-only (Err Short) read x h e = absurd cc
  builds-only (Err (Bad at)) read x h e = absurd cc

  -- a fault of the bytes comes exactly where reading gives it
  pub builds-short : (result read : Result (V × ℕ) FrameFault) → Builds result read → (result ≡ Err Short) ↔ (read ≡ Err Short)
  builds-short (Ok y) read h = (λ e. absurd cc, λ e. absurd cc)
  builds-short (Err Memory) (Ok x) h = (λ e. absurd cc, λ e. absurd cc)
  builds-short (Err Memory) (Err f) h = absurd h
  builds-short (Err Short) read h = (λ e. h, λ e. refl)
  builds-short (Err (Bad at)) read h = (λ e. absurd cc, λ e. absurd cc)

  pub builds-bad : (result read : Result (V × ℕ) FrameFault) (at : ℕ) → Builds result read → (result ≡ Err (Bad at)) ↔ (read ≡ Err (Bad at))
  builds-bad (Ok y) read at h = (λ e. absurd cc, λ e. absurd cc)
  builds-bad (Err Memory) (Ok x) at h = (λ e. absurd cc, λ e. absurd cc)
  builds-bad (Err Memory) (Err f) at h = absurd h
  builds-bad (Err Short) read at h = (λ e. absurd cc, λ e. absurd cc)
  builds-bad (Err (Bad n)) read at h = (λ e. cc, λ e. cc)

  pub builds-memory : (result read : Result (V × ℕ) FrameFault) → Builds result read → result ≡ Err Memory → (x : V × ℕ) × (read ≡ Ok x)
  builds-memory (Ok y) read h e = absurd cc
  builds-memory (Err Memory) (Ok x) h e = (x, refl)
  builds-memory (Err Memory) (Err f) h e = absurd h
  builds-memory (Err Short) read h e = absurd cc
  builds-memory (Err (Bad at)) read h e = absurd cc

  -- ---- a function without memory

  pub checks-ok : (result : Result ℕ FrameFault) (read : Result (V × ℕ) FrameFault) (x : V × ℕ) → Checks result read → read ≡ Ok x → result ≡ Ok x.1
  checks-ok (Ok n) (Ok y) x h e = let same : y ≡ x = cc in ap (λ (k : ℕ). done k) h ∙ ap (λ (z : V × ℕ). done z.1) same
  checks-ok (Ok n) (Err f) x h e = absurd h
  checks-ok (Err d) (Ok y) x h e = absurd h
  checks-ok (Err d) (Err f) x h e = absurd cc

  pub checks-found : (result : Result ℕ FrameFault) (read : Result (V × ℕ) FrameFault) → Checks result read → IfOk result (λ n. (v : V) × (read ≡ Ok (v, n)))
  checks-found (Ok n) (Ok y) h = (y.0, ap (λ (k : ℕ). done (y.0, k)) (sym h))
  checks-found (Ok n) (Err f) h = absurd h
  checks-found (Err d) read h = tt

  pub checks-fault : (result : Result ℕ FrameFault) (read : Result (V × ℕ) FrameFault) (fault : FrameFault) → Checks result read → (result ≡ Err fault) ↔ (read ≡ Err fault)
  checks-fault (Ok n) (Ok y) fault h = (λ e. absurd cc, λ e. absurd cc)
  checks-fault (Ok n) (Err f) fault h = absurd h
  checks-fault (Err d) (Ok y) fault h = absurd h
  checks-fault (Err d) (Err f) fault h = (λ e. cc, λ e. cc)
