-- What a register answers that tells its number, and when it may fail.
use Rattle.std.specs.Prelude.{◌≡◌, ◌≢◌, ℕ, ◌≤◌, Option, Some, None, Result, Err, IfOk, OnOk, IsErrOf}
use Rattle.io_core.specs.Causes.{Rose}
use Rattle.io_core.specs.declared.fault.Fault.{Fault}
use Rattle.io_core.specs.declared.fault.Fault.TheVariants.{Failed as DeviceFailed, Memory as NoMemory}
use Rattle.session_register.specs.declared.register.Cas.{Cas}
use Rattle.session_register.specs.declared.register.RegisterFault.{RegisterFault}
use Rattle.session_register.specs.declared.register.RegisterFault.TheVariants.{Failed, Garbled, Memory}
use Rattle.session_register.specs.Registers.{cas_answer, number_after}

-- what a device's fault is to a register
abbrev pub register_fault : Fault → RegisterFault
register_fault DeviceFailed = Failed
register_fault NoMemory = Memory

-- The number is answered, and stays. `Garbled` comes only where it isn't told.
pub record TellsRead (old new : Option ℕ) (result : Result ℕ RegisterFault) : Type 0 where
  pub number : (n : ℕ) → old ≡ Some n → IfOk result (λ x. x ≡ n)
  pub stays : new ≡ old
  pub garbled : IsErrOf result Garbled → old ≡ None

-- The number is made one more where that may be, and else stays. After running out of memory it is what it was.
pub record TellsCas (from : ℕ) (old new : Option ℕ) (result : Result Cas RegisterFault) : Type 0 where
  pub answer : (n : ℕ) → old ≡ Some n → IfOk result (λ x. x ≡ cas_answer n from)
  pub after : (n : ℕ) → old ≡ Some n → OnOk result (new ≡ Some (number_after n (cas_answer n from)))
  pub memory : IsErrOf result Memory → new ≡ old
  pub garbled : IsErrOf result Garbled → old ≡ None

-- `Failed` is a counted fault, and after all else none was counted
pub record HasRegisterCause {T : Type 0} (before now : ℕ) (result : Result T RegisterFault) : Type 0 where
  pub later : before ≤ now
  pub failed : IsErrOf result Failed → Rose before now
  pub none : result ≢ Err Failed → now ≡ before
