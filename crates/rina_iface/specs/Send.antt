-- What `send` refuses, and what it does.
use Rattle.std.specs.Prelude.{◌≡◌, ℕ, nat_le, length, List, Option, Some, None, Result, Ok, Err, if◌then◌else◌}
use Rattle.rina_base.specs.declared.number.Num.{Num}
use Rattle.rina_base.specs.declared.number.Port.{Port}
use Rattle.rina_iface.specs.declared.ends.End.{End}
use Rattle.rina_iface.specs.declared.error.SendError.{SendError}
use Rattle.rina_iface.specs.declared.error.SendError.TheVariants.{Memory, NoRoute, NotAllocated, NumbersSpent, QueueFull, TooLong, WindowShut, Failed as HasFailed}
use Rattle.rina_iface.specs.declared.state.PortState.{PortState}
use Rattle.rina_iface.specs.declared.state.PortState.TheVariants.{Allocated, Failed}
use Rattle.rina_iface.specs.Ends.{with_sent}
use Rattle.rina_iface.specs.Seen.{Fac, Seen, Stands, largest_at, state_of, with_end, with_fac}

-- an SDU of so many bytes is too long
abbrev pub by_length : ℕ → Option ℕ → Option SendError → Option SendError
by_length len None own = own
by_length len (Some max) own = if nat_le len max then own else Some (TooLong len max)

-- only an allocated port sends
abbrev pub by_state : Option PortState → Option SendError → Option SendError
by_state (Some Allocated) rest = rest
by_state (Some (Failed fail)) rest = Some (HasFailed fail)
by_state state rest = Some (NotAllocated state)

-- what must be refused to an SDU of so many bytes: first what every facility refuses, and then `own`
abbrev pub refused : Seen → Port → ℕ → Option SendError → Option SendError
refused s port len own = by_state (state_of s port) (by_length len (largest_at s port) own)

-- what a facility may refuse by what it alone knows: what comes after the refusals of every facility
abbrev pub IsOwnRefusal : SendError → Type 0
IsOwnRefusal (WindowShut need room) = Unit {0}
IsOwnRefusal (NoRoute dst) = Unit {0}
IsOwnRefusal (QueueFull need room) = Unit {0}
IsOwnRefusal (NumbersSpent until) = Unit {0}
IsOwnRefusal other = ⊥

-- the SDU was added to what this end sent, and nothing else changed
pub record IsSent (old : Seen) (port : Port) (bytes : List ℕ) (num : Num) (new : Seen) : Type 0 where
  pub facility : Fac
  pub place : ℕ
  pub end : End
  pub stands : Stands old port facility place end
  pub allocated : end.state ≡ Allocated
  pub new_is : new ≡ with_fac old port.fac (with_end facility place (with_sent end (record { tick = old.now; num = num; bytes = bytes })))

-- what `send` does, where `own` is what the facility refuses by what it alone knows
abbrev pub Sends : Option SendError → Seen → Port → List ℕ → Result Num SendError → Seen → Type 0
Sends own old port bytes (Ok num) new = (refused old port (length bytes) own ≡ None) × IsSent old port bytes num new
Sends own old port bytes (Err Memory) new = new ≡ old
Sends own old port bytes (Err e) new = (refused old port (length bytes) own ≡ Some e) × (new ≡ old)

-- what `send` does, by what is shown and on the whole, where a facility shows itself by `seen`, refuses `refuses` by what it alone knows, and does `does`
abbrev pub SendsAsSeen : {F : Type 0} → (F → Seen) → (F → Port → ℕ → Option SendError) → (F → Port → List ℕ → Result Num SendError → F → Type 0) → F → F → Port → List ℕ → Result Num SendError → Type 0
SendsAsSeen seen refuses does old new port bytes result = Sends (refuses old port (length bytes)) (seen old) port bytes result (seen new) × does old port bytes result new
