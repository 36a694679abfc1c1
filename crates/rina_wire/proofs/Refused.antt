-- A frame that its wire refuses, and an ask.
use Rattle.std.proofs.Common.{◌≡◌, ◌≢◌, refl, ℕ, ◌^◌, true, false, List, length, Some, None, Err, cond, leb}
use Rattle.rina_base.specs.declared.number.Port.{Port}
use Rattle.rina_iface.specs.declared.error.SendError.{SendError}
use Rattle.rina_iface.specs.declared.error.SendError.TheVariants as errors
use Rattle.rina_iface.specs.Send.{by_length}
use Rattle.rina_iface.specs.declared.ask.Ask.{Ask}
use Rattle.rina_iface.specs.declared.error.AllocateError.{AllocateError}
use Rattle.rina_iface.specs.declared.error.AllocateError.TheVariants as asks
use Rattle.rina_wire.specs.Air.{Air, Line, Goes}
use Rattle.rina_wire.specs.Allocate.{AllocatesOn, allocate_refusal}
use Rattle.rina_wire.specs.Send.{SendsOn, frame_refusal, send_refusal}

-- a wire does not refuse a frame with `Memory`
not_memory : (len : ℕ) (l : Line) → Some errors.Memory ≡ by_length len (Some l.largest) (frame_refusal l) → ⊥
not_memory len l = elim (leb len l.largest) as (λ b. Some errors.Memory ≡ cond b (frame_refusal l) (Some (errors.TooLong len l.largest)) → ⊥) [
  | true ↦ elim (leb (2 ^ 63) l.frames) as (λ b. Some errors.Memory ≡ cond b (Some (errors.NumbersSpent 4294967295)) None → ⊥) [ true ↦ (λ h. absurd cc) | false ↦ (λ h. absurd cc) ]
  | false ↦ (λ h. absurd cc)
]

pub sends_refused : (a : Air) (port : Port) (bytes : List ℕ) (len : ℕ) (l : Line) (e : SendError) → Some e ≡ by_length len (Some l.largest) (frame_refusal l) → Goes a (send_refusal a port (length bytes)) (Some e) a a → SendsOn a port bytes (Err e) a
sends_refused a port bytes len l errors.Memory is goes = absurd (not_memory len l is)
sends_refused a port bytes len l (errors.NotAllocated state) is goes = goes
sends_refused a port bytes len l (errors.Failed fail) is goes = goes
sends_refused a port bytes len l (errors.TooLong n max) is goes = goes
sends_refused a port bytes len l (errors.WindowShut need room) is goes = goes
sends_refused a port bytes len l (errors.NoRoute dst) is goes = goes
sends_refused a port bytes len l (errors.QueueFull need room) is goes = goes
sends_refused a port bytes len l (errors.NumbersSpent until) is goes = goes

pub asks_refused : (a : Air) (ask : Ask) (e : AllocateError) → e ≢ asks.Memory → Goes a (allocate_refusal a ask) (Some e) a a → AllocatesOn a ask (Err e) a
asks_refused a ask asks.Memory other goes = absurd (other refl)
asks_refused a ask asks.NoMember other goes = goes
asks_refused a ask asks.NoCube other goes = goes
asks_refused a ask asks.NoSuchApp other goes = goes
asks_refused a ask asks.SameSystem other goes = goes
asks_refused a ask (asks.NoIds used) other goes = goes
asks_refused a ask (asks.NoRoute dst) other goes = goes
asks_refused a ask (asks.Busy port) other goes = goes
asks_refused a ask (asks.CountSpent need left) other goes = goes
