-- Wires stay sound where a frame is sent.
use Rattle.std.proofs.Common.{◌≡◌, ℕ, List, length, slice_get, Some, Result, Ok, Err, sym, subst}
use Rattle.rina_base.specs.declared.number.Num.{Num}
use Rattle.rina_base.specs.declared.number.Port.{Port}
use Rattle.rina_iface.specs.declared.ends.End.{End}
use Rattle.rina_iface.specs.Ends.{place_in}
use Rattle.rina_wire.specs.Air.{Air, Line, end_at, wire_at}
use Rattle.rina_wire.specs.Send.{SendsOn, sent_from}
use Rattle.rina_wire.specs.Sound.{IsSound}
use Rattle.rina_wire.proofs.Carried.{open_at}
use Rattle.rina_wire.proofs.Sound.{sent_flows, sent_stays, sound_failed, sound_on_end}
use Rattle.rina_iface.specs.declared.error.SendError.{SendError}
use Rattle.rina_iface.specs.declared.error.SendError.TheVariants.{Memory, NotAllocated, TooLong, WindowShut, NoRoute, QueueFull, NumbersSpent, Failed as HasFailed}

-- the end of a port, by its wire and its place
pub stands_at : (a : Air) (port : Port) (l : Line) (i : ℕ) (e : End) → wire_at a port.fac ≡ Some l → place_in port l.ends ≡ Some i → slice_get l.ends i ≡ Some e → end_at a port ≡ Some e
stands_at a port l i e wire place here = rw (wire, place) here

pub sound_sends : (a : Air) (port : Port) (bytes : List ℕ) (r : Result Num SendError) (a' : Air) → IsSound a → SendsOn a port bytes r a' → IsSound a'
sound_sends a port bytes (Ok num) a' s g = subst IsSound (sym g.goes.air) (sound_on_end a port (sent_from a.now bytes) s (sent_stays a.now bytes) (λ l i e wire place here line k. sent_flows a.now a.failed port.fac bytes l i e line k (open_at a port (length bytes) e (stands_at a port l i e wire place here) g.goes.refused) here))
sound_sends a port bytes (Err Memory) a' s g = subst IsSound (sym g) (sound_failed a s)
sound_sends a port bytes (Err (NotAllocated state)) a' s g = subst IsSound (sym g.air) s
sound_sends a port bytes (Err (HasFailed fail)) a' s g = subst IsSound (sym g.air) s
sound_sends a port bytes (Err (TooLong len max)) a' s g = subst IsSound (sym g.air) s
sound_sends a port bytes (Err (WindowShut n k)) a' s g = subst IsSound (sym g.air) s
sound_sends a port bytes (Err (NoRoute dst)) a' s g = subst IsSound (sym g.air) s
sound_sends a port bytes (Err (QueueFull n k)) a' s g = subst IsSound (sym g.air) s
sound_sends a port bytes (Err (NumbersSpent until)) a' s g = subst IsSound (sym g.air) s
