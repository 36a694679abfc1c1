-- After each call of wires journals are later.
use Rattle.std.proofs.Common.{ℕ, List, Option, Result}
use Rattle.rina_base.specs.declared.number.Num.{Num}
use Rattle.rina_base.specs.declared.number.Port.{Port}
use Rattle.rina_iface.specs.declared.ask.Ask.{Ask}
use Rattle.rina_iface.specs.declared.error.AllocateError.{AllocateError}
use Rattle.rina_iface.specs.declared.error.RegisterError.{RegisterError}
use Rattle.rina_iface.specs.declared.ask.Fixed.{Fixed}
use Rattle.rina_iface.specs.declared.error.FreeError.{FreeError}
use Rattle.rina_iface.specs.declared.error.SendError.{SendError}
use Rattle.rina_iface.specs.declared.error.UnregisterError.{UnregisterError}
use Rattle.rina_iface.specs.Bind.{CanBind}
use Rattle.rina_iface.specs.Later.{IsLater}
use Rattle.rina_iface.specs.Seen.{unpassed}
use Rattle.rina_iface.proofs.LaterCalls.{later_allocates, later_binds, later_claims, later_frees, later_passes, later_registers, later_sends, later_unregisters}
use Rattle.rina_wire.specs.Air.{Air, seen_of}
use Rattle.rina_wire.specs.Allocate.{AllocatesOn, own_allocate_refusal}
use Rattle.rina_wire.specs.Bind.{BindsOn}
use Rattle.rina_wire.specs.Claim.{ClaimsOn}
use Rattle.rina_wire.specs.Free.{FreesOn}
use Rattle.rina_wire.specs.Unregister.{UnregistersOn}
use Rattle.rina_wire.specs.Register.{RegistersOn}
use Rattle.rina_wire.specs.Send.{SendsOn, own_send_refusal, passed}
use Rattle.rina_wire.specs.Sound.{IsSound}
use Rattle.rina_wire.proofs.Asked.{seen_allocates}
use Rattle.rina_wire.proofs.Carried.{seen_passes, seen_sends}
use Rattle.rina_wire.proofs.Bound.{seen_binds}
use Rattle.rina_wire.proofs.Claims.{seen_claims}
use Rattle.rina_wire.proofs.Left.{seen_frees, seen_unregisters}
use Rattle.rina_wire.proofs.Seen.{seen_registers}
use Rattle.std.proofs.Common.{true, None, IsSome}

pub registers_later : (a : Air) (fac node : ℕ) (app : List ℕ) (r : Result (Unit {0}) RegisterError) (a' : Air) → RegistersOn a fac node app r a' → IsLater (seen_of a) (seen_of a')
registers_later a fac node app r a' g = later_registers None (seen_of a) fac node app r (seen_of a') (seen_registers a fac node app r a' g)

pub allocates_later : (a : Air) (ask : Ask) (r : Result Port AllocateError) (a' : Air) → IsSound a → AllocatesOn a ask r a' → IsLater (seen_of a) (seen_of a')
allocates_later a ask r a' s g = later_allocates (own_allocate_refusal a ask) (seen_of a) ask r (seen_of a') (seen_allocates a ask r a' s g)

pub claims_later : (a : Air) (fac node : ℕ) (app : List ℕ) (r : Option Port) (a' : Air) → ClaimsOn a fac node app r a' → IsLater (seen_of a) (seen_of a')
claims_later a fac node app r a' g = later_claims (seen_of a) fac node app r (seen_of a') (seen_claims a fac node app r a' g)

pub sends_later : (a : Air) (port : Port) (bytes : List ℕ) (r : Result Num SendError) (a' : Air) → IsSound a → SendsOn a port bytes r a' → IsLater (seen_of a) (seen_of a')
sends_later a port bytes r a' s g = later_sends (own_send_refusal a port) (seen_of a) port bytes r (seen_of a') (seen_sends a port bytes r a' s g)

pub passes_later : (a : Air) (port : Port) → IsSome (unpassed (seen_of a) port) → IsLater (seen_of a) (seen_of (passed a port))
passes_later a port w = later_passes (seen_of a) port (seen_of (passed a port)) (seen_passes a port w)

pub unregisters_later : (a : Air) (fac node : ℕ) (app : List ℕ) (r : Result (Unit {0}) UnregisterError) (a' : Air) → UnregistersOn a fac node app r a' → IsLater (seen_of a) (seen_of a')
unregisters_later a fac node app r a' g = later_unregisters None (seen_of a) fac node app r (seen_of a') (seen_unregisters a fac node app r a' g)

pub binds_later : (a : Air) (fixed : Fixed) (r : Result (Port × Port) AllocateError) (a' : Air) → IsSound a → CanBind (seen_of a) fixed → BindsOn a fixed r a' → IsLater (seen_of a) (seen_of a')
binds_later a fixed r a' s c g = later_binds (seen_of a) fixed r (seen_of a') (seen_binds a fixed r a' s c g)

pub frees_later : (a : Air) (port : Port) (r : Result (Unit {0}) FreeError) (a' : Air) → IsSound a → FreesOn a port r a' → IsLater (seen_of a) (seen_of a')
frees_later a port r a' s g = later_frees true (seen_of a) port r (seen_of a') (seen_frees a port r a' s g)
