-- Wires stay sound where a name is registered, and where its registration ends.
use Rattle.std.proofs.Common.{ℕ, Bool, List, Result, Ok, Err, sym, subst}
use Rattle.rina_iface.specs.declared.error.RegisterError.{RegisterError}
use Rattle.rina_iface.specs.declared.error.UnregisterError.{UnregisterError}
use Rattle.rina_iface.specs.declared.error.UnregisterError.TheVariants as unregister
use Rattle.rina_iface.specs.Unregister.{without_name}
use Rattle.rina_wire.specs.Air.{Air, Line}
use Rattle.rina_wire.specs.Register.{RegistersOn, named}
use Rattle.rina_wire.specs.Sound.{IsSound, IsSoundLine, KeepsFlows}
use Rattle.rina_wire.specs.Unregister.{UnregistersOn, unnamed}
use Rattle.rina_wire.proofs.Sound.{flows_of, keeps, like_refl, named_flows, named_stays, sound_failed, sound_on_wire}
use Rattle.rina_iface.specs.declared.error.RegisterError.TheVariants.{Memory, Already, NoMember, CountSpent}

pub sound_registers : (a : Air) (fac node : ℕ) (app : List ℕ) (r : Result (Unit {0}) RegisterError) (a' : Air) → IsSound a → RegistersOn a fac node app r a' → IsSound a'
sound_registers a fac node app (Ok done) a' s g = subst IsSound (sym g.air) (sound_on_wire a fac (named node app) s (λ l h k. named_stays node app l k) (λ l h k f. named_flows a.now a.failed fac node app l f))
sound_registers a fac node app (Err Memory) a' s g = subst IsSound (sym g) (sound_failed a s)
sound_registers a fac node app (Err Already) a' s g = subst IsSound (sym g.air) s
sound_registers a fac node app (Err NoMember) a' s g = subst IsSound (sym g.air) s
sound_registers a fac node app (Err (CountSpent n k)) a' s g = subst IsSound (sym g.air) s

unnamed_stays : (node : ℕ) (app : List ℕ) (l : Line) → IsSoundLine l → IsSoundLine (unnamed node app l)
unnamed_stays node app l s = keeps l l.ends l.waiting (without_name l.names node app) l.flights s (like_refl l.ends)

unnamed_flows : (now : ℕ) (failed : Bool) (fac node : ℕ) (app : List ℕ) (l : Line) → KeepsFlows now failed fac l → KeepsFlows now failed fac (unnamed node app l)
unnamed_flows now failed fac node app l k = flows_of now failed fac l l.waiting (without_name l.names node app) k k.waiting

pub sound_unregisters : (a : Air) (fac node : ℕ) (app : List ℕ) (r : Result (Unit {0}) UnregisterError) (a' : Air) → IsSound a → UnregistersOn a fac node app r a' → IsSound a'
sound_unregisters a fac node app (Ok done) a' s g = subst IsSound (sym g.air) (sound_on_wire a fac (unnamed node app) s (λ l h k. unnamed_stays node app l k) (λ l h k f. unnamed_flows a.now a.failed fac node app l f))
sound_unregisters a fac node app (Err unregister.Memory) a' s g = subst IsSound (sym g) (sound_failed a s)
sound_unregisters a fac node app (Err unregister.NotThere) a' s g = subst IsSound (sym g.air) s
sound_unregisters a fac node app (Err (unregister.CountSpent n k)) a' s g = subst IsSound (sym g.air) s
