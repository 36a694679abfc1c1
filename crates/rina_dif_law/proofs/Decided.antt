-- What an IPC process decides by itself is what becomes of the PDU in its DIF.
use Rattle.std.proofs.Common.{ℕ, List, Ok, ap, refl, inl}
use Rattle.rina_base.specs.declared.cause.Cause.{Cause}
use Rattle.rina_base.specs.declared.cause.Cause.TheVariants as causes
use Rattle.rina_law.specs.Direction.{Direction}
use Rattle.rina_data.specs.declared.step.Decision.TheVariants as decision
use Rattle.rina_data.specs.declared.step.Took.TheVariants as took
use Rattle.rina_data.specs.Hops.{Hop}
use Rattle.rina_data.specs.Deciding.{Decides}
use Rattle.rina_dif_law.specs.Dif.{DifSeen, with_process}
use Rattle.rina_data.specs.Configs.{Member}
use Rattle.rina_data.specs.Process.{Process}
use Rattle.rina_dif_law.specs.Ids.{IsOfLink}
use Rattle.rina_dif_law.specs.Incoming.{IsInTime, Settles, SettlesFlow}

pub relayed_settles : (d : DifSeen) (lines : List Direction) (i : ℕ) (member : Member) (process process' : Process) (at : ℕ) (hop : Hop) → (IsInTime d at hop → IsOfLink hop.pdu → ⊥) → Decides d.config.cap d.clock member.addr process at hop (Ok decision.Relayed) process' → Settles d lines i member process at hop took.Relayed (with_process d i process') lines
relayed_settles d lines i member process process' at hop other s = inl (other, (s.0, s.1, record { process' = process'; passed = s.2; new_is = refl }, refl))

flow_off_settles : (d : DifSeen) (lines : List Direction) (i : ℕ) (member : Member) (process process' : Process) (at : ℕ) (hop : Hop) (cause : Cause) → Decides d.config.cap d.clock member.addr process at hop (Ok (decision.Off cause)) process' → SettlesFlow d lines i member process at hop (took.Off cause) (with_process d i process') lines
flow_off_settles d lines i member process process' at hop (causes.Expired left charge) s = (s.0, s.1, s.2, ap (with_process d i) s.3, refl)
flow_off_settles d lines i member process process' at hop (causes.NoRoute dst) s = (s.0, s.1, s.2.0, s.2.1, ap (with_process d i) s.2.2, refl)
flow_off_settles d lines i member process process' at hop (causes.QueueFull cap) s = (s.0, s.1, s.2.0, s.2.1, ap (with_process d i) s.2.2, refl)
flow_off_settles d lines i member process process' at hop (causes.NoConnection cep) s = absurd s.2
flow_off_settles d lines i member process process' at hop (causes.Duplicate num) s = absurd s.2
flow_off_settles d lines i member process process' at hop (causes.Behind highest) s = absurd s.2
flow_off_settles d lines i member process process' at hop (causes.NoState drf) s = absurd s.2
flow_off_settles d lines i member process process' at hop (causes.NoRoom cap) s = absurd s.2
flow_off_settles d lines i member process process' at hop (causes.StateGone last_in) s = absurd s.2
flow_off_settles d lines i member process process' at hop (causes.Broken missing) s = absurd s.2
flow_off_settles d lines i member process process' at hop (causes.LinkDown port) s = absurd s.2

pub off_settles : (d : DifSeen) (lines : List Direction) (i : ℕ) (member : Member) (process process' : Process) (at : ℕ) (hop : Hop) (cause : Cause) → (IsInTime d at hop → IsOfLink hop.pdu → ⊥) → Decides d.config.cap d.clock member.addr process at hop (Ok (decision.Off cause)) process' → Settles d lines i member process at hop (took.Off cause) (with_process d i process') lines
off_settles d lines i member process process' at hop cause other s = inl (other, flow_off_settles d lines i member process process' at hop cause s)
