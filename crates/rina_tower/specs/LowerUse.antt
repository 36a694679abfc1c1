-- What a step of a DIF does at the rank below.
use Rattle.std.specs.Prelude.{◌≡◌, ◌⊎◌, ℕ, Bool, List}
use Rattle.rina_base.specs.declared.number.Port.{Port}
use Rattle.rina_iface.specs.declared.ends.End.{End}
use Rattle.rina_iface.specs.Claim.{IsClaimed}
use Rattle.rina_iface.specs.Free.{IsFreed}
use Rattle.rina_iface.specs.Seen.{Fac, Seen, Stands, with_end, with_fac}
use Rattle.rina_tower.specs.Bystanders.{IsIpc}

-- one end did something, which is that of an IPC process, and nothing else changed
pub record UsesEnd (old new : Seen) : Type 0 where
  pub port : Port
  pub facility : Fac
  pub place : ℕ
  pub end : End
  pub end' : End
  pub stands : Stands old port facility place end
  pub ipc : IsIpc end.app
  pub its_port : end'.port ≡ end.port
  pub its_app : end'.app ≡ end.app
  pub new_is : new ≡ with_fac old port.fac (with_end facility place end')

-- the port of an IPC process was freed, with both ends of its flow where `both` says so, and nothing else changed
pub record FreesEnd (old new : Seen) : Type 0 where
  pub port : Port
  pub both : Bool
  pub freed : IsFreed both old port new
  pub ipc : IsIpc freed.end.app

-- one end did something, or a port was freed, or nothing changed
abbrev pub UsesOne : Seen → Seen → Type 0
UsesOne old new = (new ≡ old) ⊎ UsesEnd old new ⊎ FreesEnd old new

-- the oldest far end that waited at a facility for an IPC process was claimed, and nothing else changed
pub record ClaimsEnd (old new : Seen) : Type 0 where
  pub fac : ℕ
  pub node : ℕ
  pub app : List ℕ
  pub port : Port
  pub claimed : IsClaimed old fac node app port new
  pub ipc : IsIpc app

-- a far end was claimed, or nothing changed
abbrev pub MayClaim : Seen → Seen → Type 0
MayClaim old new = (new ≡ old) ⊎ ClaimsEnd old new

-- what a step does there: a far end may have been claimed, and then one end may have done something, or a port have been freed
pub record MayUse (old new : Seen) : Type 0 where
  pub mid : Seen
  pub claims : MayClaim old mid
  pub uses : UsesOne mid new
