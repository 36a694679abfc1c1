-- What a clock step does at the rank below: it asks the facilities for a flow that came in, and frees one port, or nothing. Here `same` says that nothing
-- changed there, and `frees` what freeing a port did there.
use Rattle.std.specs.Prelude.{◌≡◌, ◌≢◌, ◌⊎◌, ℕ, zero, suc, List, [], slice_get, Option, Some, None, Result, Ok, Err}
use Rattle.rina_base.specs.declared.memory.Memory.{Memory as NoMemory}
use Rattle.rina_base.specs.declared.number.Port.{Port}
use Rattle.rina_iface.specs.declared.error.FreeError.{FreeError}
use Rattle.rina_iface.specs.declared.error.FreeError.TheVariants as free
use Rattle.rina_data.specs.declared.settings.Member.{Member}
use Rattle.rina_data.specs.declared.step.ClockStep.{ClockStep}
use Rattle.rina_data.specs.declared.step.ClockStep.TheVariants as step
use Rattle.rina_data.specs.declared.step.StepError.{StepError}
use Rattle.rina_data.specs.declared.step.StepError.TheVariants.{CountSpent, Memory, NoIpc, NoLink}
use Rattle.rina_dif.specs.declared.dif.Dif.{Dif}
use Rattle.rina_dif.specs.Elsewhere.{home_of}

-- where a management connection gives a number up, which is told with the CEP-id 0, a port is freed; else nothing changes, nor does it where a flow, which
-- has another CEP-id, gives one up
abbrev pub FreesAs : Type 0 → (Port → Result (Unit {0}) FreeError → Type 0) → ClockStep → Type 0
FreesAs same frees (step.GaveUp num) = ((num.cep ≢ 0) × same) ⊎ ((num.cep ≡ 0) × (port : Port) × frees port (Ok tt))
FreesAs same frees done = same

-- without memory nothing changes, or freeing a port failed there
abbrev pub FreesNone : Type 0 → (Port → Result (Unit {0}) FreeError → Type 0) → Type 0
FreesNone same frees = same ⊎ ((port : Port) × frees port (Err free.Memory))

-- a step at a link
abbrev pub FreesOver : {E : Type 0} → Type 0 → (Port → Result (Unit {0}) FreeError → Type 0) → Result ClockStep E → Type 0
FreesOver same frees (Ok done) = FreesAs same frees done
FreesOver same frees (Err e) = FreesNone same frees

-- a clock step behind a new link
abbrev pub FreesBelow : Type 0 → (Port → Result (Unit {0}) FreeError → Type 0) → Result ClockStep StepError → Type 0
FreesBelow same frees (Ok done) = FreesAs same frees done
FreesBelow same frees (Err Memory) = FreesNone same frees
FreesBelow same frees (Err NoIpc) = same
FreesBelow same frees (Err NoLink) = same
FreesBelow same frees (Err (CountSpent need left)) = same

-- Which facilities are asked for a flow that came in, on the whole. `claims` says what the question to one of them did

-- the first n were asked, one after the other, and had none
abbrev pub FindsNone : {F : Type 0} → (F → ℕ → Option Port → F → Type 0) → ℕ → F → F → Type 0
FindsNone claims zero old new = new ≡ old
FindsNone {F} claims (suc n) old new = (mid : F) × FindsNone claims n old mid × claims mid n None new

-- and then one had a flow, or none has
abbrev pub ClaimsInTurn : {F : Type 0} → (F → ℕ → Option Port → F → Type 0) → F → Option Port → F → Type 0
ClaimsInTurn {F} claims old (Some port) new = (fac : ℕ) × (mid : F) × FindsNone claims fac old mid × claims mid fac (Some port) new
ClaimsInTurn claims old None new = (n : ℕ) × FindsNone claims n old new

-- a flow was claimed
abbrev pub HasClaimed : {F : Type 0} → (F → ℕ → Option Port → F → Type 0) → F → F → Type 0
HasClaimed claims old new = (port : Port) × ClaimsInTurn claims old (Some port) new

-- they were asked, whatever they answered
abbrev pub HasAsked : {F : Type 0} → (F → ℕ → Option Port → F → Type 0) → F → F → Type 0
HasAsked claims old new = (answer : Option Port) × ClaimsInTurn claims old answer new

-- so for a new link alone. Where the IPC process may have no link more no facility is asked
abbrev pub ClaimsLower : {F : Type 0} → (F → ℕ → Option Port → F → Type 0) → F → Result (Option ℕ) NoMemory → F → Type 0
ClaimsLower claims old (Ok (Some number)) new = HasClaimed claims old new
ClaimsLower claims old (Ok None) new = HasAsked claims old new
ClaimsLower claims old (Err e) new = HasClaimed claims old new

-- and behind that this is done
pub record ThenDoes {F : Type 0} (claims : F → ℕ → Option Port → F → Type 0) (old new : F) (Does : F → Type 0) : Type 0 where
  pub mid : F
  pub asked : HasAsked claims old mid
  pub does : Does mid

-- the name of a member, in which the facilities are asked
abbrev pub name_by : Option Member → List ℕ
name_by None = []
name_by (Some m) = m.name

-- of the member of place i
abbrev pub name_of : Dif → ℕ → List ℕ
name_of d i = name_by (slice_get d.settings.members i)

-- where there is one
abbrev pub name_in : Dif → Option ℕ → List ℕ
name_in d (Some i) = name_of d i
name_in d None = []

-- of the member at a node
abbrev pub name_here : Dif → ℕ → List ℕ
name_here d node = name_in d (home_of d node)

-- what a clock step does: where a link is lost nothing, where one is new the claim, else what it does where no link came. Here `frees` says what freeing a port
-- did between two states of the rank
abbrev pub ClocksBelow : {F : Type 0} → (F → ℕ → Option Port → F → Type 0) → (F → F → Port → Result (Unit {0}) FreeError → Type 0) → F → Result ClockStep StepError → F → Type 0
ClocksBelow claims frees old (Ok (step.LinkLost link)) new = new ≡ old
ClocksBelow claims frees old (Ok (step.LinkNew link)) new = HasClaimed claims old new
ClocksBelow claims frees old (Ok done) new = ThenDoes claims old new (λ mid. FreesAs (new ≡ mid) (frees mid new) done)
ClocksBelow claims frees old (Err Memory) new = ThenDoes claims old new (λ mid. FreesNone (new ≡ mid) (frees mid new))
ClocksBelow claims frees old (Err other) new = new ≡ old
