-- What the calls of applications do at rank r of a tower.
use Rattle.std.specs.Prelude.{◌≡◌, ℕ, ◌||◌, Bool, true, false, List, Option, Some, None, IsSome, Result, Ok, Err}
use Rattle.rina_base.specs.declared.number.Num.{Num}
use Rattle.rina_base.specs.declared.number.Port.{Port}
use Rattle.rina_iface.specs.declared.ask.Ask.{Ask}
use Rattle.rina_iface.specs.declared.ends.End.{End}
use Rattle.rina_iface.specs.declared.error.AllocateError.{AllocateError}
use Rattle.rina_iface.specs.declared.error.FreeError.{FreeError}
use Rattle.rina_iface.specs.declared.error.RegisterError.{RegisterError}
use Rattle.rina_iface.specs.declared.error.SendError.{SendError}
use Rattle.rina_iface.specs.declared.error.UnregisterError.{UnregisterError}
use Rattle.rina_iface.specs.Seen.{Seen, end_of, unpassed}
use Rattle.rina_tower.specs.declared.applications.AppError.{AppError}
use Rattle.rina_tower.specs.declared.applications.AppError.TheVariants.{NoRank, NotYours, Call}
use Rattle.rina_tower.specs.declared.tower.Tower.{Tower}
use Rattle.rina_tower.specs.Bystanders.{is_ipc}
use Rattle.rina_tower.specs.Calls.{AllocatesAtTop, ClaimsAtTop, FreesAtTop, PassesAtTop, RegistersAtTop, SendsAtTop, UnregistersAtTop}
use Rattle.rina_tower.specs.Ranks.{rank_of, seen_of}
use Rattle.rina_tower.specs.Levels.{AtRank}

-- the call of the rank is what is done and answered; for an IPC process nothing is
abbrev pub Answers : {T E : Type 0} → Bool → (Result T E → Type 0) → Type 0 → Result T (AppError E) → Type 0
Answers ipc call same (Ok x) = (ipc ≡ false) × call (Ok x)
Answers ipc call same (Err (Call e)) = (ipc ≡ false) × call (Err e)
Answers ipc call same (Err NotYours) = (ipc ≡ true) × same
Answers ipc call same (Err NoRank) = ⊥

-- the application at an end is an IPC process
abbrev pub is_ipc_end : Option End → Bool
is_ipc_end None = false
is_ipc_end (Some e) = is_ipc e.app

-- and so the one at a port of a rank
abbrev pub is_ipc_at : Seen → Port → Bool
is_ipc_at s port = is_ipc_end (end_of s port)

abbrev pub AppRegisters : ℕ → ℕ → ℕ → List ℕ → Result (Unit {0}) (AppError RegisterError) → Tower → Tower → Type 0
AppRegisters r fac node app result t t' =
    AtRank r (λ u u'. Answers (is_ipc app) (λ x. RegistersAtTop fac node app x u u') (u' ≡ u) result) (result ≡ Err NoRank) t t'

abbrev pub AppUnregisters : ℕ → ℕ → ℕ → List ℕ → Result (Unit {0}) (AppError UnregisterError) → Tower → Tower → Type 0
AppUnregisters r fac node app result t t' =
    AtRank r (λ u u'. Answers (is_ipc app) (λ x. UnregistersAtTop fac node app x u u') (u' ≡ u) result) (result ≡ Err NoRank) t t'

abbrev pub AppAllocates : ℕ → Ask → Result Port (AppError AllocateError) → Tower → Tower → Type 0
AppAllocates r ask result t t' =
    AtRank r (λ u u'. Answers (is_ipc ask.app || is_ipc ask.to) (λ x. AllocatesAtTop ask x u u') (u' ≡ u) result) (result ≡ Err NoRank) t t'

-- no end waits for an IPC process here
abbrev pub ClaimsFor : Bool → (Option Port → Type 0) → Type 0 → Option Port → Type 0
ClaimsFor true call same result = (result ≡ None) × same
ClaimsFor false call same result = call result

abbrev pub AppClaims : ℕ → ℕ → ℕ → List ℕ → Option Port → Tower → Tower → Type 0
AppClaims r fac node app result t t' =
    AtRank r (λ u u'. ClaimsFor (is_ipc app) (λ x. ClaimsAtTop fac node app x u u') (u' ≡ u) result) (result ≡ None) t t'

abbrev pub AppSends : ℕ → Port → List ℕ → Result Num (AppError SendError) → Tower → Tower → Type 0
AppSends r port bytes result t t' =
    AtRank r (λ u u'. Answers (is_ipc_at (seen_of u) port) (λ x. SendsAtTop port bytes x u u') (u' ≡ u) result) (result ≡ Err NoRank) t t'

-- the condition of `app_pass`: an SDU waits at a port of rank r, which is no IPC process's
pub record CanPass (t : Tower) (r : ℕ) (port : Port) : Type 0 where
  pub rank : Tower
  pub is_rank : rank_of t r ≡ Some rank
  pub app : is_ipc_at (seen_of rank) port ≡ false
  pub waits : IsSome (unpassed (seen_of rank) port)

abbrev pub AppPasses : ℕ → Port → Tower → Tower → Type 0
AppPasses r port t t' = AtRank r (PassesAtTop port) ⊥ t t'

abbrev pub AppFrees : ℕ → Port → Result (Unit {0}) (AppError FreeError) → Tower → Tower → Type 0
AppFrees r port result t t' =
    AtRank r (λ u u'. Answers (is_ipc_at (seen_of u) port) (λ x. FreesAtTop port x u u') (u' ≡ u) result) (result ≡ Err NoRank) t t'
