-- The faults of reading and of writing, by the status.
use Rattle.std.proofs.Common.{◌≡◌, ℕ, Bool, List, [], Option, ◌⊎◌, inl, inr, refl, sym, ap, subst}
use Rattle.rina_report.specs.declared.note.Fault.{Fault}
use Rattle.rina_report.specs.declared.note.Fault.TheVariants as faults
use Rattle.rina_report.specs.declared.note.Note.{Note}
use Rattle.rina_report.specs.declared.note.Note.TheVariants as notes
use Rattle.rina_tower.specs.declared.tower.Tower.{Tower}
use Rattle.rina_run.specs.declared.outcome.Status.{Status}
use Rattle.rina_run.specs.declared.outcome.Status.TheVariants as statuses
use Rattle.rina_run.specs.declared.output.Stop.{Stop}
use Rattle.rina_run.specs.declared.output.Stop.TheVariants as stops
use Rattle.rina_run.specs.Faults.{BreakFaults, IsNoneMore, IsOneMore, ReadFaults, WriteFaults}
use Rattle.rina_run.specs.Outcomes.{IsShown}
use Rattle.rina_run.specs.Top.{ClosedBy, IsOutOfMemory, RefusedBy, status_of, status_stopped}

-- Writing

-- no write failed, and the status tells no write fault
pub none_by : (s : Status) (before now : ℕ) (odd odd' : Bool) → ¬ (s ≡ statuses.WriteFault) → now ≡ before → odd' ≡ odd → WriteFaults s before now odd odd'
none_by statuses.WriteFault before now odd odd' other same steady = absurd (other refl)
none_by s before now odd odd' other same steady = (same, steady)

-- what happened behind a part in which no write failed happened in all
pub then_by : (s : Status) (before mid now : ℕ) (odd odd1 odd' : Bool) → mid ≡ before → odd1 ≡ odd → WriteFaults s mid now odd1 odd' → WriteFaults s before now odd odd'
then_by s before mid now odd odd1 odd' same steady w = rw (sym same, sym steady) w

-- Reading

-- the same where no read failed
pub reads_then : (B : Type 0) (s : Status) (before mid now : ℕ) (odd odd1 odd' : Bool) → mid ≡ before → odd1 ≡ odd → ReadFaults B s mid now odd1 odd' → ReadFaults B s before now odd odd'
reads_then B s before mid now odd odd1 odd' same steady r = rw (sym same, sym steady) r

-- the same, where it is told in other words that reading broke off
in_words : (A B N M : Type 0) → (A → B) → N ⊎ (M × A) → N ⊎ (M × B)
in_words A B N M f (inl none) = inl none
in_words A B N M f (inr one) = inr (one.0, f one.1)

pub reads_as : (A B : Type 0) (s : Status) (before now : ℕ) (odd odd' : Bool) → (A → B) → ReadFaults A s before now odd odd' → ReadFaults B s before now odd odd'
reads_as A B statuses.WriteFault before now odd odd' f r = in_words A B _ _ f r
reads_as A B statuses.Memory before now odd odd' f r = in_words A B _ _ f r
reads_as A B statuses.ReadFault before now odd odd' f r = r
reads_as A B s before now odd odd' f r = r

-- no read failed, and the status tells no read fault
pub reads_none : (B : Type 0) (s : Status) (count : ℕ) (odd : Bool) → ¬ (s ≡ statuses.ReadFault) → ReadFaults B s count count odd odd
reads_none B statuses.ReadFault count odd other = absurd (other refl)
reads_none B statuses.WriteFault count odd other = inl (refl, refl)
reads_none B statuses.Memory count odd other = inl (refl, refl)
reads_none B s count odd other = (refl, refl)

-- a run that was stopped, or in which nothing was done
pub reads_stop : (B : Type 0) (stop : Stop) (before now : ℕ) (odd odd' : Bool) → now ≡ before → odd' ≡ odd → ReadFaults B (status_stopped stop) before now odd odd'
reads_stop B stops.Memory before now odd odd' same steady = inl (same, steady)
reads_stop B stops.WriteFault before now odd odd' same steady = inl (same, steady)

pub reads_lost : (B : Type 0) (s : Status) (t : List Note) (tower : Option Tower) (before now : ℕ) (odd odd' : Bool) → IsOutOfMemory s t tower → now ≡ before → odd' ≡ odd → ReadFaults B s before now odd odd'
reads_lost B s t tower before now odd odd' m same steady = rw m.memory (inl (same, steady))

-- a run that ended by a fault: one read failed where that is a read fault, and else none
some_break : (B : Type 0) (fault : Fault) (before now : ℕ) (odd odd' : Bool) → BreakFaults fault before now odd odd' → (fault ≡ faults.ReadFault → B) → IsNoneMore before now odd odd' ⊎ (IsOneMore before now odd odd' × B)
some_break B faults.ReadFault before now odd odd' b broke = inr (b, broke refl)
some_break B fault before now odd odd' b broke = inl b

pub reads_by : (B : Type 0) (fault : Fault) (s : Status) (note : Note) (old t : List Note) (before now : ℕ) (odd odd' : Bool) → ClosedBy (status_of fault) note old s t → BreakFaults fault before now odd odd' → (fault ≡ faults.ReadFault → B) → ReadFaults B s before now odd odd'
reads_by B fault statuses.WriteFault note old t before now odd odd' c b broke = some_break B fault before now odd odd' b broke
reads_by B fault statuses.Memory note old t before now odd odd' c b broke = some_break B fault before now odd odd' b broke
reads_by B faults.ReadFault statuses.ReadFault note old t before now odd odd' c b broke = b
reads_by B faults.ReadFault s note old t before now odd odd' c b broke = cc
reads_by B fault statuses.ReadFault note old t before now odd odd' c b broke = cc
reads_by B fault s note old t before now odd odd' c b broke = b

-- a fault that is no read fault
pub no_break : {B : Type 0} (fault : Fault) → ¬ (status_of fault ≡ statuses.ReadFault) → fault ≡ faults.ReadFault → B
no_break fault other is = absurd (other (ap status_of is))

-- a run that was done
pub reads_end : (B : Type 0) (s : Status) (note : Note) (old t : List Note) (before now : ℕ) (odd odd' : Bool) → ClosedBy statuses.Done note old s t → IsNoneMore before now odd odd' → ReadFaults B s before now odd odd'
reads_end B statuses.WriteFault note old t before now odd odd' c none = inl none
reads_end B statuses.Memory note old t before now odd odd' c none = inl none
reads_end B statuses.ReadFault note old t before now odd odd' c none = cc
reads_end B s note old t before now odd odd' c none = none

-- commands that read nothing
pub usage_reads : (B : Type 0) (word : ℕ) (s : Status) (t : List Note) (count : ℕ) (odd : Bool) → RefusedBy (faults.Usage word) s t → ReadFaults B s count count odd odd
usage_reads B word s t count odd c = reads_by B (faults.Usage word) s (notes.Fault (faults.Usage word)) [] t count count odd odd c (refl, refl) (no_break (faults.Usage word) (λ h. cc))

shows_no_fault : (t : List Note) (tower : Option Tower) → IsShown statuses.ReadFault t tower → ⊥
shows_no_fault t tower shown = shown.ends

pub show_reads : (B : Type 0) (s : Status) (t : List Note) (tower : Option Tower) (count : ℕ) (odd : Bool) → IsShown s t tower → ReadFaults B s count count odd odd
show_reads B s t tower count odd shown = reads_none B s count odd (λ is. shows_no_fault t tower (subst (λ (u : Status). IsShown u t tower) is shown))
