-- What a run of a drawn input comes to.
use Rattle.std.proofs.Common.{◌≡◌, ℕ, ◌+◌, ◌≤◌, ◌⊎◌, Bool, List, [], take, length, slice_get, Option, Some, None, IsSome, inl, inr, refl, sym, ◌∙◌, subst, ap, arith}
use Rattle.std.specs.Prelude.{count_by, option_map}
use Rattle.std.specs.List.{sum_by}
use Rattle.std.proofs.lemmas.List.{take_all}
use Rattle.std.proofs.lemmas.List.Sums.{sum_by-take-drop, sum_by_more}
use Rattle.std.proofs.lemmas.Option.{slice_get_cases}
use Rattle.rina_gen.specs.Input.{input}
use Rattle.rina_gen.specs.Text.{input_text}
use Rattle.rina_iface.specs.declared.ends.End.{End}
use Rattle.rina_iface.specs.Seen.{Fac}
use Rattle.rina_policy.specs.Slots.{Slot}
use Rattle.rina_report.specs.declared.note.Note.{Note}
use Rattle.rina_report.specs.declared.note.Fault.{Fault}
use Rattle.rina_report.specs.declared.note.Fault.TheVariants as faults
use Rattle.rina_tower.specs.declared.tower.Tower.{Tower}
use Rattle.rina_run.specs.declared.outcome.Status.{Status}
use Rattle.rina_run.specs.declared.outcome.Status.TheVariants as statuses
use Rattle.rina_run.specs.Drawn.{SumsUp, Tells, TellsFault, TellsNothing, fac_failures, is_failed_app}
use Rattle.rina_run.specs.Faults.{ReadFaults}
use Rattle.rina_run.specs.Outcomes.{IsGenerated, IsRan}
use Rattle.rina_run.specs.Script.{Script, script_in}
use Rattle.rina_run.specs.Reading.{Broken, Ending, is_whole}
use Rattle.rina_run.specs.Top.{InputOutcomes, IsOutOfMemory, ScriptOutcomes, status_of}
use Rattle.rina_run.proofs.Faulty.{reads_none}

-- the ends of the next facility are counted
pub failures_more : (facs : List Fac) (i count found next : ℕ) (ends : List End) → count ≡ sum_by fac_failures (take i facs) → option_map (λ (f : Fac). f.ends) (slice_get facs i) ≡ Some ends → found ≡ count_by is_failed_app ends → next ≡ count + found → next ≡ sum_by fac_failures (take (i + 1) facs)
failures_more facs i count found next ends so_far is found_is next_is = elim (slice_get_cases facs i).1 [
  | inl (f, lt, found, read) ↦
      let same : f.ends ≡ ends = let h : option_map (λ (g : Fac). g.ends) (Some f) ≡ Some ends = subst (λ o. option_map (λ (g : Fac). g.ends) o ≡ Some ends) found is in cc in
      let more : sum_by fac_failures (take (i + 1) facs) ≡ sum_by fac_failures (take i facs) + fac_failures f = subst (λ x. sum_by fac_failures (take (i + 1) facs) ≡ sum_by fac_failures (take i facs) + fac_failures x) read (sum_by_more fac_failures facs i f lt) in
      let own : fac_failures f ≡ count_by is_failed_app ends = ap (λ es. count_by is_failed_app es) same in
      omega (arith, so_far, more, own, found_is, next_is)
  | inr (past, none) ↦ let h : option_map (λ (g : Fac). g.ends) None ≡ Some ends = subst (λ o. option_map (λ (g : Fac). g.ends) o ≡ Some ends) none is in cc
]

-- and the last was
pub failures_all : (facs : List Fac) (i count : ℕ) → count ≡ sum_by fac_failures (take i facs) → length facs ≤ i → count ≡ sum_by fac_failures facs
failures_all facs i count so_far past = so_far ∙ ap (λ fs. sum_by fac_failures fs) (take_all i facs past)

-- with those of the next facility they are too many to be counted
pub failures_beyond : (facs : List Fac) (i count found : ℕ) (ends : List End) → count ≡ sum_by fac_failures (take i facs) → option_map (λ (f : Fac). f.ends) (slice_get facs i) ≡ Some ends → found ≡ count_by is_failed_app ends → 18446744073709551616 ≤ count + found → 18446744073709551616 ≤ sum_by fac_failures facs
failures_beyond facs i count found ends so_far is found_is much =
    let next = failures_more facs i count found (count + found) ends so_far is found_is refl in
    let whole = sum_by-take-drop fac_failures facs (i + 1) in
    omega (arith, next, whole, much)

-- a facility with ends is one of these
pub facility_there : (facs : List Fac) (i : ℕ) (ends : List End) → option_map (λ (f : Fac). f.ends) (slice_get facs i) ≡ Some ends → i + 1 ≤ length facs
facility_there facs i ends is = elim (slice_get_cases facs i).1 [
  | inl (f, lt, found, read) ↦ omega (arith, lt)
  | inr (past, none) ↦ let h : option_map (λ (g : Fac). g.ends) None ≡ Some ends = subst (λ o. option_map (λ (g : Fac). g.ends) o ≡ Some ends) none is in cc
]

pub no_fault_is_done : (fault : Fault) → statuses.Done ≡ status_of fault → ⊥
no_fault_is_done (faults.Usage word) h = cc
no_fault_is_done faults.TooLarge h = cc
no_fault_is_done faults.NotToml h = cc
no_fault_is_done (faults.StackRule n item) h = cc
no_fault_is_done (faults.Schedule line n field) h = cc
no_fault_is_done faults.ReadFault h = cc

pub script_done : (known : List ℕ → Bool) (ending : Ending) (s : Script) (shelf : List Slot) (t : List Note) (shelf' : List Slot) → ScriptOutcomes known ending s shelf statuses.Done t None shelf' → ⊥
script_done known ending s shelf t shelf' (inl m, same) = let no : statuses.Done ≡ statuses.Memory = m.memory in cc
script_done known ending s shelf t shelf' (inr r, same) = no_fault_is_done r.fault r.refused.0

input_done : (known : List ℕ → Bool) (ending : Ending) (script : Option Script) (shelf : List Slot) (t : List Note) (shelf' : List Slot) → InputOutcomes known ending script shelf statuses.Done t None shelf' → ⊥
input_done known ending (Some s) shelf t shelf' h = script_done known ending s shelf t shelf' h
input_done known (Broken fault) None shelf t shelf' h = no_fault_is_done fault h.1.0
input_done known ending None shelf t shelf' h = h

-- a run of all its lines has a tower
pub done_has_tower : (known : List ℕ → Bool) (left left' : Option (List ℕ)) (shelf : List Slot) (s : Status) (t : List Note) (tower : Option Tower) (shelf' : List Slot) → IsRan known left left' shelf s t tower shelf' → s ≡ statuses.Done → IsSome tower
done_has_tower known left left' shelf s t (Some u) shelf' ran is = refl
done_has_tower known left left' shelf s t None shelf' (inl n) is = let no : statuses.Done ≡ statuses.Memory = sym is ∙ n.0.memory in cc
done_has_tower known left left' shelf s t None shelf' (inr r) is = absurd (input_done known r.ending (script_in (is_whole r.ending) r.used) shelf t shelf' (subst (λ (u : Status). InputOutcomes known r.ending (script_in (is_whole r.ending) r.used) shelf u t None shelf') is r.outcome))

-- the text was run, and what that came to was told
pub was_generated : (known : List ℕ → Bool) (n : ℕ) (text : List ℕ) (left : Option (List ℕ)) (shelf : List Slot) (ended s : Status) (unwritten t : List Note) (tower tower' : Option Tower) (shelf' : List Slot) → text ≡ input_text (input n) → IsRan known (Some text) left shelf ended unwritten tower shelf' → Tells n ended unwritten tower s t → tower' ≡ tower → IsGenerated known n shelf s t tower' unwritten shelf'
was_generated known n text left shelf ended s unwritten t tower tower' shelf' is ran told same = record {
  ended = ended;
  left = left;
  ran = subst (λ (x : Option Tower). IsRan known (Some (input_text (input n))) left shelf ended unwritten x shelf') (sym same) (subst (λ (x : List ℕ). IsRan known (Some x) left shelf ended unwritten tower shelf') is ran);
  told = subst (λ (x : Option Tower). Tells n ended unwritten x s t) (sym same) told;
}

-- nothing was done, since an allocation failed
pub not_generated : (known : List ℕ → Bool) (n : ℕ) (shelf : List Slot) (s : Status) (t : List Note) (tower : Option Tower) (unwritten : List Note) (shelf' : List Slot) → IsOutOfMemory s t tower → unwritten ≡ [] → shelf' ≡ shelf → IsGenerated known n shelf s t tower unwritten shelf'
not_generated known n shelf s t tower unwritten shelf' m none same = record {
  ended = statuses.Memory;
  left = None;
  ran = inl (record { memory = refl; notes = none; left = m.left }, same);
  told = record { memory = m.memory; none = m.notes };
}

-- a run of a drawn input tells no read fault
sums_no_read : (n : ℕ) (unwritten t : List Note) (tower : Option Tower) → SumsUp n unwritten tower statuses.ReadFault t → ⊥
sums_no_read n unwritten t None b = b
sums_no_read n unwritten t (Some u) (note, is, closed) = cc

done_no_read : (n : ℕ) (unwritten t : List Note) (tower : Option Tower) → TellsNothing statuses.ReadFault t ⊎ SumsUp n unwritten tower statuses.ReadFault t → ⊥
done_no_read n unwritten t tower (inl m) = let no : statuses.ReadFault ≡ statuses.Memory = m.memory in cc
done_no_read n unwritten t tower (inr s) = sums_no_read n unwritten t tower s

fault_no_read : (ended : Status) (t : List Note) → ¬ (ended ≡ statuses.ReadFault) → TellsFault ended statuses.ReadFault t → ⊥
fault_no_read ended t other told = other (sym told.2.0)

tells_no_read : (n : ℕ) (ended : Status) (unwritten t : List Note) (tower : Option Tower) → Tells n ended unwritten tower statuses.ReadFault t → ⊥
tells_no_read n statuses.Done unwritten t tower told = done_no_read n unwritten t tower told
tells_no_read n statuses.Memory unwritten t tower told = let no : statuses.ReadFault ≡ statuses.Memory = told.memory in cc
tells_no_read n statuses.ReadFault unwritten t tower told = told
tells_no_read n statuses.WriteFault unwritten t tower told = told
tells_no_read n ended unwritten t tower told = fault_no_read ended t (λ h. cc) told

pub gen_reads : (B : Type 0) (known : List ℕ → Bool) (n : ℕ) (shelf : List Slot) (s : Status) (t : List Note) (tower : Option Tower) (unwritten : List Note) (shelf' : List Slot) (count : ℕ) (odd : Bool) → IsGenerated known n shelf s t tower unwritten shelf' → ReadFaults B s count count odd odd
gen_reads B known n shelf s t tower unwritten shelf' count odd g = reads_none B s count odd (λ is. tells_no_read n g.ended unwritten t tower (subst (λ (u : Status). Tells n g.ended unwritten tower u t) is g.told))
