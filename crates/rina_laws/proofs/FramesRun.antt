-- The frames of whole runs.
use Rattle.std.proofs.Common.{◌≡◌, ℕ, suc, ◌+◌, List, [], ◌∷◌, ◌++◌, append_assoc, length, length-append, slice_get, take, Some, None, Option, Result, Ok, Err, refl, sym, ◌∙◌, ap, subst, inl, inr, arith}
use Rattle.std.proofs.lemmas.List.{append-nil}
use Rattle.rina_report.specs.declared.note.Note.{Note}
use Rattle.rina_schedule.specs.declared.error.LineError.{LineError}
use Rattle.rina_schedule.specs.declared.event.Event.{Event}
use Rattle.rina_stack.specs.declared.plan.Plan.{Plan}
use Rattle.rina_tower.specs.declared.tower.Tower.{Tower, Wires, Rank'}
use Rattle.rina_tower.specs.Ranks.{now_of}
use Rattle.rina_wire.specs.Air.{Line, wire_at}
use Rattle.rina_schedule.specs.Line.{line_at}
use Rattle.rina_run.specs.Run.{LineDoes, Runs}
use Rattle.rina_words.specs.Step.{Stage, rounds_after}
use Rattle.rina_laws.specs.Frames.{FramesArriveOnce, GivesUpOn, IsSpared, Touches, wires_of}
use Rattle.rina_laws.specs.SomeStep.{SomeOfLine, SomeStep}
use Rattle.rina_laws.proofs.FramesCalls.{IsCarrying}
use Rattle.rina_laws.proofs.FramesKept.{Carries}
use Rattle.rina_laws.proofs.FramesOpening.{opening_holds}
use Rattle.rina_laws.proofs.FramesWords.{frame_acts, frame_clocks, frame_keeps}
use Rattle.rina_laws.proofs.WiresAt.{Holds, rounds_by}

-- ---- lines

line_does : (fac k : ℕ) (plan : Plan) (number : ℕ) (r : Result (Option Event) LineError) (s : Stage) (ns : List Note) (s' : Stage) → ((event : Event) → r ≡ Ok (Some event) → Touches plan fac k s.run event → ⊥) → (d : LineDoes plan number r s ns s') → (SomeOfLine (GivesUpOn fac k) plan number r s ns s' d → ⊥) → Holds (IsCarrying fac k) s.run.tower → Holds (IsCarrying fac k) s'.run.tower
line_does fac k plan number (Ok None) s ns s' spared d unspoilt h = subst (λ (v : Stage). Holds (IsCarrying fac k) v.run.tower) (sym d.1) h
line_does fac k plan number (Ok (Some event)) s ns s' spared d unspoilt h =
    let acted = frame_acts fac k plan number event s d.answer d.mid (spared event refl) d.acts (λ x. unspoilt (inl x)) h in
    rounds_by (IsCarrying fac k) (frame_keeps fac k) (GivesUpOn fac k) (frame_clocks fac k) (rounds_after plan.rounds event) d.mid.shelf s'.shelf d.mid.run.tower s'.run.tower d.rounds (λ x. unspoilt (inr x)) acted
line_does fac k plan number (Err e) s ns s' spared d unspoilt h = absurd d

-- one line more
runs_more : (plan : Plan) (number : ℕ) (w : Stage) (ls : List (List ℕ)) (ns : List Note) (mid : Stage) (l : List ℕ) (more : List Note) (w' : Stage) → Runs plan number w ls ns mid → LineDoes plan (number + length ls) (line_at l) mid more w' → Runs plan number w (ls ++ l ∷ []) (ns ++ more) w'
runs_more plan number w [] ns mid l more w' r d =
    let same : number + 0 ≡ number = omega arith in
    let d' : LineDoes plan number (line_at l) w more w' = subst (λ (v : Stage). LineDoes plan number (line_at l) v more w') r.1 (subst (λ (n : ℕ). LineDoes plan n (line_at l) mid more w') same d) in
    let notes : ns ++ more ≡ more ++ [] = rw r.0 (sym (append-nil more)) in
    (w', more, [], d', (refl, refl), notes)
runs_more plan number w (k ∷ ls) ns mid l more w' (next, first, rest, does, others, is) d =
    let same : number + suc (length ls) ≡ (number + 1) + length ls = omega arith in
    let others' = runs_more plan (number + 1) next ls rest mid l more w' others (subst (λ (n : ℕ). LineDoes plan n (line_at l) mid more w') same d) in
    (next, first, rest ++ more, does, others', ap (λ (xs : List Note). xs ++ more) is ∙ append_assoc first rest more)

-- what stands behind some lines, and those before it
at_middle : (xs ys : List (List ℕ)) (y : List ℕ) → slice_get (xs ++ y ∷ ys) (length xs) ≡ Some y
at_middle [] ys y = refl
at_middle (x ∷ xs) ys y = at_middle xs ys y

before_middle : (xs ys : List (List ℕ)) → take (length xs) (xs ++ ys) ≡ xs
before_middle [] ys = refl
before_middle (x ∷ xs) ys = ap (λ (zs : List (List ℕ)). x ∷ zs) (before_middle xs ys)

-- the lines that were run, and those that are left
runs : (fac k : ℕ) (plan : Plan) (start : Stage) (number : ℕ) (done : List (List ℕ)) (before : List Note) (w : Stage) (ls : List (List ℕ)) (ns : List Note) (w' : Stage) → number ≡ 1 + length done → Runs plan 1 start done before w → IsSpared plan start fac k (done ++ ls) → (d : Runs plan number w ls ns w') → (SomeStep (GivesUpOn fac k) plan number w ls ns w' d → ⊥) → Holds (IsCarrying fac k) w.run.tower → Holds (IsCarrying fac k) w'.run.tower
runs fac k plan start number done before w [] ns w' at ran spared d unspoilt h = subst (λ (v : Stage). Holds (IsCarrying fac k) v.run.tower) (sym d.1) h
runs fac k plan start number done before w (l ∷ ls) ns w' at ran spared (mid, first, rest, does, others, is) unspoilt h =
    let here : (event : Event) → line_at l ≡ Ok (Some event) → Touches plan fac k w.run event → ⊥ = λ event read touches.
    spared (length done) l event before w (at_middle done ls l) read (subst (λ (xs : List (List ℕ)). Runs plan 1 start xs before w) (sym (before_middle done (l ∷ ls))) ran) touches in
    let next = line_does fac k plan number (line_at l) w first mid here does (λ x. unspoilt (inl x)) h in
    let ran' = runs_more plan 1 start done before w l first mid ran (subst (λ (n : ℕ). LineDoes plan n (line_at l) w first mid) at does) in
    let at' : number + 1 ≡ 1 + length (done ++ l ∷ []) = omega (arith, at, length-append done (l ∷ [])) in
    let spared' : IsSpared plan start fac k ((done ++ l ∷ []) ++ ls) = subst (IsSpared plan start fac k) (sym (append_assoc done (l ∷ []) ls)) spared in
    runs fac k plan start (number + 1) (done ++ l ∷ []) (before ++ first) mid ls rest w' at' ran' spared' others (λ x. unspoilt (inr x)) next

-- what holds of the wires of a tower holds of each of them
each_wire : (fac k : ℕ) (t : Tower) (l : Line) → Holds (IsCarrying fac k) t → wire_at (wires_of t) fac ≡ Some l → Carries k (now_of t) l
each_wire fac k (Wires a) l h wire = h.holds l wire
each_wire fac k (Rank' p difs below) l h wire = each_wire fac k below l h wire

pub frames_arrive_once : FramesArriveOnce
frames_arrive_once plan shelf start lines ns s o d fac l wire i j e frame at is late fate spared unspoilt =
    let begins = opening_holds fac frame.num.seq plan shelf start o in
    let h = runs fac frame.num.seq plan start 1 [] [] start lines ns s refl (refl, refl) spared d unspoilt begins in
    (each_wire fac frame.num.seq s.run.tower l h wire late fate i j e frame at is refl).carried
