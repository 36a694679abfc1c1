-- What a freed flow keeps of wires, each clock step keeps.
use Rattle.std.proofs.Common.{ℕ, zero, suc, nat_lt, ◌+◌, Bool, true, false, List, [], ◌∷◌, Result, Ok, Err, inl, inr}
use Rattle.rina_base.specs.declared.number.Port.{Port}
use Rattle.rina_iface.specs.declared.error.FreeError.{FreeError}
use Rattle.rina_iface.specs.declared.error.FreeError.TheVariants.{Memory}
use Rattle.rina_policy.specs.Slots.{Slot}
use Rattle.rina_report.specs.declared.note.Note.{Note}
use Rattle.rina_schedule.specs.declared.event.Event.{Event}
use Rattle.rina_schedule.specs.declared.event.Event.TheVariants as events
use Rattle.rina_stack.specs.declared.plan.Plan.{Plan}
use Rattle.rina_table.specs.declared.sketch.Rounds.{Rounds}
use Rattle.rina_table.specs.declared.sketch.Rounds.TheVariants.{Auto, Manual}
use Rattle.rina_tower.specs.declared.tower.Tower.{Tower}
use Rattle.rina_tower.specs.Ranks.{now_of}
use Rattle.rina_tower.specs.Rounds.{AllMove, IsRound, Move}
use Rattle.rina_wire.specs.Air.{Air}
use Rattle.rina_wire.specs.Free.{FreesOn}
use Rattle.rina_words.specs.Step.{Acts, RoundsBy, Stage, Ticking, Ticks}
use Rattle.rina_laws.specs.Frames.{wires_of}
use Rattle.rina_laws.specs.SomeStep.{SomeAfter, SomeMove, SomeOfRound, SomeOfTicking, SomeOfTicks, SomeOfWord}
use Rattle.rina_laws.proofs.WiresAt.{Keeps, KeepsClocks, clocks_at}

-- this holds of no step
abbrev pub Never : Tower → Tower → Type 0
Never t t' = ⊥

pub free_clocks : (P : Air → Type 0) → Keeps P → ((a : Air) (port : Port) (r : Result (Unit {0}) FreeError) (a' : Air) → P a → FreesOn a port r a' → P a') → KeepsClocks P Never
free_clocks P kept frees r dif node x t t' unspoilt h d = clocks_at P kept r dif node x t t' h d (λ low. record {
  told = λ asked num port asks held is cep f. frees asked port (Ok tt) (wires_of t') held f;
  failed = λ asked port held f. frees asked port (Err Memory) (wires_of t') held f;
})

-- ---- nor of some step of a run

never_moves : (ms : List Move) (slots : List Slot) (t : Tower) (slots' : List Slot) (t' : Tower) (d : AllMove ms slots t slots' t') → SomeMove Never ms slots t slots' t' d → ⊥
never_moves [] slots t slots' t' d x = x
never_moves (m ∷ ms) slots t slots' t' (mid, between, one, others) (inl x) = x
never_moves (m ∷ ms) slots t slots' t' (mid, between, one, others) (inr x) = never_moves ms mid between slots' t' others x

never_round : (slots slots' : List Slot) (t t' : Tower) (d : IsRound slots slots' t t') → SomeOfRound Never slots slots' t t' d → ⊥
never_round slots slots' t t' d (inl x) = never_moves d.takes slots t slots d.taken d.do_take x
never_round slots slots' t t' d (inr (inl x)) = never_moves d.dues slots d.taken slots d.clocked d.do_dues x
never_round slots slots' t t' d (inr (inr x)) = never_moves d.leaves slots d.clocked slots' t' d.do_leave x

pub never_after : (rounds : Rounds) (slots : List Slot) (t : Tower) (slots' : List Slot) (t' : Tower) (d : RoundsBy rounds slots t slots' t') → SomeAfter Never rounds slots t slots' t' d → ⊥
never_after Auto slots t slots' t' d x = never_round slots slots' t t' d x
never_after Manual slots t slots' t' d x = x

never_ticks : (plan : Plan) (line count : ℕ) (s : Stage) (ns : List Note) (s' : Stage) (d : Ticks plan line count s ns s') → SomeOfTicks Never plan line count s ns s' d → ⊥
never_ticks plan line zero s ns s' d x = x
never_ticks plan line (suc count) s ns s' (mid, first, rest, once, others, told) (inl x) = never_after plan.rounds s.shelf once.ticked mid.shelf mid.run.tower once.rounds x
never_ticks plan line (suc count) s ns s' (mid, first, rest, once, others, told) (inr x) = never_ticks plan line count mid rest s' others x

never_ticking : (over : Bool) (plan : Plan) (line count : ℕ) (s : Stage) (ns : List Note) (s' : Stage) (d : Ticking over plan line count s ns s') → SomeOfTicking Never over plan line count s ns s' d → ⊥
never_ticking true plan line count s ns s' d x = x
never_ticking false plan line count s ns s' d x = never_ticks plan line count s d.told s' d.ticks x

pub never_word : (plan : Plan) (line : ℕ) (event : Event) (s : Stage) (ns : List Note) (s' : Stage) (d : Acts plan line event s ns s') → SomeOfWord Never plan line event s ns s' d → ⊥
never_word plan line (events.Tick count) s ns s' d x = never_ticking (nat_lt 10000000 (now_of s.run.tower + count)) plan line count s ns s' d x
never_word plan line events.Round s ns s' d x = never_round s.shelf s'.shelf s.run.tower s'.run.tower d.does x
never_word plan line (events.In dif node link) s ns s' d x = x
never_word plan line (events.Clock dif node) s ns s' d x = x
never_word plan line (events.Out dif node link) s ns s' d x = x
never_word plan line (events.Free label) s ns s' d x = x
never_word plan line event s ns s' d x = x
