-- An input inside the grammars is done, unless an allocation fails.
use Rattle.std.proofs.Common.{◌≡◌, ℕ, ◌+◌, ◌-◌, ◌<◌, ◌≤◌, Bool, true, false, cond, not, List, [], ◌∷◌, ◌++◌, length, length-append, map, take, drop, slice_get, Option, Some, None, Result, Ok, Err, ◌⊎◌, inl, inr, refl, sym, ap, ◌∙◌, arith, subst, append_assoc, append-nil}
use Rattle.std.proofs.Math.Dec.{ltb}
use Rattle.std.proofs.lemmas.Bool.{cases_Bool, lt-ltb, ltb-true, ne_eqb}
use Rattle.std.proofs.lemmas.List.{drop-append-le, map-append, take-append-drop, take-append-le}
use Rattle.std.proofs.lemmas.List.Folds.{prefix_len-append}
use Rattle.std.proofs.lemmas.Option.{same_Some}
use Rattle.std.specs.Io.{IsEmptyOrEndsWith}
use Rattle.std.specs.Io.KnownBytes.{Consumes}
use Rattle.std.specs.List.{position_or_len}
use Rattle.bstr.specs.Text.{lines_of, without_terminator}
use Rattle.bstr.proofs.lemmas.LineLemmas.{EndsLine, lines-append}
use Rattle.rina_gen.specs.Input.{input}
use Rattle.rina_gen.specs.Text.{input_text}
use Rattle.rina_report.specs.declared.note.Fault.TheVariants as faults
use Rattle.rina_run.specs.declared.command.Command.{Command}
use Rattle.rina_run.specs.declared.command.Command.TheVariants as commands
use Rattle.rina_run.specs.declared.outcome.Status.{Status}
use Rattle.rina_run.specs.declared.outcome.Status.TheVariants as statuses
use Rattle.rina_run.specs.Reading.{Broken, EndedBy, Ending, Enough, IsFine, Lost, Whole, is_whole, joined}
use Rattle.rina_run.specs.Script.{Script, ended_lines, is_mark, is_open, script, script_in, script_of}
use Rattle.rina_run.specs.Top.{WasRead}
use Rattle.rina_laws.specs.Endings.{Call, GrammaticalRunsAreDone, HasCause, IsCause, IsCauseOf, IsGrammatical, IsNoReadFault, IsNoWriteFault, IsWellGiven}
use Rattle.rina_laws.proofs.Endings.{not_bad, not_both, not_by_rule, runs_end}

-- ---- the script of a front

-- a script that is read of a front: the stack is that of the whole, and the lines are the first of the whole
record IsFront (front whole : Script) : Type 0 where
  stack : whole.stack ≡ front.stack
  behind : List (List ℕ)
  lines : whole.lines ≡ front.lines ++ behind

mark_stays : (ls more : List (List ℕ)) → position_or_len is_mark ls < length ls → position_or_len is_mark (ls ++ more) ≡ position_or_len is_mark ls
mark_stays ls more within =
    prefix_len-append (λ (l : List ℕ). not (is_mark l)) ls more
    ∙ ap (λ (b : Bool). cond b (length ls + position_or_len is_mark more) (position_or_len is_mark ls)) (ne_eqb (position_or_len is_mark ls) (length ls) (λ e. absurd (omega (arith, e, within))))

front_of : (ls more : List (List ℕ)) (front whole : Script) → script_of false ls ≡ Some front → script_of true (ls ++ more) ≡ Some whole → IsFront front whole
unfolding script_of
front_of ls more front whole is all =
    let at = position_or_len is_mark ls in
    elim (cases_Bool (ltb at (length ls))) [
      | inl there ↦
          let within : at < length ls = ltb-true at (length ls) there in
          let stays = mark_stays ls more within in
          let still : ltb at (length (ls ++ more)) ≡ true = lt-ltb at (length (ls ++ more)) (omega (arith, within, length-append ls more)) in
          let own : script_of false ls ≡ Some (script (joined (take at ls)) (map without_terminator (drop (at + 1) ls))) = rw there refl in
          let its : script_of true (ls ++ more) ≡ Some (script (joined (take at ls)) (map without_terminator (drop (at + 1) ls) ++ map without_terminator more)) =
          rw (stays, still, take-append-le at ls more (omega (arith, within)), drop-append-le (at + 1) ls more (omega (arith, within)), map-append without_terminator (drop (at + 1) ls) more) refl in
          let f = same_Some front _ (sym is ∙ own) in
          let w = same_Some whole _ (sym all ∙ its) in
          record {
            stack = ap (λ (s : Script). s.stack) w ∙ sym (ap (λ (s : Script). s.stack) f);
            behind = map without_terminator more;
            lines = ap (λ (s : Script). s.lines) w ∙ ap (λ (lines : List (List ℕ)). lines ++ map without_terminator more) (sym (ap (λ (s : Script). s.lines) f));
          }
      | inr gone ↦
          let none : script_of false ls ≡ None = rw gone refl in
          let h : None ≡ Some front = sym none ∙ is in
          cc
    ]

-- the lines that have their ends are the first of the lines
ended_first : (ls : List (List ℕ)) → (more : List (List ℕ)) × (ls ≡ ended_lines ls ++ more)
unfolding ended_lines
ended_first ls = elim (cases_Bool (is_open (slice_get ls (length ls - 1)))) [
  | inl open_end ↦ (drop (length ls - 1) ls, rw open_end (sym (take-append-drop (length ls - 1) ls)))
  | inr none ↦ ([], rw none (sym (append-nil ls)))
]

ends_line : (xs : List ℕ) → IsEmptyOrEndsWith xs 10 → EndsLine xs
ends_line [] ends = inl refl
ends_line (x ∷ xs) ends = inr (ends (omega arith))

-- what a run used where nothing more was wanted is the front of an input
enough_front : (used behind : List ℕ) (front whole : Script) → IsEmptyOrEndsWith used 10 → script_in false used ≡ Some front → script_in true (used ++ behind) ≡ Some whole → IsFront front whole
enough_front used behind front whole ends is all =
    let first = ended_first (lines_of used) in
    let lines : lines_of (used ++ behind) ≡ ended_lines (lines_of used) ++ (first.0 ++ lines_of behind) =
    lines-append (length used) used behind (omega arith) (ends_line used ends) ∙ ap (λ (ls : List (List ℕ)). ls ++ lines_of behind) first.1 ∙ append_assoc (ended_lines (lines_of used)) first.0 (lines_of behind) in
    front_of (ended_lines (lines_of used)) (first.0 ++ lines_of behind) front whole is (ap (λ (ls : List (List ℕ)). script_of true ls) (sym lines) ∙ all)

-- where reading was not broken off, what was used is the front of the input
fine_front : (bytes read used : List ℕ) (left' : Option (List ℕ)) (ending : Ending) (front whole : Script) → IsFine ending → Consumes (Some bytes) left' read → EndedBy ending left' read used → script_in (is_whole ending) used ≡ Some front → script_in true bytes ≡ Some whole → IsFront front whole
fine_front bytes read used None ending front whole fine consumed ended is all = absurd consumed
fine_front bytes read used (Some rest) Whole front whole fine consumed (over, few, are) is all =
    let same : bytes ≡ used = consumed ∙ ap (λ (bs : List ℕ). read ++ bs) over ∙ append-nil read ∙ sym are in
    let one : whole ≡ front = same_Some whole front (sym all ∙ ap (λ (bs : List ℕ). script_in true bs) same ∙ is) in
    record { stack = ap (λ (s : Script). s.stack) one; behind = []; lines = ap (λ (s : Script). s.lines) one ∙ sym (append-nil front.lines) }
fine_front bytes read used (Some rest) Enough front whole fine consumed (few, enough) is all =
    let same : bytes ≡ used ++ (enough.behind ++ rest) = consumed ∙ ap (λ (bs : List ℕ). bs ++ rest) enough.are ∙ append_assoc used enough.behind rest in
    enough_front used (enough.behind ++ rest) front whole enough.ended is (ap (λ (bs : List ℕ). script_in true bs) (sym same) ∙ all)
fine_front bytes read used (Some rest) (Broken fault) front whole fine consumed ended is all = absurd fine
fine_front bytes read used (Some rest) Lost front whole fine consumed ended is all = absurd fine

-- ---- an input inside the grammars

-- no more is read than there is
not_large : (bytes read used : List ℕ) (left' : Option (List ℕ)) (ending : Ending) → length bytes ≤ 16777216 → Consumes (Some bytes) left' read → ending ≡ Broken faults.TooLarge → EndedBy ending left' read used → ⊥
not_large bytes read used None ending few consumed is ended = consumed
not_large bytes read used (Some rest) ending few consumed is ended =
    let many = subst (λ (e : Ending). EndedBy e (Some rest) read used) is ended in
    omega (arith, few, many.0, ap length consumed, length-append read rest)

done_by : (known : List ℕ → Bool) (bytes read used : List ℕ) (left' : Option (List ℕ)) (ending : Ending) (sc : Option Script) (s : Status) → IsGrammatical known bytes → Consumes (Some bytes) left' read → EndedBy ending left' read used → script_in (is_whole ending) used ≡ sc → IsCause known ending sc s
    → (s ≡ statuses.Done) ⊎ (s ≡ statuses.ReadFault)
done_by known bytes read used left' ending (Some sc) statuses.Done g consumed ended is cause = inl refl
done_by known bytes read used left' ending (Some sc) statuses.ReadFault g consumed ended is cause = inr refl
done_by known bytes read used left' ending None statuses.ReadFault g consumed ended is cause = inr refl
done_by known bytes read used left' ending (Some sc) statuses.TooLarge g consumed ended is cause = absurd (not_large bytes read used left' ending g.few consumed cause.0 ended)
done_by known bytes read used left' ending None statuses.TooLarge g consumed ended is cause = absurd (not_large bytes read used left' ending g.few consumed cause.0 ended)
done_by known bytes read used left' ending (Some sc) statuses.NotToml g consumed ended is (fine, refused) =
    let front = fine_front bytes read used left' ending sc g.script fine consumed ended is g.is_its in
    let (plan, reads, all) = g.accepted in
    absurd (not_both known plan sc.stack (rw (sym front.stack) reads) refused)
done_by known bytes read used left' ending (Some sc) (statuses.StackRule n item) g consumed ended is (fine, refused) =
    let front = fine_front bytes read used left' ending sc g.script fine consumed ended is g.is_its in
    let (plan, reads, all) = g.accepted in
    absurd (not_by_rule known plan n item sc.stack (rw (sym front.stack) reads) refused)
done_by known bytes read used left' ending (Some sc) (statuses.Schedule line n field) g consumed ended is (fine, (plan', reads', bad, first, is_bad)) =
    let front = fine_front bytes read used left' ending sc g.script fine consumed ended is g.is_its in
    let (plan, reads, all) = g.accepted in
    absurd (not_bad sc.lines g.script.lines front.behind bad first front.lines all)
done_by known bytes read used left' ending sc s g consumed ended is cause = absurd cause

read_done : (known : List ℕ → Bool) (bytes : List ℕ) (left' : Option (List ℕ)) (s : Status) → IsGrammatical known bytes → WasRead (Some bytes) left' (λ ending sc. IsCause known ending sc s) → (s ≡ statuses.Done) ⊎ (s ≡ statuses.ReadFault)
read_done known bytes left' s g w = done_by known bytes w.read.bytes w.used left' w.ending (script_in (is_whole w.ending) w.used) s g w.read.read w.read.ended refl w.outcome

given_done : (known : List ℕ → Bool) (command : Result Command ℕ) (left left' : Option (List ℕ)) (s : Status) → IsWellGiven known command left → IsCauseOf known command left left' s → (s ≡ statuses.Done) ⊎ (s ≡ statuses.ReadFault)
given_done known (Err word) left left' s given cause = absurd given
given_done known (Ok (commands.Show n)) left left' s given cause = inl cause
given_done known (Ok (commands.Gen n)) left left' s given (behind, w) = read_done known (input_text (input n)) behind s given w
given_done known (Ok commands.Run) left left' s (bytes, is, g) w = read_done known bytes left' s g (subst (λ (l : Option (List ℕ)). WasRead l left' (λ ending sc. IsCause known ending sc s)) is w)
given_done known (Ok commands.Check) left left' s (bytes, is, g) w = read_done known bytes left' s g (subst (λ (l : Option (List ℕ)). WasRead l left' (λ ending sc. IsCause known ending sc s)) is w)

turned : (b odd : Bool) → b ≡ odd → b ≡ not odd → ⊥
turned true true same turns = cc
turned true false same turns = cc
turned false true same turns = cc
turned false false same turns = cc

done_for : (c : Call) (s : Status) → HasCause c s → IsWellGiven c.known c.command c.left → IsNoReadFault c → IsNoWriteFault c → (s ≡ statuses.Done) ⊎ (s ≡ statuses.Memory)
done_for c statuses.Memory cause given reads writes = inr refl
done_for c statuses.Done cause given reads writes = inl refl
done_for c statuses.WriteFault cause given reads writes = absurd (turned c.writes'.odd c.writes.odd writes.1 cause.1)
done_for c statuses.ReadFault cause given reads writes = absurd (turned c.reads'.odd c.reads.odd reads.1 cause.0.1)
done_for c s cause given reads writes = elim (given_done c.known c.command c.left c.left' s given cause.2) [
  | inl is ↦ inl is
  | inr is ↦ cc
]

pub grammatical_runs_are_done : GrammaticalRunsAreDone
grammatical_runs_are_done c s e given reads writes = done_for c s (runs_end c s e) given reads writes
