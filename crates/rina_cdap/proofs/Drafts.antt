-- What is kept while fields are read, and the faults that end it.
use Rattle.std.proofs.Common.{◌≡◌, ℕ, ◌-◌, ◌<◌, ◌≤◌, ◌⊎◌, Bool, true, false, cond, inl, inr, List, [], ◌∷◌, ◌++◌, length, get_or, Option, Some, None, is_some, option_map, Result, Ok, Err, refl, sym, ap, subst, ◌∙◌, append_assoc, append-nil, arith}
use Rattle.std.proofs.Math.ListN.{set}
use Rattle.std.proofs.lemmas.List.{length-append}
use Rattle.rina_cdap.specs.declared.error.CdapError.{CdapError}
use Rattle.rina_cdap.specs.declared.error.CdapError.TheVariants.{Memory, Short, BadTag, BadOp, Twice, Missing, BadValue}
use Rattle.rina_cdap.specs.declared.message.Message.{Message}
use Rattle.rina_cdap.specs.declared.reading.Draft.{Draft}
use Rattle.rina_cdap.specs.Messages.{Field, field, byte, be4, IsLawful, IsRow, last_tag, field_text, text, is_response, whole_fault, row_fault, row, fields}
use Rattle.rina_cdap.specs.Reading.{field_at, field_fault, fault_of, fault_behind, IsFault, IsNext, IsCopiedNext, HasCopied, Faulty, Reads, drafted, drafted_fields, draft_fault, Finishes}
use Rattle.rina_cdap.proofs.Rows.{text-append, last_tag-push, row-push, below_row, row_set, content_row}

-- the fields that were read are a row, and the bytes are theirs and those that are left
pub record Kept (d : Draft) (bytes rest : List ℕ) (last : ℕ) : Type 0 where
  pub rises : IsRow 0 (drafted_fields d)
  pub parts : bytes ≡ text (drafted_fields d) ++ rest
  pub ends : last ≡ last_tag 0 (drafted_fields d)

length-drafted : (d : Draft) → length (drafted d) ≡ 12
unfolding drafted
length-drafted d = refl

pub field_put : (old new : Draft) (last tag : ℕ) (content : List ℕ) → IsRow 0 (drafted_fields old) → last ≡ last_tag 0 (drafted_fields old) → last < tag → tag ≤ 12 → drafted new ≡ set (drafted old) (tag - 1) (Some content) → drafted_fields new ≡ drafted_fields old ++ field tag content ∷ []
field_put old new last tag content rises ends above known put =
    let below = below_row 0 tag (drafted_fields old) rises (omega arith) in
    ap (λ (cells : List (Option (List ℕ))). row 1 cells) put ∙ row_set 1 (tag - 1) tag content (drafted old) (omega arith) (omega (arith, length-drafted old)) below

-- a row in front of bytes, and a field behind it that may stand there
record Longer (fs : List Field) (f : Field) (bytes after : List ℕ) : Type 0 where
  rises : IsRow 0 (fs ++ f ∷ [])
  parts : bytes ≡ text (fs ++ f ∷ []) ++ after

longer : (d : Draft) (bytes rest after : List ℕ) (last : ℕ) (f : Field) → Kept d bytes rest last → IsNext last rest f after → Longer (drafted_fields d) f bytes after
longer d bytes rest after last f kept is_next =
    let fs = drafted_fields d in
    let lawful : IsLawful (last_tag 0 fs) f = subst (λ (n : ℕ). IsLawful n f) kept.ends is_next.lawful in
    let pieces : bytes ≡ text (fs ++ f ∷ []) ++ after =
    kept.parts ∙ ap (λ (xs : List ℕ). text fs ++ xs) is_next.parts ∙ sym (append_assoc (text fs) (field_text f) after)
    ∙ ap (λ (xs : List ℕ). text fs ++ xs ++ after) (sym (append-nil (field_text f))) ∙ ap (λ (xs : List ℕ). xs ++ after) (sym (text-append fs (f ∷ []))) in
    record { rises = row-push 0 fs f kept.rises lawful; parts = pieces }

pub kept_on : (old new : Draft) (bytes rest after : List ℕ) (last tag : ℕ) (content : List ℕ) → Kept old bytes rest last → IsNext last rest (field tag content) after → drafted new ≡ set (drafted old) (tag - 1) (Some content) → Kept new bytes after tag
kept_on old new bytes rest after last tag content kept is_next put =
    let fs = drafted_fields old in
    let f : Field = field tag content in
    let more : drafted_fields new ≡ fs ++ f ∷ [] = field_put old new last tag content kept.rises kept.ends is_next.lawful.above is_next.lawful.known put in
    let all = longer old bytes rest after last f kept is_next in
    record { rises = rw more all.rises; parts = rw more all.parts; ends = rw more (sym (last_tag-push 0 fs f)) }

-- a field that is copied stands behind those that were read
copied_behind : (d : Draft) (bytes rest : List ℕ) (last : ℕ) → Kept d bytes rest last → IsCopiedNext last rest → HasCopied bytes
copied_behind d bytes rest last kept copied =
    let fs = drafted_fields d in
    let all = longer d bytes rest copied.rest last copied.front kept copied.next in
    record { front = fs ++ copied.front ∷ []; behind = copied.rest; row = all.rises; parts = all.parts; copied = rw (last_tag-push 0 fs copied.front) copied.copied }

pub shorter : (rest after : List ℕ) (f : Field) → rest ≡ field_text f ++ after → length after < length rest
unfolding field_text
shorter rest after f e = omega (arith, ap length e, length-append (field_text f) after)

-- a fault that is told is not `Memory`
unfoldable IsTold : Option CdapError → Type 0
IsTold (Some Memory) = ⊥
IsTold other = Unit {0}

memory_untold : IsTold (Some Memory) → ⊥
unfolding IsTold
memory_untold h = h

none_told : IsTold None
unfolding IsTold
none_told = tt

short_told : (at : ℕ) → IsTold (Some (Short at))
unfolding IsTold
short_told at = tt

tag_told : (at : ℕ) → IsTold (Some (BadTag at))
unfolding IsTold
tag_told at = tt

op_told : (n : ℕ) → IsTold (Some (BadOp n))
unfolding IsTold
op_told n = tt

twice_told : (tag : ℕ) → IsTold (Some (Twice tag))
unfolding IsTold
twice_told tag = tt

missing_told : (tag : ℕ) → IsTold (Some (Missing tag))
unfolding IsTold
missing_told tag = tt

value_told : (tag : ℕ) → IsTold (Some (BadValue tag))
unfolding IsTold
value_told tag = tt

either_told : (b : Bool) (x y : Option CdapError) → IsTold x → IsTold y → IsTold (cond b x y)
either_told true x y h k = h
either_told false x y h k = k

field_told : (at last : ℕ) (f : Field) → IsTold (field_fault at last f)
unfolding field_fault
field_told at last f = either_told _ _ _ (twice_told f.tag) (either_told _ _ _ (tag_told at) (either_told _ _ _ (op_told _) (either_told _ _ _ none_told (value_told f.tag))))

front_told : (at last : ℕ) (o : Option (Field × List ℕ)) → IsTold (fault_of at last o)
front_told at last None = short_told at
front_told at last (Some x) = field_told at last x.0

whole_told : (op : Option ℕ) (invoke ended : Bool) → IsTold (whole_fault op invoke ended)
whole_told None invoke ended = missing_told 1
whole_told (Some op) invoke ended = either_told invoke _ _ (either_told (is_response op) _ _ (either_told ended _ _ none_told (missing_told 7)) (either_told ended _ _ (value_told 7) none_told)) (missing_told 2)

row_told : (fs : List Field) → IsTold (row_fault fs)
unfolding row_fault
row_told fs = whole_told _ _ _

behind_told : (fs : List Field) (bytes : List ℕ) → IsTold (fault_behind fs bytes)
behind_told fs [] = row_told fs
behind_told fs (b ∷ bytes) = front_told (length (text fs)) (last_tag 0 fs) (field_at (b ∷ bytes))

never_memory : (bytes : List ℕ) → IsFault bytes Memory → ⊥
never_memory bytes h = memory_untold (subst IsTold h.fault (behind_told h.front h.behind))

pub faulty : (bytes : List ℕ) (e : CdapError) → IsFault bytes e → Faulty e bytes
faulty bytes Memory h = absurd (never_memory bytes h)
faulty bytes (Short at) h = h
faulty bytes (BadTag at) h = h
faulty bytes (BadOp n) h = h
faulty bytes (Twice tag) h = h
faulty bytes (Missing tag) h = h
faulty bytes (BadValue tag) h = h

memory_copied : (bytes : List ℕ) (e : CdapError) → e ≡ Memory → HasCopied bytes → Faulty e bytes
memory_copied bytes e is h = rw is h

behind_some : (fs : List Field) (rest : List ℕ) (e : CdapError) → 0 < length rest → fault_of (length (text fs)) (last_tag 0 fs) (field_at rest) ≡ Some e → fault_behind fs rest ≡ Some e
behind_some fs [] e some h = absurd (omega arith)
behind_some fs (b ∷ rest) e some h = h

pub fault_here : (d : Draft) (bytes rest : List ℕ) (at last : ℕ) (e : CdapError) → Kept d bytes rest last → 0 < length rest → at ≡ length bytes - length rest → ((e ≡ Memory) × IsCopiedNext last rest) ⊎ (fault_of at last (field_at rest) ≡ Some e) → Faulty e bytes
fault_here d bytes rest at last e kept some at-is (inl is) = memory_copied bytes e is.0 (copied_behind d bytes rest last kept is.1)
fault_here d bytes rest at last e kept some at-is (inr is) =
    let fs = drafted_fields d in
    let place : at ≡ length (text fs) = omega (arith, ap length kept.parts, length-append (text fs) rest) in
    let here : fault_of (length (text fs)) (last_tag 0 fs) (field_at rest) ≡ Some e = rw (sym place, sym kept.ends) is in
    faulty bytes e (record { front = fs; behind = rest; row = kept.rises; parts = kept.parts; fault = behind_some fs rest e some here })

nothing_left : (rest : List ℕ) → length rest ≡ 0 → rest ≡ []
nothing_left [] e = refl
nothing_left (b ∷ rest) e = absurd (omega arith)

pub all_read : (d : Draft) (bytes rest : List ℕ) (last : ℕ) → Kept d bytes rest last → length rest ≡ 0 → IsRow 0 (drafted_fields d) × (bytes ≡ text (drafted_fields d))
all_read d bytes rest last kept none = (kept.rises, kept.parts ∙ ap (λ (xs : List ℕ). text (drafted_fields d) ++ xs) (nothing_left rest none) ∙ append-nil (text (drafted_fields d)))

-- ---- the end

is_some-map : (o : Option ℕ) (f : ℕ → List ℕ) → is_some (option_map f o) ≡ is_some o
is_some-map None f = refl
is_some-map (Some x) f = refl

first-map : (o : Option ℕ) → option_map (λ (c : List ℕ). get_or c 0 0) (option_map byte o) ≡ o
first-map None = refl
first-map (Some x) = refl

pub row_fault-drafted : (d : Draft) → row_fault (drafted_fields d) ≡ draft_fault d
unfolding row_fault drafted
row_fault-drafted d =
    let op = content_row 1 0 1 (drafted d) refl in
    let invoke = content_row 1 1 2 (drafted d) refl in
    let ended = content_row 1 6 7 (drafted d) refl in
    rw (op, invoke, ended, first-map d.operation, is_some-map d.invoke be4, is_some-map d.result byte) refl

pub finished : (r : Result Message CdapError) (d : Draft) (bytes : List ℕ) → IsRow 0 (drafted_fields d) × (bytes ≡ text (drafted_fields d)) → Finishes r d → Reads r bytes
finished (Ok m) d bytes read h =
    let same : fields m ≡ drafted_fields d = ap (λ (cells : List (Option (List ℕ))). row 1 cells) h.0 in
    record { rises = rw same read.0; whole = rw same (row_fault-drafted d ∙ h.1); spelled = rw same read.1 }
finished (Err e) d bytes read h =
    faulty bytes e (record { front = drafted_fields d; behind = []; row = read.0; parts = read.1 ∙ sym (append-nil (text (drafted_fields d))); fault = row_fault-drafted d ∙ h })
