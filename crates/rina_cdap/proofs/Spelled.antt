-- Bytes begin with one row of fields only: so they spell one message, or have one first fault.
use Rattle.std.proofs.Common.{◌≡◌, ℕ, ◌+◌, ◌^◌, ◌<◌, ◌≤◌, List, [], ◌∷◌, ◌++◌, length, Option, Some, None, option_map, Result, Ok, Err, IfOk, refl, sym, ap, subst, ◌∙◌, append_assoc, append-nil, arith}
use Rattle.std.specs.Int.{w32, w64, from_be_bytes}
use Rattle.std.proofs.lemmas.Nat.{from_be_bytes-to_be_bytes_4, from_be_bytes-to_be_bytes_8}
use Rattle.rina_cdap.specs.declared.error.CdapError.{CdapError}
use Rattle.rina_cdap.specs.declared.error.CdapError.TheVariants.{Memory, Short, BadTag, BadOp, Twice, Missing, BadValue}
use Rattle.rina_cdap.specs.declared.message.Message.{Message}
use Rattle.rina_cdap.specs.Messages.{Field, field, byte, be4, be8, IsLawful, IsRow, last_tag, field_text, text, row_fault, row, contents, fields, Spells, IfThere, InRange}
use Rattle.rina_cdap.specs.Reading.{field_at, fault_of, fault_behind, IsFault, HasCopied, Reads, Gives}
use Rattle.rina_cdap.proofs.Fields.{form_short, field_again, lawful_fine}

-- no field that may stand behind one of tag `last` is in front
abbrev Stops : ℕ → List ℕ → Type 0
Stops last bytes = (f : Field) (rest : List ℕ) → bytes ≡ field_text f ++ rest → IsLawful last f → ⊥

abbrev taken : Field → List ℕ → Option (Field × List ℕ)
taken f rest = Some (f, rest)

taken_same : (f g : Field) (r s : List ℕ) → taken f r ≡ taken g s → (f ≡ g) × (r ≡ s)
taken_same f g r s e =
    let pair = inside (f, r) (g, s) e in
    (ap (λ (x : Field × List ℕ). x.0) pair, ap (λ (x : Field × List ℕ). x.1) pair)
  where
    inside : (x y : Field × List ℕ) → Some x ≡ Some y → x ≡ y
    inside x y h = cc

one_field : (f g : Field) (r s : List ℕ) → length f.content < 2 ^ 16 → length g.content < 2 ^ 16 → field_text f ++ r ≡ field_text g ++ s → (f ≡ g) × (r ≡ s)
one_field f g r s fs gs e = taken_same f g r s (sym (field_again f r fs) ∙ ap field_at e ∙ field_again g s gs)

pub record Same (fs gs : List Field) (r s : List ℕ) : Type 0 where
  pub front : fs ≡ gs
  pub behind : r ≡ s

short : (last : ℕ) (f : Field) → IsLawful last f → length f.content < 2 ^ 16
short last f h = form_short f.tag f.content h.form

-- two rows in front of the same bytes, each as long as may be, are one row
one_row : (last : ℕ) (fs gs : List Field) (r s : List ℕ) → IsRow last fs → IsRow last gs → Stops (last_tag last fs) r → Stops (last_tag last gs) s → text fs ++ r ≡ text gs ++ s → Same fs gs r s
one_row last [] [] r s hf hg stop_r stop_s e = record { front = refl; behind = e }
one_row last [] (g ∷ gs) r s hf hg stop_r stop_s e = absurd (stop_r g (text gs ++ s) (e ∙ append_assoc (field_text g) (text gs) s) hg.0)
one_row last (f ∷ fs) [] r s hf hg stop_r stop_s e = absurd (stop_s f (text fs ++ r) (sym e ∙ append_assoc (field_text f) (text fs) r) hf.0)
one_row last (f ∷ fs) (g ∷ gs) r s hf hg stop_r stop_s e =
    let cut : field_text f ++ (text fs ++ r) ≡ field_text g ++ (text gs ++ s) = sym (append_assoc (field_text f) (text fs) r) ∙ e ∙ append_assoc (field_text g) (text gs) s in
    let one = one_field f g (text fs ++ r) (text gs ++ s) (short last f hf.0) (short last g hg.0) cut in
    let stop : Stops (last_tag f.tag gs) s = subst (λ (h : Field). Stops (last_tag h.tag gs) s) (sym one.0) stop_s in
    let more : IsRow f.tag gs = subst (λ (h : Field). IsRow h.tag gs) (sym one.0) hg.1 in
    let rest = one_row f.tag fs gs r s hf.1 more stop_r stop one.1 in
    record { front = ap (λ (h : Field). h ∷ fs) one.0 ∙ ap (λ (hs : List Field). g ∷ hs) rest.front; behind = rest.behind }

nothing_stops : (last : ℕ) → Stops last []
unfolding field_text
nothing_stops last f rest e h = absurd cc

fault_stops : (fs : List Field) (behind : List ℕ) (e : CdapError) → fault_behind fs behind ≡ Some e → Stops (last_tag 0 fs) behind
fault_stops fs [] e fault = nothing_stops (last_tag 0 fs)
fault_stops fs (b ∷ bytes) e fault = λ f rest parts h.
    let here : field_at (b ∷ bytes) ≡ taken f rest = ap field_at parts ∙ field_again f rest (short (last_tag 0 fs) f h) in
    let none : fault_of (length (text fs)) (last_tag 0 fs) (field_at (b ∷ bytes)) ≡ None = ap (λ (o : Option (Field × List ℕ)). fault_of (length (text fs)) (last_tag 0 fs) o) here ∙ lawful_fine (length (text fs)) (last_tag 0 fs) f h in
    absurd (some_is_none e (sym fault ∙ none))
  where
    some_is_none : (e : CdapError) → Some e ≡ None → ⊥
    some_is_none e h = cc

-- bytes have one first fault
pub one_fault : (bytes : List ℕ) (d e : CdapError) → IsFault bytes d → IsFault bytes e → d ≡ e
one_fault bytes d e p q =
    let same = one_row 0 p.front q.front p.behind q.behind p.row q.row (fault_stops p.front p.behind d p.fault) (fault_stops q.front q.behind e q.fault) (sym p.parts ∙ q.parts) in
    one d e (sym p.fault ∙ ap (λ (fs : List Field). fault_behind fs p.behind) same.front ∙ ap (λ (xs : List ℕ). fault_behind q.front xs) same.behind ∙ q.fault)
  where
    one : (d e : CdapError) → Some d ≡ Some e → d ≡ e
    one d e h = cc

-- and none where they spell a message
pub no_fault : (m : Message) (bytes : List ℕ) (e : CdapError) → Spells m bytes → IsFault bytes e → ⊥
no_fault m bytes e p q =
    let whole : text (fields m) ++ [] ≡ text q.front ++ q.behind = append-nil (text (fields m)) ∙ sym p.spelled ∙ q.parts in
    let same = one_row 0 (fields m) q.front [] q.behind p.rises q.row (nothing_stops (last_tag 0 (fields m))) (fault_stops q.front q.behind e q.fault) whole in
    none e (sym p.whole ∙ ap row_fault same.front ∙ ap (λ (xs : List ℕ). fault_behind q.front xs) same.behind ∙ q.fault)
  where
    none : (e : CdapError) → None ≡ Some e → ⊥
    none e h = cc

-- ---- one message

abbrev Cells : Type 0
Cells = List (Option (List ℕ))

first_tag : (t : ℕ) (cells : Cells) (f : Field) (fs : List Field) → row t cells ≡ f ∷ fs → t ≤ f.tag
first_tag t [] f fs e = absurd cc
first_tag t (None ∷ cells) f fs e = omega (arith, first_tag (t + 1) cells f fs e)
first_tag t (Some c ∷ cells) f fs e = omega (arith, ap (λ (x : Field). x.tag) (head (field t c) f (row (t + 1) cells) fs e))
  where
    head : (f g : Field) (fs gs : List Field) → f ∷ fs ≡ g ∷ gs → f ≡ g
    head f g fs gs h = cc

field_same : (t : ℕ) (c d : List ℕ) (fs gs : List Field) → field t c ∷ fs ≡ field t d ∷ gs → (c ≡ d) × (fs ≡ gs)
field_same t c d fs gs e =
    let both = parts (field t c) (field t d) fs gs e in
    (ap (λ (x : Field). x.content) both.0, both.1)
  where
    parts : (f g : Field) (fs gs : List Field) → f ∷ fs ≡ g ∷ gs → (f ≡ g) × (fs ≡ gs)
    parts f g fs gs h = (cc, cc)

one_content : (t : ℕ) (xs ys : Cells) → length xs ≡ length ys → row t xs ≡ row t ys → xs ≡ ys
one_content t [] [] len e = refl
one_content t [] (y ∷ ys) len e = absurd (omega arith)
one_content t (x ∷ xs) [] len e = absurd (omega arith)
one_content t (None ∷ xs) (None ∷ ys) len e = ap (λ (cells : Cells). None ∷ cells) (one_content (t + 1) xs ys (omega arith) e)
one_content t (None ∷ xs) (Some d ∷ ys) len e = absurd (omega (arith, first_tag (t + 1) xs (field t d) (row (t + 1) ys) e))
one_content t (Some c ∷ xs) (None ∷ ys) len e = absurd (omega (arith, first_tag (t + 1) ys (field t c) (row (t + 1) xs) (sym e)))
one_content t (Some c ∷ xs) (Some d ∷ ys) len e =
    let same = field_same t c d (row (t + 1) xs) (row (t + 1) ys) e in
    ap (λ (x : List ℕ). Some x ∷ xs) same.0 ∙ ap (λ (cells : Cells). Some d ∷ cells) (one_content (t + 1) xs ys (omega arith) same.1)

four_same : (m n : ℕ) → m < 2 ^ 32 → n < 2 ^ 32 → be4 m ≡ be4 n → m ≡ n
unfolding be4
four_same m n ms ns e = sym (from_be_bytes-to_be_bytes_4 m ms) ∙ ap (λ (xs : List ℕ). from_be_bytes w32 xs) e ∙ from_be_bytes-to_be_bytes_4 n ns

eight_same : (m n : ℕ) → m < 2 ^ 64 → n < 2 ^ 64 → be8 m ≡ be8 n → m ≡ n
unfolding be8
eight_same m n ms ns e = sym (from_be_bytes-to_be_bytes_8 m ms) ∙ ap (λ (xs : List ℕ). from_be_bytes w64 xs) e ∙ from_be_bytes-to_be_bytes_8 n ns

byte_same : (m n : ℕ) → byte m ≡ byte n → m ≡ n
byte_same m n e = cc

there_same : (f : ℕ → List ℕ) (bound : ℕ) → ((m n : ℕ) → m < bound → n < bound → f m ≡ f n → m ≡ n) → (x y : Option ℕ) → IfThere x bound → IfThere y bound → option_map f x ≡ option_map f y → x ≡ y
there_same f bound one None None hx hy e = refl
there_same f bound one None (Some n) hx hy e = absurd cc
there_same f bound one (Some m) None hx hy e = absurd cc
there_same f bound one (Some m) (Some n) hx hy e = ap (λ (k : ℕ). Some k) (one m n hx hy (inside (f m) (f n) e))
  where
    inside : (a b : List ℕ) → Some a ≡ Some b → a ≡ b
    inside a b h = cc

cells_same : (x y : Option (List ℕ)) (xs ys : Cells) → x ∷ xs ≡ y ∷ ys → (x ≡ y) × (xs ≡ ys)
cells_same x y xs ys e = (cc, cc)

some_same : (a b : List ℕ) → Some a ≡ Some b → a ≡ b
some_same a b e = cc

made : ℕ → ℕ → Option (List ℕ) → Option (List ℕ) → Option ℕ → Option (List ℕ) → Option ℕ → Option (List ℕ) → Option (List ℕ) → Option (List ℕ) → Option ℕ → Option ℕ → Message
made a b c d e f g h i j k l = record { operation = a; invoke = b; class = c; name = d; instance = e; value = f; result = g; reason = h; source_name = i; destination_name = j; destination_address = k; source_address = l }

abbrev made_of : Message → Message
made_of m = made m.operation m.invoke m.class m.name m.instance m.value m.result m.reason m.source_name m.destination_name m.destination_address m.source_address

made_again : (m : Message) → made_of m ≡ m
unfolding made
made_again m = refl

message_same : (m n : Message) → m.operation ≡ n.operation → m.invoke ≡ n.invoke → m.class ≡ n.class → m.name ≡ n.name → m.instance ≡ n.instance → m.value ≡ n.value → m.result ≡ n.result → m.reason ≡ n.reason → m.source_name ≡ n.source_name → m.destination_name ≡ n.destination_name → m.destination_address ≡ n.destination_address → m.source_address ≡ n.source_address → m ≡ n
message_same m n a b c d e f g h i j k l =
    let same : made_of m ≡ made_of n = cc in
    sym (made_again m) ∙ same ∙ made_again n

-- messages with the same contents are one
pub one_of_contents : (m n : Message) → InRange m → InRange n → contents m ≡ contents n → m ≡ n
unfolding contents
one_of_contents m n hm hn e =
    let s1 = cells_same _ _ _ _ e in
    let s2 = cells_same _ _ _ _ s1.1 in
    let s3 = cells_same _ _ _ _ s2.1 in
    let s4 = cells_same _ _ _ _ s3.1 in
    let s5 = cells_same _ _ _ _ s4.1 in
    let s6 = cells_same _ _ _ _ s5.1 in
    let s7 = cells_same _ _ _ _ s6.1 in
    let s8 = cells_same _ _ _ _ s7.1 in
    let s9 = cells_same _ _ _ _ s8.1 in
    let s10 = cells_same _ _ _ _ s9.1 in
    let s11 = cells_same _ _ _ _ s10.1 in
    let s12 = cells_same _ _ _ _ s11.1 in
    message_same m n (byte_same m.operation n.operation (some_same _ _ s1.0)) (four_same m.invoke n.invoke hm.invoke hn.invoke (some_same _ _ s2.0)) s3.0 s4.0
    (there_same be8 (2 ^ 64) eight_same m.instance n.instance hm.instance hn.instance s5.0) s6.0
    (there_same byte (2 ^ 8) (λ a b _ _ h. byte_same a b h) m.result n.result hm.result hn.result s7.0) s8.0 s9.0 s10.0
    (there_same be4 (2 ^ 32) four_same m.destination_address n.destination_address hm.destination hn.destination s11.0) (there_same be4 (2 ^ 32) four_same m.source_address n.source_address hm.source hn.source s12.0)

length-contents : (m : Message) → length (contents m) ≡ 12
unfolding contents
length-contents m = refl

pub one_message : (m n : Message) (bytes : List ℕ) → InRange m → InRange n → Spells m bytes → Spells n bytes → m ≡ n
one_message m n bytes hm hn p q =
    let whole : text (fields m) ++ [] ≡ text (fields n) ++ [] = ap (λ (xs : List ℕ). xs ++ []) (sym p.spelled ∙ q.spelled) in
    let same = one_row 0 (fields m) (fields n) [] [] p.rises q.rises (nothing_stops (last_tag 0 (fields m))) (nothing_stops (last_tag 0 (fields n))) whole in
    one_of_contents m n hm hn (one_content 1 (contents m) (contents n) (length-contents m ∙ sym (length-contents n)) same.front)

-- ---- what reading gives

abbrev answered : Message → Result Message CdapError
answered m = Ok m

pub only : (r : Result Message CdapError) (bytes : List ℕ) (ranges : (m : Message) → r ≡ Ok m → InRange m) → Reads r bytes → (m : Message) → InRange m → Spells m bytes → Gives r (Ok m)
only (Ok n) bytes ranges h m hm spelled = ap answered (one_message m n bytes hm (ranges n refl) spelled h)
only (Err Memory) bytes ranges h m hm spelled = tt
only (Err (Short at)) bytes ranges h m hm spelled = absurd (no_fault m bytes (Short at) spelled h)
only (Err (BadTag at)) bytes ranges h m hm spelled = absurd (no_fault m bytes (BadTag at) spelled h)
only (Err (BadOp n)) bytes ranges h m hm spelled = absurd (no_fault m bytes (BadOp n) spelled h)
only (Err (Twice tag)) bytes ranges h m hm spelled = absurd (no_fault m bytes (Twice tag) spelled h)
only (Err (Missing tag)) bytes ranges h m hm spelled = absurd (no_fault m bytes (Missing tag) spelled h)
only (Err (BadValue tag)) bytes ranges h m hm spelled = absurd (no_fault m bytes (BadValue tag) spelled h)

abbrev refused : CdapError → Result Message CdapError
refused e = Err e

pub first_fault : (r : Result Message CdapError) (bytes : List ℕ) → Reads r bytes → (e : CdapError) → IsFault bytes e → Gives r (Err e)
first_fault (Ok n) bytes h e fault = absurd (no_fault n bytes e h fault)
first_fault (Err Memory) bytes h e fault = tt
first_fault (Err (Short at)) bytes h e fault = ap refused (one_fault bytes e (Short at) fault h)
first_fault (Err (BadTag at)) bytes h e fault = ap refused (one_fault bytes e (BadTag at) fault h)
first_fault (Err (BadOp n)) bytes h e fault = ap refused (one_fault bytes e (BadOp n) fault h)
first_fault (Err (Twice tag)) bytes h e fault = ap refused (one_fault bytes e (Twice tag) fault h)
first_fault (Err (Missing tag)) bytes h e fault = ap refused (one_fault bytes e (Missing tag) fault h)
first_fault (Err (BadValue tag)) bytes h e fault = ap refused (one_fault bytes e (BadValue tag) fault h)

-- with no field that is copied the first fault is told, and not want of memory
pub told_early : (r : Result Message CdapError) (bytes : List ℕ) → Reads r bytes → (e : CdapError) → IsFault bytes e → (HasCopied bytes → ⊥) → r ≡ Err e
told_early (Ok n) bytes h e fault none = absurd (no_fault n bytes e h fault)
told_early (Err Memory) bytes h e fault none = absurd (none h)
told_early (Err (Short at)) bytes h e fault none = sym (ap refused (one_fault bytes e (Short at) fault h))
told_early (Err (BadTag at)) bytes h e fault none = sym (ap refused (one_fault bytes e (BadTag at) fault h))
told_early (Err (BadOp n)) bytes h e fault none = sym (ap refused (one_fault bytes e (BadOp n) fault h))
told_early (Err (Twice tag)) bytes h e fault none = sym (ap refused (one_fault bytes e (Twice tag) fault h))
told_early (Err (Missing tag)) bytes h e fault none = sym (ap refused (one_fault bytes e (Missing tag) fault h))
told_early (Err (BadValue tag)) bytes h e fault none = sym (ap refused (one_fault bytes e (BadValue tag) fault h))

pub ranged : (r : Result Message CdapError) → IfOk r (λ m. InRange m) → (m : Message) → r ≡ Ok m → InRange m
ranged (Ok n) h m e = subst InRange (inside n m e) h
  where
    inside : (x y : Message) → answered x ≡ answered y → x ≡ y
    inside x y e = cc
ranged (Err d) h m e = absurd cc
