-- The same of readers of one field, and of the last fields of a note.
use Rattle.std.proofs.Common.{◌≡◌, ℕ, suc, ◌+◌, ◌≤◌, Bool, true, false, List, [], ◌∷◌, ◌++◌, codes, Option, Some, None, Result, Ok, Err, refl, sym, ap, subst, ◌∙◌, arith}
use Rattle.std.specs.Fmt.{decimal}
use Rattle.std.specs.Str.{bytes_eq}
use Rattle.rina_base.specs.Names.{is_name_byte, length_at, bad_at, name_at, slash_in, app_at}
use Rattle.rina_base.specs.Names.{bytes_at as name_bytes_at}
use Rattle.rina_base.specs.ObjectNames.{is_object_name, object_name_of}
use Rattle.rina_base.specs.Traverse.{◌>>=◌}
use Rattle.rina_base.specs.declared.number.FlowName.{FlowName}
use Rattle.rina_base.specs.declared.number.Key.{Key}
use Rattle.rina_base.specs.declared.number.Num.{Num}
use Rattle.rina_base.specs.declared.pdu.PduKind.{PduKind}
use Rattle.rina_base.specs.declared.pdu.PduKind.TheVariants.{Piece}
use Rattle.rina_schedule.specs.Bytes.{printed_of}
use Rattle.rina_schedule.specs.Fields.{name_or_bad}
use Rattle.rina_schedule.specs.Gives.{or_bad, guard}
use Rattle.rina_schedule.specs.Ranges.{IsName, IsApp}
use Rattle.rina_schedule.specs.Spelling.{spelling}
use Rattle.rina_schedule.specs.declared.error.LineError.{LineError}
use Rattle.rina_schedule.specs.declared.error.LineError.TheVariants as errors
use Rattle.rina_report.specs.declared.state.PortNote.{PortNote}
use Rattle.rina_report.specs.Fields.{max32, max64, numeral_of, parts_of, pair_of, triple_of, port_of, kind_of, truth_of, field_at, number_at, num_at, flow_at, key_at, port_at, truth_at, name_field_at, app_field_at, object_at, bytes_at, word_at, last_number_at, last_two_at, last_num_at, last_port_at, last_truth_at, last_bytes_at}
use Rattle.rina_report.specs.ReadNotes.{named_at}
use Rattle.rina_report.specs.Values.{num_text, flow_text, port_text, truth_text}
use Rattle.rina_report.proofs.Parts.{triple_back}
use Rattle.rina_report.proofs.Readers.{number_back, num_back, flow_back, port_back, truth_back, name_back, app_back, object_back, bytes_back}
use Rattle.rina_report.proofs.Seen.{Fields, Refuses, err_same, no_err, err_also, Reads, Fails, Known, Settled, seen_more, never, chosen, end_then, made, given}

-- ---- fields

pub found_refuses : {X : Type 0} (n : ℕ) (d : LineError) (o : Option X) (e : LineError) → Refuses n d → or_bad d o ≡ Err e → Refuses n e
found_refuses n d (Some x) e bad h = no_err x e h
found_refuses n d None e bad h = subst (λ (x : LineError). Refuses n x) (err_same d e h) bad

name_refuses : {X E : Type 0} (n : ℕ) (r : Result X E) (e : LineError) → name_or_bad n r ≡ Err e → Refuses n e
name_refuses n (Ok x) e h = no_err x e h
name_refuses n (Err d) e h = subst (λ (x : LineError). Refuses n x) (err_same (errors.BadName n) e h) refl

refuses_then : {X Y : Type 0} (n : ℕ) (r : Result X LineError) (g : X → Result Y LineError) → ((e : LineError) → r ≡ Err e → Refuses n e) → ((x : X) (e : LineError) → g x ≡ Err e → Refuses n e)
    → (e : LineError) → (r >>= g) ≡ Err e → Refuses n e
refuses_then n (Ok x) g bad more e h = more x e h
refuses_then n (Err d) g bad more e h = bad e (err_also d e (err_same d e h))

port_refuses : (n : ℕ) (text : List ℕ) (e : LineError) → port_of n text ≡ Err e → Refuses n e
unfolding port_of
port_refuses n text e h =
    let fac = name_at (parts_of 47 text).0 in let rest = (parts_of 47 text).1 in let node = name_at (parts_of 47 rest).0 in let x = numeral_of max32 (parts_of 47 rest).1 in
    refuses_then n (name_or_bad n fac) _ (λ d k. name_refuses n fac d k) (λ _. refuses_then n (name_or_bad n node) _ (λ d k. name_refuses n node d k) (λ _.
    refuses_then n (or_bad (errors.BadNumber n) x) _ (λ d k. found_refuses n (errors.BadNumber n) x d refl k) (λ y d k. no_err _ d k))) e h

-- a field that gives a value, and then the fields behind it
module _ {X Y A : Type 0} (n : ℕ) (read : List ℕ → Result X LineError) (make : X → Y) (f : Y × Fields → Result A LineError) where
  abbrev taken : Fields → Result (Y × Fields) LineError
  taken t = field_at n t >>= λ w. read w.0 >>= λ x. Ok (make x, w.1)

  by_value : (r : Result X LineError) → ((e : LineError) → r ≡ Err e → Refuses n e) → ((y : Y) → Settled (n + 1) (λ (t : Fields). f (y, t))) → Known (n + 1) (λ (t : Fields). (r >>= λ x. Ok (make x, t)) >>= f)
  by_value (Ok x) bad rest = (rest (make x)).known
  by_value (Err d) bad rest = never n d (bad d refl)

  value_then : ((w : List ℕ) (e : LineError) → read w ≡ Err e → Refuses n e) → ((y : Y) → Settled (n + 1) (λ (t : Fields). f (y, t))) → (s : List ℕ) (y : Y) → ((t : Fields) → taken (s ∷ t) ≡ Ok (y, t))
      → Settled n (λ (t : Fields). taken t >>= f)
  value_then bad rest s y is = chosen n (λ t. taken t >>= f) refl (λ w. by_value (read w) (bad w) rest)
      (record { fields = s ∷ (rest y).reads.fields; value = (rest y).reads.value; is = ap (λ (r : Result (Y × Fields) LineError). r >>= f) (is (rest y).reads.fields) ∙ (rest y).reads.is })

pub number_then : {A : Type 0} (max n : ℕ) (f : ℕ × Fields → Result A LineError) → max ≤ max64 → ((y : ℕ) → Settled (n + 1) (λ (t : Fields). f (y, t))) → Settled n (λ (t : Fields). number_at max n t >>= f)
unfolding number_at
number_then max n f small rest = value_then n (λ w. or_bad (errors.BadNumber n) (numeral_of max w)) (λ x. x) f (λ w e h. found_refuses n (errors.BadNumber n) (numeral_of max w) e refl h) rest (decimal 0) 0 (λ t. number_back max n 0 t small (omega arith))

pub num_then : {A : Type 0} (n : ℕ) (f : Num × Fields → Result A LineError) → ((y : Num) → Settled (n + 1) (λ (t : Fields). f (y, t))) → Settled n (λ (t : Fields). num_at n t >>= f)
unfolding num_at
num_then n f rest = (let num : Num = record { cep = 0; seq = 0 } in
    value_then n (λ w. or_bad (errors.BadNumber n) (pair_of max64 w)) (λ x. record { cep = x.0; seq = x.1 }) f (λ w e h. found_refuses n (errors.BadNumber n) (pair_of max64 w) e refl h) rest (num_text num) num (λ t. num_back n num t (omega arith, omega arith)))

pub flow_then : {A : Type 0} (n : ℕ) (f : FlowName × Fields → Result A LineError) → ((y : FlowName) → Settled (n + 1) (λ (t : Fields). f (y, t))) → Settled n (λ (t : Fields). flow_at n t >>= f)
unfolding flow_at
flow_then n f rest = (let flow : FlowName = record { src = 0; tick = 0; count = 0 } in
    value_then n (λ w. or_bad (errors.BadNumber n) (triple_of w)) (λ x. record { src = x.0; tick = x.1; count = x.2 }) f (λ w e h. found_refuses n (errors.BadNumber n) (triple_of w) e refl h) rest (flow_text flow) flow (λ t. flow_back n flow t (omega arith, omega arith, omega arith)))

some_name : IsName (codes "a")
unfolding name_at length_at name_bytes_at bad_at is_name_byte
some_name = refl

some_app : IsApp (codes "a")
unfolding app_at slash_in name_at length_at name_bytes_at bad_at is_name_byte
some_app = refl

pub port_then : {A : Type 0} (n : ℕ) (f : PortNote × Fields → Result A LineError) → ((y : PortNote) → Settled (n + 1) (λ (t : Fields). f (y, t))) → Settled n (λ (t : Fields). port_at n t >>= f)
unfolding port_at
port_then n f rest = (let port : PortNote = record { fac = codes "a"; node = codes "a"; n = 0 } in
    value_then n (port_of n) (λ x. x) f (port_refuses n) rest (port_text port) port (λ t. port_back n port t (some_name, some_name, omega arith)))

truth_then : {A : Type 0} (n : ℕ) (f : Bool × Fields → Result A LineError) → ((y : Bool) → Settled (n + 1) (λ (t : Fields). f (y, t))) → Settled n (λ (t : Fields). truth_at n t >>= f)
unfolding truth_at
truth_then n f rest = value_then n (λ w. or_bad (errors.BadNumber n) (truth_of w)) (λ x. x) f (λ w e h. found_refuses n (errors.BadNumber n) (truth_of w) e refl h) rest (truth_text true) true (λ t. truth_back n true t)

pub name_then : {A : Type 0} (n : ℕ) (f : List ℕ × Fields → Result A LineError) → ((y : List ℕ) → Settled (n + 1) (λ (t : Fields). f (y, t))) → Settled n (λ (t : Fields). name_field_at n t >>= f)
unfolding name_field_at
name_then n f rest = value_then n (λ w. name_or_bad n (name_at w)) (λ x. x) f (λ w e h. name_refuses n (name_at w) e h) rest (codes "a") (codes "a") (λ t. name_back n (codes "a") t some_name)

pub app_then : {A : Type 0} (n : ℕ) (f : List ℕ × Fields → Result A LineError) → ((y : List ℕ) → Settled (n + 1) (λ (t : Fields). f (y, t))) → Settled n (λ (t : Fields). app_field_at n t >>= f)
unfolding app_field_at
app_then n f rest = value_then n (λ w. name_or_bad n (app_at w)) (λ x. x) f (λ w e h. name_refuses n (app_at w) e h) rest (codes "a") (codes "a") (λ t. app_back n (codes "a") t some_app)

some_object : is_object_name (codes "/") ≡ true
unfolding is_object_name
some_object = refl

pub object_then : {A : Type 0} (n : ℕ) (f : List ℕ × Fields → Result A LineError) → ((y : List ℕ) → Settled (n + 1) (λ (t : Fields). f (y, t))) → Settled n (λ (t : Fields). object_at n t >>= f)
unfolding object_at
object_then n f rest = value_then n (λ w. or_bad (errors.BadName n) (object_name_of w)) (λ x. x) f (λ w e h. found_refuses n (errors.BadName n) (object_name_of w) e refl h) rest (codes "/") (codes "/") (λ t. object_back n (codes "/") t some_object)

bytes_then : {A : Type 0} (n : ℕ) (f : List ℕ × Fields → Result A LineError) → ((y : List ℕ) → Settled (n + 1) (λ (t : Fields). f (y, t))) → Settled n (λ (t : Fields). bytes_at n t >>= f)
unfolding bytes_at
bytes_then n f rest = value_then n (λ w. or_bad (errors.BadBytes n) (printed_of w)) (λ x. x) f (λ w e h. found_refuses n (errors.BadBytes n) (printed_of w) e refl h) rest (spelling []) [] (λ t. bytes_back n [] t (λ i. omega arith))

-- a word that gives a value, and then the fields behind it
module _ {X A : Type 0} (n : ℕ) (read : List ℕ → Result X LineError) (g : X → Fields → Result A LineError) where
  abbrev worded : Fields → Result A LineError
  worded t = field_at n t >>= λ w. read w.0 >>= λ x. g x w.1

  pub worded_then : ((w : List ℕ) (e : LineError) → read w ≡ Err e → Refuses n e) → ((x : X) → Settled (n + 1) (g x)) → (s : List ℕ) (x : X) → read s ≡ Ok x → Settled n (λ (t : Fields). worded t)
  worded_then bad rest s x is = chosen n (λ t. worded t) refl (λ w. given n (read w) g (bad w) (λ y. (rest y).known))
      (record { fields = s ∷ (rest x).reads.fields; value = (rest x).reads.value; is = ap (λ (r : Result X LineError). r >>= λ y. g y (rest x).reads.fields) is ∙ (rest x).reads.is })

-- data or ack, and three numbers
module _ {A : Type 0} (n : ℕ) (f : Key × Fields → Result A LineError) (rest : (y : Key) → Settled (n + 1 + 1) (λ (t : Fields). f (y, t))) where
  abbrev key_of : PduKind → ℕ × ℕ × ℕ → Key
  key_of kind x = record { kind = kind; src = x.0; scep = x.1; seq = x.2 }

  abbrev three_of : List ℕ → Result (ℕ × ℕ × ℕ) LineError
  three_of w = or_bad (errors.BadNumber (n + 1)) (triple_of w)

  abbrev keyed : PduKind → Fields → Result A LineError
  keyed kind t = taken (n + 1) three_of (key_of kind) f t >>= f

  numbered : (kind : PduKind) → Settled (n + 1) (λ (t : Fields). keyed kind t)
  numbered kind = value_then (n + 1) three_of (key_of kind) f (λ w e h. found_refuses (n + 1) (errors.BadNumber (n + 1)) (triple_of w) e refl h) rest
      (decimal 0 ++ 46 ∷ decimal 0 ++ 46 ∷ decimal 0) (key_of kind (0, 0, 0)) (λ t. rw (triple_back 0 0 0 (omega arith) (omega arith) (omega arith)) refl)

  by_kind : (o : Option PduKind) → Known (n + 1) (λ (t : Fields). (or_bad (errors.BadName n) o >>= λ kind. taken (n + 1) three_of (key_of kind) f t) >>= f)
  by_kind (Some kind) = (numbered kind).known
  by_kind None = never n (errors.BadName n) refl

  pub key_then : Settled n (λ (t : Fields). key_at n t >>= f)
  unfolding key_at kind_of
  key_then = chosen n (λ t. key_at n t >>= f) refl (λ w. by_kind (kind_of w))
      (record { fields = codes "data" ∷ (numbered Piece).reads.fields; value = (numbered Piece).reads.value; is = (numbered Piece).reads.is })

abbrev with_fields : Fields → Result (Unit {0} × Fields) LineError
with_fields t = Ok (tt, t)

-- a word, and the number behind it
module _ {A : Type 0} (word : List ℕ) (n : ℕ) (f : ℕ × Fields → Result A LineError) (same : bytes_eq word word ≡ true) (rest : (y : ℕ) → Settled (n + 1 + 1) (λ (t : Fields). f (y, t))) where
  numbered_then : Settled (n + 1) (λ (t : Fields). number_at max32 (n + 1) t >>= f)
  numbered_then = number_then max32 (n + 1) f (omega arith) rest

  by_word : (b : Bool) → Known (n + 1) (λ (t : Fields). ((guard b (errors.BadName n) >>= λ _. with_fields t) >>= λ w. number_at max32 (n + 1) w.1) >>= f)
  by_word true = numbered_then.known
  by_word false = never n (errors.BadName n) refl

  pub named_then : Settled n (λ (t : Fields). named_at word n t >>= f)
  unfolding named_at word_at
  named_then = chosen n (λ t. named_at word n t >>= f) refl (λ w. by_word (bytes_eq w word))
      (record { fields = word ∷ numbered_then.reads.fields; value = numbered_then.reads.value; is = rw same numbered_then.reads.is })

-- nothing more, or a field and what is told of those behind it
module _ {A : Type 0} (n : ℕ) (q : Fields → Result A LineError) (x : A) (none : q [] ≡ Ok x) (some : (f : List ℕ) → Known (n + 1) (λ (t : Fields). q (f ∷ t))) where
  no_more : Reads q
  no_more = record { fields = []; value = x; is = none }

  fails_more : (f : List ℕ) (t : Fields) (e : LineError) → Fails (n + 1) (λ (s : Fields). q (f ∷ s)) t e → Fails n q (f ∷ t) e
  fails_more f t e h = record { seen = suc h.seen; names = omega (arith, h.names); is = seen_more q no_more f t e h.seen h.is }

  fails_some : (a : Fields) (e : LineError) → q a ≡ Err e → Fails n q a e
  fails_some [] e h = no_err x e (sym none ∙ h)
  fails_some (f ∷ t) e h = fails_more f t e ((some f).fails t e h)

  pub or_none : Settled n q
  or_none = record { known = record { fails = fails_some }; reads = no_more }

pub refused : {A : Type 0} (n : ℕ) → Known {A = A} (n + 1) (λ (t : Fields). Err (errors.BadName n))
refused n = never n (errors.BadName n) refl

-- ---- the last fields

last_number : (max n : ℕ) → max ≤ max64 → Settled n (last_number_at max n)
unfolding last_number_at
last_number max n small = number_then max n _ small (λ x. end_then (n + 1) x)

pub last32 : (n : ℕ) → Settled n (last_number_at max32 n)
last32 n = last_number max32 n (omega arith)

pub last64 : (n : ℕ) → Settled n (last_number_at max64 n)
last64 n = last_number max64 n (omega arith)

pub last_two : (max n : ℕ) → max ≤ max64 → Settled n (last_two_at max n)
unfolding last_two_at
last_two max n small = number_then max n _ small (λ x. made _ (last32 (n + 1)))

pub two32 : (n : ℕ) → Settled n (last_two_at max32 n)
two32 n = last_two max32 n (omega arith)

pub last_num : (n : ℕ) → Settled n (last_num_at n)
unfolding last_num_at
last_num n = num_then n _ (λ x. end_then (n + 1) x)

pub last_port : (n : ℕ) → Settled n (last_port_at n)
unfolding last_port_at
last_port n = port_then n _ (λ x. end_then (n + 1) x)

pub last_truth : (n : ℕ) → Settled n (last_truth_at n)
unfolding last_truth_at
last_truth n = truth_then n _ (λ x. end_then (n + 1) x)

pub last_bytes : (n : ℕ) → Settled n (last_bytes_at n)
unfolding last_bytes_at
last_bytes n = bytes_then n _ (λ x. end_then (n + 1) x)
