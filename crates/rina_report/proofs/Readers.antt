-- Fields that are printed are read, and those that are read are printed so.
use Rattle.std.proofs.Common.{◌≡◌, ℕ, ◌+◌, ◌<◌, ◌≤◌, Bool, true, false, cond, List, [], ◌∷◌, ◌++◌, codes, length, Option, Some, None, Result, Ok, Err, refl, sym, ap, subst, ◌∙◌, append_assoc, arith}
use Rattle.std.specs.Fmt.{decimal}
use Rattle.std.specs.Str.{bytes_eq}
use Rattle.std.specs.Prelude.{IfOk}
use Rattle.std.proofs.lemmas.Fmt.{decimal_nonempty}
use Rattle.std.proofs.lemmas.List.{length-append}
use Rattle.std.proofs.lemmas.Result.{IfOk-at_ok}
use Rattle.std.proofs.lemmas.Slice.Eq.{bytes_eq-Decides}
use Rattle.std.proofs.lemmas.Option.{same_Some, cond_some}
use Rattle.rina_base.specs.Traverse.{◌>>=◌}
use Rattle.rina_base.specs.Names.{is_name_byte, name_at, app_at}
use Rattle.rina_base.specs.declared.name.NameError.{NameError}
use Rattle.rina_base.specs.declared.number.Num.{Num}
use Rattle.rina_base.specs.declared.number.FlowName.{FlowName}
use Rattle.rina_base.specs.declared.number.Key.{Key}
use Rattle.rina_base.specs.declared.pdu.PduKind.{PduKind}
use Rattle.rina_base.specs.declared.pdu.PduKind.TheVariants.{Piece, Ack}
use Rattle.rina_schedule.specs.declared.error.LineError.{LineError}
use Rattle.rina_schedule.specs.declared.error.LineError.TheVariants as errors
use Rattle.rina_schedule.specs.Gives.{or_bad}
use Rattle.rina_schedule.specs.Fields.{name_or_bad}
use Rattle.rina_schedule.specs.Bytes.{printed_of}
use Rattle.rina_base.specs.ObjectNames.{is_object_name, object_name_of}
use Rattle.rina_schedule.specs.Spelling.{spelling}
use Rattle.rina_schedule.specs.Ranges.{IsName, IsApp, IsBytes}
use Rattle.rina_schedule.proofs.Values.{name_reads, app_reads, name_bytes, printed_back, printed_is}
use Rattle.rina_report.specs.declared.state.PortNote.{PortNote}
use Rattle.rina_report.specs.Fields.{numeral_of, parts_of, max32, max64, pair_of, triple_of, port_of, kind_of, truth_of, end_at, number_at, num_at, flow_at, key_at, port_at, truth_at, name_field_at, app_field_at, object_at, bytes_at, last_number_at, last_two_at, last_num_at, last_port_at, last_truth_at, last_bytes_at}
use Rattle.rina_report.specs.Values.{num_text, flow_text, port_text, kind_word, key_text, truth_text}
use Rattle.rina_report.specs.Ranges.{IsNum, IsFlowName, IsKey, IsPort}
use Rattle.rina_report.proofs.Numerals.{numeral_back, numeral_is}
use Rattle.rina_report.proofs.Parts.{is_without, without, parts_back, parts_are, pair_back, pair_is, triple_back, triple_is}

-- ---- what is printed is read

pub number_back : (max n x : ℕ) (fs : List (List ℕ)) → max ≤ max64 → x ≤ max → number_at max n (decimal x ∷ fs) ≡ Ok (x, fs)
unfolding number_at
number_back max n x fs small h = rw (numeral_back max x (omega arith) h) refl

pub num_back : (n : ℕ) (num : Num) (fs : List (List ℕ)) → IsNum num → num_at n (num_text num ∷ fs) ≡ Ok (num, fs)
unfolding num_at num_text
num_back n num fs h = rw (pair_back max64 num.cep num.seq (omega arith) h.0 h.1) refl

pub flow_back : (n : ℕ) (flow : FlowName) (fs : List (List ℕ)) → IsFlowName flow → flow_at n (flow_text flow ∷ fs) ≡ Ok (flow, fs)
unfolding flow_at flow_text
flow_back n flow fs h = rw (triple_back flow.src flow.tick flow.count h.0 h.1 h.2) refl

kind_back : (kind : PduKind) → kind_of (kind_word kind) ≡ Some kind
unfolding kind_of kind_word
kind_back Piece = refl
kind_back Ack = refl

pub key_back : (n : ℕ) (key : Key) (fs : List (List ℕ)) → IsKey key → key_at n (kind_word key.kind ∷ key_text key ∷ fs) ≡ Ok (key, fs)
unfolding key_at key_text
key_back n key fs h = rw (kind_back key.kind, triple_back key.src key.scep key.seq h.0 h.1 h.2) refl

no_slash : (x : List ℕ) → IsName x → is_without 47 x ≡ true
unfolding is_name_byte
no_slash x h = without is_name_byte 47 x refl (name_bytes x x h)

port_text_back : (n : ℕ) (port : PortNote) → IsPort port → port_of n (port_text port) ≡ Ok port
unfolding port_of port_text
port_text_back n port h =
    ap (port_of n) (append_assoc port.fac (47 ∷ port.node) (47 ∷ decimal port.n))
    ∙ rw (parts_back 47 port.fac (port.node ++ 47 ∷ decimal port.n) (no_slash port.fac h.0), h.0, parts_back 47 port.node (decimal port.n) (no_slash port.node h.1), h.1, numeral_back max32 port.n (omega (arith, h.2)) h.2) refl

pub port_back : (n : ℕ) (port : PortNote) (fs : List (List ℕ)) → IsPort port → port_at n (port_text port ∷ fs) ≡ Ok (port, fs)
unfolding port_at
port_back n port fs h = rw (port_text_back n port h) refl

pub truth_back : (n : ℕ) (b : Bool) (fs : List (List ℕ)) → truth_at n (truth_text b ∷ fs) ≡ Ok (b, fs)
unfolding truth_at truth_of truth_text
truth_back n true fs = refl
truth_back n false fs = refl

pub name_back : (n : ℕ) (x : List ℕ) (fs : List (List ℕ)) → IsName x → name_field_at n (x ∷ fs) ≡ Ok (x, fs)
unfolding name_field_at
name_back n x fs h = rw h refl

pub app_back : (n : ℕ) (x : List ℕ) (fs : List (List ℕ)) → IsApp x → app_field_at n (x ∷ fs) ≡ Ok (x, fs)
unfolding app_field_at
app_back n x fs h = rw h refl

pub object_back : (n : ℕ) (x : List ℕ) (fs : List (List ℕ)) → is_object_name x ≡ true → object_at n (x ∷ fs) ≡ Ok (x, fs)
unfolding object_at object_name_of
object_back n x fs h = rw h refl

pub bytes_back : (n : ℕ) (x : List ℕ) (fs : List (List ℕ)) → IsBytes x → bytes_at n (spelling x ∷ fs) ≡ Ok (x, fs)
unfolding bytes_at
bytes_back n x fs h = rw (printed_back x h) refl

-- the last fields

pub last_number_back : (max n x : ℕ) → max ≤ max64 → x ≤ max → last_number_at max n (decimal x ∷ []) ≡ Ok x
unfolding last_number_at
last_number_back max n x small h = rw (number_back max n x [] small h) refl

pub last_two_back : (max n x y : ℕ) → max ≤ max64 → x ≤ max → y ≤ max32 → last_two_at max n (decimal x ∷ decimal y ∷ []) ≡ Ok (x, y)
unfolding last_two_at
last_two_back max n x y small h g = rw (number_back max n x (decimal y ∷ []) small h, last_number_back max32 (n + 1) y (omega arith) g) refl

pub last_num_back : (n : ℕ) (num : Num) → IsNum num → last_num_at n (num_text num ∷ []) ≡ Ok num
unfolding last_num_at
last_num_back n num h = rw (num_back n num [] h) refl

pub last_port_back : (n : ℕ) (port : PortNote) → IsPort port → last_port_at n (port_text port ∷ []) ≡ Ok port
unfolding last_port_at
last_port_back n port h = rw (port_back n port [] h) refl

pub last_truth_back : (n : ℕ) (b : Bool) → last_truth_at n (truth_text b ∷ []) ≡ Ok b
unfolding last_truth_at
last_truth_back n b = rw (truth_back n b []) refl

pub last_bytes_back : (n : ℕ) (x : List ℕ) → IsBytes x → last_bytes_at n (spelling x ∷ []) ≡ Ok x
unfolding last_bytes_at
last_bytes_back n x h = rw (bytes_back n x [] h) refl

-- ---- what is read is printed so

-- what holds of each value that a step gives holds of what is made of it
pub then : {A B E : Type 0} (P : B → Type 0) (r : Result A E) (f : A → Result B E) → ((x : A) → r ≡ Ok x → IfOk (f x) P) → IfOk (r >>= f) P
then P (Ok x) f h = h x refl
then P (Err e) f h = tt

pub at_ok : {A E : Type 0} (r : Result A E) (Q : A → Type 0) → IfOk r Q → (x : A) → r ≡ Ok x → Q x
at_ok r Q h x e = IfOk-at_ok Q e h

pub word_is : (word other : List ℕ) → bytes_eq word other ≡ true → word ≡ other
word_is word other e = (bytes_eq-Decides word other).0 e

-- the first field, and what holds of it
abbrev pub Reads : {A : Type 0} → (A → List ℕ) → (A → Type 0) → List (List ℕ) → A × List (List ℕ) → Type 0
Reads text Q fs x = (fs ≡ text x.0 ∷ x.1) × Q x.0

pub found_then : {A B : Type 0} (o : Option A) (d : LineError) (g : A → Result B LineError) (P : B → Type 0) → ((x : A) → o ≡ Some x → IfOk (g x) P) → IfOk (or_bad d o >>= g) P
found_then (Some x) d g P h = h x refl
found_then None d g P h = tt

named_then : (n : ℕ) (r : Result (List ℕ) NameError) {B : Type 0} (g : List ℕ → Result B LineError) (P : B → Type 0) → ((x : List ℕ) → r ≡ Ok x → IfOk (g x) P) → IfOk (name_or_bad n r >>= g) P
named_then n (Ok x) g P h = h x refl
named_then n (Err e) g P h = tt

front : {A : Type 0} (text : A → List ℕ) (f : List ℕ) (fs : List (List ℕ)) (x : A) → f ≡ text x → f ∷ fs ≡ text x ∷ fs
front text f fs x e = ap (λ (t : List ℕ). t ∷ fs) e

pub number_is : (max n : ℕ) (fs : List (List ℕ)) → max ≤ max64 → IfOk (number_at max n fs) (Reads decimal (λ x. x ≤ max) fs)
unfolding number_at
number_is max n [] small = tt
number_is max n (f ∷ fs) small = found_then (numeral_of max f) _ _ (Reads decimal (λ x. x ≤ max) (f ∷ fs)) (λ x e. (let p = numeral_is max f x (omega arith) e in (front decimal f fs x p.0, p.1)))

pub num_is : (n : ℕ) (fs : List (List ℕ)) → IfOk (num_at n fs) (Reads num_text IsNum fs)
unfolding num_at num_text
num_is n [] = tt
num_is n (f ∷ fs) = found_then (pair_of max64 f) _ _ (Reads num_text IsNum (f ∷ fs)) (λ x e. (let p = pair_is max64 f x (omega arith) e in (ap (λ (t : List ℕ). t ∷ fs) p.text-is, (p.first, p.second))))

pub flow_is : (n : ℕ) (fs : List (List ℕ)) → IfOk (flow_at n fs) (Reads flow_text IsFlowName fs)
unfolding flow_at flow_text
flow_is n [] = tt
flow_is n (f ∷ fs) = found_then (triple_of f) _ _ (Reads flow_text IsFlowName (f ∷ fs)) (λ x e. (let p = triple_is f x e in (ap (λ (t : List ℕ). t ∷ fs) p.text-is, (p.first, p.second, p.third))))

kind_is : (word : List ℕ) (kind : PduKind) → kind_of word ≡ Some kind → word ≡ kind_word kind
unfolding kind_of kind_word
kind_is word kind e = by_data (bytes_eq word (codes "data")) refl e
  where
    by_ack : (c : Bool) → bytes_eq word (codes "ack") ≡ c → cond c (Some Ack) None ≡ Some kind → word ≡ kind_word kind
    by_ack true t e = subst (λ k. word ≡ kind_word k) (same_Some Ack kind e) (word_is word (codes "ack") t)
    by_ack false t e = absurd cc

    by_data : (c : Bool) → bytes_eq word (codes "data") ≡ c → cond c (Some Piece) (cond (bytes_eq word (codes "ack")) (Some Ack) None) ≡ Some kind → word ≡ kind_word kind
    by_data true t e = subst (λ k. word ≡ kind_word k) (same_Some Piece kind e) (word_is word (codes "data") t)
    by_data false t e = by_ack (bytes_eq word (codes "ack")) refl e

abbrev pub ReadsKey : List (List ℕ) → Key × List (List ℕ) → Type 0
ReadsKey fs x = (fs ≡ kind_word x.0.kind ∷ key_text x.0 ∷ x.1) × IsKey x.0

pub key_is : (n : ℕ) (fs : List (List ℕ)) → IfOk (key_at n fs) (ReadsKey fs)
unfolding key_at key_text
key_is n [] = tt
key_is n (w ∷ []) = found_then (kind_of w) _ _ (ReadsKey (w ∷ [])) (λ kind k. tt)
key_is n (w ∷ f ∷ fs) =
    found_then (kind_of w) _ _ (ReadsKey (w ∷ f ∷ fs)) (λ kind k.
    found_then (triple_of f) _ _ (ReadsKey (w ∷ f ∷ fs)) (λ x e.
    (let p = triple_is f x e in (two (kind_is w kind k) p.text-is, (p.first, p.second, p.third)))))
  where
    two : {a b : List ℕ} → w ≡ a → f ≡ b → w ∷ f ∷ fs ≡ a ∷ b ∷ fs
    two e g = cc

name_fits : (f x : List ℕ) → name_at f ≡ Ok x → (f ≡ x) × IsName x
name_fits f x e = (let same = (name_reads f x e).0 in (same, subst (λ (t : List ℕ). name_at t ≡ Ok x) same e))

app_fits : (f x : List ℕ) → app_at f ≡ Ok x → (f ≡ x) × IsApp x
app_fits f x e = (let same = (app_reads f x e).0 in (same, subst (λ (t : List ℕ). app_at t ≡ Ok x) same e))

name_some : (f x : List ℕ) → name_at f ≡ Ok x → 0 < length f
name_some f x e = (name_reads f x e).1.some

port_text_is : (n : ℕ) (text : List ℕ) → IfOk (port_of n text) (λ port. (text ≡ port_text port) × IsPort port)
unfolding port_of port_text
port_text_is n text =
    let first = (parts_of 47 text).0 in let rest = (parts_of 47 text).1 in let second = (parts_of 47 rest).0 in let third = (parts_of 47 rest).1 in
    named_then n (name_at first) _ (λ port. (text ≡ port_text port) × IsPort port) (λ fac a.
    named_then n (name_at second) _ (λ port. (text ≡ port_text port) × IsPort port) (λ node b.
    found_then (numeral_of max32 third) _ _ (λ port. (text ≡ port_text port) × IsPort port) (λ x e.
    let pa = name_fits first fac a in let pb = name_fits second node b in let pc = numeral_is max32 third x (omega arith) e in
    let some3 : 0 < length third = rw pc.0 (decimal_nonempty x (omega (arith, pc.1))) in
    let rest-is : rest ≡ second ++ 47 ∷ third = parts_are 47 rest some3 in
    let some2 : 0 < length rest = rw rest-is (omega (arith, length-append second (47 ∷ third))) in
    let text-is : text ≡ first ++ 47 ∷ rest = parts_are 47 text some2 in (
      text-is ∙ ap (λ (t : List ℕ). first ++ 47 ∷ t) rest-is ∙ ap (λ (t : List ℕ). t ++ 47 ∷ (second ++ 47 ∷ third)) pa.0
          ∙ ap (λ (t : List ℕ). fac ++ 47 ∷ (t ++ 47 ∷ third)) pb.0 ∙ ap (λ (t : List ℕ). fac ++ 47 ∷ (node ++ 47 ∷ t)) pc.0
          ∙ sym (append_assoc fac (47 ∷ node) (47 ∷ decimal x)),
      (pa.1, pb.1, pc.1),
    ))))

pub port_is : (n : ℕ) (fs : List (List ℕ)) → IfOk (port_at n fs) (Reads port_text IsPort fs)
unfolding port_at
port_is n [] = tt
port_is n (f ∷ fs) = then (Reads port_text IsPort (f ∷ fs)) (port_of n f) _ (λ x e. (let p = at_ok (port_of n f) (λ port. (f ≡ port_text port) × IsPort port) (port_text_is n f) x e in (ap (λ (t : List ℕ). t ∷ fs) p.0, p.1)))

abbrev pub Any : {A : Type 0} → A → Type 0
Any x = Unit {0}

abbrev with_truth : List (List ℕ) → Bool → Result (Bool × List (List ℕ)) LineError
with_truth fs x = Ok (x, fs)

pub truth_is : (n : ℕ) (fs : List (List ℕ)) → IfOk (truth_at n fs) (Reads truth_text Any fs)
unfolding truth_at truth_of truth_text
truth_is n [] = tt
truth_is n (f ∷ fs) = by_no (bytes_eq f (codes "0")) refl
  where
    by_yes : (c : Bool) → bytes_eq f (codes "1") ≡ c → IfOk (or_bad (errors.BadNumber n) (cond c (Some true) None) >>= λ x. with_truth fs x) (Reads truth_text Any (f ∷ fs))
    by_yes true t = (ap (λ (t : List ℕ). t ∷ fs) (word_is f (codes "1") t), tt)
    by_yes false t = tt

    by_no : (c : Bool) → bytes_eq f (codes "0") ≡ c → IfOk (or_bad (errors.BadNumber n) (cond c (Some false) (cond (bytes_eq f (codes "1")) (Some true) None)) >>= λ x. with_truth fs x) (Reads truth_text Any (f ∷ fs))
    by_no true t = (ap (λ (t : List ℕ). t ∷ fs) (word_is f (codes "0") t), tt)
    by_no false t = by_yes (bytes_eq f (codes "1")) refl

abbrev pub itself : List ℕ → List ℕ
itself x = x

pub name_is : (n : ℕ) (fs : List (List ℕ)) → IfOk (name_field_at n fs) (Reads itself IsName fs)
unfolding name_field_at
name_is n [] = tt
name_is n (f ∷ fs) = named_then n (name_at f) _ (Reads itself IsName (f ∷ fs)) (λ x e. (let p = name_fits f x e in (ap (λ (t : List ℕ). t ∷ fs) p.0, p.1)))

pub app_is : (n : ℕ) (fs : List (List ℕ)) → IfOk (app_field_at n fs) (Reads itself IsApp fs)
unfolding app_field_at
app_is n [] = tt
app_is n (f ∷ fs) = named_then n (app_at f) _ (Reads itself IsApp (f ∷ fs)) (λ x e. (let p = app_fits f x e in (ap (λ (t : List ℕ). t ∷ fs) p.0, p.1)))

pub object_is : (n : ℕ) (fs : List (List ℕ)) → IfOk (object_at n fs) (Reads itself (λ x. is_object_name x ≡ true) fs)
unfolding object_at object_name_of
object_is n [] = tt
object_is n (f ∷ fs) = found_then (object_name_of f) _ _ (Reads itself (λ x. is_object_name x ≡ true) (f ∷ fs)) (λ x e.
    (let p = cond_some (is_object_name f) f x e in (ap (λ (t : List ℕ). t ∷ fs) p.1, ap is_object_name (sym p.1) ∙ p.0)))

pub bytes_is : (n : ℕ) (fs : List (List ℕ)) → IfOk (bytes_at n fs) (Reads spelling IsBytes fs)
unfolding bytes_at
bytes_is n [] = tt
bytes_is n (f ∷ fs) = found_then (printed_of f) _ _ (Reads spelling IsBytes (f ∷ fs)) (λ x e. (let p = printed_is f x e in (ap (λ (t : List ℕ). t ∷ fs) p.0, p.1)))

-- ---- the last fields

abbrev pub ReadsLast : {A : Type 0} → (A → List ℕ) → (A → Type 0) → List (List ℕ) → A → Type 0
ReadsLast text Q fs x = (fs ≡ text x ∷ []) × Q x

pub end_then : {B : Type 0} (n : ℕ) (rest : List (List ℕ)) (x : B) (P : B → Type 0) → (rest ≡ [] → P x) → IfOk (end_at n rest >>= λ _. Ok x) P
end_then n [] x P h = h refl
end_then n (f ∷ fs) x P h = tt

last_is : {A : Type 0} (text : A → List ℕ) (Q : A → Type 0) (n : ℕ) (fs : List (List ℕ)) (r : Result (A × List (List ℕ)) LineError) → IfOk r (Reads text Q fs) → IfOk (r >>= λ x. end_at n x.1 >>= λ _. Ok x.0) (ReadsLast text Q fs)
last_is text Q n fs (Ok x) h = end_then n x.1 x.0 (ReadsLast text Q fs) (λ e. (h.0 ∙ ap (λ (t : List (List ℕ)). text x.0 ∷ t) e, h.1))
last_is text Q n fs (Err d) h = tt

pub last_number_is : (max n : ℕ) (fs : List (List ℕ)) → max ≤ max64 → IfOk (last_number_at max n fs) (ReadsLast decimal (λ x. x ≤ max) fs)
unfolding last_number_at
last_number_is max n fs small = last_is decimal (λ x. x ≤ max) (n + 1) fs (number_at max n fs) (number_is max n fs small)

abbrev pub ReadsTwo : ℕ → List (List ℕ) → ℕ × ℕ → Type 0
ReadsTwo max fs x = (fs ≡ decimal x.0 ∷ decimal x.1 ∷ []) × (x.0 ≤ max) × (x.1 ≤ max32)

pub last_two_is : (max n : ℕ) (fs : List (List ℕ)) → max ≤ max64 → IfOk (last_two_at max n fs) (ReadsTwo max fs)
unfolding last_two_at
last_two_is max n fs small =
    then (ReadsTwo max fs) (number_at max n fs) _ (λ x e.
    then (ReadsTwo max fs) (last_number_at max32 (n + 1) x.1) _ (λ y d.
    let a = at_ok (number_at max n fs) (Reads decimal (λ x. x ≤ max) fs) (number_is max n fs small) x e in
    let b = at_ok (last_number_at max32 (n + 1) x.1) (ReadsLast decimal (λ x. x ≤ max32) x.1) (last_number_is max32 (n + 1) x.1 (omega arith)) y d in
    (a.0 ∙ ap (λ (t : List (List ℕ)). decimal x.0 ∷ t) b.0, a.1, b.1)))

pub last_num_is : (n : ℕ) (fs : List (List ℕ)) → IfOk (last_num_at n fs) (ReadsLast num_text IsNum fs)
unfolding last_num_at
last_num_is n fs = last_is num_text IsNum (n + 1) fs (num_at n fs) (num_is n fs)

pub last_port_is : (n : ℕ) (fs : List (List ℕ)) → IfOk (last_port_at n fs) (ReadsLast port_text IsPort fs)
unfolding last_port_at
last_port_is n fs = last_is port_text IsPort (n + 1) fs (port_at n fs) (port_is n fs)

pub last_truth_is : (n : ℕ) (fs : List (List ℕ)) → IfOk (last_truth_at n fs) (ReadsLast truth_text Any fs)
unfolding last_truth_at
last_truth_is n fs = last_is truth_text Any (n + 1) fs (truth_at n fs) (truth_is n fs)

pub last_bytes_is : (n : ℕ) (fs : List (List ℕ)) → IfOk (last_bytes_at n fs) (ReadsLast spelling IsBytes fs)
unfolding last_bytes_at
last_bytes_is n fs = last_is spelling IsBytes (n + 1) fs (bytes_at n fs) (bytes_is n fs)
