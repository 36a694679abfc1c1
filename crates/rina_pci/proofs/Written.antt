-- A PDU is written exactly where it fits, as it is spelled.
use Rattle.std.proofs.Common.{◌≡◌, ℕ, ◌*◌, ◌^◌, ◌<◌, Bool, true, false, cond, ltb, List, ◌++◌, Option, Some, None, ◌⊎◌, ◌↔◌, inl, inr, Result, Ok, Err, refl, sym, ◌∙◌}
use Rattle.std.proofs.lemmas.Bool.{ltb-true, lt-ltb}
use Rattle.rina_base.specs.declared.pdu.PduKind.{PduKind}
use Rattle.rina_base.specs.declared.pdu.PduKind.TheVariants.{Piece, Ack}
use Rattle.rina_base.specs.declared.pdu.Pdu.{Pdu}
use Rattle.rina_base.specs.Pdus.{LeavesOut, IsProper}
use Rattle.rina_base.specs.Traverse.{◌>>=◌}
use Rattle.rina_pci.specs.declared.widths.Widths.{Widths}
use Rattle.rina_pci.specs.declared.error.PciError.{PciError}
use Rattle.rina_pci.specs.declared.error.PciError.TheVariants.{Memory, TooWide}
use Rattle.rina_pci.specs.Spelling.{AreWidths, be, head, addresses, pdu_size, numbers_and_body, spelling, Fits}
use Rattle.rina_pci.specs.Writing.{fits, field, fields, number_fields, first_wide, addresses_written, numbers_written, written, Gives}
use Rattle.rina_pci.proofs.Fields.{IsWide, wide}
use Rattle.std.specs.Global.{Vec}
use Rattle.std.specs.Prelude.{IfOk}

abbrev Bytes : Type 0
Bytes = Result (List ℕ) PciError

bind_ok : (r : Bytes) (f : List ℕ → Bytes) (y : List ℕ) → (r >>= f) ≡ Ok y → (x : List ℕ) × (r ≡ Ok x) × (f x ≡ Ok y)
bind_ok (Ok x) f y e = (x, refl, e)
bind_ok (Err d) f y e = absurd cc

abbrev pub done : List ℕ → Bytes
done x = Ok x

ok_is : (x y : List ℕ) → done x ≡ done y → x ≡ y
ok_is x y e = cc

guard_ok : (b : Bool) (x y : List ℕ) (d : PciError) → cond b (done x) (Err d) ≡ Ok y → (b ≡ true) × (x ≡ y)
guard_ok true x y d e = (refl, cc)
guard_ok false x y d e = absurd cc

field_fits : (number w n : ℕ) (bytes : List ℕ) → field number w n ≡ Ok bytes → (n < 2 ^ (8 * w)) × (be w n ≡ bytes)
unfolding fits
field_fits number w n bytes e =
    let g = guard_ok (ltb n (2 ^ (8 * w))) (be w n) bytes (TooWide number) e in
    (ltb-true _ _ g.0, g.1)

field_again : (number w n : ℕ) → n < 2 ^ (8 * w) → field number w n ≡ Ok (be w n)
unfolding fits
field_again number w n lt = rw (lt-ltb _ _ lt) refl

two : (a b c d : List ℕ) → a ≡ c → b ≡ d → a ++ b ≡ c ++ d
two a b c d e f = cc

-- the addresses fit, and are these bytes
record Addressed (w : Widths) (p : Pdu) (bytes : List ℕ) : Type 0 where
  pub dst : p.dst < 2 ^ (8 * w.addr)
  pub src : p.src < 2 ^ (8 * w.addr)
  pub dcep : p.dcep < 2 ^ (8 * w.cep)
  pub scep : p.scep < 2 ^ (8 * w.cep)
  pub is : addresses w p ≡ bytes

addresses_fit : (w : Widths) (p : Pdu) (bytes : List ℕ) → addresses_written w p ≡ Ok bytes → Addressed w p bytes
unfolding addresses_written
addresses_fit w p bytes e =
    let b0 = bind_ok (field 5 w.addr p.dst) (λ dst. field 6 w.addr p.src >>= λ src. field 7 w.cep p.dcep >>= λ dcep. field 8 w.cep p.scep >>= λ scep. done (dst ++ src ++ dcep ++ scep)) bytes e in
    let b1 = bind_ok (field 6 w.addr p.src) (λ src. field 7 w.cep p.dcep >>= λ dcep. field 8 w.cep p.scep >>= λ scep. done (b0.0 ++ src ++ dcep ++ scep)) bytes b0.2 in
    let b2 = bind_ok (field 7 w.cep p.dcep) (λ dcep. field 8 w.cep p.scep >>= λ scep. done (b0.0 ++ b1.0 ++ dcep ++ scep)) bytes b1.2 in
    let b3 = bind_ok (field 8 w.cep p.scep) (λ scep. done (b0.0 ++ b1.0 ++ b2.0 ++ scep)) bytes b2.2 in
    let f0 = field_fits 5 w.addr p.dst b0.0 b0.1 in
    let f1 = field_fits 6 w.addr p.src b1.0 b1.1 in
    let f2 = field_fits 7 w.cep p.dcep b2.0 b2.1 in
    let f3 = field_fits 8 w.cep p.scep b3.0 b3.1 in
    record { dst = f0.0; src = f1.0; dcep = f2.0; scep = f3.0; is = two _ _ _ _ (two _ _ _ _ (two _ _ _ _ f0.1 f1.1) f2.1) f3.1 ∙ ok_is (b0.0 ++ b1.0 ++ b2.0 ++ b3.0) bytes b3.2 }

-- the numbers fit, and they and the body are these bytes
record Numbered (w : Widths) (k : PduKind) (p : Pdu) (bytes : List ℕ) : Type 0 where
  pub seq : p.seq < 2 ^ (8 * w.seq)
  pub ack : p.ack < 2 ^ (8 * w.seq)
  pub right : p.right < 2 ^ (8 * w.seq)
  pub is : numbers_and_body w k p ≡ bytes

none_fits : (w n : ℕ) → IsWide w → n ≡ 0 → n < 2 ^ (8 * w)
none_fits w n wide e = rw e wide.some

numbers_fit : (w : Widths) (k : PduKind) (p : Pdu) (bytes : List ℕ) → AreWidths w → LeavesOut k p → numbers_written w k p ≡ Ok bytes → Numbered w k p bytes
unfolding numbers_written
numbers_fit w Piece p bytes widths out e =
    let seq = wide w.seq widths.seq in
    let b = bind_ok (field 10 w.seq p.seq) (λ seq. done (seq ++ p.body)) bytes e in
    let f = field_fits 10 w.seq p.seq b.0 b.1 in
    record { seq = f.0; ack = none_fits w.seq p.ack seq out.0; right = none_fits w.seq p.right seq out.1; is = two _ _ _ _ f.1 refl ∙ ok_is (b.0 ++ p.body) bytes b.2 }
numbers_fit w Ack p bytes widths out e =
    let seq = wide w.seq widths.seq in
    let b0 = bind_ok (field 10 w.seq p.ack) (λ ack. field 11 w.seq p.right >>= λ right. done (ack ++ right)) bytes e in
    let b1 = bind_ok (field 11 w.seq p.right) (λ right. done (b0.0 ++ right)) bytes b0.2 in
    let f0 = field_fits 10 w.seq p.ack b0.0 b0.1 in
    let f1 = field_fits 11 w.seq p.right b1.0 b1.1 in
    record { seq = none_fits w.seq p.seq seq out.3; ack = f0.0; right = f1.0; is = two _ _ _ _ f0.1 f1.1 ∙ ok_is (b0.0 ++ b1.0) bytes b1.2 }

pub written_fits : (w : Widths) (p : Pdu) (bytes : List ℕ) → AreWidths w → IsProper p → written w p ≡ Ok bytes → Fits w p × (bytes ≡ spelling w p)
unfolding written spelling
written_fits w p bytes widths proper e =
    let b0 = bind_ok (addresses_written w p) (λ a. field 9 w.len (pdu_size w p) >>= λ len. numbers_written w p.kind p >>= λ n. done (head p ++ a ++ len ++ n)) bytes e in
    let b1 = bind_ok (field 9 w.len (pdu_size w p)) (λ len. numbers_written w p.kind p >>= λ n. done (head p ++ b0.0 ++ len ++ n)) bytes b0.2 in
    let b2 = bind_ok (numbers_written w p.kind p) (λ n. done (head p ++ b0.0 ++ b1.0 ++ n)) bytes b1.2 in
    let a = addresses_fit w p b0.0 b0.1 in
    let len = field_fits 9 w.len (pdu_size w p) b1.0 b1.1 in
    let n = numbers_fit w p.kind p b2.0 widths proper b2.1 in (
      record { proper = proper; dst = a.dst; src = a.src; dcep = a.dcep; scep = a.scep; len = len.0; seq = n.seq; ack = n.ack; right = n.right },
      sym (two _ _ _ _ (two _ _ _ _ (two _ _ _ _ refl a.is) len.1) n.is ∙ ok_is (head p ++ b0.0 ++ b1.0 ++ b2.0) bytes b2.2),
    )

numbers_written-fits : (w : Widths) (k : PduKind) (p : Pdu) → Fits w p → numbers_written w k p ≡ Ok (numbers_and_body w k p)
unfolding numbers_written
numbers_written-fits w Piece p fit = rw (field_again 10 w.seq p.seq fit.seq) refl
numbers_written-fits w Ack p fit = rw (field_again 10 w.seq p.ack fit.ack, field_again 11 w.seq p.right fit.right) refl

pub fits_written : (w : Widths) (p : Pdu) → Fits w p → written w p ≡ Ok (spelling w p)
unfolding written spelling addresses_written
fits_written w p fit = rw (field_again 5 w.addr p.dst fit.dst, field_again 6 w.addr p.src fit.src, field_again 7 w.cep p.dcep fit.dcep, field_again 8 w.cep p.scep fit.scep, field_again 9 w.len (pdu_size w p) fit.len, numbers_written-fits w p.kind p fit) refl

pub is_spelled : (w : Widths) (p : Pdu) (r : Result (Vec ℕ) PciError) → AreWidths w → IsProper p → Gives r (written w p) → IfOk r (λ v. Fits w p × (v.items ≡ spelling w p))
is_spelled w p (Ok v) widths proper given = written_fits w p v.items widths proper given
is_spelled w p (Err e) widths proper given = tt

pub is_written : (w : Widths) (p : Pdu) (r : Result (Vec ℕ) PciError) → Fits w p → Gives r (written w p) → Gives r (Ok (spelling w p))
is_written w p (Ok v) fit given = sym (fits_written w p fit) ∙ given
is_written w p (Err Memory) fit given = tt
is_written w p (Err (TooWide n)) fit given = sym (fits_written w p fit) ∙ given

-- a test has one of two answers
either : (b : Bool) → (b ≡ true) ⊎ (b ≡ false)
either true = inl refl
either false = inr refl

-- what is written, and the first field that does not fit
abbrev pub Agree : Bytes → Option ℕ → Type 0
Agree (Ok bytes) None = Unit {0}
Agree (Err (TooWide n)) (Some m) = n ≡ m
Agree _ _ = ⊥

numbers_agree : (w : Widths) (k : PduKind) (p : Pdu) (front : List ℕ) → Agree (numbers_written w k p >>= λ n. done (front ++ n)) (first_wide (number_fields w k p))
unfolding numbers_written
numbers_agree w Piece p front = elim (either (fits w.seq p.seq)) [ inr e ↦ rw e refl | inl a ↦ rw a tt ]
numbers_agree w Ack p front =
    elim (either (fits w.seq p.ack)) [
      | inr e ↦ rw e refl
      | inl a ↦ elim (either (fits w.seq p.right)) [ inr e ↦ rw (a, e) refl | inl b ↦ rw (a, b) tt ]
    ]

agree : (w : Widths) (p : Pdu) → Agree (written w p) (first_wide (fields w p))
unfolding written addresses_written
agree w p =
    elim (either (fits w.addr p.dst)) [
      | inr e ↦ rw e refl
      | inl a ↦ elim (either (fits w.addr p.src)) [
        | inr e ↦ rw (a, e) refl
        | inl b ↦ elim (either (fits w.cep p.dcep)) [
          | inr e ↦ rw (a, b, e) refl
          | inl c ↦ elim (either (fits w.cep p.scep)) [
            | inr e ↦ rw (a, b, c, e) refl
            | inl d ↦ elim (either (fits w.len (pdu_size w p))) [
              | inr e ↦ rw (a, b, c, d, e) refl
              | inl f ↦ rw (a, b, c, d, f) (numbers_agree w p.kind p (head p ++ addresses w p ++ be w.len (pdu_size w p)))
            ]
          ]
        ]
      ]
    ]

wide_from : (r : Bytes) (o : Option ℕ) (n : ℕ) → Agree r o → r ≡ Err (TooWide n) → o ≡ Some n
wide_from (Ok bytes) o n h e = absurd cc
wide_from (Err Memory) o n h e = absurd cc
wide_from (Err (TooWide m)) (Some k) n h e = cc
wide_from (Err (TooWide m)) None n h e = absurd h

wide_to : (r : Bytes) (o : Option ℕ) (n : ℕ) → Agree r o → o ≡ Some n → r ≡ Err (TooWide n)
wide_to (Ok bytes) None n h e = absurd cc
wide_to (Ok bytes) (Some k) n h e = absurd h
wide_to (Err Memory) o n h e = absurd h
wide_to (Err (TooWide m)) (Some k) n h e = cc
wide_to (Err (TooWide m)) None n h e = absurd h

pub wide_exactly : (w : Widths) (p : Pdu) (n : ℕ) → (written w p ≡ Err (TooWide n)) ↔ (first_wide (fields w p) ≡ Some n)
wide_exactly w p n = (wide_from (written w p) (first_wide (fields w p)) n (agree w p), wide_to (written w p) (first_wide (fields w p)) n (agree w p))
