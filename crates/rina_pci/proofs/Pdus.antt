-- A PDU that is read is spelled so, and what is spelled is read again.
use Rattle.std.proofs.Common.{◌≡◌, ℕ, zero, suc, ◌+◌, ◌*◌, ◌/◌, ◌%◌, ◌^◌, ◌<◌, Bool, true, false, cond, eqb, ltb, ◌&&◌, List, [], ◌∷◌, ◌++◌, length, Option, Some, None, refl, sym, ap, subst, ◌∙◌, append_assoc, arith}
use Rattle.std.proofs.lemmas.Bool.{eqb-true, eq-eqb, ltb-true}
use Rattle.std.proofs.lemmas.List.{append-nil, nil_from_length, length-append}
use Rattle.rina_base.specs.declared.pdu.PduKind.{PduKind}
use Rattle.rina_base.specs.declared.pdu.PduKind.TheVariants.{Piece, Ack}
use Rattle.rina_base.specs.declared.pdu.Pdu.{Pdu}
use Rattle.rina_base.specs.Pdus.{LeavesOut, IsProper, pdu_of}
use Rattle.rina_base.specs.declared.pdu.PduView.{PduView}
use Rattle.std.specs.Prelude.{IfSome, option_map}
use Rattle.rina_pci.specs.declared.widths.Widths.{Widths}
use Rattle.rina_pci.specs.declared.reading.Head.{Head}
use Rattle.rina_pci.specs.declared.reading.Addresses.{Addresses}
use Rattle.rina_pci.specs.declared.reading.Numbers.{Numbers}
use Rattle.rina_pci.specs.Spelling.{AreWidths, IsBytes, be, flags, code, head, addresses, pci_size, pdu_size, numbers_and_body, spelling, Fits}
use Rattle.rina_pci.specs.Reading.{◌>>=◌, number_at, head_of, head_at, addresses_at, numbers_at, pdu_with, pdu_at}
use Rattle.rina_pci.proofs.Fields.{bind_some, guard, found, carry, Takes, Takes-then, wide, number_takes, number_again}

-- ---- the first four bytes

abbrev pub FlagsOf : PduKind → Head → Type 0
FlagsOf Piece h = Unit {0}
FlagsOf Ack h = (h.drf ≡ false) × (h.first ≡ false) × (h.last ≡ false)

abbrev pub head_text : Head → List ℕ
head_text h = 1 ∷ flags h.drf h.first h.last ∷ code h.kind ∷ h.qos ∷ []

flags_again : (f : ℕ) → f < 8 → flags (eqb (f % 2) 1) (eqb (f / 2 % 2) 1) (eqb (f / 4) 1) ≡ f
unfolding flags
flags_again zero lt = refl
flags_again (suc zero) lt = refl
flags_again (suc (suc zero)) lt = refl
flags_again (suc (suc (suc zero))) lt = refl
flags_again (suc (suc (suc (suc zero)))) lt = refl
flags_again (suc (suc (suc (suc (suc zero))))) lt = refl
flags_again (suc (suc (suc (suc (suc (suc zero)))))) lt = refl
flags_again (suc (suc (suc (suc (suc (suc (suc zero))))))) lt = refl
flags_again (suc (suc (suc (suc (suc (suc (suc (suc f)))))))) lt = absurd (omega arith)

and_both : (a b : Bool) → (a && b) ≡ true → (a ≡ true) × (b ≡ true)
and_both true b e = (refl, e)
and_both false b e = absurd cc

abbrev piece_head : ℕ → ℕ → Head
piece_head f q = record { kind = Piece; drf = eqb (f % 2) 1; first = eqb (f / 2 % 2) 1; last = eqb (f / 4) 1; qos = q }

abbrev ack_head : ℕ → Head
ack_head q = record { kind = Ack; drf = false; first = false; last = false; qos = q }

abbrev IsHead : ℕ → ℕ → ℕ → Head → Type 0
IsHead f c q h = (head_text h ≡ 1 ∷ f ∷ c ∷ q ∷ []) × FlagsOf h.kind h

head_of_takes : (f c q : ℕ) (h : Head) → head_of f c q ≡ Some h → IsHead f c q h
unfolding head_of flags
head_of_takes f c q h e =
    let g = guard (ltb f 8) (cond (eqb c 1) (Some (piece_head f q)) (cond (eqb c 2 && eqb f 0) (Some (ack_head q)) None)) h e in
    by_code (eqb c 1) refl g.1 (ltb-true _ _ g.0)
  where
    as_ack : cond (eqb c 2 && eqb f 0) (Some (ack_head q)) None ≡ Some h → IsHead f c q h
    as_ack e =
        let g = guard (eqb c 2 && eqb f 0) (Some (ack_head q)) h e in
        let both = and_both (eqb c 2) (eqb f 0) g.0 in
        carry (IsHead f c q) (ack_head q) h g.1 (rw (eqb-true _ _ both.0, eqb-true _ _ both.1) refl, (refl, refl, refl))

    by_code : (b : Bool) → eqb c 1 ≡ b → cond b (Some (piece_head f q)) (cond (eqb c 2 && eqb f 0) (Some (ack_head q)) None) ≡ Some h → f < 8 → IsHead f c q h
    by_code true c-is e lt = carry (IsHead f c q) (piece_head f q) h e (rw (eqb-true _ _ c-is, flags_again f lt) refl, tt)
    by_code false c-is e lt = as_ack e

pub record HeadTaken (bytes : List ℕ) (h : Head) (rest : List ℕ) : Type 0 where
  pub taken : Takes bytes (head_text h) rest
  pub flags : FlagsOf h.kind h

head_takes : (bytes : List ℕ) (h : Head) (rest : List ℕ) → IsBytes bytes → head_at bytes ≡ Some (h, rest) → HeadTaken bytes h rest
unfolding head_at
head_takes (v ∷ f ∷ c ∷ q ∷ others) h rest fits e =
    let g = guard (eqb v 1) (head_of f c q >>= λ h. Some (h, others)) (h, rest) e in
    let b = bind_some (head_of f c q) (λ h. Some (h, others)) (h, rest) g.1 in
    let x = head_of_takes f c q b.0 b.1 in
    let others_fit : IsBytes others = λ i. fits (suc (suc (suc (suc i)))) in
    let whole : v ∷ f ∷ c ∷ q ∷ others ≡ head_text b.0 ++ others = ap (λ (n : ℕ). n ∷ f ∷ c ∷ q ∷ others) (eqb-true _ _ g.0) ∙ sym (ap (λ (t : List ℕ). t ++ others) x.0) in
    carry (λ (p : Head × List ℕ). HeadTaken (v ∷ f ∷ c ∷ q ∷ others) p.0 p.1) (b.0, others) (h, rest) b.2 (record { taken = record { parts = whole; rest_fits = others_fit }; flags = x.1 })
head_takes [] h rest fits e = absurd cc
head_takes (v ∷ []) h rest fits e = absurd cc
head_takes (v ∷ f ∷ []) h rest fits e = absurd cc
head_takes (v ∷ f ∷ c ∷ []) h rest fits e = absurd cc

-- ---- addresses

abbrev pub addresses_text : Widths → Addresses → List ℕ
addresses_text w a = be w.addr a.dst ++ be w.addr a.src ++ be w.cep a.dcep ++ be w.cep a.scep

pub record AddressesTaken (w : Widths) (bytes : List ℕ) (a : Addresses) (rest : List ℕ) : Type 0 where
  pub taken : Takes bytes (addresses_text w a) rest
  pub dst : a.dst < 2 ^ (8 * w.addr)
  pub src : a.src < 2 ^ (8 * w.addr)
  pub dcep : a.dcep < 2 ^ (8 * w.cep)
  pub scep : a.scep < 2 ^ (8 * w.cep)

abbrev addresses_of : ℕ → ℕ → ℕ → ℕ → Addresses
addresses_of dst src dcep scep = record { dst = dst; src = src; dcep = dcep; scep = scep }

addresses_take : (w : Widths) (bytes : List ℕ) (a : Addresses) (rest : List ℕ) → AreWidths w → IsBytes bytes → addresses_at w bytes ≡ Some (a, rest) → AddressesTaken w bytes a rest
unfolding addresses_at
addresses_take w bytes a rest widths fits e =
    let addr = wide w.addr widths.addr in
    let cep = wide w.cep widths.cep in
    let b0 = bind_some (number_at w.addr bytes) (λ dst. number_at w.addr dst.1 >>= λ src. number_at w.cep src.1 >>= λ dcep. number_at w.cep dcep.1 >>= λ scep. Some (addresses_of dst.0 src.0 dcep.0 scep.0, scep.1)) (a, rest) e in
    let b1 = bind_some (number_at w.addr b0.0.1) (λ src. number_at w.cep src.1 >>= λ dcep. number_at w.cep dcep.1 >>= λ scep. Some (addresses_of b0.0.0 src.0 dcep.0 scep.0, scep.1)) (a, rest) b0.2 in
    let b2 = bind_some (number_at w.cep b1.0.1) (λ dcep. number_at w.cep dcep.1 >>= λ scep. Some (addresses_of b0.0.0 b1.0.0 dcep.0 scep.0, scep.1)) (a, rest) b1.2 in
    let b3 = bind_some (number_at w.cep b2.0.1) (λ scep. Some (addresses_of b0.0.0 b1.0.0 b2.0.0 scep.0, scep.1)) (a, rest) b2.2 in
    let t0 = number_takes w.addr bytes b0.0.0 b0.0.1 addr fits b0.1 in
    let t1 = number_takes w.addr b0.0.1 b1.0.0 b1.0.1 addr t0.0.rest_fits b1.1 in
    let t2 = number_takes w.cep b1.0.1 b2.0.0 b2.0.1 cep t1.0.rest_fits b2.1 in
    let t3 = number_takes w.cep b2.0.1 b3.0.0 b3.0.1 cep t2.0.rest_fits b3.1 in
    let two = Takes-then bytes (be w.addr b0.0.0) b0.0.1 (be w.addr b1.0.0) b1.0.1 t0.0 t1.0 in
    let three = Takes-then bytes (be w.addr b0.0.0 ++ be w.addr b1.0.0) b1.0.1 (be w.cep b2.0.0) b2.0.1 two t2.0 in
    let four = Takes-then bytes (be w.addr b0.0.0 ++ be w.addr b1.0.0 ++ be w.cep b2.0.0) b2.0.1 (be w.cep b3.0.0) b3.0.1 three t3.0 in
    let made : Addresses × List ℕ = (addresses_of b0.0.0 b1.0.0 b2.0.0 b3.0.0, b3.0.1) in
    carry (λ (x : Addresses × List ℕ). AddressesTaken w bytes x.0 x.1) made (a, rest) b3.2 (record { taken = four; dst = t0.1; src = t1.1; dcep = t2.1; scep = t3.1 })

addresses_again : (w : Widths) (a : Addresses) (rest : List ℕ) → AreWidths w → a.dst < 2 ^ (8 * w.addr) → a.src < 2 ^ (8 * w.addr) → a.dcep < 2 ^ (8 * w.cep) → a.scep < 2 ^ (8 * w.cep)
    → addresses_at w (addresses_text w a ++ rest) ≡ Some (a, rest)
unfolding addresses_at
addresses_again w a rest widths dst src dcep scep =
    let addr = wide w.addr widths.addr in
    let cep = wide w.cep widths.cep in
    let regrouped : addresses_text w a ++ rest ≡ be w.addr a.dst ++ (be w.addr a.src ++ (be w.cep a.dcep ++ (be w.cep a.scep ++ rest))) = simp append_assoc in
    ap (addresses_at w) regrouped ∙ rw (number_again w.addr a.dst (be w.addr a.src ++ (be w.cep a.dcep ++ (be w.cep a.scep ++ rest))) addr dst, number_again w.addr a.src (be w.cep a.dcep ++ (be w.cep a.scep ++ rest)) addr src, number_again w.cep a.dcep (be w.cep a.scep ++ rest) cep dcep, number_again w.cep a.scep rest cep scep) refl

-- ---- numbers and body

abbrev pub NumbersOf : PduKind → Numbers → List ℕ → Type 0
NumbersOf Piece n body = (n.ack ≡ 0) × (n.right ≡ 0)
NumbersOf Ack n body = (n.seq ≡ 0) × (body ≡ [])

abbrev pub numbers_text : Widths → PduKind → Numbers → List ℕ → List ℕ
numbers_text w Piece n body = be w.seq n.seq ++ body
numbers_text w Ack n body = be w.seq n.ack ++ be w.seq n.right

pub record NumbersTaken (w : Widths) (k : PduKind) (bytes : List ℕ) (n : Numbers) (body : List ℕ) : Type 0 where
  pub parts : bytes ≡ numbers_text w k n body
  pub kind : NumbersOf k n body
  pub seq : n.seq < 2 ^ (8 * w.seq)
  pub ack : n.ack < 2 ^ (8 * w.seq)
  pub right : n.right < 2 ^ (8 * w.seq)

abbrev numbers_of : ℕ → ℕ → ℕ → Numbers
numbers_of seq ack right = record { seq = seq; ack = ack; right = right }

numbers_take : (w : Widths) (k : PduKind) (bytes : List ℕ) (n : Numbers) (body : List ℕ) → AreWidths w → IsBytes bytes → numbers_at w k bytes ≡ Some (n, body) → NumbersTaken w k bytes n body
unfolding numbers_at
numbers_take w Piece bytes n body widths fits e =
    let seq = wide w.seq widths.seq in
    let b = bind_some (number_at w.seq bytes) (λ seq. Some (numbers_of seq.0 0 0, seq.1)) (n, body) e in
    let t = number_takes w.seq bytes b.0.0 b.0.1 seq fits b.1 in
    let made : Numbers × List ℕ = (numbers_of b.0.0 0 0, b.0.1) in
    carry (λ (x : Numbers × List ℕ). NumbersTaken w Piece bytes x.0 x.1) made (n, body) b.2 (record { parts = t.0.parts; kind = (refl, refl); seq = t.1; ack = seq.some; right = seq.some })
numbers_take w Ack bytes n body widths fits e =
    let seq = wide w.seq widths.seq in
    let b0 = bind_some (number_at w.seq bytes) (λ ack. number_at w.seq ack.1 >>= λ right. cond (eqb (length right.1) 0) (Some (numbers_of 0 ack.0 right.0, [])) None) (n, body) e in
    let b1 = bind_some (number_at w.seq b0.0.1) (λ right. cond (eqb (length right.1) 0) (Some (numbers_of 0 b0.0.0 right.0, [])) None) (n, body) b0.2 in
    let g = guard (eqb (length b1.0.1) 0) (Some (numbers_of 0 b0.0.0 b1.0.0, [])) (n, body) b1.2 in
    let t0 = number_takes w.seq bytes b0.0.0 b0.0.1 seq fits b0.1 in
    let t1 = number_takes w.seq b0.0.1 b1.0.0 b1.0.1 seq t0.0.rest_fits b1.1 in
    let nothing : b1.0.1 ≡ [] = nil_from_length b1.0.1 (eqb-true _ _ g.0) in
    let whole : bytes ≡ be w.seq b0.0.0 ++ be w.seq b1.0.0 = t0.0.parts ∙ ap (λ (x : List ℕ). be w.seq b0.0.0 ++ x) (t1.0.parts ∙ ap (λ (x : List ℕ). be w.seq b1.0.0 ++ x) nothing ∙ append-nil (be w.seq b1.0.0)) in
    let made : Numbers × List ℕ = (numbers_of 0 b0.0.0 b1.0.0, []) in
    carry (λ (x : Numbers × List ℕ). NumbersTaken w Ack bytes x.0 x.1) made (n, body) g.1 (record { parts = whole; kind = (refl, refl); seq = seq.some; ack = t0.1; right = t1.1 })

numbers_again : (w : Widths) (k : PduKind) (n : Numbers) (body : List ℕ) → AreWidths w → NumbersOf k n body → n.seq < 2 ^ (8 * w.seq) → n.ack < 2 ^ (8 * w.seq) → n.right < 2 ^ (8 * w.seq)
    → numbers_at w k (numbers_text w k n body) ≡ Some (n, body)
unfolding numbers_at
numbers_again w Piece n body widths none seq ack right =
    let read = number_again w.seq n.seq body (wide w.seq widths.seq) seq in
    let same : numbers_of n.seq 0 0 ≡ n = ap (λ (x : ℕ). numbers_of n.seq 0 x) (sym none.1) ∙ ap (λ (x : ℕ). numbers_of n.seq x n.right) (sym none.0) in
    rw read (ap (λ (x : Numbers). found (x, body)) same)
numbers_again w Ack n body widths none seq ack right =
    let first = number_again w.seq n.ack (be w.seq n.right) (wide w.seq widths.seq) ack in
    let second : number_at w.seq (be w.seq n.right) ≡ Some (n.right, []) = ap (number_at w.seq) (sym (append-nil (be w.seq n.right))) ∙ number_again w.seq n.right [] (wide w.seq widths.seq) right in
    let same : numbers_of 0 n.ack n.right ≡ n = ap (λ (x : ℕ). numbers_of x n.ack n.right) (sym none.0) in
    rw (first, second) (ap (λ (x : Numbers). found (x, [])) same ∙ ap (λ (x : List ℕ). found (n, x)) (sym none.1))

-- ---- the whole

LeavesOut-of : (k : PduKind) (h : Head) (a : Addresses) (n : Numbers) (body : List ℕ) → FlagsOf k h → NumbersOf k n body → LeavesOut k (pdu_with h a n body)
LeavesOut-of Piece h a n body f g = g
LeavesOut-of Ack h a n body f g = (f.0, f.1, f.2, g.0, g.1)

numbers_text-is : (w : Widths) (k : PduKind) (h : Head) (a : Addresses) (n : Numbers) (body : List ℕ) → numbers_text w k n body ≡ numbers_and_body w k (pdu_with h a n body)
numbers_text-is w Piece h a n body = refl
numbers_text-is w Ack h a n body = refl

length-numbers : (w : Widths) (k : PduKind) (p : Pdu) → AreWidths w → LeavesOut k p → 4 + 2 * w.addr + 2 * w.cep + w.len + length (numbers_and_body w k p) ≡ pci_size k w + length p.body
unfolding pci_size
length-numbers w Piece p widths out = omega (arith, length-append (be w.seq p.seq) p.body, (wide w.seq widths.seq).len p.seq)
length-numbers w Ack p widths out = omega (arith, length-append (be w.seq p.ack) (be w.seq p.right), (wide w.seq widths.seq).len p.ack, (wide w.seq widths.seq).len p.right, ap length out.4)

length-addresses : (w : Widths) (p : Pdu) → AreWidths w → length (addresses w p) ≡ 2 * w.addr + 2 * w.cep
length-addresses w p widths =
    let addr = wide w.addr widths.addr in
    let cep = wide w.cep widths.cep in
    let a = length-append (be w.addr p.dst) (be w.addr p.src) in
    let b = length-append (be w.addr p.dst ++ be w.addr p.src) (be w.cep p.dcep) in
    let c = length-append (be w.addr p.dst ++ be w.addr p.src ++ be w.cep p.dcep) (be w.cep p.scep) in
    omega (arith, a, b, c, addr.len p.dst, addr.len p.src, cep.len p.dcep, cep.len p.scep)

-- the length of the bytes, whatever they say that it is
pub length-spelling : (w : Widths) (p : Pdu) (m : ℕ) → AreWidths w → IsProper p → length (head p ++ addresses w p ++ be w.len m ++ numbers_and_body w p.kind p) ≡ pdu_size w p
unfolding head
length-spelling w p m widths proper =
    let a = length-append (head p) (addresses w p) in
    let b = length-append (head p ++ addresses w p) (be w.len m) in
    let c = length-append (head p ++ addresses w p ++ be w.len m) (numbers_and_body w p.kind p) in
    omega (arith, a, b, c, length-addresses w p widths, (wide w.len widths.len).len m, length-numbers w p.kind p widths proper)

pub length-spelled : (w : Widths) (p : Pdu) → AreWidths w → IsProper p → length (spelling w p) ≡ pdu_size w p
unfolding spelling
length-spelled w p widths proper = length-spelling w p (pdu_size w p) widths proper

abbrev sized : List ℕ → Head → Addresses → ℕ → Numbers × List ℕ → Option Pdu
sized bytes h a len n = cond (eqb len (length bytes)) (Some (pdu_with h a n.0 n.1)) None

-- the parts that were read are those of a PDU that is spelled so
joined : (w : Widths) (bytes : List ℕ) (h : Head) (r0 : List ℕ) (a : Addresses) (r1 : List ℕ) (len : ℕ) (r2 : List ℕ) (n : Numbers) (body : List ℕ) → AreWidths w
    → HeadTaken bytes h r0 → AddressesTaken w r0 a r1 → Takes r1 (be w.len len) r2 → len < 2 ^ (8 * w.len) → NumbersTaken w h.kind r2 n body → len ≡ length bytes
    → Fits w (pdu_with h a n body) × (bytes ≡ spelling w (pdu_with h a n body))
unfolding spelling head
joined w bytes h r0 a r1 len r2 n body widths head_taken addresses_taken size_taken lt numbers_taken long =
    let p : Pdu = pdu_with h a n body in
    let two = Takes-then bytes (head_text h) r0 (addresses_text w a) r1 head_taken.taken addresses_taken.taken in
    let three = Takes-then bytes (head_text h ++ addresses_text w a) r1 (be w.len len) r2 two size_taken in
    let proper : IsProper p = LeavesOut-of h.kind h a n body head_taken.flags numbers_taken.kind in
    let parts : bytes ≡ head p ++ addresses w p ++ be w.len len ++ numbers_and_body w p.kind p = three.parts ∙ ap (λ (x : List ℕ). head_text h ++ addresses_text w a ++ be w.len len ++ x) (numbers_taken.parts ∙ numbers_text-is w h.kind h a n body) in
    let size : len ≡ pdu_size w p = long ∙ ap length parts ∙ length-spelling w p len widths proper in
    let whole : bytes ≡ spelling w p = parts ∙ ap (λ (x : ℕ). head p ++ addresses w p ++ be w.len x ++ numbers_and_body w p.kind p) size in (
      record {
        proper = proper;
        dst = addresses_taken.dst;
        src = addresses_taken.src;
        dcep = addresses_taken.dcep;
        scep = addresses_taken.scep;
        len = subst (λ (x : ℕ). x < 2 ^ (8 * w.len)) size lt;
        seq = numbers_taken.seq;
        ack = numbers_taken.ack;
        right = numbers_taken.right;
      },
      whole,
    )

pub pdu_takes : (w : Widths) (bytes : List ℕ) (p : Pdu) → AreWidths w → IsBytes bytes → pdu_at w bytes ≡ Some p → Fits w p × (bytes ≡ spelling w p)
unfolding pdu_at
pdu_takes w bytes p widths fits e =
    let b0 = bind_some (head_at bytes) (λ h. addresses_at w h.1 >>= λ a. number_at w.len a.1 >>= λ len. numbers_at w h.0.kind len.1 >>= λ n. sized bytes h.0 a.0 len.0 n) p e in
    let b1 = bind_some (addresses_at w b0.0.1) (λ a. number_at w.len a.1 >>= λ len. numbers_at w b0.0.0.kind len.1 >>= λ n. sized bytes b0.0.0 a.0 len.0 n) p b0.2 in
    let b2 = bind_some (number_at w.len b1.0.1) (λ len. numbers_at w b0.0.0.kind len.1 >>= λ n. sized bytes b0.0.0 b1.0.0 len.0 n) p b1.2 in
    let b3 = bind_some (numbers_at w b0.0.0.kind b2.0.1) (λ n. sized bytes b0.0.0 b1.0.0 b2.0.0 n) p b2.2 in
    let g = guard (eqb b2.0.0 (length bytes)) (Some (pdu_with b0.0.0 b1.0.0 b3.0.0 b3.0.1)) p b3.2 in
    let h = head_takes bytes b0.0.0 b0.0.1 fits b0.1 in
    let a = addresses_take w b0.0.1 b1.0.0 b1.0.1 widths h.taken.rest_fits b1.1 in
    let len = number_takes w.len b1.0.1 b2.0.0 b2.0.1 (wide w.len widths.len) a.taken.rest_fits b2.1 in
    let n = numbers_take w b0.0.0.kind b2.0.1 b3.0.0 b3.0.1 widths len.0.rest_fits b3.1 in
    carry (λ (x : Pdu). Fits w x × (bytes ≡ spelling w x)) (pdu_with b0.0.0 b1.0.0 b3.0.0 b3.0.1) p g.1 (joined w bytes b0.0.0 b0.0.1 b1.0.0 b1.0.1 b2.0.0 b2.0.1 b3.0.0 b3.0.1 widths h a len.0 len.1 n (eqb-true _ _ g.0))

-- ---- what is written is read

abbrev head_from : PduKind → Pdu → Head
head_from k p = record { kind = k; drf = p.drf; first = p.first; last = p.last; qos = p.qos }

abbrev addresses_from : Pdu → Addresses
addresses_from p = record { dst = p.dst; src = p.src; dcep = p.dcep; scep = p.scep }

abbrev numbers_from : Pdu → Numbers
numbers_from p = record { seq = p.seq; ack = p.ack; right = p.right }

flags_from : (k : PduKind) (p : Pdu) → LeavesOut k p → FlagsOf k (head_from k p)
flags_from Piece p out = tt
flags_from Ack p out = (out.0, out.1, out.2)

numbers_from-of : (k : PduKind) (p : Pdu) → LeavesOut k p → NumbersOf k (numbers_from p) p.body
numbers_from-of Piece p out = out
numbers_from-of Ack p out = (out.3, out.4)

numbers_from-text : (w : Widths) (k : PduKind) (p : Pdu) → numbers_and_body w k p ≡ numbers_text w k (numbers_from p) p.body
numbers_from-text w Piece p = refl
numbers_from-text w Ack p = refl

abbrev head_with : PduKind → Bool → Bool → Bool → ℕ → Head
head_with k drf first last qos = record { kind = k; drf = drf; first = first; last = last; qos = qos }

head_of_again : (k : PduKind) (drf first last : Bool) (qos : ℕ) → FlagsOf k (head_with k drf first last qos) → head_of (flags drf first last) (code k) qos ≡ Some (head_with k drf first last qos)
unfolding head_of flags
head_of_again Piece true true true qos f = refl
head_of_again Piece true true false qos f = refl
head_of_again Piece true false true qos f = refl
head_of_again Piece true false false qos f = refl
head_of_again Piece false true true qos f = refl
head_of_again Piece false true false qos f = refl
head_of_again Piece false false true qos f = refl
head_of_again Piece false false false qos f = refl
head_of_again Ack false false false qos f = refl
head_of_again Ack false false true qos f = absurd cc
head_of_again Ack false true last qos f = absurd cc
head_of_again Ack true first last qos f = absurd cc

head_again : (p : Pdu) (rest : List ℕ) → IsProper p → head_at (head p ++ rest) ≡ Some (head_from p.kind p, rest)
unfolding head_at head
head_again p rest proper = rw (head_of_again p.kind p.drf p.first p.last p.qos (flags_from p.kind p proper)) refl

pub pdu_again : (w : Widths) (p : Pdu) → AreWidths w → Fits w p → pdu_at w (spelling w p) ≡ Some p
unfolding pdu_at spelling
pdu_again w p widths fits =
    let numbers = numbers_and_body w p.kind p in
    let size = be w.len (pdu_size w p) in
    let regrouped : head p ++ addresses w p ++ size ++ numbers ≡ head p ++ (addresses w p ++ (size ++ numbers)) = simp append_assoc in
    let first : head_at (head p ++ addresses w p ++ size ++ numbers) ≡ Some (head_from p.kind p, addresses w p ++ (size ++ numbers)) = ap head_at regrouped ∙ head_again p (addresses w p ++ (size ++ numbers)) fits.proper in
    let second : addresses_at w (addresses w p ++ (size ++ numbers)) ≡ Some (addresses_from p, size ++ numbers) = addresses_again w (addresses_from p) (size ++ numbers) widths fits.dst fits.src fits.dcep fits.scep in
    let third : number_at w.len (size ++ numbers) ≡ Some (pdu_size w p, numbers) = number_again w.len (pdu_size w p) numbers (wide w.len widths.len) fits.len in
    let fourth : numbers_at w p.kind numbers ≡ Some (numbers_from p, p.body) = ap (numbers_at w p.kind) (numbers_from-text w p.kind p) ∙ numbers_again w p.kind (numbers_from p) p.body widths (numbers_from-of p.kind p fits.proper) fits.seq fits.ack fits.right in
    let long : eqb (pdu_size w p) (length (head p ++ addresses w p ++ size ++ numbers)) ≡ true = eq-eqb _ _ (sym (length-spelling w p (pdu_size w p) widths fits.proper)) in
    rw (first, second, third, fourth, long) refl

pub is_found : (w : Widths) (bytes : List ℕ) (r : Option PduView) → AreWidths w → IsBytes bytes → option_map pdu_of r ≡ pdu_at w bytes → IfSome r (λ v. Fits w (pdu_of v) × (bytes ≡ spelling w (pdu_of v)))
is_found w bytes (Some v) widths fits e = pdu_takes w bytes (pdu_of v) widths fits (sym e)
is_found w bytes None widths fits e = tt
