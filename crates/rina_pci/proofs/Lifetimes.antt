-- A lifetime that is read is spelled so, and what is spelled is read again.
use Rattle.std.proofs.Common.{◌≡◌, ℕ, ◌+◌, ◌^◌, ◌<◌, ◌≤◌, ltb, false, List, ◌++◌, Bor, length, take, drop, Option, Some, None, refl, sym, ap, ◌∙◌, arith}
use Rattle.std.specs.Int.{w32, from_be_bytes, to_be_bytes}
use Rattle.std.proofs.lemmas.Bool.{ltb-false, le-ltb}
use Rattle.std.proofs.lemmas.List.{take-append-drop, length-append, length-take}
use Rattle.std.proofs.lemmas.Nat.{be_bytes_4, from_be_bytes-to_be_bytes_4}
use Rattle.std.specs.Prelude.{IfSome, option_map}
use Rattle.rina_pci.specs.Spelling.{IsBytes}
use Rattle.rina_pci.specs.Life.{protected, life_at}
use Rattle.rina_pci.proofs.Fields.{guard_not, IsBytes-take}

pub life_takes : (bytes : List ℕ) (life : ℕ) (pdu : List ℕ) → IsBytes bytes → life_at bytes ≡ Some (life, pdu) → (bytes ≡ protected life pdu) × (life < 2 ^ 32)
unfolding life_at protected
life_takes bytes life pdu fits e =
    let g = guard_not (ltb (length bytes) 4) (from_be_bytes w32 (take 4 bytes), drop 4 bytes) (life, pdu) e in
    let long : 4 ≤ length bytes = ltb-false _ _ g.0 in
    let front = IsBytes-take 4 bytes fits in
    let life-is : from_be_bytes w32 (take 4 bytes) ≡ life = ap (λ (p : ℕ × List ℕ). p.0) g.1 in
    let pdu-is : drop 4 bytes ≡ pdu = ap (λ (p : ℕ × List ℕ). p.1) g.1 in
    let back : to_be_bytes w32 (from_be_bytes w32 (take 4 bytes)) ≡ take 4 bytes = be_bytes_4 (take 4 bytes) _ (omega (arith, length-take 4 bytes)) front refl in
    let below : from_be_bytes w32 (take 4 bytes) < 2 ^ 32 = omega (arith, front 0, front 1, front 2, front 3) in
    (sym (take-append-drop 4 bytes) ∙ ap (λ (x : List ℕ). x ++ drop 4 bytes) (sym back ∙ ap (to_be_bytes w32) life-is) ∙ ap (λ (x : List ℕ). to_be_bytes w32 life ++ x) pdu-is, rw life-is at below)

abbrev found : ℕ → List ℕ → Option (ℕ × List ℕ)
found life pdu = Some (life, pdu)

pub life_again : (life : ℕ) (pdu : List ℕ) → life < 2 ^ 32 → life_at (protected life pdu) ≡ Some (life, pdu)
unfolding life_at protected
life_again life pdu lt =
    let long : ltb (length (protected life pdu)) 4 ≡ false = le-ltb _ _ (omega (arith, length-append (to_be_bytes w32 life) pdu)) in
    rw long (ap (λ (n : ℕ). found n pdu) (from_be_bytes-to_be_bytes_4 life lt))

abbrev lent : ℕ × Bor (List ℕ) → ℕ × List ℕ
lent x = (x.0, x.1.now)

pub is_found : (bytes : List ℕ) (r : Option (ℕ × Bor (List ℕ))) → IsBytes bytes → option_map lent r ≡ life_at bytes → IfSome r (λ x. bytes ≡ protected x.0 x.1.now)
is_found bytes (Some x) fits e = (life_takes bytes x.0 x.1.now fits (sym e)).0
is_found bytes None fits e = tt

pub length-protected : (life : ℕ) (pdu : List ℕ) → length (protected life pdu) ≡ 4 + length pdu
unfolding protected
length-protected life pdu = omega (arith, length-append (to_be_bytes w32 life) pdu)
