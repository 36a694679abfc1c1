-- The mark of the next acknowledgement follows the machine's.
use Rattle.std.proofs.Common.{◌≡◌, ℕ, Bool, true, false, cond, List, Option, Some, None, refl, sym, ◌∙◌, ap, subst, unwrap_or}
use Rattle.rina_base.specs.declared.pdu.Pdu.{Pdu}
use Rattle.rina_dtcp.specs.Plans.{Plan, IsPlanOf, IsLastIn, TellsPass}
use Rattle.rina_dtp.specs.declared.verdict.Verdict.{Verdict}
use Rattle.rina_dtp.specs.Lost.{told, told_accepted}
use Rattle.rina_dtp.specs.Observed.{TellsLastIn}
use Rattle.rina_dtp.specs.Stands.{IsRow}
use Rattle.rina_law.specs.Constants.{Constants}
use Rattle.rina_law.specs.Pieces.{Joiner, Sdu}
use Rattle.rina_law.specs.Receiver as law
use Rattle.rina_law.specs.Receiver.{Receiver, mark_after}
use Rattle.rina_conn.specs.declared.conn.Conn.{Conn}
use Rattle.rina_conn.specs.Conns.{marks, PassesOn, HasNoLast, Marks, Passes}

-- the machine's verdicts that want an acknowledgement
wants : law.Verdict → Bool
wants law.Accepted = true
wants law.Held = true
wants law.Duplicate = true
wants law.Behind = false
wants law.NoState = false
wants law.NoRoom = false

marks_accepted : (b : Bool) (missing whole : ℕ) → marks (told_accepted b missing whole) ≡ true
marks_accepted true missing whole = refl
marks_accepted false missing whole = refl

marks_told : (v : law.Verdict) (window : ℕ) (pdu : Pdu) (m : Receiver) (j : Joiner) (whole : List Sdu) → marks (told v window pdu m j whole) ≡ wants v
unfolding wants
marks_told law.Accepted window pdu m j whole = marks_accepted _ _ _
marks_told law.Held window pdu m j whole = refl
marks_told law.Duplicate window pdu m j whole = refl
marks_told law.Behind window pdu m j whole = refl
marks_told law.NoState window pdu m j whole = refl
marks_told law.NoRoom window pdu m j whole = refl

mark_is : (v : law.Verdict) (now : ℕ) (last_in : Option ℕ) (old new : Plan) → PassesOn now last_in (wants v) old new → (c : Constants) (rx : Receiver) (mark : Option ℕ) → IsPlanOf c mark old → IsLastIn rx last_in → IsPlanOf c (mark_after v c now rx mark) new
unfolding wants
mark_is law.Accepted now last_in old new h c rx mark p l = h c rx mark p l
mark_is law.Held now last_in old new h c rx mark p l = h c rx mark p l
mark_is law.Duplicate now last_in old new h c rx mark p l = h c rx mark p l
mark_is law.Behind now last_in old new h c rx mark p l = h ∙ p
mark_is law.NoState now last_in old new h c rx mark p l = h ∙ p
mark_is law.NoRoom now last_in old new h c rx mark p l = h ∙ p

last_by : (made : Bool) (last : ℕ) → (made ≡ false → last ≡ 0) → unwrap_or (cond made (Some last) None) 0 ≡ last
last_by true last h = refl
last_by false last h = sym (h refl)

last_is : (m : Receiver) (last_in : Option ℕ) → last_in ≡ cond m.made (Some m.last_in) None → HasNoLast m → IsLastIn m last_in
last_is m last_in e h = (e, rw e (last_by m.made m.last_in h))

pub marks_row : (now unpassed : ℕ) (pdu : Pdu) (last_in : Option ℕ) (old : Conn) (result : Verdict) (new : Conn) → TellsLastIn old.rx last_in → IsRow now pdu unpassed old.rx result new.rx → PassesOn now last_in (marks result) old.plan new.plan → Marks now pdu unpassed old result new
marks_row now unpassed pdu last_in old result new last row passes c m j mark st fetched welcome none plan =
    let came = row c m j st fetched welcome in
    let last' = last_is m last_in (last c now m j st) none in
    let same = ap marks came.told_is ∙ marks_told _ _ pdu m _ _ in
    let P : Bool → Type 0 = λ b. PassesOn now last_in b old.plan new.plan in
    mark_is _ now last_in old.plan new.plan (subst P same passes) c m mark plan last'

pub marks_passed : (now : ℕ) (last_in : Option ℕ) (old new : Conn) → TellsLastIn old.rx last_in → TellsPass now last_in old.plan new.plan → Passes now old new
marks_passed now last_in old new last passes c m j mark st none plan = passes c m mark plan (last_is m last_in (last c now m j st) none)
