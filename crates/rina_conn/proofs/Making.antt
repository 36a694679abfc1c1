-- The PDUs that are made of the parts of an SDU carry the machine's pieces.
use Rattle.std.proofs.Common.{◌≡◌, ℕ, suc, ◌+◌, ◌<◌, Bool, List, [], ◌∷◌, ◌++◌, length, map, drop, slice_get, Some, refl, ◌∙◌, ap, arith, append_assoc, inl, inr}
use Rattle.std.proofs.Math.Seq.{drop-cons}
use Rattle.std.proofs.lemmas.List.{length-append}
use Rattle.std.proofs.lemmas.Option.{get_or_from_slice_get, slice_get_within, slice_get_cases}
use Rattle.rina_base.specs.declared.pdu.Pdu.{Pdu}
use Rattle.rina_delim.specs.declared.part.Part as delim
use Rattle.rina_law.specs.Constants.{Constants}
use Rattle.rina_law.specs.Pieces.{Part}
use Rattle.rina_law.specs.Receiver.{Piece}
use Rattle.rina_law.specs.Sender.{Sender, drf_for, member_for, sender_with, pieces_for}
use Rattle.rina_dtcp.specs.Senders.{Kept, flag_of}
use Rattle.rina_dtcp.specs.Rows.{Stands, ready}
use Rattle.rina_dtcp.proofs.Standing.{flag_is}
use Rattle.rina_conn.specs.Carrying.{made_from}

pub made_step : (flag : ℕ → Bool) (form : Piece → Pdu) (f : delim.Part → Part) (first at : ℕ) (parts : List delim.Part) (pdus all : List Pdu) (x : delim.Part) (pdu : Pdu) → slice_get parts at ≡ Some x → pdu ≡ form (record { number = first + at; drf = flag (first + at); part = f x }) → pdus ++ made_from flag form (first + at) (map f (drop at parts)) ≡ all → (pdus ++ pdu ∷ []) ++ made_from flag form (first + (at + 1)) (map f (drop (at + 1) parts)) ≡ all
made_step flag form f first at parts pdus all x pdu there is e =
    let within = slice_get_within parts at x there in
    let here = get_or_from_slice_get parts at x x there in
    let split : drop at parts ≡ x ∷ drop (suc at) parts = drop-cons parts at x within ∙ ap (λ y. y ∷ drop (suc at) parts) here in
    let one : suc at ≡ at + 1 = omega arith in
    let split' : drop at parts ≡ x ∷ drop (at + 1) parts = split ∙ ap (λ n. x ∷ drop n parts) one in
    let next : first + at + 1 ≡ first + (at + 1) = omega arith in
    let all' = rw (split', next) at e in
    append_assoc pdus (pdu ∷ []) (made_from flag form (first + (at + 1)) (map f (drop (at + 1) parts))) ∙ ap (λ p. pdus ++ (p ∷ made_from flag form (first + (at + 1)) (map f (drop (at + 1) parts)))) is ∙ all'

pub made_next : (flag : ℕ → Bool) (form : Piece → Pdu) (f : delim.Part → Part) (first at : ℕ) (parts : List delim.Part) (pdus all new : List Pdu) (pdu : Pdu) → at < length parts → ((p : delim.Part) → slice_get parts at ≡ Some p → pdu ≡ form (record { number = first + at; drf = flag (first + at); part = f p })) → pdus ++ made_from flag form (first + at) (map f (drop at parts)) ≡ all → new ≡ pdus ++ pdu ∷ [] → new ++ made_from flag form (first + (at + 1)) (map f (drop (at + 1) parts)) ≡ all
made_next flag form f first at parts pdus all new pdu h is e n = elim (slice_get_cases parts at).1 [
  | inl (x, within, there, read) ↦ rw n (made_step flag form f first at parts pdus all x pdu there (is x there) e)
  | inr (past, none) ↦ absurd (omega arith)
]

pub made_is : (c : Constants) (form : Piece → Pdu) (now : ℕ) (m : Sender) (k : Kept) → Stands c form m k → (parts : List Part) (seq : ℕ) (tx : Sender) → seq ≡ length tx.run → tx.acked ≡ (ready c now m).acked → made_from (λ n. flag_of now n k) form seq parts ≡ map form (pieces_for c now parts tx)
made_is c form now m k st [] seq tx n a = refl
made_is c form now m k st (p ∷ ps) seq tx n a =
    let flag = flag_is c form now m tx k st a in
    let long = length-append tx.run (member_for c now p tx ∷ []) in
    let rest = made_is c form now m k st ps (seq + 1) (sender_with c now p tx) (omega arith) a in
    rw (n, flag) (ap (λ ys. form (record { number = length tx.run; drf = drf_for c.cube.kind tx; part = p }) ∷ ys) (rw n at rest))
