-- A number that is sent again is the machine's.
use Rattle.std.proofs.Common.{◌≡◌, ℕ, Bool, true, false, Option, Some, None, refl, sym, ◌∙◌, ap, subst, is_some, option_map, position}
use Rattle.rina_base.specs.declared.pdu.Pdu.{Pdu}
use Rattle.rina_dtcp.specs.Rows.{LendsAgain, after_again}
use Rattle.rina_dtcp.specs.Senders.{Kept}
use Rattle.rina_dtcp.specs.Sents.{is_due}
use Rattle.rina_dtp.specs.declared.numbers.Numbers.{Numbers}
use Rattle.rina_dtp.specs.Numbers.{Counts}
use Rattle.rina_law.specs.Sender.{Sender, again_due, piece_again}
use Rattle.rina_conn.specs.declared.sending.Sending.{Sending}
use Rattle.rina_conn.specs.Carrying.{carry}
use Rattle.rina_conn.specs.Sending.{NotesIf, SendsAgain, IsResent}

some_mapped : (f : ℕ → Pdu) (o : Option ℕ) → is_some (option_map f o) ≡ is_some o
some_mapped f (Some n) = refl
some_mapped f None = refl

max_by : (b : Bool) (now : ℕ) (old new : Numbers) → NotesIf b now old new → new.max ≡ old.max
max_by true now old new h = h.0
max_by false now old new h = ap (λ (n : Numbers). n.max) h

counts_by : (o : Option ℕ) (b : Bool) (now : ℕ) (m : Sender) (old new : Numbers) → is_some o ≡ b → NotesIf b now old new → Counts m old → Counts (after_again o now m) new
counts_by (Some n) true now m old new e h counts = h.1 m n counts
counts_by (Some n) false now m old new e h counts = cc
counts_by None true now m old new e h counts = cc
counts_by None false now m old new e h counts = rw h counts

same_numbers : (b : Bool) (now : ℕ) (old new : Numbers) → NotesIf b now old new → b ≡ false → new ≡ old
same_numbers true now old new h e = cc
same_numbers false now old new h e = h

sends_by : (b : Bool) (now : ℕ) (old : Sending) (numbers : Numbers) (lent : Option Pdu) (tx : Kept) → is_some lent ≡ b → LendsAgain now old.tx lent tx → NotesIf b now old.numbers numbers → SendsAgain now old (record old { numbers = numbers; tx = tx })
sends_by b now old numbers lent tx e lends notes = record {
  form = refl;
  max = max_by b now old.numbers numbers notes;
  stands = (λ c m st.
      (let row = lends.resends c (carry old.form.peer old.form.cube.id) m st.tx in
      let due : is_some (again_due c now m) ≡ b = sym (ap is_some row.0 ∙ some_mapped (λ n. carry old.form.peer old.form.cube.id (piece_again n m)) (again_due c now m)) ∙ e in
      record {
        cube = st.cube;
        piece = st.piece;
        max = max_by b now old.numbers numbers notes ∙ st.max;
        cep = st.cep;
        tx = row.1;
        numbers = counts_by (again_due c now m) b now m old.numbers numbers due notes st.numbers;
      }));
}

again_row : (b : Bool) (now : ℕ) (old : Sending) (numbers : Numbers) (lent : Option Pdu) (tx : Kept) → is_some lent ≡ b → LendsAgain now old.tx lent tx → NotesIf b now old.numbers numbers → IsResent now old lent (record old { numbers = numbers; tx = tx })
again_row b now old numbers lent tx e lends notes = record {
  told = (λ c m st. (lends.resends c (carry old.form.peer old.form.cube.id) m st.tx).0);
  sends = sends_by b now old numbers lent tx e lends notes;
  idle = (λ none.
      (let same : numbers ≡ old.numbers = same_numbers b now old.numbers numbers notes (sym e ∙ ap is_some none) in
      let kept : tx ≡ old.tx = lends.idle none in
      rw (same, kept) refl));
}

pub again_via : (now : ℕ) (old between : Sending) (lent : Option Pdu) (tx : Kept) → between ≡ record old { numbers = between.numbers } → NotesIf (is_some (position (is_due old.tx.cube now) old.tx.unacked)) now old.numbers between.numbers → LendsAgain now between.tx lent tx → IsResent now old lent (record { form = between.form; numbers = between.numbers; tx = tx })
again_via now old between lent tx same notes lends =
    let P : Kept → Type 0 = λ k. LendsAgain now k lent tx in
    let lends' : LendsAgain now old.tx lent tx = subst P (ap (λ (s : Sending). s.tx) same) lends in
    let form : between.form ≡ old.form = ap (λ (s : Sending). s.form) same in
    rw form (again_row _ now old between.numbers lent tx lends'.there lends' notes)
