-- The words, by what they have in common.
use Rattle.std.proofs.Common.{◌≡◌, ℕ, ◌+◌, List, Result, Ok, Err, refl, sym, ◌∙◌}
use Rattle.rina_base.specs.Traverse.{◌>>=◌}
use Rattle.rina_schedule.specs.declared.error.LineError.{LineError}
use Rattle.rina_schedule.specs.declared.event.Event.TheVariants as events
use Rattle.rina_schedule.specs.declared.words.alike.NameWord.{NameWord}
use Rattle.rina_schedule.specs.declared.words.alike.NameWord.TheVariants as names
use Rattle.rina_schedule.specs.declared.words.alike.AppWord.{AppWord}
use Rattle.rina_schedule.specs.declared.words.alike.AppWord.TheVariants as apps
use Rattle.rina_schedule.specs.declared.words.alike.FrameWord.{FrameWord}
use Rattle.rina_schedule.specs.declared.words.alike.FrameWord.TheVariants as frames
use Rattle.rina_schedule.specs.declared.words.alike.LinkWord.{LinkWord}
use Rattle.rina_schedule.specs.declared.words.alike.LinkWord.TheVariants as links
use Rattle.rina_schedule.specs.declared.words.place.Place.{Place}
use Rattle.rina_schedule.specs.declared.words.place.AppPlace.{AppPlace}
use Rattle.rina_schedule.specs.Fields.{name_field_at, app_field_at, number_at, bytes_at, end_at}
use Rattle.rina_schedule.specs.Shared.{place_at, last_place_at, last_app_place_at, last_name_at, last_number_at, last_numbers_at, last_bytes_at}
use Rattle.rina_schedule.specs.Alike.{app_event, app_word_at, name_event, name_word_at, frame_event, frame_word_at, link_event, link_word_at}
use Rattle.rina_schedule.specs.FlowWords.{register_at, unregister_at, accept_at, send_at, read_at, state_at, free_at}
use Rattle.rina_schedule.specs.WireWords.{lose_at, repeat_at, hold_at, cut_at, mend_at, retire_at, journal_at}
use Rattle.rina_schedule.specs.DifWords.{publish_at, enrol_at, member_at, in_at, out_at, clock_at, cdap_at, ledger_at}

-- ---- steps that are grouped

abbrev Read : Type 0 → Type 0
Read A = Result A LineError

same_steps : {A B : Type 0} (m : Read A) (f g : A → Read B) → ((x : A) → f x ≡ g x) → (m >>= f) ≡ (m >>= g)
same_steps (Ok x) f g h = h x
same_steps (Err e) f g h = refl

regroup : {A B C : Type 0} (m : Read A) (f : A → Read B) (k : B → Read C) → ((m >>= f) >>= k) ≡ (m >>= λ x. f x >>= k)
regroup (Ok x) f k = refl
regroup (Err e) f k = refl

-- two steps as one, whose value is made of the two
as_one : {A B C D : Type 0} (m : Read A) (f : A → Read B) (make : A → B → C) (k : C → Read D) → (m >>= λ x. f x >>= λ y. k (make x y)) ≡ ((m >>= λ x. f x >>= λ y. Ok (make x y)) >>= k)
as_one (Ok x) f make k = sym (regroup (f x) (λ y. Ok (make x y)) k)
as_one (Err e) f make k = refl

module _ {R : Type 0} where
  of_place : (n : ℕ) (text : List ℕ) (k : Place × List ℕ → Read R) → (name_field_at n text >>= λ fac. name_field_at (n + 1) fac.1 >>= λ node. k (record { fac = fac.0; node = node.0 }, node.1)) ≡ (place_at n text >>= k)
  unfolding place_at
  of_place n text k = as_one (name_field_at n text) (λ fac. name_field_at (n + 1) fac.1) (λ fac node. (record { fac = fac.0; node = node.0 }, node.1)) k

  of_last_place : (n : ℕ) (text : List ℕ) (k : Place → Read R) → (name_field_at n text >>= λ fac. name_field_at (n + 1) fac.1 >>= λ node. end_at (n + 2) node.1 >>= λ _. k (record { fac = fac.0; node = node.0 })) ≡ (last_place_at n text >>= k)
  unfolding last_place_at
  of_last_place n text k = of_place n text (λ at. end_at (n + 2) at.1 >>= λ _. k at.0) ∙ as_one (place_at n text) (λ at. end_at (n + 2) at.1) (λ at _. at.0) k

  of_last_app_place : (n : ℕ) (text : List ℕ) (k : AppPlace → Read R)
      → (name_field_at n text >>= λ fac. name_field_at (n + 1) fac.1 >>= λ node. app_field_at (n + 2) node.1 >>= λ app. end_at (n + 3) app.1 >>= λ _. k (record { at = record { fac = fac.0; node = node.0 }; app = app.0 })) ≡ (last_app_place_at n text >>= k)
  unfolding last_app_place_at
  of_last_app_place n text k =
      of_place n text (λ at. app_field_at (n + 2) at.1 >>= λ app. end_at (n + 3) app.1 >>= λ _. k (record { at = at.0; app = app.0 }))
      ∙ sym (regroup (place_at n text) (λ at. app_field_at (n + 2) at.1 >>= λ app. end_at (n + 3) app.1 >>= λ _. Ok (record { at = at.0; app = app.0 })) k
      ∙ same_steps (place_at n text) _ _ (λ at. sym (as_one (app_field_at (n + 2) at.1) (λ app. end_at (n + 3) app.1) (λ app _. record { at = at.0; app = app.0 }) k)))

  of_last_name : (n : ℕ) (text : List ℕ) (k : List ℕ → Read R) → (name_field_at n text >>= λ x. end_at (n + 1) x.1 >>= λ _. k x.0) ≡ (last_name_at n text >>= k)
  unfolding last_name_at
  of_last_name n text k = as_one (name_field_at n text) (λ x. end_at (n + 1) x.1) (λ x _. x.0) k

  of_last_number : (n : ℕ) (text : List ℕ) (k : ℕ → Read R) → (number_at n text >>= λ x. end_at (n + 1) x.1 >>= λ _. k x.0) ≡ (last_number_at n text >>= k)
  unfolding last_number_at
  of_last_number n text k = as_one (number_at n text) (λ x. end_at (n + 1) x.1) (λ x _. x.0) k

  of_last_numbers : (n : ℕ) (text : List ℕ) (k : ℕ × ℕ → Read R) → (number_at n text >>= λ x. number_at (n + 1) x.1 >>= λ y. end_at (n + 1 + 1) y.1 >>= λ _. k (x.0, y.0)) ≡ (last_numbers_at n text >>= k)
  unfolding last_numbers_at
  of_last_numbers n text k =
      same_steps (number_at n text) _ _ (λ x. of_last_number (n + 1) x.1 (λ y. k (x.0, y)))
      ∙ as_one (number_at n text) (λ x. last_number_at (n + 1) x.1) (λ x y. (x.0, y)) k

  of_last_bytes : (n : ℕ) (text : List ℕ) (k : List ℕ → Read R) → (bytes_at n text >>= λ x. end_at (n + 1) x.1 >>= λ _. k x.0) ≡ (last_bytes_at n text >>= k)
  unfolding last_bytes_at
  of_last_bytes n text k = as_one (bytes_at n text) (λ x. end_at (n + 1) x.1) (λ x _. x.0) k

-- ---- the words about flows

pub accept_parts : (text : List ℕ) → accept_at text ≡ (name_field_at 1 text >>= λ label. last_app_place_at 2 label.1 >>= λ p. Ok (events.Accept label.0 p.at.fac p.at.node p.app))
unfolding accept_at
accept_parts text = same_steps (name_field_at 1 text) _ _ (λ label. of_last_app_place 2 label.1 (λ p. Ok (events.Accept label.0 p.at.fac p.at.node p.app)))

pub send_parts : (text : List ℕ) → send_at text ≡ (name_field_at 1 text >>= λ label. last_bytes_at 2 label.1 >>= λ bytes. Ok (events.Send label.0 bytes))
unfolding send_at
send_parts text = same_steps (name_field_at 1 text) _ _ (λ label. of_last_bytes 2 label.1 (λ bytes. Ok (events.Send label.0 bytes)))

read_parts : (text : List ℕ) → read_at text ≡ (last_name_at 1 text >>= λ label. Ok (events.Read label))
unfolding read_at
read_parts text = of_last_name 1 text (λ label. Ok (events.Read label))

state_parts : (text : List ℕ) → state_at text ≡ (last_name_at 1 text >>= λ label. Ok (events.State label))
unfolding state_at
state_parts text = of_last_name 1 text (λ label. Ok (events.State label))

free_parts : (text : List ℕ) → free_at text ≡ (last_name_at 1 text >>= λ label. Ok (events.Free label))
unfolding free_at
free_parts text = of_last_name 1 text (λ label. Ok (events.Free label))

-- ---- the words about wires, the clock, policies and journals

pub lose_parts : (text : List ℕ) → lose_at text ≡ (name_field_at 1 text >>= λ wire. last_number_at 2 wire.1 >>= λ frame. Ok (events.Lose wire.0 frame))
unfolding lose_at
lose_parts text = same_steps (name_field_at 1 text) _ _ (λ wire. of_last_number 2 wire.1 (λ frame. Ok (events.Lose wire.0 frame)))

repeat_parts : (text : List ℕ) → repeat_at text ≡ (name_field_at 1 text >>= λ wire. last_numbers_at 2 wire.1 >>= λ ns. Ok (events.Repeat wire.0 ns.0 ns.1))
unfolding repeat_at
repeat_parts text = same_steps (name_field_at 1 text) _ _ (λ wire. of_last_numbers 2 wire.1 (λ ns. Ok (events.Repeat wire.0 ns.0 ns.1)))

hold_parts : (text : List ℕ) → hold_at text ≡ (name_field_at 1 text >>= λ wire. last_numbers_at 2 wire.1 >>= λ ns. Ok (events.Hold wire.0 ns.0 ns.1))
unfolding hold_at
hold_parts text = same_steps (name_field_at 1 text) _ _ (λ wire. of_last_numbers 2 wire.1 (λ ns. Ok (events.Hold wire.0 ns.0 ns.1)))

cut_parts : (text : List ℕ) → cut_at text ≡ (last_name_at 1 text >>= λ name. Ok (events.Cut name))
unfolding cut_at
cut_parts text = of_last_name 1 text (λ name. Ok (events.Cut name))

mend_parts : (text : List ℕ) → mend_at text ≡ (last_name_at 1 text >>= λ name. Ok (events.Mend name))
unfolding mend_at
mend_parts text = of_last_name 1 text (λ name. Ok (events.Mend name))

retire_parts : (text : List ℕ) → retire_at text ≡ (last_name_at 1 text >>= λ name. Ok (events.Retire name))
unfolding retire_at
retire_parts text = of_last_name 1 text (λ name. Ok (events.Retire name))

journal_parts : (text : List ℕ) → journal_at text ≡ (last_name_at 1 text >>= λ name. Ok (events.Journal name))
unfolding journal_at
journal_parts text = of_last_name 1 text (λ name. Ok (events.Journal name))

-- ---- the words about members of a DIF

pub publish_parts : (text : List ℕ) → publish_at text ≡ (place_at 1 text >>= λ at. last_name_at 3 at.1 >>= λ fac. Ok (events.Publish at.0.fac at.0.node fac))
unfolding publish_at
publish_parts text = of_place 1 text (λ at. name_field_at 3 at.1 >>= λ fac. end_at 4 fac.1 >>= λ _. Ok (events.Publish at.0.fac at.0.node fac.0)) ∙ same_steps (place_at 1 text) _ _ (λ at. of_last_name 3 at.1 (λ fac. Ok (events.Publish at.0.fac at.0.node fac)))

pub enrol_parts : (text : List ℕ) → enrol_at text ≡ (place_at 1 text >>= λ at. last_place_at 3 at.1 >>= λ over. Ok (events.Enrol at.0.fac at.0.node over.fac over.node))
unfolding enrol_at
enrol_parts text = of_place 1 text (λ at. name_field_at 3 at.1 >>= λ fac. name_field_at 4 fac.1 >>= λ peer. end_at 5 peer.1 >>= λ _. Ok (events.Enrol at.0.fac at.0.node fac.0 peer.0)) ∙ same_steps (place_at 1 text) _ _ (λ at. of_last_place 3 at.1 (λ over. Ok (events.Enrol at.0.fac at.0.node over.fac over.node)))

pub member_parts : (text : List ℕ) → member_at text ≡ (last_place_at 1 text >>= λ at. Ok (events.Member at.fac at.node))
unfolding member_at
member_parts text = of_last_place 1 text (λ at. Ok (events.Member at.fac at.node))

pub clock_parts : (text : List ℕ) → clock_at text ≡ (last_place_at 1 text >>= λ at. Ok (events.Clock at.fac at.node))
unfolding clock_at
clock_parts text = of_last_place 1 text (λ at. Ok (events.Clock at.fac at.node))

pub ledger_parts : (text : List ℕ) → ledger_at text ≡ (last_place_at 1 text >>= λ at. Ok (events.Ledger at.fac at.node))
unfolding ledger_at
ledger_parts text = of_last_place 1 text (λ at. Ok (events.Ledger at.fac at.node))

in_parts : (text : List ℕ) → in_at text ≡ (place_at 1 text >>= λ at. last_number_at 3 at.1 >>= λ link. Ok (events.In at.0.fac at.0.node link))
unfolding in_at
in_parts text = of_place 1 text (λ at. number_at 3 at.1 >>= λ link. end_at 4 link.1 >>= λ _. Ok (events.In at.0.fac at.0.node link.0)) ∙ same_steps (place_at 1 text) _ _ (λ at. of_last_number 3 at.1 (λ link. Ok (events.In at.0.fac at.0.node link)))

out_parts : (text : List ℕ) → out_at text ≡ (place_at 1 text >>= λ at. last_number_at 3 at.1 >>= λ link. Ok (events.Out at.0.fac at.0.node link))
unfolding out_at
out_parts text = of_place 1 text (λ at. number_at 3 at.1 >>= λ link. end_at 4 link.1 >>= λ _. Ok (events.Out at.0.fac at.0.node link.0)) ∙ same_steps (place_at 1 text) _ _ (λ at. of_last_number 3 at.1 (λ link. Ok (events.Out at.0.fac at.0.node link)))

pub cdap_parts : (text : List ℕ) → cdap_at text ≡ (place_at 1 text >>= λ at. last_bytes_at 3 at.1 >>= λ bytes. Ok (events.Cdap at.0.fac at.0.node bytes))
unfolding cdap_at
cdap_parts text = of_place 1 text (λ at. bytes_at 3 at.1 >>= λ bytes. end_at 4 bytes.1 >>= λ _. Ok (events.Cdap at.0.fac at.0.node bytes.0)) ∙ same_steps (place_at 1 text) _ _ (λ at. of_last_bytes 3 at.1 (λ bytes. Ok (events.Cdap at.0.fac at.0.node bytes)))

-- ---- words with the same fields

pub name_word_parts : (w : NameWord) (text : List ℕ) → name_word_at w text ≡ (last_name_at 1 text >>= λ name. Ok (name_event w name))
name_word_parts names.Read text = read_parts text
name_word_parts names.State text = state_parts text
name_word_parts names.Free text = free_parts text
name_word_parts names.Cut text = cut_parts text
name_word_parts names.Mend text = mend_parts text
name_word_parts names.Retire text = retire_parts text
name_word_parts names.Journal text = journal_parts text

pub frame_word_parts : (w : FrameWord) (text : List ℕ) → frame_word_at w text ≡ (name_field_at 1 text >>= λ wire. last_numbers_at 2 wire.1 >>= λ ns. Ok (frame_event w wire.0 ns.0 ns.1))
frame_word_parts frames.Repeat text = repeat_parts text
frame_word_parts frames.Hold text = hold_parts text

pub link_word_parts : (w : LinkWord) (text : List ℕ) → link_word_at w text ≡ (place_at 1 text >>= λ at. last_number_at 3 at.1 >>= λ link. Ok (link_event w at.0 link))
link_word_parts links.In text = in_parts text
link_word_parts links.Out text = out_parts text

pub app_word_parts : (w : AppWord) (text : List ℕ) → app_word_at w text ≡ (last_app_place_at 1 text >>= λ p. Ok (app_event w p))
unfolding register_at unregister_at
app_word_parts apps.Register text = of_last_app_place 1 text (λ p. Ok (events.Register p.at.fac p.at.node p.app))
app_word_parts apps.Unregister text = of_last_app_place 1 text (λ p. Ok (events.Unregister p.at.fac p.at.node p.app))
