-- What is printed of an event is read back as it was.
use Rattle.std.proofs.Common.{◌≡◌, ℕ, ◌+◌, ◌-◌, ◌^◌, ◌≤◌, Bool, true, false, not, cond, eqb, ltb, ◌&&◌, List, [], ◌∷◌, ◌++◌, codes, length, take, slice_index, Option, Some, None, Result, Ok, refl, sym, ap, ◌∙◌, arith}
use Rattle.std.specs.Fmt.{decimal}
use Rattle.std.specs.Str.{bytes_eq}
use Rattle.std.proofs.lemmas.Bool.{and_parts, and_from, eqb-true, le-leb, ltb-true}
use Rattle.std.proofs.lemmas.List.{append-nil, take_at, drop_at, length-append}
use Rattle.std.proofs.lemmas.List.Folds.{list_all-append}
use Rattle.rina_cube.specs.declared.Want.{Want}
use Rattle.rina_schedule.specs.declared.error.LineError.{LineError}
use Rattle.rina_schedule.specs.declared.event.Event.{Event}
use Rattle.rina_schedule.specs.declared.event.Event.TheVariants as events
use Rattle.rina_schedule.specs.Spelling.{spelling, spaced}
use Rattle.rina_schedule.specs.Fields.{field_at, number_at, name_field_at, app_field_at, bytes_at, path_at, end_at, flag_at, behind, setting_at}
use Rattle.rina_schedule.specs.FlowWords.{register_at, unregister_at, want_at, alloc_at, accept_at, send_at, read_at, state_at, free_at}
use Rattle.rina_schedule.specs.WireWords.{lose_at, repeat_at, hold_at, cut_at, mend_at, tick_at, round_at, retire_at, journal_at}
use Rattle.rina_schedule.specs.DifWords.{publish_at, enrol_at, member_at, in_at, out_at, clock_at, cdap_at, rib_at, ledger_at}
use Rattle.rina_schedule.specs.Line.{step_word_at, dif_word_at, wire_word_at, word_at, line_at}
use Rattle.rina_base.specs.ObjectNames.{object_name_of}
use Rattle.rina_schedule.specs.Printed.{flag_fields, setting_fields, want_fields, path_fields, event_word, event_fields, line_text}
use Rattle.rina_schedule.specs.Ranges.{IsName, IsApp, IsNumber, IsBytes, IsPath, IsWant, IsEvent}
use Rattle.rina_schedule.proofs.Fields.{is_clear, IsField, next_word, next_spaced, next_none}
use Rattle.rina_schedule.proofs.Values.{IsField-name, IsField-app, IsField-object, IsField-decimal, IsField-spelling, number_again, spelling_back}

-- ---- fields

name_back : (n : ℕ) (x : List ℕ) (fs : List (List ℕ)) → IsName x → name_field_at n (spaced (x ∷ fs)) ≡ Ok (x, spaced fs)
unfolding name_field_at field_at
name_back n x fs h = rw (next_spaced x fs (IsField-name x h), h) refl

app_back : (n : ℕ) (x : List ℕ) (fs : List (List ℕ)) → IsApp x → app_field_at n (spaced (x ∷ fs)) ≡ Ok (x, spaced fs)
unfolding app_field_at field_at
app_back n x fs h = rw (next_spaced x fs (IsField-app x h), h) refl

number_back : (n x : ℕ) (fs : List (List ℕ)) → IsNumber x → number_at n (spaced (decimal x ∷ fs)) ≡ Ok (x, spaced fs)
unfolding number_at field_at
number_back n x fs h = rw (next_spaced (decimal x) fs (IsField-decimal x (omega arith)), number_again x h) refl

bytes_back : (n : ℕ) (x : List ℕ) (fs : List (List ℕ)) → IsBytes x → bytes_at n (spaced (spelling x ∷ fs)) ≡ Ok (x, spaced fs)
unfolding bytes_at field_at
bytes_back n x fs h = rw (next_spaced (spelling x) fs (IsField-spelling x), spelling_back x h) refl

end_back : (n : ℕ) → end_at n [] ≡ Ok tt
unfolding end_at
end_back n = rw next_none refl

path_back : (n : ℕ) (path : Option (List ℕ)) → IsPath path → path_at n (spaced (path_fields path)) ≡ Ok (path, [])
unfolding path_at path_fields object_name_of
path_back n None h = rw next_none refl
path_back n (Some path) h = rw (next_spaced path [] (IsField-object path h), h) refl

-- ---- options

-- fields of which none is this word, nor begins with it
abbrev Others : List ℕ → List (List ℕ) → Type 0
Others word [] = Unit {0}
Others word (f ∷ fs) = IsField f × (bytes_eq f word ≡ false) × (bytes_eq (take (length word) f) word ≡ false) × Others word fs

abbrev after : ℕ → Bool → ℕ
after n true = n + 1
after n false = n

flag_back : (word : List ℕ) (n : ℕ) (given : Bool) (fs : List (List ℕ)) → IsField word → bytes_eq word word ≡ true → Others word fs
    → flag_at word n (spaced (flag_fields word given ++ fs)) ≡ (given, after n given, spaced fs)
unfolding flag_at flag_fields
flag_back word n true fs field same others = rw (next_spaced word fs field, same) refl
flag_back word n false [] field same others = rw next_none refl
flag_back word n false (f ∷ fs) field same others = rw (next_spaced f fs others.0, others.1) refl

abbrev setting_after : ℕ → ℕ → ℕ → ℕ
setting_after n default x = cond (eqb x default) n (n + 1)

setting_field : (word : List ℕ) (x : ℕ) → IsField word → IsNumber x → IsField (word ++ decimal x)
setting_field word x field fits =
    let digits = IsField-decimal x (omega arith) in
    record {
      some = omega (arith, length-append word (decimal x), field.some);
      clear = list_all-append (λ b. not (eqb b 32)) word (decimal x) ∙ and_from (is_clear word) (is_clear (decimal x)) field.clear digits.clear;
    }

setting_back : (word : List ℕ) (default n x : ℕ) (fs : List (List ℕ)) → IsField word → bytes_eq word word ≡ true → IsNumber x → Others word fs
    → setting_at word default n (spaced (setting_fields word default x ++ fs)) ≡ Ok (x, setting_after n default x, spaced fs)
unfolding setting_at setting_fields behind
setting_back word default n x fs field same fits others = by_default (eqb x default) refl
  where
    left_out : (fs : List (List ℕ)) → Others word fs → setting_at word default n (spaced fs) ≡ Ok (default, n, spaced fs)
    left_out [] others = rw next_none refl
    left_out (f ∷ fs) others = rw (next_spaced f fs others.0, others.2) refl

    by_default : (c : Bool) → eqb x default ≡ c → setting_at word default n (spaced (cond c [] ((word ++ decimal x) ∷ []) ++ fs)) ≡ Ok (x, cond c n (n + 1), spaced fs)
    by_default true e = rw (eqb-true x default e) (left_out fs others)
    by_default false e = rw (next_spaced (word ++ decimal x) fs (setting_field word x field fits), take_at word (decimal x) (length word) refl, same, drop_at word (decimal x) (length word) refl, number_again x fits) refl

word_field : (w : List ℕ) → (ltb 0 (length w) && is_clear w) ≡ true → IsField w
word_field w e = (let p = and_parts (ltb 0 (length w)) (is_clear w) e in record { some = ltb-true 0 (length w) p.0; clear = p.1 })

-- other words stay others
other_flag : (word flag : List ℕ) (given : Bool) (fs : List (List ℕ)) → IsField flag → bytes_eq flag word ≡ false → bytes_eq (take (length word) flag) word ≡ false → Others word fs → Others word (flag_fields flag given ++ fs)
unfolding flag_fields
other_flag word flag true fs field whole front others = (field, whole, front, others)
other_flag word flag false fs field whole front others = others

other_setting : (word key : List ℕ) (default x : ℕ) (fs : List (List ℕ)) → IsField key → IsNumber x → bytes_eq (key ++ decimal x) word ≡ false → bytes_eq (take (length word) (key ++ decimal x)) word ≡ false → Others word fs → Others word (setting_fields key default x ++ fs)
unfolding setting_fields
other_setting word key default x fs field fits whole front others = by_default (eqb x default)
  where
    by_default : (c : Bool) → Others word (cond c [] ((key ++ decimal x) ∷ []) ++ fs)
    by_default true = others
    by_default false = (setting_field key x field fits, whole, front, others)

want_back : (w : Want) → IsWant w → want_at (spaced (want_fields w)) ≡ Ok w
unfolding want_at want_fields
want_back w h =
    let ordered = word_field (codes "ordered") refl in
    let reliable = word_field (codes "reliable") refl in
    let within = word_field (codes "within=") refl in
    let size = word_field (codes "size=") refl in
    let sizes = setting_fields (codes "size=") 0 w.size in
    let withins = setting_fields (codes "within=") (2 ^ 32 - 1) w.within ++ sizes in
    let reliables = flag_fields (codes "reliable") w.reliable ++ withins in
    let nil : sizes ++ [] ≡ sizes = append-nil sizes in
    let s-ordered : Others (codes "ordered") sizes = rw nil at (other_setting (codes "ordered") (codes "size=") 0 w.size [] size h.1 refl refl tt) in
    let s-reliable : Others (codes "reliable") sizes = rw nil at (other_setting (codes "reliable") (codes "size=") 0 w.size [] size h.1 refl refl tt) in
    let s-within : Others (codes "within=") sizes = rw nil at (other_setting (codes "within=") (codes "size=") 0 w.size [] size h.1 refl refl tt) in
    let w-ordered = other_setting (codes "ordered") (codes "within=") (2 ^ 32 - 1) w.within sizes within h.0 refl refl s-ordered in
    let w-reliable = other_setting (codes "reliable") (codes "within=") (2 ^ 32 - 1) w.within sizes within h.0 refl refl s-reliable in
    let r-ordered = other_flag (codes "ordered") (codes "reliable") w.reliable withins reliable refl refl w-ordered in
    let n1 = after 6 w.ordered in
    let n2 = after n1 w.reliable in
    let n3 = setting_after n2 (2 ^ 32 - 1) w.within in
    let first = flag_back (codes "ordered") 6 w.ordered reliables ordered refl r-ordered in
    let second = flag_back (codes "reliable") n1 w.reliable withins reliable refl w-reliable in
    let third = setting_back (codes "within=") (2 ^ 32 - 1) n2 w.within sizes within refl h.0 s-within in
    let fourth : setting_at (codes "size=") 0 n3 (spaced sizes) ≡ Ok (w.size, setting_after n3 0 w.size, []) = rw nil at (setting_back (codes "size=") 0 n3 w.size [] size refl h.1 tt) in
    rw (first, second, third, fourth, end_back (setting_after n3 0 w.size)) refl

-- ---- words

at_word : (w : List ℕ) (fs : List (List ℕ)) (e : Event) → (ltb 0 (length w) && is_clear w) ≡ true → eqb (slice_index w 0) 35 ≡ false → word_at w (spaced fs) ≡ Ok e → line_at (w ++ spaced fs) ≡ Ok (Some e)
unfolding line_at
at_word w fs e field no_remark made = rw (next_word w fs (word_field w field), no_remark, made) refl

alloc_back : (label fac node app to : List ℕ) (want : Want) → IsName label × IsName fac × IsName node × IsApp app × IsApp to × IsWant want
    → alloc_at (spaced (label ∷ fac ∷ node ∷ app ∷ to ∷ want_fields want)) ≡ Ok (events.Alloc label fac node app to want)
unfolding alloc_at
alloc_back label fac node app to want h =
    rw (
      name_back 1 label (fac ∷ node ∷ app ∷ to ∷ want_fields want) h.0,
      name_back 2 fac (node ∷ app ∷ to ∷ want_fields want) h.1,
      name_back 3 node (app ∷ to ∷ want_fields want) h.2,
      app_back 4 app (to ∷ want_fields want) h.3,
      app_back 5 to (want_fields want) h.4,
      want_back want h.5,
    ) refl

register_back : (fac : List ℕ) (node : List ℕ) (app : List ℕ) → IsEvent (events.Register fac node app) → register_at (spaced (fac ∷ node ∷ app ∷ [])) ≡ Ok (events.Register fac node app)
unfolding register_at
register_back fac node app h = rw (name_back 1 fac (node ∷ app ∷ []) h.0, name_back 2 node (app ∷ []) h.1, app_back 3 app [] h.2, end_back 4) refl

unregister_back : (fac : List ℕ) (node : List ℕ) (app : List ℕ) → IsEvent (events.Unregister fac node app) → unregister_at (spaced (fac ∷ node ∷ app ∷ [])) ≡ Ok (events.Unregister fac node app)
unfolding unregister_at
unregister_back fac node app h = rw (name_back 1 fac (node ∷ app ∷ []) h.0, name_back 2 node (app ∷ []) h.1, app_back 3 app [] h.2, end_back 4) refl

accept_back : (label : List ℕ) (fac : List ℕ) (node : List ℕ) (app : List ℕ) → IsEvent (events.Accept label fac node app) → accept_at (spaced (label ∷ fac ∷ node ∷ app ∷ [])) ≡ Ok (events.Accept label fac node app)
unfolding accept_at
accept_back label fac node app h = rw (name_back 1 label (fac ∷ node ∷ app ∷ []) h.0, name_back 2 fac (node ∷ app ∷ []) h.1, name_back 3 node (app ∷ []) h.2, app_back 4 app [] h.3, end_back 5) refl

send_back : (label : List ℕ) (bytes : List ℕ) → IsEvent (events.Send label bytes) → send_at (spaced (label ∷ spelling bytes ∷ [])) ≡ Ok (events.Send label bytes)
unfolding send_at
send_back label bytes h = rw (name_back 1 label (spelling bytes ∷ []) h.0, bytes_back 2 bytes [] h.1, end_back 3) refl

read_back : (label : List ℕ) → IsEvent (events.Read label) → read_at (spaced (label ∷ [])) ≡ Ok (events.Read label)
unfolding read_at
read_back label h = rw (name_back 1 label [] h, end_back 2) refl

state_back : (label : List ℕ) → IsEvent (events.State label) → state_at (spaced (label ∷ [])) ≡ Ok (events.State label)
unfolding state_at
state_back label h = rw (name_back 1 label [] h, end_back 2) refl

free_back : (label : List ℕ) → IsEvent (events.Free label) → free_at (spaced (label ∷ [])) ≡ Ok (events.Free label)
unfolding free_at
free_back label h = rw (name_back 1 label [] h, end_back 2) refl

lose_back : (wire : List ℕ) (frame : ℕ) → IsEvent (events.Lose wire frame) → lose_at (spaced (wire ∷ decimal frame ∷ [])) ≡ Ok (events.Lose wire frame)
unfolding lose_at
lose_back wire frame h = rw (name_back 1 wire (decimal frame ∷ []) h.0, number_back 2 frame [] h.1, end_back 3) refl

repeat_back : (wire : List ℕ) (frame : ℕ) (at : ℕ) → IsEvent (events.Repeat wire frame at) → repeat_at (spaced (wire ∷ decimal frame ∷ decimal at ∷ [])) ≡ Ok (events.Repeat wire frame at)
unfolding repeat_at
repeat_back wire frame at h = rw (name_back 1 wire (decimal frame ∷ decimal at ∷ []) h.0, number_back 2 frame (decimal at ∷ []) h.1, number_back 3 at [] h.2, end_back 4) refl

hold_back : (wire : List ℕ) (frame : ℕ) (at : ℕ) → IsEvent (events.Hold wire frame at) → hold_at (spaced (wire ∷ decimal frame ∷ decimal at ∷ [])) ≡ Ok (events.Hold wire frame at)
unfolding hold_at
hold_back wire frame at h = rw (name_back 1 wire (decimal frame ∷ decimal at ∷ []) h.0, number_back 2 frame (decimal at ∷ []) h.1, number_back 3 at [] h.2, end_back 4) refl

cut_back : (wire : List ℕ) → IsEvent (events.Cut wire) → cut_at (spaced (wire ∷ [])) ≡ Ok (events.Cut wire)
unfolding cut_at
cut_back wire h = rw (name_back 1 wire [] h, end_back 2) refl

mend_back : (wire : List ℕ) → IsEvent (events.Mend wire) → mend_at (spaced (wire ∷ [])) ≡ Ok (events.Mend wire)
unfolding mend_at
mend_back wire h = rw (name_back 1 wire [] h, end_back 2) refl

publish_back : (dif : List ℕ) (node : List ℕ) (fac : List ℕ) → IsEvent (events.Publish dif node fac) → publish_at (spaced (dif ∷ node ∷ fac ∷ [])) ≡ Ok (events.Publish dif node fac)
unfolding publish_at
publish_back dif node fac h = rw (name_back 1 dif (node ∷ fac ∷ []) h.0, name_back 2 node (fac ∷ []) h.1, name_back 3 fac [] h.2, end_back 4) refl

enrol_back : (dif : List ℕ) (node : List ℕ) (fac : List ℕ) (peer : List ℕ) → IsEvent (events.Enrol dif node fac peer) → enrol_at (spaced (dif ∷ node ∷ fac ∷ peer ∷ [])) ≡ Ok (events.Enrol dif node fac peer)
unfolding enrol_at
enrol_back dif node fac peer h = rw (name_back 1 dif (node ∷ fac ∷ peer ∷ []) h.0, name_back 2 node (fac ∷ peer ∷ []) h.1, name_back 3 fac (peer ∷ []) h.2, name_back 4 peer [] h.3, end_back 5) refl

member_back : (dif : List ℕ) (node : List ℕ) → IsEvent (events.Member dif node) → member_at (spaced (dif ∷ node ∷ [])) ≡ Ok (events.Member dif node)
unfolding member_at
member_back dif node h = rw (name_back 1 dif (node ∷ []) h.0, name_back 2 node [] h.1, end_back 3) refl

in_back : (dif : List ℕ) (node : List ℕ) (link : ℕ) → IsEvent (events.In dif node link) → in_at (spaced (dif ∷ node ∷ decimal link ∷ [])) ≡ Ok (events.In dif node link)
unfolding in_at
in_back dif node link h = rw (name_back 1 dif (node ∷ decimal link ∷ []) h.0, name_back 2 node (decimal link ∷ []) h.1, number_back 3 link [] h.2, end_back 4) refl

out_back : (dif : List ℕ) (node : List ℕ) (link : ℕ) → IsEvent (events.Out dif node link) → out_at (spaced (dif ∷ node ∷ decimal link ∷ [])) ≡ Ok (events.Out dif node link)
unfolding out_at
out_back dif node link h = rw (name_back 1 dif (node ∷ decimal link ∷ []) h.0, name_back 2 node (decimal link ∷ []) h.1, number_back 3 link [] h.2, end_back 4) refl

clock_back : (dif : List ℕ) (node : List ℕ) → IsEvent (events.Clock dif node) → clock_at (spaced (dif ∷ node ∷ [])) ≡ Ok (events.Clock dif node)
unfolding clock_at
clock_back dif node h = rw (name_back 1 dif (node ∷ []) h.0, name_back 2 node [] h.1, end_back 3) refl

round_back : round_at [] ≡ Ok events.Round
unfolding round_at
round_back = rw (end_back 1) refl

retire_back : (policy : List ℕ) → IsEvent (events.Retire policy) → retire_at (spaced (policy ∷ [])) ≡ Ok (events.Retire policy)
unfolding retire_at
retire_back policy h = rw (name_back 1 policy [] h, end_back 2) refl

cdap_back : (dif : List ℕ) (node : List ℕ) (bytes : List ℕ) → IsEvent (events.Cdap dif node bytes) → cdap_at (spaced (dif ∷ node ∷ spelling bytes ∷ [])) ≡ Ok (events.Cdap dif node bytes)
unfolding cdap_at
cdap_back dif node bytes h = rw (name_back 1 dif (node ∷ spelling bytes ∷ []) h.0, name_back 2 node (spelling bytes ∷ []) h.1, bytes_back 3 bytes [] h.2, end_back 4) refl

ledger_back : (dif : List ℕ) (node : List ℕ) → IsEvent (events.Ledger dif node) → ledger_at (spaced (dif ∷ node ∷ [])) ≡ Ok (events.Ledger dif node)
unfolding ledger_at
ledger_back dif node h = rw (name_back 1 dif (node ∷ []) h.0, name_back 2 node [] h.1, end_back 3) refl

journal_back : (fac : List ℕ) → IsEvent (events.Journal fac) → journal_at (spaced (fac ∷ [])) ≡ Ok (events.Journal fac)
unfolding journal_at
journal_back fac h = rw (name_back 1 fac [] h, end_back 2) refl

tick_back : (count : ℕ) → (1 ≤ count) × (count ≤ 100000) → tick_at (spaced (decimal count ∷ [])) ≡ Ok (events.Tick count)
unfolding tick_at
tick_back count h = rw (number_back 1 count [] (omega arith), le-leb 1 count h.0, le-leb count 100000 h.1, end_back 2) refl

rib_back : (dif node : List ℕ) (path : Option (List ℕ)) → IsEvent (events.Rib dif node path) → rib_at (spaced (dif ∷ node ∷ path_fields path)) ≡ Ok (events.Rib dif node path)
unfolding rib_at
rib_back dif node path h = rw (name_back 1 dif (node ∷ path_fields path) h.0, name_back 2 node (path_fields path) h.1, path_back 3 path h.2, end_back 4) refl

pub line_back : (e : Event) → IsEvent e → line_at (line_text e) ≡ Ok (Some e)
unfolding event_word event_fields word_at wire_word_at dif_word_at step_word_at
line_back (events.Register fac node app) h = at_word (codes "register") (fac ∷ node ∷ app ∷ []) (events.Register fac node app) refl refl (register_back fac node app h)
line_back (events.Unregister fac node app) h = at_word (codes "unregister") (fac ∷ node ∷ app ∷ []) (events.Unregister fac node app) refl refl (unregister_back fac node app h)
line_back (events.Alloc label fac node app to want) h = at_word (codes "alloc") (label ∷ fac ∷ node ∷ app ∷ to ∷ want_fields want) (events.Alloc label fac node app to want) refl refl (alloc_back label fac node app to want h)
line_back (events.Accept label fac node app) h = at_word (codes "accept") (label ∷ fac ∷ node ∷ app ∷ []) (events.Accept label fac node app) refl refl (accept_back label fac node app h)
line_back (events.Send label bytes) h = at_word (codes "send") (label ∷ spelling bytes ∷ []) (events.Send label bytes) refl refl (send_back label bytes h)
line_back (events.Read label) h = at_word (codes "read") (label ∷ []) (events.Read label) refl refl (read_back label h)
line_back (events.State label) h = at_word (codes "state") (label ∷ []) (events.State label) refl refl (state_back label h)
line_back (events.Free label) h = at_word (codes "free") (label ∷ []) (events.Free label) refl refl (free_back label h)
line_back (events.Tick count) h = at_word (codes "tick") (decimal count ∷ []) (events.Tick count) refl refl (tick_back count h)
line_back (events.Lose wire frame) h = at_word (codes "lose") (wire ∷ decimal frame ∷ []) (events.Lose wire frame) refl refl (lose_back wire frame h)
line_back (events.Repeat wire frame at) h = at_word (codes "repeat") (wire ∷ decimal frame ∷ decimal at ∷ []) (events.Repeat wire frame at) refl refl (repeat_back wire frame at h)
line_back (events.Hold wire frame at) h = at_word (codes "hold") (wire ∷ decimal frame ∷ decimal at ∷ []) (events.Hold wire frame at) refl refl (hold_back wire frame at h)
line_back (events.Cut wire) h = at_word (codes "cut") (wire ∷ []) (events.Cut wire) refl refl (cut_back wire h)
line_back (events.Mend wire) h = at_word (codes "mend") (wire ∷ []) (events.Mend wire) refl refl (mend_back wire h)
line_back (events.Publish dif node fac) h = at_word (codes "publish") (dif ∷ node ∷ fac ∷ []) (events.Publish dif node fac) refl refl (publish_back dif node fac h)
line_back (events.Enrol dif node fac peer) h = at_word (codes "enrol") (dif ∷ node ∷ fac ∷ peer ∷ []) (events.Enrol dif node fac peer) refl refl (enrol_back dif node fac peer h)
line_back (events.Member dif node) h = at_word (codes "member") (dif ∷ node ∷ []) (events.Member dif node) refl refl (member_back dif node h)
line_back (events.In dif node link) h = at_word (codes "in") (dif ∷ node ∷ decimal link ∷ []) (events.In dif node link) refl refl (in_back dif node link h)
line_back (events.Out dif node link) h = at_word (codes "out") (dif ∷ node ∷ decimal link ∷ []) (events.Out dif node link) refl refl (out_back dif node link h)
line_back (events.Clock dif node) h = at_word (codes "clock") (dif ∷ node ∷ []) (events.Clock dif node) refl refl (clock_back dif node h)
line_back events.Round h = at_word (codes "round") [] events.Round refl refl round_back
line_back (events.Retire policy) h = at_word (codes "retire") (policy ∷ []) (events.Retire policy) refl refl (retire_back policy h)
line_back (events.Cdap dif node bytes) h = at_word (codes "cdap") (dif ∷ node ∷ spelling bytes ∷ []) (events.Cdap dif node bytes) refl refl (cdap_back dif node bytes h)
line_back (events.Rib dif node path) h = at_word (codes "rib") (dif ∷ node ∷ path_fields path) (events.Rib dif node path) refl refl (rib_back dif node path h)
line_back (events.Ledger dif node) h = at_word (codes "ledger") (dif ∷ node ∷ []) (events.Ledger dif node) refl refl (ledger_back dif node h)
line_back (events.Journal fac) h = at_word (codes "journal") (fac ∷ []) (events.Journal fac) refl refl (journal_back fac h)

-- no two events have one line
pub line_one : (e other : Event) → IsEvent e → IsEvent other → line_text e ≡ line_text other → e ≡ other
line_one e other h g same = same_event e other (sym (line_back e h) ∙ ap line_at same ∙ line_back other g)
  where
    same_event : (a b : Event) → ◌≡◌ {A = Result (Option Event) LineError} (Ok (Some a)) (Ok (Some b)) → a ≡ b
    same_event a b e = cc
