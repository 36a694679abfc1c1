-- What is told of a message: an answer to it, and what the RIB is then.
use Rattle.std.proofs.Common.{◌≡◌, ℕ, ◌<◌, ◌⊎◌, inl, inr, ⊎_elim, Bool, true, false, not, ◌||◌, List, Option, Some, None, is_some, Ok, Err, codes, refl, sym, ap, subst, ◌∙◌, arith}
use Rattle.std.specs.Prelude.{◌==◌}
use Rattle.std.proofs.lemmas.Bool.{cond_both, eqb-true}
use Rattle.rina_base.specs.declared.class.Class.{Class}
use Rattle.rina_base.specs.declared.class.Class.TheVariants.{Service}
use Rattle.rina_base.specs.Classes.{is_folder, is_service, same_class}
use Rattle.rina_base.specs.ObjectNames.{IsObjectName, is_object_name}
use Rattle.rina_cdap.specs.declared.message.Message.{Message}
use Rattle.rina_rib.specs.declared.error.RibError.TheVariants as errors
use Rattle.rina_rib.specs.declared.caller.Caller.TheVariants.{Cdap}
use Rattle.rina_rib.specs.Things.{Thing, thing, made_value, switched, with_value, shown, on_or_off}
use Rattle.rina_rib.specs.Objects.{object_at, has_child, has_folder}
use Rattle.rina_rib.specs.Rows.{Tree, created, deleted, written, written_to, turned, turned_to, is_foreign, is_outside, is_own}
use Rattle.rina_rib.specs.Laws.{Has, StandInTree, KeepsOutside, KeepsAround}
use Rattle.rina_rib.proofs.Lookups.{split, there, same_thing}
use Rattle.rina_rib.proofs.Changes.{Outcome, refused as not_done, valued, created_changes, deleted_changes, written_changes, written_shown, turned_changes}
use Rattle.rina_rib.proofs.Growth.{created_tree, deleted_tree, written_tree, turned_tree}
use Rattle.rina_rib.proofs.User.{user_created, user_deleted, user_written, user_turned}
use Rattle.rina_answer.specs.Answers.{code_of, begun, refusal, succeeded, Told, told_as, reply, value_of, create_as, create_told, class_in, delete_of, delete_told, read_of, read_told, class_or, write_as, write_of, write_told, turn_of, turn_told, named, at_name, is_asked, told}
use Rattle.rina_answer.specs.Laws.{IsAnswerTo, Shows, IsDone}

-- all that the law says of one message
record Holds (t : Tree) (m : Message) (x : Told) : Type 0 where
  answer : IsAnswerTo m x.message
  refused : (n : ℕ) → x.message.result ≡ Some n → 0 < n → x.tree ≡ t
  done : StandInTree t → x.message.result ≡ Some 0 → IsDone t x.tree m x.message
  tree : StandInTree t → StandInTree x.tree
  user : KeepsAround (codes "/user") t x.tree

abbrev number : ℕ → Option ℕ
number n = Some n

same_number : (n k : ℕ) → number n ≡ number k → n ≡ k
same_number n k h = grind (arith, h)

-- ---- refusals
refusal_holds : (t : Tree) (m : Message) (n : ℕ) → 0 < n → Holds t m (refusal t m n)
unfolding begun
refusal_holds t m n above = record {
  answer = record { invoke = refl; name = refl; operation = refl; result = (n, refl) };
  refused = λ k is more. refl;
  done = λ tree is. absurd (omega (arith, same_number n 0 is, above));
  tree = λ tree. tree;
  user = λ name out. refl;
}

-- an outcome is no want of memory
abbrev Sure : Outcome → Type 0
Sure (Ok t) = Unit {0}
Sure (Err e) = 0 < code_of e

created_sure : (t : Tree) (name : List ℕ) (class : Class) (value : List ℕ) → Sure (created t Cdap name class value)
unfolding created
created_sure t name class value =
    cond_both (is_some (object_at t.objects name)) (not_done errors.Exists) _ Sure (λ _. omega arith) (λ _.
    cond_both (not (has_folder t.objects name)) (not_done errors.NoParent) _ Sure (λ _. omega arith) (λ _.
    cond_both (is_foreign Cdap name || is_own Cdap class) (not_done (errors.NotAllowed 4)) _ Sure (λ _. omega arith) (λ _. tt)))

deleted_sure : (t : Tree) (name : List ℕ) → Sure (deleted t Cdap name)
unfolding deleted
deleted_sure t name =
    cond_both (not (is_some (object_at t.objects name))) (not_done errors.NoObject) _ Sure (λ _. omega arith) (λ _.
    cond_both (has_child t.objects name) (not_done errors.HasChildren) _ Sure (λ _. omega arith) (λ _.
    cond_both (is_foreign Cdap name) (not_done (errors.NotAllowed 6)) _ Sure (λ _. omega arith) (λ _. tt)))

written_to_sure : (t : Tree) (name : List ℕ) (class : Class) (value : List ℕ) (found : Option Thing) → Sure (written_to t Cdap name class value found)
written_to_sure t name class value None = omega arith
written_to_sure t name class value (Some o) =
    cond_both (not (same_class o.class class)) (not_done (errors.WrongClass o.class)) _ Sure (λ _. omega arith) (λ _.
    cond_both (is_folder o.class || is_service o.class || is_outside Cdap name) (not_done (errors.NotAllowed 12)) _ Sure (λ _. omega arith) (λ _. tt))

written_sure : (t : Tree) (name : List ℕ) (class : Class) (value : List ℕ) → Sure (written t Cdap name class value)
unfolding written
written_sure t name class value = written_to_sure t name class value (object_at t.objects name)

turned_to_sure : (t : Tree) (op : ℕ) (name : List ℕ) (on : Bool) (found : Option Thing) → Sure (turned_to t Cdap op name on found)
turned_to_sure t op name on None = omega arith
turned_to_sure t op name on (Some o) = cond_both (not (is_service o.class) || is_outside Cdap name) (not_done (errors.NotAllowed op)) _ Sure (λ _. omega arith) (λ _. tt)

turned_sure : (t : Tree) (op : ℕ) (name : List ℕ) (on : Bool) → Sure (turned t Cdap op name on)
unfolding turned
turned_sure t op name on = turned_to_sure t op name on (object_at t.objects name)

-- ---- what was done
shows : (m : Message) (o : Thing) → Shows (succeeded (begun m) o) o
shows m o = record { class = refl; instance = refl; value = refl }

done_holds : (t : Tree) (m : Message) (after : Tree) (o : Thing) → (StandInTree t → IsDone t after m (succeeded (begun m) o)) → (StandInTree t → StandInTree after) → KeepsAround (codes "/user") t after → Holds t m (told_as after (succeeded (begun m) o))
unfolding begun
done_holds t m after o is stays user = record {
  answer = record { invoke = refl; name = refl; operation = refl; result = (0, refl) };
  refused = λ k is more. absurd (omega (arith, same_number 0 k is, more));
  done = λ tree _. is tree;
  tree = stays;
  user = user;
}

-- what stays outside a folder stays around it
around : (t after : Tree) → KeepsOutside (codes "/user") t after → KeepsAround (codes "/user") t after
around t after keeps name out = keeps name (λ below. out (inr below))

asked_at : (m : Message) (op : ℕ) → m.operation ≡ op → is_asked op ≡ true → is_asked m.operation ≡ true
asked_at m op is asked = subst (λ (n : ℕ). is_asked n ≡ true) (sym is) asked

create_by : (t : Tree) (m : Message) (name : List ℕ) (class : Class) (r : Outcome) → m.operation ≡ 4 → m.name ≡ Some name → IsObjectName name → created t Cdap name class (value_of m) ≡ r → Holds t m (reply t m r (thing class t.next (made_value class (value_of m))))
unfolding is_asked
create_by t m name class (Ok after) op named is_name is =
    let o : Thing = thing class t.next (made_value class (value_of m)) in
    let one = created_changes t after Cdap name class (value_of m) is in
    done_holds t m after o (λ tree. record {
      asked = asked_at m 4 op refl;
      name = name;
      named = named;
      object = o;
      shows = shows m o;
      create = λ _. (one.before, one.after, refl);
      delete = λ other. absurd (omega (arith, op, other));
      read = λ other. absurd (omega (arith, op, other));
      write = λ other. absurd (omega (arith, op, other));
      start = λ other. absurd (omega (arith, op, other));
      stop = λ other. absurd (omega (arith, op, other));
      others = one.others;
    }) (λ tree. created_tree t after Cdap name class (value_of m) is_name tree is) (around t after (user_created t after name class (value_of m) is))
create_by t m name class (Err e) op named is_name is = refusal_holds t m (code_of e) (subst (λ (r : Outcome). Sure r) is (created_sure t name class (value_of m)))

create_class : (t : Tree) (m : Message) (name : List ℕ) (class : Option Class) → m.operation ≡ 4 → m.name ≡ Some name → IsObjectName name → Holds t m (create_as t m name class)
create_class t m name None op named is_name = refusal_holds t m 6 (omega arith)
create_class t m name (Some class) op named is_name = create_by t m name class (created t Cdap name class (value_of m)) op named is_name refl

create_holds : (t : Tree) (m : Message) (name : List ℕ) → m.operation ≡ 4 → m.name ≡ Some name → IsObjectName name → Holds t m (create_told t m name)
unfolding create_told
create_holds t m name op named is_name = create_class t m name (class_in m.class) op named is_name

delete_by : (t : Tree) (m : Message) (name : List ℕ) (o : Thing) (r : Outcome) → m.operation ≡ 6 → m.name ≡ Some name → Has t name o → deleted t Cdap name ≡ r → Holds t m (reply t m r o)
unfolding is_asked
delete_by t m name o (Ok after) op named at is =
    done_holds t m after o (λ tree.
    let one = deleted_changes t after Cdap name tree is in
    record {
      asked = asked_at m 6 op refl;
      name = name;
      named = named;
      object = o;
      shows = shows m o;
      create = λ other. absurd (omega (arith, op, other));
      delete = λ _. (at, one.1.after);
      read = λ other. absurd (omega (arith, op, other));
      write = λ other. absurd (omega (arith, op, other));
      start = λ other. absurd (omega (arith, op, other));
      stop = λ other. absurd (omega (arith, op, other));
      others = one.1.others;
    }) (λ tree. deleted_tree t after Cdap name tree is) (around t after (user_deleted t after name is))
delete_by t m name o (Err e) op named at is = refusal_holds t m (code_of e) (subst (λ (r : Outcome). Sure r) is (deleted_sure t name))

delete_object : (t : Tree) (m : Message) (name : List ℕ) (found : Option Thing) → m.operation ≡ 6 → m.name ≡ Some name → object_at t.objects name ≡ found → Holds t m (delete_of t m name found)
delete_object t m name None op named at = refusal_holds t m 1 (omega arith)
delete_object t m name (Some o) op named at = delete_by t m name o (deleted t Cdap name) op named at refl

delete_holds : (t : Tree) (m : Message) (name : List ℕ) → m.operation ≡ 6 → m.name ≡ Some name → Holds t m (delete_told t m name)
unfolding delete_told
delete_holds t m name op named = delete_object t m name (object_at t.objects name) op named refl

read_object : (t : Tree) (m : Message) (name : List ℕ) (found : Option Thing) → m.operation ≡ 8 → m.name ≡ Some name → object_at t.objects name ≡ found → Holds t m (read_of t m found)
unfolding is_asked
read_object t m name None op named at = refusal_holds t m 1 (omega arith)
read_object t m name (Some o) op named at =
    done_holds t m t o (λ tree. record {
      asked = asked_at m 8 op refl;
      name = name;
      named = named;
      object = o;
      shows = shows m o;
      create = λ other. absurd (omega (arith, op, other));
      delete = λ other. absurd (omega (arith, op, other));
      read = λ _. (at, refl);
      write = λ other. absurd (omega (arith, op, other));
      start = λ other. absurd (omega (arith, op, other));
      stop = λ other. absurd (omega (arith, op, other));
      others = λ other apart. refl;
    }) (λ tree. tree) (λ other out. refl)

read_holds : (t : Tree) (m : Message) (name : List ℕ) → m.operation ≡ 8 → m.name ≡ Some name → Holds t m (read_told t m name)
unfolding read_told
read_holds t m name op named = read_object t m name (object_at t.objects name) op named refl

write_by : (t : Tree) (m : Message) (name : List ℕ) (o : Thing) (class : Class) (r : Outcome) → m.operation ≡ 12 → m.name ≡ Some name → Has t name o → written t Cdap name class (value_of m) ≡ r → Holds t m (reply t m r (with_value o (value_of m)))
unfolding is_asked
write_by t m name o class (Ok after) op named at is =
    let w : Thing = with_value o (value_of m) in
    let one = written_changes t after Cdap name class (value_of m) is in
    let was : one.0 ≡ o = same_thing one.0 o (sym one.2.before ∙ at) in
    let whole : w ≡ valued o (value_of m) = written_shown t after Cdap name class (value_of m) o at is in
    let now : Has after name w = one.2.after ∙ ap (λ (z : Thing). there (valued z (value_of m))) was ∙ ap there (sym whole) in
    done_holds t m after w (λ tree. record {
      asked = asked_at m 12 op refl;
      name = name;
      named = named;
      object = w;
      shows = shows m w;
      create = λ other. absurd (omega (arith, op, other));
      delete = λ other. absurd (omega (arith, op, other));
      read = λ other. absurd (omega (arith, op, other));
      write = λ _. (now, ap (λ (z : Thing). z.value) whole);
      start = λ other. absurd (omega (arith, op, other));
      stop = λ other. absurd (omega (arith, op, other));
      others = one.2.others;
    }) (λ tree. written_tree t after Cdap name class (value_of m) tree is) (user_written t after name class (value_of m) is)
write_by t m name o class (Err e) op named at is = refusal_holds t m (code_of e) (subst (λ (r : Outcome). Sure r) is (written_sure t name class (value_of m)))

write_class : (t : Tree) (m : Message) (name : List ℕ) (o : Thing) (class : Option Class) → m.operation ≡ 12 → m.name ≡ Some name → Has t name o → Holds t m (write_as t m name o class)
write_class t m name o None op named at = refusal_holds t m 5 (omega arith)
write_class t m name o (Some class) op named at = write_by t m name o class (written t Cdap name class (value_of m)) op named at refl

write_object : (t : Tree) (m : Message) (name : List ℕ) (found : Option Thing) → m.operation ≡ 12 → m.name ≡ Some name → object_at t.objects name ≡ found → Holds t m (write_of t m name found)
write_object t m name None op named at = refusal_holds t m 1 (omega arith)
write_object t m name (Some o) op named at = write_class t m name o (class_or o.class m.class) op named at

write_holds : (t : Tree) (m : Message) (name : List ℕ) → m.operation ≡ 12 → m.name ≡ Some name → Holds t m (write_told t m name)
unfolding write_told
write_holds t m name op named = write_object t m name (object_at t.objects name) op named refl

turn_by : (t : Tree) (m : Message) (op : ℕ) (name : List ℕ) (on : Bool) (o : Thing) (r : Outcome) → (m.operation ≡ 14) × (on ≡ true) ⊎ (m.operation ≡ 16) × (on ≡ false) → m.name ≡ Some name → Has t name o → turned t Cdap op name on ≡ r → Holds t m (reply t m r (switched o on))
unfolding is_asked
turn_by t m op name on o (Ok after) which named at is =
    let w : Thing = switched o on in
    let one = turned_changes t after Cdap op name on is in
    let was : one.0 ≡ o = same_thing one.0 o (sym one.2.before ∙ at) in
    let service : o.class ≡ Service = ap (λ (z : Thing). z.class) (sym was) ∙ one.1 in
    let value : w.value ≡ on_or_off on = ap (λ (k : Class). shown k on o.value) service in
    let whole : w ≡ valued o (on_or_off on) = ap (λ (v : List ℕ). valued o v) value in
    let now : Has after name w = one.2.after ∙ ap (λ (z : Thing). there (valued z (on_or_off on))) was ∙ ap there (sym whole) in
    done_holds t m after w (λ tree. record {
      asked = ⊎_elim (λ up. asked_at m 14 up.0 refl) (λ down. asked_at m 16 down.0 refl) which;
      name = name;
      named = named;
      object = w;
      shows = shows m w;
      create = λ other. absurd (⊎_elim (λ up. omega (arith, up.0, other)) (λ down. omega (arith, down.0, other)) which);
      delete = λ other. absurd (⊎_elim (λ up. omega (arith, up.0, other)) (λ down. omega (arith, down.0, other)) which);
      read = λ other. absurd (⊎_elim (λ up. omega (arith, up.0, other)) (λ down. omega (arith, down.0, other)) which);
      write = λ other. absurd (⊎_elim (λ up. omega (arith, up.0, other)) (λ down. omega (arith, down.0, other)) which);
      start = λ other. (now, value ∙ ap (λ (b : Bool). on_or_off b) (⊎_elim (λ up. up.1) (λ down. absurd (omega (arith, down.0, other))) which));
      stop = λ other. (now, value ∙ ap (λ (b : Bool). on_or_off b) (⊎_elim (λ up. absurd (omega (arith, up.0, other))) (λ down. down.1) which));
      others = one.2.others;
    }) (λ tree. turned_tree t after Cdap op name on tree is) (user_turned t after op name on is)
turn_by t m op name on o (Err e) which named at is = refusal_holds t m (code_of e) (subst (λ (r : Outcome). Sure r) is (turned_sure t op name on))

turn_object : (t : Tree) (m : Message) (op : ℕ) (name : List ℕ) (on : Bool) (found : Option Thing) → (m.operation ≡ 14) × (on ≡ true) ⊎ (m.operation ≡ 16) × (on ≡ false) → m.name ≡ Some name → object_at t.objects name ≡ found → Holds t m (turn_of t m op name on found)
turn_object t m op name on None which named at = refusal_holds t m 1 (omega arith)
turn_object t m op name on (Some o) which named at = turn_by t m op name on o (turned t Cdap op name on) which named at refl

turn_holds : (t : Tree) (m : Message) (op : ℕ) (name : List ℕ) (on : Bool) → (m.operation ≡ 14) × (on ≡ true) ⊎ (m.operation ≡ 16) × (on ≡ false) → m.name ≡ Some name → Holds t m (turn_told t m op name on)
unfolding turn_told
turn_holds t m op name on which named = turn_object t m op name on (object_at t.objects name) which named refl

-- ---- which operation
stop_left : (op : ℕ) → is_asked op ≡ true → (op == 4) ≡ false → (op == 6) ≡ false → (op == 8) ≡ false → (op == 12) ≡ false → (op == 14) ≡ false → op ≡ 16
unfolding is_asked
stop_left op asked a b d e f = eqb-true op 16 (rw (a, b, d, e, f) at asked)

abbrev a_name : List ℕ → Option (List ℕ)
a_name name = Some name

same_text : (xs ys : List ℕ) → a_name xs ≡ a_name ys → xs ≡ ys
same_text xs ys h = grind (arith, h)

no_text : {G : Type 0} (name : List ℕ) → None ≡ a_name name → G
no_text name h = absurd (grind (arith, h))

named_same : (given : Option (List ℕ)) (name : List ℕ) → named given ≡ Some name → (given ≡ Some name) × IsObjectName name
named_same None name h = absurd (grind (arith, h))
named_same (Some text) name h = split (is_object_name text) (λ yes.
    let is : a_name text ≡ a_name name = rw yes at h in
    (is, subst (λ (n : List ℕ). IsObjectName n) (same_text text name is) yes)) (λ bad. no_text name (rw bad at h))

at_name_holds : (t : Tree) (m : Message) (name : Option (List ℕ)) → is_asked m.operation ≡ true → named m.name ≡ name → Holds t m (at_name t m name)
at_name_holds t m None asked is = refusal_holds t m 1 (omega arith)
at_name_holds t m (Some name) asked is =
    let given = named_same m.name name is in
    split (m.operation == 4) (λ yes. rw yes (create_holds t m name (eqb-true m.operation 4 yes) given.0 given.1)) (λ a.
    split (m.operation == 6) (λ yes. rw (a, yes) (delete_holds t m name (eqb-true m.operation 6 yes) given.0)) (λ b.
    split (m.operation == 8) (λ yes. rw (a, b, yes) (read_holds t m name (eqb-true m.operation 8 yes) given.0)) (λ d.
    split (m.operation == 12) (λ yes. rw (a, b, d, yes) (write_holds t m name (eqb-true m.operation 12 yes) given.0)) (λ e.
    split (m.operation == 14) (λ yes. rw (a, b, d, e, yes) (turn_holds t m 14 name true (inl (eqb-true m.operation 14 yes, refl)) given.0)) (λ f.
    rw (a, b, d, e, f) (turn_holds t m 16 name false (inr (stop_left m.operation asked a b d e f, refl)) given.0))))))

told_holds : (t : Tree) (m : Message) → Holds t m (told t m)
unfolding told
told_holds t m = split (is_asked m.operation) (λ asked. rw asked (at_name_holds t m (named m.name) asked refl)) (λ other. rw other (refusal_holds t m 6 (omega arith)))

pub told_answer : (t : Tree) (m : Message) → IsAnswerTo m (told t m).message
told_answer t m = (told_holds t m).answer

pub told_refused : (t : Tree) (m : Message) (n : ℕ) → (told t m).message.result ≡ Some n → 0 < n → (told t m).tree ≡ t
told_refused t m = (told_holds t m).refused

pub told_done : (t : Tree) (m : Message) → StandInTree t → (told t m).message.result ≡ Some 0 → IsDone t (told t m).tree m (told t m).message
told_done t m = (told_holds t m).done

pub told_tree : (t : Tree) (m : Message) → StandInTree t → StandInTree (told t m).tree
told_tree t m = (told_holds t m).tree

pub told_user : (t : Tree) (m : Message) → KeepsAround (codes "/user") t (told t m).tree
told_user t m = (told_holds t m).user
