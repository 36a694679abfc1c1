-- Steps that may fail, some of them as one.
use Rattle.std.proofs.Common.{◌≡◌, ℕ, ◌+◌, true, false, List, length, Result, Ok, Err, refl, ◌∙◌}
use Rattle.std.specs.Prelude.{codes}
use Rattle.toml.specs.Data.{Data, get}
use Rattle.rina_base.specs.Traverse.{◌>>=◌, traverse}
use Rattle.rina_cube.specs.declared.Cube.{Cube}
use Rattle.rina_plan.specs.declared.dif.DifPlan.{DifPlan}
use Rattle.rina_table.specs.declared.error.StackError.{StackError}
use Rattle.rina_table.specs.declared.scope.Scope.{Scope}
use Rattle.rina_table.specs.declared.dif.Numbers.{Numbers}
use Rattle.rina_table.specs.declared.dif.Head.{Head}
use Rattle.rina_table.specs.declared.dif.Lists.{Lists}
use Rattle.rina_table.specs.Faults.{unless}
use Rattle.rina_table.specs.Values.{truth_or, rows_in, rows_or, tables_in}
use Rattle.rina_table.specs.Fields.{name_in, number_in}
use Rattle.rina_table.specs.Rows.{cube_at, member_at, rule_at, link_at, flow_at, wire_at}
use Rattle.rina_table.specs.Items.{unknown_at, widths_in, manage_in, dif_at, node_row, rounds_or, sketch_at}
use Rattle.rina_table.specs.Groups.{numbers_at, policy_at, head_at, asking_at, access_at, lists_at, items_of}

abbrev pub Read : Type 0 → Type 0
Read A = Result A StackError

same_steps : {A B : Type 0} (m : Read A) (f g : A → Read B) → ((x : A) → f x ≡ g x) → (m >>= f) ≡ (m >>= g)
same_steps (Ok x) f g h = h x
same_steps (Err e) f g h = refl

-- steps that do not depend on each other, as one whose value is made of theirs
two : {A B P R : Type 0} (a : Read A) (b : Read B) (make : A → B → P) (k : P → Read R) → (a >>= λ u. b >>= λ v. k (make u v)) ≡ ((a >>= λ u. b >>= λ v. Ok (make u v)) >>= k)
two (Err e) b make k = refl
two (Ok u) (Err e) make k = refl
two (Ok u) (Ok v) make k = refl

three : {A B C P R : Type 0} (a : Read A) (b : Read B) (c : Read C) (make : A → B → C → P) (k : P → Read R) → (a >>= λ u. b >>= λ v. c >>= λ w. k (make u v w)) ≡ ((a >>= λ u. b >>= λ v. c >>= λ w. Ok (make u v w)) >>= k)
three (Err e) b c make k = refl
three (Ok u) b c make k = two b c (make u) k

four : {A B C D P R : Type 0} (a : Read A) (b : Read B) (c : Read C) (d : Read D) (make : A → B → C → D → P) (k : P → Read R)
    → (a >>= λ u. b >>= λ v. c >>= λ w. d >>= λ x. k (make u v w x)) ≡ ((a >>= λ u. b >>= λ v. c >>= λ w. d >>= λ x. Ok (make u v w x)) >>= k)
four (Err e) b c d make k = refl
four (Ok u) b c d make k = three b c d (make u) k

five : {A B C D E P R : Type 0} (a : Read A) (b : Read B) (c : Read C) (d : Read D) (e : Read E) (make : A → B → C → D → E → P) (k : P → Read R)
    → (a >>= λ u. b >>= λ v. c >>= λ w. d >>= λ x. e >>= λ y. k (make u v w x y)) ≡ ((a >>= λ u. b >>= λ v. c >>= λ w. d >>= λ x. e >>= λ y. Ok (make u v w x y)) >>= k)
five (Err o) b c d e make k = refl
five (Ok u) b c d e make k = four b c d e (make u) k

-- a DIF by what is read together
abbrev pub made : Head → ℕ × Cube → Lists → DifPlan
made h a l = record {
  name = h.name;
  rank = h.numbers.rank;
  is_static = h.numbers.is_static;
  pdu = h.numbers.pdu;
  widths = h.numbers.widths;
  queue = h.numbers.queue;
  policy = h.policy;
  wait = a.0;
  manage = a.1;
  cubes = l.cubes;
  members = l.members;
  allow = l.allow;
  rules = l.rules;
  links = l.links;
  flows = l.flows;
}

module _ (s : Scope) (n : ℕ) (d : Data) where
  -- the lists of a DIF, one after the other
  abbrev each_list : {R : Type 0} → (Lists → Read R) → Read R
  each_list k =
      rows_in (cube_at s n) n (codes "cube") d >>= λ cubes. rows_in (member_at s n) n (codes "member") d >>= λ members. truth_or n true (get (codes "default") d) >>= λ allow. rows_or (rule_at s n) n (codes "rule") d >>= λ rules.
      rows_or (link_at s n) n (codes "link") d >>= λ links. rows_or (flow_at s n) n (codes "flow") d >>= λ flows. k (record { cubes = cubes; members = members; allow = allow; rules = rules; links = links; flows = flows })

  of_lists : {R : Type 0} (k : Lists → Read R) → each_list k ≡ (lists_at s n d >>= k)
  unfolding lists_at access_at
  of_lists k =
      same_steps (rows_in (cube_at s n) n (codes "cube") d) _ _ (λ cubes. same_steps (rows_in (member_at s n) n (codes "member") d) _ _ (λ members.
      two (truth_or n true (get (codes "default") d)) (rows_or (rule_at s n) n (codes "rule") d) (λ allow rules. (allow, rules)) (λ a.
      rows_or (link_at s n) n (codes "link") d >>= λ links. rows_or (flow_at s n) n (codes "flow") d >>= λ flows. k (record { cubes = cubes; members = members; allow = a.0; rules = a.1; links = links; flows = flows }))))
      ∙ five (rows_in (cube_at s n) n (codes "cube") d) (rows_in (member_at s n) n (codes "member") d) (access_at s n d) (rows_or (link_at s n) n (codes "link") d) (rows_or (flow_at s n) n (codes "flow") d)
      (λ cubes members a links flows. record { cubes = cubes; members = members; allow = a.0; rules = a.1; links = links; flows = flows }) k

  -- what stands behind the head of a DIF, one after the other
  abbrev each_behind : Head → Read DifPlan
  each_behind h = number_in s n (codes "wait") d 1 1000000 >>= λ wait. manage_in s n d >>= λ manage. each_list (λ l. Ok (made h (wait, manage) l))

  of_rest : (h : Head) → each_behind h ≡ (asking_at s n d >>= λ a. lists_at s n d >>= λ l. Ok (made h a l))
  unfolding asking_at
  of_rest h =
      two (number_in s n (codes "wait") d 1 1000000) (manage_in s n d) (λ wait manage. (wait, manage)) (λ a. each_list (λ l. Ok (made h a l)))
      ∙ same_steps (asking_at s n d) _ _ (λ a. of_lists (λ l. Ok (made h a l)))

  of_numbers : {R : Type 0} (k : Numbers → Read R)
      → (number_in s n (codes "rank") d 1 8 >>= λ rank. truth_or n false (get (codes "static") d) >>= λ is_static. number_in s n (codes "pdu") d 18 4096 >>= λ pdu. widths_in s n d >>= λ widths. number_in s n (codes "queue") d 1 256 >>= λ queue.
      k (record { rank = rank; is_static = is_static; pdu = pdu; widths = widths; queue = queue })) ≡ (numbers_at s n d >>= k)
  unfolding numbers_at
  of_numbers k =
      five (number_in s n (codes "rank") d 1 8) (truth_or n false (get (codes "static") d)) (number_in s n (codes "pdu") d 18 4096) (widths_in s n d) (number_in s n (codes "queue") d 1 256)
      (λ rank is_static pdu widths queue. record { rank = rank; is_static = is_static; pdu = pdu; widths = widths; queue = queue }) k

  of_policy : {R : Type 0} (k : List ℕ → Read R) → (name_in s n (codes "policy") d >>= λ policy. unless 7 (unknown_at s.unknown n) >>= λ _. k policy) ≡ (policy_at s n d >>= k)
  unfolding policy_at
  of_policy k = two (name_in s n (codes "policy") d) (unless 7 (unknown_at s.unknown n)) (λ policy _. policy) k

  -- the head of a DIF, one after the other
  abbrev each_of_head : {R : Type 0} → (Head → Read R) → Read R
  each_of_head k =
      name_in s n (codes "name") d >>= λ name. number_in s n (codes "rank") d 1 8 >>= λ rank. truth_or n false (get (codes "static") d) >>= λ is_static. number_in s n (codes "pdu") d 18 4096 >>= λ pdu. widths_in s n d >>= λ widths.
      number_in s n (codes "queue") d 1 256 >>= λ queue. name_in s n (codes "policy") d >>= λ policy. unless 7 (unknown_at s.unknown n) >>= λ _.
      k (record { name = name; numbers = record { rank = rank; is_static = is_static; pdu = pdu; widths = widths; queue = queue }; policy = policy })

  of_head : {R : Type 0} (k : Head → Read R) → each_of_head k ≡ (head_at s n d >>= k)
  unfolding head_at
  of_head k =
      same_steps (name_in s n (codes "name") d) _ _ (λ name.
      of_numbers (λ numbers. name_in s n (codes "policy") d >>= λ policy. unless 7 (unknown_at s.unknown n) >>= λ _. k (record { name = name; numbers = numbers; policy = policy }))
      ∙ same_steps (numbers_at s n d) _ _ (λ numbers. of_policy (λ policy. k (record { name = name; numbers = numbers; policy = policy }))))
      ∙ three (name_in s n (codes "name") d) (numbers_at s n d) (policy_at s n d) (λ name numbers policy. record { name = name; numbers = numbers; policy = policy }) k

pub dif_groups : (s : Scope) (n : ℕ) (d : Data) → dif_at s n d ≡ (head_at s n d >>= λ h. asking_at s n d >>= λ a. lists_at s n d >>= λ l. Ok (made h a l))
unfolding dif_at
dif_groups s n d = of_head s n d (each_behind s n d) ∙ same_steps (head_at s n d) _ _ (of_rest s n d)

-- two rows that depend on two lists
rows_then : {A B C D R : Type 0} (a : Read A) (b : Read B) (f : A → Read C) (g : A → B → Read D) (k : C × D → Read R)
    → (a >>= λ u. b >>= λ v. f u >>= λ w. g u v >>= λ x. k (w, x)) ≡ ((a >>= λ u. b >>= λ v. f u >>= λ w. g u v >>= λ x. Ok (w, x)) >>= k)
rows_then (Err e) b f g k = refl
rows_then (Ok u) (Err e) f g k = refl
rows_then (Ok u) (Ok v) f g k = two (f u) (g u v) (λ w x. (w, x)) k

pub sketch_groups : (s : Scope) (d : Data) → sketch_at s d ≡ (rows_in (node_row s 0) 0 (codes "nodes") d >>= λ nodes. rounds_or (get (codes "rounds") d) >>= λ rounds. items_of s d >>= λ i. Ok (record { nodes = nodes; rounds = rounds; wires = i.0; difs = i.1 }))
unfolding sketch_at items_of
sketch_groups s d =
    same_steps (rows_in (node_row s 0) 0 (codes "nodes") d) _ _ (λ nodes. same_steps (rounds_or (get (codes "rounds") d)) _ _ (λ rounds.
    rows_then (tables_in 0 (codes "wire") d) (tables_in 0 (codes "dif") d) (λ wires. traverse (wire_at s) 1 wires) (λ wires difs. traverse (dif_at s) (1 + length wires) difs) (λ i. Ok (record { nodes = nodes; rounds = rounds; wires = i.0; difs = i.1 }))))
