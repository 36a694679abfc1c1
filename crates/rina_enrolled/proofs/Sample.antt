-- The run in which a member is enrolled.
use Rattle.std.proofs.Common.{◌≡◌, ◌⊎◌, ℕ, true, false, ◌==◌, List, [], ◌∷◌, ◌++◌, Some, refl, sym, ◌∙◌, subst, ◌≤◌, inl, inr, arith}
use Rattle.std.specs.Prelude.{codes}
use Rattle.std.proofs.lemmas.Bool.{cases_Bool, both_ways}
use Rattle.rina_access.specs.declared.rules.Rules.{Rules}
use Rattle.rina_access.specs.Access.{decided, matches_rule}
use Rattle.rina_cdap.specs.Messages.{is_response}
use Rattle.rina_session.specs.Sessions.{got, sent, may_get, may_send, state_after, got_waiting, sent_waiting, is_unknown}
use Rattle.rina_enrol.specs.Messages.{message_of}
use Rattle.rina_newest.specs.declared.item.Item.{Item}
use Rattle.rina_newest.specs.Newest.{kept_at, is_below, taken, AreTold}
use Rattle.rina_agent.specs.declared.link.Link.{Link}
use Rattle.rina_flood.specs.Network.{Side, Near, Unmade, There, put_ends, put_state, EndState, AreApart, IsRun, IsStart, KnowsAll, KnowsNothing, after_rows, is_enrolled}
use Rattle.rina_flood.proofs.Places.{direction_case, in_one}
use Rattle.rina_flood.proofs.States.{ends_here}
use Rattle.rina_enrolled.specs.Enrolled.{BothHaveLink, stop_row}
use Rattle.rina_enrolled.specs.Sample.{asked, before, entry, network, SampleEnrols}

-- everyone may enrol
abbrev pub everyone : Rules
everyone = record { rules = []; default = true; few = omega arith }

-- The start

knows : (i : ℕ) → KnowsAll (network everyone) (entry ∷ []) i ⊎ KnowsNothing (network everyone) i
unfolding taken
knows i = elim (cases_Bool (i == 2)) [
  | inl is ↦ inr (rw is refl, rw is refl)
  | inr isnt ↦ inl (rw isnt refl, rw isnt refl)
]

addresses : (i : ℕ) → ((network everyone).agents i).address ≡ i
addresses i = elim (cases_Bool (i == 2)) [ inl is ↦ rw is refl | inr isnt ↦ rw isnt refl ]

agendas : (i : ℕ) → ((network everyone).agents i).agenda ≡ []
agendas i = elim (cases_Bool (i == 2)) [ inl is ↦ rw is refl | inr isnt ↦ rw isnt refl ]

one : AreTold (entry ∷ [])
one x y a b k v = sym (in_one entry x a) ∙ in_one entry y b

counted : (x : Item) → entry ≡ x → x.version.count ≤ ((network everyone).agents x.version.origin).last_count
counted x is = (let P : Item → Type 0 = λ y. y.version.count ≤ ((network everyone).agents y.version.origin).last_count in subst P is (omega arith))

past : (x : Item) → entry ≡ x → x.version.tick ≤ 0
past x is = (let P : Item → Type 0 = λ y. y.version.tick ≤ 0 in subst P is (omega arith))

links_none : (i : ℕ) → ((network everyone).agents i).links ≡ []
links_none i = elim (cases_Bool (i == 2)) [ inl is ↦ rw is refl | inr isnt ↦ rw isnt refl ]

apart : (i : ℕ) → AreApart ((network everyone).agents i).links
apart i = (let P : List Link → Type 0 = λ ls. AreApart ls in subst P (sym (links_none i)) tt)

there_not : (k : ℕ) → Unmade ≡ There k → ⊥
there_not k e = cc

start : IsStart (network everyone) (entry ∷ [])
start = record {
  addresses = addresses;
  knows = knows;
  both = λ l d up. absurd (both_ways true (sym up) refl);
  agendas = agendas;
  sent = λ l d. refl;
  made = refl;
  one = one;
  past = λ x e. past x (in_one entry x e);
  counted = λ x e. counted x (in_one entry x e);
  apart = apart;
  laid = λ l d k e number a b c. absurd (there_not number b);
  fit = λ l d. omega arith;
}

-- The run

claimed : (l : ℕ) (d : Side) → put_ends 0 Near 2 1 (λ m e. 1) l d ≡ 1 → put_state 0 Near (There 0) (λ m e. Unmade) l d ≡ There 0 → ⊥
claimed l d at = direction_case (λ (st : EndState). st ≡ There 0 → ⊥) 0 Near l d (There 0) Unmade
    (λ a b e. (let two = ends_here 0 Near 2 1 (λ m e. 1) l d a b in absurd (omega (arith, two, at))))
    (λ off e. there_not 0 e)

run : IsRun (network everyone) (asked ++ stop_row 0 Near 0 1 [] ∷ [])
unfolding decided matches_rule got sent may_get may_send state_after got_waiting sent_waiting is_unknown message_of is_response taken is_below
run = (
  (λ d. (refl, refl), record { ends = λ l d a e. there_not 0 e; links = refl; agenda = refl }, omega arith, omega arith, refl),
  (
    (refl, refl),
    (
      (refl, record { ends = claimed; links = refl; agenda = refl }, refl),
      (
        (refl, refl),
        (
          (refl, refl),
          (
            (refl, refl),
            (
              (refl, refl),
              (
                (refl, refl),
                (
                  (refl, refl),
                  (
                    (refl, refl),
                    (
                      (refl, refl),
                      (
                        (refl, refl),
                        (
                          (refl, refl),
                          ((refl, refl), tt),
                        ),
                      ),
                    ),
                  ),
                ),
              ),
            ),
          ),
        ),
      ),
    ),
  ),
)

both : BothHaveLink (network everyone) asked 0
unfolding decided matches_rule got sent may_get may_send state_after got_waiting sent_waiting is_unknown message_of is_response taken is_below
both = (refl, refl)

kept : kept_at ((after_rows (network everyone) before).agents 1).items (codes "/dir/sink") ≡ Some entry
unfolding decided matches_rule got sent may_get may_send state_after got_waiting sent_waiting is_unknown message_of is_response taken is_below
kept = refl

lacks : ((after_rows (network everyone) before).agents 2).items ≡ []
unfolding decided matches_rule got sent may_get may_send state_after got_waiting sent_waiting is_unknown message_of is_response taken is_below
lacks = refl

outside : is_enrolled ((after_rows (network everyone) asked).agents 2) ≡ false
unfolding decided matches_rule got sent may_get may_send state_after got_waiting sent_waiting is_unknown message_of is_response taken is_below
outside = refl

inside : is_enrolled ((after_rows (network everyone) (asked ++ stop_row 0 Near 0 1 [] ∷ [])).agents 2) ≡ true
unfolding decided matches_rule got sent may_get may_send state_after got_waiting sent_waiting is_unknown message_of is_response taken is_below
inside = refl

pub enrols : SampleEnrols everyone
enrols = record { start = start; run = run; both = both; kept = kept; lacks = lacks; outside = outside; inside = inside }
