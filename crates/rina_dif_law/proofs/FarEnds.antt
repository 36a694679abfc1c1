-- The far ends that a step makes: of flows whose askers stand there.
use Rattle.std.proofs.Common.{◌≡◌, ℕ, ◌≤◌, List, length, sym, ◌∙◌, subst, arith, inl, inr}
use Rattle.std.proofs.lemmas.Bool.{cases_lt}
use Rattle.std.proofs.lemmas.Option.{same_Some, slice_get_within}
use Rattle.rina_iface.specs.declared.ends.End.{End}
use Rattle.rina_iface.specs.Later.{AreFarOf, AreLater, IsFarOf, IsLaterEnd}
use Rattle.rina_iface.proofs.FarEnds.{answers_old, answers_on}
use Rattle.rina_iface.proofs.LaterOn.{ends_on, ends_wider}
use Rattle.rina_data.proofs.Finding.{there}
use Rattle.rina_dif_law.specs.Dif.{DifSeen}
use Rattle.rina_dif_law.specs.Upward.{IsSilent}

-- where the ends are as many as before, none is new
pub none_fresh : (old new : List End) → length new ≡ length old → AreFarOf old new
none_fresh old new number i e is past = (let low = slice_get_within new i e is in absurd (omega (arith, low, number, past)))

-- a far end goes on, and nothing is sent or passed at it
far_goes_on : (before now : ℕ) (ends : List End) (e e' : End) → IsFarOf ends e → IsLaterEnd before now e e' → e'.sent ≡ e.sent → e'.taken ≡ e.taken → IsFarOf ends e'
far_goes_on before now ends e e' f later sent taken = record { answers = answers_on before now ends e e' later f.answers; sent = sent ∙ f.sent; taken = taken ∙ f.taken }

-- its asker stood there before all that are new
asker_stood : (before now : ℕ) (old mid : List End) (e : End) → AreLater before now old mid → AreFarOf old mid → IsFarOf mid e → IsFarOf old e
asker_stood before now old mid e later fresh f = record {
  answers = answers_old before now old mid e later f.answers (λ past. (fresh f.answers.place f.answers.asker f.answers.stands past).answers);
  sent = f.sent;
  taken = f.taken;
}

-- one step after the other is silent
pub silent_on : (a b c : DifSeen) → a.clock ≤ b.clock → b.clock ≤ c.clock → IsSilent a b → IsSilent b c → IsSilent a c
silent_on a b c le le' x y = record {
  later = record {
    ends = ends_on a.clock c.clock a.ends b.ends c.ends (ends_wider a.clock b.clock a.clock c.clock a.ends b.ends (omega arith) le' x.later.ends) (ends_wider b.clock c.clock a.clock c.clock b.ends c.ends le (omega arith) y.later.ends);
    cubes = y.later.cubes ∙ x.later.cubes;
  };
  fresh = λ i e is past. elim (cases_lt i (length b.ends)) [
    | inl low ↦
        let m = there b.ends i low in
        let n = y.later.ends i m.0 m.1 in
        let one : e ≡ n.0 = same_Some e n.0 (sym is ∙ n.1) in
        let same = y.same i m.0 n.0 m.1 n.1 in
        subst (IsFarOf a.ends) (sym one) (far_goes_on b.clock c.clock a.ends m.0 n.0 (x.fresh i m.0 m.1 past) n.2 same.0 same.1)
    | inr after ↦ asker_stood a.clock b.clock a.ends b.ends e x.later.ends x.fresh (y.fresh i e is after)
  ];
  same = λ i e e' here there.
      let mid = x.later.ends i e here in
      let first = x.same i e mid.0 here mid.1 in
      let second = y.same i mid.0 e' mid.1 there in
      (second.0 ∙ first.0, second.1 ∙ first.1);
}
