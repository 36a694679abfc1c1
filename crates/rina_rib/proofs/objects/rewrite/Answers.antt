use Rattle.std.proofs.Common.{ℕ, Option, ap, sym, refl}
use Rattle.std.specs.Global.{Vec}
use Rattle.std.specs.BTreeMap.{BTreeMap}
use Rattle.rina_rib.specs.Things.{Thing}
use Rattle.rina_rib.specs.Objects.{seen, changed_object, rewritten_to}
use Rattle.rina_rib.proofs.Seen.{lent_seen, absent_seen}
use Rattle.rina_rib.proofs.objects.rewrite.Goals as goal

pub returns-in-Some : goal.returns-in-Some
returns-in-Some c =
    let es = c.args.objects.now.entries in
    let w = c.set.new.self in
    lent_seen es _ c.args.name.now c.in-Some.kept.now w (λ (o : Option Thing). rewritten_to (seen es) c.args.name.now c.args.value o) (c.get_mut.follows.holds w).0 c.in-Some.ensures.value (ap (λ (t : Thing). changed_object (seen es) c.args.name.now t) (sym c.set.ensures))

pub returns-in_default : goal.returns-in_default
returns-in_default c =
    let es = c.args.objects.now.entries in
    let same = ap (λ (m : BTreeMap (Vec ℕ) Thing). m.entries) c.get_mut.follows.holds-at-none in
    absent_seen es _ c.args.name.now (λ (o : Option Thing). rewritten_to (seen es) c.args.name.now c.args.value o) same c.in_default.ensures.value refl
