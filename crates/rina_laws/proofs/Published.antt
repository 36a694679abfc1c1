-- To publish an IPC process is to register it at some rank of the tower, or to do nothing.
use Rattle.std.proofs.Common.{◌≡◌, ◌≢◌, ◌⊎◌, ℕ, ◌+◌, ◌≤◌, List, Option, Some, None, Result, Ok, Err, inl, inr, refl, ap, arith}
use Rattle.rina_iface.specs.declared.error.RegisterError.{RegisterError}
use Rattle.rina_wire.specs.Air.{Air}
use Rattle.rina_tower.specs.declared.publish.PublishError.{PublishError}
use Rattle.rina_tower.specs.declared.publish.PublishError.TheVariants.{NoIpc, Lower}
use Rattle.rina_tower.specs.declared.tower.Tower.{Tower, Wires, Rank'}
use Rattle.rina_tower.specs.Calls.{RegistersAtTop}
use Rattle.rina_tower.specs.Levels.{AtRank}
use Rattle.rina_tower.specs.Publishing.{PublishesAt, RegistersIpc, ipc_name_at}
use Rattle.rina_tower.specs.Ranks.{height_of}

-- a name is registered at the top rank, or refused there; or nothing is done
abbrev pub MayRegister : ℕ → ℕ → Tower → Tower → Type 0
MayRegister fac node u u' = (u' ≡ u) ⊎ ((name : List ℕ) × (x : Result (Unit {0}) RegisterError) × RegistersAtTop fac node name x u u')

-- this is done at a rank that the tower has, and nothing else
pub record IsDoneAt (does : Tower → Tower → Type 0) (t t' : Tower) : Type 0 where
  pub rank : ℕ
  pub most : rank ≤ height_of t
  pub done : AtRank rank does ⊥ t t'

own : (fac node : ℕ) (u u' : Tower) → MayRegister fac node u u' → AtRank (height_of u) (MayRegister fac node) ⊥ u u'
own fac node (Wires a) (Wires a') d = inl (refl, d)
own fac node (Rank' p difs below) (Rank' p' difs' below') d = inl (refl, d)
own fac node (Wires a) (Rank' p difs below) (inl d) = cc
own fac node (Wires a) (Rank' p difs below) (inr (name, x, d)) = d
own fac node (Rank' p difs below) (Wires a) (inl d) = cc
own fac node (Rank' p difs below) (Wires a) (inr (name, x, d)) = d

ipc : (o : Option (List ℕ)) (fac node : ℕ) (result : Result (Unit {0}) PublishError) (u u' : Tower) → RegistersIpc o fac node result u u' → MayRegister fac node u u'
ipc None fac node result u u' d = inl d.1
ipc (Some name) fac node (Ok done) u u' d = inr (name, Ok done, d)
ipc (Some name) fac node (Err (Lower e)) u u' d = inr (name, Err e, d)
ipc (Some name) fac node (Err NoIpc) u u' d = absurd d

below_it : (n : ℕ) → n ≢ n + 1
below_it n is = omega (arith, is)

not_above : (n h : ℕ) → n ≤ h → n ≢ h + 1
not_above n h most is = omega (arith, most, is)

pub published : (r dif node fac : ℕ) (result : Result (Unit {0}) PublishError) (t t' : Tower) → PublishesAt r dif node fac result t t' → IsDoneAt (MayRegister fac node) t t'
published r dif node fac result (Wires a) (Wires a') (inl d) = record { rank = 0; most = omega arith; done = inl (refl, inl (ap (λ (z : Air). Wires z) d.1.1)) }
published r dif node fac result (Wires a) (Wires a') (inr d) = record { rank = 0; most = omega arith; done = inl (refl, inl (ap (λ (z : Air). Wires z) d.2)) }
published r dif node fac result (Rank' p difs below) (Rank' p' difs' below') (inl d) = record {
  rank = height_of below;
  most = omega arith;
  done = inr (below_it (height_of below), d.1.0, own fac node below below' (ipc (ipc_name_at difs dif node) fac node result below below' d.1.1));
}
published r dif node fac result (Rank' p difs below) (Rank' p' difs' below') (inr d) =
    let k = published r dif node fac result below below' d.2 in
    record { rank = k.rank; most = omega (arith, k.most); done = inr (not_above k.rank (height_of below) k.most, d.1, k.done) }
published r dif node fac result (Wires a) (Rank' p difs below) d = absurd d
published r dif node fac result (Rank' p difs below) (Wires a) d = absurd d
