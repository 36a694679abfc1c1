-- Following next hops, hop by hop.
use Rattle.std.proofs.Common.{◌≡◌, ◌≢◌, ℕ, ◌+◌, ◌<◌, List, [], ◌∷◌, ◌++◌, length, length-append, Some, None, refl, sym, subst, ap, ◌∙◌, arith}
use Rattle.std.proofs.lemmas.Option.{same_Some}
use Rattle.rina_iface.specs.Seen.{Seen}
use Rattle.rina_data.specs.declared.process.IpcProcess.{IpcProcess}
use Rattle.rina_data.specs.declared.settings.Member.{Member}
use Rattle.rina_way.specs.declared.hop.Hop.{Hop}
use Rattle.rina_way.specs.Ways.{IsWay, hop_at}

-- hops from a node on, none of them at the node that is looked for
abbrev pub IsPath : Seen → List Member → List IpcProcess → ℕ → ℕ → ℕ → List Hop → ℕ → Type 0
IsPath below ms ps dst to from [] at = from ≡ at
IsPath below ms ps dst to from (h ∷ hs) at = (hop_at below ms ps dst from ≡ Some h) × (from ≢ to) × IsPath below ms ps dst to h.to hs at

-- the rest of a way, behind so many hops
pub record Rest (below : Seen) (ms : List Member) (ps : List IpcProcess) (dst at to i : ℕ) (hs : List Hop) : Type 0 where
  pub rest : List Hop
  pub way : IsWay below ms ps dst at rest to
  pub long : length hs ≡ i + length rest

-- so far these hops were taken, and whatever way there is goes on from here
pub record Walked (below : Seen) (ms : List Member) (ps : List IpcProcess) (dst from to : ℕ) (hops : List Hop) (at i : ℕ) : Type 0 where
  pub path : IsPath below ms ps dst to from hops at
  pub rest : (hs : List Hop) → IsWay below ms ps dst from hs to → Rest below ms ps dst at to i hs

pub walked_none : (below : Seen) (ms : List Member) (ps : List IpcProcess) (dst from to : ℕ) → Walked below ms ps dst from to [] from 0
walked_none below ms ps dst from to = record {
  path = refl;
  rest = λ hs w. record { rest = hs; way = w; long = omega arith };
}

path_on : (below : Seen) (ms : List Member) (ps : List IpcProcess) (dst to from : ℕ) (hops : List Hop) (at : ℕ) (h : Hop) → IsPath below ms ps dst to from hops at → hop_at below ms ps dst at ≡ Some h → at ≢ to → IsPath below ms ps dst to from (hops ++ h ∷ []) h.to
path_on below ms ps dst to from [] at h p is ne = (ap (hop_at below ms ps dst) p ∙ is, (λ e. ne (sym p ∙ e)), refl)
path_on below ms ps dst to from (g ∷ gs) at h p is ne = (p.0, p.1, path_on below ms ps dst to g.to gs at h p.2 is ne)

rest_on : (below : Seen) (ms : List Member) (ps : List IpcProcess) (dst at to i : ℕ) (h : Hop) (hs rest : List Hop) → hop_at below ms ps dst at ≡ Some h → at ≢ to → IsWay below ms ps dst at rest to → length hs ≡ i + length rest → Rest below ms ps dst h.to to (i + 1) hs
rest_on below ms ps dst at to i h hs [] is ne w long = absurd (ne w)
rest_on below ms ps dst at to i h hs (g ∷ gs) is ne w long =
    let same : g ≡ h = same_Some g h (sym w.0 ∙ is) in
    record {
      rest = gs;
      way = subst (λ (x : Hop). IsWay below ms ps dst x.to gs to) same w.2;
      long = omega (arith, long);
    }

-- one more hop was taken
pub walked_on : (below : Seen) (ms : List Member) (ps : List IpcProcess) (dst from to : ℕ) (hops : List Hop) (at i : ℕ) (h : Hop) → Walked below ms ps dst from to hops at i → hop_at below ms ps dst at ≡ Some h → at ≢ to → Walked below ms ps dst from to (hops ++ h ∷ []) h.to (i + 1)
walked_on below ms ps dst from to hops at i h so_far is ne = record {
  path = path_on below ms ps dst to from hops at h so_far.path is ne;
  rest = λ hs w.
      let r = so_far.rest hs w in
      rest_on below ms ps dst at to i h hs r.rest is ne r.way r.long;
}

path_is_way : (below : Seen) (ms : List Member) (ps : List IpcProcess) (dst to from : ℕ) (hops : List Hop) → IsPath below ms ps dst to from hops to → IsWay below ms ps dst from hops to
path_is_way below ms ps dst to from [] p = p
path_is_way below ms ps dst to from (h ∷ hs) p = (p.0, p.1, path_is_way below ms ps dst to h.to hs p.2)

-- the node was reached
pub walked_all : (below : Seen) (ms : List Member) (ps : List IpcProcess) (dst from to : ℕ) (hops : List Hop) (at i : ℕ) → Walked below ms ps dst from to hops at i → at ≡ to → IsWay below ms ps dst from hops to
walked_all below ms ps dst from to hops at i so_far here =
    path_is_way below ms ps dst to from hops (subst (λ (x : ℕ). IsPath below ms ps dst to from hops x) here so_far.path)

no_rest : (below : Seen) (ms : List Member) (ps : List IpcProcess) (dst at to : ℕ) (rest : List Hop) → hop_at below ms ps dst at ≡ None → at ≢ to → IsWay below ms ps dst at rest to → ⊥
no_rest below ms ps dst at to [] is ne w = ne w
no_rest below ms ps dst at to (g ∷ gs) is ne w = let no : None ≡ Some g = sym is ∙ w.0 in cc

-- there is no next hop
pub walked_out : (below : Seen) (ms : List Member) (ps : List IpcProcess) (dst from to : ℕ) (hops : List Hop) (at i : ℕ) → Walked below ms ps dst from to hops at i → hop_at below ms ps dst at ≡ None → at ≢ to
    → (hs : List Hop) → IsWay below ms ps dst from hs to → length ms < length hs
walked_out below ms ps dst from to hops at i so_far is ne hs w =
    let r = so_far.rest hs w in
    absurd (no_rest below ms ps dst at to r.rest is ne r.way)

some_rest : (below : Seen) (ms : List Member) (ps : List IpcProcess) (dst at to : ℕ) (rest : List Hop) → at ≢ to → IsWay below ms ps dst at rest to → 0 < length rest
some_rest below ms ps dst at to [] ne w = absurd (ne w)
some_rest below ms ps dst at to (g ∷ gs) ne w = omega arith

-- as many hops were taken as there are members
pub walked_long : (below : Seen) (ms : List Member) (ps : List IpcProcess) (dst from to : ℕ) (hops : List Hop) (at i : ℕ) → Walked below ms ps dst from to hops at i → length ms ≡ i → at ≢ to
    → (hs : List Hop) → IsWay below ms ps dst from hs to → length ms < length hs
walked_long below ms ps dst from to hops at i so_far many ne hs w =
    let r = so_far.rest hs w in
    omega (arith, r.long, some_rest below ms ps dst at to r.rest ne r.way, many)

-- the same where the hops are kept in a list that has one more
pub walked_push : (below : Seen) (ms : List Member) (ps : List IpcProcess) (dst from to : ℕ) (hops : List Hop) (at : ℕ) (h : Hop) (new : List Hop) → Walked below ms ps dst from to hops at (length hops) → hop_at below ms ps dst at ≡ Some h → at ≢ to → new ≡ hops ++ h ∷ [] → Walked below ms ps dst from to new h.to (length new)
walked_push below ms ps dst from to hops at h new so_far is ne more =
    let on : Walked below ms ps dst from to (hops ++ h ∷ []) h.to (length hops + 1) = walked_on below ms ps dst from to hops at (length hops) h so_far is ne in
    let long : length hops + 1 ≡ length (hops ++ h ∷ []) = sym (length-append hops (h ∷ [])) in
    subst (λ (xs : List Hop). Walked below ms ps dst from to xs h.to (length xs)) (sym more) (subst (λ (n : ℕ). Walked below ms ps dst from to (hops ++ h ∷ []) h.to n) long on)
