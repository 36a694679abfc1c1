-- The places of a round, which are added one after the other.
use Rattle.std.proofs.Common.{◌≡◌, ◌∙◌, ℕ, ◌+◌, ◌<◌, ◌≤◌, Bool, true, false, List, [], ◌∷◌, ◌++◌, drop, get_or, length, map, min, Some, refl, sym, ap, subst, arith, append_assoc, inl, inr}
use Rattle.std.proofs.lemmas.Bool.{cases_lt}
use Rattle.std.proofs.lemmas.List.{append-nil, drop_all, drop_more}
use Rattle.std.proofs.lemmas.Option.{slice_get-get_or}
use Rattle.rina_data.specs.declared.link.Link.{Link}
use Rattle.rina_data.specs.declared.process.IpcProcess.{IpcProcess}
use Rattle.rina_data.specs.declared.settings.Member.{Member}
use Rattle.rina_dif.specs.declared.dif.Dif.{Dif}
use Rattle.rina_tower.specs.declared.places.LinkPlace.{LinkPlace}
use Rattle.rina_tower.specs.declared.places.MemberPlace.{MemberPlace}
use Rattle.rina_tower.specs.Rounds.{AreNumbered, dif_links, link_place, live_links, member_place, rank_links, rank_members}

-- what was added, and what is still to be added, is what was to be added
abbrev pub IsAdding : {P : Type 0} → List P → List P → List P → List P → Type 0
IsAdding start all places rest = places ++ rest ≡ start ++ all

pub adds_some : {P : Type 0} (start all places new rest rest' : List P) → rest ≡ new ++ rest' → IsAdding start all places rest → IsAdding start all (places ++ new) rest'
adds_some start all places new rest rest' is h = append_assoc places new rest' ∙ sym (ap (λ r. places ++ r) is) ∙ h

pub adds_none : {P : Type 0} (start all places rest rest' : List P) → rest ≡ rest' → IsAdding start all places rest → IsAdding start all places rest'
adds_none start all places rest rest' is h = sym (ap (λ r. places ++ r) is) ∙ h

pub all_added : {P : Type 0} (start all places rest : List P) → rest ≡ [] → IsAdding start all places rest → places ≡ start ++ all
all_added start all places rest is h = sym (append-nil places) ∙ sym (ap (λ r. places ++ r) is) ∙ h

-- The links of an IPC process

abbrev pub to_links : ℕ → ℕ → ℕ → List Link → List LinkPlace
to_links rank dif node links = map (link_place rank dif node) (live_links links)

live_more : (rank dif node : ℕ) (l : Link) (links : List Link) (b : Bool) → l.live ≡ b → b ≡ true → to_links rank dif node (l ∷ links) ≡ link_place rank dif node l.number ∷ to_links rank dif node links
live_more rank dif node l links b is passes = rw (is, passes) refl

dead_more : (rank dif node : ℕ) (l : Link) (links : List Link) → l.live ≡ false → to_links rank dif node (l ∷ links) ≡ to_links rank dif node links
dead_more rank dif node l links dead = rw dead refl

pub link_added : (rank dif node k : ℕ) (links : List Link) (d l : Link) (start places : List LinkPlace) → k < length links → l ≡ get_or links k d → l.live ≡ true → IsAdding start (to_links rank dif node links) places (to_links rank dif node (drop k links)) → IsAdding start (to_links rank dif node links) (places ++ link_place rank dif node l.number ∷ []) (to_links rank dif node (drop (k + 1) links))
link_added rank dif node k links d l start places lt is live h =
    let next : drop k links ≡ l ∷ drop (k + 1) links = drop_more links k d lt ∙ ap (λ (x : Link). x ∷ drop (k + 1) links) (sym is) in
    adds_some start (to_links rank dif node links) places (link_place rank dif node l.number ∷ []) (to_links rank dif node (drop k links)) (to_links rank dif node (drop (k + 1) links)) (ap (to_links rank dif node) next ∙ live_more rank dif node l (drop (k + 1) links) true live refl) h

pub link_left : (rank dif node k : ℕ) (links : List Link) (d l : Link) (start places : List LinkPlace) → k < length links → l ≡ get_or links k d → l.live ≡ false → IsAdding start (to_links rank dif node links) places (to_links rank dif node (drop k links)) → IsAdding start (to_links rank dif node links) places (to_links rank dif node (drop (k + 1) links))
link_left rank dif node k links d l start places lt is dead h =
    let next : drop k links ≡ l ∷ drop (k + 1) links = drop_more links k d lt ∙ ap (λ (x : Link). x ∷ drop (k + 1) links) (sym is) in
    adds_none start (to_links rank dif node links) places (to_links rank dif node (drop k links)) (to_links rank dif node (drop (k + 1) links)) (ap (to_links rank dif node) next ∙ dead_more rank dif node l (drop (k + 1) links) dead) h

pub links_added : (rank dif node k : ℕ) (links : List Link) (start places : List LinkPlace) → length links ≤ k → IsAdding start (to_links rank dif node links) places (to_links rank dif node (drop k links)) → places ≡ start ++ to_links rank dif node links
links_added rank dif node k links start places past h = all_added start (to_links rank dif node links) places (to_links rank dif node (drop k links)) (ap (to_links rank dif node) (drop_all k links past)) h

-- Those of a DIF

pub process_added : (rank dif k : ℕ) (ms : List Member) (ps : List IpcProcess) (dm m : Member) (dp p : IpcProcess) (start places new : List LinkPlace) → k < length ms → k < length ps → m ≡ get_or ms k dm → p ≡ get_or ps k dp → new ≡ places ++ to_links rank dif m.node p.links → IsAdding start (dif_links rank dif ms ps) places (dif_links rank dif (drop k ms) (drop k ps)) → IsAdding start (dif_links rank dif ms ps) new (dif_links rank dif (drop (k + 1) ms) (drop (k + 1) ps))
process_added rank dif k ms ps dm m dp p start places new lt lt' is is' made h =
    let next : drop k ms ≡ m ∷ drop (k + 1) ms = drop_more ms k dm lt ∙ ap (λ (x : Member). x ∷ drop (k + 1) ms) (sym is) in
    let next' : drop k ps ≡ p ∷ drop (k + 1) ps = drop_more ps k dp lt' ∙ ap (λ (x : IpcProcess). x ∷ drop (k + 1) ps) (sym is') in
    let split : dif_links rank dif (drop k ms) (drop k ps) ≡ to_links rank dif m.node p.links ++ dif_links rank dif (drop (k + 1) ms) (drop (k + 1) ps) = ap (λ (xs : List Member). dif_links rank dif xs (drop k ps)) next ∙ ap (dif_links rank dif (m ∷ drop (k + 1) ms)) next' in
    subst (λ (x : List LinkPlace). IsAdding start (dif_links rank dif ms ps) x (dif_links rank dif (drop (k + 1) ms) (drop (k + 1) ps))) (sym made) (adds_some start (dif_links rank dif ms ps) places (to_links rank dif m.node p.links) (dif_links rank dif (drop k ms) (drop k ps)) (dif_links rank dif (drop (k + 1) ms) (drop (k + 1) ps)) split h)

no_members : (rank dif : ℕ) (ms : List Member) (ps : List IpcProcess) → ms ≡ [] → dif_links rank dif ms ps ≡ []
no_members rank dif ms ps is = ap (λ (xs : List Member). dif_links rank dif xs ps) is

no_processes : (rank dif : ℕ) (ms : List Member) → dif_links rank dif ms [] ≡ []
no_processes rank dif [] = refl
no_processes rank dif (m ∷ ms) = refl

pub processes_added : (rank dif k : ℕ) (ms : List Member) (ps : List IpcProcess) (start places : List LinkPlace) → k ≡ min (length ms) (length ps) → IsAdding start (dif_links rank dif ms ps) places (dif_links rank dif (drop k ms) (drop k ps)) → places ≡ start ++ dif_links rank dif ms ps
processes_added rank dif k ms ps start places is h = elim (cases_lt k (length ms)) [
  | inl lt ↦ all_added start (dif_links rank dif ms ps) places (dif_links rank dif (drop k ms) (drop k ps)) (ap (dif_links rank dif (drop k ms)) (drop_all k ps (omega (arith, is, lt))) ∙ no_processes rank dif (drop k ms)) h
  | inr past ↦ all_added start (dif_links rank dif ms ps) places (dif_links rank dif (drop k ms) (drop k ps)) (no_members rank dif (drop k ms) (drop k ps) (drop_all k ms (omega (arith, past)))) h
]

-- Those of a rank

pub dif_added : (rank k : ℕ) (ds : List Dif) (dd d : Dif) (start places new : List LinkPlace) → k < length ds → d ≡ get_or ds k dd → d.settings.fac ≡ k → new ≡ places ++ dif_links rank d.settings.fac d.settings.members d.processes → IsAdding start (rank_links rank 0 ds) places (rank_links rank k (drop k ds)) → IsAdding start (rank_links rank 0 ds) new (rank_links rank (k + 1) (drop (k + 1) ds))
dif_added rank k ds dd d start places new lt is number made h =
    let next : drop k ds ≡ d ∷ drop (k + 1) ds = drop_more ds k dd lt ∙ ap (λ (x : Dif). x ∷ drop (k + 1) ds) (sym is) in
    let own : dif_links rank k d.settings.members d.processes ≡ dif_links rank d.settings.fac d.settings.members d.processes = ap (λ (n : ℕ). dif_links rank n d.settings.members d.processes) (sym number) in
    let split : rank_links rank k (drop k ds) ≡ dif_links rank d.settings.fac d.settings.members d.processes ++ rank_links rank (k + 1) (drop (k + 1) ds) = ap (rank_links rank k) next ∙ ap (λ (x : List LinkPlace). x ++ rank_links rank (k + 1) (drop (k + 1) ds)) own in
    subst (λ (x : List LinkPlace). IsAdding start (rank_links rank 0 ds) x (rank_links rank (k + 1) (drop (k + 1) ds))) (sym made) (adds_some start (rank_links rank 0 ds) places (dif_links rank d.settings.fac d.settings.members d.processes) (rank_links rank k (drop k ds)) (rank_links rank (k + 1) (drop (k + 1) ds)) split h)

pub difs_added : (rank k : ℕ) (ds : List Dif) (start places : List LinkPlace) → length ds ≤ k → IsAdding start (rank_links rank 0 ds) places (rank_links rank k (drop k ds)) → places ≡ start ++ rank_links rank 0 ds
difs_added rank k ds start places past h = all_added start (rank_links rank 0 ds) places (rank_links rank k (drop k ds)) (ap (rank_links rank k) (drop_all k ds past)) h

-- The IPC processes of a rank

pub member_added : (rank k : ℕ) (ds : List Dif) (dd d : Dif) (start places new : List MemberPlace) → k < length ds → d ≡ get_or ds k dd → d.settings.fac ≡ k → new ≡ places ++ map (member_place rank d.settings.fac) d.settings.members → IsAdding start (rank_members rank 0 ds) places (rank_members rank k (drop k ds)) → IsAdding start (rank_members rank 0 ds) new (rank_members rank (k + 1) (drop (k + 1) ds))
member_added rank k ds dd d start places new lt is number made h =
    let next : drop k ds ≡ d ∷ drop (k + 1) ds = drop_more ds k dd lt ∙ ap (λ (x : Dif). x ∷ drop (k + 1) ds) (sym is) in
    let own : map (member_place rank k) d.settings.members ≡ map (member_place rank d.settings.fac) d.settings.members = ap (λ (n : ℕ). map (member_place rank n) d.settings.members) (sym number) in
    let split : rank_members rank k (drop k ds) ≡ map (member_place rank d.settings.fac) d.settings.members ++ rank_members rank (k + 1) (drop (k + 1) ds) = ap (rank_members rank k) next ∙ ap (λ (x : List MemberPlace). x ++ rank_members rank (k + 1) (drop (k + 1) ds)) own in
    subst (λ (x : List MemberPlace). IsAdding start (rank_members rank 0 ds) x (rank_members rank (k + 1) (drop (k + 1) ds))) (sym made) (adds_some start (rank_members rank 0 ds) places (map (member_place rank d.settings.fac) d.settings.members) (rank_members rank k (drop k ds)) (rank_members rank (k + 1) (drop (k + 1) ds)) split h)

pub members_added : (rank k : ℕ) (ds : List Dif) (start places : List MemberPlace) → length ds ≤ k → IsAdding start (rank_members rank 0 ds) places (rank_members rank k (drop k ds)) → places ≡ start ++ rank_members rank 0 ds
members_added rank k ds start places past h = all_added start (rank_members rank 0 ds) places (rank_members rank k (drop k ds)) (ap (rank_members rank k) (drop_all k ds past)) h

-- a DIF that was read has the number of its place
pub its_number : (ds : List Dif) (k : ℕ) (d : Dif) → k < length ds → d ≡ get_or ds k d → AreNumbered ds → d.settings.fac ≡ k
its_number ds k d lt is numbered = numbered k d (slice_get-get_or ds k d lt ∙ ap (λ (x : Dif). Some x) (sym is))
