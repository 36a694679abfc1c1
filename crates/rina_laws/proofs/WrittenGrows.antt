-- How the ledgers of a tower grow: whatever is a line after was one before, or is new.
use Rattle.std.proofs.Common.{◌≡◌, ◌∙◌, ℕ, ◌+◌, ◌==◌, zero, suc, true, false, List, [], ◌∷◌, ◌++◌, map, slice_get, Option, Some, None, option_and_then, option_map, refl, sym, ap, subst, arith, inl, inr, ◌⊎◌}
use Rattle.std.proofs.lemmas.Bool.Decides.{eqb_tells}
use Rattle.std.proofs.lemmas.Option.{same_Some, slice_get-map}
use Rattle.rina_account.specs.declared.ledger.Off.{Off}
use Rattle.rina_law.specs.Lists.{In}
use Rattle.rina_iface.proofs.Changed.{set_at}
use Rattle.rina_data.specs.declared.process.IpcProcess.{IpcProcess}
use Rattle.rina_data.specs.Deciding.{process_of}
use Rattle.rina_data.specs.Process.{Process}
use Rattle.rina_dif_law.specs.WriteOffs.{Writes}
use Rattle.rina_dif.specs.declared.dif.Dif.{Dif}
use Rattle.rina_dif.specs.Shown.{seen_of as seen_of_dif}
use Rattle.rina_wire.specs.Air.{Air}
use Rattle.rina_wire.proofs.Kept.{is_mapped}
use Rattle.rina_tower.specs.declared.tower.Tower.{Tower, Wires, Rank'}
use Rattle.rina_tower.specs.Ledgers.{dif_of}
use Rattle.rina_tower.specs.Levels.{AtDif, IsAtDif}
use Rattle.rina_tower.specs.Ranks.{below_of, height_of, rank_of}
use Rattle.rina_laws.specs.Written.{line_at, line_of}

-- what may be written by a DIF over the rank below, of the IPC process at a place
abbrev pub MayBeWritten : Type 1
MayBeWritten = Dif → Tower → ℕ → Off → Type 0

-- nothing
abbrev pub Never : MayBeWritten
Never d below i off = ⊥

-- ---- one DIF

-- each line that is new is one of which this holds before
abbrev pub DifGrows : MayBeWritten → Tower → Dif → Dif → Type 0
DifGrows W below d d' = (i k : ℕ) (off : Off) → line_of d'.processes i k ≡ Some off → (line_of d.processes i k ≡ Some off) ⊎ ((line_of d.processes i k ≡ None) × W d below i off)

pub same_grows : (W : MayBeWritten) (below : Tower) (d d' : Dif) → d'.processes ≡ d.processes → DifGrows W below d d'
same_grows W below d d' same i k off h = inl (subst (λ (ps : List IpcProcess). line_of ps i k ≡ Some off) same h)

pub line_in : (o : Option IpcProcess) (k : ℕ) (off : Off) → option_and_then (λ (p : IpcProcess). slice_get p.ledger k) o ≡ Some off → (p : IpcProcess) × (o ≡ Some p) × (slice_get p.ledger k ≡ Some off)
line_in None k off h = cc
line_in (Some p) k off h = (p, refl, h)

-- each ledger is as it was
pub ledgers_grow : (W : MayBeWritten) (below : Tower) (d d' : Dif) → ((i : ℕ) (p' : IpcProcess) → slice_get d'.processes i ≡ Some p' → (p : IpcProcess) × (slice_get d.processes i ≡ Some p) × (p'.ledger ≡ p.ledger)) → DifGrows W below d d'
ledgers_grow W below d d' same i k off h =
    let m = line_in (slice_get d'.processes i) k off h in
    let x = same i m.0 m.1 in
    inl (ap (option_and_then (λ (p : IpcProcess). slice_get p.ledger k)) x.1 ∙ subst (λ (ls : List Off). slice_get ls k ≡ Some off) x.2 m.2)

in_at : (ys : List Off) (k : ℕ) (x : Off) → slice_get ys k ≡ Some x → In x ys
in_at [] k x h = cc
in_at (y ∷ ys) zero x h = inl (sym (same_Some y x h))
in_at (y ∷ ys) (suc k) x h = inr (in_at ys k x h)

joined_at : (xs ys : List Off) (k : ℕ) (x : Off) → slice_get (xs ++ ys) k ≡ Some x → (slice_get xs k ≡ Some x) ⊎ ((slice_get xs k ≡ None) × In x ys)
joined_at [] ys k x h = inr (refl, in_at ys k x h)
joined_at (z ∷ xs) ys zero x h = inl h
joined_at (z ∷ xs) ys (suc k) x h = joined_at xs ys k x h

-- what a call or a step writes
pub writes_grow : (W : MayBeWritten) (holds : ℕ → Off → Type 0) (below : Tower) (d d' : Dif) → ((i : ℕ) (off : Off) → holds i off → W d below i off) → Writes holds (seen_of_dif d) (seen_of_dif d') → DifGrows W below d d'
writes_grow W holds below d d' may w i k off h =
    let m = line_in (slice_get d'.processes i) k off h in
    let seen : slice_get (map process_of d'.processes) i ≡ Some (process_of m.0) = slice_get-map process_of d'.processes i ∙ ap (option_map process_of) m.1 in
    let x = w i (process_of m.0) seen in
    let old = is_mapped process_of (slice_get d.processes i) x.process (sym (slice_get-map process_of d.processes i) ∙ x.is_process) in
    let ledger : m.0.ledger ≡ old.0.ledger ++ x.offs = x.ledger ∙ ap (λ (q : Process). q.ledger ++ x.offs) (sym old.2) in
    let was : line_of d.processes i k ≡ slice_get old.0.ledger k = ap (option_and_then (λ (p : IpcProcess). slice_get p.ledger k)) old.1 in
    elim (joined_at old.0.ledger x.offs k off (subst (λ (ls : List Off). slice_get ls k ≡ Some off) ledger m.2)) [
      | inl o ↦ inl (was ∙ o)
      | inr n ↦ inr (was ∙ n.0, may i off (x.each off n.1))
    ]

-- ---- the DIFs of a rank

abbrev pub RankGrows : MayBeWritten → List Dif → Tower → List Dif → Type 0
RankGrows W difs below difs' = (n : ℕ) (d' : Dif) → slice_get difs' n ≡ Some d' → (d : Dif) × (slice_get difs n ≡ Some d) × DifGrows W below d d'

pub rank_same : (W : MayBeWritten) (difs : List Dif) (below : Tower) → RankGrows W difs below difs
rank_same W difs below n d at = (d, at, same_grows W below d d refl)

pub one_grows : (W : MayBeWritten) (does : Dif → Dif → Type 0) (n : ℕ) (difs difs' : List Dif) (below : Tower) → ((d d' : Dif) → slice_get difs n ≡ Some d → does d d' → DifGrows W below d d') → IsAtDif does n difs difs' → RankGrows W difs below difs'
one_grows W does n difs difs' below each h k x at = elim (set_at difs n k h.dif h.dif' x h.is_dif (subst (λ (ds : List Dif). slice_get ds k ≡ Some x) h.new_is at)) [
  | inl s ↦ (h.dif, subst (λ (m : ℕ). slice_get difs m ≡ Some h.dif) (sym s.0) h.is_dif, subst (λ (z : Dif). DifGrows W below h.dif z) (sym s.1) (each h.dif h.dif' h.is_dif h.done))
  | inr o ↦ (x, o.1, same_grows W below x x refl)
]

pub any_grows : (W : MayBeWritten) (does : Dif → Dif → Type 0) (n : ℕ) (none : Type 0) (difs difs' : List Dif) (below : Tower) → ((d d' : Dif) → slice_get difs n ≡ Some d → does d d' → DifGrows W below d d') → AtDif n does none difs difs' → RankGrows W difs below difs'
any_grows W does n none difs difs' below each a = elim a [
  | inl h ↦ one_grows W does n difs difs' below each h
  | inr h ↦ subst (RankGrows W difs below) (sym h.2) (rank_same W difs below)
]

-- ---- a tower

abbrev pub Grows : MayBeWritten → Tower → Tower → Type 0
Grows W (Wires a) (Wires a') = Unit {0}
Grows W (Rank' p difs below) (Rank' p' difs' below') = RankGrows W difs below difs' × Grows W below below'
Grows W t t' = ⊥

pub grows_same : (W : MayBeWritten) (t : Tower) → Grows W t t
grows_same W (Wires a) = tt
grows_same W (Rank' p difs below) = (rank_same W difs below, grows_same W below)

-- what may be written by one may be written by another
pub rank_more : (W V : MayBeWritten) (difs difs' : List Dif) (below : Tower) → ((d : Dif) (u : Tower) (i : ℕ) (off : Off) → W d u i off → V d u i off) → RankGrows W difs below difs' → RankGrows V difs below difs'
rank_more W V difs difs' below all g n d' at =
    let x = g n d' at in
    (x.0, x.1, λ i k off h. elim (x.2 i k off h) [ inl o ↦ inl o | inr w ↦ inr (w.0, all x.0 below i off w.1) ])

pub grows_more : (W V : MayBeWritten) (t t' : Tower) → ((d : Dif) (u : Tower) (i : ℕ) (off : Off) → W d u i off → V d u i off) → Grows W t t' → Grows V t t'
grows_more W V (Wires a) (Wires a') all g = tt
grows_more W V (Rank' p difs below) (Rank' p' difs' below') all g = (rank_more W V difs difs' below all g.0, grows_more W V below below' all g.1)
grows_more W V (Wires a) (Rank' p difs below) all g = absurd g
grows_more W V (Rank' p difs below) (Wires a) all g = absurd g

-- where nothing is new, one change after another
never_on : (below lower : Tower) (d e f : Dif) → DifGrows Never below d e → DifGrows Never lower e f → DifGrows Never below d f
never_on below lower d e f g h i k off is = elim (h i k off is) [ inl o ↦ g i k off o | inr w ↦ absurd w.1 ]

pub grows_on : (t u v : Tower) → Grows Never t u → Grows Never u v → Grows Never t v
grows_on (Wires a) (Wires b) (Wires c) g h = tt
grows_on (Rank' p ds below) (Rank' q es mid) (Rank' r fs under) g h = (λ n f at. (let e = h.0 n f at in let d = g.0 n e.0 e.1 in (d.0, d.1, never_on below mid d.0 e.0 f d.2 e.2)), grows_on below mid under g.1 h.1)
grows_on (Wires a) (Wires b) (Rank' r fs under) g h = absurd h
grows_on (Wires a) (Rank' q es mid) v g h = absurd g
grows_on (Rank' p ds below) (Wires b) v g h = absurd g
grows_on (Rank' p ds below) (Rank' q es mid) (Wires c) g h = absurd h

-- a line that is new at its place
pub record NewLine (W : MayBeWritten) (r n i k : ℕ) (off : Off) (t t' : Tower) : Type 0 where
  pub none : line_at t r n i k ≡ None
  pub written : line_at t' r n i k ≡ Some off
  pub rank : Tower
  pub is_rank : rank_of t r ≡ Some rank
  pub below : Tower
  pub is_below : below_of rank ≡ Some below
  pub dif : Dif
  pub is_dif : dif_of rank n ≡ Some dif
  pub may : W dif below i off

-- the line of a DIF of these
abbrev pub line_among : List Dif → ℕ → ℕ → ℕ → Option Off
line_among difs n i k = option_and_then (λ (d : Dif). line_of d.processes i k) (slice_get difs n)

own_rank : (p : _) (difs : List Dif) (below : Tower) (r : ℕ) → (r == height_of below + 1) ≡ true → rank_of (Rank' p difs below) r ≡ Some (Rank' p difs below)
own_rank p difs below r test = rw test refl

low_rank : (p : _) (difs : List Dif) (below : Tower) (r : ℕ) → (r == height_of below + 1) ≡ false → rank_of (Rank' p difs below) r ≡ rank_of below r
low_rank p difs below r test = rw test refl

-- the line by the tower up to its rank
abbrev pub line_by : ℕ → ℕ → ℕ → Option Tower → Option Off
line_by n i k o = option_and_then (λ (d : Dif). line_of d.processes i k) (option_and_then (λ (u : Tower). dif_of u n) o)

pub own_line : (p : _) (difs : List Dif) (below : Tower) (r n i k : ℕ) → (r == height_of below + 1) ≡ true → line_at (Rank' p difs below) r n i k ≡ line_among difs n i k
own_line p difs below r n i k test = ap (line_by n i k) (own_rank p difs below r test)

pub low_line : (p : _) (difs : List Dif) (below : Tower) (r n i k : ℕ) → (r == height_of below + 1) ≡ false → line_at (Rank' p difs below) r n i k ≡ line_at below r n i k
low_line p difs below r n i k test = ap (line_by n i k) (low_rank p difs below r test)

wires_rank : (a : Air) (r : ℕ) → (rank_of (Wires a) r ≡ None) ⊎ (rank_of (Wires a) r ≡ Some (Wires a))
wires_rank a r = elim (eqb_tells r 0) [
  | inl t ↦ inr (rw t.0 refl)
  | inr f ↦ inl (rw f.0 refl)
]

pub no_line : (a : Air) (r n i k : ℕ) (off : Off) → line_at (Wires a) r n i k ≡ Some off → ⊥
no_line a r n i k off h = elim (wires_rank a r) [
  | inl o ↦ (let no : None ≡ Some off = sym (ap (line_by n i k) o) ∙ h in cc)
  | inr o ↦ (let no : None ≡ Some off = sym (ap (line_by n i k) o) ∙ h in cc)
]

pub dif_in : (o : Option Dif) (i k : ℕ) (off : Off) → option_and_then (λ (d : Dif). line_of d.processes i k) o ≡ Some off → (d : Dif) × (o ≡ Some d) × (line_of d.processes i k ≡ Some off)
dif_in None i k off h = cc
dif_in (Some d) i k off h = (d, refl, h)

-- whatever is a line of the tower was one before, or is new
pub grown_at : (W : MayBeWritten) (t t' : Tower) (r n i k : ℕ) (off : Off) → height_of t' ≡ height_of t → Grows W t t' → line_at t' r n i k ≡ Some off → (line_at t r n i k ≡ Some off) ⊎ NewLine W r n i k off t t'
grown_at W (Wires a) (Wires a') r n i k off height g h = absurd (no_line a' r n i k off h)
grown_at W (Rank' p difs below) (Rank' p' difs' below') r n i k off height g h = elim (eqb_tells r (height_of below + 1)) [
  | inl e ↦
      let test : (r == height_of below' + 1) ≡ true = subst (λ (m : ℕ). (r == m) ≡ true) (sym height) e.0 in
      let m = dif_in (slice_get difs' n) i k off (sym (own_line p' difs' below' r n i k test) ∙ h) in
      let x = g.0 n m.0 m.1 in
      let was : line_at (Rank' p difs below) r n i k ≡ line_of x.0.processes i k = own_line p difs below r n i k e.0 ∙ ap (option_and_then (λ (d : Dif). line_of d.processes i k)) x.1 in
      elim (x.2 i k off m.2) [
        | inl o ↦ inl (was ∙ o)
        | inr w ↦ inr (record { none = was ∙ w.0; written = h; rank = Rank' p difs below; is_rank = own_rank p difs below r e.0; below = below; is_below = refl; dif = x.0; is_dif = x.1; may = w.1 })
      ]
  | inr f ↦
      let test : (r == height_of below' + 1) ≡ false = subst (λ (m : ℕ). (r == m) ≡ false) (sym height) f.0 in
      let low : height_of below' + 1 ≡ height_of below + 1 = height in
      elim (grown_at W below below' r n i k off (omega (arith, low)) g.1 (sym (low_line p' difs' below' r n i k test) ∙ h)) [
        | inl o ↦ inl (low_line p difs below r n i k f.0 ∙ o)
        | inr w ↦ inr (record { none = low_line p difs below r n i k f.0 ∙ w.none; written = h; rank = w.rank; is_rank = low_rank p difs below r f.0 ∙ w.is_rank; below = w.below; is_below = w.is_below; dif = w.dif; is_dif = w.is_dif; may = w.may })
      ]
]
grown_at W (Wires a) (Rank' p difs below) r n i k off height g h = absurd g
grown_at W (Rank' p difs below) (Wires a) r n i k off height g h = absurd g
