-- The account of an IPC process counts no PDU of a link's management connection.
use Rattle.std.proofs.Common.{◌≡◌, ◌≢◌, ℕ, ◌+◌, ◌≤◌, ◌&&◌, not, cond, eqb, Bool, true, false, List, [], ◌∷◌, length, slice_get, Some, sym, ◌∙◌, arith, inl, inr, ◌⊎◌, refl}
use Rattle.std.proofs.lemmas.Bool.Decides.{eqb_tells}
use Rattle.std.proofs.lemmas.List.Sums.{sum_by-cons}
use Rattle.rina_account.specs.Account.{Counts, key_eq, off_count}
use Rattle.rina_account.specs.declared.ledger.Off.{Off}
use Rattle.rina_base.specs.declared.number.Key.{Key}
use Rattle.rina_base.specs.declared.number.Port.{Port}
use Rattle.rina_base.specs.declared.pdu.Pdu.{Pdu}
use Rattle.rina_base.specs.Pdus.{key_of}
use Rattle.rina_iface.specs.declared.ends.End.{End}
use Rattle.rina_iface.specs.Seen.{Seen, end_of}
use Rattle.rina_law.specs.Direction.{Direction}
use Rattle.rina_law.specs.Lists.{In}
use Rattle.rina_data.specs.Configs.{Member}
use Rattle.rina_data.specs.Hops.{Hop}
use Rattle.rina_data.specs.Process.{Process}
use Rattle.rina_dif_law.specs.Accounted.{IsAccounted, IsBalanced, Resends, bears, bears_on, counts_of}
use Rattle.rina_dif_law.specs.Cloud.{IsMine}
use Rattle.rina_dif_law.specs.Dif.{DifSeen, IsProcess}
use Rattle.rina_dif_law.specs.Ids.{Ids, IsOfLink}
use Rattle.rina_dif_law.proofs.Balancing.{AreSame, balanced_moved, moved_same}
use Rattle.rina_dif_law.proofs.Keys.{one, one_not}

-- a key that is of no link
abbrev pub NotOfLink : Key → Type 0
NotOfLink k = k.src ≡ 0 → k.scep ≡ 0 → ⊥

-- a key of a link is not accounted for at an IPC process whose address is not 0
unaccounted : (addr : ℕ) (k : Key) (resends : Type 0) (n : Counts) → addr ≢ 0 → k.src ≡ 0 → k.scep ≡ 0 → IsBalanced addr k resends n
unaccounted addr k resends n positive src scep = record {
  foreign = λ kind other some. absurd (some scep);
  own = λ kind own. absurd (positive (sym own ∙ src));
  once = λ kind own none. absurd (positive (sym own ∙ src));
  foreign_ack = λ kind other some. absurd (some scep);
  own_ack = λ kind own. absurd (positive (sym own ∙ src));
}

key_cases : (k : Key) → ((k.src ≡ 0) × (k.scep ≡ 0)) ⊎ NotOfLink k
key_cases k = elim (eqb_tells k.src 0) [
  | inl s ↦ elim (eqb_tells k.scep 0) [
    | inl t ↦ inl (s.1, t.1)
    | inr f ↦ inr (λ src scep. f.1 scep)
  ]
  | inr f ↦ inr (λ src scep. f.1 src)
]

-- the account goes on where the counts of the other keys stay
pub accounted_but : (d d' : DifSeen) (lines : List Direction) (below below' : Seen) → ((i : ℕ) (m : Member) → slice_get d'.config.members i ≡ Some m → m.addr ≢ 0) → IsAccounted d lines below → ((port : Port) (e : End) → end_of below' port ≡ Some e → IsMine d'.config.members e.app → e.taken ≤ length e.got) → ((i : ℕ) (ids : Ids) → slice_get d'.conns i ≡ Some ids → ids.own ≢ ids.far)
    → ((addr cep : ℕ) → Resends d addr cep → Resends d' addr cep)
    → ((i : ℕ) (m : Member) (p' : Process) (k : Key) → IsProcess d' i m p' → NotOfLink k → (p : Process) × IsProcess d i m p × AreSame (counts_of d lines below m p k) (counts_of d' lines below' m p' k)) → IsAccounted d' lines below'
accounted_but d d' lines below below' positive a passed apart resends each = record {
  passed = passed;
  apart = apart;
  balanced = λ i m p' k is. elim (key_cases k) [
    | inl of ↦ unaccounted m.addr k (Resends d' m.addr k.scep) (counts_of d' lines below' m p' k) (positive i m is.is_member) of.0 of.1
    | inr other ↦
        let b = each i m p' k is other in
        balanced_moved m.addr k (Resends d m.addr k.scep) (Resends d' m.addr k.scep) (counts_of d lines below m b.0 k) (counts_of d' lines below' m p' k) (a.balanced i m b.0 k b.1) (resends m.addr k.scep) (moved_same m.addr k (Resends d' m.addr k.scep) (counts_of d lines below m b.0 k) (counts_of d' lines below' m p' k) b.2)
  ];
}

-- a PDU of a link does not bear another key
pub not_borne : (k : Key) (pdu : Pdu) → NotOfLink k → IsOfLink pdu → one k (key_of pdu) ≡ 0
not_borne k pdu other of = one_not k (key_of pdu) (λ o. other (o.src ∙ of.src) (o.scep ∙ of.scep))

-- nor do lines of links
pub none_noted : (k : Key) (offs : List Off) → NotOfLink k → ((off : Off) → In off offs → (off.key.src ≡ 0) × (off.key.scep ≡ 0)) → off_count offs k ≡ 0
none_noted k [] other all = refl
none_noted k (off ∷ offs) other all =
    let whole : off_count (off ∷ offs) k ≡ one k off.key + off_count offs k = sum_by-cons (λ (line : Off). one k line.key) off offs in
    let of = all off (inl refl) in
    let here : one k off.key ≡ 0 = one_not k off.key (λ o. other (o.src ∙ of.0) (o.scep ∙ of.1)) in
    let rest = none_noted k offs other (λ x one. all x (inr one)) in
    omega (arith, whole, here, rest)

abbrev pub once_if : Bool → ℕ
once_if b = cond b 1 0

pub not_bears : (k : Key) (hop : Hop) → NotOfLink k → IsOfLink hop.pdu → once_if (bears k (Some hop)) ≡ 0
not_bears k hop other of = not_borne k hop.pdu other of

pub not_bears_on : (addr : ℕ) (k : Key) (hop : Hop) → NotOfLink k → IsOfLink hop.pdu → once_if (bears_on addr k (Some hop)) ≡ 0
not_bears_on addr k hop other of = go (key_eq k (key_of hop.pdu)) (not_borne k hop.pdu other of)
  where
    go : (b : Bool) → once_if b ≡ 0 → once_if (b && not (eqb hop.pdu.dst addr)) ≡ 0
    go false e = refl
    go true e = absurd (omega (arith, e))
