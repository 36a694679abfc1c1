-- An IPC process that asks to enrol writes no PDU off, and no line is written at the rank below, which it asks for a flow.
use Rattle.std.proofs.Common.{◌≡◌, ◌∙◌, ℕ, ◌+◌, true, false, List, map, slice_get, Option, Some, option_map, Result, Ok, Err, refl, sym, ap, subst, inl, inr}
use Rattle.std.proofs.lemmas.Option.{slice_get-map}
use Rattle.rina_channel.specs.declared.channel.Attachment.{Attachment}
use Rattle.rina_iface.specs.declared.ask.Ask.{Ask}
use Rattle.rina_iface.specs.declared.error.AllocateError.{AllocateError}
use Rattle.rina_iface.specs.declared.error.AllocateError.TheVariants as allocate
use Rattle.rina_iface.specs.Seen.{Seen}
use Rattle.rina_iface.proofs.Changed.{set_at}
use Rattle.rina_data.specs.declared.process.IpcProcess.{IpcProcess}
use Rattle.rina_data.specs.Deciding.{process_of}
use Rattle.rina_data.specs.Process.{Process}
use Rattle.rina_dif_law.specs.Dif.{DifSeen}
use Rattle.rina_dif.specs.declared.dif.Dif.{Dif}
use Rattle.rina_dif.specs.declared.enrol.EnrolError.{EnrolError}
use Rattle.rina_dif.specs.declared.enrol.EnrolError.TheVariants as errors
use Rattle.rina_dif.specs.Enrolling.{EnrolsAs, LinksUp}
use Rattle.rina_dif.specs.Shown.{seen_of as seen_of_dif}
use Rattle.rina_wire.specs.Air.{Air}
use Rattle.rina_wire.proofs.Kept.{is_mapped}
use Rattle.rina_tower.specs.declared.tower.Tower.{Tower, Wires, Rank'}
use Rattle.rina_tower.specs.Bystanders.{Anyone, IsIpc}
use Rattle.rina_tower.specs.Enrolling.{EnrolsAtTop, EnrolsOne}
use Rattle.rina_tower.specs.Ranks.{seen_of}
use Rattle.rina_tower.specs.Refusals.{refuses_allocate}
use Rattle.rina_tower.specs.Stands.{IsTower}
use Rattle.rina_tower.proofs.Alone.{fewer_now}
use Rattle.rina_tower.proofs.Serving.{rank_stepped, same_height, stepped_alone}
use Rattle.rina_tower.proofs.Stepped.{is_enrolled}
use Rattle.rina_laws.proofs.Enrolled.{MayAllocate, enrolled}
use Rattle.rina_laws.proofs.WrittenCalls.{Stood, allocates_stood, stood_same}
use Rattle.rina_laws.proofs.WrittenGoes.{Goes, goes_same}
use Rattle.rina_laws.proofs.WrittenGrows.{DifGrows, MayBeWritten, any_grows, ledgers_grow, same_grows}

module _ (W : MayBeWritten) (below : Tower) (d d' : Dif) where
  nothing_done : d' ≡ d → DifGrows W below d d'
  nothing_done is = same_grows W below d d' (ap (λ (z : Dif). z.processes) is)

  links_up : (i : ℕ) (link : Attachment) → LinksUp i link d.processes d'.processes → DifGrows W below d d'
  links_up i link l = ledgers_grow W below d d' (λ k p' at. elim (set_at d.processes i k l.process l.after p' l.is_process (subst (λ (ps : List IpcProcess). slice_get ps k ≡ Some p') l.are at)) [
    | inl s ↦ (l.process, subst (λ (m : ℕ). slice_get d.processes m ≡ Some l.process) (sym s.0) l.is_process, ap (λ (p : IpcProcess). p.ledger) s.1 ∙ l.takes.ledger)
    | inr o ↦ (p', o.1, refl)
  ])

  -- what is shown of each IPC process has its ledger
  shows_still : seen_of_dif d' ≡ seen_of_dif d → DifGrows W below d d'
  shows_still shown = ledgers_grow W below d d' (λ k p' at.
      let there : slice_get (map process_of d'.processes) k ≡ Some (process_of p') = slice_get-map process_of d'.processes k ∙ ap (option_map process_of) at in
      let before : slice_get (map process_of d.processes) k ≡ Some (process_of p') = subst (λ (ps : List Process). slice_get ps k ≡ Some (process_of p')) (ap (λ (z : DifSeen). z.processes) shown) there in
      let old = is_mapped process_of (slice_get d.processes k) (process_of p') (sym (slice_get-map process_of d.processes k) ∙ before) in
      (old.0, old.1, sym (ap (λ (q : Process). q.ledger) old.2)))

  enrols_as : (own : Ask → Option AllocateError) (lower : Seen) (node fac peer : ℕ) (x : Result (Unit {0}) EnrolError) (lower' : Seen) → EnrolsAs own d lower node fac peer x d' lower' → DifGrows W below d d'
  enrols_as own lower node fac peer (Ok done) lower' e = links_up e.does.i _ e.does.links
  enrols_as own lower node fac peer (Err errors.Memory) lower' e = shows_still e.0.shown
  enrols_as own lower node fac peer (Err errors.NoIpc) lower' e = nothing_done e.1
  enrols_as own lower node fac peer (Err (errors.Enrolling link)) lower' e = nothing_done e.1
  enrols_as own lower node fac peer (Err (errors.LinksFull max)) lower' e = nothing_done e.1
  enrols_as own lower node fac peer (Err (errors.CountSpent need left)) lower' e = nothing_done e.1
  enrols_as own lower node fac peer (Err (errors.Lower allocate.Memory)) lower' e = absurd e
  enrols_as own lower node fac peer (Err (errors.Lower allocate.NoMember)) lower' e = nothing_done e.same
  enrols_as own lower node fac peer (Err (errors.Lower allocate.NoCube)) lower' e = nothing_done e.same
  enrols_as own lower node fac peer (Err (errors.Lower allocate.NoSuchApp)) lower' e = nothing_done e.same
  enrols_as own lower node fac peer (Err (errors.Lower allocate.SameSystem)) lower' e = nothing_done e.same
  enrols_as own lower node fac peer (Err (errors.Lower (allocate.NoIds used))) lower' e = nothing_done e.same
  enrols_as own lower node fac peer (Err (errors.Lower (allocate.NoRoute dst))) lower' e = nothing_done e.same
  enrols_as own lower node fac peer (Err (errors.Lower (allocate.Busy port))) lower' e = nothing_done e.same
  enrols_as own lower node fac peer (Err (errors.Lower (allocate.CountSpent need left))) lower' e = nothing_done e.same

  one_enrols : (own : Ask → Option AllocateError) (lower : Seen) (node fac peer : ℕ) (x : Result (Unit {0}) EnrolError) (lower' : Seen) → EnrolsOne own lower node fac peer x lower' d d' → DifGrows W below d d'
  one_enrols own lower node fac peer x lower' e = elim (d.failed) as (λ z. d.failed ≡ z → DifGrows W below d d') [
    | true ↦ λ is. nothing_done (e.failed is).1
    | false ↦ λ is. enrols_as own lower node fac peer x lower' (e.does is)
  ] refl

asked_below : (W : MayBeWritten) (b b' : Tower) → IsTower b → MayAllocate b b' → Stood W b b'
asked_below W b b' v (inl same) = stood_same W b b' v same
asked_below W b b' v (inr a) = allocates_stood W a.0 a.1 b b' v a.4

pub enrols : (W : MayBeWritten) (dif node fac peer : ℕ) (x : Result (Unit {0}) EnrolError) (u u' : Tower) → IsTower u → EnrolsAtTop dif node fac peer x u u' → Goes W u u'
enrols W dif node fac peer x (Wires a) (Wires a') v d = goes_same W (Wires a) (Wires a') v (ap (λ (z : Air). Wires z) d.1)
enrols W dif node fac peer x (Rank' p difs below) (Rank' p' difs' below') v d =
    let s = asked_below W below below' v.1 (enrolled dif node fac peer x p p' difs difs' below below' v d) in
    let k = is_enrolled dif difs difs' (seen_of below) (seen_of below') (λ no. ap seen_of no.1) v.0.standing d.0 in
    let Does : Dif → Dif → Type 0 = EnrolsOne (refuses_allocate below) (seen_of below) node fac peer x (seen_of below') in
    record {
      valid = (rank_stepped difs' below below' v.0.low s.valid d.1 k.stand, s.valid);
      height = ap (λ (m : ℕ). m + 1) (same_height below below' d.1);
      alone = fewer_now Anyone IsIpc (seen_of (Rank' p difs below)) (seen_of (Rank' p' difs' below')) (λ name mine. tt) (stepped_alone Anyone difs difs' below below' k.clock k.quiet);
      grows = (any_grows W Does dif _ difs difs' below (λ y y' at e. one_enrols W below y y' (refuses_allocate below) (seen_of below) node fac peer x (seen_of below') e) d.0, s.grows);
    }
enrols W dif node fac peer x (Wires a) (Rank' p difs below) v d = absurd d
enrols W dif node fac peer x (Rank' p difs below) (Wires a) v d = absurd d
