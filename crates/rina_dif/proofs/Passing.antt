-- An end of a management connection passes all SDUs that came to it.
use Rattle.std.proofs.Common.{◌≡◌, ◌∙◌, ℕ, suc, ◌+◌, ◌-◌, ◌<◌, List, length, length-set, slice_get, slice_set, set-set, Some, refl, sym, ap, subst, arith}
use Rattle.std.proofs.lemmas.Option.{same_Some}
use Rattle.rina_iface.specs.declared.ends.End.{End}
use Rattle.rina_iface.specs.Ends.{with_passed}
use Rattle.rina_iface.specs.Journal.{At}
use Rattle.rina_iface.specs.Seen.{Seen}
use Rattle.rina_iface.proofs.Changed.{slice_get-set_same, slice_set-same}
use Rattle.rina_law.specs.Direction.{Direction}
use Rattle.rina_data.specs.Configs.{Config, config_of}
use Rattle.rina_data.proofs.Finding.{there}
use Rattle.rina_dif_law.specs.Ids.{Ids}
use Rattle.rina_flows.specs.declared.flows.Flows.{Flows}
use Rattle.rina_flows.specs.Calls.{AreTied, IsPassed, PassesOne, SameIds}
use Rattle.rina_flows.specs.Rows.{PassedAt}
use Rattle.rina_flows.specs.Tied.{conns_of}
use Rattle.rina_channel.specs.Channels.{ChannelsSeen}
use Rattle.rina_channel.specs.Standing.{IsStanding}
use Rattle.rina_channel.proofs.Arriving.{calls_that_pass_do, passes_stand}
use Rattle.rina_channel.proofs.Calls.{calls_change_ends}
use Rattle.rina_dif.specs.declared.dif.Dif.{Dif}
use Rattle.rina_dif.specs.Connected.{channels_seen}
use Rattle.rina_dif.specs.Handling.{PassesAll, PassesTimes}
use Rattle.rina_dif.specs.Holding.{LinksStand}
use Rattle.rina_dif.specs.Messaging.{manage_config}
use Rattle.rina_dif.specs.Shown.{seen_of}
use Rattle.rina_dif.proofs.NamedByPlace.{named_set}

-- the DIF with other connections
abbrev pub with_links : Dif → Flows → Dif
with_links d flows = record d { connections = record d.connections { flows = flows } }

-- an end of which so many SDUs were passed
abbrev pub passed_to : End → ℕ → End
passed_to end n = record end { taken = n }

-- so many of the SDUs of the end at a place were passed
pub record HavePassed (d : Dif) (links : List Direction) (below : Seen) (place n : ℕ) (end : End) (flows : Flows) : Type 0 where
  pub links' : List Direction
  pub passes : PassesTimes (manage_config d) (conns_of d.connections.flows.conns) place n d.connections.flows.journal.ends links flows.journal.ends links'
  pub tied : AreTied (manage_config d) d.clock flows links'
  pub standing : IsStanding (channels_seen (config_of d.settings) d.clock (record d.connections { flows = flows })) links' (seen_of d).processes below
  pub ids : SameIds d.connections.flows flows
  pub ends : flows.journal.ends ≡ slice_set d.connections.flows.journal.ends place (passed_to end (end.taken + n))

-- whatever stands below
abbrev pub HavePassedAll : Dif → ℕ → ℕ → Flows → Type 0
HavePassedAll d place n flows = (below : Seen) (links : LinksStand d below) (end : End) → At d.connections.flows.journal.ends place end → HavePassed d links.lines below place n end flows

pub none_passed : (d : Dif) (place : ℕ) → HavePassedAll d place 0 d.connections.flows
none_passed d place below links end is = record {
  links' = links.lines;
  passes = (refl, refl);
  tied = links.tied;
  standing = links.standing;
  ids = refl;
  ends = (let none : end.taken + 0 ≡ end.taken = omega arith in sym (ap (λ (n : ℕ). slice_set d.connections.flows.journal.ends place (passed_to end n)) none ∙ slice_set-same d.connections.flows.journal.ends place end is));
}

module _ (d : Dif) (links : List Direction) (below : Seen) (place n : ℕ) (end : End) (flows new : Flows) (is : At d.connections.flows.journal.ends place end) (h : HavePassed d links below place n end flows) (call : PassesOne d.clock place flows new) where
  abbrev g : Config
  g = config_of d.settings

  abbrev seen_with : Flows → ChannelsSeen
  seen_with fs = channels_seen g d.clock (record d.connections { flows = fs })

  p : IsPassed (manage_config d) d.clock place flows h.links' new
  p = calls_that_pass_do g d.connections.manage d.clock d.connections.channels h.links' (seen_of d).processes below flows new place h.standing h.tied call

  -- the end that passes one more
  its_end : passed_to end (end.taken + n) ≡ p.passed.end
  its_end = same_Some _ p.passed.end (sym (slice_get-set_same d.connections.flows.journal.ends place end (passed_to end (end.taken + n)) is) ∙ ap (λ (es : List End). slice_get es place) (sym h.ends) ∙ p.passed.place.is_conn.end)

  pub one_passed : HavePassed d links below place (n + 1) end new
  one_passed =
      let ends' : List End = d.connections.flows.journal.ends in
      let count : end.taken + n + 1 ≡ end.taken + (n + 1) = omega arith in
      let suc_is : suc n ≡ n + 1 = omega arith in
      let at : PassedAt (manage_config d) flows.journal.ends (conns_of d.connections.flows.conns) h.links' place new.journal.ends p.lines' = subst (λ (ids : List Ids). PassedAt (manage_config d) flows.journal.ends ids h.links' place new.journal.ends p.lines') h.ids p.passed in
      record {
        links' = p.lines';
        passes = subst (λ (k : ℕ). PassesTimes (manage_config d) (conns_of d.connections.flows.conns) place k ends' links new.journal.ends p.lines') suc_is (flows.journal.ends, h.links', h.passes, at);
        tied = p.tied;
        standing = subst (λ (z : ChannelsSeen). IsStanding z p.lines' (seen_of d).processes below) (sym (calls_change_ends g d.connections.manage d.clock d.connections.channels flows new p.ids)) (passes_stand (seen_with flows) h.links' (seen_of d).processes below place new.journal.ends p.lines' h.standing p.passed);
        ids = p.ids ∙ h.ids;
        ends = p.passed.ends_are ∙ ap (λ (e : End). slice_set flows.journal.ends place (with_passed e)) (sym its_end) ∙ ap (λ (es : List End). slice_set es place (passed_to end (end.taken + n + 1))) h.ends ∙ set-set ends' place (passed_to end (end.taken + n)) (passed_to end (end.taken + n + 1)) ∙ ap (λ (k : ℕ). slice_set ends' place (passed_to end k)) count;
      }

pub next_passed : (d : Dif) (place n : ℕ) (flows new : Flows) → HavePassedAll d place n flows → PassesOne d.clock place flows new → HavePassedAll d place (n + 1) new
next_passed d place n flows new h call below links end is = one_passed d links.lines below place n end flows new is (h below links end is) call

-- one more waits
pub still_waits : (d : Dif) (place n count : ℕ) (flows : Flows) (st : (below : Seen) × LinksStand d below) (end : End) (e : End) → HavePassedAll d place n flows → At d.connections.flows.journal.ends place end → count ≡ length end.got - end.taken → n < count → slice_get flows.journal.ends place ≡ Some e → e.taken < length e.got
still_waits d place n count flows st end e h is count_is lt at =
    let p = h st.0 st.1 end is in
    let same : passed_to end (end.taken + n) ≡ e = same_Some _ e (sym (slice_get-set_same d.connections.flows.journal.ends place end (passed_to end (end.taken + n)) is) ∙ ap (λ (es : List End). slice_get es place) (sym p.ends) ∙ at) in
    subst (λ (z : End). z.taken < length z.got) same (omega (arith, count_is, lt))

-- All were passed

pub all_passed : (d : Dif) (place n : ℕ) (flows : Flows) (below : Seen) (links : LinksStand d below) (end : End) → HavePassedAll d place n flows → At d.connections.flows.journal.ends place end → n ≡ length end.got - end.taken → PassesAll d links.lines place flows
all_passed d place n flows below links end h is n_is =
    let p = h below links end is in
    let whole = (links.standing.journal.whole place end is).taken in
    let all : end.taken + n ≡ length end.got = omega (arith, whole, n_is) in
    record {
      end = end;
      is_end = is;
      links' = p.links';
      passes = subst (λ (k : ℕ). PassesTimes (manage_config d) (conns_of d.connections.flows.conns) place k d.connections.flows.journal.ends links.lines flows.journal.ends p.links') n_is p.passes;
      ends = p.ends ∙ ap (λ (k : ℕ). slice_set d.connections.flows.journal.ends place (passed_to end k)) all;
      ids = p.ids;
      tied = p.tied;
    }

-- and the connections stand
pub passed_stand : (d : Dif) (place n : ℕ) (flows : Flows) (below : Seen) (links : LinksStand d below) (end : End) → HavePassedAll d place n flows → At d.connections.flows.journal.ends place end → LinksStand (with_links d flows) below
passed_stand d place n flows below links end h is =
    let p = h below links end is in
    record { may = links.may; lines = p.links'; tied = p.tied; standing = p.standing; paired = links.paired; named = named_set d.connections.flows.journal.ends flows.journal.ends place end (passed_to end (end.taken + n)) is refl p.ends links.named; each = links.each }

-- In the loop

-- the end is there, and so is its connection
pub passing_within : (d : Dif) (place n : ℕ) (flows : Flows) (st : (below : Seen) × LinksStand d below) → HavePassedAll d place n flows → place < length d.connections.flows.journal.ends → (place < length flows.journal.ends) × (place < length flows.conns)
passing_within d place n flows st h lt =
    let x = there d.connections.flows.journal.ends place lt in
    let p = h st.0 st.1 x.0 x.1 in
    let size = ap (λ (es : List End). length es) p.ends ∙ length-set d.connections.flows.journal.ends place (passed_to x.0 (x.0.taken + n)) in
    let alike = p.tied.alike in
    (omega (arith, lt, size), omega (arith, lt, size, alike))

-- and one more waits
pub more_waits : (d : Dif) (place n count : ℕ) (flows : Flows) (st : (below : Seen) × LinksStand d below) → HavePassedAll d place n flows → place < length d.connections.flows.journal.ends → ((end : End) → At d.connections.flows.journal.ends place end → count ≡ length end.got - end.taken) → n < count
    → (e : End) → slice_get flows.journal.ends place ≡ Some e → e.taken < length e.got
more_waits d place n count flows st h lt counted less e at = (let x = there d.connections.flows.journal.ends place lt in still_waits d place n count flows st x.0 e h x.1 (counted x.0 x.1) less at)

-- After it

pub passes_done : (d : Dif) (place n count : ℕ) (flows : Flows) → HavePassedAll d place n flows → place < length d.connections.flows.journal.ends → ((end : End) → At d.connections.flows.journal.ends place end → count ≡ length end.got - end.taken) → n ≡ count
    → (below : Seen) (links : LinksStand d below) → PassesAll d links.lines place flows × LinksStand (with_links d flows) below
passes_done d place n count flows h lt counted all below links =
    let x = there d.connections.flows.journal.ends place lt in
    let n_is = all ∙ counted x.0 x.1 in
    (all_passed d place n flows below links x.0 h x.1 n_is, passed_stand d place n flows below links x.0 h x.1)
