-- What leaves a DIF.
use Rattle.std.proofs.Common.{◌≡◌, ◌∙◌, ℕ, ◌<◌, List, length, map, get_or, slice_get, slice_set, option_map, Option, Some, Result, Ok, Err, refl, sym, ap, subst, arith}
use Rattle.std.proofs.lemmas.List.{length-map, map-set}
use Rattle.std.proofs.lemmas.Option.{slice_get-map, slice_get_read}
use Rattle.rina_base.specs.declared.cause.Cause.{Cause}
use Rattle.rina_base.specs.declared.cause.Cause.TheVariants as causes
use Rattle.rina_base.specs.declared.number.Key.{Key}
use Rattle.rina_base.specs.declared.number.Port.{Port}
use Rattle.rina_iface.specs.declared.error.SendError.{SendError}
use Rattle.rina_iface.specs.Journal.{AreKept}
use Rattle.rina_iface.specs.Seen.{Seen}
use Rattle.rina_iface.proofs.Changed.{slice_get-set_same}
use Rattle.rina_law.specs.Direction.{Direction}
use Rattle.rina_policy.specs.declared.policy.Head.{Head}
use Rattle.rina_policy.specs.Slots.{Slot}
use Rattle.rina_queue.specs.declared.queue.Queued.{Queued}
use Rattle.rina_data.specs.declared.process.IpcProcess.{IpcProcess}
use Rattle.rina_data.specs.declared.settings.Member.{Member}
use Rattle.rina_data.specs.declared.settings.Settings.{Settings}
use Rattle.rina_data.specs.declared.step.OutStep.{OutStep}
use Rattle.rina_data.specs.declared.step.OutStep.TheVariants as out
use Rattle.rina_data.specs.declared.step.StepError.{StepError}
use Rattle.rina_data.specs.declared.step.StepError.TheVariants.{CountSpent, Memory, NoIpc, NoLink}
use Rattle.rina_data.specs.Configs.{Config, config_of, member_of}
use Rattle.rina_data.specs.Deciding.{process_of, queue_settings}
use Rattle.rina_dif_law.specs.Dif.{DifSeen, with_process}
use Rattle.rina_data.specs.Process.{Process}
use Rattle.rina_data.specs.Leaving.{Asks, IsAsked}
use Rattle.rina_data.specs.Outgoing.{Goes, Offs}
use Rattle.rina_dif_law.specs.Outgoing.{Outs}
use Rattle.rina_dif_law.specs.Sending.{home}
use Rattle.rina_dif_law.proofs.Carries.{outs_carry}
use Rattle.rina_dif_law.proofs.Numbering.{outs_numbered}
use Rattle.rina_data.proofs.Finding.{there}
use Rattle.rina_dif_law.proofs.Going.{no_step, outs_stand}
use Rattle.rina_dif_law.proofs.Relaying.{outs_accounted}
use Rattle.rina_dif_law.proofs.Stepping.{can_go}
use Rattle.rina_dif_law.proofs.Warranted.{outs_written}
use Rattle.rina_dif.specs.declared.dif.Dif.{Dif}
use Rattle.rina_dif.specs.Holding.{Holds, Stands}
use Rattle.rina_dif.specs.Shown.{seen_of}
use Rattle.rina_dif.specs.Steps.{AsksAt, AsksHome, AtHome, Leaves, OutsAt, WillGo}
use Rattle.rina_dif.proofs.Causing.{outs_caused}
use Rattle.rina_dif.proofs.Keeping.{IsSameHouse, home_set, house_is, same_house, taken_house}
use Rattle.rina_dif.proofs.Connected.{outs_connected}
use Rattle.rina_channel.specs.Channels.{HasLive}
use Rattle.rina_channel.proofs.Putting.{live_same}
use Rattle.rina_dif.proofs.LinkEnds.{live_floods}

same_some : {X : Type 0} (o : Option X) (a b : X) → o ≡ Some a → o ≡ Some b → a ≡ b
same_some o a b h g = cc

-- One IPC process of those that are kept takes a step

pub leaves_one : (refuses : Port → ℕ → Option SendError) (g : Config) (now : ℕ) (below : Seen) (n : ℕ) (r : Result OutStep StepError) (below' : Seen) (at : ℕ) (ps : List IpcProcess) (x x' : IpcProcess) → at < length ps → x ≡ get_or ps at x → Goes refuses g now (process_of x) below n r (process_of x') below' → queue_settings x' ≡ queue_settings x → Leaves refuses g now below n r below' at ps (slice_set ps at x')
leaves_one refuses g now below n r below' at ps x x' lt read goes room p is =
    let here : slice_get ps at ≡ Some x = slice_get_read ps (length ps) at x refl lt read in
    let same : x ≡ p = same_some (slice_get ps at) x p here is in
    (x', subst (λ (z : IpcProcess). Goes refuses g now (process_of z) below n r (process_of x') below') same goes, subst (λ (z : IpcProcess). queue_settings x' ≡ queue_settings z) same room, refl)

pub asks_one : (may : ℕ → List Head → ℕ → Type 0) (held : Process → Queued → SendError → Type 0) (settings : Settings) (n at : ℕ) (slots slots' : List Slot) (ps : List IpcProcess) (r : Result OutStep StepError) (x x' : IpcProcess) (m : Member) → at < length ps → x ≡ get_or ps at x → slice_get settings.members at ≡ Some m → Asks (slots' ≡ slots) (IsAsked (may m.number) (held (process_of x)) settings.policy x.queues.queues.items n slots slots' (process_of x) r (process_of x')) r → AsksAt may held settings n at slots slots' ps r (slice_set ps at x')
asks_one may held settings n at slots slots' ps r x x' m lt read is_m asks member p p' is_member is is' =
    let here : slice_get ps at ≡ Some x = slice_get_read ps (length ps) at x refl lt read in
    let same : x ≡ p = same_some (slice_get ps at) x p here is in
    let new : x' ≡ p' = same_some (slice_get (slice_set ps at x') at) x' p' (slice_get-set_same ps at x x' here) is' in
    let number : m.number ≡ member.number = ap (λ (z : Member). z.number) (same_some (slice_get settings.members at) m member is_m is_member) in
    let P : ℕ → IpcProcess → IpcProcess → Type 0 = λ k a b. Asks (slots' ≡ slots) (IsAsked (may k) (held (process_of a)) settings.policy a.queues.queues.items n slots slots' (process_of a) r (process_of b)) r in
    subst (λ (k : ℕ). P k p p') number (subst (λ (a : IpcProcess). P m.number a p') same (subst (λ (b : IpcProcess). P m.number x b) new asks))

-- The DIF

-- each IPC process is at the place of its member
pub has_process : (d : Dif) (below : Seen) (at : ℕ) → Stands d below → at < length d.settings.members → (p : IpcProcess) × (slice_get d.processes at ≡ Some p)
has_process d below at st lt =
    let alike = st.1.standing.aligned in
    let ps = length-map d.processes process_of in
    let ms = length-map d.settings.members member_of in
    there d.processes at (omega (arith, alike, ps, ms, lt))

pub shown_at : (d : Dif) (at : ℕ) (p : IpcProcess) → slice_get d.processes at ≡ Some p → slice_get (seen_of d).processes at ≡ Some (process_of p)
shown_at d at p is = slice_get-map process_of d.processes at ∙ ap (λ (o : Option IpcProcess). option_map process_of o) is

pub will_go : (d : Dif) (below : Seen) (at n : ℕ) → Stands d below → WillGo (config_of d.settings) d.clock below n at d.processes
will_go d below at n st p is = can_go (seen_of d) st.0 below at n (process_of p) st.1.standing (shown_at d at p is)

goes_out : (refuses : Port → ℕ → Option SendError) (d : DifSeen) (below : Seen) (at n : ℕ) (r : Result OutStep StepError) (p p' : Process) (below' : Seen) → slice_get d.processes at ≡ Some p → Goes refuses d.config d.clock p below n r p' below' → Outs refuses d below at n r (with_process d at p') below'
goes_out refuses d below at n (Ok x) p p' below' is goes = record { process = p; process' = p'; is_process = is; done = goes; new_is = refl }
goes_out refuses d below at n (Err Memory) p p' below' is goes = record { process = p; process' = p'; is_process = is; done = goes; new_is = refl }
goes_out refuses d below at n (Err NoIpc) p p' below' is goes = absurd goes
goes_out refuses d below at n (Err NoLink) p p' below' is goes = record { process = p; process' = p'; is_process = is; done = goes; new_is = refl }
goes_out refuses d below at n (Err (CountSpent need left)) p p' below' is goes = absurd goes

-- the DIF with one IPC process changed
pub stepped : (d : Dif) (at : ℕ) (p' : IpcProcess) (ps : List IpcProcess) → ps ≡ slice_set d.processes at p' → seen_of (record d { processes = ps }) ≡ with_process (seen_of d) at (process_of p')
stepped d at p' ps is = ap (λ (qs : List Process). record (seen_of d) { processes = qs }) (ap (map process_of) is ∙ map-set process_of d.processes at p')

pub dif_outs : (refuses : Port → ℕ → Option SendError) (d : Dif) (below : Seen) (at n : ℕ) (r : Result OutStep StepError) (ps : List IpcProcess) (below' : Seen) → Stands d below → at < length d.settings.members → Leaves refuses (config_of d.settings) d.clock below n r below' at d.processes ps → Outs refuses (seen_of d) below at n r (seen_of (record d { processes = ps })) below'
dif_outs refuses d below at n r ps below' st lt leaves =
    let p = has_process d below at st lt in
    let l = leaves p.0 p.1 in
    subst (λ (z : DifSeen). Outs refuses (seen_of d) below at n r z below') (sym (stepped d at l.0 ps l.3)) (goes_out refuses (seen_of d) below at n r (process_of p.0) (process_of l.0) below' (shown_at d at p.0 p.1) l.1)

-- the queues keep their places
offs_same : (refuses : Port → ℕ → Option SendError) (g : Config) (now : ℕ) (p : Process) (below : Seen) (n : ℕ) (key : Key) (cause : Cause) (p' : Process) (below' : Seen) → Offs refuses g now p below n key cause p' below' → IsSameHouse p p'
offs_same refuses g now p below n key (causes.Expired left charge) p' below' s = house_is p _ p' s.new_is (taken_house p _ s.place s.queue s.head.is_queue refl refl refl)
offs_same refuses g now p below n key (causes.LinkDown port) p' below' s = house_is p _ p' s.new_is (taken_house p _ s.place s.queue s.head.is_queue refl refl refl)
offs_same refuses g now p below n key (causes.NoRoute dst) p' below' s = absurd s
offs_same refuses g now p below n key (causes.QueueFull cap) p' below' s = absurd s
offs_same refuses g now p below n key (causes.NoConnection cep) p' below' s = absurd s
offs_same refuses g now p below n key (causes.Duplicate num) p' below' s = absurd s
offs_same refuses g now p below n key (causes.Behind highest) p' below' s = absurd s
offs_same refuses g now p below n key (causes.NoState drf) p' below' s = absurd s
offs_same refuses g now p below n key (causes.NoRoom cap) p' below' s = absurd s
offs_same refuses g now p below n key (causes.StateGone last_in) p' below' s = absurd s
offs_same refuses g now p below n key (causes.Broken missing) p' below' s = absurd s

goes_same : (refuses : Port → ℕ → Option SendError) (g : Config) (now : ℕ) (p : Process) (below : Seen) (n : ℕ) (r : Result OutStep StepError) (p' : Process) (below' : Seen) → Goes refuses g now p below n r p' below' → IsSameHouse p p'
goes_same refuses g now p below n (Ok out.Idle) p' below' s = house_is p p p' s.2 (same_house p)
goes_same refuses g now p below n (Ok (out.Sent key)) p' below' s = house_is p _ p' s.new_is (taken_house p _ s.place s.queue s.head.is_queue refl refl refl)
goes_same refuses g now p below n (Ok (out.Off key cause)) p' below' s = offs_same refuses g now p below n key cause p' below' s
goes_same refuses g now p below n (Ok (out.Held why)) p' below' s = house_is p p p' s.1 (same_house p)
goes_same refuses g now p below n (Err Memory) p' below' s = house_is p p p' s.0 (same_house p)
goes_same refuses g now p below n (Err NoIpc) p' below' s = absurd s
goes_same refuses g now p below n (Err NoLink) p' below' s = house_is p p p' s.1 (same_house p)
goes_same refuses g now p below n (Err (CountSpent need left)) p' below' s = absurd s

-- what holds goes on to hold
pub leaves_hold : (refuses : Port → ℕ → Option SendError) (d : Dif) (below : Seen) (at n : ℕ) (r : Result OutStep StepError) (ps : List IpcProcess) (below' : Seen) → AreKept below → AreKept below' → at < length d.settings.members → Leaves refuses (config_of d.settings) d.clock below n r below' at d.processes ps → (lines : List Direction) → Holds d lines below → Holds (record d { processes = ps }) lines below'
leaves_hold refuses d below at n r ps below' kept kept' lt leaves lines h =
    let st : Stands d below = (lines, h) in
    let p = has_process d below at st lt in
    let l = leaves p.0 p.1 in
    let outs = dif_outs refuses d below at n r ps below' st lt leaves in
    let d' : Dif = record d { processes = ps } in
    let house = home_set d lines below at p.0 l.0 ps h p.1 l.2 (goes_same refuses (config_of d.settings) d.clock (process_of p.0) below n r (process_of l.0) below' l.1) l.3 in
    record {
      tied = h.tied;
      standing = outs_stand refuses (seen_of d) lines below at n r (seen_of d') below' kept kept' h.standing outs;
      carrying = outs_carry refuses (seen_of d) lines below at n r (seen_of d') below' kept kept' h.carrying outs;
      numbered = outs_numbered refuses (seen_of d) lines below at n r (seen_of d') below' kept kept' h.standing h.numbered outs;
      accounted = outs_accounted refuses (seen_of d) lines below at n r (seen_of d') below' kept kept' h.standing h.numbered h.accounted outs;
      caused = outs_caused refuses (seen_of d) below at n r (seen_of d') below' kept' h.caused outs;
      written_off = outs_written refuses (seen_of d) lines below at n r (seen_of d') below' h.standing h.written_off outs;
      housed = house.housed;
      managed = house.managed;
      enrolled = h.enrolled;
      connected = outs_connected refuses (seen_of d) lines d.connections below at n r (seen_of d') below' kept kept' h.standing outs (subst (λ (qs : List IpcProcess). (j k : ℕ) (port : Port) → HasLive (map process_of qs) j k port → HasLive (seen_of d).processes j k port) (sym l.3) (λ j k port live. live_same (seen_of d).processes at (process_of p.0) (process_of l.0) (shown_at d at p.0 p.1) (goes_same refuses (config_of d.settings) d.clock (process_of p.0) below n r (process_of l.0) below' l.1).links j k port (subst (λ (qs : List Process). HasLive qs j k port) (map-set process_of d.processes at l.0) live))) h.connected;
      flooded = λ alive. live_floods d ps house.live (h.flooded alive);
    }

-- By node

at_home : (o : Option ℕ) (k : ℕ) (P : ℕ → Type 0) (Q : Type 0) → o ≡ Some k → P k → AtHome o P Q
at_home o k P Q is p = subst (λ (z : Option ℕ). AtHome z P Q) (sym is) p

pub outs_at : (refuses : Port → ℕ → Option SendError) (d : DifSeen) (below : Seen) (node n at : ℕ) (r : Result OutStep StepError) (d' : DifSeen) (below' : Seen) → home node d.config.members ≡ Some at → Outs refuses d below at n r d' below' → OutsAt refuses d below node n r d' below'
outs_at refuses d below node n at (Ok x) d' below' here outs = at_home (home node d.config.members) at (λ k. Outs refuses d below k n (Ok x) d' below') _ here outs
outs_at refuses d below node n at (Err Memory) d' below' here outs = (outs.new_is ∙ no_step d at outs.process outs.process' outs.is_process outs.done.0, outs.done.1)
outs_at refuses d below node n at (Err NoIpc) d' below' here outs = at_home (home node d.config.members) at (λ k. Outs refuses d below k n (Err NoIpc) d' below') _ here outs
outs_at refuses d below node n at (Err NoLink) d' below' here outs = at_home (home node d.config.members) at (λ k. Outs refuses d below k n (Err NoLink) d' below') _ here outs
outs_at refuses d below node n at (Err (CountSpent need left)) d' below' here outs = at_home (home node d.config.members) at (λ k. Outs refuses d below k n (Err (CountSpent need left)) d' below') _ here outs

pub asks_home : (may : ℕ → List Head → ℕ → Type 0) (held : Process → Queued → SendError → Type 0) (settings : Settings) (node n at : ℕ) (slots slots' : List Slot) (old : List IpcProcess) (r : Result OutStep StepError) (new : List IpcProcess) → home node (config_of settings).members ≡ Some at → AsksAt may held settings n at slots slots' old r new → AsksHome may held settings node n slots slots' old r new
asks_home may held settings node n at slots slots' old r new here asks = at_home (home node (config_of settings).members) at (λ k. AsksAt may held settings n k slots slots' old r new) (slots' ≡ slots) here asks
