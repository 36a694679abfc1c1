-- A number that is given up.
use Rattle.std.proofs.Common.{◌≡◌, ◌≢◌, ℕ, List, option_map, Option, Some, None, Ok, refl, sym, ◌∙◌, ap, subst}
use Rattle.rina_account.specs.declared.ledger.Off.{Off}
use Rattle.rina_conn.specs.declared.conn.Conn.{Conn}
use Rattle.rina_conn.specs.Carrying.{carry}
use Rattle.rina_conn.specs.Sending.{TellsGivenUp}
use Rattle.rina_data.specs.Configs.{Config}
use Rattle.rina_dif_law.proofs.Finding.{beside}
use Rattle.rina_dtcp.specs.declared.sent.GaveUp as told
use Rattle.rina_dtcp.specs.Rows.{gave_up_of}
use Rattle.rina_iface.specs.declared.state.Fail.TheVariants.{GaveUp}
use Rattle.rina_iface.specs.declared.state.PortState.{PortState}
use Rattle.rina_iface.specs.declared.state.PortState.TheVariants.{Allocated, Failed}
use Rattle.rina_iface.specs.Later.{Moves}
use Rattle.rina_law.specs.Direction.{Direction}
use Rattle.rina_law.specs.Sender.{given_up, member}
use Rattle.rina_flows.specs.declared.flows.Flows.{Flows}
use Rattle.rina_flows.specs.Calls.{AreTied, Tells}
use Rattle.rina_flows.specs.Delivering.{StopsIn}
use Rattle.rina_flows.specs.Ending.{EndsAt}
use Rattle.rina_flows.specs.Tied.{conns_of, ids_of, outward}
use Rattle.rina_flows.specs.Timely.{GivesNoneUp, GivesUpIn}
use Rattle.rina_flows.proofs.Framed.{ids_at}

-- where nothing is told, none is given up
none_mapped : {X Y : Type 0} (f : X → Y) (o : Option X) → None ≡ option_map f o → o ≡ None
none_mapped f None e = refl
none_mapped f (Some x) e = absurd cc

some_mapped : {X Y : Type 0} (f : X → Y) (o : Option X) (y : Y) → Some y ≡ option_map f o → (x : X) × (o ≡ Some x) × (y ≡ f x)
some_mapped f None y e = absurd cc
some_mapped f (Some x) y e = (x, refl, cc)

pub none_given_up : (now at : ℕ) (flows : Flows) → Tells (λ k. TellsGivenUp now k.sending None) at flows.conns → (g : Config) (lines : List Direction) → AreTied g now flows lines → GivesNoneUp g at flows.conns lines
none_given_up now at flows tells g lines t conn line k l =
    let s = t.sends at conn line k l in
    let none = none_mapped (gave_up_of (carry conn.sending.form.peer conn.sending.form.cube.id) now line.line.sender) (given_up (outward g conn) now line.line.sender) (tells conn k (outward g conn) line.line.sender s.sender) in
    ap (λ n. given_up (outward g conn) n line.line.sender) s.clock ∙ none

-- the state of an end that fails so
abbrev pub failed_by : told.GaveUp → PortState
failed_by g = Failed (GaveUp g.num g.first g.now)

not_allocated : (g : told.GaveUp) → failed_by g ≢ Allocated
not_allocated g e = cc

pub gives_up : (now at : ℕ) (old new : Flows) (ledger ledger' : List Off) (by : told.GaveUp) → Tells (λ k. TellsGivenUp now k.sending (Some by)) at old.conns → StopsIn now at (failed_by by) old ledger (Ok tt) new ledger' → GivesUpIn now at old ledger (Ok (Some by.num)) new ledger'
gives_up now at old new ledger ledger' by tells stops g lines end journal t is allocated =
    let k = beside old.journal.ends old.conns at end t.alike is in
    let conn : Conn = k.0 in
    let l = beside old.journal.ends lines at end t.lines_alike is in
    let line : Direction = l.0 in
    let s = t.sends at conn line k.1 l.1 in
    let f = some_mapped (gave_up_of (carry conn.sending.form.peer conn.sending.form.cube.id) now line.line.sender) (given_up (outward g conn) now line.line.sender) by (tells conn k.1 (outward g conn) line.line.sender s.sender) in
    let n : ℕ = f.0 in
    let st = stops g lines end journal t is allocated (moves allocated) (not_allocated by) in
    let seq : by.num.seq ≡ n = ap (λ (x : told.GaveUp). x.num.seq) f.2 in
    let state : failed_by by ≡ Failed (GaveUp (record { cep = (ids_of conn).scep; seq = n }) (member line.line.sender.run n).first now) = ap failed_by f.2 in
    let E : PortState → Type 0 = λ x. EndsAt old.journal.ends (conns_of old.conns) lines at x st.offs new.journal.ends in
    let G : ℕ → Type 0 = λ m. (given_up (outward g conn) line.line.clock line.line.sender ≡ Some m) × E (Failed (GaveUp (record { cep = (ids_of conn).scep; seq = m }) (member line.line.sender.run m).first now)) in
    let both : G n = (ap (λ m. given_up (outward g conn) m line.line.sender) s.clock ∙ f.1, subst E state st.stops) in
    let all : G by.num.seq = subst G (sym seq) both in
    record {
      offs = st.offs;
      gives_up = record {
        line = line;
        is_line = l.1;
        its_ids = ids_of conn;
        ids_are = ids_at old.conns at conn k.1;
        cube = conn.sending.form.cube;
        is_cube = s.cube;
        late = all.0;
        ended = all.1;
      };
      num_is = ap (λ (x : told.GaveUp). x.num.cep) f.2;
      ledger_is = st.ledger_is;
      tied = st.tied;
      ids = st.ids;
    }
  where
    moves : end.state ≡ Allocated → Moves end.state (failed_by by)
    moves e = subst (λ (x : PortState). Moves x (failed_by by)) (sym e) tt
