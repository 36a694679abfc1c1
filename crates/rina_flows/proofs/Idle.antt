-- No item is due where nothing is due at the connection.
use Rattle.std.proofs.Common.{◌≡◌, ℕ, false, List, slice_get, Some, None, Option, IfSome}
use Rattle.std.specs.Borrow.{Bor}
use Rattle.std.proofs.lemmas.Bool.{false≢true}
use Rattle.rina_conn.specs.declared.conn.Conn.{Conn}
use Rattle.rina_conn.specs.Quiet.{IsIdleAt}
use Rattle.rina_data.specs.Configs.{Config}
use Rattle.rina_dif_law.specs.Standing.{IsJournal}
use Rattle.rina_iface.specs.declared.ends.End.{End}
use Rattle.rina_iface.specs.declared.state.PortState.TheVariants.{Allocated}
use Rattle.rina_iface.specs.Journal.{At}
use Rattle.rina_law.specs.Direction.{Direction}
use Rattle.rina_flows.specs.declared.due.Item.{Item}
use Rattle.rina_flows.specs.declared.due.Item.TheVariants.{Ack, Again, GiveUp, Gone}
use Rattle.rina_flows.specs.Tied.{IsTied}
use Rattle.rina_flows.specs.Timely.{DueIn}
use Rattle.rina_flows.specs.Watching.{AreIdleBeside, NoneDueBeside}
use Rattle.rina_flows.proofs.Offered.{flows_of}
use Rattle.rina_flows.proofs.Stopped.{reached}
use Rattle.rina_flows.proofs.Timed.{ack_is_due, again_is_due, give_up_due, gone_due}

-- the connection of an allocated end is not closed
not_closed : (g : Config) (now at : ℕ) (ends : List End) (conns : List Conn) (lines : List Direction) (end : End) (k : Conn) → IsJournal now ends → IsTied g now ends conns lines → At ends at end → end.state ≡ Allocated → slice_get conns at ≡ Some k → k.rx.closed ≡ false
not_closed g now at ends conns lines end k journal t is state stands =
    let i = reached g now at ends conns lines end journal t is state in
    (t.receives at i.from end k i.line (record { end_is = is; conn_is = stands }) state i.inbound).stands.not_closed

-- no item is due where nothing is due at the connection, unless that is closed
pub idle_item : (item : Item) (now at : ℕ) (ends : List End) (conns : List Conn) → ((k : Conn) → slice_get conns at ≡ Some k → k.rx.closed ≡ false → IsIdleAt now k) → DueIn item now at (flows_of ends conns) false
idle_item Gone now at ends conns idle = λ g lines end journal t is state.
    gone_due now at ends conns false (λ k stands. (λ e. absurd (false≢true e), λ gone. absurd (gone.1 ((idle k stands (not_closed g now at ends conns lines end k journal t is state stands)).kept gone.0)))) g lines end journal t is state
idle_item GiveUp now at ends conns idle = λ g lines end journal t is state.
    give_up_due now at ends conns None (λ k stands. (idle k stands (not_closed g now at ends conns lines end k journal t is state stands)).given_up) g lines end journal t is state
idle_item Ack now at ends conns idle = λ g lines end journal t is state.
    ack_is_due now at ends conns None (λ k stands. (idle k stands (not_closed g now at ends conns lines end k journal t is state stands)).ack) g lines end journal t is state
idle_item Again now at ends conns idle = λ g lines end journal t is state.
    again_is_due now at ends conns None (λ k stands. (idle k stands (not_closed g now at ends conns lines end k journal t is state stands)).again) g lines end journal t is state

pub none_due : (now : ℕ) (ends : List End) (conns : List Conn) (told : Option (Bor (List ℕ))) → IfSome told (λ places. AreIdleBeside now places.now conns) → IfSome told (λ places. NoneDueBeside now places.now (flows_of ends conns))
none_due now ends conns (Some places) idle = λ at beside item. idle_item item now at ends conns (λ k stands live. idle at k stands beside live)
none_due now ends conns None idle = tt
