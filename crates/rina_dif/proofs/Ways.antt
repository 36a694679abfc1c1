-- The way of the pieces of an SDU.
use Rattle.std.proofs.Common.{◌≡◌, ◌∙◌, ℕ, ◌-◌, ◌<◌, ◌≤◌, List, length, map, slice_get, Option, Some, option_map, sym, ap, arith}
use Rattle.std.specs.Prelude.{IsSome}
use Rattle.std.proofs.lemmas.Bool.Decides.{nat_tests}
use Rattle.std.proofs.lemmas.Option.{slice_get-map}
use Rattle.rina_conn.specs.declared.conn.Conn.{Conn}
use Rattle.rina_iface.specs.declared.error.SendError.TheVariants.{QueueFull}
use Rattle.rina_queue.specs.Queues.{queue_place as place_there, waiting}
use Rattle.rina_data.specs.declared.process.IpcProcess.{IpcProcess}
use Rattle.rina_data.specs.Configs.{config_of}
use Rattle.rina_data.specs.Deciding.{process_of}
use Rattle.rina_data.specs.Process.{next_hop}
use Rattle.rina_dif_law.specs.Ids.{Ids}
use Rattle.rina_dif_law.specs.Sending.{by_hop, by_process, by_room, home, process_at}
use Rattle.rina_data.specs.Fitting.{IsQos}
use Rattle.rina_flows.specs.Tied.{ids_of}
use Rattle.rina_dif.specs.declared.dif.Dif.{Dif}
use Rattle.rina_dif.specs.Holding.{AreHoused}
use Rattle.rina_dif.specs.Sending.{IsFirstHop}
use Rattle.rina_dif.proofs.Putting.{is_there, room_there}

-- what the queue of a next hop refuses
pub by_queue : (cap need : ℕ) (ids : Ids) (ps : List IpcProcess) (o : Option ℕ) (i : ℕ) (p : IpcProcess) (link : ℕ) → o ≡ Some i → slice_get ps i ≡ Some p → next_hop ids.far p.routes ≡ Some link → IsSome (place_there ids.qos link p.queues.queues.items) → by_process cap need ids (process_at (map process_of ps) o) ≡ by_room need (cap - length (waiting ids.qos link p.queues.queues.items))
by_queue cap need ids ps o i p link here is hop there =
    let found : process_at (map process_of ps) o ≡ Some (process_of p) = ap (process_at (map process_of ps)) here ∙ slice_get-map process_of ps i ∙ ap (option_map process_of) is in
    ap (by_process cap need ids) found ∙ ap (by_hop cap need (process_of p) ids) hop ∙ ap (by_room need) (room_there cap ids.qos link p.queues.queues.items there)

over : (need room : ℕ) → room < need → by_room need room ≡ Some (QueueFull need room)
over need room lt = grind (arith, nat_tests, lt)

pub no_room : (d : Dif) (node : ℕ) (conn : Conn) (need i : ℕ) (p : IpcProcess) (link room : ℕ) → AreHoused (config_of d.settings) d.processes → IsQos (config_of d.settings) (ids_of conn).qos → home node (config_of d.settings).members ≡ Some i → slice_get d.processes i ≡ Some p → next_hop (ids_of conn).far p.routes ≡ Some link → room ≡ p.queues.cap - length (waiting (ids_of conn).qos link p.queues.queues.items) → room < need → by_process d.settings.cap need (ids_of conn) (process_at (map process_of d.processes) (home node (config_of d.settings).members)) ≡ Some (QueueFull need room)
no_room d node conn need i p link room housed known here is hop tells lt =
    let h = housed i p is in
    let there = is_there (config_of d.settings) p (ids_of conn).far link (ids_of conn).qos h hop known in
    let room_is : d.settings.cap - length (waiting (ids_of conn).qos link p.queues.queues.items) ≡ room = ap (λ (n : ℕ). n - length (waiting (ids_of conn).qos link p.queues.queues.items)) (sym h.cap) ∙ sym tells in
    by_queue d.settings.cap need (ids_of conn) d.processes (home node (config_of d.settings).members) i p link here is hop there ∙ ap (by_room need) room_is ∙ over need room lt

pub way_is : (d : Dif) (node : ℕ) (conn : Conn) (need i : ℕ) (p : IpcProcess) (link room : ℕ) → AreHoused (config_of d.settings) d.processes → IsQos (config_of d.settings) (ids_of conn).qos → home node (config_of d.settings).members ≡ Some i → slice_get d.processes i ≡ Some p → next_hop (ids_of conn).far p.routes ≡ Some link → room ≡ p.queues.cap - length (waiting (ids_of conn).qos link p.queues.queues.items) → need ≤ room → 1 ≤ need → IsFirstHop d node (ids_of conn) need i link
way_is d node conn need i p link room housed known here is hop tells le some =
    let h = housed i p is in
    record {
      at_home = here;
      process = p;
      is_process = is;
      hop = hop;
      room = record { there = is_there (config_of d.settings) p (ids_of conn).far link (ids_of conn).qos h hop known; room = omega (arith, tells, le, some) };
    }
