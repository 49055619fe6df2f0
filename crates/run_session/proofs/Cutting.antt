-- That a command is cut short, by what of it was done.
use Rattle.std.proofs.Common.{◌≡◌, ℕ, ◌≤◌, true, false, Option, refl}
use Rattle.net_defs.specs.declared.vertex.Vertex.TheVariants.{Host}
use Rattle.net_defs.specs.Network.{has_vertex}
use Rattle.world_defs.specs.Links.{is_idle}
use Rattle.world_defs.specs.World.{WorldState, fabric_of}
use Rattle.run_defs.specs.declared.command.Command.{Command}
use Rattle.run_defs.specs.declared.command.Command.TheVariants.{Map}
use Rattle.run_defs.specs.Outcome.{Outcome}
use Rattle.run_defs.specs.Session.{LastMap, LastRoutes}
use Rattle.promise_laws.specs.CutShort.{IsCutShort, IsBegunMap}
use Rattle.promise_laws.proofs.CutShort.{cut_unchanged, cut_done, cut_mapped, begun_maps_are_cut_short}
use Rattle.fab_world.specs.Held.{IsMoment}
use Rattle.world_commands.specs.declared.out_of_memory.OutOfMemory.{OutOfMemory}
use Rattle.world_commands.specs.declared.out_of_memory.OutOfMemory.TheVariants.{InDoing, InLine}
use Rattle.world_commands.specs.Cut.{IsLeft}
use Rattle.world_commands.specs.Cut.IsLeft.{undone, unprinted}
use Rattle.world_commands.specs.Done.{session_of}
use Rattle.run_session.specs.declared.mapping.MapOrder.{MapOrder}
use Rattle.run_session.specs.Told.{IsMadeOver, map_of}
use Rattle.map_making.specs.declared.making.MadeMap.{MadeMap}
use Rattle.run_session.proofs.Keeping.{can-map}

-- a map is made over idle links alone
abbrev pub IsBusy : WorldState → Command → Type 0
IsBusy w c = (host depth tries : ℕ) → c ≡ Map host depth tries → is_idle w.links ≡ false

-- a command of one event at most
pub cut_one : (w v : WorldState) (made : Option LastMap) (found : Option LastRoutes) (c : Command) → IsBusy w c → (e : OutOfMemory) → IsLeft c w v e → IsCutShort (session_of w made found) c v
cut_one w v made found c busy InDoing (undone same kept) = cut_unchanged (session_of w made found) c v same
cut_one w v made found c busy InLine (unprinted told done) =
    let o : Outcome = record { output = done.output; after = session_of v made found } in
    cut_done (session_of w made found) c o v (done.determined made found) refl

-- a map that was made, but for its text
pub cut_made : (w v : WorldState) (made : Option LastMap) (order : MapOrder) (m : MadeMap) (packets : ℕ) → is_idle w.links ≡ true → IsMadeOver order w v m packets → (found : Option LastRoutes) → IsCutShort (session_of w made found) (map_of order) v
cut_made w v made order m packets idle over found = cut_mapped (session_of w made found) order.host order.depth order.tries v over.journal m.map m.words idle over.mapped

-- and one that was begun
pub cut_begun : (w v : WorldState) (made : Option LastMap) (order : MapOrder) → IsMoment w → is_idle w.links ≡ true → has_vertex (fabric_of w) (Host order.host) ≡ true → order.depth ≤ 32
    → IsBegunMap order.host order.depth order.tries w v → (found : Option LastRoutes) → IsCutShort (session_of w made found) (map_of order) v
cut_begun w v made order now idle there shallow begun found =
    begun_maps_are_cut_short (session_of w made found) order.host order.depth order.tries v (can-map order w now idle there shallow) begun
