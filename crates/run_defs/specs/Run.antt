-- What commands do, one after another, from the first world of a fabric on.
use Rattle.std.specs.Prelude.{◌≡◌, ℕ, ◌-◌, true, List, [], ◌∷◌, ◌++◌, map, length, nat_eq, slice_get, Option, Some}
use Rattle.std.specs.Prelude.{None}
use Rattle.std.specs.List.{filter, list_any}
use Rattle.net_defs.specs.declared.route.Route.{Route}
use Rattle.net_defs.specs.Network.{Network}
use Rattle.world_defs.specs.Links.{is_idle}
use Rattle.journal_defs.specs.declared.entry.Entry.{Entry}
use Rattle.map_defs.specs.declared.vertex.MapVertex.{MapVertex}
use Rattle.map_defs.specs.declared.vertex.MapVertex.TheVariants.{Switch}
use Rattle.map_defs.specs.declared.rank.RankEntry.{RankEntry}
use Rattle.map_defs.specs.NetMap.{NetMap, hosts_of}
use Rattle.map_defs.specs.Orientation.{order_of}
use Rattle.map_defs.specs.Routing.{AreRoutesOf}
use Rattle.map_defs.specs.Ranks.{ranks_of}
use Rattle.world_defs.specs.World.{WorldState, fabric_of, addresses}
use Rattle.world_defs.specs.Acts.{Happens}
use Rattle.run_defs.specs.declared.command.Command.{Command}
use Rattle.run_defs.specs.declared.command.Command.TheVariants.{Map, Circuit, Routes}
use Rattle.run_defs.specs.declared.line.MapWords.{MapWords}
use Rattle.run_defs.specs.declared.line.MapWords.TheVariants.{Complete, Doubtful, IncompleteDepth, IncompleteNodes}
use Rattle.run_defs.specs.declared.line.Line.{Line}
use Rattle.run_defs.specs.declared.line.Line.TheVariants.{Map as MapLine, Routes as RoutesLine, Route as RouteLine}
use Rattle.run_defs.specs.declared.line.Line.TheVariants.{Rank as RankLine, EndRoutes}
use Rattle.run_defs.specs.Mapped.{IsMapped, asks_of}
use Rattle.run_defs.specs.Circuit.{IsCircuitTold}
use Rattle.run_defs.specs.Output.{Piece, OneLine, MapLines, lines}
use Rattle.run_defs.specs.Session.{SessionState, LastMap, new_session, complete_map}
use Rattle.run_defs.specs.Deed.{Deed, Nothing, KeepsMap, KeepsRoutes, session_after}
use Rattle.run_defs.specs.Outcome.{deed_of}

-- the lines of a map follow its words, unless the tree had too many nodes
abbrev pub map_pieces : MapWords → NetMap → List Piece
map_pieces Complete m = MapLines m ∷ []
map_pieces (Doubtful n) m = MapLines m ∷ []
map_pieces IncompleteDepth m = MapLines m ∷ []
map_pieces IncompleteNodes m = []

-- the hosts of a map, by address
abbrev pub hosts_by_address : WorldState → NetMap → List ℕ
hosts_by_address w m = filter (λ h. list_any (nat_eq h) (hosts_of m.vertices)) (addresses w)

-- the line of a route
abbrev pub route_line : Route → Line
route_line r = RouteLine r.from r.to r.walk

-- a vertex that was looked up; a switch stands for none
abbrev pub vertex_in : Option MapVertex → MapVertex
vertex_in (Some v) = v
vertex_in None = Switch 0

-- the line of a channel's rank: the channel by the end of the map that it leaves
abbrev pub rank_line : NetMap → RankEntry → Line
rank_line m k = RankLine (vertex_in (slice_get m.vertices k.v)) k.p k.rank

-- the lines of computed routes: their number, each route, the rank of each channel, and the end
abbrev pub routes_lines : NetMap → List Route → List Line
routes_lines m routes = RoutesLine (length routes) ∷ map route_line routes
    ++ map (rank_line m) (ranks_of m (order_of m)) ++ EndRoutes ∷ []

-- What a command is in a session: a deed. A map that is made has a journal, which the log of its asks answers, and
-- takes its acts from that log.
pub data IsDeed (s : SessionState) : Command → Deed → Type 0 where
  determined : {c : Command} {d : Deed} → deed_of s c ≡ Some d → IsDeed s c d
  maps : {host depth tries : ℕ} {d : Deed} → (after : WorldState) (j : List Entry) (m : NetMap) (words : MapWords)
      → is_idle s.world.links ≡ true → IsMapped host depth tries s.world after j m words
      → d ≡ record {
        acts = map Happens (asks_of host tries j s.world).events;
        output = OneLine (MapLine host words (length j) (after.injected - s.world.injected)) ∷ map_pieces words m;
        note = KeepsMap (record { mapper = host; words = words; made = m; began = s.world.links.cables.changes });
      }
      → IsDeed s (Map host depth tries) d
  circuits : {host depth : ℕ} {d : Deed} → (out : List Piece) → IsCircuitTold (fabric_of s.world) host depth out
      → d ≡ record { acts = []; output = out; note = Nothing } → IsDeed s (Circuit host depth) d
  routes : {d : Deed} → (l : LastMap) (found : List Route)
      → complete_map s.last_map ≡ Some l → AreRoutesOf l.made (order_of l.made) found
      → d ≡ record {
        acts = [];
        output = lines (routes_lines l.made found);
        note = KeepsRoutes (record {
          mapper = l.mapper;
          hosts = hosts_by_address s.world l.made;
          routes = found;
          began = l.began;
        });
      }
      → IsDeed s Routes d

-- What a command does: its deed prints pieces, and leaves a session.
pub record Does (s : SessionState) (c : Command) (out : List Piece) (next : SessionState) : Type 0 where
  pub deed : Deed
  pub is : IsDeed s c deed
  pub prints : out ≡ deed.output
  pub leaves : next ≡ session_after s deed

-- Commands in order do what each does in the session that the ones before it left.
pub data Runs : SessionState → List Command → List Piece → SessionState → Type 0 where
  ended : {s : SessionState} → Runs s [] [] s
  goes_on : {s next last : SessionState} {c : Command} {cs : List Command} {out rest all : List Piece}
      → Does s c out next → Runs next cs rest last → all ≡ out ++ rest → Runs s (c ∷ cs) all last

-- commands run one after another from the fabric's new session on: they print these pieces, and leave this session
abbrev pub IsRun : Network → List Command → List Piece → SessionState → Type 0
IsRun n commands out last = Runs (new_session n) commands out last
