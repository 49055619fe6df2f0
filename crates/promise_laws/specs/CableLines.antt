-- What the lines `pull`, `plug` and `revoked` say, against the world before their commands and the world after them.
use Rattle.std.specs.Prelude.{◌≡◌, ◌≢◌, ◌↔◌, ℕ, ◌<◌, ◌≤◌, Bool, true, false, List, [], ◌∷◌, length, Some, None, IsSome}
use Rattle.net_defs.specs.declared.vertex.End.{End}
use Rattle.net_defs.specs.Network.{Network, has_port, far}
use Rattle.net_defs.specs.Building.{is_used}
use Rattle.world_defs.specs.History.{cable_limit, with_plugged}
use Rattle.world_defs.specs.Crossed.{pulled_at}
use Rattle.world_defs.specs.Table.{Adoption, has_revoked}
use Rattle.world_defs.specs.World.{WorldState, fabric_of, host_count, node_at}
use Rattle.world_defs.specs.Acts.{IsReached}
use Rattle.run_defs.specs.declared.command.Command.TheVariants.{Pull, Plug, Revoke}
use Rattle.run_defs.specs.declared.line.PlugWords.{PlugWords}
use Rattle.run_defs.specs.declared.line.PlugWords.TheVariants.{Done, PortUsed, Full}
use Rattle.run_defs.specs.declared.line.Line.TheVariants.{Pull as PullLine, Plug as PlugLine, Revoked}
use Rattle.run_defs.specs.Output.{Piece, OneLine}
use Rattle.run_defs.specs.Session.{SessionState}
use Rattle.run_defs.specs.Run.{Does}

-- A pull was done exactly where the port had a cable in the fabric as it stood before. Its cable is pulled then, and no
-- other; and where it had none, nothing changed.
pub record IsPulled (w v : WorldState) (at : End) (done : Bool) : Type 0 where
  pub cabled : (done ≡ true) ↔ IsSome (far (fabric_of w) at)
  pub cables : v.links.cables ≡ pulled_at w.links.cables at
  pub stays : done ≡ false → v ≡ w

-- its one line says so
abbrev pub IsPullTold : SessionState → SessionState → End → List Piece → Type 0
IsPullTold s next at out =
    (done : Bool) × (out ≡ OneLine (PullLine at done) ∷ []) × IsPulled s.world next.world at done

-- the line of every command `pull` does
abbrev pub PullLineIsTrue : Type 0
PullLineIsTrue = (s next : SessionState) (at : End) (out : List Piece) → Does s (Pull at) out next
    → IsPullTold s next at out

-- A plug was refused as `portused` exactly where one of the ports had a cable or the two are one, and as `full` exactly
-- where that isn't so and all cables were named; nothing changed then. Else the ports are joined by a cable more.
pub record IsPlugged (w v : WorldState) (a b : End) (words : PlugWords) : Type 0 where
  pub used : (words ≡ PortUsed) ↔ (is_used (fabric_of w) a b ≡ true)
  pub full : (words ≡ Full) ↔ ((is_used (fabric_of w) a b ≡ false) × (cable_limit ≤ length w.links.cables.wires))
  pub joined : words ≡ Done → v.links.cables ≡ with_plugged w.links.cables a b
  pub stays : words ≢ Done → v ≡ w

-- its one line says so
abbrev pub IsPlugTold : SessionState → SessionState → End → End → List Piece → Type 0
IsPlugTold s next a b out =
    (words : PlugWords) × (out ≡ OneLine (PlugLine a b words) ∷ []) × IsPlugged s.world next.world a b words

-- the line of every command `plug` does, of two ports of the fabric
abbrev pub PlugLineIsTrue : Type 0
PlugLineIsTrue =
    (s next : SessionState) (a b : End) (out : List Piece)
    → has_port (fabric_of s.world) a ≡ true → has_port (fabric_of s.world) b ≡ true → Does s (Plug a b) out next
    → IsPlugTold s next a b out

-- Where routes are adopted, all hosts are counted, and each has given up the epoch of the routes. Where none are, no
-- host is counted, and nothing changed.
pub record IsRevoked (w v : WorldState) (count : ℕ) : Type 0 where
  pub counted : (a : Adoption) → w.adopted ≡ Some a → count ≡ host_count w
  pub given_up : (a : Adoption) → w.adopted ≡ Some a → (h : ℕ) → h < host_count w
      → has_revoked a.epoch (node_at v h).table ≡ true
  pub none : w.adopted ≡ None → (count ≡ 0) × (v ≡ w)

-- its one line says so
abbrev pub IsRevokeTold : SessionState → SessionState → List Piece → Type 0
IsRevokeTold s next out =
    (count : ℕ) × (out ≡ OneLine (Revoked count) ∷ []) × IsRevoked s.world next.world count

-- the line of every command `revoke` does, in a world that acts lead to
abbrev pub RevokedLineIsTrue : Type 0
RevokedLineIsTrue = (n : Network) (s next : SessionState) (out : List Piece) → IsReached n s.world
    → Does s Revoke out next → IsRevokeTold s next out
