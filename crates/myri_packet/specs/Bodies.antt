-- A body by its kind and its bytes.
use Rattle.std.specs.Prelude.{ℕ, List}
use Rattle.packet_defs.specs.declared.kind.Kind.{Kind}
use Rattle.packet_defs.specs.declared.kind.Kind.TheVariants.{Mapping as OfMapping, Gm as OfGm}
use Rattle.myri_packet.specs.declared.host.Body.{Body}
use Rattle.myri_packet.specs.declared.host.Body.TheVariants.{Mapping, Gm}

-- a body as its kind and its payload
abbrev pub parts_of : Body → Kind × List ℕ
parts_of (Mapping payload) = (OfMapping, payload.now)
parts_of (Gm payload) = (OfGm, payload.now)
