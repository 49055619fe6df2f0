-- The bodies of the mapper's protocol, as a host reads them.
use Rattle.std.specs.Prelude.{Bool, true, false}
use Rattle.world_defs.specs.Mapping.{MappingBody}
use Rattle.world_defs.specs.Mapping.MappingBody.{Part}
use Rattle.probe.specs.Body.{said}
use Rattle.route_parts.specs.Reading.{ack_body}
use Rattle.world_defs.specs.declared.heard.Heard.{Heard}
use Rattle.world_defs.specs.declared.arrival.Arrival.{Arrival}
use Rattle.world_defs.specs.declared.arrival.Arrival.TheVariants.{Heard as Hears, NotMine}
use Rattle.host_items.specs.declared.body.MapperBody.{MapperBody}
use Rattle.host_items.specs.declared.body.MapperBody.TheVariants.{Asks, TablePart, Acknowledges}

-- what a body that was read says
abbrev pub said_of : MapperBody → MappingBody
said_of (Asks body) = said body
said_of (TablePart part) = Part part
said_of (Acknowledges ack) = ack_body ack

-- what was heard where a test holds; else the packet isn't for the host
abbrev pub arrival_where : Bool → Heard → Arrival
arrival_where true heard = Hears heard
arrival_where false heard = NotMine
