use Rattle.std.proofs.Common.{◌≡◌, ap, ◌∙◌, rules}
use Rattle.world_defs.specs.Mapping.{mapping_bytes, decode_mapping}
use Rattle.world_defs.specs.Mapping.MappingBody.{Part}
use Rattle.route_parts.proofs.part.RoutePart.encode.Goals as goal

pub returns-clause-read : goal.returns-clause-read
returns-clause-read c =
    let all : c.append.new.bytes.items ≡ mapping_bytes (Part c.args.self.now) = search rules in
    ap decode_mapping all ∙ c.mapping_is_read.ensures.read (Part c.args.self.now) c.requires
