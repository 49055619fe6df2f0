use Rattle.std.proofs.Common.{arith}
use Rattle.world_defs.specs.Links.{packet_in}
use Rattle.faulty_links.proofs.HopsBelow.{hops-of}
use Rattle.faulty_links.proofs.reach.bytes_in.Goals as goal

pub returns-in-Some-clause-enough : goal.returns-in-Some-clause-enough
returns-in-Some-clause-enough c =
    let bytes = c.size.ensures.bytes in
    let some = c.size.ensures.some in
    let most = hops-of (packet_in c.args.links.now c.args.c) c.in-Some.packet.now (omega (arith, bytes, some)) c.in-Some.ensures in
    omega (arith, most, bytes)
