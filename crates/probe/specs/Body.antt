-- The bodies of probes and of their replies.
use Rattle.std.specs.Prelude.{ℕ, List, Option, Some, None}
use Rattle.probe.specs.declared.body.ProbeBody.{ProbeBody}
use Rattle.probe.specs.declared.body.ProbeBody.TheVariants.{HostProbe as Probe, HostReply as Reply, Loop}
use Rattle.probe.specs.declared.body.BodyFault.{BodyFault}
use Rattle.probe.specs.declared.body.BodyFault.TheVariants.{Malformed}
use Rattle.world_defs.specs.Mapping.{MappingBody, decode_mapping}
use Rattle.world_defs.specs.Mapping.MappingBody.{HostProbe, HostReply, Loopback}

-- what a body says
abbrev pub said : ProbeBody → MappingBody
said (Probe number mapper back) = HostProbe number mapper back
said (Reply number host) = HostReply number host
said (Loop number mapper) = Loopback number mapper

-- a body of a probe or a reply, and not of a table's part
abbrev pub of_probe : Option MappingBody → Option MappingBody
of_probe (Some (HostProbe number mapper back)) = Some (HostProbe number mapper back)
of_probe (Some (HostReply number host)) = Some (HostReply number host)
of_probe (Some (Loopback number mapper)) = Some (Loopback number mapper)
of_probe _ = None

-- what bytes say of a probe or a reply
abbrev pub probe_in : List ℕ → Option MappingBody
probe_in bytes = of_probe (decode_mapping bytes)

-- why nothing was read: bytes that aren't in the grammar
abbrev pub missing : {A : Type 0} → Option A → Option BodyFault
missing None = Some Malformed
missing (Some a) = None

-- why bytes are no body of a probe or a reply
abbrev pub body_refusal : List ℕ → Option BodyFault
body_refusal bytes = missing (probe_in bytes)
