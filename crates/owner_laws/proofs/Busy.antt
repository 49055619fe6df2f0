-- The worked example: each act computes.
use Rattle.std.proofs.Common.{refl}
use Rattle.world_defs.specs.Client.{begun, provided_by, sent_by}
use Rattle.owner_laws.specs.Examples.{PortHasTokens, ClientHasTheOther, NoSuchPortOpens}

pub port-has : PortHasTokens
unfolding begun provided_by sent_by
port-has = (refl, refl)

pub client-has : ClientHasTheOther
unfolding begun provided_by sent_by
client-has = refl

pub opens-none : NoSuchPortOpens
unfolding begun
opens-none = (refl, refl)
