use Rattle.delivery_laws.proofs.Delivered.{settle-delivers}
use Rattle.delivery_laws.proofs.Seeing.{settled-seen}
use Rattle.delivery_laws.proofs.delivery.settled_delivery.Goals as goal

pub returns : goal.returns
returns c = record { delivered = settle-delivers; seen = settled-seen }
