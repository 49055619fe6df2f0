-- After such a settle what clients saw, and what waits for them, is all that sends were accepted with.
use Rattle.std.proofs.Common.{map, sym, ap, ◌∙◌}
use Rattle.std.specs.List.{filter}
use Rattle.world_defs.specs.History.{fabric_at}
use Rattle.world_defs.specs.Logs.{settle}
use Rattle.client_laws.specs.Handed.{is_to, as_handed}
use Rattle.client_laws.proofs.Polled.{polled-got}
use Rattle.client_laws.proofs.Accepted.{accepted-sent}
use Rattle.delivery_laws.specs.Delivery.{SettledIsSeen}
use Rattle.delivery_laws.proofs.Delivered.{settle-delivers}

pub settled-seen : SettledIsSeen
settled-seen w can left enough paths is c port low =
    polled-got (fabric_at w.links.cables 0) (settle w).world is c port low
    ∙ ap (λ ms. map (as_handed c.src) (filter (is_to port) ms)) ((settle-delivers w can left enough paths).1 c ∙ sym (accepted-sent (fabric_at w.links.cables 0) (settle w).world is c))
