-- What clients saw is a front of what sends were accepted with.
use Rattle.std.proofs.Common.{List, ◌++◌, map, sym, ap, ◌∙◌}
use Rattle.std.specs.List.{filter}
use Rattle.std.proofs.lemmas.List.{append_assoc, map-append}
use Rattle.gm_defs.proofs.Found.{filter-append}
use Rattle.world_defs.specs.Node.{port_at}
use Rattle.world_defs.specs.Sound.{IsPrefix}
use Rattle.world_defs.specs.World.{new_world, node_at}
use Rattle.world_defs.specs.Traffic.{sent_on, got_on}
use Rattle.message_laws.proofs.Worlds.{got-front}
use Rattle.client_laws.specs.Handed.{Handed, handed_in, waiting_in, is_on, is_to, as_handed}
use Rattle.client_laws.specs.Seen.{PolledIsFrontOfAccepted}
use Rattle.client_laws.proofs.Polled.{polled-got}
use Rattle.client_laws.proofs.Accepted.{accepted-sent}

pub polled-front : PolledIsFrontOfAccepted
polled-front n w is c port low =
    let handed : List Handed = handed_in c.dst port (new_world n) is.acts in
    let waits : List Handed = waiting_in (port_at (node_at w c.dst) port) in
    let front : IsPrefix (got_on w c) (sent_on w c) = got-front n w is c in
    let later : List Handed = map (as_handed c.src) (filter (is_to port) front.rest) in
    record {
      rest = filter (is_on c.src c.prio) waits ++ later;
      both = ap (λ ms. map (as_handed c.src) (filter (is_to port) ms)) (accepted-sent n w is c ∙ front.both)
          ∙ ap (map (as_handed c.src)) (filter-append (is_to port) (got_on w c) front.rest)
          ∙ map-append (as_handed c.src) (filter (is_to port) (got_on w c)) (filter (is_to port) front.rest)
          ∙ ap (λ l. l ++ later) (sym (polled-got n w is c port low) ∙ filter-append (is_on c.src c.prio) handed waits)
          ∙ append_assoc (filter (is_on c.src c.prio) handed) (filter (is_on c.src c.prio) waits) later;
    }
