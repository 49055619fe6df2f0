-- The places before are there.
use Rattle.std.proofs.Common.{◌≡◌, ◌++◌, ◌∷◌}
use Rattle.std.specs.Prelude.{flat_map}
use Rattle.world_defs.specs.Node.{port_at}
use Rattle.world_defs.specs.World.{node_at}
use Rattle.run_defs.specs.LineRows.{place_text}
use Rattle.run_defs.specs.Outcome.{places}
use Rattle.host_ports.specs.Held.{place_at}
use Rattle.world_commands.proofs.places.put_places.Given as goal

abbrev pub invariant-loop-number : goal.invariant-loop-number
invariant-loop-number l = l.printed ≡ record {
  text = l.initial.printed.text ++ flat_map (λ p. 32 ∷ place_text p) (places l.number (place_at (port_at (node_at l.fn.w l.fn.at.host) l.fn.at.port) l.fn.send));
  figures = l.initial.printed.figures;
}
