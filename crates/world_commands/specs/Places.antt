-- The line that shows where the tokens of a port are.
use Rattle.std.specs.Prelude.{ℕ, true, false, Option}
use Rattle.gm_defs.specs.Token.{PortState}
use Rattle.host_ports.specs.Held.{place_at}
use Rattle.run_defs.specs.declared.line.Line.{Line}
use Rattle.run_defs.specs.declared.line.Line.TheVariants.{Tokens}
use Rattle.run_defs.specs.Outcome.{places}
use Rattle.fab_world.specs.declared.clients.PortAt.{PortAt}

-- the line of so many send tokens and receive tokens of a port
abbrev pub tokens_line : PortAt → ℕ → ℕ → Option PortState → Line
tokens_line at sends recvs o = Tokens at.host at.port (places sends (place_at o true)) (places recvs (place_at o false))
