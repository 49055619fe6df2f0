-- Far ends as rows keep them.
use Rattle.std.specs.Prelude.{ℕ, List, Option, option_map}
use Rattle.port_align.specs.declared.end.NodePort.{NodePort}
use Rattle.port_align.specs.declared.rows.KeptEnd.{KeptEnd}

-- The far ends by place, and for how many places there is room.
pub record RowTable : Type 0 where
  pub items : List (Option NodePort)
  pub room : ℕ

-- the end that is kept so: none without a port
abbrev pub end_in : KeptEnd → Option NodePort
end_in k = option_map (λ p. record { node = k.node; port = p }) k.port
