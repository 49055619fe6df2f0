-- Tokens that are wanted and provided, counted in two worlds of the two hosts at one switch.
use Rattle.std.specs.Prelude.{◌≡◌}
use Rattle.settle_laws.specs.Examples.{lost_world, bare_world}
use Rattle.delivery_laws.specs.Delivery.{wanted_at, provided_at, HasEnough}

-- before the settle that follows a lost frame one token of size 4 is wanted, and one is there; in the world in which
-- the message waits for a token, none is
abbrev pub TokensAreCounted : Type 0
TokensAreCounted =
    (wanted_at lost_world 1 1 4 0 ≡ 1) × (provided_at lost_world 1 1 4 0 ≡ 1)
    × (wanted_at bare_world 1 1 4 0 ≡ 1) × (provided_at bare_world 1 1 4 0 ≡ 0)

-- so after the lost frame the world has enough for a settle to deliver all
abbrev pub LostWorldHasEnough : Type 0
LostWorldHasEnough = HasEnough lost_world
