-- The lists of the messages that were sent and got on a connection only grow, at their end, by one message an act.
use Rattle.std.specs.Prelude.{◌≡◌, List, [], ◌∷◌, ◌++◌}
use Rattle.gm_defs.specs.declared.frame.ConnectionKey.{ConnectionKey}
use Rattle.world_defs.specs.World.{WorldState}
use Rattle.world_defs.specs.Traffic.{sent_on, got_on}
use Rattle.world_defs.specs.Acts.{Act, acted}

-- A list stays, or has one element more, after the others.
pub data GrowsByOne {A : Type 0} (xs ys : List A) : Type 0 where
  stays : ys ≡ xs → GrowsByOne xs ys
  one_more : (x : A) → ys ≡ xs ++ x ∷ [] → GrowsByOne xs ys

-- From one world to another what was sent and got on a connection stays, but for one message more of each at most.
pub record MessagesGrow (w v : WorldState) (c : ConnectionKey) : Type 0 where
  pub sent : GrowsByOne (sent_on w c) (sent_on v c)
  pub got : GrowsByOne (got_on w c) (got_on v c)

-- so it is after every act, in every world
abbrev pub MessagesOnlyGrow : Type 0
MessagesOnlyGrow = (w : WorldState) (a : Act) (c : ConnectionKey) → MessagesGrow w (acted w a) c
