-- One step of the links, of any kind, and many.
use Rattle.std.specs.Prelude.{ℕ, List, [], ◌∷◌}
use Rattle.net_defs.specs.declared.vertex.End.{End}
use Rattle.world_defs.specs.Links.{LinkState, put}
use Rattle.world_defs.specs.Advance.{advance}
use Rattle.world_defs.specs.Fault.{lose, reset, repeat, hold, flip, replay, pull, plug, accept}

-- One step of the links: a packet is put into a channel, a channel or limbo does something, or the cables change.
pub data Step : Type 0 where
  Put : (channel : ℕ) → (wire : List ℕ) → Step
  Advance : (channel : ℕ) → Step
  Lose : (channel : ℕ) → Step
  Reset : (channel : ℕ) → Step
  Repeat : (channel : ℕ) → Step
  Hold : (channel : ℕ) → Step
  Flip : (channel bit pattern : ℕ) → Step
  Replay : (serial : ℕ) → Step
  Pull : (at : End) → Step
  Plug : (a b : End) → Step
  Accept : Step

-- the links after a step
abbrev pub stepped : LinkState → Step → LinkState
stepped s (Put c wire) = (put s c wire).1
stepped s (Advance c) = (advance s c).1
stepped s (Lose c) = (lose s c).1
stepped s (Reset c) = (reset s c).1
stepped s (Repeat c) = (repeat s c).1
stepped s (Hold c) = (hold s c).1
stepped s (Flip c bit pattern) = (flip s c bit pattern).1
stepped s (Replay serial) = (replay s serial).1
stepped s (Pull e) = (pull s e).1
stepped s (Plug a b) = (plug s a b).1
stepped s Accept = accept s

-- the links after many
abbrev pub stepped_all : LinkState → List Step → LinkState
stepped_all s [] = s
stepped_all s (x ∷ xs) = stepped_all (stepped s x) xs
