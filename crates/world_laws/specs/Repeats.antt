-- What is repeated up to its last, with no bound on how often.
use Rattle.std.specs.Prelude.{◌≡◌, Bool, true, false}
use Rattle.world_defs.specs.World.{WorldState}
use Rattle.world_defs.specs.Log.{Log, told, and_do}

-- One thing again and again, up to the one that is the last: what they came to is joined.
pub data Repeats {A : Type 0} (join : A → A → A) (is_last : WorldState → Log A → Bool) (one : WorldState → Log A)
    : WorldState → Log A → Type 0 where
  last : {w : WorldState} → is_last w (one w) ≡ true → Repeats join is_last one w (one w)
  another : {w : WorldState} {l m : Log A} → is_last w (one w) ≡ false → Repeats join is_last one (one w).world l
      → m ≡ and_do (one w) (λ a v. told (join a) l) → Repeats join is_last one w m
