-- A drain goes on pass by pass: what bounds its passes doesn't count.
use Rattle.std.specs.Prelude.{◌≡◌, true, false, [], ◌++◌}
use Rattle.world_defs.specs.World.{WorldState}
use Rattle.world_defs.specs.Log.{still, told, and_do}
use Rattle.world_defs.specs.Logs.{is_still, pass, drain}

-- where the first pass changes nothing, a drain is nothing
abbrev pub DrainRests : Type 0
DrainRests = (w : WorldState) → is_still (pass w).value ≡ true → drain w ≡ still [] w

-- where it changes something, a drain is this pass, and then the drain of the world that it leaves
abbrev pub DrainGoesOn : Type 0
DrainGoesOn = (w : WorldState) → is_still (pass w).value ≡ false
    → drain w ≡ and_do (pass w) (λ xs v. told (λ ys. xs ++ ys) (drain v))
