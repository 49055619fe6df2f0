-- What a mapper's ask is made of: what effects show that hosts heard, when a fault met a try, and what is answered.
use Rattle.std.specs.Prelude.{ℕ, Bool, true, false, ◌&&◌, ◌||◌, List, [], ◌∷◌, map, nat_eq, nat_lt}
use Rattle.std.specs.Prelude.{nat_le, is_some, if◌then◌else◌, Option, Some, None}
use Rattle.net_defs.specs.declared.place.Answer.{Answer}
use Rattle.net_defs.specs.declared.place.Answer.TheVariants.{Switch, Nothing}
use Rattle.net_defs.specs.Route.{host_port}
use Rattle.world_defs.specs.Crossed.{leaving}
use Rattle.world_defs.specs.declared.event.Event.TheVariants.{GiveUp}
use Rattle.world_defs.specs.declared.effect.Effect.{Effect}
use Rattle.world_defs.specs.declared.effect.Effect.TheVariants.{Arrived, Injected}
use Rattle.world_defs.specs.declared.heard.Heard.TheVariants.{Probe, Reply, Loop}
use Rattle.world_defs.specs.World.{WorldState, last_count, addresses}
use Rattle.world_defs.specs.Step.{after_all}

-- the host that heard a host probe
abbrev pub probed_host : List Effect → Option ℕ
probed_host [] = None
probed_host (Arrived h Probe ∷ xs) = Some h
probed_host (_ ∷ xs) = probed_host xs

-- the host whose reply to the probe of a number a mapper heard
abbrev pub replied_host : ℕ → ℕ → List Effect → Option ℕ
replied_host mapper number [] = None
replied_host mapper number (Arrived h (Reply n from) ∷ xs) =
    if nat_eq h mapper && nat_eq n number then Some from else replied_host mapper number xs
replied_host mapper number (_ ∷ xs) = replied_host mapper number xs

-- a mapper heard the loopback probe of a number
abbrev pub has_returned : ℕ → ℕ → List Effect → Bool
has_returned mapper number [] = false
has_returned mapper number (Arrived h (Loop n) ∷ xs) =
    (nat_eq h mapper && nat_eq n number) || has_returned mapper number xs
has_returned mapper number (_ ∷ xs) = has_returned mapper number xs

-- a host has a cable, but no injection is left
abbrev pub is_used_up : WorldState → ℕ → Bool
is_used_up w h = is_some (leaving w.links.cables (host_port h)) && nat_le last_count w.injected

-- the number under which a packet was injected
abbrev pub number_of : Effect → Option ℕ
number_of (Injected n) = Some n
number_of _ = None

-- a try of a mapper met a fault: no injection was left, or a planned fault that harms struck since then
abbrev pub is_harmed : Bool → WorldState → WorldState → Bool
is_harmed used before w = used || nat_lt before.harmed w.harmed

-- cables came or went since so many changes
abbrev pub is_changed : ℕ → WorldState → Bool
is_changed made w = nat_lt made w.links.cables.changes

-- the reply to the probe of a number, where there was one
abbrev pub reply_in : ℕ → Option ℕ → List Effect → Option ℕ
reply_in mapper None xs = None
reply_in mapper (Some n) xs = replied_host mapper n xs

-- the loopback probe of a number came back, where it was injected
abbrev pub returned_in : ℕ → Option ℕ → List Effect → Bool
returned_in mapper None xs = false
returned_in mapper (Some n) xs = has_returned mapper n xs

-- a walk whose loopback probe returned stands at a switch; else nothing was found
abbrev pub loop_answer : Bool → Answer
loop_answer true = Switch
loop_answer false = Nothing

-- every host gives up what it staged, by rising address
abbrev pub all_given_up : WorldState → WorldState
all_given_up w = after_all w (map GiveUp (addresses w))
