-- What holds of every step of the links.
use Rattle.std.specs.Prelude.{◌≡◌, ℕ, ◌<◌, Bool, true, false, List, IsSome, None}
use Rattle.std.specs.List.{AllByRecursion}
use Rattle.net_defs.specs.declared.vertex.End.{End}
use Rattle.net_defs.specs.Network.{Network}
use Rattle.world_defs.specs.History.{IsHistory}
use Rattle.world_defs.specs.declared.replayed.Replayed.{Replayed}
use Rattle.world_defs.specs.declared.replayed.Replayed.TheVariants.{Back, Busy, Unknown}
use Rattle.world_defs.specs.Links.{LinkState, empty_links, is_idle, packet_in, put}
use Rattle.world_defs.specs.Advance.{advance}
use Rattle.world_defs.specs.Fault.{lose, reset, repeat, hold, flip, replay, pull, plug}
use Rattle.world_defs.specs.Hops.{total_hops, changes, is_stuck}
use Rattle.world_defs.specs.Shape.{IsLinks}
use Rattle.world_defs.specs.LinkStep.{Step, Pull, Plug, Accept, stepped, stepped_all}

-- an advance that changes something lowers the hops left
abbrev pub AdvanceLowersHops : Type 0
AdvanceLowersHops = (s : LinkState) (c : ℕ) → changes (advance s c).0 ≡ true → total_hops (advance s c).1 < total_hops s

-- and one that is blocked, or finds no packet, leaves the links as they were
abbrev pub StillAdvance : Type 0
StillAdvance = (s : LinkState) (c : ℕ) → changes (advance s c).0 ≡ false → (advance s c).1 ≡ s

-- links without hops left are idle
abbrev pub NoHopsIsIdle : Type 0
NoHopsIsIdle = (s : LinkState) → total_hops s ≡ 0 → is_idle s ≡ true

-- stuck links hold a packet, and no advance changes them
abbrev pub StuckIsStill : Type 0
StuckIsStill = (s : LinkState) → is_stuck s ≡ true
    → ((c : ℕ) × IsSome (packet_in s c)) × ((c : ℕ) → (advance s c).1 ≡ s)

-- and links that hold a packet and that no advance changes are stuck
abbrev pub StillIsStuck : Type 0
StillIsStuck = (s : LinkState) (c : ℕ) → IsSome (packet_in s c) → ((d : ℕ) → (advance s d).1 ≡ s) → is_stuck s ≡ true

-- what isn't possible changes nothing
abbrev pub RefusedPut : Type 0
RefusedPut = (s : LinkState) (c : ℕ) (wire : List ℕ) → (put s c wire).0 ≡ false → (put s c wire).1 ≡ s

-- a loss that is not possible changes nothing
abbrev pub IdleLose : Type 0
IdleLose = (s : LinkState) (c : ℕ) → (lose s c).0 ≡ false → (lose s c).1 ≡ s

-- a reset that is not possible changes nothing
abbrev pub IdleReset : Type 0
IdleReset = (s : LinkState) (c : ℕ) → (reset s c).0 ≡ false → (reset s c).1 ≡ s

-- a repeat that is not possible changes nothing
abbrev pub IdleRepeat : Type 0
IdleRepeat = (s : LinkState) (c : ℕ) → (repeat s c).0 ≡ None → (repeat s c).1 ≡ s

-- a hold that is not possible changes nothing
abbrev pub IdleHold : Type 0
IdleHold = (s : LinkState) (c : ℕ) → (hold s c).0 ≡ None → (hold s c).1 ≡ s

-- a flip that is not possible changes nothing
abbrev pub IdleFlip : Type 0
IdleFlip = (s : LinkState) (c bit pattern : ℕ) → (flip s c bit pattern).0 ≡ false → (flip s c bit pattern).1 ≡ s

-- a replay that didn't put a packet back
abbrev pub is_idle_replay : Replayed → Bool
is_idle_replay (Back c) = false
is_idle_replay (Busy c) = true
is_idle_replay Unknown = true

-- a replay that put nothing back changes nothing
abbrev pub IdleReplay : Type 0
IdleReplay = (s : LinkState) (serial : ℕ) → is_idle_replay (replay s serial).0 ≡ true → (replay s serial).1 ≡ s

-- a step of packets keeps the cables
abbrev pub is_of_cables : Step → Bool
is_of_cables (Pull e) = true
is_of_cables (Plug a b) = true
is_of_cables Accept = true
is_of_cables _ = false

abbrev pub StepKeepsCables : Type 0
StepKeepsCables = (s : LinkState) (x : Step) → is_of_cables x ≡ false → (stepped s x).cables ≡ s.cables

-- and every step keeps the hosts and the switches
abbrev pub StepKeepsVertices : Type 0
StepKeepsVertices = (s : LinkState) (x : Step)
    → ((stepped s x).cables.hosts ≡ s.cables.hosts) × ((stepped s x).cables.switches ≡ s.cables.switches)

-- and a history
abbrev pub StepKeepsHistory : Type 0
StepKeepsHistory = (s : LinkState) (x : Step) → IsHistory s.cables → IsHistory (stepped s x).cables

-- what a pull that isn't possible does
abbrev pub IdlePull : Type 0
IdlePull = (s : LinkState) (e : End) → (pull s e).0 ≡ false → (pull s e).1 ≡ s

-- and a plug
abbrev pub IdlePlug : Type 0
IdlePlug = (s : LinkState) (a b : End) → (plug s a b).0 ≡ false → (plug s a b).1 ≡ s

-- the links of a fabric without packets are links, and idle
abbrev pub EmptyIsLinks : Type 0
EmptyIsLinks = (n : Network) → IsLinks (empty_links n)

-- links without packets are idle
abbrev pub EmptyIsIdle : Type 0
EmptyIsIdle = (n : Network) → is_idle (empty_links n) ≡ true

-- and links stay links
abbrev pub StepKeepsLinks : Type 0
StepKeepsLinks = (s : LinkState) (x : Step) → IsLinks s → IsLinks (stepped s x)

-- after all steps links are links
abbrev pub StepsKeepLinks : Type 0
StepsKeepLinks = (s : LinkState) (xs : List Step) → IsLinks s → IsLinks (stepped_all s xs)

-- after all steps of packets the cables are the same
abbrev pub StepsKeepCables : Type 0
StepsKeepCables = (s : LinkState) (xs : List Step) → AllByRecursion (λ x. is_of_cables x ≡ false) xs
    → (stepped_all s xs).cables ≡ s.cables
