-- A clear resets the channels that a drain left full.
use Rattle.std.proofs.Common.{◌≡◌, ◌<◌, ◌+◌, ℕ, zero, suc, Bool, true, false, List, [], ◌∷◌, map, length, get_or, set, Option, Some, None, is_some, is_none, refl, sym, ◌∙◌, ap, subst, arith, true≢false}
use Rattle.std.specs.List.{AllByRecursion, list_all}
use Rattle.std.proofs.Math.ListN.{length-set}
use Rattle.world_defs.specs.Links.{Held, LinkState, packet_in, emptied, is_idle}
use Rattle.world_defs.specs.Fault.{reset}
use Rattle.world_defs.proofs.Idling.{lose-idle}
use Rattle.world_defs.specs.declared.event.Event.TheVariants.{Reset}
use Rattle.world_defs.specs.declared.effect.Effect.TheVariants.{Reset as WasReset}
use Rattle.world_defs.specs.World.{WorldState}
use Rattle.world_defs.specs.Step.{of_links, was_reset, step, steps}
use Rattle.world_defs.specs.Drain.{changed, changes, channels_of, resets_of}
use Rattle.world_defs.specs.Logs.{drain, clear}
use Rattle.world_laws.specs.Draining.{full_count}
use Rattle.world_laws.proofs.Lists.{at-set}
use Rattle.world_laws.proofs.Draining.{one_if, changes-push, range-all}

-- a reset empties its channel, and counts where it was full
reset_by : (w : WorldState) (o : Bool × LinkState) → (o.0 ≡ false → o.1 ≡ w.links) → ((of_links w WasReset o).1.links ≡ o.1) × (changed (of_links w WasReset o).0 ≡ o.0)
reset_by w (true, l) k = (refl, refl)
reset_by w (false, l) k = (sym (k refl), refl)

reset-links : (w : WorldState) (c : ℕ) → (step w (Reset c)).1.links ≡ emptied w.links c
unfolding was_reset
reset-links w c = (reset_by w (reset w.links c) (lose-idle w.links c)).0

pub reset-changed : (w : WorldState) (c : ℕ) → changed (step w (Reset c)).0 ≡ is_some (packet_in w.links c)
unfolding was_reset
reset-changed w c = (reset_by w (reset w.links c) (lose-idle w.links c)).1

full-set : (ps : List (Option Held)) (c : ℕ) → one_if (is_some (get_or ps c None)) + full_count (set ps c None) ≡ full_count ps
full-set [] c = omega arith
full-set (None ∷ ps) zero = omega arith
full-set (Some held ∷ ps) zero = omega arith
full-set (None ∷ ps) (suc c) = full-set ps c
full-set (Some held ∷ ps) (suc c) = let h = full-set ps c in omega (arith, h)

resets-count : (w : WorldState) (cs : List ℕ) → changes (steps w (map Reset cs)).0 + full_count (steps w (map Reset cs)).1.links.channels ≡ full_count w.links.channels
resets-count w [] = omega arith
resets-count w (c ∷ cs) =
    let next : WorldState = (step w (Reset c)).1 in
    let rest = resets-count next cs in
    let a = changes-push (step w (Reset c)).0 (steps next (map Reset cs)).0 (is_some (packet_in w.links c)) (reset-changed w c) in
    let b : full_count next.links.channels ≡ full_count (set w.links.channels c None) = ap (λ l. full_count l.channels) (reset-links w c) in
    let d = full-set w.links.channels c in
    omega (arith, rest, a, b, d)

-- what is empty stays so
reset-empty : (w : WorldState) (c d : ℕ) → packet_in w.links d ≡ None → packet_in (step w (Reset c)).1.links d ≡ None
reset-empty w c d e =
    ap (λ l. packet_in l d) (reset-links w c) ∙ at-set (λ (a b : Option Held). a ≡ None → b ≡ None) (λ a h. h) w.links.channels c d None None (λ h. refl) e

reset-there : (ps : List (Option Held)) (c : ℕ) → get_or (set ps c None) c None ≡ None
reset-there [] c = refl
reset-there (p ∷ ps) zero = refl
reset-there (p ∷ ps) (suc c) = reset-there ps c

resets-empty : (w : WorldState) (cs : List ℕ) (d : ℕ) → packet_in w.links d ≡ None → packet_in (steps w (map Reset cs)).1.links d ≡ None
resets-empty w [] d e = e
resets-empty w (c ∷ cs) d e = resets-empty (step w (Reset c)).1 cs d (reset-empty w c d e)

resets-all : (w v : WorldState) (cs : List ℕ) → v ≡ (steps w (map Reset cs)).1 → AllByRecursion (λ c. packet_in v.links c ≡ None) cs
resets-all w v [] same = tt
resets-all w v (c ∷ cs) same =
    let next : WorldState = (step w (Reset c)).1 in
    let here : packet_in next.links c ≡ None = ap (λ l. packet_in l c) (reset-links w c) ∙ reset-there w.links.channels c in
    (ap (λ u. packet_in u.links c) same ∙ resets-empty next cs c here, resets-all next v cs same)

resets-long : (w : WorldState) (cs : List ℕ) → length (steps w (map Reset cs)).1.links.channels ≡ length w.links.channels
resets-long w [] = refl
resets-long w (c ∷ cs) =
    resets-long (step w (Reset c)).1 cs ∙ (ap (λ l. length l.channels) (reset-links w c) ∙ length-set {A = Option Held} w.links.channels c None)

all-empty : (ps : List (Option Held)) → ((c : ℕ) → c < length ps → get_or ps c None ≡ None) → list_all is_none ps ≡ true
all-empty [] all = refl
all-empty (p ∷ ps) all =
    let here : p ≡ None = all zero (omega arith) in
    let none : is_none p ≡ true = ap is_none here in
    let rest : list_all is_none ps ≡ true = all-empty ps (λ c low. all (suc c) (omega (arith, low))) in
    rw none rest

pub empty-count : (ps : List (Option Held)) → list_all is_none ps ≡ true → full_count ps ≡ 0
empty-count [] e = refl
empty-count (None ∷ ps) e = empty-count ps e
empty-count (Some held ∷ ps) e = absurd (true≢false (sym e))

-- resets of all channels
resets-idle : (w : WorldState) → is_idle (steps w (resets_of w)).1.links ≡ true
resets-idle w =
    let v : WorldState = (steps w (resets_of w)).1 in
    let all = range-all (λ c. packet_in v.links c ≡ None) (length w.links.channels) (resets-all w v (channels_of w) refl) in
    all-empty v.links.channels (λ c low. all c (subst (λ n. c < n) (resets-long w (channels_of w)) low))

pub clear-idle : (w : WorldState) → is_idle (clear w).world.links ≡ true
unfolding clear
clear-idle w = resets-idle (drain w).world

pub clear-resets : (w : WorldState) → (clear w).value ≡ full_count (drain w).world.links.channels
unfolding clear
clear-resets w =
    let v : WorldState = (drain w).world in
    let count = resets-count v (channels_of v) in
    let none = empty-count (steps v (resets_of v)).1.links.channels (resets-idle v) in
    omega (arith, count, none)
