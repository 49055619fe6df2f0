-- Links without packets: a drain and a clear leave them alone, and a settle leaves such.
use Rattle.std.proofs.Common.{◌≡◌, ℕ, zero, suc, nat_eq, if◌then◌else◌, ◌++◌, true, false, List, [], ◌∷◌, map, get_or, Option, Some, None, is_some, is_none, refl, sym, ◌∙◌, ap, arith, true≢false}
use Rattle.std.specs.List.{list_all}
use Rattle.world_defs.specs.Links.{Held, packet_in, is_idle}
use Rattle.world_defs.specs.Advance.{advance_of, advance}
use Rattle.world_defs.specs.Hops.{changes as moves}
use Rattle.world_defs.specs.declared.event.Event.TheVariants.{Inject, Advance, Replay, Reset, GiveUp}
use Rattle.world_defs.specs.Logs.{Moved}
use Rattle.world_defs.specs.World.{WorldState, addresses}
use Rattle.world_defs.specs.Step.{step, steps, after_all}
use Rattle.world_defs.specs.Drain.{changes, channels_of, resets_of}
use Rattle.world_defs.specs.Settle.{serials, round_bound, is_last_round}
use Rattle.world_defs.specs.Log.{Log, still}
use Rattle.world_defs.specs.Logs.{pass, is_still, drain_pass, drain, clear, cleared, moved_both, unmoved, round_pass, is_last_pass, round, one_round, rounds, rounds_both, settle}
use Rattle.world_laws.specs.Repeats.{Repeats}
use Rattle.world_laws.specs.Draining.{IdleIsDrained, IdleIsCleared}
use Rattle.world_laws.specs.Settling.{SettledIsIdle}
use Rattle.world_laws.proofs.Idling.{step-idle}
use Rattle.world_laws.proofs.Draining.{changes-push, advance-changed, advance-world, drain-drains}
use Rattle.world_laws.proofs.Clearing.{reset-changed, clear-idle}
use Rattle.world_laws.proofs.Repeating.{Chains, each-chain, repeats-one, repeats-end}
use Rattle.world_laws.proofs.Passes.{round-ends}
use Rattle.world_laws.proofs.Rounds.{settle-ends}

-- every channel of idle links is empty
idle-empty : (ps : List (Option Held)) → list_all is_none ps ≡ true → (c : ℕ) → get_or ps c None ≡ None
idle-empty [] e c = refl
idle-empty (None ∷ ps) e zero = refl
idle-empty (None ∷ ps) e (suc c) = idle-empty ps e c
idle-empty (Some held ∷ ps) e c = absurd (true≢false (sym e))

advances-none : (w : WorldState) (cs : List ℕ) → is_idle w.links ≡ true → changes (steps w (map Advance cs)).0 ≡ 0
advances-none w [] e = refl
advances-none w (c ∷ cs) e =
    let next : WorldState = (step w (Advance c)).1 in
    let still : moves (advance w.links c).0 ≡ false = ap (λ o. moves (advance_of w.links c o).0) (idle-empty w.links.channels e c) in
    let same : next ≡ w = advance-world w c still in
    let rest : changes (steps next (map Advance cs)).0 ≡ 0 = ap (λ v. changes (steps v (map Advance cs)).0) same ∙ advances-none w cs e in
    let a = changes-push (step w (Advance c)).0 (steps next (map Advance cs)).0 false (advance-changed w c ∙ still) in
    omega (arith, a, rest)

pub idle-drain : IdleIsDrained
idle-drain w e =
    let none : is_still (pass w).value ≡ true = ap (λ n. nat_eq n 0) (advances-none w (channels_of w) e) in
    let same : drain_pass w ≡ still [] w = ap (λ b. if b then still [] w else pass w) none in
    repeats-one (λ xs ys. xs ++ ys) (λ before p. is_still p.value) drain_pass w (drain w) (drain_pass w) (drain-drains w) (Repeats.last (ap (λ l. is_still l.value) same)) ∙ same

record NoResets (w : WorldState) (cs : List ℕ) : Type 0 where
  count : changes (steps w (map Reset cs)).0 ≡ 0
  world : (steps w (map Reset cs)).1 ≡ w

resets-none : (w : WorldState) (cs : List ℕ) → is_idle w.links ≡ true → NoResets w cs
resets-none w [] e = record { count = refl; world = refl }
resets-none w (c ∷ cs) e =
    let next : WorldState = (step w (Reset c)).1 in
    let none : packet_in w.links c ≡ None = idle-empty w.links.channels e c in
    let k = step-idle w (Reset c) in
    let same : next ≡ w = k.still (k.to none) in
    let rest : NoResets w cs = resets-none w cs e in
    let after : changes (steps next (map Reset cs)).0 ≡ 0 = ap (λ v. changes (steps v (map Reset cs)).0) same ∙ rest.count in
    let a = changes-push (step w (Reset c)).0 (steps next (map Reset cs)).0 false (reset-changed w c ∙ ap is_some none) in
    record { count = omega (arith, a, after); world = ap (λ v. (steps v (map Reset cs)).1) same ∙ rest.world }

pub idle-clear : IdleIsCleared
unfolding clear
idle-clear w e =
    let h = resets-none w (channels_of w) e in
    let same : (drain w).world ≡ w = ap (λ l. l.world) (idle-drain w e) in
    (ap (λ v. changes (steps v (resets_of v)).0) same ∙ h.count, ap (λ v. (steps v (resets_of v)).1) same ∙ h.world)

-- each pass of a settle ends with a clear
abbrev Idle : WorldState → Log Moved → Type 0
Idle w l = is_idle w.links ≡ true → is_idle l.world.links ≡ true

chain-idle : Chains moved_both unmoved Idle
chain-idle = record { same = λ w e. e; both = λ w l m f g e. g (f e) }

round_pass-idle : (w : WorldState) → is_idle (round_pass w).world.links ≡ true
unfolding round_pass
round_pass-idle w =
    let u : WorldState = (cleared (map Inject (addresses w)) (after_all w (map GiveUp (addresses w)))).world in
    each-chain moved_both unmoved Idle chain-idle (λ s. cleared (Replay s ∷ [])) (λ s v e. clear-idle (step v (Replay s)).1) (serials u) u (clear-idle (steps (after_all w (map GiveUp (addresses w))) (map Inject (addresses w))).1)

round-idle : (w : WorldState) → is_idle (round w).world.links ≡ true
unfolding round
round-idle w = repeats-end moved_both is_last_pass round_pass (λ v. is_idle v.links ≡ true) (λ v e. round_pass-idle v) _ _ (round-ends w)

pub settled-idle : SettledIsIdle
unfolding settle
settled-idle w is = repeats-end rounds_both (λ before p. is_last_round before p.world) one_round (λ v. is_idle v.links ≡ true) (λ v e. round-idle v) (clear w).world (rounds (round_bound (clear w).world) (clear w).world) (settle-ends w is)
