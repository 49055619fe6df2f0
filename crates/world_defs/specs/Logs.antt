-- A drain, a clear, a settle, an ask and an installation as logs.
use Rattle.std.specs.Prelude.{◌+◌, ℕ, ℤ, Bool, true, false, ◌&&◌, ◌||◌, not, List, [], ◌∷◌, ◌++◌, map}
use Rattle.std.specs.Prelude.{nat_eq, is_some, if◌then◌else◌, Option, Some, None}
use Rattle.net_defs.specs.declared.place.Answer.{Answer}
use Rattle.net_defs.specs.declared.place.Answer.TheVariants.{Host}
use Rattle.world_defs.specs.Hops.{total_hops}
use Rattle.journal_defs.specs.declared.entry.Entry.{Entry}
use Rattle.world_defs.specs.declared.event.Event.{Event}
use Rattle.world_defs.specs.declared.event.Event.TheVariants.{Ask, Part, Inject, Advance, Replay, GiveUp}
use Rattle.world_defs.specs.declared.effect.Effect.{Effect}
use Rattle.world_defs.specs.Table.{Adoption}
use Rattle.world_defs.specs.World.{WorldState, addresses}
use Rattle.world_defs.specs.Drain.{changes, channels_of, resets_of}
use Rattle.world_defs.specs.Settle.{expiries, serials, is_quiet, pass_bound, round_bound, is_last_round}
use Rattle.world_defs.specs.Asking.{loop_answer, is_used_up, number_of, is_harmed, is_changed, probed_host, reply_in}
use Rattle.world_defs.specs.Asking.{returned_in}
use Rattle.world_defs.specs.Install.{has_staged_answer, is_acknowledged, parts_of}
use Rattle.world_defs.specs.Log.{Log, still, happen, happen_all, told, after_events, and_do, for_each, up_to}

-- one pass: an advance of each channel by rising number
abbrev pub pass : WorldState → Log (List Effect)
pass w = happen_all (map Advance (channels_of w)) w

-- nothing changed
abbrev pub is_still : List Effect → Bool
is_still xs = nat_eq (changes xs) 0

-- a pass that changes something, and else nothing
abbrev pub drain_pass : WorldState → Log (List Effect)
drain_pass w = if is_still (pass w).value then still [] w else pass w

-- at most so many passes, up to one that changes nothing
abbrev pub passes : ℕ → WorldState → Log (List Effect)
passes = up_to (λ xs ys. xs ++ ys) [] (λ before p. is_still p.value) drain_pass

-- A drain: passes up to one that changes nothing, which isn't told. Each other one lowers the hops left.
unfoldable pub drain : WorldState → Log (List Effect)
drain w = passes (total_hops w.links + 1) w

-- A clear: a drain, and then a reset of each channel; how many of them held a packet.
unfoldable pub clear : WorldState → Log ℕ
clear w = and_do (drain w) (λ xs v. told changes (happen_all (resets_of v) v))

-- how many injections and replays weren't idle, and how many channels were reset
pub record Moved : Type 0 where
  pub moves : ℕ
  pub resets : ℕ

abbrev pub unmoved : Moved
unmoved = record { moves = 0; resets = 0 }

abbrev pub moved_both : Moved → Moved → Moved
moved_both a b = record { moves = a.moves + b.moves; resets = a.resets + b.resets }

-- events, and then a clear
abbrev pub cleared : List Event → WorldState → Log Moved
cleared es w = and_do (happen_all es w) (λ xs v. told (λ n. record { moves = changes xs; resets = n }) (clear v))

-- a replay of each of these serials, with a clear after each
abbrev pub replays : List ℕ → WorldState → Log Moved
replays = for_each moved_both unmoved (λ s. cleared (Replay s ∷ []))

-- these hosts inject; a clear; a replay of each packet in limbo, with a clear after each
abbrev pub injected : List ℕ → WorldState → Log Moved
injected hs w = and_do (cleared (map Inject hs) w) (λ a v. told (moved_both a) (replays (serials v) v))

-- A pass of a settle: every host gives up what it staged, and then they inject.
unfoldable pub round_pass : WorldState → Log Moved
round_pass w = after_events (map GiveUp (addresses w)) (injected (addresses w)) w

-- passes end after one that leaves the world quiet, or in which each injection and each replay was idle
abbrev pub is_last_pass : WorldState → Log Moved → Bool
is_last_pass before p = is_quiet p.world || nat_eq p.value.moves 0

-- at most so many passes of a settle, up to the last
abbrev pub round_passes : ℕ → WorldState → Log Moved
round_passes = up_to moved_both unmoved is_last_pass round_pass

-- a round: all expiries, and then passes
unfoldable pub round : WorldState → Log Moved
round w = after_events (expiries w) (round_passes (pass_bound w)) w

-- how many rounds there were, and how many channels were reset
pub record Rounds : Type 0 where
  pub rounds : ℕ
  pub resets : ℕ

abbrev pub rounds_both : Rounds → Rounds → Rounds
rounds_both a b = record { rounds = a.rounds + b.rounds; resets = a.resets + b.resets }

-- a round, counted
abbrev pub one_round : WorldState → Log Rounds
one_round w = told (λ m. record { rounds = 1; resets = m.resets }) (round w)

-- at most so many rounds, up to the last
abbrev pub rounds : ℕ → WorldState → Log Rounds
rounds = up_to rounds_both (record { rounds = 0; resets = 0 }) (λ before r. is_last_round before r.world) one_round

-- A settle: a clear, and then rounds up to the last.
unfoldable pub settle : WorldState → Log Rounds
settle w = and_do (clear w) (λ n v. told (rounds_both (record { rounds = 0; resets = n })) (rounds (round_bound v) v))

-- a host's injection and the drain after it: whether none was left for it, its number, what happened in the drain
pub record Sent : Type 0 where
  pub used_up : Bool
  pub number : Option ℕ
  pub effects : List Effect

-- a host injects, and the links are drained
unfoldable pub sends : ℕ → WorldState → Log Sent
sends h w = and_do (happen (Inject h) w) (λ x v.
    told (λ xs. record { used_up = is_used_up w h; number = number_of x; effects = xs }) (drain v))

-- what a try found, and whether a fault met it
pub record Tried (A : Type 0) : Type 0 where
  pub found : A
  pub harmed : Bool

-- what a try comes to after a packet was sent: the host that it asks for an answer sends one, if there is such a host
abbrev pub answered : {A : Type 0} → WorldState → A → (Sent → A) → Sent → Option ℕ → WorldState → Log (Tried A)
answered before nothing find sent None w =
    still (record { found = nothing; harmed = is_harmed sent.used_up before w }) w
answered before nothing find sent (Some h) w = and_do (sends h w) (λ answer v.
    still (record { found = find answer; harmed = is_harmed (sent.used_up || answer.used_up) before v }) v)

-- one try of a host probe: the probe alone, and then the reply of the host that heard it
unfoldable pub host_try : ℕ → List ℤ → WorldState → Log (Tried (Option ℕ))
host_try mapper walk w = and_do (happen (Ask mapper walk false) w) (λ x v. and_do (sends mapper v) (λ probe.
    answered w None (λ reply. reply_in mapper probe.number reply.effects) probe (probed_host probe.effects)))

-- one try of a loopback probe
unfoldable pub loop_try : ℕ → List ℤ → WorldState → Log (Tried Bool)
loop_try mapper walk w = and_do (happen (Ask mapper walk true) w) (λ x v. and_do (sends mapper v) (λ probe u.
    still (record { found = returned_in mapper probe.number probe.effects; harmed = is_harmed probe.used_up w u }) u))

-- at most so many tries, up to the first that finds something: a fault met them where it met each
abbrev pub tries : {A : Type 0} → (A → Bool) → A → (WorldState → Log (Tried A)) → ℕ → WorldState → Log (Tried A)
tries is_found nothing = up_to (λ t u. record u { harmed = t.harmed && u.harmed })
    (record { found = nothing; harmed = true }) (λ before t. is_found t.value.found)

-- what an ask is answered, and whether it drowned
pub record Asked : Type 0 where
  pub answer : Answer
  pub drowned : Bool

-- what an ask comes to after its loopback probes, where it may drown besides, or may not
abbrev pub looped : Bool → Tried Bool → Asked
looped drowns t = record { answer = loop_answer t.found; drowned = not t.found && (drowns || t.harmed) }

-- what an ask comes to after its host probes, where a fault met them or didn't: a host, or what the loopback probes
-- find; it drowns too where cables went since the mapper was made
abbrev pub asked_on : ℕ → ℕ → List ℤ → ℕ → Bool → Option ℕ → WorldState → Log Asked
asked_on made mapper walk k harmed (Some h) w = still (record { answer = Host h; drowned = false }) w
asked_on made mapper walk k harmed None w = and_do (tries (λ b. b) false (loop_try mapper walk) k w) (λ t v.
    still (looped (harmed || is_changed made v) t) v)

-- An ask of a mapper that was made after so many changes of cables: every host gives up what it staged; up to so many
-- host probes, to the first reply; without one, up to so many loopback probes, to the first that returns.
unfoldable pub ask : ℕ → ℕ → ℕ → List ℤ → WorldState → Log Asked
ask made mapper k walk w = after_events (map GiveUp (addresses w)) (λ v.
    and_do (tries is_some None (host_try mapper walk) k v) (λ t. asked_on made mapper walk k t.harmed t.found)) w

-- entries of asks, and how many drowned
pub record AskedAll : Type 0 where
  pub entries : List Entry
  pub drowned : ℕ

-- an ask as the only one
abbrev pub one_asked : List ℤ → Asked → AskedAll
one_asked walk a = record {
  entries = record { walk = walk; answer = a.answer } ∷ [];
  drowned = if a.drowned then 1 else 0;
}

abbrev pub asked_both : AskedAll → AskedAll → AskedAll
asked_both a b = record { entries = a.entries ++ b.entries; drowned = a.drowned + b.drowned }

-- asks of these walks, in order
abbrev pub asks : ℕ → ℕ → ℕ → List (List ℤ) → WorldState → Log AskedAll
asks made mapper k = for_each asked_both (record { entries = []; drowned = 0 })
    (λ walk w. told (one_asked walk) (ask made mapper k walk w))

-- one try of a part: the part alone, and then the acknowledgement of its host, where that took it
unfoldable pub part_try : ℕ → ℕ → ℕ → WorldState → Log (Tried Bool)
part_try mapper dst part w = and_do (happen (Part dst part) w) (λ x v. and_do (sends mapper v) (λ sent u.
    answered w false (λ ack. is_acknowledged mapper dst part ack.effects) sent
    (if has_staged_answer u dst sent.effects then Some dst else None) u))

-- the parts of a host, up to the first that isn't acknowledged: whether all are
abbrev pub parts : ℕ → ℕ → ℕ → List ℕ → WorldState → Log Bool
parts mapper dst k [] w = still true w
parts mapper dst k (p ∷ ps) w = and_do (tries (λ b. b) false (part_try mapper dst p) k w) (λ t v.
    if t.found then parts mapper dst k ps v else still false v)

-- the parts of these hosts, in order: how many of them have all acknowledged
abbrev pub hosts : Adoption → ℕ → List ℕ → WorldState → Log ℕ
hosts a k = for_each (λ m n. m + n) 0 (λ h w. told (λ b. if b then 1 else 0) (parts a.mapper h k (parts_of a h) w))

-- An installation of adopted routes: every host gives up what it staged; then each is sent its parts, each up to so
-- many times.
unfoldable pub install : Adoption → List ℕ → ℕ → WorldState → Log ℕ
install a hs k w = after_events (map GiveUp (addresses w)) (hosts a k hs) w
