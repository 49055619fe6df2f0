-- What a log came to and its world in one record, as proofs go by them: sends, tries and asks.
use Rattle.std.proofs.Common.{◌≡◌, ℕ, ℤ, suc, Bool, true, false, ◌&&◌, ◌||◌, not, List, ◌∷◌, ◌+◌, Option, Some, None, is_some, refl, if◌then◌else◌}
use Rattle.net_defs.specs.declared.place.Answer.{Answer}
use Rattle.world_defs.specs.declared.effect.Effect.{Effect}
use Rattle.world_defs.specs.Table.{Adoption}
use Rattle.world_defs.specs.World.{WorldState}
use Rattle.world_defs.specs.Asking.{loop_answer, number_of, is_harmed, is_changed, reply_in, returned_in}
use Rattle.world_defs.specs.Install.{has_staged_answer, is_acknowledged}
use Rattle.world_defs.specs.Log.{Log, told, and_do, still}
use Rattle.world_defs.specs.Logs as log

-- the effects and the world of a pass and of a drain
abbrev pub pass : WorldState → List Effect × WorldState
pass w = ((log.pass w).value, (log.pass w).world)

abbrev pub drain : WorldState → List Effect × WorldState
drain w = ((log.drain w).value, (log.drain w).world)

pub record Sent : Type 0 where
  pub used_up : Bool
  pub number : Option ℕ
  pub effects : List Effect
  pub world : WorldState

abbrev pub sent_to : Log log.Sent → Sent
sent_to l = record { used_up = l.value.used_up; number = l.value.number; effects = l.value.effects; world = l.world }

abbrev pub sent_of : Sent → log.Sent
sent_of s = record { used_up = s.used_up; number = s.number; effects = s.effects }

-- what a drain after an injection comes to
abbrev pub drained_after : Bool → Effect × WorldState → Sent
drained_after used r = record { used_up = used; number = number_of r.0; effects = (log.drain r.1).value; world = (log.drain r.1).world }

abbrev pub sends : WorldState → ℕ → Sent
sends w h = sent_to (log.sends h w)

pub record Tried (A : Type 0) : Type 0 where
  pub found : A
  pub harmed : Bool
  pub world : WorldState

abbrev pub tried_to : {A : Type 0} → Log (log.Tried A) → Tried A
tried_to l = record { found = l.value.found; harmed = l.value.harmed; world = l.world }

-- the answer of a host that was asked for one
abbrev pub replied : WorldState → ℕ → Sent → Sent → Tried (Option ℕ)
replied before mapper probe reply = record {
  found = reply_in mapper probe.number reply.effects;
  harmed = is_harmed (probe.used_up || reply.used_up) before reply.world;
  world = reply.world;
}

abbrev pub heard_by : WorldState → ℕ → Sent → Option ℕ → Tried (Option ℕ)
heard_by before mapper probe o = tried_to (log.answered before None (λ (reply : log.Sent). reply_in mapper probe.number reply.effects) (sent_of probe) o probe.world)

abbrev pub looped_back : WorldState → ℕ → Sent → Tried Bool
looped_back before mapper probe = record {
  found = returned_in mapper probe.number probe.effects;
  harmed = is_harmed probe.used_up before probe.world;
  world = probe.world;
}

abbrev pub host_try : ℕ → List ℤ → WorldState → Tried (Option ℕ)
host_try mapper walk w = tried_to (log.host_try mapper walk w)

abbrev pub loop_try : ℕ → List ℤ → WorldState → Tried Bool
loop_try mapper walk w = tried_to (log.loop_try mapper walk w)

-- tries up to the first that finds something
abbrev pub tries_of : {A : Type 0} → (A → Bool) → A → (WorldState → Log (log.Tried A)) → ℕ → WorldState → Tried A
tries_of is_found nothing one k w = tried_to (log.tries is_found nothing one k w)

abbrev pub also_harmed : {A : Type 0} → Bool → Tried A → Tried A
also_harmed harmed t = record t { harmed = harmed && t.harmed }

-- what holds of the first try where it found something, and else of it with those after it
pub tries-by : {A : Type 0} (is_found : A → Bool) (nothing : A) (one : WorldState → Log (log.Tried A)) (k : ℕ) (w : WorldState) (P : Tried A → Type 0)
    → (is_found (one w).value.found ≡ true → P (tried_to (one w))) → (is_found (one w).value.found ≡ false → P (also_harmed (one w).value.harmed (tries_of is_found nothing one k (one w).world)))
    → P (tries_of is_found nothing one (suc k) w)
tries-by {A = A} is_found nothing one k w P here there = by (is_found (one w).value.found) refl
  where
    more : log.Tried A → WorldState → Log (log.Tried A)
    more = λ a v. told {A = log.Tried A} {B = log.Tried A} (λ u. record u { harmed = a.harmed && u.harmed }) (log.tries is_found nothing one k v)

    by : (b : Bool) → is_found (one w).value.found ≡ b → P (tried_to (if b then one w else and_do (one w) more))
    by true e = here e
    by false e = there e

abbrev pub host_tries : ℕ → List ℤ → ℕ → WorldState → Tried (Option ℕ)
host_tries mapper walk k w = tries_of is_some None (log.host_try mapper walk) k w

abbrev pub loop_tries : ℕ → List ℤ → ℕ → WorldState → Tried Bool
loop_tries mapper walk k w = tries_of (λ b. b) false (log.loop_try mapper walk) k w

pub record Asked : Type 0 where
  pub answer : Answer
  pub drowned : Bool
  pub world : WorldState

abbrev pub asked_to : Log log.Asked → Asked
asked_to l = record { answer = l.value.answer; drowned = l.value.drowned; world = l.world }

abbrev pub asked_loops : ℕ → Bool → Tried Bool → Asked
asked_loops made harmed t = record { answer = loop_answer t.found; drowned = not t.found && ((harmed || is_changed made t.world) || t.harmed); world = t.world }

abbrev pub asked_hosts : ℕ → ℕ → List ℤ → ℕ → Bool → WorldState → Option ℕ → Asked
asked_hosts made mapper walk k harmed w o = asked_to (log.asked_on made mapper walk k harmed o w)

abbrev pub ask : ℕ → ℕ → ℕ → List ℤ → WorldState → Asked
ask made mapper k walk w = asked_to (log.ask made mapper k walk w)

-- the acknowledgement of a host that was sent a part
abbrev pub acknowledged : WorldState → ℕ → ℕ → ℕ → Sent → Sent → Tried Bool
acknowledged before mapper dst part sent answer = record {
  found = is_acknowledged mapper dst part answer.effects;
  harmed = is_harmed (sent.used_up || answer.used_up) before answer.world;
  world = answer.world;
}

-- what a part's try comes to once the part was sent, where its host answers or doesn't
abbrev pub part_sent_if : WorldState → ℕ → ℕ → ℕ → Sent → Bool → Tried Bool
part_sent_if before mapper dst part sent answers =
    tried_to (log.answered before false (λ (ack : log.Sent). is_acknowledged mapper dst part ack.effects) (sent_of sent) (if answers then Some dst else None) sent.world)

abbrev pub part_sent : WorldState → ℕ → ℕ → ℕ → Sent → Tried Bool
part_sent before mapper dst part sent = part_sent_if before mapper dst part sent (has_staged_answer sent.world dst sent.effects)

abbrev pub part_try : ℕ → ℕ → ℕ → WorldState → Tried Bool
part_try mapper dst part w = tried_to (log.part_try mapper dst part w)

abbrev pub part_tries : ℕ → ℕ → ℕ → ℕ → WorldState → Tried Bool
part_tries mapper dst k part w = tries_of (λ b. b) false (log.part_try mapper dst part) k w

abbrev pub parts_installed : ℕ → ℕ → ℕ → List ℕ → WorldState → Bool × WorldState
parts_installed mapper dst k ps w = ((log.parts mapper dst k ps w).value, (log.parts mapper dst k ps w).world)

-- what holds of the parts after one that was acknowledged, and else of it
pub parts-by : (mapper dst k p : ℕ) (ps : List ℕ) (w : WorldState) (P : Bool × WorldState → Type 0) → ((part_tries mapper dst k p w).found ≡ true → P (parts_installed mapper dst k ps (part_tries mapper dst k p w).world))
    → ((part_tries mapper dst k p w).found ≡ false → P (false, (part_tries mapper dst k p w).world)) → P (parts_installed mapper dst k (p ∷ ps) w)
parts-by mapper dst k p ps w P on off = by t.found refl
  where
    t : Tried Bool
    t = part_tries mapper dst k p w

    came : Bool → Bool × WorldState
    came b = ((if b then log.parts mapper dst k ps t.world else still false t.world).value, (if b then log.parts mapper dst k ps t.world else still false t.world).world)

    by : (b : Bool) → t.found ≡ b → P (came b)
    by true e = on e
    by false e = off e

-- one host, and those after it
abbrev pub host_counted : Bool × WorldState → (WorldState → ℕ × WorldState) → ℕ × WorldState
host_counted r rest = ((if r.0 then 1 else 0) + (rest r.1).0, (rest r.1).1)

abbrev pub hosts_installed : Adoption → ℕ → List ℕ → WorldState → ℕ × WorldState
hosts_installed a k hs w = ((log.hosts a k hs w).value, (log.hosts a k hs w).world)

abbrev pub installed : Adoption → List ℕ → ℕ → WorldState → ℕ × WorldState
installed a hs k w = ((log.install a hs k w).value, (log.install a hs k w).world)
