-- What holds from a world to the next at each send of an ask holds along the ask.
use Rattle.std.proofs.Common.{◌≡◌, ℕ, zero, suc, Bool, true, false, ℤ, List, [], ◌∷◌, map, Option, Some, None, is_some, refl, sym, ap, ◌∙◌, subst, if◌then◌else◌}
use Rattle.world_defs.specs.Links.{LinkState, is_idle}
use Rattle.world_defs.specs.declared.event.Event.TheVariants.{Ask, GiveUp}
use Rattle.world_defs.specs.declared.effect.Effect.{Effect}
use Rattle.world_defs.specs.Node.{Outgoing, has_staged, given_up}
use Rattle.world_defs.specs.World.{WorldState, node_at, with_node, addresses}
use Rattle.world_defs.specs.Step.{asked, gave_up, step, after_all}
use Rattle.world_defs.specs.Log.{Log}
use Rattle.world_defs.specs.Logs as log
use Rattle.world_defs.proofs.LogRows.{ask-row}
use Rattle.world_defs.proofs.LogViews.{tries-by, Tried, Sent, sends, heard_by, host_try, loop_try, tries_of, asked_hosts, host_tries, loop_tries, ask}
use Rattle.world_defs.specs.Asking.{probed_host, all_given_up}
use Rattle.ask_laws.specs.Row.{IsOfAsk, AskIsEvents, AskEndsIdle}
use Rattle.ask_laws.proofs.Lone.{bare, IsBare, is-bare, bare-idle, idle-bare}
use Rattle.ask_laws.proofs.Sends.{Flight, Sending, sending}

-- a relation from worlds to worlds that each part of an ask is of
pub record Asks (R : WorldState → WorldState → Type 0) : Type 0 where
  pub same : (w : WorldState) → R w w
  pub both : (u v w : WorldState) → R u v → R v w → R u w
  pub give_up : (w : WorldState) (h : ℕ) → R w (step w (GiveUp h)).1
  pub stage : (w : WorldState) (h : ℕ) (walk : List ℤ) (looped : Bool) → R w (step w (Ask h walk looped)).1
  pub send : (w : WorldState) (h : ℕ) → R w (sends w h).world

pub given_up-of : (R : WorldState → WorldState → Type 0) → Asks R → (w : WorldState) (hs : List ℕ) → R w (after_all w (map GiveUp hs))
given_up-of R k w [] = k.same w
given_up-of R k w (h ∷ hs) = let next : WorldState = (step w (GiveUp h)).1 in k.both w next (after_all next (map GiveUp hs)) (k.give_up w h) (given_up-of R k next hs)

pub host_try-of : (R : WorldState → WorldState → Type 0) → Asks R → (mapper : ℕ) (walk : List ℤ) (w : WorldState) → R w (host_try mapper walk w).world
unfolding log.host_try
host_try-of R k mapper walk w = by (probed_host probe.effects)
  where
    staged : WorldState
    staged = (step w (Ask mapper walk false)).1

    probe : Sent
    probe = sends staged mapper

    first : R w probe.world
    first = k.both w staged probe.world (k.stage w mapper walk false) (k.send staged mapper)

    by : (o : Option ℕ) → R w (heard_by w mapper probe o).world
    by None = first
    by (Some h) = k.both w probe.world (sends probe.world h).world first (k.send probe.world h)

pub loop_try-of : (R : WorldState → WorldState → Type 0) → Asks R → (mapper : ℕ) (walk : List ℤ) (w : WorldState) → R w (loop_try mapper walk w).world
unfolding log.loop_try
loop_try-of R k mapper walk w =
    let staged : WorldState = (step w (Ask mapper walk true)).1 in
    k.both w staged (sends staged mapper).world (k.stage w mapper walk true) (k.send staged mapper)

pub tries-of : {A : Type 0} (R : WorldState → WorldState → Type 0) → Asks R → (is_found : A → Bool) (nothing : A) (one : WorldState → Log (log.Tried A)) → ((w : WorldState) → R w (one w).world) → (tries : ℕ) (w : WorldState) → R w (tries_of is_found nothing one tries w).world
tries-of R k is_found nothing one each zero w = k.same w
tries-of R k is_found nothing one each (suc n) w =
    let mid : WorldState = (one w).world in
    tries-by is_found nothing one n w (λ t. R w t.world) (λ e. each w) (λ e. k.both w mid (tries_of is_found nothing one n mid).world (each w) (tries-of R k is_found nothing one each n mid))

pub ask-of : (R : WorldState → WorldState → Type 0) → Asks R → (w : WorldState) (made mapper tries : ℕ) (walk : List ℤ) → R w (ask made mapper tries walk w).world
unfolding log.ask
ask-of R k w made mapper tries walk = by hosts.found
  where
    start : WorldState
    start = all_given_up w

    hosts : Tried (Option ℕ)
    hosts = host_tries mapper walk tries start

    first : R w hosts.world
    first = k.both w start hosts.world (given_up-of R k w (addresses w)) (tries-of R k is_some None (log.host_try mapper walk) (host_try-of R k mapper walk) tries start)

    by : (o : Option ℕ) → R w (asked_hosts made mapper walk tries hosts.harmed hosts.world o).world
    by (Some h) = first
    by None = k.both w hosts.world (loop_tries mapper walk tries hosts.world).world first (tries-of R k (λ b. b) false (log.loop_try mapper walk) (loop_try-of R k mapper walk) tries hosts.world)

-- events in a row
pub ask-events : AskIsEvents
ask-events w made mapper tries walk = ask-row {Q = IsOfAsk} (record { advance = λ c. tt; inject = λ h. tt; give_up = λ h. tt }) (λ h walk looped. tt) made mapper tries walk w

-- idle links
bare-again : (l s : LinkState) → l ≡ bare s → IsBare l
bare-again l s e = subst IsBare (sym e) refl

flight-bare : (w : WorldState) (h c : ℕ) (out : Outgoing) (s : Sent) → Flight w h c out s → IsBare s.world.links
flight-bare w h c out s (Flight.lands u v m o k same e g l) = bare-again s.world.links v.links l.links
flight-bare w h c out s (Flight.cut_off u v o k more e b gone heard same) = subst (λ t. IsBare t.links) (sym same) b
flight-bare w h c out s (Flight.cut_on u v m o k more e stays g l) = bare-again s.world.links v.links l.links
flight-bare w h c out s (Flight.lost u v o k e p b heard same) = subst (λ t. IsBare t.links) (sym same) b
flight-bare w h c out s (Flight.marred u v wire m o k e p d g l) = bare-again s.world.links v.links l.links

sending-bare : (w : WorldState) (h : ℕ) (s : Sent) → IsBare w.links → Sending w h s → IsBare s.world.links
sending-bare w h s e (Sending.unsent why n heard same) = subst (λ t. IsBare t.links) (sym same) e
sending-bare w h s e (Sending.sent c out at is low used n f) = flight-bare w h c out s f

pub sends-bare : (w : WorldState) (h : ℕ) → IsBare w.links → IsBare (sends w h).world.links
sends-bare w h e = sending-bare w h (sends w h) e (sending w h e)

given_up-links : (w : WorldState) (h : ℕ) → (step w (GiveUp h)).1.links ≡ w.links
unfolding gave_up
given_up-links w h = by (has_staged (node_at w h))
  where
    by : (t : Bool) → (if t then (let r : Effect × WorldState = (Effect.GaveUp, with_node w h (given_up (node_at w h))) in r) else (Effect.Idle, w)).1.links ≡ w.links
    by true = refl
    by false = refl

staged-links : (w : WorldState) (h : ℕ) (walk : List ℤ) (looped : Bool) → (step w (Ask h walk looped)).1.links ≡ w.links
unfolding asked
staged-links w h walk looped = refl

pub asks-bare : Asks (λ w v. IsBare w.links → IsBare v.links)
asks-bare = record {
  same = λ w e. e;
  both = λ u v w f g e. g (f e);
  give_up = λ w h e. subst IsBare (sym (given_up-links w h)) e;
  stage = λ w h walk looped e. subst IsBare (sym (staged-links w h walk looped)) e;
  send = sends-bare;
}

pub ask-idle : AskEndsIdle
ask-idle w made mapper tries walk is idle =
    let l : LinkState = (ask made mapper tries walk w).world.links in
    let e : IsBare l = ask-of (λ w v. IsBare w.links → IsBare v.links) asks-bare w made mapper tries walk (idle-bare w.links is.links.slots idle) in
    ap is_idle (is-bare l e) ∙ bare-idle l
