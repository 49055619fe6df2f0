-- Commands of the network leave how many tokens each port was opened with, and its client.
use Rattle.std.proofs.Common.{◌≡◌, ℕ, true, false, List, [], ◌∷◌, map, Option, Some, None, option_map, IfSome, refl, sym, ◌∙◌, subst, true≢false}
use Rattle.world_defs.specs.Crossed.{leaving}
use Rattle.journal_defs.specs.declared.entry.Entry.{Entry}
use Rattle.std.specs.List.{AllByRecursion}
use Rattle.net_defs.specs.declared.route.Route.{Route}
use Rattle.world_defs.specs.declared.event.Event.{Event}
use Rattle.world_defs.specs.declared.event.Event.TheVariants.{Advance, Lose, Repeat, Hold, Reset, Flip, Pull as PullEvent, Plug as PlugEvent, Revoke as RevokeEvent}
use Rattle.world_defs.specs.Node.{NodeState}
use Rattle.world_defs.specs.World.{WorldState, node_at, adopted_by, adoption_of, addresses}
use Rattle.world_defs.specs.Table.{whole_table}
use Rattle.world_defs.specs.Step.{step}
use Rattle.world_defs.proofs.LogRows.{SettlesBy, AsksBy, all-map, settle-row, asks-row, install-row}
use Rattle.world_defs.specs.Acts.{Happens, acted_all}
use Rattle.run_defs.specs.declared.command.Command.{Command}
use Rattle.run_defs.specs.declared.command.Command.TheVariants.{Begin, Close, Poll, Provide, Send, Step, Pull, Plug}
use Rattle.run_defs.specs.declared.command.StepLine.{StepLine}
use Rattle.run_defs.specs.declared.command.StepLine.TheVariants.{Inject as InjectLine, GiveUp as GiveUpLine, Advance as AdvanceLine, Lose as LoseLine, Repeat as RepeatLine, Hold as HoldLine, Reset as ResetLine, Flip as FlipLine, Expire as ExpireLine, Replay as ReplayLine}
use Rattle.run_defs.specs.Output.{Piece}
use Rattle.run_defs.specs.Session.{SessionState}
use Rattle.run_defs.specs.Deed.{Deed}
use Rattle.run_defs.specs.Mapped.{asks_of}
use Rattle.run_defs.specs.Outcome.{Kind, OneEvent, kind_of, event_of, set_of, installation}
use Rattle.run_defs.specs.Run.{IsDeed, Does}
use Rattle.run_defs.specs.Run.IsDeed.{determined, maps, circuits, routes}
use Rattle.run_defs.proofs.Doing.{does-world}
use Rattle.run_defs.proofs.ByKind.{InDeed, EventsOf, IsLaw, by-kind}
use Rattle.run_defs.proofs.ByKind.EventsOf.{one as single, settles, revokes}
use Rattle.judge_laws.specs.Commands.{is_of_network}
use Rattle.judge_laws.proofs.Counts.{ArePortsKept, node-same, one-kept, kept-same, is_call, event-kept}

abbrev IsOther : Event → Type 0
IsOther e = is_call e ≡ false

kept-self : (w : WorldState) → ArePortsKept w w
kept-self w = kept-same w w refl refl

kept-both : (u v w : WorldState) → ArePortsKept u v → ArePortsKept v w → ArePortsKept u w
kept-both u v w a b = record { counted = λ h port. b.counted h port ∙ a.counted h port; client = λ h port. b.client h port ∙ a.client h port }

-- installations
adopted-kept : (w : WorldState) (mapper : ℕ) (rs : List Route) → ArePortsKept w (adopted_by w mapper rs)
adopted-kept w mapper rs =
    let n : NodeState = record (node_at w mapper) { table = whole_table rs mapper (adoption_of w mapper rs).epoch } in
    one-kept w (adopted_by w mapper rs) mapper n refl refl (node-same (node_at w mapper) n refl)

-- events that are no calls
events-kept : (w : WorldState) (es : List Event) → AllByRecursion IsOther es → ArePortsKept w (acted_all w (map Happens es))
events-kept w [] all = kept-self w
events-kept w (e ∷ es) all = let v : WorldState = (step w e).1 in kept-both w v (acted_all v (map Happens es)) (event-kept w e all.0) (events-kept v es all.1)

-- single events
channel-other : (o : Option ℕ) (event : ℕ → Event) → ((c : ℕ) → IsOther (event c)) → IfSome (option_map event o) IsOther
channel-other None event other = tt
channel-other (Some c) event other = other c

event-other : (w : WorldState) (line : StepLine) → IfSome (event_of w line) IsOther
event-other w (InjectLine h) = refl
event-other w (GiveUpLine h) = refl
event-other w (AdvanceLine e) = channel-other (leaving w.links.cables e) Advance (λ c. refl)
event-other w (LoseLine e) = channel-other (leaving w.links.cables e) Lose (λ c. refl)
event-other w (RepeatLine e) = channel-other (leaving w.links.cables e) Repeat (λ c. refl)
event-other w (HoldLine e) = channel-other (leaving w.links.cables e) Hold (λ c. refl)
event-other w (ResetLine e) = channel-other (leaving w.links.cables e) Reset (λ c. refl)
event-other w (FlipLine e bit pattern) = channel-other (leaving w.links.cables e) (λ c. Flip c bit pattern) (λ c. refl)
event-other w (ExpireLine h peer) = refl
event-other w (ReplayLine serial) = refl

-- the kinds of commands of the network
abbrev IsNetworkKind : Kind → Type 0
IsNetworkKind (OneEvent event print) = (w : WorldState) (e : Event) → event w ≡ Some e → IsOther e
IsNetworkKind _ = Unit {0}

some-other : (o : Option Event) (e : Event) → IfSome o IsOther → o ≡ Some e → IsOther e
some-other o e other is = subst (λ x. IfSome x IsOther) is other

network-kind : (c : Command) → is_of_network c ≡ true → IsNetworkKind (kind_of c)
network-kind (Begin h port sends recvs) kind = absurd (true≢false (sym kind))
network-kind (Close h port) kind = absurd (true≢false (sym kind))
network-kind (Poll h port) kind = absurd (true≢false (sym kind))
network-kind (Provide h port size prio) kind = absurd (true≢false (sym kind))
network-kind (Send h port dest dport prio len seed) kind = absurd (true≢false (sym kind))
network-kind (Step line) kind = λ w e is. some-other (event_of w line) e (event-other w line) is
network-kind (Pull at) kind = λ w e is. some-other (Some (PullEvent at)) e refl is
network-kind (Plug a b) kind = λ w e is. some-other (Some (PlugEvent a b)) e refl is
network-kind c kind = tt

other-settles : SettlesBy IsOther
other-settles = record { clears = record { advance = λ c. refl; reset = λ c. refl }; inject = λ h. refl; replay = λ x. refl; expire = λ h peer. refl; give_up = λ h. refl }

other-asks : AsksBy IsOther
other-asks = record { advance = λ c. refl; inject = λ h. refl; give_up = λ h. refl }

kind-others : (s : SessionState) {k : Kind} {es : List Event} → IsNetworkKind k → EventsOf s k es → AllByRecursion IsOther es
kind-others s of_k (single e is) = (of_k s.world e is, tt)
kind-others s of_k settles = (settle-row other-settles s.world).kinds
kind-others s of_k revokes = all-map IsOther RevokeEvent (λ h. refl) (addresses s.world)

abbrev KeptBy : SessionState → Deed → Type 0
KeptBy s d = ArePortsKept s.world (acted_all s.world d.acts)

kept-law : (s : SessionState) (k : Kind) → IsNetworkKind k → IsLaw (KeptBy s) s k
kept-law s k of_k = record {
  reads = λ ls. kept-self s.world;
  happens = λ es ls are. events-kept s.world es (kind-others s of_k are);
  plans = λ ahead fault is. kept-same s.world _ refl refl;
  installs = λ l tries is are may.
      let w : WorldState = adopted_by s.world l.mapper l.routes in
      let es : List Event = (installation s.world l tries).events in
      kept-both s.world w (acted_all w (map Happens es)) (adopted-kept s.world l.mapper l.routes) (events-kept w es (install-row other-asks (λ dst part. refl) (set_of s.world l) l.hosts tries w).kinds);
  restarts = λ e is. kept-self s.world;
}

deed-kept : {s : SessionState} {c : Command} {d : Deed} → IsDeed s c d → is_of_network c ≡ true → KeptBy s d
deed-kept {s = s} {c = c} (determined e) kind = subst (InDeed (KeptBy s)) e (by-kind (KeptBy s) s (kind_of c) (kept-law s (kind_of c) (network-kind c kind)))
deed-kept {s = s} (maps {host = host} {tries = tries} after j m words idle made is) kind =
    let row = asks-row other-asks (λ h walk looped. refl) s.world.links.cables.changes host tries (map (λ (x : Entry). x.walk) j) s.world in
    subst (KeptBy s) (sym is) (events-kept s.world (asks_of host tries j s.world).events row.kinds)
deed-kept {s = s} (circuits out told is) kind = subst (KeptBy s) (sym is) (kept-self s.world)
deed-kept {s = s} (routes l found complete are is) kind = subst (KeptBy s) (sym is) (kept-self s.world)

pub does-kept : {s next : SessionState} {c : Command} {out : List Piece} → Does s c out next → is_of_network c ≡ true → ArePortsKept s.world next.world
does-kept {s = s} d kind = subst (ArePortsKept s.world) (sym (does-world d)) (deed-kept d.is kind)
