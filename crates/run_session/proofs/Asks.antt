-- The asks of a journal, one after another, are what the command `map` does to its world.
use Rattle.std.proofs.Common.{◌≡◌, ◌<◌, ◌≤◌, ◌+◌, ◌-◌, ◌^◌, ℕ, ℤ, Bool, true, false, List, [], ◌∷◌, map, length, min, refl, sym, ◌∙◌, ap, subst, arith, if◌then◌else◌}
use Rattle.fab_outer.specs.Fault.{one_more}
use Rattle.journal_defs.specs.declared.entry.Entry.{Entry}
use Rattle.world_defs.specs.History.{fabric_at}
use Rattle.map_defs.specs.NetMap.{NetMap}
use Rattle.map_canon.specs.Printing.{AreOfFabric}
use Rattle.world_defs.specs.World.{WorldState, fabric_of}
use Rattle.world_defs.specs.declared.event.Event.{Event}
use Rattle.world_defs.specs.Step.{step, after_all}
use Rattle.world_defs.specs.EightBits.{IsByteEvent}
use Rattle.world_laws.proofs.Counting.{step-counts}
use Rattle.map_making.specs.declared.making.MadeMap.{MadeMap}
use Rattle.map_making.specs.Made.{IsMade}
use Rattle.run_session.specs.declared.mapping.MapOrder.{MapOrder}
use Rattle.run_session.specs.Kept.{GoesOn}
use Rattle.run_session.specs.Told.{IsMadeOver}
use Rattle.run_session.proofs.Going.{goes-events, goes-way, goes-on, of-fabric}
use Rattle.run_defs.specs.Mapped.{IsCalled}
use Rattle.mapper.specs.Asks.{AreAsked}
use Rattle.mapper.specs.Growths.{StopsShort}
use Rattle.mapper.specs.Growths.StopsShort.{between_asks, within_ask}
use Rattle.world_defs.specs.Log.{Log}
use Rattle.world_defs.specs.Logs as log
use Rattle.world_defs.proofs.LogRows.{ask-row, asks-row, byte_asks}
use Rattle.world_defs.specs.Row.{IsPartWay}
use Rattle.promise_laws.specs.CutShort.{IsBegunMap}
use Rattle.promise_laws.specs.CutShort.IsBegunMap.{stopped_between, stopped_within}
use Rattle.world_asking.specs.Prober.{WorldAsking, IsAsked, IsCutAsk, next_ask, after_ask}

-- What asks in a row came to: their answers, how many drowned, and the world then.
pub record Came (s : WorldAsking) (j : List Entry) (t : WorldAsking) : Type 0 where
  pub drowned : ℕ
  pub asked : (log.asks s.made s.host s.tries (map (λ e. e.walk) j) s.world).value ≡ record { entries = j; drowned = drowned }
  pub led : t.world ≡ (log.asks s.made s.host s.tries (map (λ e. e.walk) j) s.world).world
  pub few : drowned ≤ length j
  pub counted : t.drowned ≡ min (s.drowned + drowned) (2 ^ 64 - 1)
  pub made : t.made ≡ s.made
  pub host : t.host ≡ s.host
  pub tries : t.tries ≡ s.tries
  pub rises : s.world.injected ≤ t.world.injected

-- no event lowers the count of injections, nor does an ask
events-rise : (w : WorldState) (es : List Event) → w.injected ≤ (after_all w es).injected
events-rise w [] = omega arith
events-rise w (e ∷ es) = let a = (step-counts w e).injected in let b = events-rise (step w e).1 es in omega (arith, a, b)

ask-rises : (made : ℕ) (w : WorldState) (mapper tries : ℕ) (walk : List ℤ) → w.injected ≤ (log.ask made mapper tries walk w).world.injected
ask-rises made w mapper tries walk =
    let l : Log log.Asked = log.ask made mapper tries walk w in
    let e : l.world.injected ≡ (after_all w l.events).injected = ap (λ v. v.injected) (ask-row {Q = IsByteEvent} byte_asks (λ h wk looped. tt) made mapper tries walk w).there in
    let k = events-rise w l.events in
    omega (arith, e, k)

-- a test as a count of one or none
abbrev one_if : Bool → ℕ
one_if b = if b then 1 else 0

counted-on : (b : Bool) (before between after more : ℕ) → between ≡ (if b then one_more before else before) → after ≡ min (between + more) (2 ^ 64 - 1) → after ≡ min (before + (one_if b + more)) (2 ^ 64 - 1)
counted-on true before between after more e f = omega (arith, e, f)
counted-on false before between after more e f = omega (arith, e, f)

one_if-few : (b : Bool) → one_if b ≤ 1
one_if-few true = omega arith
one_if-few false = omega arith

pub came-from : (s : WorldAsking) (j : List Entry) (t : WorldAsking) → s.drowned < 2 ^ 64 → AreAsked WorldAsking IsAsked s j t → Came s j t
came-from s [] t low same = record {
  drowned = 0;
  asked = refl;
  led = sym (ap (λ u. u.world) same);
  few = omega arith;
  counted = let e : t.drowned ≡ s.drowned = sym (ap (λ u. u.drowned) same) in omega (arith, low, e);
  made = sym (ap (λ u. u.made) same);
  host = sym (ap (λ u. u.host) same);
  tries = sym (ap (λ u. u.tries) same);
  rises = let e : t.world.injected ≡ s.world.injected = sym (ap (λ u. u.world.injected) same) in omega (arith, e);
}
came-from s (e ∷ rest) t low (between, is, more) =
    let l : Log log.Asked = next_ask s e.walk in
    let a : log.Asked = l.value in
    let at : between ≡ after_ask s e.walk = is.led in
    let count : between.drowned ≡ (if a.drowned then one_more s.drowned else s.drowned) = ap (λ u. u.drowned) at in
    let below : between.drowned < 2 ^ 64 = count-below a.drowned s.drowned between.drowned low count in
    let r = came-from between rest t below more in
    let few = r.few in
    let one = one_if-few a.drowned in
    let first = ask-rises s.made s.world s.host s.tries e.walk in
    let here : between.world.injected ≡ l.world.injected = ap (λ u. u.world.injected) at in
    let later = r.rises in
    let rest_is : (log.asks s.made s.host s.tries (map (λ x. x.walk) rest) l.world).value ≡ record { entries = rest; drowned = r.drowned } =
    ap (λ (u : WorldAsking). (log.asks u.made u.host u.tries (map (λ x. x.walk) rest) u.world).value) (sym at) ∙ r.asked in
    record {
      drowned = one_if a.drowned + r.drowned;
      asked = ap (λ (x : log.AskedAll). record { entries = record { walk = e.walk; answer = a.answer } ∷ x.entries; drowned = one_if a.drowned + x.drowned }) rest_is
          ∙ ap (λ y. record { entries = record { walk = e.walk; answer = y } ∷ rest; drowned = one_if a.drowned + r.drowned }) (sym is.told);
      led = r.led ∙ ap (λ (u : WorldAsking). (log.asks u.made u.host u.tries (map (λ x. x.walk) rest) u.world).world) at;
      few = omega (arith, few, one);
      counted = counted-on a.drowned s.drowned between.drowned t.drowned r.drowned count r.counted;
      made = r.made ∙ ap (λ u. u.made) at;
      host = r.host ∙ ap (λ u. u.host) at;
      tries = r.tries ∙ ap (λ u. u.tries) at;
      rises = omega (arith, first, here, later);
    }
  where
    count-below : (b : Bool) (before between : ℕ) → before < 2 ^ 64 → between ≡ (if b then one_more before else before) → between < 2 ^ 64
    count-below true before between low e = omega (arith, low, e)
    count-below false before between low e = omega (arith, low, e)

-- a map that was made by a mapper over a world is made over that world
pub made-over : (s : WorldAsking) (depth : ℕ) (m : MadeMap) (t : WorldAsking) (packets : ℕ) → s.made ≡ s.world.links.cables.changes → s.drowned ≡ 0 → m.asks < 2 ^ 64 → IsMade WorldAsking IsAsked s.host depth s t.drowned m t
    → packets ≡ t.world.injected - s.world.injected → IsMadeOver (record { host = s.host; depth = depth; tries = s.tries }) s.world t.world m packets
made-over s depth m t packets new none few k p =
    let r = came-from s k.journal t (omega (arith, none)) k.led in
    let counted = r.counted in
    let most = r.few in
    let asks = k.asks in
    let e : t.drowned ≡ r.drowned = omega (arith, none, few, counted, most, asks) in
    record {
      journal = k.journal;
      mapped = record {
        drowned = r.drowned;
        asked = ap (λ made. (log.asks made s.host s.tries (map (λ x. x.walk) k.journal) s.world).value) (sym new) ∙ r.asked;
        led = r.led ∙ ap (λ made. (log.asks made s.host s.tries (map (λ x. x.walk) k.journal) s.world).world) new;
        grown = k.grown;
        within = k.within;
        beyond = k.beyond;
        called = subst (λ d. IsCalled s.host k.journal d m.words) e k.called;
      };
      asks = asks;
      injected = p;
    }

-- the asks of that map never lowered the count of injections
pub made-rises : (s : WorldAsking) (depth : ℕ) (m : MadeMap) (t : WorldAsking) → s.drowned ≡ 0 → IsMade WorldAsking IsAsked s.host depth s t.drowned m t → s.world.injected ≤ t.world.injected
made-rises s depth m t none k = (came-from s k.journal t (omega (arith, none)) k.led).rises

-- the mapper that a world is given to
abbrev given : WorldState → MapOrder → WorldAsking
given w order = record { world = w; made = w.links.cables.changes; host = order.host; tries = order.tries; drowned = 0 }

-- the same for it, and the counts of injections before and after it
pub made-from : (w : WorldState) (order : MapOrder) (s t : WorldAsking) (m : MadeMap) (after : WorldState) (b a : ℕ) → s ≡ given w order → after ≡ t.world
    → b ≡ w.injected → a ≡ after.injected → m.asks < 2 ^ 64 → IsMade WorldAsking IsAsked s.host order.depth s t.drowned m t → IsMadeOver order w after m (a - b)
made-from w order s t m after b a e f g h few k =
    let p : WorldAsking = given w order in
    let k0 : IsMade WorldAsking IsAsked order.host order.depth p t.drowned m t = subst (λ (u : WorldAsking). IsMade WorldAsking IsAsked u.host order.depth u t.drowned m t) e k in
    let packets : a - b ≡ t.world.injected - w.injected = ap (λ x. x - b) (h ∙ ap (λ v. v.injected) f) ∙ ap (λ y. t.world.injected - y) g in
    subst (λ v. IsMadeOver order w v m (a - b)) (sym f) (made-over p order.depth m t (a - b) refl refl few k0 packets)

pub rises-from : (w : WorldState) (order : MapOrder) (s t : WorldAsking) (m : MadeMap) (after : WorldState) (b a : ℕ) → s ≡ given w order → after ≡ t.world
    → b ≡ w.injected → a ≡ after.injected → IsMade WorldAsking IsAsked s.host order.depth s t.drowned m t → b ≤ a
rises-from w order s t m after b a e f g h k =
    let p : WorldAsking = given w order in
    let k0 : IsMade WorldAsking IsAsked order.host order.depth p t.drowned m t = subst (λ (u : WorldAsking). IsMade WorldAsking IsAsked u.host order.depth u t.drowned m t) e k in
    let r : w.injected ≤ t.world.injected = made-rises p order.depth m t refl k0 in
    let i : after.injected ≡ t.world.injected = ap (λ v. v.injected) f in
    omega (arith, r, i, g, h)

-- its hosts are those of the world's fabric
pub of-given : (w : WorldState) (order : MapOrder) (s : WorldAsking) (m : NetMap) → s ≡ given w order → AreOfFabric (fabric_at s.world.links.cables s.made) m → AreOfFabric (fabric_of w) m
of-given w order s m e are = of-fabric (fabric_at s.world.links.cables s.made) (fabric_of w) m (ap (λ (u : WorldAsking). u.world.links.cables.hosts) e) are

-- the world goes on by its asks
asks-go : (w v : WorldState) (host tries : ℕ) (j : List Entry) → v ≡ (log.asks w.links.cables.changes host tries (map (λ e. e.walk) j) w).world → GoesOn w v
asks-go w v host tries j led =
    let l : Log log.AskedAll = log.asks w.links.cables.changes host tries (map (λ (e : Entry). e.walk) j) w in
    let there : l.world ≡ after_all w l.events = (asks-row {Q = IsByteEvent} byte_asks (λ h wk looped. tt) w.links.cables.changes host tries (map (λ (e : Entry). e.walk) j) w).there in
    subst (GoesOn w) (sym (led ∙ there)) (goes-events w l.events)

pub made-goes : (w : WorldState) (order : MapOrder) (v : WorldState) (m : MadeMap) (packets : ℕ) → IsMadeOver order w v m packets → GoesOn w v
made-goes w order v m packets over = asks-go w v order.host order.tries over.journal over.mapped.led

pub begun-goes : (host depth tries : ℕ) (w v : WorldState) → IsBegunMap host depth tries w v → GoesOn w v
begun-goes host depth tries w v (stopped_between j growing kept asked led) = asks-go w v host tries j led
begun-goes host depth tries w v (stopped_within j x between growing kept asked led next way) =
    goes-on w between v (asks-go w between host tries j led) (goes-way between v (log.ask w.links.cables.changes host tries x between).events way)

-- a mapper that stopped short over a world has begun a map there
begun-over : (s t : WorldAsking) (depth : ℕ) → s.made ≡ s.world.links.cables.changes → s.drowned ≡ 0 → StopsShort WorldAsking IsAsked IsCutAsk s.host depth [] s t → IsBegunMap s.host depth s.tries s.world t.world
begun-over s t depth new none (between_asks more growing kept led) =
    let r = came-from s more t (omega (arith, none)) led in
    let asks : ℕ → Log log.AskedAll = λ made. log.asks made s.host s.tries (map (λ (e : Entry). e.walk) more) s.world in
    stopped_between more growing kept (ap (λ made. (asks made).value.entries) (sym new) ∙ ap (λ (x : log.AskedAll). x.entries) r.asked) (r.led ∙ ap (λ made. (asks made).world) new)
begun-over s t depth new none (within_ask more x between growing kept led ask cut) =
    let r = came-from s more between (omega (arith, none)) led in
    let asks : ℕ → Log log.AskedAll = λ made. log.asks made s.host s.tries (map (λ (e : Entry). e.walk) more) s.world in
    let way : IsPartWay between.world (log.ask s.world.links.cables.changes s.host s.tries x between.world).events t.world =
    subst (λ made. IsPartWay between.world (log.ask made s.host s.tries x between.world).events t.world) (r.made ∙ new)
    (subst (λ h. IsPartWay between.world (log.ask between.made h s.tries x between.world).events t.world) r.host
    (subst (λ k. IsPartWay between.world (log.ask between.made between.host k x between.world).events t.world) r.tries cut.way)) in
    stopped_within more x between.world growing kept (ap (λ made. (asks made).value.entries) (sym new) ∙ ap (λ (y : log.AskedAll). y.entries) r.asked) (r.led ∙ ap (λ made. (asks made).world) new) ask way

pub begun-from : (w : WorldState) (order : MapOrder) (s t : WorldAsking) (after : WorldState) → s ≡ given w order → after ≡ t.world
    → StopsShort WorldAsking IsAsked IsCutAsk s.host order.depth [] s t → IsBegunMap order.host order.depth order.tries w after
begun-from w order s t after e f k =
    let p : WorldAsking = given w order in
    let k0 : StopsShort WorldAsking IsAsked IsCutAsk order.host order.depth [] p t = subst (λ (u : WorldAsking). StopsShort WorldAsking IsAsked IsCutAsk u.host order.depth [] u t) e k in
    subst (IsBegunMap order.host order.depth order.tries w) (sym f) (begun-over p t order.depth refl refl k0)
