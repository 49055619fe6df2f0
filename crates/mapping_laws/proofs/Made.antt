-- What a mapping comes to: the laws.
use Rattle.std.proofs.Common.{◌≡◌, ◌<◌, ◌≤◌, ◌+◌, ℕ, Bool, true, false, List, [], ◌∷◌, ◌++◌, map, length, nat_eq, nat_le, cond, ◌⊎◌, inl, inr, Some, None, refl, sym, ap, ◌∙◌, subst, arith, length-append}
use Rattle.std.specs.List.{AllByRecursion}
use Rattle.std.specs.Map.{lookup}
use Rattle.std.proofs.lemmas.Bool.Decides.{nat_tests}
use Rattle.std.proofs.lemmas.List.{length-map}
use Rattle.net_defs.specs.declared.vertex.Vertex.TheVariants.{Host}
use Rattle.net_defs.specs.Network.{Network, has_vertex}
use Rattle.net_defs.specs.Turn.{IsTurn}
use Rattle.net_defs.proofs.Distinct.{all-weaker}
use Rattle.journal_defs.specs.declared.entry.Entry.{Entry}
use Rattle.journal_defs.specs.Walks.{IsOnward}
use Rattle.journal_defs.specs.Tree.{reached}
use Rattle.journal_defs.specs.Growth.{IsGrown, IsGrowing, IsEndedByDepth, IsEndedAtLimit, IsClosed}
use Rattle.journal_defs.specs.Growth.IsGrowing.{nothing, more}
use Rattle.journal_defs.proofs.Members.{IsMember, all-from-members, all-map}
use Rattle.fabric_map.specs.Growing.{empty_map}
use Rattle.map_defs.specs.NetMap.{NetMap, IsMap, IsConnected}
use Rattle.map_defs.specs.Core.{core_of}
use Rattle.map_defs.specs.Sameness.{IsMapOfPart}
use Rattle.map_defs.proofs.Sameness.{same_map_is_right}
use Rattle.map_laws.proofs.Asks.{growing-tree, push-parts, not_empty}
use Rattle.map_laws.proofs.Near.{are-short, few-turns, onward-walk}
use Rattle.map_laws.proofs.Few.{asks_are_few, member-asked}
use Rattle.map_laws.proofs.Depth.{depth_suffices}
use Rattle.map_laws.proofs.Alike.{marks_do_not_matter}
use Rattle.map_laws.proofs.Assembly.{closed_map_is_right}
use Rattle.map_laws.proofs.Connected.{quotient_is_connected}
use Rattle.map_laws.proofs.Marked.{marked_map_is_map}
use Rattle.map_laws.proofs.Ruled.{quotient_is_map}
use Rattle.world_defs.specs.declared.fault.Fault.{Fault}
use Rattle.world_defs.specs.declared.wire.Wire.{Wire}
use Rattle.world_defs.specs.History.{IsDated, fabric_at}
use Rattle.world_defs.proofs.Now.{last_is_now, now_is_fabric}
use Rattle.journal_defs.specs.Truth.{IsTrueJournal, IsTrueWhereFound}
use Rattle.world_defs.specs.World.{WorldState, fabric_of}
use Rattle.ask_laws.specs.Premises.{CanAsk}
use Rattle.world_defs.specs.Log.{Log}
use Rattle.world_defs.specs.Logs as log
use Rattle.run_defs.specs.Mapped.{IsMapped, IsCalled}
use Rattle.run_defs.specs.Mapped.IsCalled.{too_many_nodes, too_shallow, doubted, right}
use Rattle.run_defs.specs.declared.line.MapWords.{MapWords}
use Rattle.run_defs.specs.declared.line.MapWords.TheVariants.{Complete, Doubtful}
use Rattle.mapping_laws.specs.Laws.{CanMap, FoundIsThere, UndrownedIsTrue, MadeMapIsMap, MadeMapIsConnected, MadeMapIsRight, MappingKeeps, DeepMapIsComplete, DoubtfulWasHarmed}
use Rattle.mapping_laws.proofs.Asks.{IsCarried, AreAsked, asks-so}

-- the walks of a grown journal are carried
pub carried : (host depth : ℕ) (j : List Entry) → depth ≤ 65 → IsGrowing host depth j → AllByRecursion IsCarried (map (λ e. e.walk) j)
carried host depth j low g = all-map IsCarried (λ (e : Entry). e.walk) j (all-from-members (λ (e : Entry). IsCarried e.walk) j each)
  where
    each : (e : Entry) → IsMember e j → IsCarried e.walk
    each e m =
        let tree = growing-tree host depth j g in
        let asked = member-asked j e m in
        let few : length e.walk ≤ 64 = few-turns j e.walk depth 64 tree (are-short host depth j g) low asked in
        record { turns = all-weaker IsOnward IsTurn e.walk (λ t o. o.0) (onward-walk j 64 e.walk tree asked few); few = few }

-- no cable was plugged after the last change
dated-last : (changes : ℕ) (ws : List Wire) → AllByRecursion (IsDated changes) ws → AllByRecursion (λ x. nat_le x.plugged changes ≡ true) ws
dated-last changes [] all = tt
dated-last changes (w ∷ ws) all = let low = all.0.plugged in (grind (arith, nat_tests), dated-last changes ws all.1)

pub start : (host depth : ℕ) (w : WorldState) → CanMap host depth w → CanAsk w.links.cables.changes w host []
start host depth w can = record {
  stood = record { history = can.history; made = omega arith; unplugged = dated-last w.links.cables.changes w.links.cables.wires can.history.dated };
  world = can.world;
  idle = can.idle;
  is_host = can.is_host;
  turns = tt;
  few_turns = omega arith;
  byte_flips = can.byte_flips;
}

module _ (host depth tries : ℕ) (before after : WorldState) (j : List Entry) (m : NetMap) (words : MapWords) (can : CanMap host depth before) (made : IsMapped host depth tries before after j m words) where
  abbrev since : ℕ
  since = before.links.cables.changes

  abbrev came : Log log.AskedAll
  came = record { value = record { entries = j; drowned = made.drowned }; events = (log.asks since host tries (map (λ e. e.walk) j) before).events; world = after }

  -- what the mapping's asks came to
  asked-so : AreAsked since host tries before (map (λ e. e.walk) j) came
  asked-so =
      subst (AreAsked since host tries before (map (λ e. e.walk) j)) (λ i. record { value = made.asked i; events = (log.asks since host tries (map (λ e. e.walk) j) before).events; world = sym made.led i })
      (asks-so since host tries (map (λ e. e.walk) j) before (start host depth before can) (carried host depth j can.shallow made.grown.growing))

  -- the fabric that stood then is the one that stands before
  then_is : fabric_at before.links.cables since ≡ fabric_of before
  then_is = last_is_now before.links.cables since can.history (omega arith)

pub found_is_there : FoundIsThere
found_is_there host depth tries before after j m words can made = subst (λ n. IsTrueWhereFound n host j) (then_is host depth tries before after j m words can made) (asked-so host depth tries before after j m words can made).found

pub undrowned_is_true : UndrownedIsTrue
undrowned_is_true host depth tries before after j m words can made none = subst (λ n. IsTrueJournal n host j) (then_is host depth tries before after j m words can made) ((asked-so host depth tries before after j m words can made).truth none)

-- a journal that its depth ended is within the limit of nodes
pub ended-within : (host depth : ℕ) (j : List Entry) → IsEndedByDepth host depth j → ¬ IsEndedAtLimit j
ended-within host depth j e limit = let kept = e.kept in let passed = limit.passed in absurd (omega (arith, kept, passed))

-- a grown journal ended at the limit, or within it
pub at-limit : (host depth : ℕ) (j : List Entry) → IsGrown host depth j → IsEndedAtLimit j ⊎ (¬ IsEndedAtLimit j)
at-limit host depth j g = by g.ended
  where
    by : IsEndedByDepth host depth j ⊎ IsEndedAtLimit j → IsEndedAtLimit j ⊎ (¬ IsEndedAtLimit j)
    by (inl e) = inr (ended-within host depth j e)
    by (inr l) = inl l

-- the map without vertices keeps all rules
empty-is-map : IsMap empty_map
empty-is-map = record {
  hosts_once = tt;
  switches_numbered = refl;
  one_mark_each = refl;
  hosts_marked = λ v h e. cc;
  cabled_vertices = tt;
  ports_once = tt;
  host_ports = tt;
  ports_in_range = tt;
  ports_near = tt;
}

pub made_map_is_map : MadeMapIsMap
made_map_is_map host depth tries before after j m words can made = by (at-limit host depth j made.grown)
  where
    by : IsEndedAtLimit j ⊎ (¬ IsEndedAtLimit j) → IsMap m
    by (inl l) = subst IsMap (sym (made.beyond l)) empty-is-map
    by (inr l) =
        let k = made.within l in
        let found = found_is_there host depth tries before after j m words can made in
        subst IsMap (sym k.marked) (marked_map_is_map k.unmarked (quotient_is_map (fabric_of before) host j k.unmarked (now_is_fabric before.links.cables can.history) found k.quotient))

pub made_map_is_connected : MadeMapIsConnected
made_map_is_connected host depth tries before after j m words made = by (at-limit host depth j made.grown)
  where
    by : IsEndedAtLimit j ⊎ (¬ IsEndedAtLimit j) → IsConnected m
    by (inl l) = subst IsConnected (sym (made.beyond l)) (λ v low. absurd (omega (arith, low)))
    by (inr l) =
        let k = made.within l in
        subst IsConnected (sym k.marked) (λ v low. (let r = quotient_is_connected host depth j k.unmarked made.grown k.quotient v low in record { cables = r.cables; path = r.path }))

-- when a map is called complete
complete-parts : (host : ℕ) (j : List Entry) (drowned : ℕ) → IsCalled host j drowned Complete → (drowned ≡ 0) × IsClosed host j × (¬ IsEndedAtLimit j)
complete-parts host j drowned (right l c none) = (none, c, l)

pub made_map_is_right : MadeMapIsRight
made_map_is_right host depth tries before after j m can made =
    let n : Network = fabric_of before in
    let parts = complete-parts host j made.drowned made.called in
    let marked = made.within parts.2 in
    let k : NetMap = marked.unmarked in
    let truth = undrowned_is_true host depth tries before after j m Complete can made parts.0 in
    let unmarked = closed_map_is_right n host depth j k (now_is_fabric before.links.cables can.history) truth made.grown parts.1 marked.quotient in
    subst (IsMapOfPart n host) (sym marked.marked)
    (same_map_is_right n host k (record k { core = core_of k }) (marks_do_not_matter (record k { core = core_of k }) k refl refl) unmarked)

pub mapping_keeps : MappingKeeps
mapping_keeps host depth tries before after j m words can made =
    let r = asked-so host depth tries before after j m words can made in
    let is = r.can in
    (r.kept, record { history = is.stood.history; world = is.world; idle = is.idle; is_host = is.is_host; byte_flips = is.byte_flips; shallow = can.shallow })

-- a journal that has grown has few asks
few-of : (host depth : ℕ) (j : List Entry) → IsGrowing host depth j → length (reached j) ≤ 65535 → length j ≤ 1966051
few-of host depth j g few = let asks = asks_are_few host depth j g in omega (arith, asks, few)

growing-before : (host depth : ℕ) (j i : List Entry) (last : Entry) → IsGrowing host depth j → j ≡ i ++ last ∷ [] → IsGrowing host depth i
growing-before host depth j i last (nothing) whole = absurd (not_empty i last (sym whole))
growing-before host depth j i last (more b e g ask is) whole = subst (IsGrowing host depth) (sym (push-parts i b last e (sym whole ∙ is)).0) g

grown-few : (host depth : ℕ) (j : List Entry) → IsGrown host depth j → length j ≤ 1966052
grown-few host depth j g = by g.ended
  where
    by : IsEndedByDepth host depth j ⊎ IsEndedAtLimit j → length j ≤ 1966052
    by (inl e) = let kept = e.kept in let few = few-of host depth j g.growing (omega (arith, kept)) in omega (arith, few)
    by (inr l) =
        let kept = l.kept in
        let few = few-of host depth l.before (growing-before host depth j l.before l.last g.growing l.whole) (omega (arith, kept)) in
        let longer : length j ≡ length l.before + 1 = ap length l.whole ∙ length-append l.before (l.last ∷ []) in
        omega (arith, few, longer)

-- no fault is planned for an injection between two
unplanned-between : (number low high : ℕ) (fs : List (ℕ × Fault)) → AllByRecursion (λ f. (f.0 ≤ low) ⊎ (high < f.0)) fs → low < number → number ≤ high → lookup (nat_eq number) fs ≡ None
unplanned-between number low high [] all above below = refl
unplanned-between number low high (f ∷ fs) all above below = by (nat_eq number f.0) refl all.0 (unplanned-between number low high fs all.1 above below)
  where
    by : (b : Bool) → nat_eq number f.0 ≡ b → (f.0 ≤ low) ⊎ (high < f.0) → lookup (nat_eq number) fs ≡ None → cond b (Some f.1) (lookup (nat_eq number) fs) ≡ None
    by true e (inl l) rest = absurd (grind (arith, nat_tests))
    by true e (inr l) rest = absurd (grind (arith, nat_tests))
    by false e l rest = rest

-- the words where nothing keeps a map from being complete
called-complete : (host : ℕ) (j : List Entry) (drowned : ℕ) (words : MapWords) → IsCalled host j drowned words → ¬ IsEndedAtLimit j → IsClosed host j → drowned ≡ 0 → words ≡ Complete
called-complete host j drowned words (too_many_nodes l) within closed none = absurd (within l)
called-complete host j drowned words (too_shallow l c) within closed none = absurd (c closed)
called-complete host j drowned words (doubted l c some) within closed none = absurd (omega (arith, some, none))
called-complete host j drowned words (right l c d) within closed none = refl

pub deep_map_is_complete : DeepMapIsComplete
deep_map_is_complete host depth tries before after j m words can made quiet some low deep =
    let n : Network = fabric_of before in
    let r = asked-so host depth tries before after j m words can made in
    let few = r.few low in
    let asks = grown-few host depth j made.grown in
    let same = length-map j (λ (e : Entry). e.walk) in
    let start_at = quiet.injections_left in
    let none = r.heard (omega (arith, some)) refl (record {
      unplanned = λ number above below. unplanned-between number before.injected after.injected before.plan quiet.unplanned above below;
      left = omega (arith, few, asks, same, start_at);
    }) in
    let there : has_vertex n (Host host) ≡ true = (let is = can.is_host in let hosts = can.world.hosts in grind (arith, nat_tests)) in
    let truth = undrowned_is_true host depth tries before after j m words can made none in
    let ends = depth_suffices n host depth j (now_is_fabric before.links.cables can.history) there deep quiet.small truth made.grown in
    called-complete host j made.drowned words made.called ends.not_at_limit ends.closed none

-- a map that is called doubtful has drowned asks
doubted-some : (host : ℕ) (j : List Entry) (drowned count : ℕ) → IsCalled host j drowned (Doubtful count) → 0 < drowned
doubted-some host j drowned count (doubted l c some) = some

pub doubtful_was_harmed : DoubtfulWasHarmed
doubtful_was_harmed host depth tries drowned before after j m can made some left =
    (asked-so host depth tries before after j m (Doubtful drowned) can made).harmed (omega (arith, some)) left (doubted-some host j made.drowned drowned made.called)
