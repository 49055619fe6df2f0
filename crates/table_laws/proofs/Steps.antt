-- Every act keeps the tables, the staged parts and the parts on their way parts of the adopted set.
use Rattle.std.proofs.Common.{◌≡◌, ◌⊎◌, inl, inr, ◌<◌, ◌≤◌, ◌+◌, ◌^◌, ℕ, zero, suc, Bool, true, false, nat_lt, List, [], ◌∷◌, length, min, get_or, Option, Some, None, IfSome, refl, sym, ap, ◌∙◌, subst, true≢false, arith, if◌then◌else◌}
use Rattle.std.proofs.Math.ListN.{length-set}
use Rattle.std.proofs.lemmas.List.{length-replicate}
use Rattle.std.proofs.lemmas.Bool.Decides.{nat_tests}
use Rattle.std.specs.List.{AllByRecursion}
use Rattle.net_defs.specs.declared.route.Route.{Route}
use Rattle.net_defs.specs.Network.{Network}
use Rattle.net_defs.proofs.Distinct.{all-weaker}
use Rattle.world_defs.specs.History.{CableHistory, fabric_at}
use Rattle.world_defs.specs.Later.{IsLater}
use Rattle.world_defs.proofs.Now.{last_is_now}
use Rattle.world_defs.proofs.CablesLater.{later-past}
use Rattle.world_defs.specs.Links.{Held}
use Rattle.world_defs.specs.Fault.{accept, epoch_limit}
use Rattle.world_defs.specs.Mapping.{RouteEntry, RoutePart}
use Rattle.world_defs.specs.declared.event.Event.{Event}
use Rattle.world_defs.specs.declared.effect.Effect.{Effect}
use Rattle.world_defs.specs.Table.{Adoption, ActiveTable, TableState, last_epoch, epoch_in, at_in, revoked_table, whole_table}
use Rattle.world_defs.specs.Node.{NodeState, Staged, StagedProbe, StagedPart, packet_for, new_node}
use Rattle.world_defs.specs.World.{WorldState, host_count, new_world, node_at, with_node, first_unrevoked, standing_of, adopted_by}
use Rattle.world_defs.specs.Acts.{Act, Happens, Plans, Adopts, acted, AreAdoptable, MayAct}
use Rattle.world_defs.specs.EightBits.{IsByteFault, IsByteEvent}
use Rattle.table_laws.specs.Set.{IsPart, IsActive, IsCollected, IsBare, IsTable}
use Rattle.table_laws.specs.Packets.{IsHonest}
use Rattle.table_laws.specs.Bodies.{IsBody, IsStaged, IsHostOf}
use Rattle.table_laws.proofs.Sets.{routes-fit, part_for-fits}
use Rattle.world_defs.specs.Step.{gives_up_epoch, step}
use Rattle.world_defs.proofs.Lists.{each-set, each-replicate}
use Rattle.world_defs.proofs.Views.{HostChange, Change, view}
use Rattle.world_defs.proofs.Calls.{call_view}
use Rattle.world_defs.proofs.Cables.{HasCables}
use Rattle.world_defs.proofs.AdoptedEpochs.{HasRevoked, each-revoked, Adopting, adopting}
use Rattle.world_defs.proofs.Hosts.{NodeChange, NodesChange, change-nodes, each_node}
use Rattle.world_defs.proofs.ActsKept.{accepted-past}
use Rattle.world_defs.proofs.LinkEpochs.{change-epoch}
use Rattle.world_defs.proofs.Kept.{change-later, change-adopted, change-plan, with-all}
use Rattle.table_laws.proofs.Hosts.{hear-host, sent-built, after_sending-host, given_up-host, staged-host, node_expired-host, call-host}
use Rattle.table_laws.proofs.Medium.{Holds, weaker-holds, empty-holds, carries-honest}
use Rattle.table_laws.proofs.Keeping.{holds-read, new-honest, honest-more, accepted-holds, acted-holds}

abbrev pub Good : Option Adoption → ℕ → Held → Type 0
Good o c held = IsHonest (IsBody o) held

-- what is adopted: it was adoptable in the fabric that stood then
pub record IsAdopted (h : CableHistory) (a : Adoption) : Type 0 where
  pub some : 0 < a.epoch
  pub limit : a.epoch ≤ last_epoch
  pub adoptable : AreAdoptable (fabric_at h a.at) a.routes

-- the invariant
pub record IsOfSet (n : Network) (w : WorldState) : Type 0 where
  pub count : length w.nodes ≡ length n.hosts
  pub epoch : w.links.epoch ≡ epoch_in w.adopted
  pub links : Holds (Good w.adopted) w.links
  pub hosts : (h : ℕ) → h < length n.hosts → IsHostOf w.adopted h (node_at w h)
  pub adopted : IfSome w.adopted (IsAdopted w.links.cables)
  pub plan : AllByRecursion (λ f. IsByteFault f.1) w.plan

never : (k : ℕ) → k < k → ⊥
never k low = omega (arith, low)

-- one host
revoked-table : (a : Adoption) (host : ℕ) (t : TableState) → IsTable (Some a) host t → IsTable (Some a) host (revoked_table t a.epoch)
revoked-table a host t is = by (nat_lt a.epoch t.epoch)
  where
    given : TableState
    given = record { epoch = a.epoch; revoked = true; collected = []; active = None }

    nothing : IsBare given
    nothing = record { active = refl; collected = refl }

    by : (b : Bool) → IsTable (Some a) host (if b then t else given)
    by true = is
    by false = record { no_later = omega arith; no_earlier = omega arith; before = λ low. absurd (never a.epoch low); bare = λ x. nothing; active = tt; collected = tt }

revoked-host : (a : Adoption) (host : ℕ) (n : NodeState) → IsHostOf (Some a) host n → IsHostOf (Some a) host (gives_up_epoch n a.epoch)
revoked-host a host n is = record { staged = is.staged; table = revoked-table a host n.table is.table }

pub adopted-fits : (h : CableHistory) (a : Adoption) → IsAdopted h a → a.epoch < 2 ^ 32
adopted-fits h a it = let low : a.epoch ≤ last_epoch = it.limit in omega (arith, low)

host-of : (n : Network) (w : WorldState) {e : Event} {x : Effect} {h : ℕ} {m : NodeState} → HasCables n w → IsOfSet n w → HostChange w e x h m → h < length n.hosts → IsHostOf w.adopted h m
host-of n w f is (HostChange.asks {h = h} {walk = walk} {looped = looped}) low = staged-host w.adopted h (node_at w h) (StagedProbe walk looped) tt (is.hosts h low)
host-of n w f is (HostChange.stages {dst = dst} {part = part} a p by d e g) low =
    let it : IsAdopted w.links.cables a = subst (λ o. IfSome o (IsAdopted w.links.cables)) d is.adopted in
    let two = part_for-fits a dst part p (adopted-fits w.links.cables a it) (routes-fit (fabric_at w.links.cables a.at) a.routes (f.history.fabrics a.at) it.adoptable.lead) e in
    let here : IsPart (Some a) p.dst p = inr two.0 in
    staged-host w.adopted a.mapper (node_at w a.mapper) (StagedPart p by) (subst (λ o. IsPart o p.dst p) (sym d) here, two.1) (is.hosts a.mapper low)
host-of n w f is (HostChange.expires {h = h} {peer = peer} k) low = node_expired-host w.adopted h (node_at w h) peer (is.hosts h low)
host-of n w f is (HostChange.gives_up {h = h} k) low = given_up-host w.adopted h (node_at w h) (is.hosts h low)
host-of n w f is (HostChange.revokes {h = h} a d) low =
    subst (λ o. IsHostOf o h (gives_up_epoch (node_at w h) a.epoch)) (sym d) (revoked-host a h (node_at w h) (subst (λ o. IsHostOf o h (node_at w h)) d (is.hosts h low)))

-- a host beyond the last is none
get-past : {X : Type 0} (xs : List X) (h : ℕ) (d : X) → length xs ≤ h → get_or xs h d ≡ d
get-past [] h d low = refl
get-past (x ∷ xs) zero d low = absurd (omega (arith, low))
get-past (x ∷ xs) (suc h) d low = get-past xs h d (omega (arith, low))

-- what is active at any address
pub hosts-active : (n : Network) (w : WorldState) → IsOfSet n w → (h : ℕ) → IfSome (node_at w h).table.active (IsActive w.adopted h)
hosts-active n w is h = by (nat_lt h (length n.hosts)) refl
  where
    by : (b : Bool) → nat_lt h (length n.hosts) ≡ b → IfSome (node_at w h).table.active (IsActive w.adopted h)
    by true e = (is.hosts h (grind (arith, nat_tests))).table.active
    by false e =
        let count = is.count in
        let past : length w.nodes ≤ h = grind (arith, nat_tests) in
        subst (λ m. IfSome m.table.active (IsActive w.adopted h)) (sym (get-past w.nodes h (new_node 0) past)) tt

-- and what is staged
pub hosts-staged : (n : Network) (w : WorldState) → IsOfSet n w → (h : ℕ) → IfSome (node_at w h).staged (IsStaged w.adopted)
hosts-staged n w is h = by (nat_lt h (length n.hosts)) refl
  where
    by : (b : Bool) → nat_lt h (length n.hosts) ≡ b → IfSome (node_at w h).staged (IsStaged w.adopted)
    by true e = (is.hosts h (grind (arith, nat_tests))).staged
    by false e =
        let count = is.count in
        let past : length w.nodes ≤ h = grind (arith, nat_tests) in
        subst (λ m. IfSome m.staged (IsStaged w.adopted)) (sym (get-past w.nodes h (new_node 0) past)) tt

node-of : (n : Network) (w : WorldState) (e : Event) → HasCables n w → IsOfSet n w → (h : ℕ) (m : NodeState) → NodeChange w (Happens e) h m → h < length n.hosts → IsHostOf w.adopted h m
node-of n w e f is h m (NodeChange.itself k) low = host-of n w f is k low
node-of n w e f is h m (NodeChange.hears {c = c} packet j d g) low = hear-host w.adopted h (host_count w) (node_at w h) packet.wire (is.hosts h low) (holds-read (IsBody w.adopted) w.links c packet is.links d)
node-of n w e f is h m (NodeChange.sends c out d g) low = after_sending-host w.adopted h (node_at w h) out (is.hosts h low)
node-of n w e f is h m (NodeChange.calls k) low = call-host w.adopted h (call_view k) (is.hosts h low)

nodes-count : {w v : WorldState} {a : Act} → NodesChange w a v → length v.nodes ≡ length w.nodes
nodes-count (NodesChange.same e) = ap length e
nodes-count {w = w} (NodesChange.one {h = h} {m = m} k e) = ap length e ∙ length-set w.nodes h m

-- what was adoptable was so in a fabric of the past
adopted-later : {h g : CableHistory} → IsLater h g → (o : Option Adoption) → at_in o ≤ h.changes → IfSome o (IsAdopted h) → IfSome o (IsAdopted g)
adopted-later l None low is = tt
adopted-later l (Some a) low is = record { some = is.some; limit = is.limit; adoptable = subst (λ m. AreAdoptable m a.routes) (sym (later-past a.at low l)) is.adoptable }

-- every event
step-of : (n : Network) (w : WorldState) (e : Event) → HasCables n w → IsByteEvent e → IsOfSet n w → IsOfSet n (step w e).1
step-of n w e f low is =
    let v : WorldState = (step w e).1 in
    let k : Change w e (step w e) = view w e in
    let same : w.adopted ≡ v.adopted = sym (change-adopted k) in
    record {
      count = nodes-count (change-nodes k) ∙ is.count;
      epoch = change-epoch k ∙ (is.epoch ∙ ap epoch_in same);
      links = subst (λ o. Holds (Good o) v.links) same
          (acted-holds (Good w.adopted) w (carries-honest w.links.cables (IsBody w.adopted)) is.links is.plan (Happens e) low
          (λ h c out i. new-honest (IsBody w.adopted) (packet_for h (w.injected + 1) out) (sent-built w.adopted h (w.injected + 1) (node_at w h) out (hosts-staged n w is h) i.sends)));
      hosts = λ h here. subst (λ o. IsHostOf o h (node_at v h)) same (each_node (λ j m. j < length n.hosts → IsHostOf w.adopted j m) (change-nodes k) is.hosts (node-of n w e f is) h here);
      adopted = subst (λ o. IfSome o (IsAdopted v.links.cables)) same (adopted-later (change-later k) w.adopted f.began is.adopted);
      plan = change-plan k is.plan;
    }

-- an adoption keeps the epoch, or begins the next one
abbrev made : WorldState → ℕ → Adoption → Bool → WorldState
made w mapper b keeps = record (with_node w mapper (record (node_at w mapper) { table = whole_table b.routes mapper b.epoch })) { links = if keeps then w.links else accept w.links; adopted = Some b }

staged-passes : (o : Option Adoption) (b : Adoption) → ((h : ℕ) (p : RoutePart) → IsPart o h p → IsPart (Some b) h p) → (s : Option Staged) → IfSome s (IsStaged o) → IfSome s (IsStaged (Some b))
staged-passes o b parts None is = tt
staged-passes o b parts (Some (StagedProbe walk looped)) is = tt
staged-passes o b parts (Some (StagedPart p by)) is = (parts p.dst p is.0, is.1)

whole-table : (b : Adoption) (host : ℕ) → IsTable (Some b) host (whole_table b.routes host b.epoch)
whole-table b host = record { no_later = omega arith; no_earlier = omega arith; before = λ low. absurd (never b.epoch low); bare = nothing; active = record { epoch = refl; entries = refl }; collected = tt }
  where
    nothing : (b.epoch < b.epoch) ⊎ (false ≡ true) → IsBare (whole_table b.routes host b.epoch)
    nothing (inl low) = absurd (never b.epoch low)
    nothing (inr marked) = absurd (true≢false (sym marked))

made-of : (n : Network) (w : WorldState) (mapper : ℕ) (b : Adoption) (keeps : Bool) → IsOfSet n w → IsAdopted w.links.cables b → ((h : ℕ) (p : RoutePart) → IsPart w.adopted h p → IsPart (Some b) h p) → ((h : ℕ) → h < length n.hosts → IsTable w.adopted h (node_at w h).table → IsTable (Some b) h (node_at w h).table) → (if keeps then w.links else accept w.links).epoch ≡ b.epoch → IsOfSet n (made w mapper b keeps)
made-of n w mapper b keeps is it parts tables epoch =
    let o : Option Adoption = Some b in
    let m : NodeState = record (node_at w mapper) { table = whole_table b.routes mapper b.epoch } in
    let each : (h : ℕ) → h < length n.hosts → IsHostOf o h (node_at w h) = λ h low. record { staged = staged-passes w.adopted b parts (node_at w h).staged (is.hosts h low).staged; table = tables h low (is.hosts h low).table } in
    let whole : mapper < length n.hosts → IsHostOf o mapper m = λ low. record { staged = (each mapper low).staged; table = whole-table b mapper } in
    record {
      count = length-set w.nodes mapper m ∙ is.count;
      epoch = epoch;
      links = accepted-holds (Good o) w.links keeps
          (weaker-holds (Good w.adopted) (Good o) w.links (λ c held. honest-more (IsBody w.adopted) (IsBody o) held (λ k body x. record { part = λ p same d. parts p.dst p (x.part p same d) })) is.links);
      hosts = λ j. each-set (λ k x. k < length n.hosts → IsHostOf o k x) w.nodes mapper j m (new_node 0) whole each;
      adopted = record { some = it.some; limit = it.limit; adoptable = subst (λ m. AreAdoptable m b.routes) (sym (accepted-past w.links keeps b.at)) it.adoptable };
      plan = is.plan;
    }

below : (n m : ℕ) → n ≤ m → (n ≡ m → ⊥) → n < m
below n m low apart = by (nat_lt n m) refl
  where
    by : (b : Bool) → nat_lt n m ≡ b → n < m
    by true e = grind (arith, nat_tests)
    by false e = absurd (apart (grind (arith, nat_tests)))

-- how the links count
next-count : (k m : ℕ) → k ≡ m → m < last_epoch → min (k + 1) epoch_limit ≡ m + 1
next-count k m same low = omega (arith, same, low)

-- the first set
first-part : (b : Adoption) (h : ℕ) (p : RoutePart) → IsPart None h p → IsPart (Some b) h p
first-part b h p is = absurd is

first-active : (h : ℕ) (t : Option ActiveTable) → IfSome t (IsActive None h) → t ≡ None
first-active h None is = refl
first-active h (Some t) is = absurd is

first-collected : (h : ℕ) (ps : List (ℕ × List RouteEntry)) → AllByRecursion (IsCollected None h) ps → ps ≡ []
first-collected h [] is = refl
first-collected h (p ∷ ps) is = absurd is.0

next-table : (b : Adoption) (h : ℕ) (t : TableState) → t.epoch + 1 ≡ b.epoch → (t.epoch ≡ 0) ⊎ (t.revoked ≡ true) → IsBare t → IsTable (Some b) h t
next-table b h t next given nothing =
    let up : t.epoch ≤ b.epoch = omega (arith, next) in
    let down : b.epoch ≤ t.epoch + 1 = omega (arith, next) in
    record {
      no_later = up;
      no_earlier = down;
      before = λ low. given;
      bare = λ x. nothing;
      active = subst (λ x. IfSome x (IsActive (Some b) h)) (sym nothing.active) tt;
      collected = subst (AllByRecursion (IsCollected (Some b) h)) (sym nothing.collected) tt;
    }

first-table : (b : Adoption) (h : ℕ) (t : TableState) → b.epoch ≡ 1 → IsTable None h t → IsTable (Some b) h t
first-table b h t one is =
    let low : t.epoch ≤ 0 = is.no_later in
    let none : t.epoch ≡ 0 = omega (arith, low) in
    next-table b h t (omega (arith, none, one)) (inl none) (record { active = first-active h t.active is.active; collected = first-collected h t.collected is.collected })

-- the next one
begun-part : (a b : Adoption) (h : ℕ) (p : RoutePart) → 0 < a.epoch → b.epoch ≡ a.epoch + 1 → IsPart (Some a) h p → IsPart (Some b) h p
begun-part a b h p some next (inl low) = let before : p.epoch < a.epoch = low.1 in inl (low.0, omega (arith, before, next))
begun-part a b h p some next (inr part) =
    let same : p.epoch ≡ a.epoch = part.epoch in
    inl (omega (arith, same, some), omega (arith, same, next))

begun-table : (a b : Adoption) (h : ℕ) (t : TableState) → b.epoch ≡ a.epoch + 1 → HasRevoked a.epoch t → IsTable (Some a) h t → IsTable (Some b) h t
begun-table a b h t next r is =
    let seen : t.epoch ≡ a.epoch = r.seen in
    next-table b h t (omega (arith, seen, next)) (inr r.marked) (is.bare (inr r.marked))

-- the epoch that is kept
abbrev other : Adoption → ℕ → ℕ → Adoption
other a mapper changes = record { mapper = mapper; epoch = a.epoch; at = changes; routes = a.routes }

kept-part : (a : Adoption) (mapper changes h : ℕ) (p : RoutePart) → IsPart (Some a) h p → IsPart (Some (other a mapper changes)) h p
kept-part a mapper changes h p is = is

kept-active : (a : Adoption) (mapper changes h : ℕ) (t : Option ActiveTable) → IfSome t (IsActive (Some a) h) → IfSome t (IsActive (Some (other a mapper changes)) h)
kept-active a mapper changes h None is = tt
kept-active a mapper changes h (Some t) is = is

kept-table : (a : Adoption) (mapper changes h : ℕ) (t : TableState) → IsTable (Some a) h t → IsTable (Some (other a mapper changes)) h t
kept-table a mapper changes h t is = record {
  no_later = is.no_later;
  no_earlier = is.no_earlier;
  before = is.before;
  bare = is.bare;
  active = kept-active a mapper changes h t.active is.active;
  collected = all-weaker (IsCollected (Some a) h) (IsCollected (Some (other a mapper changes)) h) t.collected (λ p e. e) is.collected;
}

adopting-of : (n : Network) (w : WorldState) (mapper : ℕ) (routes : List Route) {o : Option Adoption} {b : Adoption} {keeps : Bool} → w.adopted ≡ o → AreAdoptable (fabric_at w.links.cables (standing_of w).changes) routes → IsOfSet n w → first_unrevoked w (epoch_in o) ≡ (standing_of w).unrevoked → Adopting (standing_of w) mapper routes o b keeps → IsOfSet n (made w mapper b keeps)
adopting-of n w mapper routes {b = b} {keeps = keeps} d may is one Adopting.first =
    let epoch : w.links.epoch ≡ 0 = is.epoch ∙ ap epoch_in d in
    let it : IsAdopted w.links.cables b = record { some = omega arith; limit = omega arith; adoptable = may } in
    made-of n w mapper b keeps is it (λ h p x. first-part b h p (subst (λ o. IsPart o h p) d x)) (λ h low x. first-table b h (node_at w h).table refl (subst (λ o. IsTable o h (node_at w h).table) d x)) (next-count w.links.epoch 0 epoch (omega arith))
adopting-of n w mapper routes {keeps = keeps} d may is one (Adopting.keeps a same) =
    let c : ℕ = (standing_of w).changes in
    let now : IsAdopted w.links.cables a = subst (λ o. IfSome o (IsAdopted w.links.cables)) d is.adopted in
    let it : IsAdopted w.links.cables (other a mapper c) = record { some = now.some; limit = now.limit; adoptable = subst (λ k. AreAdoptable (fabric_at w.links.cables k) a.routes) (sym same.still) now.adoptable } in
    let made_same : IsOfSet n (made w mapper (other a mapper c) keeps) =
    made-of n w mapper (other a mapper c) keeps is it (λ h p x. kept-part a mapper c h p (subst (λ o. IsPart o h p) d x)) (λ h low x. kept-table a mapper c h (node_at w h).table (subst (λ o. IsTable o h (node_at w h).table) d x)) (is.epoch ∙ ap epoch_in d) in
    subst (λ rs. IsOfSet n (made w mapper (record { mapper = mapper; epoch = a.epoch; at = c; routes = rs }) keeps)) (sym same.same) made_same
adopting-of n w mapper routes {b = b} {keeps = keeps} d may is one (Adopting.begins a none left) =
    let now : IsAdopted w.links.cables a = subst (λ o. IfSome o (IsAdopted w.links.cables)) d is.adopted in
    let epoch : w.links.epoch ≡ a.epoch = is.epoch ∙ ap epoch_in d in
    let low : a.epoch < last_epoch = below a.epoch last_epoch now.limit left in
    let it : IsAdopted w.links.cables b = record { some = omega arith; limit = omega (arith, low); adoptable = may } in
    made-of n w mapper b keeps is it (λ h p x. begun-part a b h p now.some refl (subst (λ o. IsPart o h p) d x))
    (λ h here x. begun-table a b h (node_at w h).table refl (each-revoked w a.epoch h (one ∙ none) (subst (λ k. h < k) (sym is.count) here)) (subst (λ o. IsTable o h (node_at w h).table) d x))
    (next-count w.links.epoch a.epoch epoch low)

adopted-of : (n : Network) (w : WorldState) (mapper : ℕ) (routes : List Route) → HasCables n w → MayAct w (Adopts mapper routes) → IsOfSet n w → IsOfSet n (adopted_by w mapper routes)
adopted-of n w mapper routes f may is =
    adopting-of n w mapper routes {o = w.adopted} refl (subst (λ m. AreAdoptable m routes) (sym (last_is_now w.links.cables w.links.cables.changes f.history (omega arith))) may.0) is refl (adopting (standing_of w) mapper routes w.adopted may.1)

pub acted-of : (n : Network) (w : WorldState) (a : Act) → HasCables n w → MayAct w a → IsOfSet n w → IsOfSet n (acted w a)
acted-of n w (Happens e) f may is = step-of n w e f may is
acted-of n w (Plans ahead fault) f may is = record {
  count = is.count;
  epoch = is.epoch;
  links = is.links;
  hosts = is.hosts;
  adopted = is.adopted;
  plan = with-all (w.injected + ahead) fault w.plan may.1 is.plan;
}
acted-of n w (Adopts mapper routes) f may is = adopted-of n w mapper routes f may is

new-host : (h k : ℕ) → IsHostOf None h (new_node k)
new-host h k = record { staged = tt; table = new }
  where
    nothing : IsBare (new_node k).table
    nothing = record { active = refl; collected = refl }

    new : IsTable None h (new_node k).table
    new = record { no_later = omega arith; no_earlier = omega arith; before = λ low. absurd (never 0 low); bare = λ x. nothing; active = tt; collected = tt }

pub new-of : (n : Network) → IsOfSet n (new_world n)
new-of n =
    let k : ℕ = length n.hosts in
    record {
      count = length-replicate k (new_node k);
      epoch = refl;
      links = empty-holds (Good None) n;
      hosts = λ h low. each-replicate (IsHostOf None h) k h (new_node k) (new_node 0) (new-host h k) (new-host h 0);
      adopted = tt;
      plan = tt;
    }
