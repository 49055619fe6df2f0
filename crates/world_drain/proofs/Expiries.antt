-- Expiries change nothing of what isn't acknowledged, and are idle where nothing is: those of all pairs come to those of pairs with something.
use Rattle.std.proofs.Common.{◌≡◌, ◌<◌, ◌≤◌, ℕ, suc, ◌+◌, ◌-◌, Bool, true, false, List, [], ◌∷◌, map, nat_lt, cond, refl, sym, ◌∙◌, ap, subst, arith, if◌then◌else◌}
use Rattle.std.specs.List.{range_with_len, filter}
use Rattle.std.proofs.lemmas.Bool.Decides.{nat_tests}
use Rattle.world_defs.specs.declared.event.Event.{Event}
use Rattle.world_defs.specs.declared.event.Event.TheVariants.{Expire}
use Rattle.world_defs.specs.declared.effect.Effect.{Effect}
use Rattle.world_defs.specs.declared.effect.Effect.TheVariants.{Idle, Expired}
use Rattle.gm_defs.specs.Connection.{unacknowledged}
use Rattle.world_defs.specs.Lane.{new_lane, lane_expired}
use Rattle.world_defs.specs.Node.{NodeState, new_node, lane_of, lane_at, with_expired, node_expired, unacknowledged_on, unacknowledged_to}
use Rattle.world_defs.specs.World.{WorldState, host_count, node_at, with_node, addresses, sum_of}
use Rattle.world_defs.specs.Step.{expired, step, after_all}
use Rattle.world_defs.specs.Settle.{unacknowledged_from, expiries_of, expiries_of_all, expiries}
use Rattle.world_laws.proofs.Lists.{at-set}
use Rattle.world_laws.proofs.Idling.{step-idle}
use Rattle.world_defs.proofs.LogRows.{after_all-append}
use Rattle.world_defs.specs.Row.{IsPartWay}
use Rattle.log_laws.proofs.PartWay.{way-front, way-behind, way-step}

-- as much isn't acknowledged, of each pair
abbrev pub HasSameLeft : WorldState → WorldState → Type 0
HasSameLeft w v = (h p : ℕ) → unacknowledged_to (node_at v h) p ≡ unacknowledged_to (node_at w h) p

lane-left : (n : NodeState) (lane k : ℕ) → unacknowledged_on (with_expired n lane) k ≡ unacknowledged_on n k
lane-left n lane k = at-set (λ a b. unacknowledged b.sender ≡ unacknowledged a.sender) (λ a. refl) n.lanes lane k (lane_expired (lane_at n lane)) new_lane refl

node-left : (n : NodeState) (p q : ℕ) → unacknowledged_to (node_expired n p) q ≡ unacknowledged_to n q
node-left n p q =
    let m : NodeState = with_expired n (lane_of p 0) in
    let left : (k : ℕ) → unacknowledged_on (node_expired n p) k ≡ unacknowledged_on n k = λ k. lane-left m (lane_of p 1) k ∙ lane-left n (lane_of p 0) k in
    let a = left (lane_of q 0) in
    let b = left (lane_of q 1) in
    omega (arith, a, b)

nodes-left : (w : WorldState) (h p : ℕ) → HasSameLeft w (with_node w h (node_expired (node_at w h) p))
nodes-left w h p = λ a b.
    at-set (λ n m. (q : ℕ) → unacknowledged_to m q ≡ unacknowledged_to n q) (λ n q. refl) w.nodes h a (node_expired (node_at w h) p) (new_node 0) (node-left (node_at w h) p) b

expire-left : (w : WorldState) (h p : ℕ) → HasSameLeft w (step w (Expire h p)).1
unfolding expired
expire-left w h p = by (nat_lt 0 (unacknowledged_to (node_at w h) p))
  where
    by : (t : Bool) → HasSameLeft w (if t then (let r : Effect × WorldState = (Expired, with_node w h (node_expired (node_at w h) p)) in r) else (Idle, w)).1
    by true = nodes-left w h p
    by false = λ a b. refl

expire-idle : (w : WorldState) (h p : ℕ) → unacknowledged_to (node_at w h) p ≡ 0 → (step w (Expire h p)).1 ≡ w
expire-idle w h p none = let k = step-idle w (Expire h p) in k.still (k.to none)

-- a host of which all is acknowledged has none
none-due : (f : ℕ → ℕ) (ps : List ℕ) → sum_of (map f ps) ≡ 0 → filter (λ p. nat_lt 0 (f p)) ps ≡ []
none-due f [] none = refl
none-due f (p ∷ ps) none =
    let here : f p ≡ 0 = omega (arith, none) in
    let rest : sum_of (map f ps) ≡ 0 = omega (arith, none) in
    let due : List ℕ = filter (λ q. nat_lt 0 (f q)) ps in
    ap (λ n. cond (nat_lt 0 n) (p ∷ due) due) here ∙ none-due f ps rest

pub expiries-none : (w : WorldState) (h : ℕ) → nat_lt 0 (unacknowledged_from w h) ≡ false → expiries_of w h ≡ []
expiries-none w h none =
    let sum : unacknowledged_from w h ≡ 0 = grind (arith, nat_tests) in
    ap (map (Expire h)) (none-due (unacknowledged_to (node_at w h)) (addresses w) sum)

-- expiries of a host, in a row
expires-left : (w : WorldState) (h : ℕ) (ps : List ℕ) → HasSameLeft w (after_all w (map (Expire h) ps))
expires-left w h [] = λ a b. refl
expires-left w h (p ∷ ps) = λ a b. expires-left (step w (Expire h p)).1 h ps a b ∙ expire-left w h p a b

-- those with nothing left may be left out
expires-due : (first now : WorldState) (h : ℕ) (ps : List ℕ) → HasSameLeft first now
    → after_all now (map (Expire h) ps) ≡ after_all now (map (Expire h) (filter (λ p. nat_lt 0 (unacknowledged_to (node_at first h) p)) ps))
expires-due first now h [] same = refl
expires-due first now h (p ∷ ps) same =
    by (nat_lt 0 (unacknowledged_to (node_at first h) p)) refl (expires-due first next h ps (λ a b. expire-left now h p a b ∙ same a b)) (expires-due first now h ps same)
  where
    next : WorldState
    next = (step now (Expire h p)).1

    due : List ℕ
    due = filter (λ q. nat_lt 0 (unacknowledged_to (node_at first h) q)) ps

    by : (t : Bool) → nat_lt 0 (unacknowledged_to (node_at first h) p) ≡ t
        → after_all next (map (Expire h) ps) ≡ after_all next (map (Expire h) due)
        → after_all now (map (Expire h) ps) ≡ after_all now (map (Expire h) due)
        → after_all next (map (Expire h) ps) ≡ after_all now (map (Expire h) (cond t (p ∷ due) due))
    by true m there here = there
    by false m there here =
        let none : unacknowledged_to (node_at first h) p ≡ 0 = grind (arith, nat_tests) in
        ap (λ w. after_all w (map (Expire h) ps)) (expire-idle now h p (same h p ∙ none)) ∙ here

-- the expiries of a host to those of some peers to which something is due
abbrev pub due_of : WorldState → ℕ → List ℕ → List Event
due_of w h ps = map (Expire h) (filter (λ p. nat_lt 0 (unacknowledged_to (node_at w h) p)) ps)

-- those of a host under way
pub record Expiring (first now : WorldState) (host peer : ℕ) : Type 0 where
  pub rest : after_all now (map (Expire host) (range_with_len peer (host_count first - peer))) ≡ after_all first (map (Expire host) (addresses first))
  pub same : HasSameLeft first now
  pub way : (v : WorldState) → IsPartWay now (due_of first host (range_with_len peer (host_count first - peer))) v → IsPartWay first (expiries_of first host) v
  pub hosts : host_count now ≡ host_count first

pub expiring-none : (w : WorldState) (host : ℕ) → Expiring w w host 0
expiring-none w host = record {
  rest = let e : host_count w - 0 ≡ host_count w = omega arith in ap (λ n. after_all w (map (Expire host) (range_with_len 0 n))) e;
  same = λ a b. refl;
  way = λ v p. let e : host_count w - 0 ≡ host_count w = omega arith in subst (λ n. IsPartWay w (due_of w host (range_with_len 0 n)) v) e p;
  hosts = refl;
}

-- an expiry of which nothing is due is none of them
due-next : (first now next v : WorldState) (h p : ℕ) (ps : List ℕ) → HasSameLeft first now → next ≡ (step now (Expire h p)).1 → IsPartWay next (due_of first h ps) v → IsPartWay now (due_of first h (p ∷ ps)) v
due-next first now next v h p ps same is way = by (nat_lt 0 (unacknowledged_to (node_at first h) p)) refl
  where
    due : List ℕ
    due = filter (λ q. nat_lt 0 (unacknowledged_to (node_at first h) q)) ps

    by : (t : Bool) → nat_lt 0 (unacknowledged_to (node_at first h) p) ≡ t → IsPartWay now (map (Expire h) (cond t (p ∷ due) due)) v
    by true m = way-step now next v (Expire h p) (map (Expire h) due) is way
    by false m =
        let none : unacknowledged_to (node_at first h) p ≡ 0 = grind (arith, nat_tests) in
        subst (λ w. IsPartWay w (map (Expire h) due) v) (is ∙ expire-idle now h p (same h p ∙ none)) way

pub expiring-on : (first now next : WorldState) (host peer : ℕ) → Expiring first now host peer → peer < host_count first → next ≡ (step now (Expire host peer)).1
    → host_count next ≡ host_count now → Expiring first next host (peer + 1)
expiring-on first now next host peer r low is hosts =
    let left : host_count first - peer ≡ suc (host_count first - (peer + 1)) = omega (arith, low) in
    record {
      rest =
          ap (λ w. after_all w (map (Expire host) (range_with_len (peer + 1) (host_count first - (peer + 1))))) is
          ∙ ap (λ n. after_all now (map (Expire host) (range_with_len peer n))) (sym left) ∙ r.rest;
      same = λ a b. ap (λ w. unacknowledged_to (node_at w a) b) is ∙ expire-left now host peer a b ∙ r.same a b;
      way = λ v p.
          r.way v
          (subst (λ n. IsPartWay now (due_of first host (range_with_len peer n)) v) (sym left)
          (due-next first now next v host peer (range_with_len (peer + 1) (host_count first - (peer + 1))) r.same is p));
      hosts = hosts ∙ r.hosts;
    }

-- nothing happens for a peer that has acknowledged all
pub expiring-idle : (first now : WorldState) (host peer : ℕ) → unacknowledged_to (node_at now host) peer ≡ 0 → peer < host_count now → Expiring first now host peer → Expiring first now host (peer + 1)
expiring-idle first now host peer none low r =
    let same = r.hosts in
    expiring-on first now now host peer r (omega (arith, low, same)) (sym (expire-idle now host peer none)) refl

pub expiring-all : (first now : WorldState) (host peer : ℕ) → Expiring first now host peer → host_count first ≤ peer → now ≡ after_all first (expiries_of first host)
expiring-all first now host peer r past =
    let left : 0 ≡ host_count first - peer = omega (arith, past) in
    ap (λ n. after_all now (map (Expire host) (range_with_len peer n))) left ∙ r.rest ∙ expires-due first first host (addresses first) (λ a b. refl)

-- those of all hosts under way
pub record ExpiringAll (first now : WorldState) (host : ℕ) : Type 0 where
  pub rest : after_all now (expiries_of_all first (range_with_len host (host_count first - host))) ≡ after_all first (expiries first)
  pub same : HasSameLeft first now
  pub way : (v : WorldState) → IsPartWay now (expiries_of_all first (range_with_len host (host_count first - host))) v → IsPartWay first (expiries first) v
  pub hosts : host_count now ≡ host_count first

pub expiring_all-none : (w : WorldState) → ExpiringAll w w 0
expiring_all-none w = record {
  rest = let e : host_count w - 0 ≡ host_count w = omega arith in ap (λ n. after_all w (expiries_of_all w (range_with_len 0 n))) e;
  same = λ a b. refl;
  way = λ v p. let e : host_count w - 0 ≡ host_count w = omega arith in subst (λ n. IsPartWay w (expiries_of_all w (range_with_len 0 n)) v) e p;
  hosts = refl;
}

filter-same : (f g : ℕ → Bool) (ps : List ℕ) → ((p : ℕ) → f p ≡ g p) → filter f ps ≡ filter g ps
filter-same f g [] all = refl
filter-same f g (p ∷ ps) all = ap (λ t. cond t (p ∷ filter f ps) (filter f ps)) (all p) ∙ ap (λ l. cond (g p) (p ∷ l) l) (filter-same f g ps all)

same-expiries : (first now : WorldState) (host : ℕ) → HasSameLeft first now → host_count now ≡ host_count first → expiries_of now host ≡ expiries_of first host
same-expiries first now host same hosts =
    ap (λ n. map (Expire host) (filter (λ p. nat_lt 0 (unacknowledged_to (node_at now host) p)) (range_with_len 0 n))) hosts
    ∙ ap (map (Expire host))
    (filter-same (λ p. nat_lt 0 (unacknowledged_to (node_at now host) p)) (λ p. nat_lt 0 (unacknowledged_to (node_at first host) p)) (addresses first) (λ p. ap (nat_lt 0) (same host p)))

pub expiring_all-on : (first now next : WorldState) (host : ℕ) → ExpiringAll first now host → host < host_count first → next ≡ after_all now (expiries_of now host)
    → host_count next ≡ host_count now → ExpiringAll first next (host + 1)
expiring_all-on first now next host r low is hosts =
    let left : host_count first - host ≡ suc (host_count first - (host + 1)) = omega (arith, low) in
    let behind = expiries_of_all first (range_with_len (host + 1) (host_count first - (host + 1))) in
    let due : List ℕ = filter (λ p. nat_lt 0 (unacknowledged_to (node_at now host) p)) (addresses now) in
    record {
      rest =
          ap (λ w. after_all w behind) (is ∙ ap (after_all now) (same-expiries first now host r.same r.hosts))
          ∙ sym (after_all-append now (expiries_of first host) behind)
          ∙ ap (λ n. after_all now (expiries_of_all first (range_with_len host n))) (sym left) ∙ r.rest;
      same = λ a b. ap (λ w. unacknowledged_to (node_at w a) b) is ∙ expires-left now host due a b ∙ r.same a b;
      way = λ v p.
          r.way v
          (subst (λ n. IsPartWay now (expiries_of_all first (range_with_len host n)) v) (sym left)
          (way-behind now next v (expiries_of first host) behind (is ∙ ap (after_all now) (same-expiries first now host r.same r.hosts)) p));
      hosts = hosts ∙ r.hosts;
    }

-- memory ran out within the expiries of a host
pub expiring_all-cut : (first now v : WorldState) (host : ℕ) → ExpiringAll first now host → host < host_count first → IsPartWay now (expiries_of now host) v → IsPartWay first (expiries first) v
expiring_all-cut first now v host r low p =
    let left : host_count first - host ≡ suc (host_count first - (host + 1)) = omega (arith, low) in
    let behind = expiries_of_all first (range_with_len (host + 1) (host_count first - (host + 1))) in
    r.way v
    (subst (λ n. IsPartWay now (expiries_of_all first (range_with_len host n)) v) (sym left)
    (way-front now v (expiries_of first host) behind (subst (λ es. IsPartWay now es v) (same-expiries first now host r.same r.hosts) p)))

pub expiring_all-all : (first now : WorldState) (host : ℕ) → ExpiringAll first now host → host_count first ≤ host → now ≡ after_all first (expiries first)
expiring_all-all first now host r past =
    let left : 0 ≡ host_count first - host = omega (arith, past) in
    ap (λ n. after_all now (expiries_of_all first (range_with_len host n))) left ∙ r.rest
