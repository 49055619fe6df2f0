-- What the events of one host are in the world.
use Rattle.std.proofs.Common.{◌≡◌, ◌<◌, ℕ, ℤ, Bool, true, false, ◌||◌, nat_lt, List, Option, Some, None, is_some, option_map, refl, sym, ap, subst, ◌∙◌, if◌then◌else◌}
use Rattle.std.specs.Prelude.{slice_set, IfSome}
use Rattle.std.proofs.lemmas.Option.{same_Some}
use Rattle.net_defs.specs.declared.route.Route.{Route}
use Rattle.world_defs.specs.Fault.{accept}
use Rattle.world_defs.specs.Mapping.{RoutePart}
use Rattle.world_defs.specs.declared.effect.Effect.{Effect}
use Rattle.world_defs.specs.declared.effect.Effect.TheVariants.{Idle, Expired, GaveUp, Staged as IsStaged, Said}
use Rattle.world_defs.specs.declared.effect.Said.TheVariants.{Done}
use Rattle.world_defs.specs.declared.arrival.Arrival.{Arrival}
use Rattle.world_defs.specs.Table.{Adoption, whole_table, part_for, route_of, epoch_in, revoked_table}
use Rattle.world_defs.specs.Node.{NodeState, Staged, StagedPart, StagedReply, StagedAck, has_staged, given_up, node_expired, unacknowledged_to}
use Rattle.world_defs.specs.Hearing.{hear}
use Rattle.world_defs.specs.World.{WorldState, host_count, node_at, with_node, with_links, keeps_epoch, adoption_of, adopted_by}
use Rattle.world_defs.specs.Step.{arrived, lost, advanced, expired, gave_up, gives_up_epoch, revoke_of, revoked, stage_at, stage_part, part_staged}
use Rattle.route_install.specs.Collecting.{HostTable}
use Rattle.adopted_routes.specs.declared.routes.PartToSend.{PartToSend}
use Rattle.adopted_routes.specs.Adopting.{IsSetOfHosts, sent_by_route, part_to_send}
use Rattle.faulty_links.specs.Held.{LinksAndPlan, IsHeardAt, IsToldOf}
use Rattle.client_host.specs.Held.{ServedHost, in_state}
use Rattle.fab_world.specs.Held.{world_of}
use Rattle.fab_world.proofs.Places.{IsAt, found, changed-under, changed, same}

-- what a host does or leaves undone, as the world says it
done-or-idle : (w v : WorldState) (effect : Effect) (t b : Bool) (m : WorldState) → t ≡ b → (b ≡ true → m ≡ v) → (b ≡ false → m ≡ w)
    → (if t then (effect, v) else (let r : Effect × WorldState = (Idle, w) in r)) ≡ (if b then effect else Idle, m)
done-or-idle w v effect t true m e done idle = ap (λ k. if k then (effect, v) else (let r : Effect × WorldState = (Idle, w) in r)) e ∙ ap (λ u. (effect, u)) (sym (done refl))
done-or-idle w v effect t false m e done idle = ap (λ k. if k then (effect, v) else (let r : Effect × WorldState = (Idle, w) in r)) e ∙ ap (λ u. (Idle, u)) (sym (idle refl))

-- a sender's time is up at one host
pub expired-is : {p : LinksAndPlan} {ss : List ServedHost} {o : Option Adoption} {w : WorldState} {h i : ℕ} {x : ServedHost} (peer : ℕ) (q : ServedHost) (done : Bool) (effect : Effect) → IsAt p ss o w h i x
    → done ≡ nat_lt 0 (unacknowledged_to x.state peer) → q ≡ in_state x (if done then node_expired x.state peer else x.state)
    → effect ≡ (if done then Expired else Idle) → expired w h peer ≡ (effect, world_of p (slice_set ss i q) o)
unfolding expired
expired-is {p} {ss} {o} {w} {h} {i} {x} peer q done effect a told e says =
    let here = found a in
    done-or-idle w (with_node w h (node_expired (node_at w h) peer)) Expired (nat_lt 0 (unacknowledged_to (node_at w h) peer)) done (world_of p (slice_set ss i q) o)
    (sym (told ∙ ap (λ n. nat_lt 0 (unacknowledged_to n peer)) here.state))
    (λ is. changed q (λ n. node_expired n peer) a (e ∙ ap (λ b. in_state x (if b then node_expired x.state peer else x.state)) is))
    (λ is. same q a (e ∙ ap (λ b. in_state x (if b then node_expired x.state peer else x.state)) is))
    ∙ ap (λ k. (k, world_of p (slice_set ss i q) o)) (sym says)

nothing-staged : (n : NodeState) → has_staged n ≡ false → given_up n ≡ n
nothing-staged n none = by n.staged n.reply n.part_ack refl refl refl none
  where
    by : (a : Option Staged) (b : Option StagedReply) (c : Option StagedAck) → n.staged ≡ a → n.reply ≡ b → n.part_ack ≡ c → (is_some a || is_some b || is_some c) ≡ false → given_up n ≡ n
    by None None None e f g none = λ j. record n { staged = sym e j; reply = sym f j; part_ack = sym g j }
    by None None (Some c) e f g none = cc
    by None (Some b) c e f g none = cc
    by (Some a) b c e f g none = cc

-- one host gives up what it has staged
pub gave_up-is : {p : LinksAndPlan} {ss : List ServedHost} {o : Option Adoption} {w : WorldState} {h i : ℕ} {x : ServedHost} (q : ServedHost) (done : Bool) (effect : Effect) → IsAt p ss o w h i x
    → done ≡ has_staged x.state → q ≡ in_state x (given_up x.state) → effect ≡ (if done then GaveUp else Idle)
    → gave_up w h ≡ (effect, world_of p (slice_set ss i q) o)
unfolding gave_up
gave_up-is {p} {ss} {o} {w} {h} {i} {x} q done effect a told e says =
    let here = found a in
    done-or-idle w (with_node w h (given_up (node_at w h))) GaveUp (has_staged (node_at w h)) done (world_of p (slice_set ss i q) o)
    (sym (told ∙ ap has_staged here.state))
    (λ is. changed q given_up a e)
    (λ is. same q a (e ∙ ap (in_state x) (nothing-staged x.state (sym told ∙ is))))
    ∙ ap (λ k. (k, world_of p (slice_set ss i q) o)) (sym says)

-- one host hears the packet of a channel, which is empty then
pub heard-is : {p : LinksAndPlan} {ss : List ServedHost} {o : Option Adoption} {w : WorldState} {h i : ℕ} {x : ServedHost} (c : ℕ) (q : ServedHost) (wire : List ℕ) (arrival : Arrival) (effect : Effect) (now : LinksAndPlan) → IsAt p ss o w h i x
    → IsHeardAt p c h wire → arrival ≡ (hear x.host x.hosts x.state wire).0 → q ≡ in_state x (hear x.host x.hosts x.state wire).1
    → IsToldOf p c h arrival effect now
    → advanced w c ≡ (effect, world_of now (slice_set ss i q) o)
heard-is {p} {ss} {o} {w} {h} {i} {x} c q wire arrival effect now a at heard e told =
    let here = found a in
    let n : NodeState = (hear x.host x.hosts x.state wire).1 in
    let behind : WorldState = (lost (world_of p ss o) c).1 in
    let same_hearing : hear x.host x.hosts x.state wire ≡ hear h (host_count w) (node_at w h) wire =
    ap (λ k. hear k x.hosts x.state wire) here.host ∙ ap (λ k. hear h k x.state wire) here.hosts ∙ ap (λ m. hear h (host_count w) m wire) here.state in
    let pair : (let r : Arrival × NodeState = (arrival, n) in r) ≡ hear h (host_count w) (node_at w h) wire = ap (λ r. (r, n)) heard ∙ same_hearing in
    ap (λ v. advanced v c) (sym a.is) ∙ at (world_of p ss o) ∙ ap (λ v. arrived behind h (hear h (host_count v) (node_at v h) wire)) a.is
    ∙ ap (arrived behind h) (sym pair) ∙ told (world_of p ss o) n ∙ ap (λ v. (effect, v)) (sym (changed-under q n now o a e))

-- the links of a world in which a set is adopted
abbrev pub links-then : Bool → LinksAndPlan → LinksAndPlan
links-then keeps p = if keeps then p else record p { links = accept p.links }

links-are : (keeps : Bool) (p : LinksAndPlan) (ss : List ServedHost) (o : Option Adoption) → world_of (links-then keeps p) ss o ≡ with_links (world_of p ss o) (if keeps then p.links else accept p.links)
links-are true p ss o = refl
links-are false p ss o = refl

-- a set is adopted, and its adopter has its table
pub adopted-is : {p : LinksAndPlan} {ss : List ServedHost} {o : Option Adoption} {w : WorldState} {h i : ℕ} {x : ServedHost} (q : ServedHost) (routes : List Route) (keeps : Bool) (table : HostTable) (now : Option Adoption) (links : LinksAndPlan) → IsAt p ss o w h i x
    → keeps ≡ keeps_epoch w routes → table ≡ record { host = h; state = whole_table routes h (adoption_of w h routes).epoch } → now ≡ Some (adoption_of w h routes) → links ≡ links-then keeps p → q ≡ in_state x (record x.state { table = table.state })
    → world_of links (slice_set ss i q) now ≡ adopted_by w h routes
adopted-is {p} {ss} {o} {w} {h} {i} {x} q routes keeps table now links a kept made takes accepts e =
    let here = found a in
    let adoption : Adoption = adoption_of w h routes in
    let n : NodeState = record x.state { table = whole_table routes h adoption.epoch } in
    let new : q ≡ in_state x n = e ∙ ap (λ t. in_state x (record x.state { table = t.state })) made in
    ap (world_of links (slice_set ss i q)) takes ∙ changed-under q n links (Some adoption) a new
    ∙ ap (λ l. with_node (world_of l ss (Some adoption)) h n) (accepts ∙ ap (λ b. links-then b p) kept)
    ∙ ap (λ v. with_node v h n) (links-are (keeps_epoch w routes) p ss (Some adoption))
    ∙ ap (λ v. record (with_node v h n) { links = if keeps_epoch w routes then v.links else accept v.links; adopted = Some adoption }) a.is
    ∙ ap (λ m. record (with_node w h (record m { table = whole_table routes h adoption.epoch })) { links = if keeps_epoch w routes then w.links else accept w.links; adopted = Some adoption }) here.state

-- one host gives up the epoch of the adopted set, where there is one
pub revoked-is : {p : LinksAndPlan} {ss : List ServedHost} {o : Option Adoption} {w : WorldState} {h i : ℕ} {x : ServedHost} (q : ServedHost) (epoch : ℕ) (s : Option Adoption) → IsAt p ss o w h i x → w.adopted ≡ s
    → is_some (option_map (λ a. a.mapper) s) ≡ true → epoch ≡ epoch_in s → q ≡ in_state x (record x.state { table = revoked_table x.state.table epoch }) → revoked w h ≡ (Said Done, world_of p (slice_set ss i q) o)
unfolding revoked
revoked-is {w = w} {h = h} q epoch None at is some seen e = cc
revoked-is {w = w} {h = h} {x = x} q epoch (Some a) at is some seen e =
    ap (revoke_of w h) is ∙ ap (λ v. (Said Done, v)) (sym (changed q (λ n. gives_up_epoch n a.epoch) at (e ∙ ap (λ k. in_state x (gives_up_epoch x.state k)) seen)))

pub revoked-none : (w : WorldState) (h : ℕ) (s : Option Adoption) → w.adopted ≡ s → is_some (option_map (λ a. a.mapper) s) ≡ false → revoked w h ≡ (Idle, w)
unfolding revoked
revoked-none w h None is none = ap (revoke_of w h) is
revoked-none w h (Some a) is none = cc

-- what a part to send is in the world
abbrev pub part-of : WorldState → Option PartToSend → Effect × WorldState
part-of w None = (Idle, w)
part-of w (Some s) = (IsStaged, with_node w s.mapper (record (node_at w s.mapper) { staged = Some (StagedPart s.part s.by) }))

part-at : (w : WorldState) (mapper : ℕ) (p : Option RoutePart) (by : Option (List ℤ)) → stage_at w mapper p by ≡ part-of w (sent_by_route mapper p by)
part-at w mapper (Some p) (Some by) = refl
part-at w mapper (Some p) None = refl
part-at w mapper None by = refl

pub part-is : (w : WorldState) (dst part : ℕ) → part_staged w dst part ≡ part-of w (part_to_send w.adopted dst part)
unfolding part_staged
part-is w dst part = by w.adopted
  where
    by : (o : Option Adoption) → stage_part w dst part o ≡ part-of w (part_to_send o dst part)
    by None = refl
    by (Some a) = part-at w a.mapper (part_for a dst part) (route_of a.routes a.mapper dst)

-- the adopter stages the part that is to be sent
pub part-sent : (w : WorldState) (dst part : ℕ) (o : Option Adoption) (s : PartToSend) (r : Effect × WorldState) → w.adopted ≡ o → Some s ≡ part_to_send o dst part
    → stage_at w s.mapper (Some s.part) (Some s.by) ≡ r → part_staged w dst part ≡ r
part-sent w dst part o s r is sends stages =
    part-is w dst part ∙ ap (λ a. part-of w (part_to_send a dst part)) is ∙ ap (part-of w) (sym sends) ∙ stages

pub part-none : (w : WorldState) (dst part : ℕ) (o : Option Adoption) → w.adopted ≡ o → None ≡ part_to_send o dst part → part_staged w dst part ≡ (Idle, w)
part-none w dst part o is none = part-is w dst part ∙ ap (λ a. part-of w (part_to_send a dst part)) is ∙ ap (part-of w) (sym none)

-- the adopter of a part is a host
pub sender-there : (hosts dst part : ℕ) (o : Option Adoption) (s : PartToSend) → IfSome o (IsSetOfHosts hosts) → Some s ≡ part_to_send o dst part → s.mapper < hosts
sender-there hosts dst part None s all e = cc
sender-there hosts dst part (Some a) s all e = by (part_for a dst part) (route_of a.routes a.mapper dst) e
  where
    by : (p : Option RoutePart) (way : Option (List ℤ)) → Some s ≡ sent_by_route a.mapper p way → s.mapper < hosts
    by (Some p) (Some way) f = subst (λ k. k < hosts) (sym (ap (λ t. t.mapper) (same_Some s (record { mapper = a.mapper; part = p; by = way }) f))) all.mapper
    by (Some p) None f = cc
    by None way f = cc
