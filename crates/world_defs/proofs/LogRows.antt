-- Whatever logs are made of, their events lead to their worlds and are of the kinds that they are made of.
use Rattle.std.proofs.Common.{◌≡◌, ◌+◌, ◌&&◌, ℕ, ℤ, zero, suc, Bool, true, false, List, [], ◌∷◌, ◌++◌, map, nat_lt, Option, Some, None, is_some, refl, sym, ap, ◌∙◌, if◌then◌else◌}
use Rattle.std.specs.List.{AllByRecursion, filter}
use Rattle.world_defs.specs.Hops.{total_hops}
use Rattle.world_defs.specs.declared.event.Event.{Event}
use Rattle.world_defs.specs.declared.event.Event.TheVariants.{Ask, Part, Inject, Advance, Replay, Reset, Expire, GiveUp}
use Rattle.world_defs.specs.EightBits.{IsByteEvent}
use Rattle.world_defs.specs.Node.{unacknowledged_to}
use Rattle.world_defs.specs.Table.{Adoption}
use Rattle.world_defs.specs.World.{WorldState, node_at, addresses}
use Rattle.world_defs.specs.Step.{step, steps, after_all}
use Rattle.world_defs.specs.Drain.{channels_of, resets_of}
use Rattle.world_defs.specs.Settle.{expiries_of, expiries_of_all, expiries, serials, pass_bound, is_last_round, round_bound}
use Rattle.world_defs.specs.Asking.{reply_in, probed_host}
use Rattle.world_defs.specs.Install.{has_staged_answer, is_acknowledged, parts_of}
use Rattle.world_defs.specs.Log.{Log, still, told, and_do, for_each, up_to}
use Rattle.world_defs.specs.Logs.{pass, is_still, drain_pass, drain, clear, unmoved, moved_both, cleared, is_last_pass, round_pass, round, rounds_both, one_round, rounds, settle}
use Rattle.world_defs.specs.Logs.{Sent, Tried, sends, answered, host_try, loop_try, part_try, tries, asked_on, ask, asked_both, one_asked, asks, parts, hosts, install}
use Rattle.world_defs.specs.Row.{IsRow}

pub after_all-append : (w : WorldState) (es ds : List Event) → after_all w (es ++ ds) ≡ after_all (after_all w es) ds
after_all-append w [] ds = refl
after_all-append w (e ∷ es) ds = after_all-append (step w e).1 es ds

pub steps-after : (w : WorldState) (es : List Event) → (steps w es).1 ≡ after_all w es
steps-after w [] = refl
steps-after w (e ∷ es) = steps-after (step w e).1 es

pub all-append : (Q : Event → Type 0) (es ds : List Event) → AllByRecursion Q es → AllByRecursion Q ds → AllByRecursion Q (es ++ ds)
all-append Q [] ds p q = q
all-append Q (e ∷ es) ds p q = (p.0, all-append Q es ds p.1 q)

pub all-map : (Q : Event → Type 0) (f : ℕ → Event) → ((n : ℕ) → Q (f n)) → (ns : List ℕ) → AllByRecursion Q (map f ns)
all-map Q f all [] = tt
all-map Q f all (n ∷ ns) = (all n, all-map Q f all ns)

-- rows
pub row-none : {Q : Event → Type 0} {w : WorldState} → IsRow Q w [] w
row-none = record { kinds = tt; there = refl }

pub row-both : {Q : Event → Type 0} {u v w : WorldState} {es ds : List Event} → IsRow Q u es v → IsRow Q v ds w → IsRow Q u (es ++ ds) w
row-both {Q = Q} {u = u} {es = es} {ds = ds} a b = record {
  kinds = all-append Q es ds a.kinds b.kinds;
  there = b.there ∙ (ap (λ x. after_all x ds) a.there ∙ sym (after_all-append u es ds));
}

pub row-of : {Q : Event → Type 0} (w : WorldState) (es : List Event) → AllByRecursion Q es → IsRow Q w es (steps w es).1
row-of w es q = record { kinds = q; there = steps-after w es }

pub row-after : {Q : Event → Type 0} (w : WorldState) (es : List Event) → AllByRecursion Q es → IsRow Q w es (after_all w es)
row-after w es q = record { kinds = q; there = refl }

pub row-one : {Q : Event → Type 0} (w : WorldState) (e : Event) → Q e → IsRow Q w (e ∷ []) (step w e).1
row-one w e q = record { kinds = (q, tt); there = refl }

-- the events of a log are a row
abbrev pub Rows : {A : Type 0} → (Event → Type 0) → WorldState → Log A → Type 0
Rows Q w l = IsRow Q w l.events l.world

either : {A : Type 0} (Q : Event → Type 0) (w : WorldState) (l m : Log A) (b : Bool) → Rows Q w l → Rows Q w m → Rows Q w (if b then l else m)
either Q w l m true p q = p
either Q w l m false p q = q

for_each-row : {A X : Type 0} (Q : Event → Type 0) (join : A → A → A) (none : A) (one : X → WorldState → Log A) → ((x : X) (v : WorldState) → Rows Q v (one x v)) → (xs : List X) (w : WorldState) → Rows Q w (for_each join none one xs w)
for_each-row Q join none one all [] w = row-none
for_each-row Q join none one all (x ∷ xs) w = row-both (all x w) (for_each-row Q join none one all xs (one x w).world)

up_to-row : {A : Type 0} (Q : Event → Type 0) (join : A → A → A) (none : A) (is_last : WorldState → Log A → Bool) (one : WorldState → Log A) → ((v : WorldState) → Rows Q v (one v)) → (k : ℕ) (w : WorldState) → Rows Q w (up_to join none is_last one k w)
up_to-row Q join none is_last one all zero w = row-none
up_to-row Q join none is_last one all (suc k) w =
    either Q w (one w) (and_do (one w) (λ a v. told (join a) (up_to join none is_last one k v))) (is_last w (one w)) (all w)
    (row-both (all w) (up_to-row Q join none is_last one all k (one w).world))

-- drains and clears
drain_pass-row : {Q : Event → Type 0} → ((c : ℕ) → Q (Advance c)) → (w : WorldState) → Rows Q w (drain_pass w)
drain_pass-row {Q = Q} k w = either Q w (still [] w) (pass w) (is_still (pass w).value) row-none (row-of w (map Advance (channels_of w)) (all-map Q Advance k (channels_of w)))

pub drain-row : {Q : Event → Type 0} → ((c : ℕ) → Q (Advance c)) → (w : WorldState) → Rows Q w (drain w)
unfolding drain
drain-row {Q = Q} k w = up_to-row Q (λ xs ys. xs ++ ys) [] (λ before p. is_still p.value) drain_pass (drain_pass-row k) (total_hops w.links + 1) w

pub record Clears (Q : Event → Type 0) : Type 0 where
  pub advance : (c : ℕ) → Q (Advance c)
  pub reset : (c : ℕ) → Q (Reset c)

pub clear-row : {Q : Event → Type 0} → Clears Q → (w : WorldState) → Rows Q w (clear w)
unfolding clear
clear-row {Q = Q} k w = let v : WorldState = (drain w).world in row-both (drain-row k.advance w) (row-of v (resets_of v) (all-map Q Reset k.reset (channels_of v)))

-- settles
pub record SettlesBy (Q : Event → Type 0) : Type 0 where
  pub clears : Clears Q
  pub inject : (h : ℕ) → Q (Inject h)
  pub replay : (s : ℕ) → Q (Replay s)
  pub expire : (h peer : ℕ) → Q (Expire h peer)
  pub give_up : (h : ℕ) → Q (GiveUp h)

pub given_up-row : {Q : Event → Type 0} → ((h : ℕ) → Q (GiveUp h)) → (w : WorldState) → IsRow Q w (map GiveUp (addresses w)) (after_all w (map GiveUp (addresses w)))
given_up-row {Q = Q} k w = row-after w (map GiveUp (addresses w)) (all-map Q GiveUp k (addresses w))

all-expiries : (Q : Event → Type 0) → ((h peer : ℕ) → Q (Expire h peer)) → (w : WorldState) (hs : List ℕ) → AllByRecursion Q (expiries_of_all w hs)
all-expiries Q k w [] = tt
all-expiries Q k w (h ∷ hs) =
    all-append Q (expiries_of w h) (expiries_of_all w hs) (all-map Q (Expire h) (k h) (filter (λ p. nat_lt 0 (unacknowledged_to (node_at w h) p)) (addresses w))) (all-expiries Q k w hs)

pub expiries-row : {Q : Event → Type 0} → ((h peer : ℕ) → Q (Expire h peer)) → (w : WorldState) → IsRow Q w (expiries w) (after_all w (expiries w))
expiries-row {Q = Q} k w = row-after w (expiries w) (all-expiries Q k w (addresses w))

pub cleared-row : {Q : Event → Type 0} → Clears Q → (es : List Event) → AllByRecursion Q es → (w : WorldState) → Rows Q w (cleared es w)
cleared-row k es q w = row-both (row-of w es q) (clear-row k (steps w es).1)

pub round_pass-row : {Q : Event → Type 0} → SettlesBy Q → (w : WorldState) → Rows Q w (round_pass w)
unfolding round_pass
round_pass-row {Q = Q} k w =
    let v : WorldState = after_all w (map GiveUp (addresses w)) in
    let u : WorldState = (cleared (map Inject (addresses w)) v).world in
    row-both (given_up-row k.give_up w) (row-both (cleared-row k.clears (map Inject (addresses w)) (all-map Q Inject k.inject (addresses w)) v)
    (for_each-row Q moved_both unmoved (λ s. cleared (Replay s ∷ [])) (λ s. cleared-row k.clears (Replay s ∷ []) (k.replay s, tt)) (serials u) u))

pub round-row : {Q : Event → Type 0} → SettlesBy Q → (w : WorldState) → Rows Q w (round w)
unfolding round
round-row {Q = Q} k w = row-both (expiries-row k.expire w) (up_to-row Q moved_both unmoved is_last_pass round_pass (round_pass-row k) (pass_bound w) (after_all w (expiries w)))

rounds-row : {Q : Event → Type 0} → SettlesBy Q → (k : ℕ) (w : WorldState) → Rows Q w (rounds k w)
rounds-row {Q = Q} s k w = up_to-row Q rounds_both (record { rounds = 0; resets = 0 }) (λ before r. is_last_round before r.world) one_round (round-row s) k w

pub settle-row : {Q : Event → Type 0} → SettlesBy Q → (w : WorldState) → Rows Q w (settle w)
unfolding settle
settle-row k w = row-both (clear-row k.clears w) (rounds-row k (round_bound (clear w).world) (clear w).world)

-- asks and installations
pub record AsksBy (Q : Event → Type 0) : Type 0 where
  pub advance : (c : ℕ) → Q (Advance c)
  pub inject : (h : ℕ) → Q (Inject h)
  pub give_up : (h : ℕ) → Q (GiveUp h)

pub sends-row : {Q : Event → Type 0} → AsksBy Q → (h : ℕ) (w : WorldState) → Rows Q w (sends h w)
unfolding sends
sends-row k h w = row-both (row-one w (Inject h) (k.inject h)) (drain-row k.advance (step w (Inject h)).1)

answered-row : {A : Type 0} {Q : Event → Type 0} → AsksBy Q → (before : WorldState) (nothing : A) (find : Sent → A) (sent : Sent) (o : Option ℕ) (w : WorldState) → Rows Q w (answered before nothing find sent o w)
answered-row k before nothing find sent None w = row-none
answered-row k before nothing find sent (Some h) w = row-both (sends-row k h w) row-none

pub host_try-row : {Q : Event → Type 0} → AsksBy Q → ((h : ℕ) (walk : List ℤ) (looped : Bool) → Q (Ask h walk looped)) → (mapper : ℕ) (walk : List ℤ) (w : WorldState) → Rows Q w (host_try mapper walk w)
unfolding host_try
host_try-row k asked mapper walk w =
    let u : WorldState = (step w (Ask mapper walk false)).1 in
    let probe : Sent = (sends mapper u).value in
    row-both (row-one w (Ask mapper walk false) (asked mapper walk false)) (row-both (sends-row k mapper u)
    (answered-row k w None (λ reply. reply_in mapper probe.number reply.effects) probe (probed_host probe.effects) (sends mapper u).world))

pub loop_try-row : {Q : Event → Type 0} → AsksBy Q → ((h : ℕ) (walk : List ℤ) (looped : Bool) → Q (Ask h walk looped)) → (mapper : ℕ) (walk : List ℤ) (w : WorldState) → Rows Q w (loop_try mapper walk w)
unfolding loop_try
loop_try-row k asked mapper walk w =
    row-both (row-one w (Ask mapper walk true) (asked mapper walk true)) (row-both (sends-row k mapper (step w (Ask mapper walk true)).1) row-none)

pub part_try-row : {Q : Event → Type 0} → AsksBy Q → ((dst part : ℕ) → Q (Part dst part)) → (mapper dst part : ℕ) (w : WorldState) → Rows Q w (part_try mapper dst part w)
unfolding part_try
part_try-row k staged mapper dst part w =
    let u : WorldState = (step w (Part dst part)).1 in
    let v : WorldState = (sends mapper u).world in
    let sent : Sent = (sends mapper u).value in
    row-both (row-one w (Part dst part) (staged dst part)) (row-both (sends-row k mapper u)
    (answered-row k w false (λ ack. is_acknowledged mapper dst part ack.effects) sent (if has_staged_answer v dst sent.effects then Some dst else None) v))

pub tries-row : {A : Type 0} (Q : Event → Type 0) (is_found : A → Bool) (nothing : A) (one : WorldState → Log (Tried A)) → ((v : WorldState) → Rows Q v (one v)) → (k : ℕ) (w : WorldState) → Rows Q w (tries is_found nothing one k w)
tries-row {A = A} Q is_found nothing one all k w = up_to-row {A = Tried A} Q (λ t u. record u { harmed = t.harmed && u.harmed }) (record { found = nothing; harmed = true }) (λ before t. is_found t.value.found) one all k w

pub ask-row : {Q : Event → Type 0} → AsksBy Q → ((h : ℕ) (walk : List ℤ) (looped : Bool) → Q (Ask h walk looped)) → (made mapper k : ℕ) (walk : List ℤ) (w : WorldState) → Rows Q w (ask made mapper k walk w)
unfolding ask
ask-row {Q = Q} s asked made mapper k walk w =
    let v : WorldState = after_all w (map GiveUp (addresses w)) in
    let t : Log (Tried (Option ℕ)) = tries is_some None (host_try mapper walk) k v in
    row-both (given_up-row s.give_up w) (row-both (tries-row Q is_some None (host_try mapper walk) (host_try-row s asked mapper walk) k v) (on t.value.harmed t.value.found t.world))
  where
    on : (harmed : Bool) (o : Option ℕ) (u : WorldState) → Rows Q u (asked_on made mapper walk k harmed o u)
    on harmed (Some h) u = row-none
    on harmed None u = row-both (tries-row Q (λ b. b) false (loop_try mapper walk) (loop_try-row s asked mapper walk) k u) row-none

pub asks-row : {Q : Event → Type 0} → AsksBy Q → ((h : ℕ) (walk : List ℤ) (looped : Bool) → Q (Ask h walk looped)) → (made mapper k : ℕ) (walks : List (List ℤ)) (w : WorldState) → Rows Q w (asks made mapper k walks w)
asks-row {Q = Q} s asked made mapper k walks w =
    for_each-row Q asked_both (record { entries = []; drowned = 0 }) (λ walk v. told (one_asked walk) (ask made mapper k walk v)) (λ walk v. ask-row s asked made mapper k walk v) walks w

parts-row : {Q : Event → Type 0} → AsksBy Q → ((dst part : ℕ) → Q (Part dst part)) → (mapper dst k : ℕ) (ps : List ℕ) (w : WorldState) → Rows Q w (parts mapper dst k ps w)
parts-row s staged mapper dst k [] w = row-none
parts-row {Q = Q} s staged mapper dst k (p ∷ ps) w =
    let t : Log (Tried Bool) = tries (λ b. b) false (part_try mapper dst p) k w in
    row-both (tries-row Q (λ b. b) false (part_try mapper dst p) (part_try-row s staged mapper dst p) k w)
    (either Q t.world (parts mapper dst k ps t.world) (still false t.world) t.value.found (parts-row s staged mapper dst k ps t.world) row-none)

pub hosts-row : {Q : Event → Type 0} → AsksBy Q → ((dst part : ℕ) → Q (Part dst part)) → (a : Adoption) (k : ℕ) (hs : List ℕ) (w : WorldState) → Rows Q w (hosts a k hs w)
hosts-row {Q = Q} s staged a k hs w =
    for_each-row Q (λ m n. m + n) 0 (λ h v. told (λ b. if b then 1 else 0) (parts a.mapper h k (parts_of a h) v)) (λ h v. parts-row s staged a.mapper h k (parts_of a h) v) hs w

pub install-row : {Q : Event → Type 0} → AsksBy Q → ((dst part : ℕ) → Q (Part dst part)) → (a : Adoption) (hs : List ℕ) (k : ℕ) (w : WorldState) → Rows Q w (install a hs k w)
unfolding install
install-row s staged a hs k w = row-both (given_up-row s.give_up w) (hosts-row s staged a k hs (after_all w (map GiveUp (addresses w))))

-- events of eight bits
pub byte_clears : Clears IsByteEvent
byte_clears = record { advance = λ c. tt; reset = λ c. tt }

pub byte_settles : SettlesBy IsByteEvent
byte_settles = record { clears = byte_clears; inject = λ h. tt; replay = λ s. tt; expire = λ h peer. tt; give_up = λ h. tt }

pub byte_asks : AsksBy IsByteEvent
byte_asks = record { advance = λ c. tt; inject = λ h. tt; give_up = λ h. tt }
