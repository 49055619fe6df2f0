-- Where there are as many tokens as are wanted no message waits for one, so a settle leaves nothing unacknowledged.
use Rattle.std.proofs.Common.{◌≡◌, ◌≢◌, ◌<◌, ◌≤◌, ◌+◌, ℕ, Bool, true, false, ◌&&◌, List, [], ◌∷◌, length, nat_eq, nat_le, nat_lt, Option, Some, None, is_some, is_none, refl, sym, ap, ◌∙◌, subst, arith, true≢false}
use Rattle.std.specs.Prelude.{slice_get, IfSome}
use Rattle.std.specs.List.{AllByRecursion, filter}
use Rattle.std.proofs.lemmas.Bool.Decides.{nat_tests}
use Rattle.std.proofs.lemmas.List.{get_or_past}
use Rattle.net_defs.specs.Network.{Network}
use Rattle.world_defs.specs.History.{fabric_at}
use Rattle.gm_defs.specs.declared.message.Message.{Message}
use Rattle.gm_defs.specs.declared.token.Filling.{Filling}
use Rattle.gm_defs.specs.declared.frame.ConnectionKey.{ConnectionKey}
use Rattle.gm_defs.specs.Body.{message_limit}
use Rattle.gm_defs.specs.Connection.{connection}
use Rattle.gm_defs.specs.Token.{Provided, PortState, room, sizes, is_size, size_for_length, fits, is_from, is_filling_for, is_free_for}
use Rattle.gm_defs.proofs.Choices.{both}
use Rattle.gm_defs.proofs.Takers.{finds}
use Rattle.world_defs.specs.Lane.{new_lane}
use Rattle.world_defs.specs.Node.{prio_place, lane_of, sending_lane, lane_at, port_at, unacknowledged_to}
use Rattle.world_defs.specs.Hearing.{port_fits, port_has_begun}
use Rattle.world_defs.specs.World.{WorldState, host_count, node_at}
use Rattle.world_defs.specs.Traffic.{sender_on, sent_on, got_on, coming_on}
use Rattle.world_defs.specs.Settle.{unacknowledged_from, unacknowledged_in}
use Rattle.world_defs.specs.Settled.{IsWaiting, IsSettledConnection, IsSettled, all_acknowledged, no_route, no_route_back, cut, cut_back, waiting}
use Rattle.world_laws.specs.Reached.{IsOfSettle}
use Rattle.world_laws.proofs.Along.{settle-along}
use Rattle.world_laws.proofs.Reached.{settles-of}
use Rattle.world_laws.proofs.Rounds.{Going}
use Rattle.world_defs.specs.Logs.{settle}
use Rattle.world_defs.specs.Acts.{IsReached}
use Rattle.message_laws.specs.Filling.{provided_in, IsTied, IsFillingWith}
use Rattle.message_laws.specs.Untouched.{IsUntouched}
use Rattle.message_laws.proofs.Frames.{at-place}
use Rattle.message_laws.proofs.Worlds.{reached-ordered, sent-of_priority}
use Rattle.message_laws.proofs.Fillings.{coming-tied}
use Rattle.message_laws.proofs.Buffers.{least-size, provided-untouched}
use Rattle.message_laws.proofs.Taken.{none-got}
use Rattle.message_laws.proofs.Windows.{reached-windowed}
use Rattle.message_laws.proofs.Known.{reached-count, reached-known}
use Rattle.settle_laws.proofs.Says.{PortFits}
use Rattle.settle_laws.proofs.Sents.{reached-said}
use Rattle.settle_laws.proofs.Kept.{along-going}
use Rattle.settle_laws.proofs.Flowing.{settle-ends_settled}
use Rattle.delivery_laws.specs.Delivery.{is_wanted, is_of, wanted_from, provided_at, SettleDelivers}
use Rattle.delivery_laws.proofs.Counts.{total-strict, total-zero, one_if, count_of, count-cons, some-after, count-both, all-filter, all-places, none-any, none-found, HasGroup, covered}
use Rattle.delivery_laws.proofs.Tokens.{HasTokens, Keeps, along-keeps}

equal : (a b : ℕ) → nat_eq a b ≡ true → a ≡ b
equal a b e = grind (arith, nat_tests)

eq-true : (a b : ℕ) → a ≡ b → nat_eq a b ≡ true
eq-true a b e = grind (arith, nat_tests)

some-of : {A : Type 0} (o : Option A) → is_some o ≡ true → (x : A) × (o ≡ Some x)
some-of (Some x) e = (x, refl)
some-of None e = cc

-- each message that is short enough has a size
size-there : (len : ℕ) → len ≤ message_limit → (size : ℕ) × (size_for_length len ≡ Some size)
size-there len low =
    let test : nat_le len (room 16) ≡ true = grind (arith, nat_tests) in
    some-of (size_for_length len) (finds (λ size. nat_le len (room size)) sizes 12 16 refl test)

-- no token has a priority above 1
none-high : (size prio : ℕ) (o : Option PortState) → PortFits o → 2 ≤ prio → count_of (is_of size prio) (provided_in o) ≡ 0
none-high size prio None fit high = refl
none-high size prio (Some p) fit high = by p.provided fit
  where
    by : (rs : List Provided) → AllByRecursion (λ r. r.prio < 2) rs → count_of (is_of size prio) rs ≡ 0
    by [] all = refl
    by (r ∷ rs) all =
        let rest = by rs all.1 in
        let c = count-cons (is_of size prio) r rs in
        let low = all.0 in
        let other : nat_eq r.prio prio ≡ false = grind (arith, nat_tests) in
        let none : one_if (is_of size prio r) ≡ 0 = ap (λ b. one_if (nat_eq r.size size && b)) other ∙ ap one_if (and-false (nat_eq r.size size)) in
        omega (arith, c, none, rest)
      where
        and-false : (b : Bool) → (b && false) ≡ false
        and-false true = refl
        and-false false = refl

untouched-in : (o : Option PortState) → ((p : PortState) → o ≡ Some p → AllByRecursion IsUntouched p.provided) → AllByRecursion IsUntouched (provided_in o)
untouched-in None all = tt
untouched-in (Some p) all = all p refl

not-free : (o : Option PortState) (len prio : ℕ) → port_fits o len prio ≡ false → AllByRecursion (λ r. is_free_for len prio r ≡ false) (provided_in o)
not-free None len prio e = tt
not-free (Some p) len prio e = none-found (is_free_for len prio) p.provided e

not-begun : (o : Option PortState) (src prio : ℕ) → port_has_begun o src prio ≡ false → filter (is_filling_for src prio) (provided_in o) ≡ []
not-begun None src prio e = refl
not-begun (Some p) src prio e = none-any (is_filling_for src prio) p.provided e

-- a token that isn't free for a message that it fits is filling
filling-is : (r : Provided) (len prio : ℕ) → is_free_for len prio r ≡ false → fits r.size r.prio len prio ≡ true → (f : Filling) × (r.filling ≡ Some f)
filling-is r len prio e fit = by r.filling refl e
  where
    by : (o : Option Filling) → r.filling ≡ o → (is_none o && fits r.size r.prio len prio) ≡ false → (f : Filling) × (r.filling ≡ Some f)
    by None d t = absurd (true≢false (sym fit ∙ t))
    by (Some f) d t = (f, d)

module _ (n : Network) (z : WorldState) (is : IsReached n z) (has : HasTokens z) where
  -- a message that isn't got is wanted
  wants : (c : ConnectionKey) (i : ℕ) (m : Message) (size : ℕ) → slice_get (sent_on z c) i ≡ Some m → length (got_on z c) ≤ i → size_for_length (length m.body) ≡ Some size → 1 ≤ wanted_from z c.dst m.dport size m.prio c.src
  wants c i m size there behind least =
      let place : prio_place m.prio ≡ prio_place c.prio = at-place (λ x. prio_place x.prio ≡ prio_place c.prio) (sent_on z c) i m (sent-of_priority n z is c) there in
      let sends : lane_of c.dst m.prio ≡ lane_of c.dst c.prio = omega (arith, place) in
      let takes : lane_of c.src m.prio ≡ lane_of c.src c.prio = omega (arith, place) in
      let of : ConnectionKey = connection c.src c.dst m.prio in
      let sent : sent_on z of ≡ sent_on z c = ap (λ k. (lane_at (node_at z c.src) k).sent) sends in
      let got : got_on z of ≡ got_on z c = ap (λ k. (lane_at (node_at z c.dst) k).got) takes in
      let long = ap length got in
      let a = eq-true m.dport m.dport refl in
      let b : is_size size (size_for_length (length m.body)) ≡ true = ap (is_size size) least ∙ eq-true size size refl in
      let d = eq-true m.prio m.prio refl in
      some-after (is_wanted m.dport size m.prio) (sent_on z of) (length (got_on z of)) i m (omega (arith, long, behind)) (ap (λ ms. slice_get ms i) sent ∙ there) (λ j. a j && (b j && d j))

  size-of : (c : ConnectionKey) (i : ℕ) (m : Message) → slice_get (sent_on z c) i ≡ Some m → (size : ℕ) × (size_for_length (length m.body) ≡ Some size)
  size-of c i m there = size-there (length m.body) (at-place (λ x. length x.body ≤ message_limit) (sent_on z c) i m (((reached-ordered n z is).hosts c.src).lanes (sending_lane c)).short there)

  -- and so is of a priority that tokens have
  low-prio : (c : ConnectionKey) (i : ℕ) (m : Message) → c.src < host_count z → c.dst < host_count z → slice_get (sent_on z c) i ≡ Some m → length (got_on z c) ≤ i → m.prio < 2
  low-prio c i m src dst there behind = by (nat_lt m.prio 2) refl
    where
      by : (b : Bool) → nat_lt m.prio 2 ≡ b → m.prio < 2
      by true e = grind (arith, nat_tests)
      by false e =
          let high : 2 ≤ m.prio = grind (arith, nat_tests) in
          let s = size-of c i m there in
          let one = wants c i m s.0 there behind s.1 in
          let all = total-strict (λ j. 0) (wanted_from z c.dst m.dport s.0 m.prio) 0 (host_count z) c.src c.src (omega arith) src (λ j low. omega arith) (omega (arith, one)) in
          let none : provided_at z c.dst m.dport s.0 m.prio ≡ 0 = none-high s.0 m.prio (port_at (node_at z c.dst) m.dport) ((reached-said n z is).ports c.dst m.dport) high in
          let enough = has.each c.dst m.dport s.0 m.prio dst in
          absurd (omega (arith, all, none, enough))

  module _ (dst port size prio : ℕ) (there : dst < host_count z) (low : prio < 2) where
    abbrev tokens : List Provided
    tokens = provided_in (port_at (node_at z dst) port)

    abbrev from : ℕ → Provided → Bool
    from src r = is_of size prio r && is_filling_for src prio r

    abbrev tied : ℕ → Type 0
    tied src = IsTied (port_at (node_at z dst)) src prio (slice_get (sent_on z (connection src dst prio)) (length (got_on z (connection src dst prio)))) (coming_on z (connection src dst prio))

    untouched : AllByRecursion IsUntouched tokens
    untouched = untouched-in (port_at (node_at z dst) port) (λ p e. provided-untouched n z is dst port p e)

    -- nothing is coming from a host that isn't there
    nothing-past : (src : ℕ) → host_count z ≤ src → coming_on z (connection src dst prio) ≡ []
    nothing-past src past =
        let count = reached-count n z is in
        let long = (reached-known n z dst is (omega (arith, there, count))).lanes in
        ap (λ l. l.coming) (get_or_past (node_at z dst).lanes (lane_of src prio) new_lane (omega (arith, long, past)))

    -- so a token is filling for a host that is there
    source-low : (r : Provided) (place : ℕ) (src : ℕ) → slice_get tokens place ≡ Some r → is_filling_for src prio r ≡ true → src < host_count z
    source-low r place src at fills = by (nat_lt src (host_count z)) refl
      where
        by : (b : Bool) → nat_lt src (host_count z) ≡ b → src < host_count z
        by true e = grind (arith, nat_tests)
        by false e = tie (coming-tied n z is (connection src dst prio) low)
          where
            none : coming_on z (connection src dst prio) ≡ []
            none = nothing-past src (grind (arith, nat_tests))

            tie : tied src → src < host_count z
            tie (IsTied.nothing d all) =
                let some = some-after (is_filling_for src prio) tokens 0 place r (omega arith) at fills in
                let empty : count_of (is_filling_for src prio) tokens ≡ 0 = ap length (all port) in
                absurd (omega (arith, some, empty))
            tie (IsTied.begun m s d long here with others) = let empty = ap length none in absurd (omega (arith, long, empty))

    -- as many tokens are filling for a host as its messages are wanted
    fills-wanted : (src : ℕ) → src < host_count z → count_of (from src) tokens ≤ wanted_from z dst port size prio src
    fills-wanted src below = tie (coming-tied n z is c low)
      where
        c : ConnectionKey
        c = connection src dst prio

        none : filter (is_filling_for src prio) tokens ≡ [] → count_of (from src) tokens ≤ wanted_from z dst port size prio src
        none e = let empty : count_of (from src) tokens ≡ 0 = count-both (is_of size prio) (is_filling_for src prio) tokens ∙ ap (count_of (is_of size prio)) e in omega (arith, empty)

        tie : tied src → count_of (from src) tokens ≤ wanted_from z dst port size prio src
        tie (IsTied.nothing d all) = none (all port)
        tie (IsTied.begun m r next long here with others) = by (nat_eq port m.dport) (is_of size prio r) refl refl
          where
            by : (a b : Bool) → nat_eq port m.dport ≡ a → is_of size prio r ≡ b → count_of (from src) tokens ≤ wanted_from z dst port size prio src
            by false b e f = none (others port (λ d. grind (arith, nat_tests)))
            by true false e f =
                let same : port ≡ m.dport = equal port m.dport e in
                let one : filter (is_filling_for src prio) tokens ≡ r ∷ [] = ap (λ i. filter (is_filling_for src prio) (provided_in (port_at (node_at z dst) i))) same ∙ here in
                let empty : count_of (from src) tokens ≡ one_if (is_of size prio r) + 0 = count-both (is_of size prio) (is_filling_for src prio) tokens ∙ ap (count_of (is_of size prio)) one ∙ count-cons (is_of size prio) r [] in
                let zero_one : one_if (is_of size prio r) ≡ 0 = ap one_if f in
                omega (arith, empty, zero_one)
            by true true e f =
                let same : port ≡ m.dport = equal port m.dport e in
                let one : filter (is_filling_for src prio) tokens ≡ r ∷ [] = ap (λ i. filter (is_filling_for src prio) (provided_in (port_at (node_at z dst) i))) same ∙ here in
                let count : count_of (from src) tokens ≡ one_if (is_of size prio r) + 0 = count-both (is_of size prio) (is_filling_for src prio) tokens ∙ ap (count_of (is_of size prio)) one ∙ count-cons (is_of size prio) r [] in
                let just_one : one_if (is_of size prio r) ≡ 1 = ap one_if f in
                let clean : IsUntouched r = (subst (AllByRecursion IsUntouched) one (all-filter IsUntouched (is_filling_for src prio) tokens untouched)).0 in
                let fit : fits r.size r.prio (IsFillingWith.state with).total r.prio ≡ true = subst (λ o. IfSome o (λ x. fits r.size r.prio x.total r.prio ≡ true)) with.filling clean.fitting in
                let parts = both (is_size r.size (size_for_length with.state.total)) (nat_eq r.prio r.prio) fit in
                let least : size_for_length with.state.total ≡ Some r.size = least-size r.size (size_for_length with.state.total) parts.0 in
                let right : r.size ≡ size = equal r.size size (both (nat_eq r.size size) (nat_eq r.prio prio) f).0 in
                let sized : size_for_length (length m.body) ≡ Some size = ap size_for_length (sym with.total) ∙ least ∙ ap Some right in
                let small = low-prio c (length (got_on z c)) m below there next (omega arith) in
                let place : prio_place m.prio ≡ prio_place prio = at-place (λ x. prio_place x.prio ≡ prio_place prio) (sent_on z c) (length (got_on z c)) m (sent-of_priority n z is c) next in
                let prio_is : m.prio ≡ prio = omega (arith, small, low, place) in
                let some : 1 ≤ wanted_from z dst m.dport size m.prio src = wants c (length (got_on z c)) m size next (omega arith) sized in
                let moved : wanted_from z dst port size prio src ≡ wanted_from z dst m.dport size m.prio src = (λ i. wanted_from z dst (same i) size (sym prio_is i) src) in
                omega (arith, count, just_one, some, moved)

  -- so no message waits
  none-waits : (c : ConnectionKey) → c.src < host_count z → c.dst < host_count z → IsWaiting z c → ⊥
  none-waits c src dst wait =
      let strict = total-strict (λ i. count_of (groups i) ts) (wanted_from z c.dst port size prio) 0 (host_count z) c.src c.src (omega arith) src (λ i low. fills-wanted c.dst port size prio dst small i (omega (arith, low))) (omega (arith, none, some)) in
      let cover = covered (is_of size prio) groups (host_count z) ts sources in
      let enough = has.each c.dst port size prio dst in
      omega (arith, strict, cover, enough)
    where
      m : Message
      m = wait.message

      port : ℕ
      port = wait.message.dport

      prio : ℕ
      prio = wait.message.prio

      sized : (size : ℕ) × (size_for_length (length wait.message.body) ≡ Some size)
      sized = size-of c wait.place wait.message wait.there

      size : ℕ
      size = sized.0

      small : prio < 2
      small = low-prio c wait.place wait.message src dst wait.there wait.not_taken

      ts : List Provided
      ts = provided_in (port_at (node_at z c.dst) port)

      groups : ℕ → Provided → Bool
      groups i r = is_of size prio r && is_filling_for i prio r

      some : 1 ≤ wanted_from z c.dst port size prio c.src
      some = wants c wait.place wait.message size wait.there wait.not_taken sized.1

      none : count_of (groups c.src) ts ≡ 0
      none = count-both (is_of size prio) (is_filling_for c.src prio) ts ∙ ap (count_of (is_of size prio)) (not-begun (port_at (node_at z c.dst) port) c.src prio wait.not_begun)

      sources : AllByRecursion (λ r. is_of size prio r ≡ true → HasGroup groups (host_count z) r) ts
      sources = all-places (λ r. is_of size prio r ≡ true → HasGroup groups (host_count z) r) ts (λ place r at of.
          let two = both (nat_eq r.size size) (nat_eq r.prio prio) of in
          let right : r.size ≡ size = equal r.size size two.0 in
          let least : is_size r.size (size_for_length (length wait.message.body)) ≡ true = ap (is_size r.size) sized.1 ∙ eq-true r.size size right in
          let fit : fits r.size r.prio (length wait.message.body) prio ≡ true = (λ i. least i && two.1 i) in
          let free : is_free_for (length wait.message.body) prio r ≡ false = at-place (λ x. is_free_for (length wait.message.body) prio x ≡ false) ts place r (not-free (port_at (node_at z c.dst) port) (length wait.message.body) prio wait.no_token) at in
          let f = filling-is r (length wait.message.body) prio free fit in
          let from : is_from f.0.src r.filling ≡ true = ap (is_from f.0.src) f.1 ∙ eq-true f.0.src f.0.src refl in
          let fills : is_filling_for f.0.src prio r ≡ true = (λ i. from i && two.1 i) in
          record { group = f.0.src; low = source-low c.dst port size prio dst small r place f.0.src at fills; passes = (λ i. of i && fills i) })

-- where no connection of two hosts has something unacknowledged, nothing is
all-done : (z : WorldState) → ((c : ConnectionKey) → c.src < host_count z → c.dst < host_count z → (sender_on z c).base ≡ (sender_on z c).next) → unacknowledged_in z ≡ 0
all-done z done = total-zero (unacknowledged_from z) 0 (host_count z) (λ h low. total-zero (unacknowledged_to (node_at z (0 + h))) 0 (host_count z) (λ peer below. at h peer low below))
  where
    at : (h peer : ℕ) → h < host_count z → peer < host_count z → unacknowledged_to (node_at z (0 + h)) (0 + peer) ≡ 0
    at h peer low below =
        let a = done (connection h peer 0) low below in
        let b = done (connection h peer 1) low below in
        let i : 0 + h ≡ h = omega arith in
        let j : 0 + peer ≡ peer = omega arith in
        let sum : unacknowledged_to (node_at z h) peer ≡ 0 = omega (arith, a, b) in
        (λ k. unacknowledged_to (node_at z (i k)) (j k)) ∙ sum

pub settle-delivers : SettleDelivers
settle-delivers w can left enough paths = (none, none-got n z k.reached none)
  where
    n : Network
    n = fabric_at w.links.cables 0

    z : WorldState
    z = (settle w).world

    k : Keeps n w z
    k = settle-along (λ u v. IsReached n u → Keeps n u v) IsOfSettle (along-keeps n) settles-of w can.reached

    going : Going w z
    going = settle-along Going IsOfSettle along-going settles-of w

    settled : IsSettled z
    settled = settle-ends_settled w can left

    tokens : HasTokens z
    tokens = k.tokens (record { each = enough.tokens })

    done : (c : ConnectionKey) → c.src < host_count z → c.dst < host_count z → (sender_on z c).base ≡ (sender_on z c).next
    done c src dst = by (settled.connections c src dst) (nat_eq (sender_on z c).base (sender_on z c).next) refl
      where
        was : nat_eq (sender_on z c).base (sender_on z c).next ≡ false → (sender_on w c).base < (sender_on w c).next
        was e =
            let kept = (going.nodes.each c.src).senders (sending_lane c) in
            let base = kept.base in
            let next = kept.next in
            let order = (reached-windowed n z k.reached).senders.in_order c.src (sending_lane c) in
            let x = order.base_below in
            let y = order.cursor_below in
            let t = order.top_below in
            let other : (sender_on z c).base ≢ (sender_on z c).next = (λ same. grind (arith, nat_tests)) in
            omega (arith, base, next, x, y, t, other)

        by : IsSettledConnection z c → (b : Bool) → nat_eq (sender_on z c).base (sender_on z c).next ≡ b → (sender_on z c).base ≡ (sender_on z c).next
        by kind true e = grind (arith, nat_tests)
        by (all_acknowledged d) false e = d
        by (no_route d) false e = absurd (true≢false (sym (k.routes c.src c.dst (enough.tables c (was e)).0) ∙ ap is_some d))
        by (no_route_back d) false e = absurd (true≢false (sym (k.routes c.dst c.src (enough.tables c (was e)).1) ∙ ap is_some d))
        by (cut d) false e = absurd (true≢false (sym d ∙ (paths.routes c (was e)).0))
        by (cut_back d) false e = absurd (true≢false (sym d ∙ (paths.routes c (was e)).1))
        by (waiting wait) false e = absurd (none-waits n z k.reached tokens c src dst wait)

    none : unacknowledged_in z ≡ 0
    none = all-done z done
