-- A least legal route turns at no switch twice: so it has no more turns than the fabric has switches.
use Rattle.std.proofs.Common.{◌≡◌, ◌≢◌, ◌<◌, ◌≤◌, ℕ, suc, Bool, true, false, not, nat_eq, nat_lt, List, [], ◌∷◌, ◌++◌, map, length, Option, Some, None, ◌⊎◌, inl, inr, refl, sym, ap, ◌∙◌, subst, arith, true≢false, if◌then◌else◌}
use Rattle.std.specs.Prelude.{ℤ, ◌+ℤ◌, ◌-ℤ◌, slice_get, option_and_then}
use Rattle.std.specs.List.{AllByRecursion, list_all}
use Rattle.std.proofs.lemmas.Bool.Decides.{Decides-eqb, nat_tests}
use Rattle.std.proofs.lemmas.Int.{ints}
use Rattle.std.proofs.lemmas.List.{length-map}
use Rattle.net_defs.specs.declared.route.Route.{Route}
use Rattle.net_defs.specs.declared.vertex.Vertex.{Vertex}
use Rattle.net_defs.specs.declared.vertex.Vertex.TheVariants.{Host, Switch}
use Rattle.net_defs.specs.Network.{Network, IsFabric, Apart, has_vertex}
use Rattle.journal_defs.specs.Walks.{walk_below}
use Rattle.journal_defs.proofs.Distance.{path-vertex}
use Rattle.journal_defs.proofs.Members.{IsMember, all-map}
use Rattle.map_laws.proofs.Pigeons.{few-below, member-map-all}
use Rattle.map_defs.specs.declared.vertex.MapVertex.{MapVertex}
use Rattle.map_defs.specs.declared.vertex.MapVertex.TheVariants.{Host as MapHost, Switch as MapSwitch}
use Rattle.map_defs.specs.NetMap.{NetMap, MapPort, map_far, host_at, switch_at, is_switch_vertex}
use Rattle.map_defs.specs.Orientation.{is_up}
use Rattle.map_defs.specs.Routing.{turned_to, next_port, led_to, channel_at, channels_on, port_of_host, no_up_after_down, is_legal, IsLeastLegal, LeadsTo}
use Rattle.map_defs.specs.Sameness.{IsMapOfPart, address_of}
use Rattle.map_defs.proofs.Levels.{switch-there}

-- the switches at which turns are taken
abbrev vertex_in : Option MapPort → List ℕ
vertex_in None = []
vertex_in (Some f) = f.v ∷ []

abbrev visits : NetMap → Option MapPort → List ℤ → List ℕ
visits m None turns = []
visits m (Some d) [] = []
visits m (Some d) (turn ∷ turns) = vertex_in (next_port m d turn) ++ visits m (next_port m d turn) turns

-- channels are as legal as others
record IsAsLegal (m : NetMap) (order : List ℕ) (cs ds : List MapPort) : Type 0 where
  legal : no_up_after_down (map (is_up m order) cs) ≡ true → no_up_after_down (map (is_up m order) ds) ≡ true
  down : list_all not (map (is_up m order) cs) ≡ true → list_all not (map (is_up m order) ds) ≡ true

legal-same : (m : NetMap) (order : List ℕ) (cs : List MapPort) → IsAsLegal m order cs cs
legal-same m order cs = record { legal = λ e. e; down = λ e. e }

legal-both : (m : NetMap) (order : List ℕ) (cs ds es : List MapPort) → IsAsLegal m order cs ds → IsAsLegal m order ds es → IsAsLegal m order cs es
legal-both m order cs ds es a b = record { legal = λ e. b.legal (a.legal e); down = λ e. b.down (a.down e) }

down-legal : (ups : List Bool) → list_all not ups ≡ true → no_up_after_down ups ≡ true
down-legal [] e = refl
down-legal (true ∷ ups) e = absurd (true≢false (sym e))
down-legal (false ∷ ups) e = e

-- with a channel more in front of both
legal-push : (m : NetMap) (order : List ℕ) (c : MapPort) (cs ds : List MapPort) → IsAsLegal m order cs ds → IsAsLegal m order (c ∷ cs) (c ∷ ds)
legal-push m order c cs ds k = record { legal = legal (is_up m order c); down = down (is_up m order c) }
  where
    legal : (b : Bool) → no_up_after_down (b ∷ map (is_up m order) cs) ≡ true → no_up_after_down (b ∷ map (is_up m order) ds) ≡ true
    legal true e = k.legal e
    legal false e = k.down e

    down : (b : Bool) → list_all not (b ∷ map (is_up m order) cs) ≡ true → list_all not (b ∷ map (is_up m order) ds) ≡ true
    down true e = absurd (true≢false (sym e))
    down false e = k.down e

legal-join : (m : NetMap) (order : List ℕ) (front cs ds : List MapPort) → IsAsLegal m order cs ds → IsAsLegal m order (front ++ cs) (front ++ ds)
legal-join m order [] cs ds k = k
legal-join m order (c ∷ front) cs ds k = legal-push m order c (front ++ cs) (front ++ ds) (legal-join m order front cs ds k)

-- without the first channels
legal-rest : (m : NetMap) (order : List ℕ) (front cs : List MapPort) → IsAsLegal m order (front ++ cs) cs
legal-rest m order [] cs = legal-same m order cs
legal-rest m order (c ∷ front) cs = legal-both m order (c ∷ front ++ cs) (front ++ cs) cs (record { legal = legal (is_up m order c); down = down (is_up m order c) }) (legal-rest m order front cs)
  where
    legal : (b : Bool) → no_up_after_down (b ∷ map (is_up m order) (front ++ cs)) ≡ true → no_up_after_down (map (is_up m order) (front ++ cs)) ≡ true
    legal true e = e
    legal false e = down-legal (map (is_up m order) (front ++ cs)) e

    down : (b : Bool) → list_all not (b ∷ map (is_up m order) (front ++ cs)) ≡ true → list_all not (map (is_up m order) (front ++ cs)) ≡ true
    down true e = absurd (true≢false (sym e))
    down false e = e

-- where turns lead on, the next port is there
led-none : (m : NetMap) (turns : List ℤ) (at : MapPort) → led_to m None turns ≡ Some at → ⊥
led-none m turns at e = cc

-- A route that goes through a switch, from where it leaves there.
record Behind (m : NetMap) (order : List ℕ) (d at : MapPort) (turns : List ℤ) (x : ℕ) : Type 0 where
  port : MapPort
  rest : List ℤ
  there : port.v ≡ x
  led : led_to m (Some port) rest ≡ Some at
  as_legal : IsAsLegal m order (channels_on m (Some d) turns) (channels_on m (Some port) rest)
  less : length rest < length turns

behind : (m : NetMap) (order : List ℕ) (d at : MapPort) (turns : List ℤ) (x : ℕ) → led_to m (Some d) turns ≡ Some at → IsMember x (visits m (Some d) turns) → Behind m order d at turns x
behind m order d at [] x led i = absurd i
behind m order d at (turn ∷ turns) x led i = by (next_port m d turn) refl led i (λ f l j. behind m order f at turns x l j)
  where
    front : List MapPort
    front = channel_at m d

    further : (o : Option MapPort) (f : MapPort) → next_port m d turn ≡ o → o ≡ Some f → IsAsLegal m order (channels_on m (Some d) (turn ∷ turns)) (channels_on m (Some f) turns)
    further o f e g = subst (λ p. IsAsLegal m order (front ++ channels_on m p turns) (channels_on m (Some f) turns)) (sym (e ∙ g)) (legal-rest m order front (channels_on m (Some f) turns))

    by : (o : Option MapPort) → next_port m d turn ≡ o → led_to m o turns ≡ Some at → IsMember x (vertex_in o ++ visits m o turns) → ((f : MapPort) → led_to m (Some f) turns ≡ Some at → IsMember x (visits m (Some f) turns) → Behind m order f at turns x) → Behind m order d at (turn ∷ turns) x
    by None e l j rest = absurd (led-none m turns at l)
    by (Some f) e l (inl same) rest = record { port = f; rest = turns; there = sym same; led = l; as_legal = further (Some f) f e refl; less = omega arith }
    by (Some f) e l (inr j) rest =
        let b = rest f l j in
        let shorter = b.less in
        record {
          port = b.port;
          rest = b.rest;
          there = b.there;
          led = b.led;
          as_legal = legal-both m order (channels_on m (Some d) (turn ∷ turns)) (channels_on m (Some f) turns) (channels_on m (Some b.port) b.rest) (further (Some f) f e refl) b.as_legal;
          less = omega (arith, shorter);
        }

-- A turn leads to each port of the switch that is entered.
record Turns (m : NetMap) (d to : MapPort) : Type 0 where
  turn : ℤ
  is : next_port m d turn ≡ Some to

turn_sum : (p t q : ℤ) → p +ℤ (t +ℤ (q -ℤ (p +ℤ t))) ≡ q
turn_sum p t q = omega (arith, ints)

turns-to : (m : NetMap) (d f to : MapPort) (turn : ℤ) → next_port m d turn ≡ Some f → to.v ≡ f.v → Turns m d to
turns-to m d f to turn e v = by (map_far m d) refl e
  where
    switch : (x : MapPort) → map_far m d ≡ Some x → (b : Bool) → is_switch_vertex m x.v ≡ b → (if b then Some (record { v = x.v; p = x.p +ℤ turn }) else None) ≡ Some f → Turns m d to
    switch x g false s h = cc
    switch x g true s h =
        let one : (let y : MapPort = record { v = x.v; p = x.p +ℤ turn } in y) ≡ f = cc in
        let same : x.v ≡ to.v = ap (λ y. y.v) one ∙ sym v in
        let t : ℤ = turn +ℤ (to.p -ℤ (x.p +ℤ turn)) in
        let sum : x.p +ℤ t ≡ to.p = turn_sum x.p turn to.p in
        let there : turned_to m x t ≡ Some to = rw s (ap2-port x.v to.v (x.p +ℤ t) to.p same sum) in
        record { turn = t; is = ap (option_and_then (λ y. turned_to m y t)) g ∙ there }
      where
        ap2-port : (a b : ℕ) (p q : ℤ) → a ≡ b → p ≡ q → Some (let y : MapPort = record { v = a; p = p } in y) ≡ Some (record { v = b; p = q })
        ap2-port a b p q i j = cc

    by : (o : Option MapPort) → map_far m d ≡ o → option_and_then (λ x. turned_to m x turn) o ≡ Some f → Turns m d to
    by None g h = cc
    by (Some x) g h = switch x g (is_switch_vertex m x.v) refl h

-- A shorter route, as legal.
record Shorter (m : NetMap) (order : List ℕ) (d at : MapPort) (turns : List ℤ) : Type 0 where
  others : List ℤ
  led : led_to m (Some d) others ≡ Some at
  as_legal : IsAsLegal m order (channels_on m (Some d) turns) (channels_on m (Some d) others)
  less : length others < length turns

-- some element stands twice
abbrev Repeats : List ℕ → Type 0
Repeats [] = ⊥
Repeats (x ∷ xs) = IsMember x xs ⊎ Repeats xs

channels-push : (m : NetMap) (d f : MapPort) (turn : ℤ) (turns : List ℤ) → next_port m d turn ≡ Some f → channels_on m (Some d) (turn ∷ turns) ≡ channel_at m d ++ channels_on m (Some f) turns
channels-push m d f turn turns e = ap (λ o. channel_at m d ++ channels_on m o turns) e

shorter : (m : NetMap) (order : List ℕ) (d at : MapPort) (turns : List ℤ) → led_to m (Some d) turns ≡ Some at → Repeats (visits m (Some d) turns) → Shorter m order d at turns
shorter m order d at [] led r = absurd r
shorter m order d at (turn ∷ turns) led r = by (next_port m d turn) refl led r (λ f l q. shorter m order f at turns l q)
  where
    front : List MapPort
    front = channel_at m d

    again : (f to : MapPort) (t : ℤ) (rest : List ℤ) → next_port m d turn ≡ Some f → next_port m d t ≡ Some to → IsAsLegal m order (channels_on m (Some f) turns) (channels_on m (Some to) rest) → IsAsLegal m order (channels_on m (Some d) (turn ∷ turns)) (channels_on m (Some d) (t ∷ rest))
    again f to t rest e g k =
        let j = legal-join m order front (channels_on m (Some f) turns) (channels_on m (Some to) rest) k in
        subst (IsAsLegal m order (channels_on m (Some d) (turn ∷ turns))) (sym (channels-push m d to t rest g)) (subst (λ cs. IsAsLegal m order cs (front ++ channels_on m (Some to) rest)) (sym (channels-push m d f turn turns e)) j)

    by : (o : Option MapPort) → next_port m d turn ≡ o → led_to m o turns ≡ Some at → Repeats (vertex_in o ++ visits m o turns) → ((f : MapPort) → led_to m (Some f) turns ≡ Some at → Repeats (visits m (Some f) turns) → Shorter m order f at turns) → Shorter m order d at (turn ∷ turns)
    by None e l q rest = absurd (led-none m turns at l)
    by (Some f) e l (inl i) rest =
        let b = behind m order f at turns f.v l i in
        let t = turns-to m d f b.port turn e b.there in
        let fewer = b.less in
        record {
          others = t.turn ∷ b.rest;
          led = ap (λ o. led_to m o b.rest) t.is ∙ b.led;
          as_legal = again f b.port t.turn b.rest e t.is b.as_legal;
          less = omega (arith, fewer);
        }
    by (Some f) e l (inr q) rest =
        let s = rest f l q in
        let fewer = s.less in
        record {
          others = turn ∷ s.others;
          led = ap (λ o. led_to m o s.others) e ∙ s.led;
          as_legal = again f f turn s.others e e s.as_legal;
          less = omega (arith, fewer);
        }

-- an element stands twice, or none does
member-or : (x : ℕ) (xs : List ℕ) → IsMember x xs ⊎ AllByRecursion (λ y. x ≢ y) xs
member-or x [] = inr tt
member-or x (y ∷ ys) = by (nat_eq x y) refl (member-or x ys)
  where
    by : (b : Bool) → nat_eq x y ≡ b → IsMember x ys ⊎ AllByRecursion (λ z. x ≢ z) ys → IsMember x (y ∷ ys) ⊎ AllByRecursion (λ z. x ≢ z) (y ∷ ys)
    by true e rest = inl (inl ((Decides-eqb x y).0 e))
    by false e (inl i) = inl (inr i)
    by false e (inr all) = inr ((λ same. true≢false (sym ((Decides-eqb x y).1 same) ∙ e)), all)

repeats-or : (xs : List ℕ) → Repeats xs ⊎ Apart xs
repeats-or [] = inr tt
repeats-or (x ∷ xs) = by (member-or x xs) (repeats-or xs)
  where
    by : IsMember x xs ⊎ AllByRecursion (λ y. x ≢ y) xs → Repeats xs ⊎ Apart xs → Repeats (x ∷ xs) ⊎ Apart (x ∷ xs)
    by (inl i) rest = inl (inl i)
    by (inr all) (inl r) = inl (inr r)
    by (inr all) (inr a) = inr (all, a)

-- each turn is taken at a switch of the map
record AreVisits (m : NetMap) (vs : List ℕ) (count : ℕ) : Type 0 where
  switches : AllByRecursion (λ v. is_switch_vertex m v ≡ true) vs
  each : length vs ≡ count

next-switch : (m : NetMap) (d f : MapPort) (turn : ℤ) → next_port m d turn ≡ Some f → is_switch_vertex m f.v ≡ true
next-switch m d f turn e = by (map_far m d) e
  where
    switch : (x : MapPort) (b : Bool) → is_switch_vertex m x.v ≡ b → (if b then Some (record { v = x.v; p = x.p +ℤ turn }) else None) ≡ Some f → is_switch_vertex m f.v ≡ true
    switch x false s h = cc
    switch x true s h =
        let one : (let y : MapPort = record { v = x.v; p = x.p +ℤ turn } in y) ≡ f = cc in
        ap (λ (y : MapPort). is_switch_vertex m y.v) (sym one) ∙ s

    by : (o : Option MapPort) → option_and_then (λ x. turned_to m x turn) o ≡ Some f → is_switch_vertex m f.v ≡ true
    by None h = cc
    by (Some x) h = switch x (is_switch_vertex m x.v) refl h

are-visits : (m : NetMap) (d at : MapPort) (turns : List ℤ) → led_to m (Some d) turns ≡ Some at → AreVisits m (visits m (Some d) turns) (length turns)
are-visits m d at [] led = record { switches = tt; each = refl }
are-visits m d at (turn ∷ turns) led = by (next_port m d turn) refl led (λ f l. are-visits m f at turns l)
  where
    by : (o : Option MapPort) → next_port m d turn ≡ o → led_to m o turns ≡ Some at → ((f : MapPort) → led_to m (Some f) turns ≡ Some at → AreVisits m (visits m (Some f) turns) (length turns)) → AreVisits m (vertex_in o ++ visits m o turns) (suc (length turns))
    by None e l rest = absurd (led-none m turns at l)
    by (Some f) e l rest = let r = rest f l in record { switches = (next-switch m d f turn e, r.switches); each = ap suc r.each }

-- different switches of a right map are different switches of the fabric
abbrev number_of : Vertex → ℕ
number_of (Host h) = h
number_of (Switch s) = s

address-switch : (v : Vertex) → address_of v ≡ None → v ≡ Switch (number_of v)
address-switch (Host h) e = cc
address-switch (Switch s) e = refl

no-host : (o : Option MapVertex) → switch_at o ≡ true → host_at o ≡ None
no-host None e = absurd (true≢false (sym e))
no-host (Some (MapHost h)) e = absurd (true≢false (sym e))
no-host (Some (MapSwitch s)) e = refl

few-switches : (n : Network) (host : ℕ) (m : NetMap) (vs : List ℕ) → IsFabric n → has_vertex n (Host host) ≡ true → IsMapOfPart n host m → Apart vs → AllByRecursion (λ v. is_switch_vertex m v ≡ true) vs → length vs ≤ length n.switches
few-switches n host m vs f there same apart all = subst (λ k. k ≤ length n.switches) (length-map vs number) (few-below (length n.switches) (map number vs) (member-map-all (λ v. is_switch_vertex m v ≡ true) number vs apart all once) (all-map (λ s. s < length n.switches) number vs (low vs all)))
  where
    number : ℕ → ℕ
    number v = number_of (same.image v)

    image : (v : ℕ) → is_switch_vertex m v ≡ true → same.image v ≡ Switch (number v)
    image v e = address-switch (same.image v) (same.addresses v (switch-there m.vertices v e) ∙ no-host (slice_get m.vertices v) e)

    once : (v w : ℕ) → is_switch_vertex m v ≡ true → is_switch_vertex m w ≡ true → number v ≡ number w → v ≡ w
    once v w a b e = sym (same.origin_image v (switch-there m.vertices v a)) ∙ ap same.origin (image v a ∙ ap Switch e ∙ sym (image w b)) ∙ same.origin_image w (switch-there m.vertices w b)

    below_count : (v : ℕ) → is_switch_vertex m v ≡ true → number v < length n.switches
    below_count v e =
        let i = same.image_in v (switch-there m.vertices v e) in
        let t : has_vertex n (Switch (number v)) ≡ true = ap (has_vertex n) (sym (image v e)) ∙ path-vertex n (Host host) (same.image v) i.cables f there i.path in
        grind (arith, nat_tests, t)

    low : (vs : List ℕ) → AllByRecursion (λ v. is_switch_vertex m v ≡ true) vs → AllByRecursion (λ v. number v < length n.switches) vs
    low [] all = tt
    low (v ∷ vs) all = (below_count v all.0, low vs all.1)

-- so a least legal route is short
least-short : (n : Network) (host : ℕ) (m : NetMap) (order : List ℕ) (a b : ℕ) (turns : List ℤ) → IsFabric n → has_vertex n (Host host) ≡ true → IsMapOfPart n host m → IsLeastLegal m order a b turns → length turns ≤ 64
least-short n host m order a b turns f there same l = by (port_of_host m a) refl l.leads.led
  where
    at : MapPort
    at = l.leads.at

    from : (d : MapPort) → port_of_host m a ≡ Some d → led_to m (Some d) turns ≡ Some at → Repeats (visits m (Some d) turns) ⊎ Apart (visits m (Some d) turns) → length turns ≤ 64
    from d e led (inl r) =
        let s = shorter m order d at turns led r in
        let leads : LeadsTo m a b s.others = record { at = at; is_at = l.leads.is_at; led = ap (λ o. led_to m o s.others) e ∙ s.led } in
        let was : no_up_after_down (map (is_up m order) (channels_on m (Some d) turns)) ≡ true = ap (λ o. no_up_after_down (map (is_up m order) (channels_on m o turns))) (sym e) ∙ l.legal in
        let legal : is_legal m order a s.others ≡ true = ap (λ o. no_up_after_down (map (is_up m order) (channels_on m o s.others))) e ∙ s.as_legal.legal was in
        let fewer = s.less in
        let shorter_length : nat_lt (length s.others) (length turns) ≡ true = grind (arith, nat_tests) in
        let first : walk_below s.others turns ≡ true = rw shorter_length refl in
        absurd (true≢false (sym first ∙ l.least s.others leads legal))
    from d e led (inr apart) =
        let v = are-visits m d at turns led in
        let few = few-switches n host m (visits m (Some d) turns) f there same apart v.switches in
        let most = f.few_switches in
        let long = v.each in
        omega (arith, few, most, long)

    by : (o : Option MapPort) → port_of_host m a ≡ o → led_to m o turns ≡ Some at → length turns ≤ 64
    by None e led = absurd (led-none m turns at led)
    by (Some d) e led = from d e led (repeats-or (visits m (Some d) turns))

pub least-all-short : (n : Network) (host : ℕ) (m : NetMap) (order : List ℕ) (routes : List Route) → IsFabric n → has_vertex n (Host host) ≡ true → IsMapOfPart n host m → AllByRecursion (λ r. IsLeastLegal m order r.from r.to r.walk) routes → AllByRecursion (λ r. length r.walk ≤ 64) routes
least-all-short n host m order [] f there same all = tt
least-all-short n host m order (r ∷ rs) f there same all = (least-short n host m order r.from r.to r.walk f there same all.0, least-all-short n host m order rs f there same all.1)
