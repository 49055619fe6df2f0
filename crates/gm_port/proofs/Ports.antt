-- The whole port, after each of its calls.
use Rattle.std.proofs.Common.{◌≡◌, ℕ, ◌+◌, ◌<◌, ◌≤◌, Bool, true, false, List, [], ◌∷◌, ◌++◌, length, map, drop, Option, Some, None, IsSome, IfSome, is_some, refl, sym, ap, subst, ◌∙◌, true≢false, arith, length-append, if◌then◌else◌}
use Rattle.std.specs.Prelude.{find, option_map}
use Rattle.std.specs.List.{AllByRecursion}
use Rattle.std.proofs.lemmas.Bool.Decides.{nat_tests}
use Rattle.std.proofs.lemmas.List.{length-map}
use Rattle.net_defs.proofs.Distinct.{all-push}
use Rattle.reg_mem.specs.Written.{written}
use Rattle.gm_tokens.specs.Token.{Token}
use Rattle.gm_defs.specs.declared.frame.FrameHead.{FrameHead}
use Rattle.gm_defs.specs.Body.{is_last, is_head}
use Rattle.gm_defs.specs.Token.{Sending, Provided, PortEvent, Sent, Received, PortState, HasOneOwner, AreFilling, room, place_of_send, place_of_recv, received_tokens, recvs_out, taker, can_take}
use Rattle.gm_defs.specs.Port.{with_send, without_first, filled, filling_with, finished, ended_by, ended_with, going_on_with, delivered, taken_by, provided_with, is_bad_size, is_short}
use Rattle.gm_defs.proofs.Found.{all-left, all-replaced}
use Rattle.gm_port.specs.declared.event.ProvidedToken.{ProvidedToken}
use Rattle.gm_port.specs.Held.{Sends, Buffers, Events, send_at, provided_at}
use Rattle.gm_port.specs.Lists.{taking, filled_by, filled_in}
use Rattle.gm_port.specs.Opened.{OpenPort, IsPort, state_of}
use Rattle.gm_port.specs.Table.{is_of}
use Rattle.gm_port.specs.Refusal.{provide_refusal}
use Rattle.gm_port.specs.declared.ask.ProvideRefusal.TheVariants.{BadSize, BufferShort}
use Rattle.gm_port.proofs.Owner.{sent_with-one, provided_with-one, finished-one, delivered-one, polled-one, few-numbers, few-events, found-token}
use Rattle.gm_port.proofs.Bytes.{fragment-in-place}
use Rattle.gm_port.proofs.Heads.{head-within}
use Rattle.gm_port.proofs.Filling.{taker-roomy, provided-filling, delivered-filling}

-- a buffer that isn't refused has the bytes of its size
pub provide-sized : (b : List ℕ) (size prio : ℕ) → provide_refusal b size prio ≡ None → room size ≤ length b
provide-sized b size prio e = by (is_bad_size size prio) refl (is_short b (room size)) refl
  where
    by : (x : Bool) → is_bad_size size prio ≡ x → (y : Bool) → is_short b (room size) ≡ y → room size ≤ length b
    by true f y g = absurd (let h : provide_refusal b size prio ≡ Some BadSize = rw f refl in cc)
    by false f true g = absurd (let h : provide_refusal b size prio ≡ Some BufferShort = rw f (rw g refl) in cc)
    by false f false g = grind (arith, nat_tests)

module _ (s : Sends) (b : Buffers) (e : Events) (q : IsPort s b e) where
  abbrev now : PortState
  now = state_of s b e

  -- a send was taken in
  pub sent-port : (t : ℕ) (buffer : List ℕ) (after : Sends) → after ≡ record s { sends = with_send (record { token = t; buffer = buffer }) s.sends } → t < s.limit → place_of_send now t ≡ None → IsPort after b e
  sent-port t buffer after is lt none =
      subst (λ (w : Sends). IsPort w b e) (sym is) (record {
        buffers_host = q.buffers_host;
        buffers_port = q.buffers_port;
        events_host = q.events_host;
        events_port = q.events_port;
        one_owner = sent_with-one now t buffer q.one_owner lt none;
        sized = q.sized;
        filling = record { right = q.filling.right; once = q.filling.once };
        event_room = q.event_room;
      })

  -- a token was provided
  pub provided-room : (r : Provided) → r.token < b.limit → place_of_recv now r.token ≡ None → length b.provided < b.limit
  provided-room r lt none =
      let one : HasOneOwner (provided_with now r) = provided_with-one now r q.one_owner lt none in
      let few : length (recvs_out (provided_with now r)) ≤ b.limit = few-numbers (recvs_out (provided_with now r)) b.limit one.recvs_once one.recvs_below in
      let all = length-append (map (λ (x : Provided). x.token) (b.provided ++ r ∷ [])) (received_tokens e.events) in
      let mapped = length-map (b.provided ++ r ∷ []) (λ (x : Provided). x.token) in
      let more = length-append b.provided (r ∷ []) in
      omega (arith, few, all, mapped, more)

  pub provided-port : (r : Provided) (after : Buffers) → after ≡ record b { provided = b.provided ++ r ∷ [] } → r.token < b.limit → place_of_recv now r.token ≡ None → room r.size ≤ length r.buffer → r.filling ≡ None → IsPort s after e
  provided-port r after is lt none long none_held =
      subst (λ (w : Buffers). IsPort s w e) (sym is) (record {
        buffers_host = q.buffers_host;
        buffers_port = q.buffers_port;
        events_host = q.events_host;
        events_port = q.events_port;
        one_owner = provided_with-one now r q.one_owner lt none;
        sized = all-push (λ (x : Provided). room x.size ≤ length x.buffer) b.provided r q.sized long;
        filling = provided-filling now r q.filling none_held;
        event_room = q.event_room;
      })

  -- a send is finished
  module _ (n : ℕ) (pair : Token × List ℕ) (taken : option_map (send_at s.host s.port) (find (is_of n) s.sends) ≡ Some pair) where
    abbrev behind : List PortEvent
    behind = e.events ++ Sent pair.0.number pair.1 ∷ []

    abbrev unfinished : List Sending
    unfinished = without_first (is_of n) s.sends

    pub finish-state : finished now n ≡ record now { queue = unfinished; events = behind }
    finish-state = by (find (is_of n) s.sends) refl taken
      where
        by : (f : Option Sending) → find (is_of n) s.sends ≡ f → option_map (send_at s.host s.port) f ≡ Some pair → ended_by now n f ≡ record now { queue = unfinished; events = behind }
        by None g h = absurd (let k : None ≡ Some pair = h in cc)
        by (Some x) g h =
            let it : send_at s.host s.port x ≡ pair = cc in
            let token : n ≡ pair.0.number = sym (found-token n s.sends x g) ∙ ap (λ (u : Token × List ℕ). u.0.number) it in
            let bytes : x.buffer ≡ pair.1 = ap (λ (u : Token × List ℕ). u.1) it in
            let event : Sent n x.buffer ≡ Sent pair.0.number pair.1 = cc in
            ap (λ (v : PortEvent). record now { queue = unfinished; events = e.events ++ v ∷ [] }) event

    finish-one : HasOneOwner (record now { queue = unfinished; events = behind })
    finish-one = subst HasOneOwner finish-state (finished-one now n q.one_owner)

    pub finish-room : length e.events < e.limit
    finish-room =
        let few : length behind ≤ s.limit + b.limit = few-events _ finish-one in
        let more = length-append e.events (Sent pair.0.number pair.1 ∷ []) in
        let wide : s.limit + b.limit ≤ e.limit = q.event_room in
        omega (arith, few, more, wide)

    pub finish-port : (after : Sends) (events : Events) → after ≡ record s { sends = unfinished } → events ≡ record e { events = behind } → IsPort after b events
    finish-port after events is es =
        subst (λ (w : Sends). IsPort w b events) (sym is) (subst (λ (w : Events). IsPort (record s { sends = unfinished }) b w) (sym es) (record {
          buffers_host = q.buffers_host;
          buffers_port = q.buffers_port;
          events_host = q.events_host;
          events_port = q.events_port;
          one_owner = finish-one;
          sized = q.sized;
          filling = record { right = q.filling.right; once = q.filling.once };
          event_room = q.event_room;
        }))

    -- a finished send, as contracts see it
    pub finish-seen : (after : Sends) (events : Events) → after ≡ record s { sends = unfinished } → events ≡ record e { events = behind } → (old : OpenPort) → record { host = s.host; port = s.port; state = now } ≡ old → record { host = after.host; port = after.port; state = state_of after b events } ≡ record old { state = finished old.state n }
    finish-seen after events is es old v =
        let see : Sends → Events → OpenPort = λ t u. record { host = t.host; port = t.port; state = state_of t b u } in
        let put : see after events ≡ see (record s { sends = unfinished }) (record e { events = behind }) = cc in
        let done : see (record s { sends = unfinished }) (record e { events = behind }) ≡ record (see s e) { state = finished now n } = ap (λ (w : PortState). let p : OpenPort = record { host = s.host; port = s.port; state = w } in p) (sym finish-state) in
        put ∙ done ∙ ap (λ (w : OpenPort). record w { state = finished w.state n }) v

  -- a message's last fragment was taken
  module _ (h : FrameHead) (part : List ℕ) (r : ProvidedToken) (taken : option_map (provided_at b.host b.port) (find (taking h b.provided) b.provided) ≡ Some r) (rules : is_head h ≡ true) (long : length part ≡ h.len) (last : is_last h.total h.offset ≡ true) where
    abbrev added : List PortEvent
    added = e.events ++ Received r.token.number (filled r.buffer h.offset part) h.src h.sport h.prio h.total ∷ []

    abbrev left : List Provided
    left = without_first (taking h b.provided) b.provided

    -- which token it was
    record IsTaken : Type 0 where
      token : Provided
      there : taker now h ≡ Some token
      is : provided_at b.host b.port token ≡ r

    it : IsTaken
    it = by (find (taking h b.provided) b.provided) refl taken
      where
        by : (f : Option Provided) → find (taking h b.provided) b.provided ≡ f → option_map (provided_at b.host b.port) f ≡ Some r → IsTaken
        by None g k = absurd (let n : None ≡ Some r = k in cc)
        by (Some x) g k = let same : provided_at b.host b.port x ≡ r = cc in record { token = x; there = g; is = same }

    pub deliver-fits : h.offset + length part ≤ length r.buffer
    deliver-fits =
        let wide = taker-roomy now h it.token q.filling it.there q.sized in
        let same : length it.token.buffer ≡ length r.buffer = ap (λ (y : ProvidedToken). length y.buffer) it.is in
        let inside = head-within h rules in
        let a = inside.offset in
        let c = inside.len in
        omega (arith, wide, same, a, c, long)

    pub deliver-state : delivered now h part ≡ record now { provided = left; events = added }
    deliver-state =
        ap (taken_by now h part) it.there ∙ ap (λ (t : Bool). if t then ended_with now h part it.token else going_on_with now h part it.token) last
        ∙ ap (λ (y : ProvidedToken). record now { provided = left; events = e.events ++ Received y.token.number (filled y.buffer h.offset part) h.src h.sport h.prio h.total ∷ [] }) it.is

    deliver-one : HasOneOwner (record now { provided = left; events = added })
    deliver-one = subst HasOneOwner deliver-state (delivered-one now h part q.one_owner)

    pub deliver-room : length e.events < e.limit
    deliver-room =
        let few : length added ≤ s.limit + b.limit = few-events _ deliver-one in
        let more = length-append e.events (Received r.token.number (filled r.buffer h.offset part) h.src h.sport h.prio h.total ∷ []) in
        let wide : s.limit + b.limit ≤ e.limit = q.event_room in
        omega (arith, few, more, wide)

    pub deliver-port : (buffer : List ℕ) (after : Buffers) (events : Events) → buffer ≡ written r.buffer h.offset part → after ≡ record b { provided = left } → events ≡ record e { events = e.events ++ Received r.token.number buffer h.src h.sport h.prio h.total ∷ [] } → IsPort s after events
    deliver-port buffer after events fill is es =
        let put : events ≡ record e { events = added } = es ∙ ap (λ (u : List ℕ). record e { events = e.events ++ Received r.token.number u h.src h.sport h.prio h.total ∷ [] }) fill in
        subst (λ (w : Buffers). IsPort s w events) (sym is) (subst (λ (w : Events). IsPort s (record b { provided = left }) w) (sym put) (record {
          buffers_host = q.buffers_host;
          buffers_port = q.buffers_port;
          events_host = q.events_host;
          events_port = q.events_port;
          one_owner = deliver-one;
          sized = all-left (λ (y : Provided). room y.size ≤ length y.buffer) (taking h b.provided) b.provided q.sized;
          filling = subst AreFilling deliver-state (delivered-filling now h part q.filling q.sized rules long);
          event_room = q.event_room;
        }))

    -- the message in its event, as contracts see it
    pub deliver-seen : (buffer : List ℕ) (after : Buffers) (events : Events) → buffer ≡ written r.buffer h.offset part → after ≡ record b { provided = left } → events ≡ record e { events = e.events ++ Received r.token.number buffer h.src h.sport h.prio h.total ∷ [] } → state_of s after events ≡ delivered now h part
    deliver-seen buffer after events fill is es =
        let put : events ≡ record e { events = added } = es ∙ ap (λ (u : List ℕ). record e { events = e.events ++ Received r.token.number u h.src h.sport h.prio h.total ∷ [] }) fill in
        (λ i. state_of s (is i) (put i)) ∙ sym deliver-state

  -- an earlier fragment was taken
  module _ (h : FrameHead) (part : List ℕ) (takes : can_take now h ≡ true) (rules : is_head h ≡ true) (long : length part ≡ h.len) (earlier : is_last h.total h.offset ≡ false) where
    -- the token that takes it
    chosen : (x : Provided) × (taker now h ≡ Some x)
    chosen = by (taker now h) refl takes
      where
        by : (o : Option Provided) → taker now h ≡ o → is_some o ≡ true → (x : Provided) × (taker now h ≡ Some x)
        by (Some x) f t = (x, f)
        by None f t = absurd (true≢false (sym t))

    pub fill-found : IsSome (find (taking h b.provided) b.provided)
    fill-found = takes

    pub fill-room : IfSome (find (taking h b.provided) b.provided) (λ r. h.offset + length part ≤ length r.buffer)
    fill-room =
        let wide = taker-roomy now h chosen.0 q.filling chosen.1 q.sized in
        let inside = head-within h rules in
        let a = inside.offset in
        let c = inside.len in
        let fits : h.offset + length part ≤ length chosen.0.buffer = omega (arith, wide, a, c, long) in
        subst (λ o. IfSome o (λ r. h.offset + length part ≤ length r.buffer)) (sym chosen.1) fits

    pub fill-within : h.offset + length part ≤ h.total
    fill-within = let inside = head-within h rules in let a = inside.offset in let c = inside.len in omega (arith, a, c, long)

    pub fill-state : delivered now h part ≡ record now { provided = filled_in h part b.provided }
    fill-state =
        ap (taken_by now h part) chosen.1 ∙ ap (λ (t : Bool). if t then ended_with now h part chosen.0 else going_on_with now h part chosen.0) earlier
        ∙ ap (λ (l : List Provided). record now { provided = l }) (sym (ap (filled_by h part b.provided) chosen.1))

    -- the buffer of a token that took a fragment is as long as before
    same-long : length (filling_with h part chosen.0).buffer ≡ length chosen.0.buffer
    same-long =
        let wide = taker-roomy now h chosen.0 q.filling chosen.1 q.sized in
        let low = fill-within in
        (fragment-in-place chosen.0.buffer part h.offset (omega (arith, wide, low))).same_length

    sized-after : AllByRecursion (λ (y : Provided). room y.size ≤ length y.buffer) (filled_in h part b.provided)
    sized-after =
        subst (AllByRecursion (λ (y : Provided). room y.size ≤ length y.buffer)) (sym (ap (filled_by h part b.provided) chosen.1))
        (all-replaced (λ (y : Provided). room y.size ≤ length y.buffer) (taking h b.provided) b.provided chosen.0 (filling_with h part chosen.0) chosen.1 (λ old. let same = same-long in omega (arith, old, same)) q.sized)

    pub fill-port : (after : Buffers) → after ≡ record b { provided = filled_in h part b.provided } → IsPort s after e
    fill-port after is =
        subst (λ (w : Buffers). IsPort s w e) (sym is) (record {
          buffers_host = q.buffers_host;
          buffers_port = q.buffers_port;
          events_host = q.events_host;
          events_port = q.events_port;
          one_owner = subst HasOneOwner fill-state (delivered-one now h part q.one_owner);
          sized = sized-after;
          filling = subst AreFilling fill-state (delivered-filling now h part q.filling q.sized rules long);
          event_room = q.event_room;
        })

    pub fill-seen : (after : Buffers) → after ≡ record b { provided = filled_in h part b.provided } → state_of s after e ≡ delivered now h part
    fill-seen after is = ap (λ (w : Buffers). state_of s w e) is ∙ sym fill-state

  -- an event was polled
  pub poll-port : (events : Events) → events ≡ record e { events = drop 1 e.events } → IsPort s b events
  poll-port events es =
      subst (λ (w : Events). IsPort s b w) (sym es) (record {
        buffers_host = q.buffers_host;
        buffers_port = q.buffers_port;
        events_host = q.events_host;
        events_port = q.events_port;
        one_owner = polled-one now q.one_owner;
        sized = q.sized;
        filling = record { right = q.filling.right; once = q.filling.once };
        event_room = q.event_room;
      })
