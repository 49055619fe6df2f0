-- A sender's descriptors beside the messages that were sent: what is due is the frame of the fragment of its number.
use Rattle.std.proofs.Common.{◌≡◌, ◌≤◌, ◌<◌, ◌+◌, ◌-◌, ◌*◌, ℕ, suc, Bool, true, false, nat_lt, min, List, [], ◌∷◌, ◌++◌, map, length, take, drop, Option, Some, option_map, refl, sym, ap, ◌∙◌, arith, length-append}
use Rattle.std.specs.Prelude.{slice_get, option_and_then}
use Rattle.std.proofs.lemmas.Bool.Decides.{nat_tests}
use Rattle.std.proofs.lemmas.List.{take-append-drop}
use Rattle.std.proofs.lemmas.Option.{same_Some, none-some}
use Rattle.gm_defs.specs.declared.message.Message.{Message}
use Rattle.gm_defs.specs.declared.frame.ConnectionKey.{ConnectionKey}
use Rattle.gm_defs.specs.Body.{piece}
use Rattle.gm_defs.specs.Fragment.{Fragment, fragment_at, fragments, piece_count, whole_below, head_of}
use Rattle.gm_defs.proofs.Numbers.{length-fragments, fragments-append, get-behind, get-early, get-late, whole-early, whole-late, length-take, length-drop}
use Rattle.gm_conn.specs.declared.desc.Desc.{Desc}
use Rattle.gm_conn.specs.declared.desc.Due.{Due}
use Rattle.gm_conn.specs.Halves.{Outgoing, IsOutgoing, WaitsFor, message_of, messages, first, due_at, Describes, AreOf}
use Rattle.gm_conn.specs.Laws.{DueIsOfMessage}
use Rattle.gm_conn.proofs.Messages.{long-of}
use Rattle.gm_conn.proofs.Connections.{due-some}
use Rattle.gm_conn.proofs.Waiting.{first-behind}

-- they stay so as one is offered, and as the oldest is taken out
pub of-push : (ds : List Desc) (ms : List Message) (d : Desc) (m : Message) → AreOf ds ms → Describes d m → AreOf (ds ++ d ∷ []) (ms ++ m ∷ [])
of-push [] [] d m all h = (h, tt)
of-push [] (n ∷ ms) d m all h = absurd all
of-push (e ∷ ds) [] d m all h = absurd all
of-push (e ∷ ds) (n ∷ ms) d m all h = (all.0, of-push ds ms d m all.1 h)

pub of-drop : (ds : List Desc) (ms : List Message) → AreOf ds ms → AreOf (drop 1 ds) (drop 1 ms)
of-drop [] [] all = tt
of-drop [] (m ∷ ms) all = absurd all
of-drop (d ∷ ds) [] all = absurd all
of-drop (d ∷ ds) (m ∷ ms) all = all.1

-- there are as many of them, with as many fragments
pub of-count : (ds : List Desc) (ms : List Message) → AreOf ds ms → length ds ≡ length ms
of-count [] [] all = refl
of-count [] (m ∷ ms) all = absurd all
of-count (d ∷ ds) [] all = absurd all
of-count (d ∷ ds) (m ∷ ms) all = ap suc (of-count ds ms all.1)

pub same-long : (d : Desc) (m : Message) → Describes d m → length (message_of d).body ≡ length m.body
same-long d m h = long-of d ∙ h.total

pub of-fragments : (ds : List Desc) (ms : List Message) → AreOf ds ms → length (fragments (map message_of ds)) ≡ length (fragments ms)
of-fragments [] [] all = refl
of-fragments [] (m ∷ ms) all = absurd all
of-fragments (d ∷ ds) [] all = absurd all
of-fragments (d ∷ ds) (m ∷ ms) all =
    let one = ap piece_count (same-long d m all.0) in
    let rest = of-fragments ds ms all.1 in
    let a = length-fragments (message_of d) (map message_of ds) in
    let b = length-fragments m ms in
    omega (arith, one, rest, a, b)

-- so as many lie wholly below a number
pub of-below : (ds : List Desc) (ms : List Message) (n : ℕ) → AreOf ds ms → whole_below (map message_of ds) n ≡ whole_below ms n
of-below [] [] n all = refl
of-below [] (m ∷ ms) n all = absurd all
of-below (d ∷ ds) [] n all = absurd all
of-below (d ∷ ds) (m ∷ ms) n all = by (nat_lt n (piece_count (length m.body))) refl (of-below ds ms (n - piece_count (length m.body)) all.1)
  where
    one : piece_count (length (message_of d).body) ≡ piece_count (length m.body)
    one = ap piece_count (same-long d m all.0)

    by : (b : Bool) → nat_lt n (piece_count (length m.body)) ≡ b → whole_below (map message_of ds) (n - piece_count (length m.body)) ≡ whole_below ms (n - piece_count (length m.body))
        → whole_below (map message_of (d ∷ ds)) n ≡ whole_below (m ∷ ms) n
    by true t rest =
        let low : n < piece_count (length m.body) = grind (arith, nat_tests) in
        let o = one in
        whole-early (message_of d) (map message_of ds) n (omega (arith, low, o)) ∙ sym (whole-early m ms n low)
    by false t rest =
        let past : piece_count (length m.body) ≤ n = grind (arith, nat_tests) in
        let o = one in
        whole-late (message_of d) (map message_of ds) n (omega (arith, past, o)) ∙ ap (λ k. 1 + whole_below (map message_of ds) (n - k)) o ∙ ap (λ k. 1 + k) rest ∙ sym (whole-late m ms n past)

-- what is due of descriptors at a number among their fragments
abbrev pub due_in : ConnectionKey → ℕ → List Desc → ℕ → ℕ → Option Due
due_in c seq ds place k = option_and_then (λ g. option_map (λ d. record { head = head_of c seq g; ticket = d.ticket }) (slice_get ds place)) (slice_get (fragments (map message_of ds)) k)

-- the descriptor that holds a fragment, and what is due of it
pub record IsDueOf (c : ConnectionKey) (seq : ℕ) (ds : List Desc) (place k : ℕ) (f : Fragment) : Type 0 where
  pub desc : Desc
  pub there : slice_get ds place ≡ Some desc
  pub stated : due_in c seq ds place k ≡ Some (record { head = head_of c seq f; ticket = desc.ticket })

-- the head of a descriptor's fragment at an offset is that of the message's
same-head : (c : ConnectionKey) (seq : ℕ) (d : Desc) (m : Message) (offset : ℕ) → Describes d m → head_of c seq (fragment_at (message_of d) offset) ≡ head_of c seq (fragment_at m offset)
same-head c seq d m offset h =
    let long : length (take piece (drop offset (message_of d).body)) ≡ length (take piece (drop offset m.body)) =
    length-take piece (drop offset (message_of d).body) ∙ ap (min piece) (length-drop offset (message_of d).body ∙ ap (λ n. n - offset) (same-long d m h) ∙ sym (length-drop offset m.body))
    ∙ sym (length-take piece (drop offset m.body)) in
    λ i. record { src = c.src; dst = c.dst; sport = h.sport i; dport = h.dport i; prio = h.prio i; seq = seq; total = same-long d m h i; offset = offset; len = long i }

pub of-fragment : (c : ConnectionKey) (seq : ℕ) (ds : List Desc) (ms : List Message) (k : ℕ) (f : Fragment) → AreOf ds ms → slice_get (fragments ms) k ≡ Some f → IsDueOf c seq ds (whole_below ms k) k f
of-fragment c seq [] [] k f all e = absurd (none-some f e)
of-fragment c seq [] (m ∷ ms) k f all e = absurd all
of-fragment c seq (d ∷ ds) [] k f all e = absurd all
of-fragment c seq (d ∷ ds) (m ∷ ms) k f all e = by (nat_lt k (piece_count (length m.body))) refl (of-fragment c seq ds ms (k - piece_count (length m.body)) f all.1)
  where
    one : piece_count (length (message_of d).body) ≡ piece_count (length m.body)
    one = ap piece_count (same-long d m all.0)

    by : (b : Bool) → nat_lt k (piece_count (length m.body)) ≡ b
        → (slice_get (fragments ms) (k - piece_count (length m.body)) ≡ Some f → IsDueOf c seq ds (whole_below ms (k - piece_count (length m.body))) (k - piece_count (length m.body)) f)
        → IsDueOf c seq (d ∷ ds) (whole_below (m ∷ ms) k) k f
    by true t rest =
        let low : k < piece_count (length m.body) = grind (arith, nat_tests) in
        let o = one in
        let mine : slice_get (fragments (map message_of (d ∷ ds))) k ≡ Some (fragment_at (message_of d) (k * piece)) = get-early (message_of d) (map message_of ds) k (omega (arith, low, o)) in
        let same : fragment_at m (k * piece) ≡ f = same_Some (fragment_at m (k * piece)) f (sym (get-early m ms k low) ∙ e) in
        let place : whole_below (m ∷ ms) k ≡ 0 = whole-early m ms k low in
        record {
          desc = d;
          there = ap (slice_get (d ∷ ds)) place;
          stated = ap (λ p. due_in c seq (d ∷ ds) p k) place
              ∙ ap (option_and_then (λ g. option_map (λ x. record { head = head_of c seq g; ticket = x.ticket }) (slice_get (d ∷ ds) 0))) mine
              ∙ ap (λ h. Some (record { head = h; ticket = d.ticket })) (same-head c seq d m (k * piece) all.0)
              ∙ ap (λ g. Some (record { head = head_of c seq g; ticket = d.ticket })) same;
        }
    by false t rest =
        let past : piece_count (length m.body) ≤ k = grind (arith, nat_tests) in
        let o = one in
        let r = rest (sym (get-late m ms k past) ∙ e) in
        let below : ℕ = whole_below ms (k - piece_count (length m.body)) in
        let place : whole_below (m ∷ ms) k ≡ suc below = whole-late m ms k past ∙ (let x : 1 + below ≡ suc below = omega arith in x) in
        let mine : slice_get (fragments (map message_of (d ∷ ds))) k ≡ slice_get (fragments (map message_of ds)) (k - piece_count (length m.body)) =
        get-late (message_of d) (map message_of ds) k (omega (arith, past, o)) ∙ ap (λ n. slice_get (fragments (map message_of ds)) (k - n)) o in
        record {
          desc = r.desc;
          there = ap (slice_get (d ∷ ds)) place ∙ r.there;
          stated = ap (λ p. due_in c seq (d ∷ ds) p k) place
              ∙ ap (option_and_then (λ g. option_map (λ x. record { head = head_of c seq g; ticket = x.ticket }) (slice_get ds below))) mine
              ∙ r.stated;
        }

-- ---- among all that were sent

-- the last messages of a list
module _ (sent : List Message) (s : ℕ) where
  cut : sent ≡ take s sent ++ drop s sent
  cut = sym (take-append-drop s sent)

  pub cut-count : length (fragments sent) ≡ length (fragments (take s sent)) + length (fragments (drop s sent))
  cut-count = ap (λ l. length (fragments l)) cut ∙ ap length (fragments-append (take s sent) (drop s sent)) ∙ length-append (fragments (take s sent)) (fragments (drop s sent))

  -- a number after the fragments of those before
  pub cut-get : (k : ℕ) → slice_get (fragments sent) (length (fragments (take s sent)) + k) ≡ slice_get (fragments (drop s sent)) k
  cut-get k = ap (λ l. slice_get (fragments l) (length (fragments (take s sent)) + k)) cut ∙ ap (λ l. slice_get l (length (fragments (take s sent)) + k)) (fragments-append (take s sent) (drop s sent))
      ∙ get-behind (fragments (take s sent)) (fragments (drop s sent)) k

-- so many more lie wholly below it
pub below-behind : (xs ys : List Message) (k : ℕ) → whole_below (xs ++ ys) (length (fragments xs) + k) ≡ length xs + whole_below ys k
below-behind [] ys k = let e : 0 + k ≡ k = omega arith in ap (whole_below ys) e ∙ (let z : whole_below ys k ≡ 0 + whole_below ys k = omega arith in z)
below-behind (m ∷ xs) ys k =
    let long = length-fragments m xs in
    let past : piece_count (length m.body) ≤ length (fragments (m ∷ xs)) + k = omega (arith, long) in
    let step : length (fragments (m ∷ xs)) + k - piece_count (length m.body) ≡ length (fragments xs) + k = omega (arith, long) in
    let rest : whole_below (xs ++ ys) (length (fragments (m ∷ xs)) + k - piece_count (length m.body)) ≡ length xs + whole_below ys k = ap (whole_below (xs ++ ys)) step ∙ below-behind xs ys k in
    let all : whole_below (m ∷ (xs ++ ys)) (length (fragments (m ∷ xs)) + k) ≡ 1 + whole_below (xs ++ ys) (length (fragments (m ∷ xs)) + k - piece_count (length m.body)) =
    whole-late m (xs ++ ys) (length (fragments (m ∷ xs)) + k) past in
    omega (arith, all, rest)

-- what waits is of the last messages: so many were sent before, and the first fragment that waits is the one after theirs
pub record IsLast (w : Outgoing) (sent : List Message) : Type 0 where
  pub few : length w.waiting ≤ length sent
  pub before : length (take (length sent - length w.waiting) sent) ≡ length sent - length w.waiting
  pub first_is : length (fragments (take (length sent - length w.waiting) sent)) ≡ first w

pub waits-last : (w : Outgoing) (sent : List Message) → IsOutgoing w → WaitsFor w sent → length (fragments sent) ≡ w.numbers.next → IsLast w sent
waits-last w sent kept waits numbered =
    let s : ℕ = length sent - length w.waiting in
    let count : length w.waiting ≡ length (drop s sent) = of-count w.waiting (drop s sent) waits in
    let left = length-drop s sent in
    let front = length-take s sent in
    let all = cut-count sent s in
    let mine = of-fragments w.waiting (drop s sent) waits in
    let behind = first-behind w kept in
    record { few = omega (arith, count, left); before = omega (arith, front); first_is = omega (arith, all, mine, behind, numbered) }

-- how many lie wholly below a number among all, and among those that wait
pub below-waiting : (w : Outgoing) (sent : List Message) (n : ℕ) → IsOutgoing w → WaitsFor w sent → length (fragments sent) ≡ w.numbers.next → first w ≤ n
    → whole_below sent n ≡ length sent - length w.waiting + whole_below (messages w) (n - first w)
below-waiting w sent n kept waits numbered low =
    let s : ℕ = length sent - length w.waiting in
    let l = waits-last w sent kept waits numbered in
    let begins = l.first_is in
    let at : n ≡ length (fragments (take s sent)) + (n - first w) = omega (arith, begins, low) in
    let all : whole_below sent n ≡ length (take s sent) + whole_below (drop s sent) (n - first w) =
    ap (whole_below sent) at ∙ ap (λ l. whole_below l (length (fragments (take s sent)) + (n - first w))) (sym (take-append-drop s sent)) ∙ below-behind (take s sent) (drop s sent) (n - first w) in
    let mine = of-below w.waiting (drop s sent) (n - first w) waits in
    let before = l.before in
    omega (arith, all, mine, before)

-- what is due is the frame of the fragment of its number among all that were sent
pub due-of-message : DueIsOfMessage
due-of-message w sent n f kept waits numbered e there =
    let s : ℕ = length sent - length w.waiting in
    let number = (due-some w.numbers n e).number in
    let up = kept.sender.base_below in
    let low = kept.waits in
    let behind : first w ≤ n = omega (arith, number, up, low) in
    let l = waits-last w sent kept waits numbered in
    let begins = l.first_is in
    let at : n ≡ length (fragments (take s sent)) + (n - first w) = omega (arith, begins, behind) in
    let here : slice_get (fragments (drop s sent)) (n - first w) ≡ Some f = sym (cut-get sent s (n - first w)) ∙ ap (slice_get (fragments sent)) (sym at) ∙ there in
    let d : IsDueOf w.key n w.waiting (whole_below (drop s sent) (n - first w)) (n - first w) f = of-fragment w.key n w.waiting (drop s sent) (n - first w) f waits here in
    let mine : whole_below (messages w) (n - first w) ≡ whole_below (drop s sent) (n - first w) = of-below w.waiting (drop s sent) (n - first w) waits in
    let all = below-waiting w sent n kept waits numbered behind in
    let place : whole_below sent n - s ≡ whole_below (drop s sent) (n - first w) = omega (arith, all, mine) in (
      d.desc,
      ap (slice_get w.waiting) place ∙ d.there,
      ap (option_and_then (due_at w)) e ∙ ap (λ p. due_in w.key n w.waiting p (n - first w)) mine ∙ d.stated,
    )
