-- What an acknowledgement finishes, and the oldest message that is finished.
use Rattle.std.proofs.Common.{◌≡◌, ◌≤◌, ◌<◌, ◌+◌, ◌-◌, ℕ, Bool, true, false, nat_lt, nat_le, max, List, [], ◌∷◌, ◌++◌, map, length, drop, Option, Some, None, refl, sym, ap, ◌∙◌, subst, arith, length-append, true≢false, if◌then◌else◌}
use Rattle.std.specs.Prelude.{slice_get}
use Rattle.std.specs.List.{AllByRecursion}
use Rattle.std.proofs.lemmas.Bool.Decides.{nat_tests}
use Rattle.std.proofs.lemmas.List.{map-append}
use Rattle.std.proofs.lemmas.Option.{same_Some, none-some}
use Rattle.net_defs.proofs.Distinct.{all-push}
use Rattle.gm_defs.specs.declared.message.Message.{Message}
use Rattle.gm_defs.specs.Body.{number_limit}
use Rattle.gm_defs.specs.Fragment.{fragments, piece_count, whole_below}
use Rattle.gm_defs.specs.Connection.{SenderState, is_taken, is_spent, offered}
use Rattle.gm_defs.proofs.Choices.{both}
use Rattle.gm_defs.proofs.Numbers.{some-piece, length-fragments, fragments-append, whole-late, more-below, below-up}
use Rattle.gm_conn.specs.declared.desc.Desc.{Desc}
use Rattle.gm_conn.specs.Halves.{Outgoing, IsOutgoing, IsOutgoingFrom, outgoing, is_desc, message_of, messages, first, finished, heard_ack, oldest_finished, without_finished, place_below, whole_at}
use Rattle.gm_conn.proofs.Messages.{pieces-of}
use Rattle.gm_conn.proofs.Waiting.{first-from, IsWholeAt, whole-at, none-at}

-- an acknowledgement that is taken finishes the messages up to its number, and one that isn't finishes none
pub heard-finished : (w : Outgoing) (n : ℕ) → is_taken w.numbers n ≡ true → finished (heard_ack w n) ≡ place_below w n
heard-finished w n e = λ i. finished (record w { numbers = if e i then record w.numbers { base = n; cursor = max w.numbers.cursor n } else w.numbers })

pub heard-none : (w : Outgoing) (n : ℕ) → is_taken w.numbers n ≡ false → finished (heard_ack w n) ≡ finished w
heard-none w n e = λ i. finished (record w { numbers = if e i then record w.numbers { base = n; cursor = max w.numbers.cursor n } else w.numbers })

-- as many more as lie below the greater number
pub finished-up : (w : Outgoing) (n : ℕ) → w.numbers.base ≤ n → place_below w w.numbers.base ≤ place_below w n
finished-up w n up = below-up (messages w) (w.numbers.base - first w) (n - first w) (omega (arith, up))

pub finished-by : (w : Outgoing) (n answer : ℕ) → is_taken w.numbers n ≡ true → w.numbers.base ≤ n → answer ≡ place_below w n - place_below w w.numbers.base → answer + finished w ≡ finished (heard_ack w n)
finished-by w n answer e up is = let all = heard-finished w n e in let more = finished-up w n up in omega (arith, all, more, is)

pub taken-up : (s : SenderState) (n : ℕ) → is_taken s n ≡ true → s.base ≤ n
taken-up s n e = let b = (both (nat_lt s.base n) (nat_le n s.top) e).0 in grind (arith, nat_tests)

-- and no more than the numbers after the first that waits
whole-most : (ms : List Message) (n : ℕ) → whole_below ms n ≤ n
whole-most [] n = omega arith
whole-most (m ∷ ms) n = by (nat_le (piece_count (length m.body)) n) refl (whole-most ms (n - piece_count (length m.body)))
  where
    by : (b : Bool) → nat_le (piece_count (length m.body)) n ≡ b → whole_below ms (n - piece_count (length m.body)) ≤ n - piece_count (length m.body)
        → (if b then 1 + whole_below ms (n - piece_count (length m.body)) else 0) ≤ n
    by true e rest =
        let room : piece_count (length m.body) ≤ n = grind (arith, nat_tests) in
        let some = some-piece (length m.body) in
        omega (arith, rest, room, some)
    by false e rest = omega arith

pub place-most : (w : Outgoing) (n : ℕ) → place_below w n ≤ n
place-most w n = let most = whole-most (messages w) (n - first w) in omega (arith, most)

-- The oldest message, where all its fragments are acknowledged.
pub record IsOldest (w : Outgoing) (pieces : ℕ) : Type 0 where
  pub desc : Desc
  pub rest : List Desc
  pub is : w.waiting ≡ desc ∷ rest
  pub many : piece_count desc.total ≡ pieces
  pub within : pieces ≤ w.numbers.base - first w
  pub some : nat_lt 0 (finished w) ≡ true

cut : {X : Type 0} (xs : List X) (x : X) → slice_get xs 0 ≡ Some x → xs ≡ x ∷ drop 1 xs
cut [] x e = absurd (none-some x e)
cut (y ∷ xs) x e = ap (λ z. z ∷ xs) (same_Some y x e)

pub oldest-is : (w : Outgoing) (pieces : ℕ) → whole_at w 0 (w.numbers.base - first w) ≡ Some pieces → IsOldest w pieces
oldest-is w pieces e =
    let one : IsWholeAt w 0 (w.numbers.base - first w) pieces = whole-at w 0 (w.numbers.base - first w) pieces e in
    let d : Desc = one.desc in
    let is : w.waiting ≡ d ∷ drop 1 w.waiting = cut w.waiting d one.there in
    let many = one.many in
    let long = pieces-of d in
    let inside = one.within in
    let all : finished w ≡ 1 + whole_below (map message_of (drop 1 w.waiting)) (w.numbers.base - first w - piece_count (length (message_of d).body)) =
    ap (λ l. whole_below (map message_of l) (w.numbers.base - first w)) is
    ∙ whole-late (message_of d) (map message_of (drop 1 w.waiting)) (w.numbers.base - first w) (omega (arith, many, long, inside)) in
    record { desc = d; rest = drop 1 w.waiting; is = is; many = many; within = inside; some = let up : 0 < finished w = omega (arith, all) in grind (arith, nat_tests) }

pub oldest-none : (w : Outgoing) → whole_at w 0 (w.numbers.base - first w) ≡ None → nat_lt 0 (finished w) ≡ false
oldest-none w e = let none : finished w ≡ 0 = none-at w 0 (w.numbers.base - first w) e in grind (arith, nat_tests)

-- the same of a sender that keeps the first number that waits as `from`
pub oldest-of : (from : ℕ) (v w : Outgoing) (pieces : ℕ) → v ≡ w → IsOutgoingFrom from v → whole_at w 0 (v.numbers.base - from) ≡ Some pieces → IsOldest v pieces
oldest-of from v w pieces same k e =
    oldest-is v pieces (ap (λ f. whole_at v 0 (v.numbers.base - f)) (sym (first-from from v k)) ∙ ap (λ x. whole_at x 0 (v.numbers.base - from)) same ∙ e)

pub none-of : (from : ℕ) (v w : Outgoing) → v ≡ w → IsOutgoingFrom from v → whole_at w 0 (v.numbers.base - from) ≡ None → nat_lt 0 (finished v) ≡ false
none-of from v w same k e = oldest-none v (ap (λ f. whole_at v 0 (v.numbers.base - f)) (sym (first-from from v k)) ∙ ap (λ x. whole_at x 0 (v.numbers.base - from)) same ∙ e)

-- there is one
pub oldest-there : (w : Outgoing) (pieces : ℕ) → IsOldest w pieces → 0 < length w.waiting
oldest-there w pieces h = let is = ap length h.is in omega (arith, is)

-- it is handed out, and the sender stands without it
pub oldest-out : (w : Outgoing) (pieces : ℕ) → IsOldest w pieces → oldest_finished w ≡ slice_get w.waiting 0
oldest-out w pieces h = λ i. if h.some i then slice_get w.waiting 0 else None

pub oldest-gone : (w : Outgoing) (pieces : ℕ) → IsOldest w pieces → without_finished w ≡ record w { waiting = drop 1 w.waiting; spare = w.spare + 1 }
oldest-gone w pieces h = λ i. if h.some i then record w { waiting = drop 1 w.waiting; spare = w.spare + 1 } else w

pub none-out : (w : Outgoing) → nat_lt 0 (finished w) ≡ false → oldest_finished w ≡ None
none-out w e = λ i. if e i then slice_get w.waiting 0 else None

pub none-gone : (w : Outgoing) → nat_lt 0 (finished w) ≡ false → without_finished w ≡ w
none-gone w e = λ i. if e i then record w { waiting = drop 1 w.waiting; spare = w.spare + 1 } else w

-- the fragments of what waits behind it
rest-fragments : (w : Outgoing) (pieces : ℕ) (h : IsOldest w pieces) → length (fragments (messages w)) ≡ pieces + length (fragments (map message_of h.rest))
rest-fragments w pieces h =
    let all : length (fragments (messages w)) ≡ piece_count (length (message_of h.desc).body) + length (fragments (map message_of h.rest)) =
    ap (λ l. length (fragments (map message_of l))) h.is ∙ length-fragments (message_of h.desc) (map message_of h.rest) in
    let long = pieces-of h.desc in
    let many = h.many in
    omega (arith, all, long, many)

-- where one is finished, one less is behind it
pub finished-less : (w : Outgoing) → IsOutgoing w → nat_lt 0 (finished w) ≡ true → finished (without_finished w) + 1 ≡ finished w
finished-less w kept some = by (whole_at w 0 (w.numbers.base - first w)) refl
  where
    by : (o : Option ℕ) → whole_at w 0 (w.numbers.base - first w) ≡ o → finished (without_finished w) + 1 ≡ finished w
    by None e = absurd (true≢false (sym some ∙ oldest-none w e))
    by (Some pieces) e =
        let h : IsOldest w pieces = oldest-is w pieces e in
        let v : Outgoing = record w { waiting = drop 1 w.waiting; spare = w.spare + 1 } in
        let m : Message = message_of h.desc in
        let behind : drop 1 w.waiting ≡ h.rest = ap (drop 1) h.is in
        let all = rest-fragments w pieces h in
        let left : length (fragments (messages v)) ≡ length (fragments (map message_of h.rest)) = ap (λ l. length (fragments (map message_of l))) behind in
        let long = pieces-of h.desc in
        let many = h.many in
        let inside = h.within in
        let counted = kept.counted in
        let whole : finished w ≡ 1 + whole_below (map message_of h.rest) (w.numbers.base - first w - piece_count (length m.body)) =
        ap (λ l. whole_below (map message_of l) (w.numbers.base - first w)) h.is ∙ whole-late m (map message_of h.rest) (w.numbers.base - first w) (omega (arith, many, long, inside)) in
        let step : w.numbers.base - first v ≡ w.numbers.base - first w - piece_count (length m.body) = omega (arith, all, left, counted, long, many, inside) in
        let rest : finished v ≡ whole_below (map message_of h.rest) (w.numbers.base - first w - piece_count (length m.body)) =
        ap (λ l. whole_below (map message_of l) (w.numbers.base - first v)) behind ∙ ap (whole_below (map message_of h.rest)) step in
        let gone : finished (without_finished w) ≡ finished v = ap finished (oldest-gone w pieces h) in
        omega (arith, whole, rest, gone)

-- a message that is offered isn't finished
pub finished-pushed : (v w : Outgoing) (d : Desc) → IsOutgoing v → w.numbers.base ≡ v.numbers.base → w.numbers.next ≡ v.numbers.next + piece_count d.total → w.waiting ≡ v.waiting ++ d ∷ [] → finished w ≡ finished v
finished-pushed v w d kept base next waiting =
    let all : messages w ≡ messages v ++ message_of d ∷ [] = ap (map message_of) waiting ∙ map-append message_of v.waiting (d ∷ []) in
    let longer : length (fragments (messages w)) ≡ length (fragments (messages v)) + length (fragments (message_of d ∷ [])) =
    ap (λ l. length (fragments l)) all ∙ ap length (fragments-append (messages v) (message_of d ∷ [])) ∙ length-append (fragments (messages v)) (fragments (message_of d ∷ [])) in
    let alone : length (fragments (message_of d ∷ [])) ≡ piece_count (length (message_of d).body) + 0 = length-fragments (message_of d) [] in
    let long = pieces-of d in
    let counted = kept.counted in
    let step : w.numbers.base - first w ≡ v.numbers.base - first v = omega (arith, base, next, longer, alone, long, counted) in
    let s = kept.sender in
    let a = s.base_below in
    let b = s.cursor_below in
    let c = s.top_below in
    let few : v.numbers.base - first v ≤ length (fragments (messages v)) = omega (arith, a, b, c, counted) in
    ap (whole_below (messages w)) step ∙ ap (λ l. whole_below l (v.numbers.base - first v)) all ∙ (more-below (messages v) (message_of d ∷ []) (v.numbers.base - first v) few).0

-- it keeps what a sender keeps
pub gone-kept : (w : Outgoing) (from pieces spare : ℕ) → IsOutgoingFrom from w → IsOldest w pieces → IsOutgoingFrom (from + pieces) (outgoing w.key w.numbers (drop 1 w.waiting) spare)
gone-kept w from pieces spare k h =
    let behind : drop 1 w.waiting ≡ h.rest = ap (drop 1) h.is in
    let all = rest-fragments w pieces h in
    let left : length (fragments (map message_of (drop 1 w.waiting))) ≡ length (fragments (map message_of h.rest)) = ap (λ l. length (fragments (map message_of l))) behind in
    let begins = k.begins in
    let counted = k.kept.counted in
    let waits = k.kept.waits in
    let inside = h.within in
    let rules : AllByRecursion (λ d. is_desc w.key d ≡ true) (h.desc ∷ h.rest) = subst (AllByRecursion (λ d. is_desc w.key d ≡ true)) h.is k.kept.by_rules in
    record {
      kept = record {
        sender = k.kept.sender;
        counted = omega (arith, counted, all, left);
        waits = omega (arith, begins, all, left, inside, waits);
        by_rules = subst (AllByRecursion (λ d. is_desc w.key d ≡ true)) (sym behind) rules.1;
      };
      begins = omega (arith, begins, all, left);
    }

-- ---- a message is offered
pub offer-kept : (w : Outgoing) (from : ℕ) (d : Desc) (spare : ℕ) → IsOutgoingFrom from w → is_desc w.key d ≡ true → is_spent w.numbers (piece_count d.total) ≡ false
    → IsOutgoingFrom from (outgoing w.key (offered w.numbers (piece_count d.total)) (w.waiting ++ d ∷ []) spare)
offer-kept w from d spare k rules room =
    let longer : length (fragments (map message_of (w.waiting ++ d ∷ []))) ≡ length (fragments (messages w)) + length (fragments (message_of d ∷ [])) =
    ap (λ l. length (fragments l)) (map-append message_of w.waiting (d ∷ [])) ∙ ap length (fragments-append (messages w) (message_of d ∷ [])) ∙ length-append (fragments (messages w)) (fragments (message_of d ∷ [])) in
    let alone : length (fragments (message_of d ∷ [])) ≡ piece_count (length (message_of d).body) + 0 = length-fragments (message_of d) [] in
    let long = pieces-of d in
    let begins = k.begins in
    let counted = k.kept.counted in
    let waits = k.kept.waits in
    let s = k.kept.sender in
    let top = s.top_below in
    let few : w.numbers.next + piece_count d.total ≤ number_limit = grind (arith, nat_tests) in
    record {
      kept = record {
        sender = record { base_below = s.base_below; cursor_below = s.cursor_below; top_below = omega (arith, top); in_range = few };
        counted = omega (arith, counted, longer, alone, long);
        waits = omega (arith, begins, longer, alone, long, waits);
        by_rules = all-push (λ x. is_desc w.key x ≡ true) w.waiting d k.kept.by_rules rules;
      };
      begins = omega (arith, begins, longer, alone, long);
    }
