-- One end becomes another: by what its periods, its numbers and its sends become.
use Rattle.std.proofs.Common.{◌≡◌, ◌<◌, ◌≤◌, ◌+◌, ◌⊎◌, inl, inr, ℕ, Bool, true, false, List, [], ◌∷◌, ◌++◌, length, Some, refl, sym, ap, ◌∙◌, subst, arith, append_assoc, if◌then◌else◌}
use Rattle.std.specs.Prelude.{slice_get}
use Rattle.std.specs.List.{AllByRecursion}
use Rattle.std.proofs.lemmas.List.{length-append, append-nil}
use Rattle.net_defs.proofs.Distinct.{all-push, all-weaker}
use Rattle.gm_defs.specs.Body.{number_limit}
use Rattle.gm_defs.specs.Connection.{SenderState, IsSender}
use Rattle.gm_defs.specs.Token.{PortState}
use Rattle.gm_defs.specs.declared.message.Message.{Message}
use Rattle.world_defs.specs.Lane.{LaneState}
use Rattle.world_defs.specs.Client.{ClientState}
use Rattle.world_defs.specs.Sound.{IsPrefix}
use Rattle.duo_defs.specs.Duo.{Period, Returned, EndState, new_period, periods, is_of, period_in, sent_in, got_in}
use Rattle.duo_defs.specs.Theorem.{IsShort}
use Rattle.duo_laws.proofs.Lists.{get-behind}
use Rattle.duo_laws.proofs.Periods.{IsBefore, all-later, of-inc, of-known, Grow, grow-present, grow-new, grow-introduced, SameGot, same-present, same-introduced}
use Rattle.duo_laws.proofs.Bodies.{AreShort}
use Rattle.duo_laws.proofs.Ends.{IsPeriod, IsLane, IsEnd, IsReturnedRight, Flows, Later, Change}

-- An end with its peer, as both are before an event at it.
pub record Sides (a b : EndState) : Type 0 where
  pub mine : IsEnd a
  pub theirs : IsEnd b
  pub out : Flows a b
  pub into : Flows b a

-- the prefix stays where the sender grows
prefix-grows : (xs ys zs more : List Message) → ys ≡ xs ++ more → IsPrefix zs xs → IsPrefix zs ys
prefix-grows xs ys zs more e p = record { rest = p.rest ++ more; both = e ∙ (ap (λ l. l ++ more) p.both ∙ append_assoc zs p.rest more) }

-- what goes out, where the end has grown
pub out-later : (a e b : EndState) → Flows a b → Later a e → (0 < e.present.known → e.present.lane.sender.base ≤ length (got_in b e.present.known e.present.inc))
    → e.present.known ≤ b.present.inc → AllByRecursion (IsReturnedRight e.present.inc b) e.returned → Flows e b
out-later a e b f l base known returned = record {
  prefix = λ i j h. let g = l.grow.each i j h in prefix-grows (sent_in a i j) (sent_in e i j) (got_in b j i) g.sent_more g.sent (f.prefix i j h);
  base = base;
  known = known;
  returned = returned;
}

-- what comes in, where what was got is the same
pub into-same : (a e b : EndState) → Flows b a → a.present.inc ≤ e.present.inc → SameGot (periods a) (periods e) → Flows b e
into-same a e b f inc s = record {
  prefix = λ i j h. subst (λ l. IsPrefix l (sent_in b i j)) (sym (s.each j i)) (f.prefix i j h);
  base = λ h. subst (λ l. b.present.lane.sender.base ≤ length l) (sym (s.each b.present.known b.present.inc)) (f.base h);
  known = let k = f.known in omega (arith, k, inc);
  returned = all-weaker (IsReturnedRight b.present.inc a) (IsReturnedRight b.present.inc e) b.returned right f.returned;
}
  where
    right : (r : Returned) → IsReturnedRight b.present.inc a r → IsReturnedRight b.present.inc e r
    right r (inl k) = inl (record { sure = k.sure; counted = k.counted; there = subst (λ l. r.place < length l) (sym (s.each r.known b.present.inc)) k.there })
    right r (inr k) = inr (record { not_sure = k.not_sure; above = let m = k.above in omega (arith, m, inc) })

pub new-before : (a : EndState) (inc known : ℕ) → IsEnd a → (a.present.inc < inc) ⊎ ((a.present.inc ≡ inc) × (a.present.known < known)) → AllByRecursion (IsBefore inc known) (periods a)
new-before a inc known is h = (by h, all-later a.present.inc a.present.known inc known a.past (weaker h) is.before)
  where
    by : (a.present.inc < inc) ⊎ ((a.present.inc ≡ inc) × (a.present.known < known)) → IsBefore inc known a.present
    by (inl l) = inl l
    by (inr e) = inr e

    weaker : (a.present.inc < inc) ⊎ ((a.present.inc ≡ inc) × (a.present.known < known)) → (a.present.inc < inc) ⊎ ((a.present.inc ≡ inc) × (a.present.known ≤ known))
    weaker (inl l) = inl l
    weaker (inr e) = inr (e.0, let l = e.1 in omega (arith, l))

-- What an end is made of besides its periods.
pub record Rest : Type 0 where
  pub owes_hello : Bool
  pub returned : List Returned
  pub port : PortState
  pub client : ClientState

abbrev pub with_rest : Period → List Period → Rest → EndState
with_rest present past r = record {
  present = present;
  past = past;
  owes_hello = r.owes_hello;
  returned = r.returned;
  port = r.port;
  client = r.client;
}

abbrev pub rest_of : EndState → Rest
rest_of a = record { owes_hello = a.owes_hello; returned = a.returned; port = a.port; client = a.client }

-- A present period, and sends that came back, that fit a peer.
pub record Fits (p : Period) (b : EndState) (rs : List Returned) : Type 0 where
  pub lane : IsLane p.lane
  pub idle : p.known ≡ 0 → p.lane.sender.base ≡ 0
  pub base : 0 < p.known → p.lane.sender.base ≤ length (got_in b p.known p.inc)
  pub known : p.known ≤ b.present.inc
  pub returned : AllByRecursion (IsReturnedRight p.inc b) rs

-- Periods that follow those of an end.
pub record Follow (a : EndState) (p : Period) (ps : List Period) : Type 0 where
  pub each : AllByRecursion IsPeriod (p ∷ ps)
  pub before : AllByRecursion (IsBefore p.inc p.known) ps
  pub quiet : p.known ≡ 0 → p.lane.got ≡ []
  pub inc : a.present.inc ≤ p.inc
  pub grow : Grow (periods a) (p ∷ ps)

-- an end whose periods follow, where what was got is the same
pub follows : (a b : EndState) (p : Period) (ps : List Period) (r : Rest) → Sides a b → Follow a p ps → SameGot (periods a) (p ∷ ps) → Fits p b r.returned → Change a (with_rest p ps r) b
follows a b p ps r s f g t =
    let e : EndState = with_rest p ps r in
    let later : Later a e = record { inc = f.inc; grow = f.grow } in
    record {
      is = record {
        lane = t.lane;
        each = f.each;
        before = f.before;
        living = let l = s.mine.living in let i = f.inc in omega (arith, l, i);
        quiet = f.quiet;
        idle = t.idle;
      };
      later = later;
      out = out-later a e b s.out later t.base t.known t.returned;
      into = into-same a e b s.into f.inc g;
    }

-- the lane keeps its messages
lane-follow : (a : EndState) (l : LaneState) → IsEnd a → l.sent ≡ a.present.lane.sent → l.got ≡ a.present.lane.got → Follow a (record a.present { lane = l }) a.past
lane-follow a l m e f =
    let now : IsPeriod (record a.present { lane = l }) = record {
      named = m.each.0.named;
      short = subst AreShort (sym e) m.each.0.short;
      few = subst (λ ms. length ms ≤ number_limit) (sym e) m.each.0.few;
    } in
    record {
      each = (now, m.each.1);
      before = m.before;
      quiet = λ h. f ∙ m.quiet h;
      inc = omega arith;
      grow = grow-present a.present a.past l [] [] (e ∙ sym (append-nil a.present.lane.sent)) (f ∙ sym (append-nil a.present.lane.got));
    }

pub steady : (a b : EndState) (l : LaneState) (r : Rest) → Sides a b → l.sent ≡ a.present.lane.sent → l.got ≡ a.present.lane.got → Fits (record a.present { lane = l }) b r.returned
    → Change a (with_rest (record a.present { lane = l }) a.past r) b
steady a b l r s e f t = follows a b (record a.present { lane = l }) a.past r s (lane-follow a l s.mine e f) (same-present a.present a.past l f) t

-- the numbers of a lane are others that begin and end as they did
pub fits-numbers : (a b : EndState) (numbers : SenderState) (owes : Bool) (returned : List Returned) → Sides a b → IsSender numbers → numbers.base ≡ a.present.lane.sender.base → numbers.next ≡ a.present.lane.sender.next
    → AllByRecursion (IsReturnedRight a.present.inc b) returned → Fits (record a.present { lane = record a.present.lane { sender = numbers; owes = owes } }) b returned
fits-numbers a b numbers owes returned s sender base next all =
    let m = s.mine in
    record {
      lane = record {
        sender = sender;
        counted = next ∙ m.lane.counted;
        waiting = let w = m.lane.waiting in omega (arith, w, base, next);
        taken = m.lane.taken;
        none_begun = m.lane.none_begun;
      };
      idle = λ h. base ∙ m.idle h;
      base = λ h. let k = s.out.base h in omega (arith, k, base);
      known = s.out.known;
      returned = all;
    }

-- nothing changes but what is owed, what came back, the port and the client
pub same-lane : (a b : EndState) (owes : Bool) (r : Rest) → Sides a b → AllByRecursion (IsReturnedRight a.present.inc b) r.returned
    → Change a (with_rest (record a.present { lane = record a.present.lane { owes = owes } }) a.past r) b
same-lane a b owes r s all = steady a b (record a.present.lane { owes = owes }) r s refl refl (fits-numbers a b a.present.lane.sender owes r.returned s s.mine.lane.sender refl refl all)

-- ---- the messages of the present period grow

pub accept-follow : (a : EndState) (m : Message) (l : LaneState) → IsEnd a → IsShort m → a.present.lane.sender.next + 1 ≤ number_limit → l.sent ≡ a.present.lane.sent ++ m ∷ [] → l.got ≡ a.present.lane.got
    → Follow a (record a.present { lane = l }) a.past
accept-follow a m l is short room e f =
    let longer : length l.sent ≡ length a.present.lane.sent + 1 = ap length e ∙ length-append a.present.lane.sent (m ∷ []) in
    let k = is.lane.counted in
    let now : IsPeriod (record a.present { lane = l }) = record {
      named = is.each.0.named;
      short = subst AreShort (sym e) (all-push IsShort a.present.lane.sent m is.each.0.short short);
      few = omega (arith, longer, k, room);
    } in
    record {
      each = (now, is.each.1);
      before = is.before;
      quiet = λ h. f ∙ is.quiet h;
      inc = omega arith;
      grow = grow-present a.present a.past l (m ∷ []) [] e (f ∙ sym (append-nil a.present.lane.got));
    }

-- ---- a new period

pub new-follow : (a : EndState) (inc known : ℕ) → IsEnd a → (a.present.inc < inc) ⊎ ((a.present.inc ≡ inc) × (a.present.known < known)) → Follow a (new_period inc known) (periods a)
new-follow a inc known is h =
    let all = new-before a inc known is h in
    record {
      each = (record { named = let l = is.living in let i = by h in omega (arith, l, i); short = tt; few = omega arith }, is.each);
      before = all;
      quiet = λ k. refl;
      inc = by h;
      grow = grow-new inc known (periods a) all;
    }
  where
    by : (a.present.inc < inc) ⊎ ((a.present.inc ≡ inc) × (a.present.known < known)) → a.present.inc ≤ inc
    by (inl l) = omega (arith, l)
    by (inr e) = let k = e.0 in omega (arith, k)

-- ---- the first incarnation of the peer is learnt

pub introduced-later : (a : EndState) (m : ℕ) → IsEnd a → a.present.known ≡ 0 → AllByRecursion (IsBefore a.present.inc m) a.past
introduced-later a m is none = all-later a.present.inc a.present.known a.present.inc m a.past (inr (refl, omega (arith, none))) is.before

pub introduced-follow : (a : EndState) (m : ℕ) → IsEnd a → a.present.known ≡ 0 → 0 < m → Follow a (record a.present { known = m }) a.past
introduced-follow a m is none low =
    let later : AllByRecursion (IsBefore a.present.inc m) a.past = introduced-later a m is none in
    record {
      each = (record { named = is.each.0.named; short = is.each.0.short; few = is.each.0.few }, is.each.1);
      before = later;
      quiet = λ h. absurd (omega (arith, h, low));
      inc = omega arith;
      grow = grow-introduced a.present a.past m none later;
    }

pub introduced-same : (a : EndState) (m : ℕ) → IsEnd a → a.present.known ≡ 0 → SameGot (periods a) (record a.present { known = m } ∷ a.past)
introduced-same a m is none =
    same-introduced a.present a.past m none (is.quiet none) (subst (λ k. AllByRecursion (IsBefore a.present.inc k) a.past) none is.before) (introduced-later a m is none)

-- ---- a message is taken

prefix-longer : (got sent : List Message) (m : Message) → IsPrefix got sent → slice_get sent (length got) ≡ Some m → IsPrefix (got ++ m ∷ []) sent
prefix-longer got sent m p e =
    let there : slice_get (got ++ p.rest) (length got) ≡ Some m = ap (λ l. slice_get l (length got)) (sym p.both) ∙ e in
    let r = get-behind got p.rest m there in
    record { rest = r.0; both = p.both ∙ (ap (λ l. got ++ l) r.1 ∙ sym (append_assoc got (m ∷ []) r.0)) }

taken-prefix : (a b : EndState) (m : Message) (l : LaneState) → Flows b a → slice_get (sent_in b a.present.known a.present.inc) (length a.present.lane.got) ≡ Some m → l.got ≡ a.present.lane.got ++ m ∷ []
    → (i j : ℕ) → (t : Bool) → is_of j i a.present ≡ t
    → IsPrefix (if t then a.present else period_in a.past j i).lane.got (sent_in b i j)
    → IsPrefix (if t then record a.present { lane = l } else period_in a.past j i).lane.got (sent_in b i j)
taken-prefix a b m l f there more i j true e p =
    let x : a.present.inc ≡ j = of-inc j i a.present e in
    let y : a.present.known ≡ i = of-known j i a.present e in
    let here : slice_get (sent_in b i j) (length a.present.lane.got) ≡ Some m =
    subst (λ k. slice_get (sent_in b k j) (length a.present.lane.got) ≡ Some m) y (subst (λ k. slice_get (sent_in b a.present.known k) (length a.present.lane.got) ≡ Some m) x there) in
    subst (λ k. IsPrefix k (sent_in b i j)) (sym more) (prefix-longer a.present.lane.got (sent_in b i j) m p here)
taken-prefix a b m l f there more i j false e p = p

-- an end takes a message that the peer sent it as the next one
pub taken : (a b : EndState) (m : Message) (l : LaneState) (r : Rest) → Sides a b → slice_get (sent_in b a.present.known a.present.inc) (length a.present.lane.got) ≡ Some m → 0 < a.present.known
    → l.sent ≡ a.present.lane.sent → l.got ≡ a.present.lane.got ++ m ∷ [] → Fits (record a.present { lane = l }) b r.returned → Change a (with_rest (record a.present { lane = l }) a.past r) b
taken a b m l r s there knows kept more t =
    let e : EndState = with_rest (record a.present { lane = l }) a.past r in
    let grow : Grow (periods a) (periods e) = grow-present a.present a.past l [] (m ∷ []) (kept ∙ sym (append-nil a.present.lane.sent)) more in
    let later : Later a e = record { inc = omega arith; grow = grow } in
    let is = s.mine in
    let now : IsPeriod (record a.present { lane = l }) = record {
      named = is.each.0.named;
      short = subst AreShort (sym kept) is.each.0.short;
      few = subst (λ ms. length ms ≤ number_limit) (sym kept) is.each.0.few;
    } in
    record {
      is = record {
        lane = t.lane;
        each = (now, is.each.1);
        before = is.before;
        living = is.living;
        quiet = λ h. absurd (omega (arith, h, knows));
        idle = t.idle;
      };
      later = later;
      out = out-later a e b s.out later t.base t.known t.returned;
      into = record {
        prefix = λ i j h. taken-prefix a b m l s.into there more i j (is_of j i a.present) refl (s.into.prefix i j h);
        base = λ h. let k = s.into.base h in let l = got-longer e grow b.present.known in omega (arith, k, l);
        known = s.into.known;
        returned = all-weaker (IsReturnedRight b.present.inc a) (IsReturnedRight b.present.inc e) b.returned (right e grow refl (got-longer e grow)) s.into.returned;
      };
    }
  where
    got-longer : (e : EndState) → Grow (periods a) (periods e) → (i : ℕ) → length (got_in a i b.present.inc) ≤ length (got_in e i b.present.inc)
    got-longer e grow i =
        let g = grow.each i b.present.inc s.theirs.living in
        let l : length (got_in e i b.present.inc) ≡ length (got_in a i b.present.inc) + length g.got_more = ap length g.got ∙ length-append (got_in a i b.present.inc) g.got_more in
        omega (arith, l)

    right : (e : EndState) → Grow (periods a) (periods e) → e.present.inc ≡ a.present.inc → ((i : ℕ) → length (got_in a i b.present.inc) ≤ length (got_in e i b.present.inc))
        → (q : Returned) → IsReturnedRight b.present.inc a q → IsReturnedRight b.present.inc e q
    right e grow inc longer q (inl k) = inl (record { sure = k.sure; counted = k.counted; there = let x = k.there in let y = longer q.known in omega (arith, x, y) })
    right e grow inc longer q (inr k) = inr (record { not_sure = k.not_sure; above = let m = k.above in omega (arith, m, inc) })
