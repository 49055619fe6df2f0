-- A fragment that is the next to take, and that its port doesn't take, is its message's first: no token is filling with the message, and none that isn't filling fits it.
use Rattle.std.proofs.Common.{◌≡◌, ◌<◌, ◌+◌, ◌*◌, ℕ, zero, suc, Bool, true, false, List, [], ◌∷◌, length, nat_eq, Option, Some, None, is_some, inl, inr, refl, sym, ap, ◌∙◌, subst, arith, true≢false, if◌then◌else◌}
use Rattle.std.specs.Prelude.{slice_get}
use Rattle.std.specs.List.{filter}
use Rattle.std.proofs.lemmas.Bool.Decides.{nat_tests}
use Rattle.std.proofs.lemmas.Option.{same_Some}
use Rattle.net_defs.specs.Network.{Network}
use Rattle.gm_defs.specs.declared.message.Message.{Message}
use Rattle.gm_defs.specs.declared.frame.FrameHead.{FrameHead}
use Rattle.gm_defs.specs.declared.frame.ConnectionKey.{ConnectionKey}
use Rattle.gm_defs.specs.declared.token.Filling.{Filling}
use Rattle.gm_defs.specs.Fragment.{Fragment, whole_below, begun_below, head_of}
use Rattle.gm_defs.specs.Body.{prio_limit}
use Rattle.gm_defs.specs.Connection.{connection}
use Rattle.gm_defs.specs.Token.{Provided, PortState, is_from, is_filling_for, fitting}
use Rattle.gm_defs.specs.Laws.{ComesNext}
use Rattle.gm_defs.proofs.Choices.{both}
use Rattle.gm_defs.proofs.Found.{any-none}
use Rattle.gm_defs.proofs.Takers.{two-cases}
use Rattle.world_defs.specs.Node.{lane_of, lane_at, port_at}
use Rattle.world_defs.specs.Hearing.{port_takes, port_fits, port_has_begun}
use Rattle.world_defs.specs.World.{WorldState, node_at}
use Rattle.world_defs.specs.Traffic.{sent_on, got_on, coming_on, taken_on}
use Rattle.message_laws.specs.Order.{HasCome}
use Rattle.message_laws.proofs.Worlds.{taken-come}
use Rattle.message_laws.specs.Filling.{filling_in, IsFillingWith, IsTied}
use Rattle.message_laws.proofs.Fillings.{coming-tied}
use Rattle.settle_laws.proofs.Facts.{Facts, comes-of, prio-of}

-- one of a list of which it is all that passes
record IsOnly {A : Type 0} (test : A → Bool) (xs : List A) (x : A) : Type 0 where
  place : ℕ
  there : slice_get xs place ≡ Some x
  passes : test x ≡ true

only-there : {A : Type 0} (test : A → Bool) (xs : List A) (x : A) → filter test xs ≡ x ∷ [] → IsOnly test xs x
only-there test [] x e = cc
only-there test (y ∷ xs) x e = by (test y) refl e (only-there test xs x)
  where
    by : (b : Bool) → test y ≡ b → (if b then y ∷ filter test xs else filter test xs) ≡ x ∷ [] → (filter test xs ≡ x ∷ [] → IsOnly test xs x) → IsOnly test (y ∷ xs) x
    by true t d rest = let same : y ≡ x = cc in record { place = zero; there = ap Some same; passes = subst (λ z. test z ≡ true) same t }
    by false t d rest = let r = rest d in record { place = suc r.place; there = r.there; passes = r.passes }

equal : (a b : ℕ) → nat_eq a b ≡ true → a ≡ b
equal a b e = grind (arith, nat_tests)

-- a token that is filling for a host
from-is : (src : ℕ) (o : Option Filling) (x : Filling) → o ≡ Some x → is_from src o ≡ true → x.src ≡ src
from-is src o x e t = equal x.src src (sym (ap (is_from src) e) ∙ t)

-- What is known where a fragment that is the next isn't taken.
pub record IsRefused (o : Option PortState) (fragment : Fragment) : Type 0 where
  pub first : fragment.offset ≡ 0
  pub none_fits : port_fits o (length fragment.message.body) fragment.message.prio ≡ false

module _ (n : Network) (key : ConnectionKey) (k : ℕ) (fragment : Fragment) (w : WorldState) (f : Facts n key k fragment w) (low : fragment.message.prio < 2) (next : taken_on w key ≡ k) where
  abbrev message : Message
  message = fragment.message

  abbrev ports : ℕ → Option PortState
  ports = port_at (node_at w key.dst)

  comes : ComesNext (sent_on w key) k fragment
  comes = comes-of n key k fragment w f

  come : HasCome (sent_on w key) (got_on w key) (coming_on w key) (taken_on w key)
  come = taken-come n w f.reached key

  -- its message is the next, and what came of it is all before the fragment
  next-there : slice_get (sent_on w key) (length (got_on w key)) ≡ Some message
  next-there = ap (slice_get (sent_on w key)) (come.whole ∙ ap (whole_below (sent_on w key)) next) ∙ comes.there

  came-before : length (coming_on w key) ≡ fragment.offset
  came-before = ap length (come.begun ∙ ap (begun_below (sent_on w key)) next) ∙ comes.before

  -- the tie, by the message's own priority, which has the lanes of the connection's
  tied : IsTied ports key.src message.prio (slice_get (sent_on w key) (length (got_on w key))) (coming_on w key)
  tied =
      subst (λ x. IsTied ports key.src message.prio (slice_get (lane_at (node_at w key.src) x).sent (length (got_on w key))) (coming_on w key)) (lane-is key.dst)
      (subst (λ x. IsTied ports key.src message.prio (slice_get (lane_at (node_at w key.src) (lane_of key.dst message.prio)).sent (length (lane_at (node_at w key.dst) x).got)) (lane_at (node_at w key.dst) x).coming) (lane-is key.src)
      (coming-tied n w f.reached (connection key.src key.dst message.prio) low))
    where
      lane-is : (peer : ℕ) → lane_of peer message.prio ≡ lane_of peer key.prio
      lane-is peer = ap (λ p. prio_limit * peer + p) (prio-of n key k fragment w f)

  abbrev pub head : FrameHead
  head = head_of key k fragment

  -- nothing came: no token is filling with it
  nothing-begun : (o : Option PortState) → filling_in o key.src message.prio ≡ [] → port_has_begun o key.src message.prio ≡ false
  nothing-begun None e = refl
  nothing-begun (Some p) e = any-none (is_filling_for key.src message.prio) p.provided e

  -- what may begin there is taken
  begins-fit : (o : Option PortState) → fragment.offset ≡ 0 → port_has_begun o key.src message.prio ≡ false → port_takes o head ≡ false → port_fits o (length message.body) message.prio ≡ false
  begins-fit None first begun e = refl
  begins-fit (Some p) first begun e = by (is_some (fitting p (length message.body) message.prio)) refl
    where
      by : (b : Bool) → is_some (fitting p (length message.body) message.prio) ≡ b → b ≡ false
      by false t = refl
      by true t = absurd (true≢false (sym ((two-cases p head).1 (inl (record { first = first; not_begun = begun; free = t }))) ∙ e))

  -- what goes on there is taken
  goes-on : (o : Option PortState) (m : Message) (r : Provided) → m ≡ message → 0 < fragment.offset → filling_in o key.src message.prio ≡ r ∷ [] → IsFillingWith m (coming_on w key) r → port_takes o head ≡ true
  goes-on None m r same some e with_it = cc
  goes-on (Some p) m r same some e with_it =
      let at = only-there (is_filling_for key.src message.prio) p.provided r e in
      let parts = both (is_from key.src r.filling) (nat_eq r.prio message.prio) at.passes in
      let before = came-before in
      let held = with_it.held in
      (two-cases p head).1 (inr (record {
        later = some;
        place = at.place;
        token = r;
        message = with_it.state;
        there = at.there;
        filling = with_it.filling;
        src = from-is key.src r.filling with_it.state with_it.filling parts.0;
        prio = equal r.prio message.prio parts.1;
        total = with_it.total ∙ ap (λ x. length x.body) same;
        held = held ∙ before;
      }))

  -- where the fragment isn't taken
  pub refused : port_takes (ports message.dport) head ≡ false → IsRefused (ports message.dport) fragment
  refused e = by tied
    where
      by : IsTied ports key.src message.prio (slice_get (sent_on w key) (length (got_on w key))) (coming_on w key) → IsRefused (ports message.dport) fragment
      by (IsTied.nothing none others) =
          let before = came-before in
          let zero_long : length (coming_on w key) ≡ 0 = ap length none in
          let first : fragment.offset ≡ 0 = omega (arith, before, zero_long) in
          record { first = first; none_fits = begins-fit (ports message.dport) first (nothing-begun (ports message.dport) (others message.dport)) e }
      by (IsTied.begun m r there some only with_it others) =
          let before = came-before in
          let same : m ≡ message = same_Some m message (sym there ∙ next-there) in
          let more : 0 < fragment.offset = omega (arith, before, some) in
          let here : filling_in (ports message.dport) key.src message.prio ≡ r ∷ [] = ap (λ x. filling_in (ports x.dport) key.src message.prio) (sym same) ∙ only in
          absurd (true≢false (sym (goes-on (ports message.dport) m r same more here with_it) ∙ e))

  -- where it is a message's first, no token is filling with the message
  pub not-begun : fragment.offset ≡ 0 → port_has_begun (ports message.dport) key.src message.prio ≡ false
  not-begun first = by tied
    where
      by : IsTied ports key.src message.prio (slice_get (sent_on w key) (length (got_on w key))) (coming_on w key) → port_has_begun (ports message.dport) key.src message.prio ≡ false
      by (IsTied.nothing none others) = nothing-begun (ports message.dport) (others message.dport)
      by (IsTied.begun m r there some only with_it others) = let before = came-before in absurd (omega (arith, before, some, first))
