-- A fragment that a port takes keeps what is coming on its connection tied to its token, and leaves all other connections.
use Rattle.std.proofs.Common.{◌≡◌, ◌≢◌, ◌<◌, ◌+◌, ℕ, Bool, true, false, ◌&&◌, List, [], ◌∷◌, ◌++◌, length, take, drop, nat_eq, Option, Some, None, refl, sym, ap, ◌∙◌, subst, arith, length-append, true≢false}
use Rattle.std.specs.Prelude.{slice_get}
use Rattle.std.specs.List.{filter}
use Rattle.std.proofs.lemmas.Bool.Decides.{nat_tests}
use Rattle.std.proofs.lemmas.List.{nil_from_length}
use Rattle.std.proofs.lemmas.Option.{same_Some}
use Rattle.std.proofs.Math.Seq.{take-append_seam}
use Rattle.gm_defs.specs.declared.message.Message.{Message}
use Rattle.gm_defs.specs.declared.frame.FrameHead.{FrameHead}
use Rattle.gm_defs.specs.declared.token.Filling.{Filling}
use Rattle.gm_defs.specs.Token.{Provided, PortState, is_size, size_for_length, is_from, is_filling_for, takes_at, taker}
use Rattle.gm_defs.specs.Port.{without_first, with_first, filling_with, ended_with, going_on_with}
use Rattle.gm_defs.proofs.Choices.{both}
use Rattle.gm_defs.proofs.Takers.{IsFound, found, IsTaker, passes-taker}
use Rattle.world_defs.specs.Sound.{IsPrefix}
use Rattle.message_laws.proofs.Frames.{get-front}
use Rattle.message_laws.specs.Filling.{filling_in, IsFillingWith, IsTied}
use Rattle.gm_defs.proofs.Found.{joined, joined-front, split, without-other, replaced-other, without-only, replaced-only, replaced-first, found-only, found-none}
use Rattle.message_laws.proofs.Ports.{not-filling}

-- the same tokens fill, and the same bytes are coming
pub tied-same : (P Q : ℕ → Option PortState) (src prio : ℕ) (next later : Option Message) (part now : List ℕ) → ((port : ℕ) → filling_in (Q port) src prio ≡ filling_in (P port) src prio) → later ≡ next → now ≡ part → IsTied P src prio next part → IsTied Q src prio later now
tied-same P Q src prio next later part now f e d (IsTied.nothing a b) = IsTied.nothing (d ∙ a) (λ port. f port ∙ b port)
tied-same P Q src prio next later part now f e d (IsTied.begun m r a b c g o) =
    IsTied.begun m r (e ∙ a) (subst (λ l. 0 < length l) (sym d) b) (f m.dport ∙ c) (subst (λ l. IsFillingWith m l r) (sym d) g) (λ port other. f port ∙ o port other)

-- more is sent
pub tied-more : (P : ℕ → Option PortState) (src prio : ℕ) (xs ys : List Message) (i : ℕ) (part : List ℕ) → IsPrefix xs ys → IsTied P src prio (slice_get xs i) part → IsTied P src prio (slice_get ys i) part
tied-more P src prio xs ys i part f (IsTied.nothing a b) = IsTied.nothing a b
tied-more P src prio xs ys i part f (IsTied.begun m r a b c g o) = IsTied.begun m r (ap (λ l. slice_get l i) f.both ∙ get-front xs f.rest i m a) b c g o

equal : (a b : ℕ) → nat_eq a b ≡ true → a ≡ b
equal a b e = grind (arith, nat_tests)

same : (a b : ℕ) → a ≡ b → nat_eq a b ≡ true
same a b e = grind (arith, nat_tests)

-- the token that takes a fragment has its priority
pub taker-prio : (p : PortState) (h : FrameHead) (r : Provided) → IsTaker p h r → r.prio ≡ h.prio
taker-prio p h r (IsTaker.opens a b c d) = equal r.prio h.prio (both (is_size r.size (size_for_length h.total)) (nat_eq r.prio h.prio) d).1
taker-prio p h r (IsTaker.goes_on f a b c d e g) = g

module _ (h : FrameHead) (part : List ℕ) (p : PortState) (r : Provided) (e : taker p h ≡ Some r) where
  is-taker : IsTaker p h r
  is-taker = passes-taker p h r (IsFound.passes (found (takes_at p h) p.provided r e))

  prio-is : r.prio ≡ h.prio
  prio-is = taker-prio p h r is-taker

  abbrev after : Provided
  after = filling_with h part r

  -- for another host or another priority it doesn't count, before and after the fragment
  module _ (src prio : ℕ) (other : (nat_eq h.src src && nat_eq h.prio prio) ≡ false) where
    before-other : is_filling_for src prio r ≡ false
    before-other = by is-taker
      where
        by : IsTaker p h r → is_filling_for src prio r ≡ false
        by (IsTaker.opens a b c d) = not-filling src prio r c
        by (IsTaker.goes_on f a b c d k g) = ap (λ o. is_from src o && nat_eq r.prio prio) b ∙ (λ i. nat_eq (c i) src && nat_eq (g i) prio) ∙ other

    after-other : is_filling_for src prio after ≡ false
    after-other = (λ i. nat_eq h.src src && nat_eq (prio-is i) prio) ∙ other

    pub ended-other : filling_in (Some (ended_with p h part r)) src prio ≡ filling_in (Some p) src prio
    ended-other = without-other (takes_at p h) (is_filling_for src prio) p.provided r (split (takes_at p h) p.provided r e) before-other

    pub going_on-other : filling_in (Some (going_on_with p h part r)) src prio ≡ filling_in (Some p) src prio
    going_on-other = replaced-other (takes_at p h) (is_filling_for src prio) p.provided r (split (takes_at p h) p.provided r e) after before-other after-other

  -- for its own it counts then
  after-own : is_filling_for h.src h.prio after ≡ true
  after-own = λ i. same h.src h.src refl i && same r.prio h.prio prio-is i

  before-own : (f : Filling) → r.filling ≡ Some f → f.src ≡ h.src → is_filling_for h.src h.prio r ≡ true
  before-own f b c = ap (λ o. is_from h.src o && nat_eq r.prio h.prio) b ∙ (λ i. same f.src h.src c i && same r.prio h.prio prio-is i)

  -- what its buffer holds then
  filled-front : (coming : List ℕ) → take h.offset r.buffer ≡ coming → take (length (coming ++ part)) after.buffer ≡ coming ++ part
  filled-front coming t =
      let rest : List ℕ = drop (h.offset + length part) r.buffer in
      ap (λ l. take (length (coming ++ part)) (joined l part rest)) t ∙ ap (take (length (coming ++ part))) (joined-front coming part rest) ∙ take-append_seam (coming ++ part) rest

  -- the ports of the host, of which one took the fragment, which is of the next message
  module _ (P Q : ℕ → Option PortState) (m : Message) (next : Option Message) (coming : List ℕ)
      (at_port : P h.dport ≡ Some p) (others : (port : ℕ) → port ≢ h.dport → Q port ≡ P port)
      (is_next : next ≡ Some m) (to_port : m.dport ≡ h.dport) (total : length m.body ≡ h.total) (offset : length coming ≡ h.offset) where
    -- the tokens there
    there : (src prio : ℕ) → filling_in (P h.dport) src prio ≡ filter (is_filling_for src prio) p.provided
    there src prio = ap (λ o. filling_in o src prio) at_port

    none-coming : h.offset ≡ 0 → coming ≡ []
    none-coming first = nil_from_length coming (offset ∙ first)

    other-ports : ((port : ℕ) → port ≢ h.dport → filling_in (P port) h.src h.prio ≡ []) → (port : ℕ) → port ≢ h.dport → filling_in (Q port) h.src h.prio ≡ []
    other-ports none port o = ap (λ x. filling_in x h.src h.prio) (others port o) ∙ none port o

    -- what came before stands in the token's buffer
    pub front-held : IsTied P h.src h.prio next coming → take h.offset r.buffer ≡ coming
    front-held t = by is-taker t
      where
        by : IsTaker p h r → IsTied P h.src h.prio next coming → take h.offset r.buffer ≡ coming
        by (IsTaker.opens a b c d) t = ap (λ k. take k r.buffer) a ∙ sym (none-coming a)
        by (IsTaker.goes_on f a b c d k g) (IsTied.nothing x none) =
            absurd (found-none (takes_at p h) (is_filling_for h.src h.prio) p.provided r e (before-own f b c) (sym (there h.src h.prio) ∙ none h.dport))
        by (IsTaker.goes_on f a b c d k g) (IsTied.begun n s x some y z none) =
            let it : n ≡ m = same_Some n m (sym x ∙ is_next) in
            let port : n.dport ≡ h.dport = ap (λ (k : Message). k.dport) it ∙ to_port in
            let alone : filter (is_filling_for h.src h.prio) p.provided ≡ s ∷ [] = sym (there h.src h.prio) ∙ ap (λ k. filling_in (P k) h.src h.prio) (sym port) ∙ y in
            let one : r ≡ s = found-only (takes_at p h) (is_filling_for h.src h.prio) p.provided r s e (before-own f b c) alone in
            ap (λ (k : Provided). take h.offset k.buffer) one ∙ ap (λ k. take k s.buffer) (sym offset) ∙ z.bytes

    -- an earlier fragment
    module _ (now : Q h.dport ≡ Some (going_on_with p h part r)) (some : 0 < length (coming ++ part)) where
      going-on : filter (is_filling_for h.src h.prio) (with_first (takes_at p h) after p.provided) ≡ after ∷ [] → take h.offset r.buffer ≡ coming → ((port : ℕ) → port ≢ h.dport → filling_in (P port) h.src h.prio ≡ []) → IsTied Q h.src h.prio next (coming ++ part)
      going-on alone t none =
          IsTied.begun m after is_next some (ap (λ k. filling_in (Q k) h.src h.prio) to_port ∙ ap (λ o. filling_in o h.src h.prio) now ∙ alone)
          (record {
            state = record { src = h.src; total = h.total; held = h.offset + length part };
            filling = refl;
            total = sym total;
            held = let long = length-append coming part in omega (arith, long, offset);
            bytes = filled-front coming t;
          })
          (λ port o. other-ports none port (λ same. o (same ∙ sym to_port)))

      pub part-tied : IsTied P h.src h.prio next coming → IsTied Q h.src h.prio next (coming ++ part)
      part-tied t = by is-taker t
        where
          opening : h.offset ≡ 0 → r.filling ≡ None → ((port : ℕ) → filling_in (P port) h.src h.prio ≡ []) → IsTied Q h.src h.prio next (coming ++ part)
          opening a c none =
              going-on
              (replaced-first (takes_at p h) (is_filling_for h.src h.prio) p.provided r (split (takes_at p h) p.provided r e) after (not-filling h.src h.prio r c) after-own (sym (there h.src h.prio) ∙ none h.dport))
              (ap (λ k. take k r.buffer) a ∙ sym (none-coming a)) (λ port o. none port)

          continuing : (f : Filling) → r.filling ≡ Some f → f.src ≡ h.src → (n : Message) (s : Provided) → next ≡ Some n → filling_in (P n.dport) h.src h.prio ≡ s ∷ [] → IsFillingWith n coming s → ((port : ℕ) → port ≢ n.dport → filling_in (P port) h.src h.prio ≡ []) → IsTied Q h.src h.prio next (coming ++ part)
          continuing f b c n s x y z none =
              let it : n ≡ m = same_Some n m (sym x ∙ is_next) in
              let port : n.dport ≡ h.dport = ap (λ (k : Message). k.dport) it ∙ to_port in
              let alone : filter (is_filling_for h.src h.prio) p.provided ≡ s ∷ [] = sym (there h.src h.prio) ∙ ap (λ k. filling_in (P k) h.src h.prio) (sym port) ∙ y in
              let own = before-own f b c in
              let one : r ≡ s = found-only (takes_at p h) (is_filling_for h.src h.prio) p.provided r s e own alone in
              going-on (replaced-only (takes_at p h) (is_filling_for h.src h.prio) p.provided r (split (takes_at p h) p.provided r e) after s own after-own alone)
              (ap (λ (k : Provided). take h.offset k.buffer) one ∙ ap (λ k. take k s.buffer) (sym offset) ∙ z.bytes)
              (λ q o. none q (λ same. o (same ∙ port)))

          by : IsTaker p h r → IsTied P h.src h.prio next coming → IsTied Q h.src h.prio next (coming ++ part)
          by (IsTaker.opens a b c d) (IsTied.nothing x none) = opening a c none
          by (IsTaker.opens a b c d) (IsTied.begun n s x some y z none) = let long = ap length (none-coming a) in absurd (omega (arith, long, some))
          by (IsTaker.goes_on f a b c d k g) (IsTied.nothing x none) =
              absurd (found-none (takes_at p h) (is_filling_for h.src h.prio) p.provided r e (before-own f b c) (sym (there h.src h.prio) ∙ none h.dport))
          by (IsTaker.goes_on f a b c d k g) (IsTied.begun n s x some y z none) = continuing f b c n s x y z none

    -- the last fragment
    module _ (now : Q h.dport ≡ Some (ended_with p h part r)) (later : Option Message) where
      ending-none : filter (is_filling_for h.src h.prio) (without_first (takes_at p h) p.provided) ≡ [] → ((port : ℕ) → port ≢ h.dport → filling_in (P port) h.src h.prio ≡ []) → IsTied Q h.src h.prio later []
      ending-none alone none = IsTied.nothing refl each
        where
          each : (port : ℕ) → filling_in (Q port) h.src h.prio ≡ []
          each port = by (nat_eq port h.dport) refl
            where
              by : (b : Bool) → nat_eq port h.dport ≡ b → filling_in (Q port) h.src h.prio ≡ []
              by true t = ap (λ k. filling_in (Q k) h.src h.prio) (equal port h.dport t) ∙ ap (λ o. filling_in o h.src h.prio) now ∙ alone
              by false t = other-ports none port (λ e. true≢false (sym (same port h.dport e) ∙ t))

      pub whole-tied : IsTied P h.src h.prio next coming → IsTied Q h.src h.prio later []
      whole-tied t = by is-taker t
        where
          continuing : (f : Filling) → r.filling ≡ Some f → f.src ≡ h.src → (n : Message) (s : Provided) → next ≡ Some n → filling_in (P n.dport) h.src h.prio ≡ s ∷ [] → ((port : ℕ) → port ≢ n.dport → filling_in (P port) h.src h.prio ≡ []) → IsTied Q h.src h.prio later []
          continuing f b c n s x y none =
              let it : n ≡ m = same_Some n m (sym x ∙ is_next) in
              let port : n.dport ≡ h.dport = ap (λ (k : Message). k.dport) it ∙ to_port in
              let alone : filter (is_filling_for h.src h.prio) p.provided ≡ s ∷ [] = sym (there h.src h.prio) ∙ ap (λ k. filling_in (P k) h.src h.prio) (sym port) ∙ y in
              ending-none (without-only (takes_at p h) (is_filling_for h.src h.prio) p.provided r (split (takes_at p h) p.provided r e) s (before-own f b c) alone) (λ q o. none q (λ same. o (same ∙ port)))

          by : IsTaker p h r → IsTied P h.src h.prio next coming → IsTied Q h.src h.prio later []
          by (IsTaker.opens a b c d) (IsTied.nothing x none) =
              ending-none (without-other (takes_at p h) (is_filling_for h.src h.prio) p.provided r (split (takes_at p h) p.provided r e) (not-filling h.src h.prio r c) ∙ sym (there h.src h.prio) ∙ none h.dport) (λ port o. none port)
          by (IsTaker.opens a b c d) (IsTied.begun n s x some y z none) = let long = ap length (none-coming a) in absurd (omega (arith, long, some))
          by (IsTaker.goes_on f a b c d k g) (IsTied.nothing x none) =
              absurd (found-none (takes_at p h) (is_filling_for h.src h.prio) p.provided r e (before-own f b c) (sym (there h.src h.prio) ∙ none h.dport))
          by (IsTaker.goes_on f a b c d k g) (IsTied.begun n s x some y z none) = continuing f b c n s x y none
