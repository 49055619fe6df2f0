-- What holds of each packet that hosts build, and stays with each move and flip, holds of each packet after every act.
use Rattle.std.proofs.Common.{◌≡◌, ◌+◌, ℕ, Bool, true, false, ℤ, List, [], ◌∷◌, ◌++◌, Some, IfSome, Err, refl, append_assoc, true≢false, sym, ap, ◌∙◌, subst}
use Rattle.std.specs.List.{AllByRecursion}
use Rattle.net_defs.specs.Network.{Network}
use Rattle.net_defs.proofs.Distinct.{all-weaker}
use Rattle.packet_defs.specs.declared.host_drop.HostDrop.TheVariants.{BadCrc}
use Rattle.packet_defs.specs.Packet.{difference, front_turn, stripped, packet_of}
use Rattle.packet_defs.specs.Host.{decode}
use Rattle.packet_defs.proofs.Packets.{packet_of-difference, packet_of-stripped}
use Rattle.packet_defs.proofs.Hosts.{decode-difference}
use Rattle.world_defs.specs.Links.{Held}
use Rattle.world_defs.proofs.HopsLeft.{course_into-enters}
use Rattle.world_defs.specs.History.{CableHistory}
use Rattle.world_defs.specs.Crossed.{life_head}
use Rattle.world_defs.specs.Mark.{Tells, HasTrueMark}
use Rattle.std.proofs.lemmas.List.{append-nil}
use Rattle.world_defs.specs.Node.{Outgoing, to_send, packet_for}
use Rattle.world_defs.specs.World.{WorldState, new_world, node_at}
use Rattle.world_defs.specs.Acts.{Act, acted, acted_all, IsByteAct}
use Rattle.table_laws.specs.Provenance.{moment, IsLeftOf, ChannelsHoldWhatWasBuilt, LimboHoldsWhatWasBuilt, FlippedIsDropped}
use Rattle.table_laws.proofs.Medium.{Holds, Carries, weaker-holds, empty-holds, tells-stripped, flipped-tells, no_turn}
use Rattle.table_laws.proofs.Hosts.{packet-shape}
use Rattle.world_defs.specs.EightBits.{IsByteFault}
use Rattle.world_defs.proofs.ActsKept.{acted-plan}
use Rattle.world_defs.proofs.Reaching.{acted_all-last}
use Rattle.table_laws.proofs.Keeping.{acted-holds}

-- each packet is from a host, and its mark is true
record IsFrom (n : Network) (acts : List Act) (held : Held) : Type 0 where
  mark : HasTrueMark held
  built : held.marked ≡ false → IsLeftOf n acts held.wire

from-stripped : (n : Network) (acts : List Act) (wire : List ℕ) (turn : ℤ) (left : List ℤ) (b : IsLeftOf n acts wire) → front_turn wire ≡ Some turn → b.left ≡ left → IsLeftOf n acts (stripped wire)
from-stripped n acts wire turn [] b e l = absurd (no_turn b.kind b.payload turn (ap (λ r. front_turn (packet_of r b.kind b.payload)) (sym l) ∙ ap front_turn (sym b.rest) ∙ e))
from-stripped n acts wire turn (t ∷ left) b e l = record {
  before = b.before;
  behind = b.behind;
  both = b.both;
  host = b.host;
  out = b.out;
  sends = b.sends;
  gone = b.gone ++ t ∷ [];
  left = left;
  kind = b.kind;
  payload = b.payload;
  built = b.built ∙ ap (λ r. packet_of r b.kind b.payload) (ap (λ r. b.gone ++ r) l ∙ sym (append_assoc b.gone (t ∷ []) left));
  rest = ap stripped (b.rest ∙ ap (λ r. packet_of r b.kind b.payload) l) ∙ packet_of-stripped t left b.kind b.payload;
}

carries-from : (h : CableHistory) (n : Network) (acts : List Act) → Carries h (λ c. IsFrom n acts)
carries-from h n acts = record {
  strip = λ c next held e is.
      let t = course_into-enters h (life_head h c) held.wire next e in
      record { mark = tells-stripped held.marked held.wire t.0 t.1 is.mark; built = λ k. let b = is.built k in from-stripped n acts held.wire t.0 b.left b t.1 refl };
  flip = λ c bit pattern held low e is. record { mark = flipped-tells held.marked held.wire bit pattern low is.mark e; built = λ k. absurd (true≢false k) };
}

from-more : (n : Network) (acts more : List Act) (held : Held) → IsFrom n acts held → IsFrom n (acts ++ more) held
from-more n acts more held is = record {
  mark = is.mark;
  built = λ k.
      let b = is.built k in
      record { before = b.before; behind = b.behind ++ more; both = ap (λ l. l ++ more) b.both ∙ append_assoc b.before b.behind more; host = b.host; out = b.out; sends = b.sends; gone = b.gone; left = b.left; kind = b.kind; payload = b.payload; built = b.built; rest = b.rest };
}

-- after acts
record IsPast (n : Network) (acts : List Act) (w : WorldState) : Type 0 where
  is : w ≡ moment n acts
  links : Holds (λ c. IsFrom n acts) w.links
  plan : AllByRecursion (λ f. IsByteFault f.1) w.plan

new-from : (n : Network) (acts : List Act) (a : Act) (w : WorldState) → w ≡ moment n acts → (h c : ℕ) (out : Outgoing) → to_send h (node_at w h) ≡ Some out → IsFrom n (acts ++ a ∷ []) (record { wire = packet_for h (w.injected + 1) out; marked = false; born = w.links.epoch })
new-from n acts a w e h c out d =
    let b = packet-shape h (w.injected + 1) out in
    record {
      mark = ap difference b.written ∙ packet_of-difference b.route b.kind b.payload;
      built = λ k. record {
        before = acts;
        behind = a ∷ [];
        both = refl;
        host = h;
        out = out;
        sends = subst (λ v. to_send h (node_at v h) ≡ Some out) e d;
        gone = [];
        left = b.route;
        kind = b.kind;
        payload = b.payload;
        built = ap (λ v. packet_for h (v.injected + 1) out) (sym e) ∙ b.written;
        rest = b.written;
      };
    }

past-one : (n : Network) (acts : List Act) (a : Act) (w : WorldState) → IsByteAct a → IsPast n acts w → IsPast n (acts ++ a ∷ []) (acted w a)
past-one n acts a w low p =
    let F : ℕ → Held → Type 0 = λ c. IsFrom n (acts ++ a ∷ []) in
    record {
      is = ap (λ v. acted v a) p.is ∙ sym (acted_all-last (new_world n) acts a);
      links = acted-holds F w (carries-from w.links.cables n (acts ++ a ∷ [])) (weaker-holds (λ c. IsFrom n acts) F w.links (λ c held. from-more n acts (a ∷ []) held) p.links) p.plan a low (λ h c out i. new-from n acts a w p.is h c out i.sends);
      plan = acted-plan w a low p.plan;
    }

past-all : (n : Network) (acts more : List Act) (w : WorldState) → AllByRecursion IsByteAct more → IsPast n acts w → IsPast n (acts ++ more) (acted_all w more)
past-all n acts [] w low p = subst (λ l. IsPast n l w) (sym (append-nil acts)) p
past-all n acts (a ∷ more) w low p =
    subst (λ l. IsPast n l (acted_all (acted w a) more)) (append_assoc acts (a ∷ []) more) (past-all n (acts ++ a ∷ []) more (acted w a) low.1 (past-one n acts a w low.0 p))

past : (n : Network) (acts : List Act) → AllByRecursion IsByteAct acts → IsPast n acts (moment n acts)
past n acts low = past-all n [] acts (new_world n) low (record { is = refl; links = empty-holds (λ c. IsFrom n []) n; plan = tt })

pub channels-built : ChannelsHoldWhatWasBuilt
channels-built n acts c held low e m =
    let is : IsFrom n acts held = subst (λ o. IfSome o (IsFrom n acts)) e ((past n acts low).links.in_channels c) in
    is.built m

pub limbo-built : LimboHoldsWhatWasBuilt
limbo-built n acts low =
    all-weaker (λ e. IsFrom n acts e.1.held) (λ e. e.1.held.marked ≡ false → IsLeftOf n acts e.1.held.wire) (moment n acts).links.limbo (λ e is. is.built) (past n acts low).links.in_limbo

marked-dropped : (marked : Bool) (wire : List ℕ) → marked ≡ true → Tells marked wire → decode wire ≡ Err BadCrc
marked-dropped true wire e m = decode-difference wire m
marked-dropped false wire e m = absurd (true≢false (sym e))

pub flipped-dropped : FlippedIsDropped
flipped-dropped n acts c held low e m =
    let is : IsFrom n acts held = subst (λ o. IfSome o (IsFrom n acts)) e ((past n acts low).links.in_channels c) in
    marked-dropped held.marked held.wire m is.mark
