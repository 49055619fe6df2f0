-- What is known of a connection in a reached world: its hosts are there, the fragment of a number isn't acknowledged below it, and it is one of those that were sent.
use Rattle.std.proofs.Common.{◌≡◌, ◌<◌, ◌≤◌, ◌^◌, ◌+◌, ◌*◌, ℕ, zero, suc, List, [], ◌∷◌, length, Some, sym, ap, ◌∙◌, subst, arith}
use Rattle.std.specs.Prelude.{slice_get}
use Rattle.std.specs.List.{AllByRecursion}
use Rattle.std.proofs.lemmas.Option.{same_Some}
use Rattle.net_defs.specs.Network.{Network}
use Rattle.world_defs.specs.Crossed.{life_channels}
use Rattle.gm_defs.specs.declared.message.Message.{Message}
use Rattle.gm_defs.specs.declared.frame.ConnectionKey.{ConnectionKey}
use Rattle.gm_defs.specs.Body.{message_limit, prio_limit}
use Rattle.gm_defs.specs.Fragment.{Fragment as FragmentOf, fragments, whole_below}
use Rattle.gm_defs.specs.Laws.{ComesNext}
use Rattle.gm_defs.proofs.Numbers.{next-fragment}
use Rattle.world_defs.specs.World.{WorldState, host_count, node_at}
use Rattle.world_defs.specs.Traffic.{sender_on, sent_on, taken_on}
use Rattle.world_defs.specs.Node.{prio_place, lane_of, prio_of, sending_lane, taking_lane}
use Rattle.world_defs.proofs.Lanes.{peer_of-lane, prio_of-lane, lane_of-below}
use Rattle.world_laws.specs.Shape.{IsWorld}
use Rattle.world_defs.specs.Acts.{IsReached}
use Rattle.message_laws.proofs.Worlds.{reached-ordered}
use Rattle.message_laws.specs.Windows.{IsWindow}
use Rattle.message_laws.proofs.Windows.{windows-hold}
use Rattle.message_laws.proofs.Taken.{reached-world}
use Rattle.settle_laws.proofs.Frames.{IsByRules}

pub record Facts (n : Network) (key : ConnectionKey) (k : ℕ) (fragment : FragmentOf) (w : WorldState) : Type 0 where
  pub reached : IsReached n w
  pub host : key.src < host_count w
  pub peer : key.dst < host_count w
  pub low : k ≤ (sender_on w key).base
  pub there : slice_get (fragments (sent_on w key)) k ≡ Some fragment

pub place-below : {A : Type 0} (xs : List A) (i : ℕ) (x : A) → slice_get xs i ≡ Some x → i < length xs
place-below [] i x e = cc
place-below (y ∷ xs) zero x e = omega arith
place-below (y ∷ xs) (suc i) x e = let low = place-below xs i x e in omega (arith, low)

pub at-place : {A : Type 0} (P : A → Type 0) (xs : List A) (i : ℕ) (x : A) → AllByRecursion P xs → slice_get xs i ≡ Some x → P x
at-place P [] i x all e = cc
at-place P (y ∷ xs) zero x all e = subst P (same_Some y x e) all.0
at-place P (y ∷ xs) (suc i) x all e = at-place P xs i x all.1 e

-- the message may be read after its frame: its ports and its priority are by the rules
pub record IsReadable (m : Message) : Type 0 where
  pub from_port : m.sport < 8
  pub to_port : m.dport < 8
  pub priority : m.prio < 2

module _ (n : Network) (key : ConnectionKey) (k : ℕ) (fragment : FragmentOf) (w : WorldState) (f : Facts n key k fragment w) where
  pub world-of : IsWorld w
  world-of = reached-world n w f.reached

  pub window-of : IsWindow (sender_on w key) (taken_on w key)
  window-of = windows-hold n w f.reached key

  pub peer-low : sending_lane key < length (node_at w key.src).lanes
  peer-low = subst (λ count. sending_lane key < count) (sym (world-of.each_node key.src f.host).lanes) (lane_of-below (host_count w) key.dst key.prio f.peer)

  pub host-low : taking_lane key < length (node_at w key.dst).lanes
  host-low = subst (λ count. taking_lane key < count) (sym (world-of.each_node key.dst f.peer).lanes) (lane_of-below (host_count w) key.src key.prio f.host)

  -- the fragment comes next to what is below its number
  pub comes-of : ComesNext (sent_on w key) k fragment
  comes-of = next-fragment (sent_on w key) k fragment f.there

  pub short-of : AllByRecursion (λ x. length x.body ≤ message_limit) (sent_on w key)
  short-of = (((reached-ordered n w f.reached).hosts key.src).lanes (sending_lane key)).short

  pub fits-of : (key.src < 2 ^ 16) × (key.dst < 2 ^ 16)
  fits-of =
      let two = ((reached-ordered n w f.reached).hosts key.src).fits (sending_lane key) peer-low in
      (two.0, subst (λ x. x < 2 ^ 16) (peer_of-lane key.dst key.prio) two.1)

  -- the message is of the connection's priority, and its frame is taken by the connection's lane
  pub prio-of : prio_place fragment.message.prio ≡ prio_place key.prio
  prio-of =
      let all = (((reached-ordered n w f.reached).hosts key.src).lanes (sending_lane key)).of_prio in
      at-place (λ x. prio_place x.prio ≡ prio_of (sending_lane key)) (sent_on w key) (whole_below (sent_on w key) k) fragment.message all comes-of.there ∙ prio_of-lane key.dst key.prio

  pub lane-of : lane_of key.src fragment.message.prio ≡ taking_lane key
  lane-of = ap (λ p. prio_limit * key.src + p) prio-of

  pub slots-of : length w.links.channels ≡ life_channels w.links.cables
  slots-of = world-of.links.slots

  pub rules-of : IsReadable fragment.message → IsByRules key k fragment
  rules-of r =
      let long = (((reached-ordered n w f.reached).hosts key.src).lanes (sending_lane key)).few in
      let low = place-below (fragments (sent_on w key)) k fragment f.there in
      record {
        src_fits = fits-of.0;
        dst_fits = fits-of.1;
        seq_fits = omega (arith, low, long);
        from_port = r.from_port;
        to_port = r.to_port;
        priority = r.priority;
        short = at-place (λ x. length x.body ≤ message_limit) (sent_on w key) (whole_below (sent_on w key) k) fragment.message short-of comes-of.there;
        begins = comes-of.begins;
        long = comes-of.long;
      }
