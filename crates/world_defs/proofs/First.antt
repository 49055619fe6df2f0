-- The history of a fabric before any change.
use Rattle.std.proofs.Common.{◌≡◌, ◌+◌, ◌*◌, ℕ, suc, ℤ, Bool, true, nat_le, List, [], ◌∷◌, ◌++◌, map, length, Option, Some, None, refl, sym, ap, ◌∙◌, subst, arith, if◌then◌else◌}
use Rattle.std.specs.List.{AllByRecursion}
use Rattle.std.specs.Prelude.{option_to_list, option_and_then}
use Rattle.std.proofs.lemmas.Bool.Decides.{nat_tests}
use Rattle.net_defs.specs.declared.vertex.End.{End}
use Rattle.net_defs.specs.declared.vertex.Cable.{Cable}
use Rattle.net_defs.specs.Network.{Network, IsFabric, same_end}
use Rattle.net_defs.specs.Route.{channel_out, channel_from, channels_after, crossing, next_exit, host_port}
use Rattle.world_defs.specs.declared.wire.Wire.{Wire}
use Rattle.world_defs.specs.History.{IsDated, first_wire, first_history, fabric_by, stood_at, is_in_place, is_left}
use Rattle.world_defs.specs.Crossed.{channel_by, channels_by}
use Rattle.world_defs.specs.CableLaws.{FirstIsHistory, FirstStands, FirstChannels}
use Rattle.world_defs.proofs.Fewer.{kept}

-- a test that each cable passes before any change
module _ (test : Wire → Bool) (all : (c : Cable) → test (first_wire c) ≡ true) where
  kept-first : (cs : List Cable) → kept test (map first_wire cs) ≡ cs
  kept-first [] = refl
  kept-first (c ∷ cs) = rw (all c) (ap (λ l. c ∷ l) (kept-first cs))

  pub fabric-first : (n : Network) → fabric_by (first_history n) test ≡ n
  fabric-first n = λ i. record { hosts = n.hosts; switches = n.switches; cables = kept-first n.cables i }

  pub out-first : (k : ℕ) (cs : List Cable) (e : End) → channel_by test k (map first_wire cs) e ≡ channel_out k cs e
  out-first k [] e = refl
  out-first k (c ∷ cs) e =
      let rest = out-first (k + 1) cs e in
      rw (all c) (λ i. if same_end c.a e then Some (2 * k) else if same_end c.b e then Some (2 * k + 1) else rest i)

  exit-first : (n : Network) (exit : Option End) → option_and_then (channel_by test 0 (map first_wire n.cables)) exit ≡ option_and_then (channel_from n) exit
  exit-first n None = refl
  exit-first n (Some e) = out-first 0 n.cables e

  pub channels-first : (n : Network) (exit : Option End) (turns : List ℤ) → channels_by (first_history n) test exit turns ≡ channels_after n exit turns
  channels-first n exit [] = ap option_to_list (exit-first n exit)
  channels-first n exit (turn ∷ turns) =
      let one = exit-first n exit in
      let next : next_exit (fabric_by (first_history n) test) exit turn ≡ next_exit n exit turn = ap (λ m. next_exit m exit turn) (fabric-first n) in
      (λ i. option_to_list (one i) ++ channels_by (first_history n) test (next i) turns) ∙ ap (λ l. crossing n exit ++ l) (channels-first n (next_exit n exit turn) turns)

stood-first : (k : ℕ) (c : Cable) → stood_at k (first_wire c) ≡ true
stood-first k c = let low : nat_le 0 k ≡ true = grind (arith, nat_tests) in rw low refl

pub first_stands : FirstStands
first_stands n k = (fabric-first is_in_place (λ c. refl) n, fabric-first (stood_at k) (stood-first k) n, fabric-first (is_left (first_history n)) (λ c. refl) n)

pub first_channels : FirstChannels
first_channels n k e host turns = (out-first is_in_place (λ c. refl) 0 n.cables e, channels-first (stood_at k) (stood-first k) n (Some (host_port host)) turns)

length-first : (cs : List Cable) → length (map first_wire cs) ≡ length cs
length-first [] = refl
length-first (c ∷ cs) = ap suc (length-first cs)

dated-first : (cs : List Cable) → AllByRecursion (IsDated 0) (map first_wire cs)
dated-first [] = tt
dated-first (c ∷ cs) = (record { plugged = omega arith; pulled = tt }, dated-first cs)

pub first_is_history : FirstIsHistory
first_is_history n f few = record {
  few = let same = length-first n.cables in omega (arith, few, same);
  dated = dated-first n.cables;
  accepted = omega arith;
  counted = omega arith;
  fabrics = λ k. subst IsFabric (sym (fabric-first (stood_at k) (stood-first k) n)) f;
}
