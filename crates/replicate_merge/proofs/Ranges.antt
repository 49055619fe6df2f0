-- Ports that lead somewhere are ports of one switch, so as ports of a class they are from -15 to 15.
use Rattle.std.proofs.Common.{◌≡◌, ◌<◌, ℕ, true, List, Some, ap, ◌∙◌, arith, to_z, of_z, w8, w16, SFits}
use Rattle.std.specs.Prelude.{ℤ, pos, negsuc, ◌+ℤ◌, int_le}
use Rattle.std.proofs.lemmas.Bool.{and_parts}
use Rattle.std.proofs.lemmas.Bool.Decides.{nat_tests}
use Rattle.std.proofs.lemmas.Int.{ints, to_z-of_z}
use Rattle.net_defs.specs.declared.vertex.End.{End}
use Rattle.net_defs.specs.Network.{Network, IsFabric, far, has_port}
use Rattle.net_defs.specs.Turn.{IsTurn}
use Rattle.journal_defs.specs.declared.entry.Entry.{Entry}
use Rattle.journal_defs.specs.Tree.{Node, Leads}
use Rattle.journal_defs.specs.Replicates.{Replicates}
use Rattle.net_defs.proofs.Cabling.{at_most_sixteen, far-back, far_end-holds}
use Rattle.journal_defs.proofs.Standing.{leads-crosses, leads-to, node-stands, port-below, stand, turn-between}
use Rattle.port_align.specs.declared.frame.ClassFrame.{ClassFrame}
use Rattle.replicate_merge.specs.declared.way.Way.{Way}
use Rattle.replicate_merge.specs.declared.way.Way.TheVariants.{Host, Cable}
use Rattle.replicate_merge.specs.Truth.{IsTrueOfOne}
use Rattle.replicate_merge.specs.Ways.{AreSound, IsWay, begins_at, frame_at, node_at}
use Rattle.replicate_merge.specs.Adding.{IsTurnSpot}

fits-eight : (b : ℤ) → int_le (negsuc 14) b ≡ true → int_le b (pos 15) ≡ true → SFits w8 b
fits-eight b low high = grind (arith, ints)

fits-sixteen : (b : ℤ) → int_le (negsuc 14) b ≡ true → int_le b (pos 15) ≡ true → SFits w16 b
fits-sixteen b low high = grind (arith, ints)

-- a turn of 16 bits is the same of eight
pub turn-cast : (b : ℤ) → IsTurn b → to_z w8 (of_z w8 (to_z w16 (of_z w16 b))) ≡ b
turn-cast b t =
    let two = and_parts (int_le (negsuc 14) b) (int_le b (pos 15)) t in
    ap (λ x. to_z w8 (of_z w8 x)) (to_z-of_z w16 b (fits-sixteen b two.0 two.1)) ∙ to_z-of_z w8 b (fits-eight b two.0 two.1)

-- a cabled port is one of at most 16
cabled-below : (n : Network) (d e : End) → IsFabric n → far n d ≡ Some e → d.p < 16
cabled-below n d e f cable =
    let back = far-back n d e f cable in
    let there : has_port n d ≡ true = far_end-holds n.cables (λ x. has_port n x ≡ true) e d f.cabled_ports back in
    let few = at_most_sixteen n d.v f in
    grind (arith, nat_tests)

sum-port : (a b c : ℕ) (p k : ℤ) → pos a ≡ pos b +ℤ p → pos b ≡ pos c +ℤ k → pos a ≡ pos c +ℤ (p +ℤ k)
sum-port a b c p k e f = omega (arith, ints)

-- a port that leads somewhere, as a port of a replicate
pub port-turn : (host : ℕ) (j : List Entry) (u v x : Node) (k p i : ℤ) → IsTrueOfOne host j → Replicates host j u v k → Leads j u p x i → IsTurn (p +ℤ k)
port-turn host j u v x k p i t r leads =
    let s = stand t.fabric host j u v k t.is_fabric t.told r in
    let to = node-stands t.fabric host j x t.told (leads-to j u x p i leads) in
    let over = leads-crosses t.fabric host j u x p i s.at_u to.at t.is_fabric leads s.is_at_u to.is in
    let leaves = cabled-below t.fabric (record { v = s.at_u.v; p = over.leaves }) (record { v = to.at.v; p = over.enters }) t.is_fabric over.cable in
    turn-between over.leaves s.at_v.p (p +ℤ k) leaves (port-below t.fabric host v s.at_v t.is_fabric s.is_at_v) (sum-port over.leaves s.at_u.p s.at_v.p p k over.leaves_by s.apart)

-- where a way begins
pub begin-turn : (host : ℕ) (j : List Entry) (ns : List Node) (fs : List ClassFrame) → IsTrueOfOne host j → AreSound host j ns fs → (w : Way) → IsWay host j ns w → IsTurnSpot (begins_at fs w)
begin-turn host j ns fs t sound (Host a n) is = tt
begin-turn host j ns fs t sound (Cable m p n i) is = port-turn host j (node_at ns m) (node_at ns (frame_at fs m).class) (node_at ns n) (frame_at fs m).offset p i t (sound.replicates m is.0) is.2
