use Rattle.std.proofs.Common.{◌≡◌, ap, ◌∙◌, arith, rules, SFits, to_z, of_z, w8, w16}
use Rattle.std.specs.Prelude.{ℤ, ◌+ℤ◌, ◌-ℤ◌, neg_ℤ}
use Rattle.std.proofs.lemmas.Int.{ints, to_z-of_z}
use Rattle.port_align.specs.declared.frame.ClassFrame.{ClassFrame}
use Rattle.replicate_merge.specs.Ways.{frame_at}
use Rattle.replicate_merge.specs.Rounds.{pair_offset}
use Rattle.replicate_merge.specs.Rounds.Orients.{to_second}
use Rattle.replicate_merge.proofs.settling.oriented.Goals as goal

turned : (x y : ℤ) → x -ℤ y ≡ neg_ℤ (y -ℤ x)
turned x y = omega (arith, ints)

pub returns-then-index-clause-some : goal.returns-then-index-clause-some
returns-then-index-clause-some c =
    let fs = c.args.frames.now.items in
    let m = c.args.meeting in
    let one : c.at-first.result ≡ frame_at fs m.first.node = c.at-first.ensures in
    let two : c.at-second.result ≡ frame_at fs m.second.node = c.at-second.ensures in
    let fits : SFits w16 c.apart.result = search rules in
    let same : to_z w16 (of_z w16 c.apart.result) ≡ c.apart.result = to_z-of_z w16 c.apart.result fits in
    let fits1 : SFits w8 m.first.port = search rules in
    let fits2 : SFits w8 m.second.port = search rules in
    let p1 : to_z w8 (of_z w8 m.first.port) ≡ m.first.port = to_z-of_z w8 m.first.port fits1 in
    let p2 : to_z w8 (of_z w8 m.second.port) ≡ m.second.port = to_z-of_z w8 m.second.port fits2 in
    let offset : c.apart.result ≡ neg_ℤ (pair_offset fs m) =
    c.apart.ensures ∙ (λ i. (p2 i +ℤ (two i).offset) -ℤ (p1 i +ℤ (one i).offset)) ∙ turned (m.second.port +ℤ (frame_at fs m.second.node).offset) (m.first.port +ℤ (frame_at fs m.first.node).offset) in
    record { orients = to_second (ap (λ (f : ClassFrame). f.class) one) (ap (λ (f : ClassFrame). f.class) two) (same ∙ offset); two = c.if-first-second.false }
