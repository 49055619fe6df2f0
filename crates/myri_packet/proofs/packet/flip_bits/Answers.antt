use Rattle.std.proofs.Common.{◌++◌, ◌∷◌, []}
use Rattle.myri_packet.proofs.Built.{two_masks}
use Rattle.myri_packet.proofs.packet.flip_bits.Goals as goal

pub returns : goal.returns
returns c =
    two_masks (c.args.head.now ++ c.args.check.now ∷ []) (c.add_at.new.head ++ c.add_at.new.check ∷ []) (c.add_at-2.new.head ++ c.add_at-2.new.check ∷ [])
    c.args.bit c.args.pattern c.from.result c.ranges.pattern.fits c.from.ensures c.add_at.ensures c.add_at-2.ensures
