-- Packets of connections that no flip has met are lawful, so they all come to their hosts.
use Rattle.std.proofs.Common.{◌≡◌, inl, inr, subst, arith}
use Rattle.net_defs.specs.Network.{Network}
use Rattle.world_defs.specs.Traffic.{IsLawfulTraffic}
use Rattle.world_defs.specs.Links.{Held}
use Rattle.world_defs.specs.World.{WorldState, epoch_of}
use Rattle.world_defs.specs.Acts.{IsReached}
use Rattle.table_laws.proofs.Dependencies.{links-of_epoch}
use Rattle.lawful_laws.specs.Probes.{IsProbe}
use Rattle.lawful_laws.specs.Former.{is_of_parts, is_former, IsPacketOf, IsExcused}
use Rattle.lawful_laws.proofs.ProbePackets.{gm-no_probe, gm-no_former}
use Rattle.lawful_laws.proofs.Lawful.{unflipped-lawful}
use Rattle.lawful_laws.proofs.Flowing.{lawful-drains}
use Rattle.settle_laws.specs.Settles.{SettleEndsSettled}
use Rattle.settle_laws.proofs.Plain.{IsPlainPacket, IsPlain}
use Rattle.settle_laws.proofs.Passing.{PlainDrainsIdle}
use Rattle.settle_laws.proofs.Settling.{settle-settled}

plain-unexcused : (n : Network) (w : WorldState) (held : Held) → IsReached n w → IsPlainPacket w.links.epoch held → IsExcused IsProbe w held → ⊥
plain-unexcused n w held is p (IsExcused.probe probe) = gm-no_probe p.turns p.payload (subst IsProbe p.wire probe)
plain-unexcused n w held is p (IsExcused.older low) =
    let born = p.born in
    let now : w.links.epoch ≡ epoch_of w = links-of_epoch n w is in
    omega (arith, low, born, now)
plain-unexcused n w held is p (IsExcused.former x) = gm-no_former (is_former (epoch_of w)) p.turns p.payload (subst (IsPacketOf (is_former (epoch_of w))) p.wire x)
plain-unexcused n w held is p (IsExcused.plugged new x) = gm-no_former is_of_parts p.turns p.payload (subst (IsPacketOf is_of_parts) p.wire x)

plain-lawful : (n : Network) (w : WorldState) → IsReached n w → IsPlain w.links → IsLawfulTraffic w
plain-lawful n w is plain = record {
  packets = λ c held e.
      let p = plain.packets c held e in
      elim (unflipped-lawful n w c held is e p.unmarked) [ inl excused ↦ absurd (plain-unexcused n w held is p excused) | inr lawful ↦ lawful ];
}

plain-drains : PlainDrainsIdle
plain-drains n w is plain = lawful-drains n w is (plain-lawful n w is plain)

pub settle-ends_settled : SettleEndsSettled
settle-ends_settled = settle-settled plain-drains
