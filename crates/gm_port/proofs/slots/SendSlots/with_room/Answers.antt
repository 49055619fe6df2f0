use Rattle.std.proofs.Common.{◌≡◌, ◌≤◌, length, ◌∙◌, arith}
use Rattle.gm_port.proofs.Keyed.{no-slots, free-tickets}
use Rattle.gm_port.proofs.slots.SendSlots.with_room.Goals as goal

pub invariant_of-result : goal.invariant_of-result
invariant_of-result c =
    let many : length c.in_ok-keys.keys.items ≡ c.args.count = c.in_ok-keys.ensures.count in
    let room : c.args.count ≤ c.in_ok-slots.slots.capacity = c.in_ok-slots.ensures.capacity in
    no-slots c.in_ok-slots.slots c.in_ok-keys.keys.items c.in_ok-held.held.items c.in_ok-slots.ensures.empty c.in_ok-keys.ensures.free c.in_ok-held.ensures.free
    (c.in_ok-held.ensures.count ∙ c.capacity.ensures.value) (omega (arith, many, room))

pub returns-clause-free : goal.returns-clause-free
returns-clause-free c = free-tickets c.in_ok-keys.keys.items _ c.in_ok-keys.ensures.free
