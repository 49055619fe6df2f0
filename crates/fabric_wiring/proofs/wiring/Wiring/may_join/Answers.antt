use Rattle.std.proofs.Common.{◌≡◌, ◌∙◌, ap, sym, true, false, not, ◌&&◌, ◌||◌, Bool, nat_lt, length, is_some, vec_len}
use Rattle.net_defs.specs.Network.{same_end}
use Rattle.world_defs.specs.Crossed.{leaving}
use Rattle.fabric_wiring.proofs.Changing.{may-plug-is}
use Rattle.fabric_wiring.proofs.wiring.Wiring.may_join.Goals as goal

when : (used low : Bool) → not used ≡ true → low ≡ (not used && low)
when used low is = ap (λ t. t && low) (sym is)

unless : (used low : Bool) → not used ≡ false → not used ≡ (not used && low)
unless used low is = is ∙ ap (λ t. t && low) (sym is)

pub returns-then-not-is_used : goal.returns-then-not-is_used
returns-then-not-is_used c =
    let h = c.args.self.now in
    let long : vec_len c.self.inside.wires ≡ length c.self.inside.wires.items = c.self.inside.wires.ok.0 in
    let count : c.len.result ≡ length h.wires = c.len.ensures ∙ long ∙ ap (λ x. length x.wires) c.self.view_is in
    ap (λ n. nat_lt n 4096) count
    ∙ when (is_some (leaving h c.args.a) || is_some (leaving h c.args.b) || same_end c.args.a c.args.b) (nat_lt (length h.wires) 4096) (sym (ap not c.is_used.ensures) ∙ ap not c.if-not-is_used.true)
    ∙ sym (may-plug-is h c.args.a c.args.b c.requires.port_a c.requires.port_b)

pub returns-else-not-is_used : goal.returns-else-not-is_used
returns-else-not-is_used c =
    let h = c.args.self.now in
    ap not c.is_used.ensures
    ∙ unless (is_some (leaving h c.args.a) || is_some (leaving h c.args.b) || same_end c.args.a c.args.b) (nat_lt (length h.wires) 4096) (sym (ap not c.is_used.ensures) ∙ ap not c.if-not-is_used.false)
    ∙ sym (may-plug-is h c.args.a c.args.b c.requires.port_a c.requires.port_b)
