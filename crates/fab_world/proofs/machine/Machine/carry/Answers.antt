use Rattle.std.proofs.Common.{◌≡◌, ◌<◌, ◌+◌, true, length, ap, sym, subst, ◌∙◌, arith}
use Rattle.world_defs.specs.Links.{is_idle}
use Rattle.world_defs.specs.World.{WorldState}
use Rattle.link_model.specs.Carried.{IsCarried}
use Rattle.fab_world.proofs.Probing.{carried-in, end-there, way-idle, way-left}
use Rattle.fab_world.proofs.machine.Machine.carry.Goals as goal

pub overflow_add-number : goal.overflow_add-number
overflow_add-number c =
    let low = way-left c.args.self.now c.args.host c.args.c c.requires.way in
    let number : c.injected-number.result ≡ c.args.self.now.injected = c.injected-number.ensures ∙ ap (λ (w : WorldState). w.injected) c.self.view_is in
    omega (arith, low, number)

pub carry-carried-requires-clause-there : goal.carry-carried-requires-clause-there
carry-carried-requires-clause-there c = subst (λ (w : WorldState). c.args.c < length w.links.channels) (sym c.self.view_is) c.requires.channel

pub carry-carried-requires-clause-idle : goal.carry-carried-requires-clause-idle
carry-carried-requires-clause-idle c =
    subst (λ (w : WorldState). is_idle w.links ≡ true) (sym c.self.view_is) (way-idle c.args.self.now c.args.host c.args.c c.requires.way)

pub end_alone-requires-clause-left : goal.end_alone-requires-clause-left
end_alone-requires-clause-left c = way-left c.args.self.now c.args.host c.args.c c.requires.way

pub end_alone-requires-clause-there : goal.end_alone-requires-clause-there
end_alone-requires-clause-there c =
    let r = c.carry-carried.result in
    end-there c.args.self.now c.args.c r.hops c.write_probe.new.packet c.carry-carried.new.packet r.end c.requires.history c.requires.hosts
    (subst (λ (w : WorldState). IsCarried w.links c.args.c c.write_probe.new.packet r.hops r.end c.carry-carried.new.packet) c.self.view_is c.carry-carried.ensures)

pub returns-clause-carried : goal.returns-clause-carried
returns-clause-carried c =
    let r = c.carry-carried.result in
    let number : c.injected-number.result ≡ c.args.self.now.injected = c.injected-number.ensures ∙ ap (λ (w : WorldState). w.injected) c.self.view_is in
    carried-in c.args.self.now c.args.host c.args.c r.hops (c.injected-number.result + 1) c.args.walk.now c.args.looped c.write_probe.new.packet c.carry-carried.new.packet r.end c.in_ok-effect.effect c.end_alone.new.self
    c.requires.there c.requires.way (ap (λ n. n + 1) number)
    c.in_ok-write_probe.ensures.ok
    (subst (λ (w : WorldState). IsCarried w.links c.args.c c.write_probe.new.packet r.hops r.end c.carry-carried.new.packet) c.self.view_is c.carry-carried.ensures)
    c.in_ok-effect.ensures.ok
