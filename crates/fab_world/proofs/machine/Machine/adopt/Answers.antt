use Rattle.std.proofs.Common.{ap, sym, ◌∙◌}
use Rattle.world_defs.specs.Table.{keeps_in, adopted_in, whole_table}
use Rattle.world_defs.specs.World.{standing_of}
use Rattle.route_install.specs.Collecting.{HostTable}
use Rattle.fab_world.proofs.HostEvents.{adopted-is}
use Rattle.fab_world.proofs.Places.{IsAt, found, kept-in-state}
use Rattle.fab_world.proofs.Resting.{marked, has-mark}
use Rattle.fab_world.proofs.machine.Machine.adopt.Goals as goal
use Rattle.std.specs.Prelude.{Some}

pub mark-requires : goal.mark-requires
mark-requires c =
    has-mark c.self.inside.links c.self.inside.hosts.items c.self.inside.adopted c.args.self.now c.self.inside.marks c.args.mapper c.from-at.result c.self.view_is c.self.invariant
    c.requires c.from-at.ensures

pub take_table-requires : goal.take_table-requires
take_table-requires c =
    let at : IsAt c.self.inside.links c.self.inside.hosts.items c.self.inside.adopted c.args.self.now c.args.mapper c.from-at.result c.index_mut.result.now =
    record { is = c.self.view_is; kept = c.self.invariant.hosts; below = c.requires; at = c.from-at.ensures; there = c.index_mut.ensures.value } in
    let there = found at in
    ap (λ t. t.host) c.in_ok-table.ensures.table ∙ sym there.host

pub invariant_of-self-2 : goal.invariant_of-self-2
invariant_of-self-2 c =
    let at : IsAt c.self.inside.links c.self.inside.hosts.items c.self.inside.adopted c.args.self.now c.args.mapper c.from-at.result c.index_mut.result.now =
    record { is = c.self.view_is; kept = c.self.invariant.hosts; below = c.requires; at = c.from-at.ensures; there = c.index_mut.ensures.value } in
    marked c.self.inside.marks c.mark.new.self c.take_table.new.self at c.self.invariant (kept-in-state c.take_table.new.self (record c.index_mut.result.now.state { table = c.in_ok-table.table.state }) at c.take_table.ensures) c.mark.ensures

pub returns-clause-adopted : goal.returns-clause-adopted
returns-clause-adopted c =
    let w = c.args.self.now in
    let routes = c.args.set in
    let h = c.args.mapper in
    let at : IsAt c.self.inside.links c.self.inside.hosts.items c.self.inside.adopted w h c.from-at.result c.index_mut.result.now =
    record { is = c.self.view_is; kept = c.self.invariant.hosts; below = c.requires; at = c.from-at.ensures; there = c.index_mut.ensures.value } in
    let set = ap (λ v. v.adopted) c.self.view_is in
    let stands = c.standing-standing.ensures in
    adopted-is c.take_table.new.self routes c.keeps-keeps.result c.in_ok-table.table c.adopt.new.self c.begin_epoch.new.links at
    (c.keeps-keeps.ensures ∙ ap (λ s. keeps_in s routes c.self.inside.adopted) stands ∙ ap (keeps_in (standing_of w) routes) set)
    (c.in_ok-table.ensures.table ∙ ap (λ s. let t : HostTable = record { host = h; state = whole_table routes h (adopted_in s h routes c.self.inside.adopted).epoch } in t) stands
    ∙ ap (λ o. let t : HostTable = record { host = h; state = whole_table routes h (adopted_in (standing_of w) h routes o).epoch } in t) set)
    (c.in_ok-table.ensures.adopted ∙ ap (λ s. Some (adopted_in s h routes c.self.inside.adopted)) stands ∙ ap (λ o. Some (adopted_in (standing_of w) h routes o)) set)
    c.begin_epoch.ensures c.take_table.ensures
