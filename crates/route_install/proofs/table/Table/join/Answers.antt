use Rattle.std.proofs.Common.{◌≡◌, true, false, List, [], Some, take, ap, sym, ◌∙◌}
use Rattle.world_defs.specs.declared.applied.Applied.{Applied}
use Rattle.world_defs.specs.declared.applied.Applied.TheVariants.{Part, Active}
use Rattle.world_defs.specs.Table.{TableState, joined}
use Rattle.route_install.specs.Collecting.{HostTable, Numbered, joined_all, are_all, active_of}
use Rattle.route_install.proofs.Applying.{joined-active, joined-part}
use Rattle.route_install.proofs.table.Table.join.Goals as goal

pub returns-then-are_all-clause-state : goal.returns-then-are_all-clause-state
returns-then-are_all-clause-state c =
    let e = c.self.inside.epoch in
    let ps : List Numbered = c.self.inside.collected.items in
    let t : TableState = record { epoch = e; revoked = c.self.inside.revoked; collected = ps; active = active_of c.self.inside.active_epoch c.self.inside.active.items } in
    let same : t ≡ c.args.self.now.state = ap (λ (s : HostTable). s.state) c.self.view_is in
    let yes : are_all c.args.parts ps ≡ true = sym (c.are_all.ensures ∙ ap (are_all c.args.parts) c.deref.ensures.value) ∙ c.if-are_all.true in
    let front : c.swap.new.y.items ≡ take c.args.parts ps = (λ i. (c.swap.ensures.y_after i).items) ∙ c.truncate.ensures.items ∙ ap (λ n. take n ps) c.from.ensures in
    let made : List Numbered → List Numbered → Applied × TableState = λ qs rs. (Active, record { epoch = e; revoked = c.self.inside.revoked; collected = qs; active = Some (record { epoch = e; entries = joined_all rs }) }) in
    ap (λ qs. made qs c.swap.new.y.items) c.clear.ensures.items
    ∙ ap (made []) front
    ∙ sym (joined-active t c.args.parts c.self.invariant.0 yes)
    ∙ ap (joined c.args.parts) same

pub returns-else-are_all-clause-state : goal.returns-else-are_all-clause-state
returns-else-are_all-clause-state c =
    let ps : List Numbered = c.self.inside.collected.items in
    let t : TableState = record { epoch = c.self.inside.epoch; revoked = c.self.inside.revoked; collected = ps; active = active_of c.self.inside.active_epoch c.self.inside.active.items } in
    let same : t ≡ c.args.self.now.state = ap (λ (s : HostTable). s.state) c.self.view_is in
    let no : are_all c.args.parts ps ≡ false = sym (c.are_all.ensures ∙ ap (are_all c.args.parts) c.deref.ensures.value) ∙ c.if-are_all.false in
    ap (λ (s : TableState). (Part, s)) (sym same)
    ∙ sym (joined-part t c.args.parts c.self.invariant.0 no)
    ∙ ap (joined c.args.parts) same
