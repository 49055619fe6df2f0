use Rattle.std.proofs.Common.{◌≡◌, ◌++◌, [], List, Some, ap, ◌∙◌}
use Rattle.journal_defs.specs.declared.entry.Entry.{Entry}
use Rattle.replicate_merge.specs.declared.way.Way.{Way}
use Rattle.replicate_merge.specs.Cables.{host_ways}
use Rattle.replicate_merge.proofs.Behind.{own-ways}
use Rattle.replicate_merge.proofs.ways.own_ways.Goals as goal

pub returns : goal.returns
returns c =
    let e : Entry = record { walk = c.args.walk.now; answer = c.args.answer } in
    let hosts = c.push_host.new.ways.items in
    let is_hosts : hosts ≡ [] ++ host_ways (Some c.args.answer) c.args.node = c.in_ok-push_host.ensures ∙ ap (λ (l : List Way). l ++ host_ways (Some c.args.answer) c.args.node) c.clear.ensures.items in
    own-ways c.args.walks.now c.requires.once e c.args.node hosts c.push_cables.new.ways.items is_hosts c.in_ok-push_cables.ensures
