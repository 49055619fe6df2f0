use Rattle.replicate_merge.specs.Steps.{HasNoNodes}
use Rattle.replicate_merge.proofs.Starts.{none-same, start-alone}
use Rattle.replicate_merge.proofs.starting.lone_host.Goals as goal

pub returns : goal.returns
returns c =
    let none = c.reserve.new.self in
    let one = c.add_node.new.self in
    let two = c.add_way.new.self in
    let h : HasNoNodes none = none-same c.new-joined.result none c.new-joined.ensures c.reserve.ensures.same in
    let e = c.add_way.ensures in
    start-alone c.args.host none one two h c.add_node.ensures e.adds e.frames e.heads e.same
