use Rattle.std.proofs.Common.{arith}
use Rattle.library_example.proofs.Given.{begun, provided, sent, polled, poll_called}
use Rattle.library_example.proofs.message.Goals as goal

pub happen-requires : goal.happen-requires
happen-requires c =
    let two = c.requires.two in
    let ann_host = c.new-ann.ensures.host in
    let ann_port = c.new-ann.ensures.port in
    record { given = begun c.args.w.now c.new-ann.result 1 0 c.begin.result c.begin.ensures (omega (arith, ann_host, two)) (omega (arith, ann_port)) }

pub happen-requires-2 : goal.happen-requires-2
happen-requires-2 c =
    let two = c.requires.two in
    let h1 = c.happen.ensures.hosts in
    let ben_host = c.new-ben.ensures.host in
    let ben_port = c.new-ben.ensures.port in
    record { given = begun c.happen.new.w c.new-ben.result 0 1 c.begin-2.result c.begin-2.ensures (omega (arith, ben_host, two, h1)) (omega (arith, ben_port)) }

pub happen-requires-3 : goal.happen-requires-3
happen-requires-3 c =
    let two = c.requires.two in
    let h1 = c.happen.ensures.hosts in
    let h2 = c.happen-2.ensures.hosts in
    let ben_host = c.new-ben.ensures.host in
    let ben_port = c.new-ben.ensures.port in
    record { given = provided c.happen-2.new.w c.new-ben.result 4 0 c.provide.result c.provide.ensures (omega (arith, ben_host, two, h1, h2)) (omega (arith, ben_port)) }

pub happen-requires-4 : goal.happen-requires-4
happen-requires-4 c =
    let two = c.requires.two in
    let h1 = c.happen.ensures.hosts in
    let h2 = c.happen-2.ensures.hosts in
    let h3 = c.happen-3.ensures.hosts in
    let ann_host = c.new-ann.ensures.host in
    let ann_port = c.new-ann.ensures.port in
    let ben_host = c.new-ben.ensures.host in
    let ben_port = c.new-ben.ensures.port in
    record { given = sent c.happen-3.new.w c.new-ann.result c.new-ben.result 0 5 72 c.send.result c.send.ensures (omega (arith, ann_host, two, h1, h2, h3)) (omega (arith, ben_host, two, h1, h2, h3)) (omega (arith, ann_port)) (omega (arith, ben_port)) (omega arith) }

pub happen-requires-7 : goal.happen-requires-7
happen-requires-7 c =
    let two = c.requires.two in
    let h1 = c.happen.ensures.hosts in
    let h2 = c.happen-2.ensures.hosts in
    let h3 = c.happen-3.ensures.hosts in
    let h4 = c.happen-4.ensures.hosts in
    let h5 = c.happen-5.ensures.hosts in
    let h6 = c.happen-6.ensures.hosts in
    let settled = c.settle.ensures.hosts in
    let ann_host = c.new-ann.ensures.host in
    let ann_port = c.new-ann.ensures.port in
    record { given = polled c.settle.new.w c.new-ann.result c.poll.result c.poll.ensures (omega (arith, ann_host, two, h1, h2, h3, h4, h5, h6, settled)) (omega (arith, ann_port)) }

pub call-requires-clause-client : goal.call-requires-clause-client
call-requires-clause-client c =
    poll_called c.new-ben.result c.poll-2.result c.poll-2.ensures

pub call-requires-clause-given : goal.call-requires-clause-given
call-requires-clause-given c =
    let two = c.requires.two in
    let h1 = c.happen.ensures.hosts in
    let h2 = c.happen-2.ensures.hosts in
    let h3 = c.happen-3.ensures.hosts in
    let h4 = c.happen-4.ensures.hosts in
    let h5 = c.happen-5.ensures.hosts in
    let h6 = c.happen-6.ensures.hosts in
    let h7 = c.happen-7.ensures.hosts in
    let settled = c.settle.ensures.hosts in
    let ben_host = c.new-ben.ensures.host in
    let ben_port = c.new-ben.ensures.port in
    polled c.happen-7.new.w c.new-ben.result c.poll-2.result c.poll-2.ensures (omega (arith, ben_host, two, h1, h2, h3, h4, h5, h6, h7, settled)) (omega (arith, ben_port))
