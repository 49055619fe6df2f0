use Rattle.gm_restart.proofs.Both.{hello-heard, data-heard, data-loud}
use Rattle.gm_restart.proofs.ends.arrive.Goals as goal

pub returns-else-src-eq0-clause-ok : goal.returns-else-src-eq0-clause-ok
returns-else-src-eq0-clause-ok c =
    hello-heard c.args.first.now.state c.args.second.now.state c.hear_hello-else-src-eq0.new.self.state c.args.packet.now c.in-Hello.src c.in-Hello.inc c.in-Hello.knows
    c.hear_hello-else-src-eq0.result c.in-Hello.is c.if-src-eq0.false c.hear_hello-else-src-eq0.ensures.ok

pub returns-else-src-eq0-2-clause-ok : goal.returns-else-src-eq0-2-clause-ok
returns-else-src-eq0-2-clause-ok c =
    data-heard c.args.first.now.state c.args.second.now.state c.hear_data-else-src-eq0-2.new.self.state c.args.packet.now c.in-Data.src c.in-Data.src_inc c.in-Data.dst_inc c.in-Data.body
    c.bytes-else-src-eq0-2.result.now c.hear_data-else-src-eq0-2.result c.in-Data.is c.bytes-else-src-eq0-2.ensures c.if-src-eq0-2.false c.hear_data-else-src-eq0-2.ensures.ok

pub returns-else-src-eq0-2-clause-wanting : goal.returns-else-src-eq0-2-clause-wanting
returns-else-src-eq0-2-clause-wanting c =
    data-loud c.args.first.now.state c.args.second.now.state c.args.packet.now c.in-Data.src c.in-Data.src_inc c.in-Data.dst_inc c.in-Data.body
    c.bytes-else-src-eq0-2.result.now c.hear_data-else-src-eq0-2.result c.in-Data.is c.bytes-else-src-eq0-2.ensures c.if-src-eq0-2.false c.hear_data-else-src-eq0-2.ensures.wanting
