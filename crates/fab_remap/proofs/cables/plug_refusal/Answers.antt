use Rattle.std.proofs.Common.{◌≤◌, arith}
use Rattle.fab_remap.proofs.Possible.{refused-used, refused-none, refused-full}
use Rattle.fab_remap.proofs.cables.plug_refusal.Goals as goal

pub returns-then-is_refused : goal.returns-then-is_refused
returns-then-is_refused c = refused-used c.args.w.now c.args.a c.args.b c.fabric.result.now c.is_refused.result c.fabric.ensures c.is_refused.ensures c.if-is_refused.true

pub returns-then-channels-lt-MAX_CHANNELS : goal.returns-then-channels-lt-MAX_CHANNELS
returns-then-channels-lt-MAX_CHANNELS c =
    refused-none c.args.w.now c.args.a c.args.b c.fabric.result.now c.is_refused.result c.fabric.ensures c.is_refused.ensures c.channels.result c.if-is_refused.false c.channels.ensures.same
    c.if-channels-lt-MAX_CHANNELS.true

pub returns-else-channels-lt-MAX_CHANNELS : goal.returns-else-channels-lt-MAX_CHANNELS
returns-else-channels-lt-MAX_CHANNELS c =
    let many : 8192 ≤ c.channels.result = omega (arith, c.if-channels-lt-MAX_CHANNELS.false) in
    refused-full c.args.w.now c.args.a c.args.b c.fabric.result.now c.is_refused.result c.fabric.ensures c.is_refused.ensures c.channels.result c.if-is_refused.false c.channels.ensures.same many
