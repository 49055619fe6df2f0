use Rattle.std.proofs.Common.{refl, inl, inr}
use Rattle.program_edge.proofs.edge.run_kept.Goals as goal

pub returns-in-Ok : goal.returns-in-Ok
returns-in-Ok g c = record {
  middle = c.run-number.new.out;
  number = c.run-number.result;
  ran = c.run-number.ensures;
  written = record {
    same = c.finish.ensures.taken;
    ended = inl (c.in-Ok.ensures.whole, refl);
    nothing = c.finish.ensures.nothing;
  };
}

pub returns-in-Err : goal.returns-in-Err
returns-in-Err g c = record {
  middle = c.run-number.new.out;
  number = c.run-number.result;
  ran = c.run-number.ensures;
  written = record {
    same = c.finish.ensures.taken;
    ended = inr (c.in-Err.ensures.cause.failed, refl);
    nothing = c.finish.ensures.nothing;
  };
}
