use Rattle.gm_port.proofs.Owner.{opened-one, sent_with-one, provided_with-one, finished-one, delivered-one, polled-one}
use Rattle.gm_port.proofs.laws.tokens_have_one_owner.Goals as goal

pub returns : goal.returns
returns c = record {
  opening = opened-one;
  sending = sent_with-one;
  providing = provided_with-one;
  finishing = finished-one;
  delivering = delivered-one;
  polling = polled-one;
}
