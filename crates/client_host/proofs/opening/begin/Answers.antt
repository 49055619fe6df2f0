use Rattle.port_client.proofs.Returns.{opened-sends, opened-recvs}
use Rattle.client_host.proofs.opening.begin.Goals as goal

pub retire-requires-clause-sends : goal.retire-requires-clause-sends
retire-requires-clause-sends c = opened-sends c.in_ok-client.client c.host.result c.args.port c.args.sends c.args.recvs c.in_ok-client.ensures

pub retire-requires-clause-recvs : goal.retire-requires-clause-recvs
retire-requires-clause-recvs c = opened-recvs c.in_ok-client.client c.host.result c.args.port c.args.sends c.args.recvs c.in_ok-client.ensures
