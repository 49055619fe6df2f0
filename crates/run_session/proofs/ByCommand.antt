-- By which lemmas each command that makes no map is obeyed, and routes are kept.
use Rattle.run_session.proofs.Going.{goes_same}
use Rattle.run_session.proofs.Installs.{installed_so}
use Rattle.run_session.proofs.Keeping.{kept_last_routes, was_connected, was_few, was_there}
use Rattle.run_session.proofs.Obeying.{busy_so, circuit_so, done_so, routes_told}

pub ruleset commands_obeyed = (done_so, busy_so, circuit_so, installed_so, goes_same)

pub ruleset routes_kept = (routes_told, kept_last_routes, was_connected, was_few, was_there)
