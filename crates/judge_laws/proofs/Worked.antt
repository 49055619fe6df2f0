-- The worked example.
use Rattle.std.proofs.Common.{refl, arith}
use Rattle.std.specs.Fmt.{digits}
use Rattle.net_defs.specs.Examples.{two_hosts, host_end, switch_end}
use Rattle.net_defs.proofs.TwoHosts.{two_hosts_fabric}
use Rattle.world_defs.specs.declared.event.Event.TheVariants.{Pull as PullEvent, Plug as PlugEvent, Begin as BeginEvent, Close as CloseEvent}
use Rattle.world_defs.specs.Client.{begun, closed}
use Rattle.world_defs.specs.World.{new_world}
use Rattle.world_defs.specs.Step.{step, pulled, plugged}
use Rattle.fab_script.specs.Ranges.{IsCommandOf}
use Rattle.run_defs.specs.declared.command.Command.TheVariants.{Begin, Close}
use Rattle.run_defs.specs.Session.{SessionState, new_session}
use Rattle.run_defs.specs.Run.{IsRun}
use Rattle.run_defs.proofs.Doing.{does}
use Rattle.run_defs.proofs.Doing.Doing.{determined}
use Rattle.run_defs.specs.Run.Runs.{ended, goes_on}
use Rattle.judge_laws.specs.Examples.{moving, moved, ReportIsJudgedYes}
use Rattle.judge_laws.proofs.Judged.{reports_are_judged_yes}

-- the sessions without the cable, and with it at another port
abbrev without : SessionState
without = record (new_session two_hosts) { world = (step (new_world two_hosts) (PullEvent (switch_end 0 5))).1 }

abbrev again : SessionState
again = record without { world = (step without.world (PlugEvent (host_end 1) (switch_end 0 6))).1 }

-- and with a port open, and closed again
abbrev begins : SessionState
begins = record again { world = (step again.world (BeginEvent 0 2 1 1)).1 }

abbrev closes : SessionState
closes = record begins { world = (step begins.world (CloseEvent 0 2)).1 }

moving-runs : IsRun two_hosts moving moved closes
unfolding pulled plugged begun closed
moving-runs =
    goes_on {next = new_session two_hosts} (does (determined refl))
    (goes_on {next = without} (does (determined refl))
    (goes_on {next = without} (does (determined refl))
    (goes_on {next = again} (does (determined refl))
    (goes_on {next = again} (does (determined refl))
    (goes_on {next = begins} (does (determined refl))
    (goes_on {next = begins} (does (determined refl))
    (goes_on {next = closes} (does (determined refl))
    (goes_on {next = closes} (does (determined refl)) ended refl) refl) refl) refl) refl) refl) refl) refl) refl

opens : IsCommandOf two_hosts (Begin 0 2 1 1)
opens = (refl, (omega arith, omega arith), (omega arith, omega arith), (omega arith, omega arith))

closing : IsCommandOf two_hosts (Close 0 2)
closing = (refl, (omega arith, omega arith))

pub report-judged : ReportIsJudgedYes
unfolding digits
report-judged =
    reports_are_judged_yes two_hosts moving moved closes 21 12 two_hosts_fabric (refl, (refl, (refl, tt)))
    ((refl, refl), (refl, (tt, ((refl, refl), ((refl, refl), (opens, (closing, (closing, (tt, tt)))))))))
    (refl, (refl, (refl, (refl, (refl, (refl, (refl, (refl, (refl, tt))))))))) (tt, (tt, (tt, (tt, (tt, (tt, (tt, (tt, (tt, tt))))))))) moving-runs
