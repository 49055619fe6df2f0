-- The map of the two hosts at one switch, as a run makes it, and what the promise of a run asks of it.
use Rattle.std.proofs.Common.{◌≡◌, ◌<◌, ◌≤◌, ◌⊎◌, ℕ, [], ◌∷◌, map, refl, subst, arith, inl, inr}
use Rattle.net_defs.specs.Examples.{two_hosts}
use Rattle.journal_defs.specs.Growth.{IsEndedAtLimit, IsClosed}
use Rattle.journal_defs.specs.Examples.{two_hosts_journal}
use Rattle.journal_defs.proofs.Grown.{two_hosts_grown, two_hosts_closed}
use Rattle.map_defs.specs.Examples.{two_hosts_map}
use Rattle.map_defs.proofs.TwoHosts.{two_hosts_quotient}
use Rattle.world_defs.specs.Table.{applied}
use Rattle.world_defs.specs.Node.{to_send, packet_for, after_sending}
use Rattle.world_defs.specs.Hearing.{hear}
use Rattle.world_defs.specs.Client.{begun, closed, provided_by, sent_by, polled_by}
use Rattle.world_defs.specs.Step.{lost, was_reset, repeated, held, flipped, replayed, asked, part_staged, planned_strikes, sent_out, injected, advanced, expired, gave_up}
use Rattle.world_defs.specs.World.{new_world}
use Rattle.run_defs.specs.declared.line.MapWords.{MapWords}
use Rattle.run_defs.specs.declared.line.MapWords.TheVariants.{Complete, IncompleteDepth}
use Rattle.run_defs.specs.declared.command.Command.TheVariants.{Map, Finish}
use Rattle.run_defs.specs.declared.line.Line.TheVariants.{Map as MapLine, Finish as FinishLine}
use Rattle.run_defs.specs.Output.{OneLine, MapLines}
use Rattle.run_defs.specs.Mapped.{IsMapped, IsCalled}
use Rattle.run_defs.specs.Mapped.IsCalled.{too_many_nodes, too_shallow, doubted, right}
use Rattle.run_defs.specs.Run.{IsRun, Does}
use Rattle.run_defs.proofs.Doing.{does}
use Rattle.run_defs.proofs.Doing.Doing.{determined, maps}
use Rattle.run_defs.specs.Run.Runs.{ended, goes_on}
use Rattle.run_defs.specs.Session.{new_session}
use Rattle.run_defs.specs.Headline.{HasPrinted, IsQuiet}
use Rattle.run_defs.specs.Examples.{setup_map, mapped_world, mapping, mapping_output, mapped_session, doubtful_world}
use Rattle.world_defs.specs.Logs as log

asks : (log.asks 0 0 1 (map (λ e. e.walk) two_hosts_journal) (new_world two_hosts)).value ≡ record { entries = two_hosts_journal; drowned = 0 }
unfolding begun closed provided_by sent_by polled_by hear log.drain log.clear log.round_pass log.round log.settle log.sends log.host_try log.loop_try log.ask log.part_try log.install to_send packet_for after_sending lost was_reset repeated held flipped replayed asked part_staged planned_strikes sent_out injected advanced expired gave_up applied
asks = refl

-- three nodes are far from the limit
few_nodes : ¬ IsEndedAtLimit two_hosts_journal
few_nodes e = let passed = e.passed in absurd (omega arith)

two_hosts_all : IsClosed 0 two_hosts_journal
two_hosts_all = record { expanded = two_hosts_closed }

pub two_hosts_mapped : IsMapped 0 4 1 (new_world two_hosts) mapped_world two_hosts_journal setup_map Complete
two_hosts_mapped = record {
  drowned = 0;
  asked = asks;
  led = refl;
  grown = two_hosts_grown;
  within = λ l. record { unmarked = two_hosts_map; quotient = two_hosts_quotient; marked = refl };
  beyond = λ l. absurd (few_nodes l);
  called = right few_nodes two_hosts_all refl;
}

not_shallow : (drowned : ℕ) (words : MapWords) → words ≡ IncompleteDepth → ¬ IsCalled 0 two_hosts_journal drowned words
not_shallow drowned words e (too_many_nodes l) = cc
not_shallow drowned words e (too_shallow l c) = absurd (c two_hosts_all)
not_shallow drowned words e (doubted l c d) = cc
not_shallow drowned words e (right l c d) = cc

pub not_called_shallow : ¬ IsMapped 0 4 1 (new_world two_hosts) mapped_world two_hosts_journal setup_map IncompleteDepth
not_called_shallow m = not_shallow m.drowned IncompleteDepth refl m.called

injections : mapped_world.injected ≡ 62
unfolding begun closed provided_by sent_by polled_by hear log.drain log.clear log.round_pass log.round log.settle log.sends log.host_try log.loop_try log.ask log.part_try log.install to_send packet_for after_sending lost was_reset repeated held flipped replayed asked part_staged planned_strikes sent_out injected advanced expired gave_up applied
injections = refl

first_does : Does (new_session two_hosts) (Map 0 4 1) (OneLine (MapLine 0 Complete 31 62) ∷ MapLines setup_map ∷ []) mapped_session
unfolding begun closed provided_by sent_by polled_by hear log.drain log.clear log.round_pass log.round log.settle log.sends log.host_try log.loop_try log.ask log.part_try log.install to_send packet_for after_sending lost was_reset repeated held flipped replayed asked part_staged planned_strikes sent_out injected advanced expired gave_up applied
first_does = does (maps mapped_world two_hosts_journal setup_map Complete refl two_hosts_mapped refl refl)

last_does : Does mapped_session Finish (OneLine (FinishLine 62 59) ∷ []) mapped_session
unfolding begun closed provided_by sent_by polled_by hear log.drain log.clear log.round_pass log.round log.settle log.sends log.host_try log.loop_try log.ask log.part_try log.install to_send packet_for after_sending lost was_reset repeated held flipped replayed asked part_staged planned_strikes sent_out injected advanced expired gave_up applied
last_does = does (determined refl)

pub mapping_runs : IsRun two_hosts mapping mapping_output mapped_session
mapping_runs = goes_on first_does (goes_on last_does ended refl) refl

pub map_is_printed : HasPrinted mapping_output 0 setup_map
map_is_printed = record { before = []; behind = OneLine (FinishLine 62 59) ∷ []; asks = 31; packets = 62; there = refl }

pub first_is_quiet : IsQuiet 0 (new_world two_hosts) mapped_world
first_is_quiet = record { idle = refl; unplanned = tt; injections_left = omega arith; small = inl (omega arith) }

pub planned_is_not_quiet : ¬ IsQuiet 0 doubtful_world mapped_world
planned_is_not_quiet q = by q.unplanned.0
  where
    by : (1 ≤ 0) ⊎ (mapped_world.injected < 1) → ⊥
    by (inl l) = omega arith
    by (inr l) = let few : 62 < 1 = subst (λ n. n < 1) injections l in omega arith
