-- The reports of the worked examples, computed.
use Rattle.std.proofs.Common.{◌≡◌, refl, [], ◌∷◌, pos, negsuc, true}
use Rattle.std.specs.Prelude.{codes}
use Rattle.std.specs.Fmt.{digits}
use Rattle.world_defs.specs.Table.{applied}
use Rattle.world_defs.specs.Node.{to_send, packet_for, after_sending}
use Rattle.world_defs.specs.Hearing.{hear}
use Rattle.world_defs.specs.Client.{begun, closed, provided_by, sent_by, polled_by}
use Rattle.world_defs.specs.Step.{lost, was_reset, repeated, held, flipped, replayed, pulled, plugged, asked, part_staged, planned_strikes, sent_out, injected, advanced, expired, gave_up, revoked}
use Rattle.net_defs.specs.Examples.{two_hosts, host_end, switch_end}
use Rattle.net_defs.specs.declared.place.Place.{Place}
use Rattle.world_defs.specs.declared.effect.Said.{Said}
use Rattle.run_defs.specs.declared.line.Line.{Line}
use Rattle.run_defs.specs.declared.line.MapWords.{MapWords}
use Rattle.run_defs.specs.declared.line.PlugWords.{PlugWords}
use Rattle.run_defs.specs.declared.line.ClientCall.{ClientCall}
use Rattle.run_defs.specs.LineText.{line_text, map_text, output_text}
use Rattle.run_defs.specs.Output.{lines}
use Rattle.run_defs.specs.Summary.{figures_in, summary}
use Rattle.run_defs.specs.Examples.{setup_map, text_of, printed, fresh, installed_session, refused_calls, closing, single_events, message_output, restarting, pulling, cables_without_routes}
use Rattle.world_defs.specs.Logs as log

pub refusals_text : printed refused_calls fresh ≡ text_of (codes "open a 0 done" ∷ codes "open a 0 refused already" ∷ codes "provide a 0 refused badsize" ∷ codes "provide a 0 token 0" ∷ codes "provide a 0 refused notoken" ∷ codes "send a 0 refused noroute" ∷ codes "send a 1 refused notopen" ∷ codes "poll a 1 refused notopen" ∷ codes "poll a 0 nothing" ∷ codes "routes refused nomap" ∷ codes "install refused noroutes" ∷ codes "end injected 0 dropped 0" ∷ [])
unfolding begun closed provided_by sent_by polled_by hear log.drain log.clear log.round_pass log.round log.settle log.sends log.host_try log.loop_try log.ask log.part_try log.install to_send packet_for after_sending lost was_reset repeated held flipped replayed asked part_staged planned_strikes sent_out injected advanced expired gave_up applied digits
refusals_text = refl

pub closing_text : printed closing installed_session ≡ text_of (codes "open a 0 done" ∷ codes "provide a 0 token 0" ∷ codes "provide a 0 token 1" ∷ codes "open b 1 done" ∷ codes "provide b 1 token 0" ∷ codes "send a 0 token 0" ∷ codes "close a 0 refused busy 1" ∷ codes "settle rounds 1 resets 0 unacked 0" ∷ codes "close a 0 refused unread 1" ∷ codes "poll a 0 sent token 0" ∷ codes "tokens a 0 send 0=client recv 0=provided 1=provided" ∷ codes "close a 0 done 2" ∷ codes "tokens a 0 refused notopen" ∷ codes "end injected 66 dropped 59" ∷ [])
unfolding begun closed provided_by sent_by polled_by hear log.drain log.clear log.round_pass log.round log.settle log.sends log.host_try log.loop_try log.ask log.part_try log.install to_send packet_for after_sending lost was_reset repeated held flipped replayed asked part_staged planned_strikes sent_out injected advanced expired gave_up applied digits
closing_text = refl

pub single_events_text : printed single_events installed_session ≡ text_of (codes "open a 0 done" ∷ codes "open b 1 done" ∷ codes "provide b 1 token 0" ∷ codes "provide b 1 token 1" ∷ codes "send a 0 token 0" ∷ codes "send a 0 token 1" ∷ codes "step injected 65" ∷ codes "step moved s 5" ∷ codes "step injected 66" ∷ codes "step idle" ∷ codes "step blocked s 5" ∷ codes "map a refused busy" ∷ codes "step arrived b message" ∷ codes "step moved s 5" ∷ codes "step lost" ∷ codes "step idle" ∷ codes "settle rounds 1 resets 0 unacked 0" ∷ codes "poll b 1 received token 0 from a 0 prio 0 len 1 bytes 01" ∷ codes "poll b 1 received token 1 from a 0 prio 0 len 1 bytes 02" ∷ codes "end injected 71 dropped 59" ∷ [])
unfolding begun closed provided_by sent_by polled_by hear log.drain log.clear log.round_pass log.round log.settle log.sends log.host_try log.loop_try log.ask log.part_try log.install to_send packet_for after_sending lost was_reset repeated held flipped replayed asked part_staged planned_strikes sent_out injected advanced expired gave_up applied digits
single_events_text = refl

pub pulling_text : printed pulling installed_session ≡ text_of (codes "open a 0 done" ∷ codes "open b 1 done" ∷ codes "provide b 1 token 0" ∷ codes "send a 0 token 0" ∷ codes "pull s 5 done" ∷ codes "pull b 0 refused nocable" ∷ codes "settle rounds 1 resets 0 unacked 1" ∷ codes "broken a b" ∷ codes "broken b a" ∷ codes "endbroken" ∷ codes "plug a 0 s 5 refused portused" ∷ codes "plug b 0 s 5 done" ∷ codes "settle rounds 1 resets 0 unacked 1" ∷ codes "install refused changed" ∷ codes "revoked 2" ∷ codes "end injected 66 dropped 61" ∷ [])
unfolding begun closed provided_by sent_by polled_by hear log.drain log.clear log.round_pass log.round log.settle log.sends log.host_try log.loop_try log.ask log.part_try log.install to_send packet_for after_sending lost was_reset repeated held flipped replayed pulled plugged asked part_staged planned_strikes sent_out injected advanced expired gave_up revoked applied digits
pulling_text = refl

pub cables_text : printed cables_without_routes fresh ≡ text_of (codes "broken refused noroutes" ∷ codes "revoked 0" ∷ codes "plug s 3 s 3 refused portused" ∷ codes "plug s 3 s 4 done" ∷ codes "plan at 1" ∷ codes "end injected 0 dropped 0" ∷ [])
unfolding begun closed provided_by sent_by polled_by hear log.drain log.clear log.round_pass log.round log.settle log.sends log.host_try log.loop_try log.ask log.part_try log.install to_send packet_for after_sending lost was_reset repeated held flipped replayed pulled plugged asked part_staged planned_strikes sent_out injected advanced expired gave_up revoked applied digits
cables_text = refl

pub restarting_text : printed restarting fresh ≡ text_of (codes "duo token 0" ∷ codes "duo token 0" ∷ codes "duo emitted 0" ∷ codes "duo hello" ∷ codes "duo emitted 1" ∷ codes "duo hello" ∷ codes "duo emitted 2" ∷ codes "duo restarted 2" ∷ codes "duo stale" ∷ codes "duo emitted 3" ∷ codes "duo hello" ∷ codes "duo unsure 0" ∷ [])
unfolding digits
restarting_text = refl

pub line_at_a_switch : line_text two_hosts (Line.Walk (Place.Switch 0 2)) ≡ text_of (codes "walk switch s port 2" ∷ [])
unfolding digits
line_at_a_switch = refl

pub line_doubtful : line_text two_hosts (Line.Map 0 (MapWords.Doubtful 1) 31 123) ≡ text_of (codes "map a doubtful 1 asks 31 packets 123" ∷ [])
unfolding digits
line_doubtful = refl

pub line_circuit : line_text two_hosts (Line.Circuit 0 5 31) ≡ text_of (codes "circuit a depth 5 asks 31" ∷ [])
unfolding digits
line_circuit = refl

pub line_circuit_nodes : line_text two_hosts (Line.CircuitNodes 1 406042) ≡ text_of (codes "circuit b nodes asks 406042" ∷ [])
unfolding digits
line_circuit_nodes = refl

pub line_route : line_text two_hosts (Line.Route 0 1 (pos 3 ∷ pos 0 ∷ negsuc 14 ∷ [])) ≡ text_of (codes "route a b +3 0 -15" ∷ [])
unfolding digits
line_route = refl

pub line_empty_message : line_text two_hosts (Line.Client ClientCall.Poll 1 1 (Said.Received 0 0 0 1 [])) ≡ text_of (codes "poll b 1 received token 0 from a 0 prio 1 len 0 bytes -" ∷ [])
unfolding digits
line_empty_message = refl

pub line_message : line_text two_hosts (Line.Client ClientCall.Poll 1 1 (Said.Received 0 0 0 0 (65 ∷ 10 ∷ 254 ∷ []))) ≡ text_of (codes "poll b 1 received token 0 from a 0 prio 0 len 3 bytes 410afe" ∷ [])
unfolding digits
line_message = refl

pub line_pulled : line_text two_hosts (Line.Pull (switch_end 0 5) true) ≡ text_of (codes "pull s 5 done" ∷ [])
unfolding digits
line_pulled = refl

pub line_full : line_text two_hosts (Line.Plug (host_end 1) (switch_end 0 5) PlugWords.Full) ≡ text_of (codes "plug b 0 s 5 refused full" ∷ [])
unfolding digits
line_full = refl

pub map_lines : map_text two_hosts setup_map ≡ text_of (codes "host a" ∷ codes "switch #0 core" ∷ codes "host b" ∷ codes "cable a 0 #0 0" ∷ codes "cable #0 +3 b 0" ∷ codes "endmap" ∷ [])
unfolding digits
map_lines = refl

pub summary_lines : output_text two_hosts (lines (summary 2 0 two_hosts (figures_in message_output))) ≡ text_of (codes "gen 2 0 hosts 2 switches 1 cables 2" ∷ codes "map complete asks 31 packets 62" ∷ codes "routes 2" ∷ codes "installed 2 of 2" ∷ codes "messages 1 received 1" ∷ codes "settle rounds 1 resets 0 unacked 0" ∷ [])
unfolding digits
summary_lines = refl
