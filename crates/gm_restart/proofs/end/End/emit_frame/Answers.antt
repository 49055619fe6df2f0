use Rattle.std.proofs.Common.{◌≡◌, ◌∙◌, List, Some, option_map, length, sym, ap, subst}
use Rattle.std.specs.Prelude.{slice_get}
use Rattle.std.proofs.lemmas.Option.{get_or_from_slice_get}
use Rattle.gm_defs.specs.declared.message.Message.{Message}
use Rattle.gm_defs.specs.declared.frame.ConnectionKey.{ConnectionKey}
use Rattle.gm_defs.specs.Body.{frame_bytes}
use Rattle.gm_conn.specs.Lane.{HostLane, due_frame as due_on, head_of_frame}
use Rattle.duo_defs.specs.Duo.{EndState, with_lane}
use Rattle.duo_defs.specs.Emitting.{due_frame, frame_emission}
use Rattle.duo_defs.specs.Theorem.{IsWaiting}
use Rattle.gm_restart.specs.End.{HostEnd, end_of}
use Rattle.gm_restart.proofs.Waiting.{IsDueFrame, due-is, frame-emitted}
use Rattle.gm_restart.proofs.end.End.emit_frame.Goals as goal

pub encode_frame-requires-clause-part : goal.encode_frame-requires-clause-part
encode_frame-requires-clause-part c =
    let waits : IsWaiting c.self.inside.held.state c.self.inside.lane.state = subst (λ (e : HostEnd). IsWaiting e.state.port e.state.present.lane) (sym c.self.view_is) c.requires.waiting in
    let on = ap (λ (k : ConnectionKey). option_map head_of_frame (due_on (record { key = k; state = c.self.inside.lane.state }))) c.self.invariant.key in
    let d : IsDueFrame c.self.inside.host c.self.inside.lane.state c.in-Some.due.head = due-is c.self.inside.held.state c.self.inside.host c.self.inside.lane.state c.in-Some.due.head waits (c.in-Some.ensures.head ∙ on) in
    let there : slice_get c.sent.result.now c.in-Some.due.head.seq ≡ Some d.message = ap (λ (l : List Message). slice_get l c.in-Some.due.head.seq) c.sent.ensures ∙ d.there in
    let same : c.index-sent-head.result ≡ d.message = c.index-sent-head.is ∙ get_or_from_slice_get c.sent.result.now c.in-Some.due.head.seq d.message c.index-sent-head.result there in
    ap length (c.bytes.ensures ∙ ap (λ (m : Message). m.body) same) ∙ d.long

pub returns-clause-ok : goal.returns-clause-ok
returns-clause-ok c =
    let waits : IsWaiting c.self.inside.held.state c.self.inside.lane.state = subst (λ (e : HostEnd). IsWaiting e.state.port e.state.present.lane) (sym c.self.view_is) c.requires.waiting in
    let on = ap (λ (k : ConnectionKey). option_map head_of_frame (due_on (record { key = k; state = c.self.inside.lane.state }))) c.self.invariant.key in
    let d : IsDueFrame c.self.inside.host c.self.inside.lane.state c.in-Some.due.head = due-is c.self.inside.held.state c.self.inside.host c.self.inside.lane.state c.in-Some.due.head waits (c.in-Some.ensures.head ∙ on) in
    let there : slice_get c.sent.result.now c.in-Some.due.head.seq ≡ Some d.message = ap (λ (l : List Message). slice_get l c.in-Some.due.head.seq) c.sent.ensures ∙ d.there in
    let same : c.index-sent-head.result ≡ d.message = c.index-sent-head.is ∙ get_or_from_slice_get c.sent.result.now c.in-Some.due.head.seq d.message c.index-sent-head.result there in
    let body : c.bytes.result.now ≡ d.message.body = c.bytes.ensures ∙ ap (λ (m : Message). m.body) same in
    let inside : HostEnd = end_of c.self.inside.host c.self.inside.inc c.self.inside.known c.self.inside.lane c.self.inside.past.items c.self.inside.owes_hello c.self.inside.returned.items c.self.inside.held in
    let later : EndState = with_lane inside.state c.sent_one.new.self.state in
    subst (λ (e : HostEnd). option_map (frame_emission e.host e.state) (due_frame e.host e.state) ≡ Some (c.data.result, later)) c.self.view_is
    (frame-emitted c.self.inside.host inside.state later c.in-Some.due.head c.data.result c.in_ok-body-in-Some.body.items d
    (c.in_ok-body-in-Some.ensures.bytes ∙ ap (frame_bytes c.in-Some.due.head) body) c.data.ensures (ap (λ (l : HostLane). with_lane inside.state l.state) c.sent_one.ensures))
