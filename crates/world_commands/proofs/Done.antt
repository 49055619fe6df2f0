-- That commands are done over a world, by what they print.
use Rattle.std.proofs.Common.{◌≡◌, ℕ, ℤ, List, [], ◌∷◌, Option, Some, None, option_map, refl, sym, ◌∙◌, ap, subst}
use Rattle.net_defs.specs.Route.{place}
use Rattle.world_defs.specs.declared.event.Event.{Event}
use Rattle.world_defs.specs.declared.effect.Effect.{Effect}
use Rattle.world_defs.specs.Node.{port_at}
use Rattle.world_defs.specs.Step.{step}
use Rattle.world_defs.specs.World.{WorldState, fabric_of, node_at, planned}
use Rattle.run_defs.specs.declared.command.Command.{Command}
use Rattle.run_defs.specs.declared.command.Command.TheVariants.{Walk, Map, Circuit, Routes, Install, Tokens, Plan, Step, Settle, Finish, Duo, Revoke}
use Rattle.run_defs.specs.declared.command.PlanKind.{PlanKind}
use Rattle.run_defs.specs.declared.command.StepLine.{StepLine}
use Rattle.run_defs.specs.declared.line.ClientCall.{ClientCall}
use Rattle.run_defs.specs.declared.line.Line.{Line}
use Rattle.run_defs.specs.declared.line.Line.TheVariants.{Walk as WalkLine, PlanAt, Step as StepOutput, Finish as FinishLine}
use Rattle.run_defs.specs.declared.line.StepWords.TheVariants.{Idle}
use Rattle.run_defs.specs.Outcome.{Outcome, client_lines, event_of, fault_of, one_event, deed_of_kind, outcome, seen, token_lines, words_of}
use Rattle.run_defs.specs.Output.{OneLine, lines}
use Rattle.run_defs.specs.Duos.{IsOther}
use Rattle.run_defs.specs.Session.{SessionState, LastMap, LastRoutes}
use Rattle.fab_report.specs.Printed.{PrintedState, printed_of}
use Rattle.fab_world.specs.declared.clients.PortAt.{PortAt}
use Rattle.world_commands.specs.Done.{IsCall, IsDone, IsOneEvent, session_of}

-- a command whose outcome is one line
pub one : (c : Command) (l : Line) (w v : WorldState) (told : PrintedState)
    → ((made : Option LastMap) → (found : Option LastRoutes) → outcome (session_of w made found) c ≡ Some (record { output = OneLine l ∷ []; after = session_of v made found }))
    → told ≡ printed_of (fabric_of w) (OneLine l ∷ []) → IsDone c w v told
one c l w v told o e = record { output = OneLine l ∷ []; determined = o; printed = e }

pub walked : (w : WorldState) (host : ℕ) (walk : List ℤ) (told : PrintedState) → told ≡ printed_of (fabric_of w) (OneLine (WalkLine (place (fabric_of w) host walk)) ∷ []) → IsDone (Walk host walk) w w told
walked w host walk told e = one (Walk host walk) (WalkLine (place (fabric_of w) host walk)) w w told (λ made found. refl) e

pub finished : (w : WorldState) (told : PrintedState) → told ≡ printed_of (fabric_of w) (OneLine (FinishLine w.injected w.dropped) ∷ []) → IsDone Finish w w told
finished w told e = one Finish (FinishLine w.injected w.dropped) w w told (λ made found. refl) e

pub planned_so : (w v : WorldState) (ahead : ℕ) (kind : PlanKind) (told : PrintedState) → v ≡ (planned w ahead (fault_of kind)).1
    → told ≡ printed_of (fabric_of w) (OneLine (PlanAt (planned w ahead (fault_of kind)).0) ∷ []) → IsDone (Plan ahead kind) w v told
planned_so w v ahead kind told same e =
    let l : Line = PlanAt (planned w ahead (fault_of kind)).0 in
    one (Plan ahead kind) l w v told (λ made found. ap (λ (u : WorldState). Some (record { output = OneLine l ∷ []; after = session_of u made found })) (sym same)) e

pub tokens_so : (w : WorldState) (host port : ℕ) (told : PrintedState) → told ≡ printed_of (fabric_of w) (lines (token_lines host port (port_at (node_at w host) port))) → IsDone (Tokens host port) w w told
tokens_so w host port told e = record {
  output = lines (token_lines host port (port_at (node_at w host) port));
  determined = λ made found. refl;
  printed = e;
}

-- a call of a client, by its effect and the world then
abbrev pub call_outcome : SessionState → ClientCall → PortAt → Effect × WorldState → Outcome
call_outcome s call at x = record { output = lines (client_lines call at.host at.port x.0); after = record s { world = x.1 } }

pub call-done : (s : SessionState) (c : Command) (call : ClientCall) (at : PortAt) (event : Event) → IsCall c call at event → outcome s c ≡ Some (call_outcome s call at (step s.world event))
call-done s c call at event is = ap (λ k. option_map (seen s) (deed_of_kind s k)) is

pub called_so : (c : Command) (call : ClientCall) (at : PortAt) (event : Event) (x : Effect × WorldState) (w v : WorldState) (told : PrintedState) → IsCall c call at event → step w event ≡ x → v ≡ x.1
    → told ≡ printed_of (fabric_of w) (lines (client_lines call at.host at.port x.0)) → IsDone c w v told
called_so c call at event x w v told is happened same e = record {
  output = lines (client_lines call at.host at.port x.0);
  determined = λ made found.
      call-done (session_of w made found) c call at event is
      ∙ ap (λ (y : Effect × WorldState). Some (call_outcome (session_of w made found) call at y)) happened
      ∙ ap (λ (y : WorldState). Some (record { output = lines (client_lines call at.host at.port x.0); after = session_of y made found })) (sym same);
  printed = e;
}

-- a step, by its event
abbrev pub step_lines : Effect → WorldState → List Line
step_lines effect v = StepOutput (words_of v effect) ∷ []

pub step-done : (s : SessionState) (line : StepLine) (o : Option Event) → event_of s.world line ≡ o → outcome s (Step line) ≡ Some (seen s (one_event s.world step_lines o))
step-done s line o is = ap (λ (o : Option Event). Some (seen s (one_event s.world step_lines o))) is

-- a step's line that is an event
pub stepped_so : (w v : WorldState) (line : StepLine) (event : Event) (told : PrintedState) → event_of w line ≡ Some event → v ≡ (step w event).1
    → told ≡ printed_of (fabric_of w) (OneLine (StepOutput (words_of (step w event).1 (step w event).0)) ∷ []) → IsDone (Step line) w v told
stepped_so w v line event told is same e =
    let l : Line = StepOutput (words_of (step w event).1 (step w event).0) in
    one (Step line) l w v told (λ made found. step-done (session_of w made found) line (Some event) is ∙ ap (λ (y : WorldState). Some (record { output = OneLine l ∷ []; after = session_of y made found })) (sym same)) e

-- a step on a port without cable
pub idle_so : (w : WorldState) (line : StepLine) (told : PrintedState) → event_of w line ≡ None → told ≡ printed_of (fabric_of w) (OneLine (StepOutput Idle) ∷ []) → IsDone (Step line) w w told
idle_so w line told none e = one (Step line) (StepOutput Idle) w w told (λ made found. step-done (session_of w made found) line None none) e

-- what was done by the command that it is
pub done_as : (c d : Command) (w v : WorldState) (told : PrintedState) → IsDone d w v told → d ≡ c → IsDone c w v told
done_as c d w v told done same = subst (λ x. IsDone x w v told) same done

-- a command that is none of the others is of one event at most
pub one-event : (c : Command) → ((host : ℕ) (walk : List ℤ) → c ≡ Walk host walk → ⊥) → ((host depth tries : ℕ) → c ≡ Map host depth tries → ⊥) → ((host depth : ℕ) → c ≡ Circuit host depth → ⊥) → (c ≡ Routes → ⊥) → ((tries : ℕ) → c ≡ Install tries → ⊥) → (c ≡ Settle → ⊥) → (c ≡ Revoke → ⊥) → IsOther c → IsOneEvent c
one-event (Map host depth tries) w m k r i s v o = m host depth tries refl
one-event (Circuit host depth) w m k r i s v o = k host depth refl
one-event Routes w m k r i s v o = r refl
one-event (Install tries) w m k r i s v o = i tries refl
one-event Settle w m k r i s v o = s refl
one-event Revoke w m k r i s v o = v refl
one-event (Walk host walk) w m k r i s v o = w host walk refl
one-event (Duo e) w m k r i s v o = absurd (o e refl)
one-event _ w m k r i s v o = tt
