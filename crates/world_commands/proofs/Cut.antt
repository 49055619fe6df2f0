-- What is left of commands where memory runs out: a refused one runs out of it in its text alone.
use Rattle.std.proofs.Common.{◌≡◌, ℕ, ℤ, true, false, List, [], ◌∷◌, Option, Some, None, Result, Ok, Err, refl, sym, ◌∙◌, ap, subst}
use Rattle.std.specs.Prelude.{IfErr}
use Rattle.net_defs.specs.Route.{place}
use Rattle.world_defs.specs.declared.event.Event.{Event}
use Rattle.world_defs.specs.declared.effect.Effect.{Effect}
use Rattle.world_defs.specs.declared.effect.Effect.TheVariants.{Said as SaidSo}
use Rattle.world_defs.specs.Node.{port_at}
use Rattle.world_defs.specs.Step.{step}
use Rattle.world_defs.specs.World.{WorldState, fabric_of, node_at, planned}
use Rattle.run_defs.specs.declared.command.Command.{Command}
use Rattle.run_defs.specs.declared.command.Command.TheVariants.{Walk, Tokens, Plan, Step, Finish}
use Rattle.run_defs.specs.declared.command.PlanKind.{PlanKind}
use Rattle.run_defs.specs.declared.command.StepLine.{StepLine}
use Rattle.run_defs.specs.declared.line.ClientCall.{ClientCall}
use Rattle.run_defs.specs.declared.line.Line.{Line}
use Rattle.run_defs.specs.declared.line.Line.TheVariants.{Walk as WalkLine, NoMap, PlanAt, Step as StepOutput, Client, Finish as FinishLine}
use Rattle.run_defs.specs.declared.line.StepWords.TheVariants.{Idle}
use Rattle.run_defs.specs.Outcome.{Outcome, client_lines, event_of, fault_of, outcome, token_lines, words_of}
use Rattle.run_defs.specs.Output.{Piece, OneLine, lines}
use Rattle.run_defs.specs.Session.{SessionState}
use Rattle.fab_report.specs.Printed.{PrintedState, printed_of}
use Rattle.fab_world.specs.Held.{is_refusal}
use Rattle.world_commands.specs.declared.out_of_memory.OutOfMemory.{OutOfMemory}
use Rattle.world_commands.specs.declared.out_of_memory.OutOfMemory.TheVariants.{InDoing, InLine}
use Rattle.fab_world.specs.declared.clients.PortAt.{PortAt}
use Rattle.world_commands.specs.Cut.{is_refusal_line, IsRefused, IsLeft, IsEventLeft}
use Rattle.world_commands.specs.Cut.IsLeft.{undone, unprinted}
use Rattle.world_commands.specs.Done.{IsCall, session_of}
use Rattle.world_commands.proofs.Done.{walked, finished, planned_so, tokens_so, call_outcome, call-done, called_so, step-done, stepped_so, idle_so}

-- where memory ran out while a command was done, and in its line, what holds then holds
pub in-doing : {A : Type 0} (r : Result A OutOfMemory) (P : OutOfMemory → Type 0) → P InDoing → IfErr r (λ e. e ≡ InDoing) → IfErr r P
in-doing (Ok x) P p is = tt
in-doing (Err e) P p is = subst P (sym is) p

pub in-line : {A : Type 0} (r : Result A OutOfMemory) (P : OutOfMemory → Type 0) → P InLine → IfErr r (λ e. e ≡ InLine) → IfErr r P
in-line (Ok x) P p is = tt
in-line (Err e) P p is = subst P (sym is) p

-- what an outcome prints, and the line that it begins with
abbrev pub output-of : Option Outcome → List Piece
output-of None = []
output-of (Some o) = o.output

abbrev pub first-line : List Piece → Line
first-line (OneLine l ∷ out) = l
first-line _ = NoMap

-- a command that prints another line isn't refused, nor is one that prints nothing
pub not-refused : (s next : SessionState) (c : Command) (l : Line) → outcome s c ≡ Some (record { output = OneLine l ∷ []; after = next }) → is_refusal_line l ≡ false → IsRefused s c → ⊥
not-refused s next c l is other r =
    let printed : OneLine l ∷ [] ≡ OneLine r.line ∷ [] = ap output-of (sym is ∙ r.prints) in
    let same : l ≡ r.line = ap first-line printed in
    let bad : false ≡ true = sym other ∙ ap is_refusal_line same ∙ r.refuses in
    cc

-- nor is one whose first line isn't a refusal
pub begun-other : (s : SessionState) (c : Command) (o : Outcome) → outcome s c ≡ Some o → is_refusal_line (first-line o.output) ≡ false → IsRefused s c → ⊥
begun-other s c o is other r =
    let printed : o.output ≡ OneLine r.line ∷ [] = ap output-of (sym is ∙ r.prints) in
    let bad : false ≡ true = sym other ∙ ap is_refusal_line (ap first-line printed) ∙ r.refuses in
    cc

nothing-printed : (s next : SessionState) (c : Command) → outcome s c ≡ Some (record { output = []; after = next }) → IsRefused s c → ⊥
nothing-printed s next c is r =
    let printed : [] ≡ OneLine r.line ∷ [] = ap output-of (sym is ∙ r.prints) in
    cc

-- a client's call
call-kept : (s : SessionState) (c : Command) (call : ClientCall) (at : PortAt) (x : Effect × WorldState) → outcome s c ≡ Some (call_outcome s call at x) → is_refusal x.0 ≡ false → IsRefused s c → ⊥
call-kept s c call at (SaidSo said, u) is other r = not-refused s (record s { world = u }) c (Client call at.host at.port said) is other r
call-kept s c call at (effect, u) is other r = nothing-printed s (record s { world = u }) c is r

pub call_left : (c : Command) (call : ClientCall) (at : PortAt) (event : Event) (w v : WorldState) → IsCall c call at event → v ≡ w → is_refusal (step w event).0 ≡ false → IsLeft c w v InDoing
call_left c call at event w v is same other = undone same (λ made found. call-kept (session_of w made found) c call at (step w event) (call-done (session_of w made found) c call at event is) other)

pub called_left : (c : Command) (call : ClientCall) (at : PortAt) (event : Event) (x : Effect × WorldState) (w v : WorldState) → IsCall c call at event → step w event ≡ x → v ≡ x.1 → IsLeft c w v InLine
called_left c call at event x w v is happened same =
    let told : PrintedState = printed_of (fabric_of w) (lines (client_lines call at.host at.port x.0)) in
    unprinted told (called_so c call at event x w v told is happened same refl)

-- a walk
pub walk_left : (w : WorldState) (host : ℕ) (walk : List ℤ) → IsLeft (Walk host walk) w w InDoing
walk_left w host walk = undone refl (λ made found. not-refused (session_of w made found) (session_of w made found) (Walk host walk) (WalkLine (place (fabric_of w) host walk)) refl refl)

pub walked_left : (w : WorldState) (host : ℕ) (walk : List ℤ) → IsLeft (Walk host walk) w w InLine
walked_left w host walk =
    let told : PrintedState = printed_of (fabric_of w) (OneLine (WalkLine (place (fabric_of w) host walk)) ∷ []) in
    unprinted told (walked w host walk told refl)

-- a plan
pub plan_left : (w v : WorldState) (ahead : ℕ) (kind : PlanKind) → v ≡ w → IsLeft (Plan ahead kind) w v InDoing
plan_left w v ahead kind same = undone same (λ made found. not-refused (session_of w made found) (session_of (planned w ahead (fault_of kind)).1 made found) (Plan ahead kind) (PlanAt (planned w ahead (fault_of kind)).0) refl refl)

pub planned_left : (w v : WorldState) (ahead : ℕ) (kind : PlanKind) → v ≡ (planned w ahead (fault_of kind)).1 → IsLeft (Plan ahead kind) w v InLine
planned_left w v ahead kind same =
    let told : PrintedState = printed_of (fabric_of w) (OneLine (PlanAt (planned w ahead (fault_of kind)).0) ∷ []) in
    unprinted told (planned_so w v ahead kind told same refl)

-- the places of tokens, and the end
pub tokens_left : (w : WorldState) (at : PortAt) → IsLeft (Tokens at.host at.port) w w InLine
tokens_left w at =
    let told : PrintedState = printed_of (fabric_of w) (lines (token_lines at.host at.port (port_at (node_at w at.host) at.port))) in
    unprinted told (tokens_so w at.host at.port told refl)

pub finish_left : (w : WorldState) → IsLeft Finish w w InLine
finish_left w =
    let told : PrintedState = printed_of (fabric_of w) (OneLine (FinishLine w.injected w.dropped) ∷ []) in
    unprinted told (finished w told refl)

-- a step
step-kept : (s : SessionState) (line : StepLine) (event : Event) → event_of s.world line ≡ Some event → IsRefused s (Step line) → ⊥
step-kept s line event is =
    let x : Effect × WorldState = step s.world event in
    not-refused s (record s { world = x.1 }) (Step line) (StepOutput (words_of x.1 x.0)) (step-done s line (Some event) is) refl

pub step_left : (w v : WorldState) (line : StepLine) (event : Event) (e : OutOfMemory) → event_of w line ≡ Some event → IsEventLeft event w v e → IsLeft (Step line) w v e
step_left w v line event InDoing is same = undone same (λ made found. step-kept (session_of w made found) line event is)
step_left w v line event InLine is same =
    let told : PrintedState = printed_of (fabric_of w) (OneLine (StepOutput (words_of (step w event).1 (step w event).0)) ∷ []) in
    unprinted told (stepped_so w v line event told is same refl)

pub idle_left : (w : WorldState) (line : StepLine) → event_of w line ≡ None → IsLeft (Step line) w w InLine
idle_left w line none =
    let told : PrintedState = printed_of (fabric_of w) (OneLine (StepOutput Idle) ∷ []) in
    unprinted told (idle_so w line told none refl)

-- the same of the command that it is
pub left_as : (c d : Command) (w v : WorldState) (e : OutOfMemory) → IsLeft d w v e → d ≡ c → IsLeft c w v e
left_as c d w v e left same = subst (λ x. IsLeft x w v e) same left
