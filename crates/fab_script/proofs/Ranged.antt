-- Each command that a script says is one over its fabric: by the forms of words, the kinds of lines, and line by line.
use Rattle.std.proofs.Common.{◌≡◌, ◌≤◌, ◌<◌, ◌+◌, ℕ, ℤ, List, [], ◌∷◌, Bool, true, false, length, nat_eq, nat_lt, position, Option, Some, None, option_map, Result, Ok, Err, IfOk, refl, subst, arith, if◌then◌else◌, bytes_eq}
use Rattle.std.specs.Prelude.{codes}
use Rattle.std.specs.List.{AllByRecursion}
use Rattle.std.proofs.lemmas.Bool.Decides.{nat_tests}
use Rattle.std.proofs.lemmas.List.Quantifiers.{position-Some}
use Rattle.net_defs.specs.declared.vertex.Vertex.{Vertex}
use Rattle.net_defs.specs.declared.vertex.Vertex.TheVariants.{Host, Switch}
use Rattle.net_defs.specs.declared.vertex.End.{End}
use Rattle.net_defs.specs.Network.{Network, NamedSwitch, ports_of, has_vertex}
use Rattle.net_defs.specs.Building.{vertex_named, first_of_two}
use Rattle.fab_text.specs.declared.fault.NumFault.{NumFault}
use Rattle.fab_text.specs.declared.fault.FaultKind.{FaultKind}
use Rattle.fab_text.specs.declared.fault.FaultKind.TheVariants.{BadWord, TooLarge, PortRange}
use Rattle.fab_text.specs.declared.fault.TextFault.{TextFault}
use Rattle.fab_text.specs.declared.fault.TextFault.TheVariants.{At, NoMemory}
use Rattle.fab_text.specs.Word.{name_test, number_within}
use Rattle.fab_text.specs.Line.{TextLine, lines_left, line_count, words_of}
use Rattle.fab_text.specs.Fault.{FirstFault, TextGives, as_kind, at_line, and_then}
use Rattle.duo_defs.specs.declared.event.DuoEvent.{DuoEvent}
use Rattle.duo_defs.specs.declared.event.DuoEvent.TheVariants.{Send as DuoSend, Provide as DuoProvide, Emit, Deliver, Expire as DuoExpire, Poll as DuoPoll, Restart}
use Rattle.duo_defs.specs.Step.{IsFair}
use Rattle.run_defs.specs.declared.command.Command.{Command}
use Rattle.run_defs.specs.declared.command.Command.TheVariants.{Walk, Map, Circuit, Routes, Install, Begin, Close, Poll, Tokens, Provide, Send, Plan, Step, Settle, Duo, Pull, Plug, Revoke, Broken}
use Rattle.run_defs.specs.declared.command.PlanKind.{PlanKind}
use Rattle.run_defs.specs.declared.command.PlanKind.TheVariants.{Lose as PlanLose, Repeat as PlanRepeat, Hold as PlanHold, Flip as PlanFlip, Pull as PlanPull}
use Rattle.run_defs.specs.declared.command.StepLine.{StepLine}
use Rattle.run_defs.specs.declared.command.StepLine.TheVariants.{Inject, GiveUp, Advance, Lose, Repeat, Hold, Reset, Flip, Expire, Replay}
use Rattle.run_defs.specs.Script.{Form, OfName, OfNumber, Value, Name, Number, value_of, values_of, said_by, from_least, LineKind, command_by, address_of, at_host, at_hosts, end_at, at_end, two_ends_at, of_port, of_switch_port, of_count, of_prio, of_tries, of_ahead, of_bit, of_pattern, map_meant, circuit_meant, alone_meant, install_meant, open_meant, at_port_meant, provide_meant, send_meant, plan_meant, plan_flip_meant, plan_pull_meant, pull_meant, plug_meant, host_step_meant, end_step_meant, flip_step_meant, expire_meant, replay_meant, of_end, duo_meant, duo_send_meant, duo_provide_meant, duo_kinds, line_kinds, plan_kinds, step_kinds, by_second, turns_of, walk_said, command_as, command_of, is_end, ended, script_from, script_reading}
use Rattle.fab_script.specs.Ranges.{IsHost, IsEnd, IsWithin, IsPlanned, IsStepOf, IsDuoOf, IsCommandOf}
use Rattle.fab_script.specs.Values.{cable_kinds}
use Rattle.fab_script.proofs.Turns.{within, turns-walk}

-- a value of a form, and values of forms
abbrev IsIn : Form → Value → Type 0
IsIn OfName (Name w) = Unit {0}
IsIn (OfNumber least most) (Number v) = IsWithin least most v
IsIn _ _ = ⊥

abbrev AreIn : List Form → List Value → Type 0
AreIn [] [] = Unit {0}
AreIn (f ∷ fs) (v ∷ vs) = IsIn f v × AreIn fs vs
AreIn _ _ = ⊥

number-in : (least most : ℕ) (w : List ℕ) (v : Value) → and_then (as_kind (number_within most w)) (from_least least) ≡ Ok v → IsIn (OfNumber least most) v
number-in least most w v e = by (number_within most w) refl e
  where
    least_by : (x : ℕ) (below : Bool) → nat_lt x least ≡ below → (if below then Err TooLarge else Ok (Number x)) ≡ Ok v → x ≤ most → IsIn (OfNumber least most) v
    least_by x true f e h = cc
    least_by x false f e h = let one : Number x ≡ v = cc in subst (IsIn (OfNumber least most)) one (grind (arith, nat_tests), h)

    by : (r : Result ℕ NumFault) → number_within most w ≡ r → and_then (as_kind r) (from_least least) ≡ Ok v → IsIn (OfNumber least most) v
    by (Ok x) f e = least_by x (nat_lt x least) refl e (within most w x f)
    by (Err k) f e = cc

value-in : (f : Form) (w : List ℕ) (v : Value) → value_of f w ≡ Ok v → IsIn f v
value-in OfName w v e = by (name_test w) e
  where
    by : (b : Bool) → (if b then Ok (Name w) else Err BadWord) ≡ Ok v → IsIn OfName v
    by true e = let one : Name w ≡ v = cc in subst (IsIn OfName) one tt
    by false e = cc
value-in (OfNumber least most) w v e = number-in least most w v e

values-in : (fs : List Form) (ws : List (List ℕ)) (vs : List Value) → values_of fs ws ≡ Ok vs → AreIn fs vs
values-in [] [] vs e = let none : [] ≡ vs = cc in subst (AreIn []) none tt
values-in [] (w ∷ ws) vs e = cc
values-in (f ∷ fs) [] vs e = cc
values-in (f ∷ fs) (w ∷ ws) vs e = by (value_of f w) (values_of fs ws) (value-in f w) (values-in fs ws) e
  where
    by : (r : Result Value FaultKind) (rs : Result (List Value) FaultKind) → ((v : Value) → r ≡ Ok v → IsIn f v) → ((us : List Value) → rs ≡ Ok us → AreIn fs us)
        → and_then r (λ v. and_then rs (λ us. Ok (v ∷ us))) ≡ Ok vs → AreIn (f ∷ fs) vs
    by (Ok v) (Ok us) p q e = let one : v ∷ us ≡ vs = cc in subst (AreIn (f ∷ fs)) one (p v refl, q us refl)
    by (Ok v) (Err k) p q e = cc
    by (Err k) rs p q e = cc

said-in : (fs : List Form) (ws : List (List ℕ)) (vs : List Value) → said_by fs ws ≡ Ok vs → AreIn fs vs
said-in fs ws vs e = by (nat_eq (length fs) (length ws)) e
  where
    by : (b : Bool) → (if b then values_of fs ws else Err BadWord) ≡ Ok vs → AreIn fs vs
    by true e = values-in fs ws vs e
    by false e = cc

-- what holds of the values of forms, value by value
abbrev EachOf : List Form → (List Value → Type 0) → Type 0
EachOf [] P = P []
EachOf (OfName ∷ fs) P = (w : List ℕ) → EachOf fs (λ vs. P (Name w ∷ vs))
EachOf (OfNumber least most ∷ fs) P = (v : ℕ) → IsWithin least most v → EachOf fs (λ vs. P (Number v ∷ vs))

each-of : (fs : List Form) (P : List Value → Type 0) → EachOf fs P → (vs : List Value) → AreIn fs vs → P vs
each-of [] P h [] p = h
each-of [] P h (v ∷ vs) p = absurd p
each-of (f ∷ fs) P h [] p = absurd p
each-of (OfName ∷ fs) P h (Name w ∷ vs) p = each-of fs (λ us. P (Name w ∷ us)) (h w) vs p.1
each-of (OfName ∷ fs) P h (Number x ∷ vs) p = absurd p.0
each-of (OfNumber least most ∷ fs) P h (Name w ∷ vs) p = absurd p.0
each-of (OfNumber least most ∷ fs) P h (Number x ∷ vs) p = each-of fs (λ us. P (Number x ∷ us)) (h x p.0) vs p.1

-- what was named is there
named-there : (n : Network) (name : List ℕ) (v : Vertex) → vertex_named n name ≡ Some v → has_vertex n v ≡ true
named-there n name v e = by (position (bytes_eq name) n.hosts) (position (λ (s : NamedSwitch). bytes_eq name s.name) n.switches) refl refl e
  where
    low : (i k : ℕ) → i < k → nat_lt i k ≡ true
    low i k l = grind (arith, nat_tests)

    by : (o p : Option ℕ) → position (bytes_eq name) n.hosts ≡ o → position (λ (s : NamedSwitch). bytes_eq name s.name) n.switches ≡ p
        → first_of_two (option_map Host o) (option_map Switch p) ≡ Some v → has_vertex n v ≡ true
    by (Some h) p f g e = let one : Host h ≡ v = cc in subst (λ u. has_vertex n u ≡ true) one (low h (length n.hosts) (position-Some (bytes_eq name) n.hosts h [] f).0)
    by None (Some s) f g e =
        let one : Switch s ≡ v = cc in
        subst (λ u. has_vertex n u ≡ true) one (low s (length n.switches) (position-Some (λ (w : NamedSwitch). bytes_eq name w.name) n.switches s (record { name = []; ports = 0 }) g).0)
    by None None f g e = cc

host-there : (n : Network) (name : List ℕ) (h : ℕ) → address_of (vertex_named n name) ≡ Ok h → IsHost n h
host-there n name h e = by (vertex_named n name) refl e
  where
    by : (o : Option Vertex) → vertex_named n name ≡ o → address_of o ≡ Ok h → IsHost n h
    by None f e = cc
    by (Some (Host g)) f e = let one : g ≡ h = cc in subst (IsHost n) one (named-there n name (Host g) f)
    by (Some (Switch s)) f e = cc

-- a command at a host, at two hosts, at an end
host-of : (n : Network) (name : List ℕ) (command : ℕ → Command) (c : Command) → at_host n name command ≡ Ok c → ((h : ℕ) → IsHost n h → IsCommandOf n (command h)) → IsCommandOf n c
host-of n name command c e k = by (address_of (vertex_named n name)) (host-there n name) e
  where
    by : (r : Result ℕ FaultKind) → ((h : ℕ) → r ≡ Ok h → IsHost n h) → and_then r (λ h. Ok (command h)) ≡ Ok c → IsCommandOf n c
    by (Ok h) p e = let one : command h ≡ c = cc in subst (IsCommandOf n) one (k h (p h refl))
    by (Err f) p e = cc

hosts-of : (n : Network) (a b : List ℕ) (command : ℕ → ℕ → Command) (c : Command) → at_hosts n a b command ≡ Ok c
    → ((g h : ℕ) → IsHost n g → IsHost n h → IsCommandOf n (command g h)) → IsCommandOf n c
hosts-of n a b command c e k = by (address_of (vertex_named n a)) (host-there n a) e
  where
    by : (r : Result ℕ FaultKind) → ((g : ℕ) → r ≡ Ok g → IsHost n g) → and_then r (λ g. at_host n b (command g)) ≡ Ok c → IsCommandOf n c
    by (Ok g) p e = host-of n b (command g) c e (λ h there. k g h (p g refl) there)
    by (Err f) p e = cc

end-of : (n : Network) (name : List ℕ) (p : ℕ) (command : End → Command) (c : Command) → at_end n name p command ≡ Ok c → ((e : End) → IsEnd n e → IsCommandOf n (command e)) → IsCommandOf n c
end-of n name p command c e k = by (vertex_named n name) e
  where
    port : (v : Vertex) (b : Bool) → nat_lt p (ports_of n v) ≡ b → and_then (if b then Ok (record { v = v; p = p }) else Err PortRange) (λ e. Ok (command e)) ≡ Ok c → IsCommandOf n c
    port v true f e = let one : command (record { v = v; p = p }) ≡ c = cc in subst (IsCommandOf n) one (k (record { v = v; p = p }) f)
    port v false f e = cc

    by : (o : Option Vertex) → and_then (end_at n o p) (λ e. Ok (command e)) ≡ Ok c → IsCommandOf n c
    by None e = cc
    by (Some v) e = port v (nat_lt p (ports_of n v)) refl e

-- a port that its vertex has
end-there : (n : Network) (v : Vertex) (p : ℕ) (e : End) → end_at n (Some v) p ≡ Ok e → IsEnd n e
end-there n v p e h = by (nat_lt p (ports_of n v)) refl h
  where
    by : (b : Bool) → nat_lt p (ports_of n v) ≡ b → ◌≡◌ {A = Result End FaultKind} (if b then Ok (record { v = v; p = p }) else Err PortRange) (Ok e) → IsEnd n e
    by true f h = let one : ◌≡◌ {A = End} (record { v = v; p = p }) e = cc in subst (IsEnd n) one f
    by false f h = cc

-- a command at two ends
ends-of : (n : Network) (a b : List ℕ) (p q : ℕ) (command : End → End → Command) (c : Command) → two_ends_at n (vertex_named n a) p (vertex_named n b) q command ≡ Ok c
    → ((d e : End) → IsEnd n d → IsEnd n e → IsCommandOf n (command d e)) → IsCommandOf n c
ends-of n a b p q command c h k = by (vertex_named n a) (vertex_named n b) h
  where
    both : (r s : Result End FaultKind) → ((d : End) → r ≡ Ok d → IsEnd n d) → ((e : End) → s ≡ Ok e → IsEnd n e) → and_then r (λ d. and_then s (λ e. Ok (command d e))) ≡ Ok c → IsCommandOf n c
    both (Ok d) (Ok e) f g h = let one : command d e ≡ c = cc in subst (IsCommandOf n) one (k d e (f d refl) (g e refl))
    both (Ok d) (Err fault) f g h = cc
    both (Err fault) s f g h = cc

    by : (u v : Option Vertex) → two_ends_at n u p v q command ≡ Ok c → IsCommandOf n c
    by None v h = cc
    by (Some u) None h = cc
    by (Some u) (Some v) h = both (end_at n (Some u) p) (end_at n (Some v) q) (end-there n u p) (end-there n v q) h

-- a kind of line whose commands are over the fabric
abbrev IsRanged : Network → LineKind → Type 0
IsRanged n k = (vs : List Value) → AreIn k.forms vs → (c : Command) → k.meaning n vs ≡ Ok c → IsCommandOf n c

alone : (n : Network) (command c : Command) → IsCommandOf n command → alone_meant command n [] ≡ Ok c → IsCommandOf n c
alone n command c h e = let one : command ≡ c = cc in subst (IsCommandOf n) one h

at-port : (n : Network) (command : ℕ → ℕ → Command) → ((h p : ℕ) → IsHost n h → IsWithin 0 7 p → IsCommandOf n (command h p))
    → (vs : List Value) → AreIn (OfName ∷ of_port ∷ []) vs → (c : Command) → at_port_meant command n vs ≡ Ok c → IsCommandOf n c
at-port n command k = each-of (OfName ∷ of_port ∷ []) (λ vs. (c : Command) → at_port_meant command n vs ≡ Ok c → IsCommandOf n c) (λ a p ip c e. host-of n a (λ h. command h p) c e (λ h there. k h p there ip))

-- lines of cables and epochs
cable_kinds-ranged : (n : Network) → AllByRecursion (IsRanged n) cable_kinds
cable_kinds-ranged n = (
  each-of (OfName ∷ of_switch_port ∷ []) (λ vs. (c : Command) → pull_meant n vs ≡ Ok c → IsCommandOf n c) (λ a p ip c e. end-of n a p (λ at. Pull at) c e (λ at there. there)),
  (
    each-of (OfName ∷ of_switch_port ∷ OfName ∷ of_switch_port ∷ []) (λ vs. (c : Command) → plug_meant n vs ≡ Ok c → IsCommandOf n c)
        (λ a p ip b q iq c e. ends-of n a b p q (λ d f. Plug d f) c e (λ d f there too. (there, too))),
    (
      each-of [] (λ vs. (c : Command) → alone_meant Revoke n vs ≡ Ok c → IsCommandOf n c) (λ c e. alone n Revoke c tt e),
      (
        each-of [] (λ vs. (c : Command) → alone_meant Broken n vs ≡ Ok c → IsCommandOf n c) (λ c e. alone n Broken c tt e),
        tt,
      ),
    ),
  ),
)

line_kinds-ranged : (n : Network) → AllByRecursion (IsRanged n) line_kinds
line_kinds-ranged n = (
  each-of (OfName ∷ OfNumber 1 32 ∷ of_tries ∷ []) (λ vs. (c : Command) → map_meant n vs ≡ Ok c → IsCommandOf n c) (λ a d id t it c e. host-of n a (λ h. Map h d t) c e (λ h there. (there, id, it))),
  (
    each-of [] (λ vs. (c : Command) → alone_meant Routes n vs ≡ Ok c → IsCommandOf n c) (λ c e. alone n Routes c tt e),
    (
      each-of (of_tries ∷ []) (λ vs. (c : Command) → install_meant n vs ≡ Ok c → IsCommandOf n c) (λ t it c e. alone n (Install t) c it e),
      (
        each-of (OfName ∷ of_port ∷ of_count ∷ of_count ∷ []) (λ vs. (c : Command) → open_meant n vs ≡ Ok c → IsCommandOf n c) (λ a p ip s is r ir c e. host-of n a (λ h. Begin h p s r) c e (λ h there. (there, ip, is, ir))),
        (
          at-port n (λ h p. Close h p) (λ h p there ip. (there, ip)),
          (
            at-port n (λ h p. Poll h p) (λ h p there ip. (there, ip)),
            (
              at-port n (λ h p. Tokens h p) (λ h p there ip. (there, ip)),
              (
                each-of (OfName ∷ of_port ∷ OfNumber 0 31 ∷ of_prio ∷ []) (λ vs. (c : Command) → provide_meant n vs ≡ Ok c → IsCommandOf n c) (λ a p ip s is r ir c e. host-of n a (λ h. Provide h p s r) c e (λ h there. (there, ip, is, ir))),
                (
                  each-of (OfName ∷ of_port ∷ OfName ∷ of_port ∷ of_prio ∷ OfNumber 0 1000000 ∷ OfNumber 0 255 ∷ []) (λ vs. (c : Command) → send_meant n vs ≡ Ok c → IsCommandOf n c)
                      (λ a p ip b q iq r ir l il s is c e. hosts-of n a b (λ h dest. Send h p dest q r l s) c e (λ h dest there too. (there, too, ip, iq, ir, il, is))),
                  (
                    each-of [] (λ vs. (c : Command) → alone_meant Settle n vs ≡ Ok c → IsCommandOf n c) (λ c e. alone n Settle c tt e),
                    (
                      each-of (OfName ∷ OfNumber 1 32 ∷ []) (λ vs. (c : Command) → circuit_meant n vs ≡ Ok c → IsCommandOf n c) (λ a d id c e. host-of n a (λ h. Circuit h d) c e (λ h there. (there, id))),
                      cable_kinds-ranged n,
                    ),
                  ),
                ),
              ),
            ),
          ),
        ),
      ),
    ),
  ),
)

plan-ranged : (n : Network) (kind : PlanKind) → IsPlanned n kind → (vs : List Value) → AreIn (of_ahead ∷ []) vs → (c : Command) → plan_meant kind n vs ≡ Ok c → IsCommandOf n c
plan-ranged n kind k = each-of (of_ahead ∷ []) (λ vs. (c : Command) → plan_meant kind n vs ≡ Ok c → IsCommandOf n c) (λ a ia c e. alone n (Plan a kind) c (ia, k) e)

plan_kinds-ranged : (n : Network) → AllByRecursion (IsRanged n) plan_kinds
plan_kinds-ranged n = (
  plan-ranged n PlanLose tt,
  (
    plan-ranged n PlanRepeat tt,
    (
      plan-ranged n PlanHold tt,
      (
        each-of (of_ahead ∷ of_bit ∷ of_pattern ∷ []) (λ vs. (c : Command) → plan_flip_meant n vs ≡ Ok c → IsCommandOf n c) (λ a ia b ib p ip c e. alone n (Plan a (PlanFlip b p)) c (ia, (ib, ip)) e),
        (
          each-of (of_ahead ∷ OfName ∷ of_switch_port ∷ []) (λ vs. (c : Command) → plan_pull_meant n vs ≡ Ok c → IsCommandOf n c)
              (λ a ia v p ip c e. end-of n v p (λ at. Plan a (PlanPull at)) c e (λ at there. (ia, there))),
          tt,
        ),
      ),
    ),
  ),
)

host-step : (n : Network) (line : ℕ → StepLine) → ((h : ℕ) → IsHost n h → IsStepOf n (line h)) → (vs : List Value) → AreIn (OfName ∷ []) vs → (c : Command) → host_step_meant line n vs ≡ Ok c → IsCommandOf n c
host-step n line k = each-of (OfName ∷ []) (λ vs. (c : Command) → host_step_meant line n vs ≡ Ok c → IsCommandOf n c) (λ a c e. host-of n a (λ h. Step (line h)) c e k)

end-step : (n : Network) (line : End → StepLine) → ((e : End) → IsEnd n e → IsStepOf n (line e)) → (vs : List Value) → AreIn (OfName ∷ of_switch_port ∷ []) vs → (c : Command) → end_step_meant line n vs ≡ Ok c → IsCommandOf n c
end-step n line k = each-of (OfName ∷ of_switch_port ∷ []) (λ vs. (c : Command) → end_step_meant line n vs ≡ Ok c → IsCommandOf n c) (λ a p ip c e. end-of n a p (λ at. Step (line at)) c e k)

step_kinds-ranged : (n : Network) → AllByRecursion (IsRanged n) step_kinds
step_kinds-ranged n = (
  host-step n (λ h. Inject h) (λ h there. there),
  (
    host-step n (λ h. GiveUp h) (λ h there. there),
    (
      end-step n (λ e. Advance e) (λ e there. there),
      (
        end-step n (λ e. Lose e) (λ e there. there),
        (
          end-step n (λ e. Repeat e) (λ e there. there),
          (
            end-step n (λ e. Hold e) (λ e there. there),
            (
              end-step n (λ e. Reset e) (λ e there. there),
              (
                each-of (OfName ∷ of_switch_port ∷ of_bit ∷ of_pattern ∷ []) (λ vs. (c : Command) → flip_step_meant n vs ≡ Ok c → IsCommandOf n c)
                    (λ a p ip b ib q iq c e. end-of n a p (λ at. Step (Flip at b q)) c e (λ at there. (there, (ib, iq)))),
                (
                  each-of (OfName ∷ OfName ∷ []) (λ vs. (c : Command) → expire_meant n vs ≡ Ok c → IsCommandOf n c) (λ a b c e. hosts-of n a b (λ h peer. Step (Expire h peer)) c e (λ h peer there too. (there, too))),
                  (
                    each-of (OfNumber 0 4294967295 ∷ []) (λ vs. (c : Command) → replay_meant n vs ≡ Ok c → IsCommandOf n c) (λ s is c e. alone n (Step (Replay s)) c is e),
                    tt,
                  ),
                ),
              ),
            ),
          ),
        ),
      ),
    ),
  ),
)

-- an event of the two hosts that restart
at-end : (n : Network) (happens : ℕ → DuoEvent) → ((x : ℕ) → IsWithin 0 1 x → IsDuoOf (happens x)) → (vs : List Value) → AreIn (of_end ∷ []) vs → (c : Command) → duo_meant happens n vs ≡ Ok c → IsCommandOf n c
at-end n happens k = each-of (of_end ∷ []) (λ vs. (c : Command) → duo_meant happens n vs ≡ Ok c → IsCommandOf n c) (λ x ix c e. alone n (Duo (happens x)) c (k x ix) e)

duo_kinds-ranged : (n : Network) → AllByRecursion (IsRanged n) duo_kinds
duo_kinds-ranged n = (
  each-of (of_end ∷ OfNumber 0 1000000 ∷ OfNumber 0 255 ∷ []) (λ vs. (c : Command) → duo_send_meant n vs ≡ Ok c → IsCommandOf n c) (λ x ix l il s is c e. alone n (Duo (DuoSend x l s)) c (ix, il, is) e),
  (
    each-of (of_end ∷ OfNumber 0 31 ∷ []) (λ vs. (c : Command) → duo_provide_meant n vs ≡ Ok c → IsCommandOf n c) (λ x ix s is c e. alone n (Duo (DuoProvide x s)) c (ix, is) e),
    (
      at-end n (λ x. Emit x) (λ x ix. ix),
      (
        each-of (OfNumber 0 4294967295 ∷ []) (λ vs. (c : Command) → duo_meant (λ k. Deliver k) n vs ≡ Ok c → IsCommandOf n c) (λ k ik c e. alone n (Duo (Deliver k)) c ik e),
        (at-end n (λ x. DuoExpire x) (λ x ix. ix), (at-end n (λ x. DuoPoll x) (λ x ix. ix), (at-end n (λ x. Restart x) (λ x ix. ix), tt))),
      ),
    ),
  ),
)

-- a line by the table
by-kinds : (n : Network) (ks : List LineKind) (first : List ℕ) (args : List (List ℕ)) (c : Command) → AllByRecursion (IsRanged n) ks → command_by n ks first args ≡ Ok c → IsCommandOf n c
by-kinds n [] first args c h e = cc
by-kinds n (k ∷ ks) first args c h e = by (bytes_eq first k.word) (by-kinds n ks first args c h.1) e
  where
    said : (r : Result (List Value) FaultKind) → said_by k.forms args ≡ r → and_then r (k.meaning n) ≡ Ok c → IsCommandOf n c
    said (Ok vs) f e = h.0 vs (said-in k.forms args vs f) c e
    said (Err kind) f e = cc

    by : (b : Bool) → (command_by n ks first args ≡ Ok c → IsCommandOf n c) → (if b then and_then (said_by k.forms args) (k.meaning n) else command_by n ks first args) ≡ Ok c → IsCommandOf n c
    by true q e = said (said_by k.forms args) refl e
    by false q e = q e

by-second : (n : Network) (ks : List LineKind) (args : List (List ℕ)) (c : Command) → AllByRecursion (IsRanged n) ks → by_second n ks args ≡ Ok c → IsCommandOf n c
by-second n ks [] c h e = cc
by-second n ks (second ∷ args) c h e = by-kinds n ks second args c h e

-- a walk
walk-ranged : (n : Network) (args : List (List ℕ)) (c : Command) → walk_said n args ≡ Ok c → IsCommandOf n c
walk-ranged n [] c e = cc
walk-ranged n (name ∷ words) c e = by (nat_lt 64 (length words)) (name_test name) refl e
  where
    turns : (r : Result (List ℤ) FaultKind) → nat_lt 64 (length words) ≡ false → turns_of words ≡ r → and_then r (λ ts. at_host n name (λ h. Walk h ts)) ≡ Ok c → IsCommandOf n c
    turns (Ok ts) few f e = host-of n name (λ h. Walk h ts) c e (λ h there. (there, turns-walk words ts f (grind (arith, nat_tests))))
    turns (Err k) few f e = cc

    by : (many named : Bool) → nat_lt 64 (length words) ≡ many → (if many then Err BadWord else if named then and_then (turns_of words) (λ ts. at_host n name (λ h. Walk h ts)) else Err BadWord) ≡ Ok c → IsCommandOf n c
    by true named f e = cc
    by false true f e = turns (turns_of words) f refl e
    by false false f e = cc

as-ranged : (n : Network) (first : List ℕ) (args : List (List ℕ)) (c : Command) → command_as n first args ≡ Ok c → IsCommandOf n c
as-ranged n first args c e = by (bytes_eq first (codes "walk")) (bytes_eq first (codes "plan")) (bytes_eq first (codes "step")) (bytes_eq first (codes "duo")) e
  where
    by : (w p s d : Bool) → (if w then walk_said n args else if p then by_second n plan_kinds args else if s then by_second n step_kinds args else if d then by_second n duo_kinds args else command_by n line_kinds first args) ≡ Ok c → IsCommandOf n c
    by true p s d e = walk-ranged n args c e
    by false true s d e = by-second n plan_kinds args c (plan_kinds-ranged n) e
    by false false true d e = by-second n step_kinds args c (step_kinds-ranged n) e
    by false false false true e = by-second n duo_kinds args c (duo_kinds-ranged n) e
    by false false false false e = by-kinds n line_kinds first args c (line_kinds-ranged n) e

command-ranged : (n : Network) (words : List (List ℕ)) (c : Command) → command_of n words ≡ Ok c → IsCommandOf n c
command-ranged n [] c e = cc
command-ranged n (first ∷ args) c e = as-ranged n first args c e

ended-ranged : (n : Network) (ls : List TextLine) (cs : List Command) → ended ls ≡ Ok cs → AllByRecursion (IsCommandOf n) cs
ended-ranged n [] cs e = let one : Command.Finish ∷ [] ≡ cs = cc in subst (AllByRecursion (IsCommandOf n)) one (tt, tt)
ended-ranged n (l ∷ ls) cs e = cc

-- line by line
script-ranged : (past : ℕ) (n : Network) (ls : List TextLine) (cs : List Command) → script_from past n ls ≡ Ok cs → AllByRecursion (IsCommandOf n) cs
script-ranged past n [] cs e = cc
script-ranged past n (l ∷ ls) cs e = by (is_end (words_of l.bytes)) (script-ranged past n ls) e
  where
    more : (r : Result Command FaultKind) (rest : Result (List Command) FirstFault) → ((c : Command) → r ≡ Ok c → IsCommandOf n c) → ((ds : List Command) → rest ≡ Ok ds → AllByRecursion (IsCommandOf n) ds)
        → and_then (at_line l.number r) (λ c. and_then rest (λ ds. Ok (c ∷ ds))) ≡ Ok cs → AllByRecursion (IsCommandOf n) cs
    more (Ok c) (Ok ds) p q e = let one : c ∷ ds ≡ cs = cc in subst (AllByRecursion (IsCommandOf n)) one (p c refl, q ds refl)
    more (Ok c) (Err f) p q e = cc
    more (Err k) rest p q e = cc

    by : (b : Bool) → ((ds : List Command) → script_from past n ls ≡ Ok ds → AllByRecursion (IsCommandOf n) ds)
        → (if b then ended ls else and_then (at_line l.number (command_of n (words_of l.bytes))) (λ c. and_then (script_from past n ls) (λ ds. Ok (c ∷ ds)))) ≡ Ok cs → AllByRecursion (IsCommandOf n) cs
    by true q e = ended-ranged n ls cs e
    by false q e = more (command_of n (words_of l.bytes)) (script_from past n ls) (command-ranged n (words_of l.bytes)) q e

-- the commands of a script that was read
pub reading_ranged : (n : Network) (line : ℕ) (text : List ℕ) (r : Result (List Command) TextFault) → TextGives (script_reading n line text) r → IfOk r (AllByRecursion (IsCommandOf n))
reading_ranged n line text (Ok cs) e = script-ranged (line + line_count text + 1) n (lines_left (record { number = line + 1; text = text })) cs e
reading_ranged n line text (Err (At k kind)) e = tt
reading_ranged n line text (Err NoMemory) e = tt

-- events over a fabric are fair: they name one of the two hosts
pub events_are_fair : (e : DuoEvent) → IsDuoOf e → IsFair e
events_are_fair (DuoSend x len seed) is = let low = is.0.1 in omega (arith, low)
events_are_fair (DuoProvide x size) is = let low = is.0.1 in omega (arith, low)
events_are_fair (Emit x) is = let low = is.1 in omega (arith, low)
events_are_fair (Deliver place) is = tt
events_are_fair (DuoExpire x) is = let low = is.1 in omega (arith, low)
events_are_fair (DuoPoll x) is = let low = is.1 in omega (arith, low)
events_are_fair (Restart x) is = let low = is.1 in omega (arith, low)
