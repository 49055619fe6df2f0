-- Commands, lines and summaries depend on the names of a fabric, and not on its cables.
use Rattle.std.proofs.Common.{◌≡◌, ℕ, true, nat_lt, List, ◌++◌, length, sym, ap, subst, ◌∙◌}
use Rattle.net_defs.specs.declared.vertex.Vertex.{Vertex}
use Rattle.net_defs.specs.declared.vertex.Vertex.TheVariants.{Host, Switch}
use Rattle.net_defs.specs.declared.vertex.End.{End}
use Rattle.net_defs.specs.declared.vertex.Cable.{Cable}
use Rattle.net_defs.specs.Network.{Network, NamedSwitch, ports_of}
use Rattle.world_defs.specs.World.{fabric_of}
use Rattle.run_defs.specs.declared.command.Command.{Command}
use Rattle.run_defs.specs.declared.command.Command.TheVariants.{Plan, Step, Pull, Plug}
use Rattle.run_defs.specs.declared.command.PlanKind.{PlanKind}
use Rattle.run_defs.specs.declared.command.PlanKind.TheVariants.{Pull as PullPlan}
use Rattle.run_defs.specs.declared.command.StepLine.{StepLine}
use Rattle.run_defs.specs.declared.command.StepLine.TheVariants.{Advance, Lose, Repeat, Hold, Reset, Flip}
use Rattle.run_defs.specs.declared.figure.Figure.{Figure}
use Rattle.run_defs.specs.declared.line.Line.TheVariants.{GenHead}
use Rattle.run_defs.specs.LineText.{line_text, output_text}
use Rattle.run_defs.specs.Output.{Piece, lines}
use Rattle.run_defs.specs.Session.{SessionState}
use Rattle.run_defs.specs.Summary.{summary}
use Rattle.fab_report.specs.Printed.{PrintedState, figure_lines}
use Rattle.fab_report.proofs.Names.{printed-named}
use Rattle.promise_laws.specs.OneAction.{VerticesStay}
use Rattle.fab_script.specs.Ranges.{IsEnd, IsPlanned, IsStepOf, IsCommandOf}
use Rattle.fabric_run.specs.Ends.{HasVerticesOf}

-- hosts and switches stay, command after command
pub on-vertices : (n : Network) (s next : SessionState) → HasVerticesOf n s → VerticesStay s.world next.world → HasVerticesOf n next
on-vertices n s next same stay = (stay.0 ∙ same.0, stay.1 ∙ same.1)

-- what is printed
pub output-named : (n : Network) (s : SessionState) (out : List Piece) → HasVerticesOf n s → output_text (fabric_of s.world) out ≡ output_text n out
output-named n s out same = ap (λ (p : PrintedState). p.text) (printed-named (fabric_of s.world) n same.0 same.1 out)

-- the summary of a run that began with a fabric: its first line is of that, and its other lines are in the same names
pub summary-named : (hosts seed : ℕ) (n : Network) (s : SessionState) (figures : List Figure) (head due : List ℕ) → HasVerticesOf n s
    → head ≡ line_text n (GenHead hosts seed (length n.hosts) (length n.switches) (length n.cables)) → due ≡ head ++ output_text (fabric_of s.world) (lines (figure_lines figures)) → due ≡ output_text n (lines (summary hosts seed n figures))
summary-named hosts seed n s figures head due same first is =
    let rest : List Piece = lines (figure_lines figures) in
    is ∙ ap (λ t. t ++ output_text (fabric_of s.world) rest) first
    ∙ ap (λ t. line_text n (GenHead hosts seed (length n.hosts) (length n.switches) (length n.cables)) ++ t) (output-named n s rest same)

-- the same hosts and switches, with these cables or those
module _ (hosts : List (List ℕ)) (switches : List NamedSwitch) (xs ys : List Cable) where
  abbrev with_xs : Network
  with_xs = record { hosts = hosts; switches = switches; cables = xs }

  abbrev with_ys : Network
  with_ys = record { hosts = hosts; switches = switches; cables = ys }

  end-same : (e : End) → IsEnd with_xs e → IsEnd with_ys e
  end-same e is = by e.v is
    where
      by : (v : Vertex) → nat_lt e.p (ports_of with_xs v) ≡ true → nat_lt e.p (ports_of with_ys v) ≡ true
      by (Host h) is = is
      by (Switch s) is = is

  step-same : (line : StepLine) → IsStepOf with_xs line → IsStepOf with_ys line
  step-same (Advance e) is = end-same e is
  step-same (Lose e) is = end-same e is
  step-same (Repeat e) is = end-same e is
  step-same (Hold e) is = end-same e is
  step-same (Reset e) is = end-same e is
  step-same (Flip e bit pattern) is = (end-same e is.0, is.1)
  step-same _ is = is

  plan-same : (kind : PlanKind) → IsPlanned with_xs kind → IsPlanned with_ys kind
  plan-same (PullPlan at) is = end-same at is
  plan-same _ is = is

  command-same : (c : Command) → IsCommandOf with_xs c → IsCommandOf with_ys c
  command-same (Plan ahead kind) is = (is.0, plan-same kind is.1)
  command-same (Step line) is = step-same line is
  command-same (Pull at) is = end-same at is
  command-same (Plug a b) is = (end-same a is.0, end-same b is.1)
  command-same _ is = is

-- a command of a text is one over the fabric as it stands
pub command-named : (n : Network) (s : SessionState) (c : Command) → HasVerticesOf n s → IsCommandOf n c → IsCommandOf (fabric_of s.world) c
command-named n s c same is =
    let cables : List Cable = (fabric_of s.world).cables in
    let there : record { hosts = n.hosts; switches = n.switches; cables = cables } ≡ fabric_of s.world = λ i. record { hosts = sym same.0 i; switches = sym same.1 i; cables = cables } in
    subst (λ k. IsCommandOf k c) there (command-same n.hosts n.switches n.cables cables c is)
