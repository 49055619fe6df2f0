-- The run of a generated text.
use Rattle.std.proofs.Common.{◌≡◌, ◌≤◌, ◌<◌, ℕ, suc, List, [], ◌++◌, length, take, get_or, Result, Ok, Err, IfOk, refl, ap, sym, subst, ◌∙◌}
use Rattle.std.proofs.lemmas.Grind.{flat_map-append}
use Rattle.net_defs.specs.Network.{Network}
use Rattle.run_defs.specs.declared.command.Command.{Command}
use Rattle.world_defs.specs.World.{fabric_of}
use Rattle.run_defs.specs.declared.figure.Figure.{Figure}
use Rattle.run_defs.specs.declared.line.Line.TheVariants.{GenHead}
use Rattle.run_defs.specs.LineText.{line_text, output_text}
use Rattle.run_defs.specs.Output.{Piece, lines}
use Rattle.run_defs.specs.Session.{SessionState, new_session}
use Rattle.run_defs.specs.Run.{Runs, IsRun}
use Rattle.run_defs.specs.Run.Runs.{ended}
use Rattle.run_defs.specs.Summary.{figures_in, piece_figures}
use Rattle.run_laws.proofs.RunsOnce.{runs-more}
use Rattle.fab_report.specs.Printed.{figure_lines}
use Rattle.fab_text.specs.Fault.{FirstFault}
use Rattle.fabric_gen.specs.Text.{gen_text}
use Rattle.input_texts.specs.Generated.{gen_fabric, gen_commands}
use Rattle.input_texts.specs.Reading.{AcceptedText, IsAccepted}
use Rattle.input_texts.proofs.Refusing.{generated-accepted}
use Rattle.fabric_run.specs.Ends.{HasVerticesOf}
use Rattle.gen_laws.specs.Summary.{HasSixLines}
use Rattle.gen_laws.proofs.GeneratedRun.{generated-six}
use Rattle.fabric_run.specs.Generated.{IsCounted, HaveCounted, IsGenerated}
use Rattle.fabric_run.proofs.Naming.{summary-named}
use Rattle.fabric_run.proofs.Writing.{take-one}

-- nothing was counted where nothing ran
pub none-counted : (n : Network) (cs : List Command) (s : SessionState) → s ≡ new_session n → HaveCounted n (take 0 cs) [] s
none-counted n cs s e = record {
  output = [];
  run = subst (λ t. Runs (new_session n) [] [] t) (sym e) ended;
  counted = refl;
}

-- one command more was counted
pub more-counted : (n : Network) (cs : List Command) (i : ℕ) (s next : SessionState) (c : Command) (before now : List Figure) → i < length cs → c ≡ get_or cs i c
    → HaveCounted n (take i cs) before s → IsCounted s c next before now → HaveCounted n (take (suc i) cs) now next
more-counted n cs i s next c before now low at ran one = record {
  output = ran.output ++ one.output;
  run = subst (λ l. Runs (new_session n) l (ran.output ++ one.output) next) (sym (take-one cs i c low at)) (runs-more c one.output ran.run one.does);
  counted = one.counted ∙ ap (λ ks. ks ++ figures_in one.output) ran.counted ∙ sym (flat_map-append piece_figures ran.output one.output);
}

-- a generated text is its fabric and its commands, so its run has six figures for lines
same-text : (a b : AcceptedText) → ◌≡◌ {A = Result AcceptedText FirstFault} (Ok a) (Ok b) → a ≡ b
same-text a b e = cc

six-of : (hosts seed : ℕ) (a : AcceptedText) (out : List Piece) (last : SessionState) → 2 ≤ hosts → hosts ≤ 24 → IsAccepted (gen_text hosts seed) a → IsRun a.network a.commands out last → HasSixLines hosts seed a.network (figures_in out)
six-of hosts seed a out last two few accepted run =
    let text : AcceptedText = record { network = gen_fabric hosts; commands = gen_commands hosts seed } in
    let same : text ≡ a = same-text text a (sym (generated-accepted hosts seed two few) ∙ accepted) in
    subst (λ (x : AcceptedText). HasSixLines hosts seed x.network (figures_in out)) same
    (generated-six hosts seed two few (subst (λ (x : AcceptedText). IsRun x.network x.commands out last) (sym same) run))

-- the run of a generated text, whose summary is the line of its fabric and what its figures show
pub generated-so : (hosts seed : ℕ) (a : AcceptedText) (n : Network) (s last : SessionState) (figures shown : List Figure) (head due : List ℕ) → 2 ≤ hosts → hosts ≤ 24 → IsAccepted (gen_text hosts seed) a → HaveCounted a.network a.commands figures s → HasVerticesOf a.network s
    → n ≡ a.network → head ≡ line_text n (GenHead hosts seed (length n.hosts) (length n.switches) (length n.cables)) → shown ≡ figures → last ≡ s
    → due ≡ head ++ output_text (fabric_of s.world) (lines (figure_lines shown)) → IsGenerated hosts seed due last
generated-so hosts seed a n s last figures shown head due two few accepted counted stay net first same led is = record {
  says = a;
  accepted = accepted;
  output = counted.output;
  run = subst (IsRun a.network a.commands counted.output) (sym led) counted.run;
  told = summary-named hosts seed a.network s (figures_in counted.output) head due stay
      (subst (λ k. head ≡ line_text k (GenHead hosts seed (length k.hosts) (length k.switches) (length k.cables))) net first)
      (is ∙ ap (λ ks. head ++ output_text (fabric_of s.world) (lines (figure_lines ks))) (same ∙ counted.counted));
  six = six-of hosts seed a counted.output s two few accepted counted.run;
}

-- what an answer says where it is `Ok`, from two things that it says
pub both-ok : {T E : Type 0} (r : Result T E) (P Q R : T → Type 0) → IfOk r P → IfOk r Q → ((x : T) → P x → Q x → R x) → IfOk r R
both-ok (Ok x) P Q R p q f = f x p q
both-ok (Err e) P Q R p q f = p
