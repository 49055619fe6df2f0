-- A text is judged yes with the report of its run.
use Rattle.std.proofs.Common.{◌≡◌, ◌+◌, ◌++◌, inl, inr, ◌⊎◌, ℕ, true, List, [], ◌∷◌, length, drop, Result, Ok, refl, ap, sym, subst, ◌∙◌, length-append}
use Rattle.std.specs.List.{AllByRecursion}
use Rattle.net_defs.specs.Network.{empty_network}
use Rattle.fab_text.specs.Line.{line_count}
use Rattle.fab_text.specs.Fault.{FirstFault, and_then}
use Rattle.fabric_file.specs.declared.reading.FabricText.{FabricText}
use Rattle.fabric_file.specs.Reading.{fabric_from, fabric_reading}
use Rattle.fabric_file.proofs.Readings.{reading-named, reading-fabric}
use Rattle.fab_script.specs.Parts.{ScriptPart, with_end, script_part}
use Rattle.fab_script.proofs.Ranged.{reading_ranged}
use Rattle.run_defs.specs.declared.command.Command.{Command}
use Rattle.run_defs.specs.LineText.{output_text}
use Rattle.run_defs.specs.Output.{Piece}
use Rattle.run_defs.specs.Script.{script_reading}
use Rattle.run_defs.specs.Session.{SessionState}
use Rattle.run_defs.specs.Run.{IsRun}
use Rattle.judge_defs.specs.Verdict.{AreJudgedYes}
use Rattle.judge_defs.specs.Text.{judged_of, judged_from, IsJudgedYes}
use Rattle.judge_laws.specs.Answers.{lines_at}
use Rattle.judge_laws.specs.Commands.{is_judged, PlansNoPull}
use Rattle.judge_laws.specs.Reports.{TextsAreJudgedYes}
use Rattle.judge_laws.proofs.Followed.{ended-before, fabric-before, next-inside, drop-more, drop-ended, script-before}
use Rattle.judge_laws.proofs.Judged.{reports_are_judged_yes}

module _ (bytes rest : List ℕ) (t : FabricText) (said : fabric_reading (bytes ++ 10 ∷ []) ≡ Ok t) where
  abbrev text : List ℕ
  text = bytes ++ 10 ∷ []

  abbrev whole : List ℕ
  whole = text ++ rest

  abbrev past : ℕ
  past = line_count whole + 1

  fabric-said : fabric_reading whole ≡ Ok t
  fabric-said =
      let b = ended-before 1 bytes rest in
      (λ i. fabric_from (length-append text rest i) past empty_network (b.whole i))
      ∙ fabric-before (length text) (line_count text + 1) past empty_network (lines_at 1 text) (lines_at b.next rest) rest t said

  script-left : drop t.next whole ≡ drop t.next text ++ rest
  script-left = drop-more t.next text rest (next-inside (length text) (line_count text + 1) empty_network (lines_at 1 text) t said)

  -- the commands, and the lines after them
  record IsSaid (commands : List Command) : Type 0 where
    pub next : ℕ
    pub part : script_part past t.fabric (lines_at (t.line + 1) (drop t.next whole)) ≡ Ok (record { commands = commands; after = lines_at next rest })

  script-said : (commands : List Command) → script_reading t.fabric t.line (drop t.next text) ≡ Ok commands → AllByRecursion (λ c. is_judged c ≡ true) commands → AllByRecursion PlansNoPull commands → IsSaid commands
  script-said commands e kinds safe = by (drop-ended t.next bytes)
    where
      by : ((tail : List ℕ) × (drop t.next (bytes ++ 10 ∷ []) ≡ tail ++ 10 ∷ [])) ⊎ (drop t.next (bytes ++ 10 ∷ []) ≡ []) → IsSaid commands
      by (inl ends) =
          let tail = ends.0 in
          let c = ended-before (t.line + 1) tail rest in
          let own = subst (λ x. script_reading t.fabric t.line x ≡ Ok commands) ends.1 e in
          let f = script-before (t.line + line_count (tail ++ 10 ∷ []) + 1) past t.fabric (lines_at (t.line + 1) (tail ++ 10 ∷ [])) (lines_at c.next rest) rest commands own kinds safe in
          record {
            next = c.next;
            part = ap (λ x. script_part past t.fabric (lines_at (t.line + 1) x)) (script-left ∙ ap (λ x. x ++ rest) ends.1)
                ∙ ap (script_part past t.fabric) c.whole
                ∙ ap (λ (o : Result ScriptPart FirstFault). and_then o with_end) f.read
                ∙ (λ i. Ok (record { commands = sym f.with_last i; after = lines_at c.next rest }));
          }
      by (inr none) = let never = subst (λ x. script_reading t.fabric t.line x ≡ Ok commands) none e in cc

  text-judged : (commands : List Command) (out : List Piece) (last : SessionState) → script_reading t.fabric t.line (drop t.next text) ≡ Ok commands → AllByRecursion (λ c. is_judged c ≡ true) commands → AllByRecursion PlansNoPull commands
      → IsRun t.fabric commands out last → rest ≡ output_text t.fabric out → IsJudgedYes whole
  text-judged commands out last e kinds safe run is =
      let s = script-said commands e kinds safe in
      let ranged = reading_ranged t.fabric t.line (drop t.next text) (Ok commands) e in
      let yes = reports_are_judged_yes t.fabric commands out last past s.next (reading-fabric text t said) (reading-named text t said) ranged kinds safe run in
      record {
        judged = record { network = t.fabric; commands = commands; report = lines_at s.next rest; past = past };
        said = ap (λ (o : Result FabricText FirstFault). and_then o (judged_from past whole)) fabric-said ∙ ap (λ (o : Result ScriptPart FirstFault). and_then o (judged_of past t)) s.part;
        yes = subst (λ x. AreJudgedYes t.fabric past [] commands (lines_at s.next x)) (sym is) yes;
      }

pub texts_are_judged_yes : TextsAreJudgedYes
texts_are_judged_yes all bytes t commands out last ends said e kinds safe run =
    let fabric = subst (λ x. fabric_reading x ≡ Ok t) ends said in
    let script = subst (λ x. script_reading t.fabric t.line (drop t.next x) ≡ Ok commands) ends e in
    subst (λ x. IsJudgedYes (x ++ output_text t.fabric out)) (sym ends) (text-judged bytes (output_text t.fabric out) t fabric commands out last script kinds safe run refl)
