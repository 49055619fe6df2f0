-- A line of a row that may answer is read as what its values mean.
use Rattle.std.proofs.Common.{◌≡◌, ℕ, zero, suc, List, [], ◌∷◌, Bool, true, false, take, Option, Some, None, refl, ap, ◌∙◌}
use Rattle.std.specs.Prelude.{slice_get, ◌&&◌, codes, bytes_eq, if◌then◌else◌}
use Rattle.std.specs.List.{list_all}
use Rattle.net_defs.specs.Network.{Network, IsFabric}
use Rattle.net_defs.proofs.Ends.{both}
use Rattle.fabric_file.specs.Reading.{AreNamed}
use Rattle.line_table.specs.declared.kind.LineKind.{LineKind}
use Rattle.line_table.specs.declared.kind.LineKind.TheVariants.{Broken, NoBroken}
use Rattle.line_table.specs.Apart.{is_apart}
use Rattle.line_table.specs.Fits.{AreOf}
use Rattle.line_table.specs.Form.{LineValue, HostAt, fill}
use Rattle.line_table.specs.Texts.{host_name}
use Rattle.line_table.specs.Table.{form_of}
use Rattle.line_table.proofs.Apart.{apart-unmatched}
use Rattle.line_table.proofs.Filled.{filled-matched}
use Rattle.report_lines.specs.declared.line.ReportLine.TheVariants.{Broken as BrokenSaid, NoBroken as NoBrokenSaid}
use Rattle.report_lines.specs.declared.line.ReportLine.{ReportLine}
use Rattle.report_lines.specs.Lines.{said_as, first_said, kinds_in, line_said}
use Rattle.report_lines.specs.Meaning.{form_meaning, or_by, valued_meaning, meaning}
use Rattle.judge_laws.specs.Lines.{are_refusal_words, place_in, IsToldApart}

-- the forms of these rows are apart from a kind's
abbrev are_apart : List LineKind → LineKind → Bool
are_apart ks k = list_all (λ j. is_apart (form_of j) (form_of k)) ks

earlier-apart : (ks : List LineKind) (k : LineKind) → are_apart (take (place_in ks k) ks) k ≡ true
earlier-apart [] k = refl
earlier-apart (j ∷ js) k = by (is_apart (form_of j) (form_of k)) refl (earlier-apart js k)
  where
    by : (t : Bool) → is_apart (form_of j) (form_of k) ≡ t → are_apart (take (place_in js k) js) k ≡ true
        → are_apart (take (if t then suc (place_in js k) else 0) (j ∷ js)) k ≡ true
    by true e rest = λ i. e i && rest i
    by false e rest = refl

-- two tests, one after the other
abbrev no_values : Option (List LineValue)
no_values = Some []

refusal-read : (a b : Bool) → (if a then if b then no_values else None else None) ≡ (if a && b then no_values else None)
refusal-read true b = refl
refusal-read false b = refl

-- a row whose form the words have, and one whose form they haven't
row-means : (o : Option ReportLine) (k : LineKind) (vs : List LineValue) (later : Option ReportLine) → said_as o k (Some vs) later ≡ or_by o (valued_meaning k vs)
row-means (Some line) k vs later = refl
row-means None k vs later = refl

row-passed : (o : Option ReportLine) (k : LineKind) (later : Option ReportLine) → said_as o k None later ≡ later
row-passed (Some line) k later = refl
row-passed None k later = refl

module _ (n : Network) (is : IsFabric n) (good : AreNamed n) where
  -- rows that are apart from a line's are passed over
  first-read : (ks : List LineKind) (i : ℕ) (k : LineKind) (vs : List LineValue) → are_apart (take i ks) k ≡ true → slice_get ks i ≡ Some k → AreOf n (form_of k) vs
      → first_said n ks (fill n (form_of k) vs) ≡ meaning k vs
  first-read [] i k vs apart at fits = cc
  first-read (j ∷ js) zero k vs apart at fits =
      let same : j ≡ k = cc in
      let ws = fill n (form_of k) vs in
      ap (λ x. first_said n (x ∷ js) ws) same
      ∙ ap (λ o. said_as (form_meaning k) k o (first_said n js ws)) (filled-matched n is good (form_of k) vs fits)
      ∙ row-means (form_meaning k) k vs (first_said n js ws)
  first-read (j ∷ js) (suc i) k vs apart at fits =
      let ws = fill n (form_of k) vs in
      let two = both (is_apart (form_of j) (form_of k)) (are_apart (take i js) k) apart in
      ap (λ o. said_as (form_meaning j) j o (first_said n js ws)) (apart-unmatched n is good (form_of j) (form_of k) vs fits two.0)
      ∙ row-passed (form_meaning j) j (first_said n js ws)
      ∙ first-read js i k vs two.1 at fits

  pub row-read : (k : LineKind) (vs : List LineValue) → IsToldApart (kinds_in (fill n (form_of k) vs)) k → AreOf n (form_of k) vs → line_said n (fill n (form_of k) vs) ≡ meaning k vs
  row-read k vs at fits =
      let ks = kinds_in (fill n (form_of k) vs) in
      first-read ks (place_in ks k) k vs (earlier-apart ks k) at fits

  -- what a line `broken HOST HOST` says by its own row
  abbrev by_hosts : ℕ → ℕ → Option ReportLine
  by_hosts from to = first_said n (Broken ∷ []) (fill n (form_of Broken) (HostAt from ∷ HostAt to ∷ []))

  -- a line `broken HOST HOST`, by whether its words are those of the refusal
  pub broken-read : (from to : ℕ) → AreOf n (form_of Broken) (HostAt from ∷ HostAt to ∷ []) → (same : Bool) → are_refusal_words n from to ≡ same
      → line_said n (fill n (form_of Broken) (HostAt from ∷ HostAt to ∷ [])) ≡ (if same then Some NoBrokenSaid else Some (BrokenSaid from to))
  broken-read from to fits same e =
      ap (λ o. said_as (Some NoBrokenSaid) NoBroken o (by_hosts from to)) (refusal-read (bytes_eq (host_name n from) (codes "refused")) (bytes_eq (host_name n to) (codes "noroutes")))
      ∙ by same e
    where
      by : (same : Bool) → are_refusal_words n from to ≡ same
          → said_as (Some NoBrokenSaid) NoBroken (if are_refusal_words n from to then no_values else None) (by_hosts from to) ≡ (if same then Some NoBrokenSaid else Some (BrokenSaid from to))
      by true e = λ i. said_as (Some NoBrokenSaid) NoBroken (if e i then no_values else None) (by_hosts from to)
      by false e =
          (λ i. said_as (Some NoBrokenSaid) NoBroken (if e i then no_values else None) (by_hosts from to))
          ∙ first-read (Broken ∷ []) 0 Broken (HostAt from ∷ HostAt to ∷ []) refl refl fits
