-- Values that a form asks for, and lines that are told by the values before it.
use Rattle.std.proofs.Common.{◌≡◌, ℕ, List, ◌∷◌, true, false, Option, Some, None, option_map, refl, sym, if◌then◌else◌}
use Rattle.std.specs.Prelude.{is_some}
use Rattle.line_table.specs.declared.kind.LineKind.{LineKind}
use Rattle.line_table.specs.declared.kind.LineKind.TheVariants.{MapComplete, MapDoubtful, MapDepth, MapNodes}
use Rattle.line_table.specs.Form.{LineValue, HostAt}
use Rattle.line_table.specs.Matching.{onto}
use Rattle.report_lines.specs.declared.line.MapSaid.{MapSaid}
use Rattle.report_lines.specs.declared.line.MapSaid.TheVariants.{Complete, Doubtful, Shallow, Overgrown}
use Rattle.report_lines.specs.declared.line.ReportLine.{ReportLine}
use Rattle.report_lines.specs.declared.line.ReportLine.TheVariants.{Map}
use Rattle.report_lines.specs.Lines.{said_as}
use Rattle.report_lines.specs.Meaning.{valued_meaning}
use Rattle.report_lines.specs.Reading.{map_kind}

-- a value, and then the others
pub value_there : (o : Option LineValue) (m : Option (List LineValue)) → is_some o ≡ true → is_some (onto o m) ≡ is_some m
value_there None m e = cc
value_there (Some v) None e = refl
value_there (Some v) (Some vs) e = refl

pub value_missing : (o : Option LineValue) (m : Option (List LineValue)) → is_some o ≡ false → is_some (onto o m) ≡ false
value_missing None m e = refl
value_missing (Some v) m e = cc

-- a line that its first value tells, whatever the others are
pub told_one : (k : LineKind) (v : LineValue) (line : ReportLine) (m : Option (List LineValue)) → ((vs : List LineValue) → valued_meaning k (v ∷ vs) ≡ Some line)
    → (if is_some m then Some line else None) ≡ said_as None k (option_map (λ xs. v ∷ xs) m) None
told_one k v line None e = refl
told_one k v line (Some vs) e = sym (e vs)

-- the line of a map, whatever was counted
pub told_map : (h : ℕ) (said : MapSaid) (m : Option (List LineValue))
    → (if is_some m then Some (Map h said) else None) ≡ said_as None (map_kind said) (option_map (λ xs. HostAt h ∷ xs) m) None
told_map h Complete m = told_one MapComplete (HostAt h) (Map h Complete) m (λ vs. refl)
told_map h Doubtful m = told_one MapDoubtful (HostAt h) (Map h Doubtful) m (λ vs. refl)
told_map h Shallow m = told_one MapDepth (HostAt h) (Map h Shallow) m (λ vs. refl)
told_map h Overgrown m = told_one MapNodes (HostAt h) (Map h Overgrown) m (λ vs. refl)

-- the same with one value between
pub told_two : (k : LineKind) (v w : LineValue) (line : ReportLine) (m : Option (List LineValue)) → ((vs : List LineValue) → valued_meaning k (v ∷ vs) ≡ Some line)
    → (if is_some m then Some line else None) ≡ said_as None k (option_map (λ xs. v ∷ xs) (option_map (λ xs. w ∷ xs) m)) None
told_two k v w line None e = refl
told_two k v w line (Some vs) e = sym (e (w ∷ vs))
