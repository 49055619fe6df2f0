-- What the code keeps of the answers so far.
use Rattle.std.specs.Prelude.{◌≡◌, ℕ, Bool, true, false, List, Option, Some, None, if◌then◌else◌}
use Rattle.net_defs.specs.Network.{Network}
use Rattle.map_defs.specs.NetMap.{NetMap}
use Rattle.report_lines.specs.declared.line.MapSaid.{MapSaid}
use Rattle.report_lines.specs.declared.line.MapSaid.TheVariants.{Complete}
use Rattle.report_lines.specs.declared.line.ReportLine.{ReportLine}
use Rattle.report_lines.specs.declared.line.ReportLine.TheVariants.{Map as MapLine}
use Rattle.answer_defs.specs.Answer.{Alone, Answered, complete_map, shown_map, routed_hosts, are_adopted}
use Rattle.answer_defs.specs.Answer.{fabric_by, fabric_after}
use Rattle.fab_judge.specs.Ledgers.{AreLedgersOf}
use Rattle.judge_defs.specs.Form.{Known}
use Rattle.fab_judge.specs.Shown.{Shown, map_in, complete_in}
use Rattle.fab_judge.specs.declared.past.Past.{Past as PastState}

-- what an answer's form depends on
abbrev pub known_in : PastState → Known
known_in p = record { shown = map_in p.shown; routed = p.routed; adopted = p.adopted }

-- All that is kept is what answers tell.
pub record IsPastOf (n : Network) (before : List Answered) (p : PastState) : Type 0 where
  pub shown : map_in p.shown ≡ shown_map before
  pub complete : complete_in p.shown ≡ complete_map before
  pub routed : p.routed ≡ routed_hosts n before
  pub adopted : p.adopted ≡ are_adopted before
  pub fabric : p.fabric ≡ fabric_after n before
  pub ledgers : AreLedgersOf before p.ledgers

-- a line of a map
abbrev pub is_map : ReportLine → Bool
is_map (MapLine h said) = true
is_map l = false

-- the word `complete`
abbrev pub is_complete : MapSaid → Bool
is_complete Complete = true
is_complete said = false

-- the mapper of a line of a map that is complete
abbrev pub complete_host : ReportLine → Option ℕ
complete_host (MapLine h Complete) = Some h
complete_host l = None

-- what is kept after a line alone: no map after one of a map, and the fabric as the line leaves it
abbrev pub after_line : ReportLine → PastState → PastState
after_line l p = record {
  shown = if is_map l then None else p.shown;
  routed = p.routed;
  adopted = p.adopted;
  fabric = fabric_by (Alone l) p.fabric;
  ledgers = p.ledgers;
}

-- the last map after a line with this one
abbrev pub shown_with : ReportLine → NetMap → Option Shown → Option Shown
shown_with (MapLine h said) m before = Some (record { map = m; complete = is_complete said })
shown_with l m before = before

-- so it is with all that is kept
abbrev pub after_map : ReportLine → NetMap → PastState → PastState
after_map l m p = record {
  shown = shown_with l m p.shown;
  routed = p.routed;
  adopted = p.adopted;
  fabric = p.fabric;
  ledgers = p.ledgers;
}
