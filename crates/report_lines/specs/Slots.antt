-- The slots of the code as those of the table of lines.
use Rattle.std.specs.Prelude.{map}
use Rattle.line_table.specs.Form.{WordKind as TableKind, Digits, HostName, OneOf}
use Rattle.line_table.specs.Form.{Slot as TableSlot, Fixed, Of, AnEnd, AnEndBy}
use Rattle.report_lines.specs.declared.slot.WordKind.{WordKind}
use Rattle.report_lines.specs.declared.slot.WordKind.TheVariants.{Digits as CDigits, HostName as CHostName}
use Rattle.report_lines.specs.declared.slot.WordKind.TheVariants.{OneOf as COneOf}
use Rattle.report_lines.specs.declared.slot.Slot.{Slot}
use Rattle.report_lines.specs.declared.slot.Slot.TheVariants.{Fixed as CFixed, Of as COf, AnEnd as CAnEnd}
use Rattle.report_lines.specs.declared.slot.Slot.TheVariants.{AnEndBy as CAnEndBy}

-- a kind of word
abbrev pub kind_of : WordKind → TableKind
kind_of CDigits = Digits
kind_of CHostName = HostName
kind_of (COneOf ws) = OneOf (map (λ w. w.now) ws.now)

-- a slot
abbrev pub slot_of : Slot → TableSlot
slot_of (CFixed w) = Fixed w.now
slot_of (COf k) = Of (kind_of k)
slot_of CAnEnd = AnEnd
slot_of (CAnEndBy w) = AnEndBy w.now
