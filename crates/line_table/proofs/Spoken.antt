-- The words of a line are no comment.
use Rattle.std.proofs.Common.{◌≡◌, List, [], ◌∷◌, Bool, true, false, not, refl, sym, true≢false}
use Rattle.net_defs.specs.Network.{Network}
use Rattle.fab_text.specs.Line.{says_nothing}
use Rattle.line_table.specs.declared.kind.LineKind.{LineKind}
use Rattle.line_table.specs.declared.kind.LineKind.TheVariants.{Refused}
use Rattle.line_table.specs.declared.kind.MapLineKind.{MapLineKind}
use Rattle.line_table.specs.declared.kind.MapLineKind.TheVariants.{Host as HostLine}
use Rattle.line_table.specs.Form.{OneOf}
use Rattle.line_table.specs.Form.{Slot, Fixed, Of, AnEnd, AnEndBy, Rest, LineValue, Word, fill}
use Rattle.line_table.specs.Fits.{AreOf}
use Rattle.line_table.specs.Apart.{is_spoken, is_spoken_form}
use Rattle.line_table.specs.Table.{form_of, map_form}
use Rattle.line_table.proofs.Plain.{among-holds}

not-false : (t : Bool) → not t ≡ true → t ≡ false
not-false true e = absurd (true≢false (sym e))
not-false false e = refl

pub filled-spoken : (n : Network) (ss : List Slot) (vs : List LineValue) → is_spoken_form ss ≡ true → AreOf n ss vs → says_nothing (fill n ss vs) ≡ false
filled-spoken n [] vs p fits = absurd (true≢false (sym p))
filled-spoken n (Fixed w ∷ ss) vs p fits = not-false (says_nothing (w ∷ [])) p
filled-spoken n (Of (OneOf ws) ∷ ss) (Word w ∷ vs) p fits = not-false (says_nothing (w ∷ [])) (among-holds is_spoken ws w p fits.0)
filled-spoken n (Of (OneOf ws) ∷ ss) [] p fits = absurd fits
filled-spoken n (Of (OneOf ws) ∷ ss) (_ ∷ vs) p fits = absurd fits.0
filled-spoken n (Of _ ∷ ss) vs p fits = absurd (true≢false (sym p))
filled-spoken n (AnEnd ∷ ss) vs p fits = absurd (true≢false (sym p))
filled-spoken n (AnEndBy w ∷ ss) vs p fits = absurd (true≢false (sym p))
filled-spoken n (Rest k ∷ ss) vs p fits = absurd (true≢false (sym p))

pub rows-spoken : (k : LineKind) → is_spoken_form (form_of k) ≡ true
rows-spoken Refused = refl
rows-spoken _ = refl

pub map-rows-spoken : (k : MapLineKind) → is_spoken_form (map_form k) ≡ true
map-rows-spoken HostLine = refl
map-rows-spoken _ = refl
