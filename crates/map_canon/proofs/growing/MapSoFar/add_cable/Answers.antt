use Rattle.std.proofs.Common.{◌≡◌, sym, ◌∙◌, subst}
use Rattle.std.specs.Prelude.{IsErrOf, IsOk}
use Rattle.fab_text.specs.declared.fault.LineFault.TheVariants.{NoMemory}
use Rattle.map_canon.specs.Declaring.{cable_placed}
use Rattle.map_canon.proofs.Sound.{cable-wanting}
use Rattle.map_canon.proofs.growing.MapSoFar.add_cable.Goals.{in-Ok, in-Err}
use Rattle.map_canon.proofs.growing.MapSoFar.add_cable.Goals as goal

pub returns-clause-memory : goal.returns-clause-memory
returns-clause-memory c =
    elim c.match-add_cable.branch [
      | in-Ok w ↦ (λ h. let f = subst (λ r. IsErrOf r NoMemory) w.result-is h in cc)
      | in-Err w ↦ (λ h.
          let g = subst (λ r. IsErrOf r NoMemory) w.result-is h in
          let same : w.refused.result ≡ NoMemory = cc in
          let m = c.self.inside.map in
          subst (λ n. IsOk (cable_placed n c.args.c)) c.self.view_is (cable-wanting m c.args.c w.in-Err.fault w.in-Err.ensures.refused (sym w.refused.ensures ∙ same)))
    ]
