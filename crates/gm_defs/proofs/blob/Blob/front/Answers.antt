use Rattle.std.proofs.Common.{◌≡◌, ◌≤◌, ◌∙◌, sym, ap, subst, length, take, arith}
use Rattle.gm_defs.specs.Blob.{counted, held_bytes, IsWithin}
use Rattle.gm_defs.proofs.Rounds.{take-counted, counted-length}
use Rattle.gm_defs.proofs.blob.Blob.front.Goals as goal

pub counted-requires : goal.counted-requires
counted-requires c =
    let few : c.in-Counted.field-1 ≤ 65536 = subst IsWithin c.in-Counted.is c.self.invariant in
    let all : length c.args.self.now ≡ c.in-Counted.field-1 = ap length (sym c.self.view_is) ∙ ap (λ h. length (held_bytes h)) c.in-Counted.is ∙ counted-length c.in-Counted.first c.in-Counted.field-1 in
    let low = c.requires in
    omega (arith, few, all, low)

pub returns-in-Counted : goal.returns-in-Counted
returns-in-Counted c =
    let bytes : c.args.self.now ≡ counted c.in-Counted.first c.in-Counted.field-1 = sym c.self.view_is ∙ ap held_bytes c.in-Counted.is in
    let all : length c.args.self.now ≡ c.in-Counted.field-1 = ap length bytes ∙ counted-length c.in-Counted.first c.in-Counted.field-1 in
    let low = c.requires in
    let within : c.args.len ≤ c.in-Counted.field-1 = omega (arith, all, low) in
    c.counted.ensures ∙ sym (take-counted c.in-Counted.first c.args.len c.in-Counted.field-1 within) ∙ ap (take c.args.len) (sym bytes)
