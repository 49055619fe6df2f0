-- A walk that has no next exit is stuck.
use Rattle.std.proofs.Common.{◌≡◌, List, [], ◌∷◌, Some, None, sym, ◌∙◌, ap, refl}
use Rattle.std.specs.Prelude.{ℤ, option_and_then}
use Rattle.net_defs.specs.declared.vertex.End.{End}
use Rattle.net_defs.specs.Network.{Network, far}
use Rattle.net_defs.specs.Route.{entered_after, next_exit}
use Rattle.circ_defs.proofs.Cables.{far-next}

pub entered_after-none : (n : Network) (ts : List ℤ) → entered_after n None ts ≡ None
entered_after-none n [] = refl
entered_after-none n (t ∷ ts) = entered_after-none n ts

pub entered_after-stuck : (n : Network) (e : End) (t : ℤ) (ts : List ℤ) → next_exit n (Some e) t ≡ None → entered_after n (far n e) (t ∷ ts) ≡ None
entered_after-stuck n e t ts stuck =
    ap (λ o. entered_after n o ts) (sym (far-next n (Some e) t) ∙ ap (option_and_then (far n)) stuck) ∙ entered_after-none n ts
