-- A world is quiet, host by host.
use Rattle.std.proofs.Common.{◌≡◌, ◌<◌, ℕ, suc, ◌+◌, ◌-◌, Bool, true, false, not, ◌&&◌, List, [], ◌∷◌, length, nat_eq, nat_le, Option, Some, None, is_some, option_map, refl, sym, ◌∙◌, ap, arith, if◌then◌else◌}
use Rattle.std.specs.List.{find, list_all, range_with_len}
use Rattle.std.proofs.lemmas.Bool.Decides.{nat_tests}
use Rattle.std.specs.Option.{option_map_or}
use Rattle.net_defs.specs.Route.{host_port}
use Rattle.world_defs.specs.Crossed.{leaving}
use Rattle.world_defs.specs.Links.{Caught}
use Rattle.world_defs.specs.Fault.{next_limbo}
use Rattle.world_defs.specs.Node.{Outgoing, to_send}
use Rattle.world_defs.specs.World.{WorldState, node_at, addresses, may_send, has_to_send}
use Rattle.world_defs.specs.Settle.{is_quiet}

-- the first of them passes, so the others decide
pub all-on : (t : ℕ → Bool) (count host : ℕ) (whole : Bool) → host < count → t host ≡ true → list_all t (range_with_len host (count - host)) ≡ whole
    → list_all t (range_with_len (host + 1) (count - (host + 1))) ≡ whole
all-on t count host whole low here before =
    let left : count - host ≡ suc (count - (host + 1)) = omega (arith, low) in
    let rest : Bool = list_all t (range_with_len (host + 1) (count - (host + 1))) in
    sym (ap (λ b. b && rest) here) ∙ sym (ap (λ n. list_all t (range_with_len host n)) left) ∙ before

-- a host with nothing to send has nothing that its cable takes
pub silent-unsending : (w : WorldState) (h : ℕ) → is_some (to_send h (node_at w h)) ≡ false → has_to_send w h ≡ false
silent-unsending w h none =
    ap (λ o. option_map_or (λ c. may_send w c o) (leaving w.links.cables (host_port h)) false) (is-none (to_send h (node_at w h)) none) ∙ by (leaving w.links.cables (host_port h))
  where
    is-none : (o : Option Outgoing) → is_some o ≡ false → o ≡ None
    is-none None e = refl
    is-none (Some x) e = cc

    by : (o : Option ℕ) → option_map_or (λ c. may_send w c None) o false ≡ false
    by None = refl
    by (Some c) = refl

-- limbo is empty where no serial stands in it
empty : (es : List (ℕ × Caught)) → option_map (λ e. e.0) (find (λ e. nat_le 0 e.0) es) ≡ None → nat_eq (length es) 0 ≡ true
empty [] e = refl
empty (x ∷ es) e = by (nat_le 0 x.0) refl e
  where
    by : (t : Bool) → nat_le 0 x.0 ≡ t → option_map (λ d. d.0) (if t then Some x else find (λ d. nat_le 0 d.0) es) ≡ None → nat_eq (length (x ∷ es)) 0 ≡ true
    by true m f = cc
    by false m f = absurd (grind (arith, nat_tests))

and-true : (b : Bool) → (b && true) ≡ b
and-true true = refl
and-true false = refl

pub quiet-is : (w : WorldState) (hosts : Bool) → next_limbo w.links 0 ≡ None → hosts ≡ list_all (λ h. not (has_to_send w h)) (addresses w) → hosts ≡ is_quiet w
quiet-is w hosts none is =
    let all : Bool = list_all (λ h. not (has_to_send w h)) (addresses w) in
    is ∙ (sym (and-true all) ∙ sym (ap (λ b. all && b) (empty w.links.limbo none)))
