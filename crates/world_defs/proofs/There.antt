-- The ends of each cable are ports of the fabric, since it stood when it was plugged; and an end that no cable in place
-- has is left by no channel.
use Rattle.std.proofs.Common.{◌≡◌, ◌<◌, ◌≤◌, ℕ, zero, suc, Bool, true, false, nat_lt, nat_le, List, [], ◌∷◌, Option, Some, None, refl, ap, ◌∙◌, subst, arith}
use Rattle.std.specs.Prelude.{IfSome}
use Rattle.std.specs.List.{slice_get, filter, AllByRecursion}
use Rattle.std.proofs.lemmas.Bool.Decides.{nat_tests}
use Rattle.net_defs.specs.declared.vertex.Vertex.{Vertex}
use Rattle.net_defs.specs.declared.vertex.Vertex.TheVariants.{Host, Switch}
use Rattle.net_defs.specs.declared.vertex.End.{End}
use Rattle.net_defs.specs.Network.{has_port, ends_of, far, ports_of}
use Rattle.world_defs.specs.declared.wire.Wire.{Wire}
use Rattle.world_defs.specs.History.{CableHistory, IsDated, fabric_by, fabric_now, fabric_at, stood_at, is_in_place}
use Rattle.world_defs.specs.Crossed.{leaving}
use Rattle.world_defs.specs.CableLaws.{EndsAreThere}
use Rattle.world_defs.proofs.Fewer.{kept, kept_if, some-far}
use Rattle.world_defs.proofs.CablesKept.{all-got}

-- what holds of all ends of the cables of a test holds of both ends of one of them
pub kept-got : (P : End → Type 0) (test : Wire → Bool) (ws : List Wire) (k : ℕ) (w : Wire) → AllByRecursion P (ends_of (kept test ws)) → slice_get ws k ≡ Some w → test w ≡ true → P w.cable.a × P w.cable.b
kept-got P test [] k w all is stands = cc
kept-got P test (v ∷ ws) zero w all is stands =
    let same : v ≡ w = cc in
    let here : AllByRecursion P (ends_of (kept_if true v (filter test ws))) = subst (λ b. AllByRecursion P (ends_of (kept_if b v (filter test ws)))) (ap test same ∙ stands) all in
    subst (λ u. P u.cable.a × P u.cable.b) same (here.0, here.1.0)
kept-got P test (v ∷ ws) (suc k) w all is stands = kept-got P test ws k w (by (test v) all) is stands
  where
    by : (b : Bool) → AllByRecursion P (ends_of (kept_if b v (filter test ws))) → AllByRecursion P (ends_of (kept test ws))
    by true all = all.1.1
    by false all = all

-- a cable stood when it was plugged
stood-when : (changes : ℕ) (w : Wire) → IsDated changes w → stood_at w.plugged w ≡ true
stood-when changes w d = by w.pulled refl d.pulled
  where
    here : nat_le w.plugged w.plugged ≡ true
    here = grind (arith, nat_tests)

    by : (o : Option ℕ) → w.pulled ≡ o → IfSome o (λ change. (w.plugged < change) × (change ≤ changes)) → stood_at w.plugged w ≡ true
    by None is dates = rw (is, here) refl
    by (Some change) is dates = let later : nat_lt w.plugged change ≡ true = let c = dates.0 in grind (arith, nat_tests) in rw (is, here, later) refl

-- the ports are those of the vertices, whatever the cables
pub port-by : (h : CableHistory) (one two : Wire → Bool) (e : End) → has_port (fabric_by h one) e ≡ has_port (fabric_by h two) e
port-by h one two e = ap (nat_lt e.p) (by e.v)
  where
    by : (v : Vertex) → ports_of (fabric_by h one) v ≡ ports_of (fabric_by h two) v
    by (Host a) = refl
    by (Switch s) = refl

pub ends_are_there : EndsAreThere
ends_are_there h k w is there =
    let test : Wire → Bool = stood_at w.plugged in
    let d : IsDated h.changes w = all-got (IsDated h.changes) h.wires k w is.dated there in
    let f = is.fabrics w.plugged in
    let two = kept-got (λ e. has_port (fabric_at h w.plugged) e ≡ true) test h.wires k w f.cabled_ports there (stood-when h.changes w d) in
    (port-by h is_in_place test w.cable.a ∙ two.0, port-by h is_in_place test w.cable.b ∙ two.1)

-- a channel that leaves has a far end, so where there is none no channel leaves
pub none-leaves : (h : CableHistory) (e : End) → far (fabric_now h) e ≡ None → leaving h e ≡ None
none-leaves h e none = by (leaving h e) refl
  where
    by : (o : Option ℕ) → leaving h e ≡ o → o ≡ None
    by None is = refl
    by (Some c) is = let x = some-far is_in_place 0 h.wires e c is in let f = x.1 in cc
