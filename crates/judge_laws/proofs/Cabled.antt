-- The fabric after a pull and a plug.
use Rattle.std.proofs.Common.{◌≡◌, ◌+◌, ◌*◌, ◌/◌, ◌&&◌, ◌||◌, ◌++◌, ℕ, suc, Bool, true, false, List, [], ◌∷◌, map, cond, Option, Some, None, refl, sym, ◌∙◌, ap, arith, if◌then◌else◌}
use Rattle.std.specs.Prelude.{slice_get, slice_set}
use Rattle.std.specs.List.{filter}
use Rattle.net_defs.specs.declared.vertex.End.{End}
use Rattle.net_defs.specs.declared.vertex.Cable.{Cable}
use Rattle.net_defs.specs.Network.{Network, same_end}
use Rattle.net_defs.specs.Building.{with_cable}
use Rattle.port_graph.specs.Removing.{without_end, without_cable}
use Rattle.world_defs.specs.declared.wire.Wire.{Wire}
use Rattle.world_defs.specs.History.{CableHistory, is_in_place, fabric_now, pulled_by, with_pulled, with_plugged}
use Rattle.world_defs.specs.Crossed.{channel_by, leaving, pulled_with, pulled_at}

-- the cables in place
abbrev cables_in : List Wire → List Cable
cables_in ws = map (λ w. w.cable) (filter is_in_place ws)

-- a cable that was pulled
abbrev gone : ℕ → Wire → Wire
gone change w = record w { pulled = Some change }

-- The channel that was found is of the first cable in place that ends there; once that is pulled the others are left.
record IsFirst (change k : ℕ) (ws : List Wire) (e : End) (c : ℕ) : Type 0 where
  pub place : ℕ
  pub wire : Wire
  pub at : slice_get ws place ≡ Some wire
  pub half : c / 2 ≡ k + place
  pub left : cables_in (slice_set ws place (gone change wire)) ≡ without_end (cables_in ws) e

-- one cable more, by whether it is in place and which of its ends is there
first-more : (change k : ℕ) (w : Wire) (ws : List Wire) (e : End) (c : ℕ) (stands a b : Bool) → is_in_place w ≡ stands → same_end w.cable.a e ≡ a → same_end w.cable.b e ≡ b
    → (channel_by is_in_place (k + 1) ws e ≡ Some c → IsFirst change (k + 1) ws e c)
    → (if stands && a then Some (2 * k) else if stands && b then Some (2 * k + 1) else channel_by is_in_place (k + 1) ws e) ≡ Some c → IsFirst change k (w ∷ ws) e c
first-more change k w ws e c true true b p q r later found =
    let one : 2 * k ≡ c = cc in
    record {
      place = 0;
      wire = w;
      at = refl;
      half = omega arith;
      left = sym ((λ i. without_end (map (λ (x : Wire). x.cable) (cond (p i) (w ∷ filter is_in_place ws) (filter is_in_place ws))) e) ∙ (λ i. if q i || same_end w.cable.b e then cables_in ws else w.cable ∷ without_end (cables_in ws) e));
    }
first-more change k w ws e c true false true p q r later found =
    let one : 2 * k + 1 ≡ c = cc in
    record {
      place = 0;
      wire = w;
      at = refl;
      half = omega arith;
      left = sym ((λ i. without_end (map (λ (x : Wire). x.cable) (cond (p i) (w ∷ filter is_in_place ws) (filter is_in_place ws))) e) ∙ (λ i. if q i || r i then cables_in ws else w.cable ∷ without_end (cables_in ws) e));
    }
first-more change k w ws e c true false false p q r later found =
    let f = later found in
    let plus : k + suc f.place ≡ (k + 1) + f.place = omega arith in
    record {
      place = suc f.place;
      wire = f.wire;
      at = f.at;
      half = f.half ∙ sym plus;
      left = (λ i. map (λ (x : Wire). x.cable) (cond (p i) (w ∷ filter is_in_place (slice_set ws f.place (gone change f.wire))) (filter is_in_place (slice_set ws f.place (gone change f.wire)))))
          ∙ ap (λ cs. w.cable ∷ cs) f.left
          ∙ sym ((λ i. without_end (map (λ (x : Wire). x.cable) (cond (p i) (w ∷ filter is_in_place ws) (filter is_in_place ws))) e) ∙ (λ i. if q i || r i then cables_in ws else w.cable ∷ without_end (cables_in ws) e));
    }
first-more change k w ws e c false a b p q r later found =
    let f = later found in
    let plus : k + suc f.place ≡ (k + 1) + f.place = omega arith in
    record {
      place = suc f.place;
      wire = f.wire;
      at = f.at;
      half = f.half ∙ sym plus;
      left = (λ i. map (λ (x : Wire). x.cable) (cond (p i) (w ∷ filter is_in_place (slice_set ws f.place (gone change f.wire))) (filter is_in_place (slice_set ws f.place (gone change f.wire)))))
          ∙ f.left
          ∙ sym (λ i. without_end (map (λ (x : Wire). x.cable) (cond (p i) (w ∷ filter is_in_place ws) (filter is_in_place ws))) e);
    }

first-found : (change k : ℕ) (ws : List Wire) (e : End) (c : ℕ) → channel_by is_in_place k ws e ≡ Some c → IsFirst change k ws e c
first-found change k [] e c found = cc
first-found change k (w ∷ ws) e c found = first-more change k w ws e c (is_in_place w) (same_end w.cable.a e) (same_end w.cable.b e) refl refl refl (first-found change (k + 1) ws e c) found

-- where no channel leaves there, no cable in place ends there
none-more : (k : ℕ) (w : Wire) (ws : List Wire) (e : End) (stands a b : Bool) → is_in_place w ≡ stands → same_end w.cable.a e ≡ a → same_end w.cable.b e ≡ b → (channel_by is_in_place (k + 1) ws e ≡ None → without_end (cables_in ws) e ≡ cables_in ws)
    → (if stands && a then Some (2 * k) else if stands && b then Some (2 * k + 1) else channel_by is_in_place (k + 1) ws e) ≡ None → without_end (cables_in (w ∷ ws)) e ≡ cables_in (w ∷ ws)
none-more k w ws e true true b p q r later none = cc
none-more k w ws e true false true p q r later none = cc
none-more k w ws e true false false p q r later none =
    (λ i. without_end (map (λ (x : Wire). x.cable) (cond (p i) (w ∷ filter is_in_place ws) (filter is_in_place ws))) e)
    ∙ (λ i. if q i || r i then cables_in ws else w.cable ∷ without_end (cables_in ws) e)
    ∙ ap (λ cs. w.cable ∷ cs) (later none)
    ∙ sym (λ i. map (λ (x : Wire). x.cable) (cond (p i) (w ∷ filter is_in_place ws) (filter is_in_place ws)))
none-more k w ws e false a b p q r later none =
    (λ i. without_end (map (λ (x : Wire). x.cable) (cond (p i) (w ∷ filter is_in_place ws) (filter is_in_place ws))) e)
    ∙ later none
    ∙ sym (λ i. map (λ (x : Wire). x.cable) (cond (p i) (w ∷ filter is_in_place ws) (filter is_in_place ws)))

none-found : (k : ℕ) (ws : List Wire) (e : End) → channel_by is_in_place k ws e ≡ None → without_end (cables_in ws) e ≡ cables_in ws
none-found k [] e none = refl
none-found k (w ∷ ws) e none = none-more k w ws e (is_in_place w) (same_end w.cable.a e) (same_end w.cable.b e) refl refl refl (none-found (k + 1) ws e) none

-- the fabric of a history is its hosts, its switches, and the cables in place
abbrev built : CableHistory → List Cable → Network
built h cs = record { hosts = h.hosts; switches = h.switches; cables = cs }

pulled-half : (h : CableHistory) (k place : ℕ) (w : Wire) → k ≡ place → slice_get h.wires place ≡ Some w → (with_pulled h k).wires ≡ slice_set h.wires place (gone (h.changes + 1) w)
pulled-half h k place w same at = ap (λ j. (with_pulled h j).wires) same ∙ ap (λ o. (pulled_by h place o).wires) at

-- hosts and switches stay
pulled-stays : (h : CableHistory) (k : ℕ) → ((with_pulled h k).hosts ≡ h.hosts) × ((with_pulled h k).switches ≡ h.switches)
pulled-stays h k = by (slice_get h.wires k)
  where
    by : (o : Option Wire) → ((pulled_by h k o).hosts ≡ h.hosts) × ((pulled_by h k o).switches ≡ h.switches)
    by None = (refl, refl)
    by (Some w) = (refl, refl)

-- a cable in place after others
cables-more : (ws : List Wire) (w : Wire) → is_in_place w ≡ true → cables_in (ws ++ w ∷ []) ≡ cables_in ws ++ w.cable ∷ []
cables-more [] w e = λ i. map (λ (x : Wire). x.cable) (cond (e i) (w ∷ []) [])
cables-more (x ∷ ws) w e = by (is_in_place x) (cables-more ws w e)
  where
    by : (t : Bool) → cables_in (ws ++ w ∷ []) ≡ cables_in ws ++ w.cable ∷ []
        → map (λ (y : Wire). y.cable) (cond t (x ∷ filter is_in_place (ws ++ w ∷ [])) (filter is_in_place (ws ++ w ∷ []))) ≡ map (λ (y : Wire). y.cable) (cond t (x ∷ filter is_in_place ws) (filter is_in_place ws)) ++ w.cable ∷ []
    by true rest = ap (λ cs. x.cable ∷ cs) rest
    by false rest = rest

-- the fabric after a pull is that without the cable at the port
pub fabric-pulled : (h : CableHistory) (e : End) → fabric_now (pulled_at h e) ≡ without_cable (fabric_now h) e
fabric-pulled h e = by (leaving h e) refl
  where
    by : (o : Option ℕ) → leaving h e ≡ o → fabric_now (pulled_at h e) ≡ without_cable (fabric_now h) e
    by None p = ap (λ o. fabric_now (pulled_with h o)) p ∙ ap (built h) (sym (none-found 0 h.wires e p))
    by (Some c) p =
        let f = first-found (h.changes + 1) 0 h.wires e c p in
        let same : c / 2 ≡ f.place = (let t = f.half in omega arith) in
        let wires = pulled-half h (c / 2) f.place f.wire same f.at in
        let stays = pulled-stays h (c / 2) in
        ap (λ o. fabric_now (pulled_with h o)) p ∙ (λ i. record { hosts = stays.0 i; switches = stays.1 i; cables = cables_in (wires i) }) ∙ ap (built h) f.left

-- after a plug it has the cable more
pub fabric-plugged : (h : CableHistory) (a b : End) → fabric_now (with_plugged h a b) ≡ with_cable (fabric_now h) a b
fabric-plugged h a b = ap (built h) (cables-more h.wires (record { cable = record { a = a; b = b }; plugged = h.changes + 1; pulled = None }) refl)
