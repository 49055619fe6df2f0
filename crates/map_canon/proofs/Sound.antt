-- Lines that stand before the first fault, and what running out of memory may stand for.
use Rattle.std.proofs.Common.{◌≡◌, ◌≢◌, ◌<◌, ℕ, suc, List, [], ◌∷◌, Bool, true, false, not, nat_lt, length, Option, Some, None, inl, inr, Result, Ok, Err, refl, sym, ap, ◌∙◌, subst, arith, if◌then◌else◌}
use Rattle.std.specs.Prelude.{IsOk}
use Rattle.net_defs.specs.Network.{Network}
use Rattle.net_defs.specs.Refusal.{Refuses}
use Rattle.map_defs.specs.declared.vertex.MapCable.{MapCable}
use Rattle.map_defs.specs.NetMap.{NetMap, first_end, second_end}
use Rattle.fab_text.specs.declared.fault.FaultKind.{FaultKind}
use Rattle.fab_text.specs.declared.fault.LineFault.TheVariants.{NoMemory as WantsMemory}
use Rattle.fab_text.specs.Line.{TextLine, words_of}
use Rattle.fabric_map.specs.declared.fault.MapFault.{MapFault}
use Rattle.fabric_map.specs.declared.fault.MapFault.TheVariants.{HostTaken, Full, NoVertex, PortRange, PortUsed, NoMemory}
use Rattle.fabric_map.specs.Growing.{cable_refusal, with_cable, is_full, is_near, is_used, may_have}
use Rattle.map_canon.specs.Declaring.{declared, cable_placed, refused_line, unless}
use Rattle.map_canon.specs.Reading.{is_end, sound_behind, sound_from}

-- a line that declares something is sound
pub sound-some : (f : Network) (m k : NetMap) (ls rest : List TextLine) (l : TextLine) → ls ≡ l ∷ rest → false ≡ is_end (words_of l.bytes) → declared f m (words_of l.bytes) ≡ Ok k → 0 < length (sound_from f m ls)
sound-some f m k ls rest l e s d =
    let one : length (sound_from f m ls) ≡ suc (length (sound_from f k rest)) =
    ap (λ x. length (sound_from f m x)) e
    ∙ sym (ap (λ b. length (if b then [] else sound_behind l (declared f m (words_of l.bytes)) (λ k. sound_from f k rest))) s)
    ∙ ap (λ r. length (sound_behind l r (λ k. sound_from f k rest))) d in
    omega (arith, one)

-- and so is one at which memory runs out
pub sound-wanting : (f : Network) (m : NetMap) (ls rest : List TextLine) (l : TextLine) → ls ≡ l ∷ rest → false ≡ is_end (words_of l.bytes) → IsOk (declared f m (words_of l.bytes)) → 0 < length (sound_from f m ls)
sound-wanting f m ls rest l e s o = by (declared f m (words_of l.bytes)) refl o
  where
    by : (r : Result NetMap FaultKind) → declared f m (words_of l.bytes) ≡ r → IsOk r → 0 < length (sound_from f m ls)
    by (Ok k) d o = sound-some f m k ls rest l e s d
    by (Err kind) d o = cc

-- no refusal of a cable is that memory ran out
either : (b : Bool) (e : MapFault) (o : Option MapFault) → e ≢ NoMemory → o ≢ Some NoMemory → (if b then Some e else o) ≢ Some NoMemory
either true e o first rest is = let same : e ≡ NoMemory = cc in first same
either false e o first rest is = rest is

vertex-told : ◌≢◌ {A = MapFault} NoVertex NoMemory
vertex-told p = cc

range-told : ◌≢◌ {A = MapFault} PortRange NoMemory
range-told p = cc

used-told : ◌≢◌ {A = MapFault} PortUsed NoMemory
used-told p = cc

full-told : ◌≢◌ {A = MapFault} Full NoMemory
full-told p = cc

none-told : ◌≢◌ {A = Option MapFault} None (Some NoMemory)
none-told p = cc

pub cable-told : (m : NetMap) (c : MapCable) → cable_refusal m c ≢ Some NoMemory
cable-told m c =
    let n = length m.vertices in
    either (not (nat_lt c.v n)) NoVertex _ vertex-told (either (not (nat_lt c.w n)) NoVertex _ vertex-told
    (either (not (may_have m (first_end c))) PortRange _ range-told (either (not (may_have m (second_end c))) PortRange _ range-told
    (either (not (is_near (first_end c) (second_end c))) PortRange _ range-told (either (is_used m c) PortUsed _ used-told
    (either (is_full (length m.cables)) Full _ full-told none-told))))))

-- so where memory runs out for one, nothing refuses it
pub cable-wanting : (m : NetMap) (c : MapCable) (e : MapFault) → Refuses {T = ℕ} (cable_refusal m c) NoMemory (Err e) → refused_line e ≡ WantsMemory → IsOk (cable_placed m c)
cable-wanting m c HostTaken told is = cc
cable-wanting m c Full told is = cc
cable-wanting m c NoVertex told is = cc
cable-wanting m c PortRange told is = cc
cable-wanting m c PortUsed told is = cc
cable-wanting m c NoMemory (inl told) is = absurd (cable-told m c told)
cable-wanting m c NoMemory (inr p) is = subst (λ o. IsOk (unless o (with_cable m c))) (sym p.0) refl
