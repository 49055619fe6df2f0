-- What the bytes of a probe are read as, and of the acknowledgement of a part: never as a part.
use Rattle.std.proofs.Common.{◌≡◌, ℕ, Bool, true, false, List, [], ◌∷◌, ◌++◌, Option, Some, None, option_map, refl, sym, ap, ◌∙◌, subst}
use Rattle.std.specs.Prelude.{option_and_then}
use Rattle.std.specs.Int.{w16, w32, w64, to_be_bytes}
use Rattle.std.proofs.lemmas.Option.{same_Some}
use Rattle.world_defs.specs.Mapping.{RoutePart, MappingBody, Front, decode_mapping, mapping_bytes, is_mapping, by_the_rules, of_kind, whole, two_front, route_front, byte_front, route_bytes}
use Rattle.world_defs.specs.Mapping.MappingBody.{HostProbe, HostReply, Loopback, Part, PartAck}
use Rattle.gm_defs.proofs.Choices.{if-some, map-some, then-some}
use Rattle.lawful_laws.specs.Probes.{is_probe}

-- what holds of each body in front holds of the body that is read
whole-says : (T : MappingBody → Bool) (f : Front MappingBody) (b : MappingBody) → ((x : MappingBody × List ℕ) → f ≡ Some x → T x.0 ≡ true) → by_the_rules (whole f) ≡ Some b → T b ≡ true
whole-says T None b all e = cc
whole-says T (Some (d, [])) b all e =
    let p = if-some (is_mapping d) (Some d) b e in
    subst (λ x. T x ≡ true) (same_Some d b p.1) (all (d, []) refl)
whole-says T (Some (d, byte ∷ rest)) b all e = cc

mapped-says : {A : Type 0} (T : MappingBody → Bool) (g : A → MappingBody) (f : Front A) → ((a : A) → T (g a) ≡ true) → (x : MappingBody × List ℕ) → option_map (λ a. (g a.0, a.1)) f ≡ Some x → T x.0 ≡ true
mapped-says T g f all x e =
    let m = map-some (λ a. (g a.0, a.1)) f x e in
    ap (λ y. T y.0) (sym m.1.1) ∙ all m.0.0

probe-1 : (bytes : List ℕ) (b : MappingBody) → decode_mapping (1 ∷ bytes) ≡ Some b → is_probe b ≡ true
probe-1 bytes b e =
    let f : (ℕ × ℕ) × List ℕ → Front MappingBody = λ two. option_map (λ back. (HostProbe two.0.0 two.0.1 back.0, back.1)) (route_front two.1) in
    whole-says is_probe (option_and_then f (two_front w64 8 bytes)) b
    (λ x d. let t = then-some f (two_front w64 8 bytes) x d in mapped-says is_probe (λ back. HostProbe t.0.0.0 t.0.0.1 back) (route_front t.0.1) (λ a. refl) x t.1.1)
    e

probe-2 : (bytes : List ℕ) (b : MappingBody) → decode_mapping (2 ∷ bytes) ≡ Some b → is_probe b ≡ true
probe-2 bytes b e =
    whole-says is_probe (option_map (λ two. (HostReply two.0.0 two.0.1, two.1)) (two_front w64 8 bytes)) b
    (mapped-says is_probe (λ (two : ℕ × ℕ). HostReply two.0 two.1) (two_front w64 8 bytes) (λ a. refl)) e

probe-3 : (bytes : List ℕ) (b : MappingBody) → decode_mapping (3 ∷ bytes) ≡ Some b → is_probe b ≡ true
probe-3 bytes b e =
    whole-says is_probe (option_map (λ two. (Loopback two.0.0 two.0.1, two.1)) (two_front w64 8 bytes)) b
    (mapped-says is_probe (λ (two : ℕ × ℕ). Loopback two.0 two.1) (two_front w64 8 bytes) (λ a. refl)) e

-- whatever is read of a probe's bytes is a probe
pub probe-read : (body b : MappingBody) → is_probe body ≡ true → decode_mapping (mapping_bytes body) ≡ Some b → is_probe b ≡ true
probe-read (HostProbe number mapper back) b is e = probe-1 (to_be_bytes w64 number ++ to_be_bytes w16 mapper ++ route_bytes back) b e
probe-read (HostReply number host) b is e = probe-2 (to_be_bytes w64 number ++ to_be_bytes w16 host) b e
probe-read (Loopback number mapper) b is e = probe-3 (to_be_bytes w64 number ++ to_be_bytes w16 mapper) b e
probe-read (Part p) b is e = cc
probe-read (PartAck epoch host part) b is e = cc

-- so no part is
pub probe-no_part : (body : MappingBody) (p : RoutePart) → is_probe body ≡ true → decode_mapping (mapping_bytes body) ≡ Some (Part p) → ⊥
probe-no_part body p is e = let bad : is_probe (Part p) ≡ true = probe-read body (Part p) is e in cc

-- an acknowledgement of a part
abbrev is_ack : MappingBody → Bool
is_ack (HostProbe number mapper back) = false
is_ack (HostReply number host) = false
is_ack (Loopback number mapper) = false
is_ack (Part p) = false
is_ack (PartAck epoch host part) = true

pub ack-no_part : (epoch host part : ℕ) (p : RoutePart) → decode_mapping (mapping_bytes (PartAck epoch host part)) ≡ Some (Part p) → ⊥
ack-no_part epoch host part p e =
    let bytes : List ℕ = to_be_bytes w32 epoch ++ to_be_bytes w16 host ++ part ∷ [] in
    let f : (ℕ × ℕ) × List ℕ → Front MappingBody = λ two. option_map (λ part. (PartAck two.0.0 two.0.1 part.0, part.1)) (byte_front two.1) in
    let bad : is_ack (Part p) ≡ true =
    whole-says is_ack (option_and_then f (two_front w32 4 bytes)) (Part p)
    (λ x d. let t = then-some f (two_front w32 4 bytes) x d in mapped-says is_ack (λ part. PartAck t.0.0.0 t.0.0.1 part) (byte_front t.0.1) (λ a. refl) x t.1.1)
    e in
    cc

-- a body that is read is by the rules
ruled : (o : Option MappingBody) (b : MappingBody) → by_the_rules o ≡ Some b → is_mapping b ≡ true
ruled None b e = cc
ruled (Some c) b e = let p = if-some (is_mapping c) (Some c) b e in subst (λ x. is_mapping x ≡ true) (same_Some c b p.1) p.0

pub decode-rules : (bytes : List ℕ) (b : MappingBody) → decode_mapping bytes ≡ Some b → is_mapping b ≡ true
decode-rules [] b e = cc
decode-rules (kind ∷ bytes) b e = ruled (whole (of_kind kind bytes)) b e
