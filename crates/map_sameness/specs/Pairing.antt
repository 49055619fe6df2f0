-- Vertices of a map paired with vertices of a fabric, from the mapper's host on.
use Rattle.std.specs.Prelude.{◌≡◌, ◌⊎◌, ℕ, ◌+◌, ◌<◌, ◌≤◌, ℤ, pos, negsuc, ◌+ℤ◌, ◌-ℤ◌, ◌≤ℤ◌, Bool, true, false}
use Rattle.std.specs.Prelude.{◌&&◌, not, List, [], ◌∷◌, length, nat_eq, is_some, slice_get, slice_index_or, slice_set}
use Rattle.std.specs.Prelude.{if◌then◌else◌}
use Rattle.std.specs.Prelude.{replicate, Option, Some, None}
use Rattle.std.specs.Ordering.{int_eq}
use Rattle.std.specs.List.{list_any}
use Rattle.net_defs.specs.declared.vertex.Vertex.{Vertex}
use Rattle.net_defs.specs.declared.vertex.Vertex.TheVariants.{Host, Switch}
use Rattle.net_defs.specs.declared.vertex.End.{End}
use Rattle.net_defs.specs.Network.{Network, IsFabric, far, same_vertex}
use Rattle.map_defs.specs.declared.vertex.MapVertex.{MapVertex}
use Rattle.map_defs.specs.declared.vertex.MapVertex.TheVariants.{Host as MapHost, Switch as MapSwitch}
use Rattle.map_defs.specs.NetMap.{NetMap, MapPort, IsMap, map_far}
use Rattle.map_sameness.specs.declared.pairing.Image.{Image}
use Rattle.map_sameness.specs.Standing.{Stands}

-- the mapper's host; what each vertex of the map stands for; which vertex of the map stands for each host and for each
-- switch of the fabric; and the paired vertices whose ports aren't compared yet
pub record Pairs : Type 0 where
  pub host : ℕ
  pub images : List (Option Image)
  pub hosts : List (Option ℕ)
  pub switches : List (Option ℕ)
  pub todo : List ℕ

-- what a vertex of the map stands for
abbrev pub image_of : Pairs → ℕ → Option Image
image_of s v = slice_index_or s.images v None

-- the vertex of the map that stands for a vertex of the fabric
abbrev pub origin_of : Pairs → Vertex → Option ℕ
origin_of s (Host h) = slice_index_or s.hosts h None
origin_of s (Switch t) = slice_index_or s.switches t None

-- there is a place for a vertex of the fabric
abbrev pub HasPlace : Pairs → Vertex → Type 0
HasPlace s (Host h) = h < length s.hosts
HasPlace s (Switch t) = t < length s.switches

-- the same vertex and the same offset
abbrev pub same_image : Image → Image → Bool
same_image i j = same_vertex i.vertex j.vertex && int_eq i.offset j.offset

-- a vertex of a map may stand for one of the fabric: hosts for hosts of the same address, and switches for switches
abbrev pub are_alike : Option MapVertex → Vertex → ℤ → Bool
are_alike (Some (MapHost h)) (Host g) offset = nat_eq h g && int_eq offset (pos 0)
are_alike (Some (MapSwitch s)) (Switch t) offset = true
are_alike _ _ offset = false

-- two that aren't paired may be paired
abbrev pub may_be_new : NetMap → Pairs → ℕ → Image → Bool
may_be_new m s v i = are_alike (slice_get m.vertices v) i.vertex i.offset && not (is_some (origin_of s i.vertex))

-- a vertex of the map may stand for this, where it stands for this so far
abbrev pub may_be_by : NetMap → Pairs → ℕ → Image → Option Image → Bool
may_be_by m s v i None = may_be_new m s v i
may_be_by m s v i (Some known) = same_image known i

-- a vertex of the map may stand for this
abbrev pub may_be : NetMap → Pairs → ℕ → Image → Bool
may_be m s v i = may_be_by m s v i (image_of s v)

-- a vertex of the map stands for one of the fabric
abbrev pub with_origin : Pairs → Vertex → ℕ → Pairs
with_origin s (Host h) v = record {
  host = s.host;
  images = s.images;
  hosts = slice_set s.hosts h (Some v);
  switches = s.switches;
  todo = s.todo;
}
with_origin s (Switch t) v = record {
  host = s.host;
  images = s.images;
  hosts = s.hosts;
  switches = slice_set s.switches t (Some v);
  todo = s.todo;
}

-- two are paired, and are to be compared
abbrev pub with_image : Pairs → ℕ → Image → Pairs
with_image s v i = record {
  host = s.host;
  images = slice_set s.images v (Some i);
  hosts = s.hosts;
  switches = s.switches;
  todo = v ∷ s.todo;
}

abbrev pub with_pair : Pairs → ℕ → Image → Pairs
with_pair s v i = with_origin (with_image s v i) i.vertex v

-- the pairs once a vertex of the map was to stand for this
abbrev pub paired_by : NetMap → Pairs → ℕ → Image → Option Image → Pairs
paired_by m s v i None = if may_be_new m s v i then with_pair s v i else s
paired_by m s v i (Some known) = s

abbrev pub paired : NetMap → Pairs → ℕ → Image → Pairs
paired m s v i = paired_by m s v i (image_of s v)

-- no pairs, with places for a host that the fabric lacks too
abbrev pub no_pairs : Network → NetMap → ℕ → Pairs
no_pairs n m host = record {
  host = host;
  images = replicate (length m.vertices) None;
  hosts = replicate (length n.hosts + (host + 1)) None;
  switches = replicate (length n.switches) None;
  todo = [];
}

-- the pairs with other vertices that are to be compared
abbrev pub with_todo : Pairs → List ℕ → Pairs
with_todo s todo = record {
  host = s.host;
  images = s.images;
  hosts = s.hosts;
  switches = s.switches;
  todo = todo;
}

-- the vertices that are to be compared, with the one that was taken off
abbrev pub taken_off : Option ℕ → List ℕ → List ℕ
taken_off (Some v) vs = v ∷ vs
taken_off None vs = vs

-- how much is left to do: two for each vertex that isn't paired, and one for each that isn't compared
abbrev pub unpaired : List (Option Image) → ℕ
unpaired [] = 0
unpaired (None ∷ is) = 2 + unpaired is
unpaired (Some i ∷ is) = unpaired is

abbrev pub weight : Pairs → ℕ
weight s = unpaired s.images + length s.todo

-- a vertex of the map stands for this vertex of the fabric
pub record IsImage (s : Pairs) (v : ℕ) (x : Vertex) : Type 0 where
  pub image : Image
  pub is : image_of s v ≡ Some image
  pub vertex : image.vertex ≡ x

-- an offset is from -15 to 270, so that nothing that is added to it is too large
pub record IsSmall (offset : ℤ) : Type 0 where
  pub least : negsuc 14 ≤ℤ offset
  pub most : offset ≤ℤ pos 270

-- Vertices are paired one to one, each with what it must stand for.
pub record IsPairing (n : Network) (m : NetMap) (s : Pairs) : Type 0 where
  pub is_fabric : IsFabric n
  pub is_map : IsMap m
  pub images : length s.images ≡ length m.vertices
  pub hosts : length s.hosts ≡ length n.hosts + (s.host + 1)
  pub switches : length s.switches ≡ length n.switches
  pub stands : (v : ℕ) (i : Image) → image_of s v ≡ Some i → Stands n s.host m v i.vertex i.offset
  pub small : (v : ℕ) (i : Image) → image_of s v ≡ Some i → IsSmall i.offset
  pub alike : (v : ℕ) (i : Image) → image_of s v ≡ Some i → are_alike (slice_get m.vertices v) i.vertex i.offset ≡ true
  pub origins : (v : ℕ) (i : Image) → image_of s v ≡ Some i → origin_of s i.vertex ≡ Some v
  pub found : (x : Vertex) (v : ℕ) → origin_of s x ≡ Some v → IsImage s v x

-- a vertex is to be compared
abbrev pub is_todo : Pairs → ℕ → Bool
is_todo s v = list_any (nat_eq v) s.todo

-- Pairs stay, and those that are new are to be compared.
pub record Grows (s t : Pairs) : Type 0 where
  pub host : t.host ≡ s.host
  pub images : (v : ℕ) (i : Image) → image_of s v ≡ Some i → image_of t v ≡ Some i
  pub todo : (v : ℕ) → is_todo s v ≡ true → is_todo t v ≡ true
  pub new : (v : ℕ) (i : Image) → image_of t v ≡ Some i → (image_of s v ≡ Some i) ⊎ (is_todo t v ≡ true)
  pub less : weight t ≤ weight s

-- The far end of a port of the map stands for this end.
pub record IsMet (m : NetMap) (s : Pairs) (d : MapPort) (e : End) : Type 0 where
  pub other : MapPort
  pub image : Image
  pub far : map_far m d ≡ Some other
  pub is : image_of s other.v ≡ Some image
  pub vertex : image.vertex ≡ e.v
  pub port : other.p +ℤ image.offset ≡ pos e.p

-- what a port of an image leads to stands for what its port in the map leads to
abbrev pub IsMetAt : Network → NetMap → Pairs → ℕ → Image → ℕ → Type 0
IsMetAt n m s v i p = (e : End) → far n (record { v = i.vertex; p = p }) ≡ Some e
    → IsMet m s (record { v = v; p = pos p -ℤ i.offset }) e

-- the image of a port has a cable
abbrev pub is_cabled_at : Network → Vertex → ℤ → Bool
is_cabled_at n x (pos p) = is_some (far n (record { v = x; p = p }))
is_cabled_at n x (negsuc p) = false

-- a port of the map has a cable, and its image has none
abbrev pub is_stray : Network → NetMap → ℕ → Image → ℤ → Bool
is_stray n m v i p = is_some (map_far m (record { v = v; p = p })) && not (is_cabled_at n i.vertex (p +ℤ i.offset))

-- Some port of the map is stray.
pub record HasStray (n : Network) (m : NetMap) (v : ℕ) (i : Image) : Type 0 where
  pub port : ℤ
  pub stray : is_stray n m v i port ≡ true

-- A vertex of the map has the same cables as its image.
pub record IsCompared (n : Network) (m : NetMap) (s : Pairs) (v : ℕ) (i : Image) : Type 0 where
  pub cabled : (p : ℤ) → is_stray n m v i p ≡ false
  pub met : (p : ℕ) → IsMetAt n m s v i p

-- The mapper's host is paired, and each pair was compared, or is to be.
pub record AreCompared (n : Network) (m : NetMap) (s : Pairs) : Type 0 where
  pub start : ℕ
  pub started : IsImage s start (Host s.host)
  pub each : (v : ℕ) (i : Image) → image_of s v ≡ Some i → (is_todo s v ≡ true) ⊎ IsCompared n m s v i

-- A port of an image was met.
pub record Meets (n : Network) (m : NetMap) (s t : Pairs) (v : ℕ) (i : Image) (p : ℕ) : Type 0 where
  pub pairing : IsPairing n m t
  pub grows : Grows s t
  pub met : IsMetAt n m t v i p

-- The ports of an image below a number were met.
pub record MeetsBelow (n : Network) (m : NetMap) (s t : Pairs) (v : ℕ) (i : Image) (bound : ℕ) : Type 0 where
  pub pairing : IsPairing n m t
  pub grows : Grows s t
  pub met : (p : ℕ) → p < bound → IsMetAt n m t v i p

-- A vertex of the map was compared, if it has an image.
pub record Compares (n : Network) (m : NetMap) (s t : Pairs) (v : ℕ) : Type 0 where
  pub pairing : IsPairing n m t
  pub grows : Grows s t
  pub compared : (i : Image) → image_of s v ≡ Some i → IsCompared n m t v i
