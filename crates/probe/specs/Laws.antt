-- The law of the bodies.
use Rattle.std.specs.Prelude.{◌≡◌, ℕ, ◌<◌, ◌^◌, ℤ, true, List, Some}
use Rattle.world_defs.specs.Mapping.{HostProbe, HostReply, Loopback, mapping_bytes, decode_mapping, is_route}

-- a probe, a reply and a loopback probe that were written are read as what they are
abbrev pub ProbeIsRead : Type 0
ProbeIsRead = (number mapper : ℕ) (back : List ℤ) → number < 2 ^ 64 → mapper < 2 ^ 16 → is_route back ≡ true
    → decode_mapping (mapping_bytes (HostProbe number mapper back)) ≡ Some (HostProbe number mapper back)

-- a reply that was written is read as what it is
abbrev pub ReplyIsRead : Type 0
ReplyIsRead = (number host : ℕ) → number < 2 ^ 64 → host < 2 ^ 16
    → decode_mapping (mapping_bytes (HostReply number host)) ≡ Some (HostReply number host)

-- a loopback probe that was written is read as what it is
abbrev pub LoopIsRead : Type 0
LoopIsRead = (number mapper : ℕ) → number < 2 ^ 64 → mapper < 2 ^ 16
    → decode_mapping (mapping_bytes (Loopback number mapper)) ≡ Some (Loopback number mapper)
