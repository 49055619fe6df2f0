-- One try of a mapper: what it finds is there, and where it misses what is there, a fault met it.
use Rattle.std.proofs.Common.{◌≡◌, ◌<◌, ◌≤◌, ◌+◌, ◌^◌, ℕ, Bool, true, false, ◌&&◌, ◌||◌, nat_eq, nat_lt, nat_le, List, [], ◌∷◌, ◌++◌, length, Option, Some, None, ◌⊎◌, refl, ap, ◌∙◌, subst, arith, if◌then◌else◌}
use Rattle.std.specs.Prelude.{ℤ, pos}
use Rattle.std.specs.List.{AllByRecursion, list_all}
use Rattle.std.specs.Map.{lookup}
use Rattle.std.proofs.lemmas.Bool.Decides.{Decides-eqb, nat_tests}
use Rattle.net_defs.specs.declared.place.Place.TheVariants.{Host as AtHostPlace}
use Rattle.net_defs.specs.Network.{Network, IsFabric, far}
use Rattle.net_defs.specs.Turn.{is_turn, IsTurn}
use Rattle.net_defs.specs.Route.{place, host_port, entered_after, IsPlaceOf}
use Rattle.net_defs.proofs.Places.{place_at-there}
use Rattle.world_defs.specs.Mapping.{is_route, is_mapping}
use Rattle.world_defs.specs.Mapping.MappingBody.{HostProbe, HostReply, Loopback}
use Rattle.world_defs.specs.declared.effect.Effect.{Effect}
use Rattle.world_defs.specs.declared.effect.Effect.TheVariants.{Arrived}
use Rattle.world_defs.specs.declared.heard.Heard.{Heard}
use Rattle.world_defs.specs.declared.heard.Heard.TheVariants.{Probe as HeardProbe, Reply as HeardReply, Loop as HeardLoop}
use Rattle.world_defs.specs.Node.{Probe, Reply, packet_for, way_back}
use Rattle.world_defs.specs.World.{WorldState, last_count}
use Rattle.world_defs.specs.Asking.{probed_host, replied_host, has_returned, is_harmed, reply_in, returned_in}
use Rattle.world_defs.proofs.LogViews.{Tried}
use Rattle.ask_laws.specs.Kept.{IsAskKept}
use Rattle.ask_laws.proofs.Drained.{told}
use Rattle.ask_laws.proofs.Back.{back-turns, back-length, entered-place}
use Rattle.ask_laws.proofs.Stood.{IsMissing}
use Rattle.ask_laws.proofs.Parcels.{IsParcel}
use Rattle.ask_laws.proofs.Ready.{Ready}

-- what an ask reads of effects is what hosts heard
probed_in : List (ℕ × Heard) → Option ℕ
probed_in [] = None
probed_in ((h, HeardProbe) ∷ xs) = Some h
probed_in (_ ∷ xs) = probed_in xs

replied_in : ℕ → ℕ → List (ℕ × Heard) → Option ℕ
replied_in mapper number [] = None
replied_in mapper number ((h, HeardReply n from) ∷ xs) = if nat_eq h mapper && nat_eq n number then Some from else replied_in mapper number xs
replied_in mapper number (_ ∷ xs) = replied_in mapper number xs

looped_in : ℕ → ℕ → List (ℕ × Heard) → Bool
looped_in mapper number [] = false
looped_in mapper number ((h, HeardLoop n) ∷ xs) = (nat_eq h mapper && nat_eq n number) || looped_in mapper number xs
looped_in mapper number (_ ∷ xs) = looped_in mapper number xs

probed-told : (xs : List Effect) → probed_host xs ≡ probed_in (told xs)
unfolding probed_in
probed-told [] = refl
probed-told (Arrived h HeardProbe ∷ xs) = refl
probed-told (Arrived h _ ∷ xs) = probed-told xs
probed-told (_ ∷ xs) = probed-told xs

replied-told : (mapper number : ℕ) (xs : List Effect) → replied_host mapper number xs ≡ replied_in mapper number (told xs)
unfolding replied_in
replied-told mapper number [] = refl
replied-told mapper number (Arrived h (HeardReply n from) ∷ xs) = ap (λ o. if nat_eq h mapper && nat_eq n number then Some from else o) (replied-told mapper number xs)
replied-told mapper number (Arrived h _ ∷ xs) = replied-told mapper number xs
replied-told mapper number (_ ∷ xs) = replied-told mapper number xs

looped-told : (mapper number : ℕ) (xs : List Effect) → has_returned mapper number xs ≡ looped_in mapper number (told xs)
unfolding looped_in
looped-told mapper number [] = refl
looped-told mapper number (Arrived h (HeardLoop n) ∷ xs) = ap (λ b. (nat_eq h mapper && nat_eq n number) || b) (looped-told mapper number xs)
looped-told mapper number (Arrived h _ ∷ xs) = looped-told mapper number xs
looped-told mapper number (_ ∷ xs) = looped-told mapper number xs

pub no_probe : (xs : List Effect) → told xs ≡ [] → probed_host xs ≡ None
unfolding probed_in
no_probe xs e = probed-told xs ∙ ap probed_in e

pub one_probe : (xs : List Effect) (h : ℕ) → told xs ≡ (h, HeardProbe) ∷ [] → probed_host xs ≡ Some h
unfolding probed_in
one_probe xs h e = probed-told xs ∙ ap probed_in e

pub no_reply : (mapper : ℕ) (o : Option ℕ) (xs : List Effect) → told xs ≡ [] → reply_in mapper o xs ≡ None
unfolding replied_in
no_reply mapper None xs e = refl
no_reply mapper (Some n) xs e = replied-told mapper n xs ∙ ap (replied_in mapper n) e

pub equal : (n : ℕ) → nat_eq n n ≡ true
equal n = (Decides-eqb n n).1 refl

pub one_reply : (mapper number from : ℕ) (xs : List Effect) → told xs ≡ (mapper, HeardReply number from) ∷ [] → replied_host mapper number xs ≡ Some from
unfolding replied_in
one_reply mapper number from xs e = replied-told mapper number xs ∙ ap (replied_in mapper number) e ∙ rw (equal mapper, equal number) refl

pub no_return : (mapper : ℕ) (o : Option ℕ) (xs : List Effect) → told xs ≡ [] → returned_in mapper o xs ≡ false
unfolding looped_in
no_return mapper None xs e = refl
no_return mapper (Some n) xs e = looped-told mapper n xs ∙ ap (looped_in mapper n) e

pub one_return : (mapper number : ℕ) (xs : List Effect) → told xs ≡ (mapper, HeardLoop number) ∷ [] → has_returned mapper number xs ≡ true
unfolding looped_in
one_return mapper number xs e = looped-told mapper number xs ∙ ap (looped_in mapper number) e ∙ rw (equal mapper, equal number) refl

-- what the mapper and its walk are
pub record Premises (n : Network) (mapper : ℕ) (walk : List ℤ) : Type 0 where
  pub fabric : IsFabric n
  pub is_host : mapper < length n.hosts
  pub turns : AllByRecursion IsTurn walk
  pub few_turns : length walk ≤ 64

-- no fault that harms struck between two worlds, or none was planned for an injection between them; and injections are left
pub data IsQuietTo (w v : WorldState) : Type 0 where
  unplanned : ((number : ℕ) → w.injected < number → number ≤ v.injected → lookup (nat_eq number) w.plan ≡ None) → v.injected < last_count → IsQuietTo w v
  unharmed : v.harmed ≡ w.harmed → v.injected < last_count → IsQuietTo w v

-- What a try comes to: it finds what is there, or a fault met it, or it isn't there, or cables went.
pub record IsTry {A : Type 0} (n : Network) (made mapper : ℕ) (is_found : A → Bool) (Sound : A → Type 0) (Absent : Type 0) (w : WorldState) (t : Tried A) : Type 0 where
  pub ready : Ready n made mapper t.world
  pub kept : IsAskKept w t.world
  pub sound : is_found t.found ≡ true → Sound t.found
  pub missed : is_found t.found ≡ false → (t.harmed ≡ true) ⊎ IsMissing made t.world Absent
  pub unharmed : is_found t.found ≡ false → IsQuietTo w t.world → t.harmed ≡ false

-- bodies by the rules
pub all-turns : (walk : List ℤ) → AllByRecursion IsTurn walk → list_all is_turn walk ≡ true
all-turns [] all = refl
all-turns (t ∷ walk) all = rw (all.0, all-turns walk all.1) refl

pub below : (a b : ℕ) → a < b → nat_lt a b ≡ true
below a b h = grind (arith, nat_tests)

at_most : (a b : ℕ) → a ≤ b → nat_le a b ≡ true
at_most a b h = grind (arith, nat_tests)

pub route-valid : (walk : List ℤ) → AllByRecursion IsTurn walk → length walk ≤ 64 → is_route walk ≡ true
route-valid walk all few = rw (at_most (length walk) 64 few) (all-turns walk all)

probe-valid : (number mapper : ℕ) (back : List ℤ) → number < 2 ^ 64 → mapper < 2 ^ 16 → is_route back ≡ true → is_mapping (HostProbe number mapper back) ≡ true
probe-valid number mapper back a b r = rw (below number (2 ^ 64) a, below mapper (2 ^ 16) b) r

pub two-valid : (number host : ℕ) → number < 2 ^ 64 → host < 2 ^ 16 → (nat_lt number (2 ^ 64) && nat_lt host (2 ^ 16)) ≡ true
two-valid number host a b = rw (below number (2 ^ 64) a, below host (2 ^ 16) b) refl

pub next-fits : (number : ℕ) → number < last_count → number + 1 < 2 ^ 64
next-fits number low = omega (arith, low)

pub small-host : (n : Network) (h : ℕ) → IsFabric n → h < length n.hosts → h < 2 ^ 16
small-host n h f low = let few = f.few_hosts in omega (arith, low, few)

-- a host at which a walk ends is one of the fabric
pub place-there : (n : Network) (mapper h : ℕ) (walk : List ℤ) → IsFabric n → place n mapper walk ≡ AtHostPlace h → h < length n.hosts
place-there n mapper h walk f e =
    let there : nat_lt h (length n.hosts) ≡ true = subst (IsPlaceOf n) e (place_at-there n (entered_after n (far n (host_port mapper)) walk) (entered-place n mapper walk f)) in
    grind (arith, nat_tests)

-- what is sent
pub probe-parcel : (n : Network) (mapper : ℕ) (walk : List ℤ) (w : WorldState) → Premises n mapper walk → w.injected < last_count → IsParcel w mapper (Probe walk false) walk (HostProbe (w.injected + 1) mapper (way_back walk))
unfolding packet_for
probe-parcel n mapper walk w p low = record {
  written = refl;
  turns = p.turns;
  valid = probe-valid (w.injected + 1) mapper (way_back walk) (next-fits w.injected low) (small-host n mapper p.fabric p.is_host) (route-valid (way_back walk) (back-turns walk p.turns) (let few = p.few_turns in let same = back-length walk in omega (arith, few, same)));
}

all-append : (a b : List ℤ) → AllByRecursion IsTurn a → AllByRecursion IsTurn b → AllByRecursion IsTurn (a ++ b)
all-append [] b x y = y
all-append (t ∷ a) b x y = (x.0, all-append a b x.1 y)

pub loop-parcel : (n : Network) (mapper : ℕ) (walk : List ℤ) (w : WorldState) → Premises n mapper walk → w.injected < last_count → IsParcel w mapper (Probe walk true) (walk ++ pos 0 ∷ way_back walk) (Loopback (w.injected + 1) mapper)
unfolding packet_for
loop-parcel n mapper walk w p low = record {
  written = refl;
  turns = all-append walk (pos 0 ∷ way_back walk) p.turns (refl, back-turns walk p.turns);
  valid = two-valid (w.injected + 1) mapper (next-fits w.injected low) (small-host n mapper p.fabric p.is_host);
}

pub reply-parcel : (n : Network) (mapper h : ℕ) (walk : List ℤ) (w : WorldState) (number : ℕ) → Premises n mapper walk → number < 2 ^ 64 → h < length n.hosts → IsParcel w h (Reply (record { number = number; back = way_back walk })) (way_back walk) (HostReply number h)
unfolding packet_for
reply-parcel n mapper h walk w number p low there =
    record { written = refl; turns = back-turns walk p.turns; valid = two-valid number h low (small-host n h p.fabric there) }

-- a try that met no fault
not_less : (a b : ℕ) → b ≡ a → nat_lt a b ≡ false
not_less a b e = grind (arith, nat_tests)

pub calm : (used : Bool) (a b : WorldState) → used ≡ false → b.harmed ≡ a.harmed → is_harmed used a b ≡ false
calm used a b u e = rw (u, not_less a.harmed b.harmed e) refl

pub harm : (used : Bool) (a b : WorldState) → a.harmed < b.harmed → is_harmed used a b ≡ true
harm true a b more = refl
harm false a b more = below a.harmed b.harmed more

pub used-harm : (used : Bool) (a b : WorldState) → used ≡ true → is_harmed used a b ≡ true
used-harm used a b u = rw u refl

-- a place has one host
pub one-host : (a b : ℕ) → AtHostPlace a ≡ AtHostPlace b → a ≡ b
one-host a b e = cc
