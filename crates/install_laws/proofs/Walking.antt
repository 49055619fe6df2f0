-- From try to try, part to part and host to host.
use Rattle.std.proofs.Common.{◌≡◌, ◌≢◌, ◌<◌, ◌≤◌, ◌+◌, ◌*◌, ℕ, zero, suc, Bool, true, false, nat_eq, List, [], ◌∷◌, length, ◌⊎◌, inl, inr, refl, sym, ◌∙◌, subst, arith, true≢false, if◌then◌else◌, ◌^◌}
use Rattle.std.specs.List.{AllByRecursion, range_with_len}
use Rattle.std.proofs.lemmas.Bool.Decides.{Decides-eqb}
use Rattle.net_defs.specs.Network.{Network, IsFabric}
use Rattle.net_defs.specs.RouteSet.{AreRising}
use Rattle.world_defs.specs.Table.{Adoption, part_count, entries_from}
use Rattle.world_defs.specs.World.{WorldState, last_count, node_at}
use Rattle.world_defs.specs.Install.{parts_of}
use Rattle.world_defs.specs.Logs as log
use Rattle.world_defs.proofs.LogViews.{tries-by, parts-by, Tried, part_try, part_tries, parts_installed, hosts_installed}
use Rattle.install_laws.specs.Premises.{IsJoined}
use Rattle.install_laws.specs.Kept.{IsInstallKept}
use Rattle.world_defs.proofs.CablesLater.{pulled-later, later-kept}
use Rattle.install_laws.specs.Cause.{EachTryWasHarmed, IsCutOff, HasHarmedPart, EachMissedWasHarmed}
use Rattle.install_laws.proofs.Since.{unbroken}
use Rattle.install_laws.specs.Tables.{has_table, EachCountedHasTable}
use Rattle.install_laws.proofs.Between.{Between, kept-same, kept-both}
use Rattle.install_laws.proofs.Parts.{IsWay, IsSent, sent-part}
use Rattle.install_laws.proofs.Collecting.{whole-active}
use Rattle.install_laws.proofs.Growing.{HasPart, Grows, grows-same, grows-both, parts_for, parts-some}
use Rattle.install_laws.proofs.Trying.{IsMissed, part-tried}

-- injections are left
abbrev HasLeft : WorldState → Type 0
HasLeft w = w.injected < last_count

left-before : (w v : WorldState) → IsInstallKept w v → HasLeft v → HasLeft w
left-before w v k left = let e = k.injected in omega (arith, e, left)

-- no cable went since the adoption
abbrev IsUnchanged : Adoption → WorldState → Type 0
IsUnchanged a w = w.links.cables.changes ≡ a.at

unchanged-before : (n : Network) (a : Adoption) (w v : WorldState) → Between n a w → IsInstallKept w v → IsUnchanged a v → IsUnchanged a w
unchanged-before n a w v b k same =
    let least = b.since.over.stood.made in
    let more = (later-kept (pulled-later k.pulled)).changes in
    omega (arith, least, more, same)

-- Tries of a part.
record ArePartTries (n : Network) (a : Adoption) (dst part tries : ℕ) (w : WorldState) (t : Tried Bool) : Type 0 where
  between : Between n a t.world
  kept : IsInstallKept w t.world
  missed : t.found ≡ false → HasLeft t.world → EachTryWasHarmed a.mapper dst part tries w
  cost : t.found ≡ false → HasLeft t.world → IsUnchanged a t.world → w.harmed + tries ≤ t.world.harmed
  grows : Grows a w t.world
  took : t.found ≡ true → HasPart a dst part t.world

harmed-so : (a : Adoption) (dst : ℕ) (w v : WorldState) → IsMissed a dst w v → HasLeft v → (w.harmed < v.harmed) ⊎ IsCutOff a.mapper dst v
harmed-so a dst w v (inl more) left = inl more
harmed-so a dst w v (inr (inl most)) left = absurd (omega (arith, most, left))
harmed-so a dst w v (inr (inr cut)) left = inr cut

only-harm : (n : Network) (a : Adoption) (dst : ℕ) (w v : WorldState) → Between n a v → IsUnchanged a v → (w.harmed < v.harmed) ⊎ IsCutOff a.mapper dst v → w.harmed < v.harmed
only-harm n a dst w v b same (inl more) = more
only-harm n a dst w v b same (inr (inl cut)) = absurd (true≢false (sym cut ∙ unbroken n a v a.mapper dst b.since same))
only-harm n a dst w v b same (inr (inr cut)) = absurd (true≢false (sym cut ∙ unbroken n a v dst a.mapper b.since same))

tries-so : (n : Network) (a : Adoption) (dst part tries : ℕ) (w : WorldState) → IsFabric n → dst ≢ a.mapper → IsSent n a dst part → Between n a w → ArePartTries n a dst part tries w (part_tries a.mapper dst tries part w)
tries-so n a dst part zero w f other x b = record {
  between = b;
  kept = kept-same w;
  missed = λ e left. tt;
  cost = λ e left same. omega arith;
  grows = grows-same a w;
  took = λ e. absurd (true≢false (sym e));
}
tries-so n a dst part (suc tries) w f other x b =
    let t : Tried Bool = part_try a.mapper dst part w in
    let u : Tried Bool = part_tries a.mapper dst tries part t.world in
    let one = part-tried n a dst part w f other x b in
    let others = tries-so n a dst part tries t.world f other x one.between in
    tries-by (λ b. b) false (log.part_try a.mapper dst part) tries w (ArePartTries n a dst part (suc tries) w)
    (λ e. record {
      between = one.between;
      kept = one.kept;
      missed = λ f left. absurd (true≢false (sym e ∙ f));
      cost = λ f left same. absurd (true≢false (sym e ∙ f));
      grows = one.grows;
      took = one.took;
    })
    (λ e. record {
      between = others.between;
      kept = kept-both w t.world u.world one.kept others.kept;
      missed = λ f left. (e, harmed-so a dst w t.world (one.missed e) (left-before t.world u.world others.kept left), others.missed f left);
      cost = λ f left same.
          let mid = unchanged-before n a t.world u.world one.between others.kept same in
          let more : w.harmed < t.world.harmed = only-harm n a dst w t.world one.between mid (harmed-so a dst w t.world (one.missed e) (left-before t.world u.world others.kept left)) in
          let rest = others.cost f left same in
          omega (arith, more, rest);
      grows = grows-both a w t.world u.world one.grows others.grows;
      took = others.took;
    })

-- The parts of a host.
record AreParts (n : Network) (a : Adoption) (dst tries : ℕ) (ps : List ℕ) (w : WorldState) (r : Bool × WorldState) : Type 0 where
  between : Between n a r.1
  kept : IsInstallKept w r.1
  missed : r.0 ≡ false → HasLeft r.1 → HasHarmedPart a.mapper dst tries ps w
  cost : r.0 ≡ false → HasLeft r.1 → IsUnchanged a r.1 → w.harmed + tries ≤ r.1.harmed
  grows : Grows a w r.1
  took : r.0 ≡ true → AllByRecursion (λ p. HasPart a dst p r.1) ps

-- each part that is sent
abbrev IsToSend : Network → Adoption → ℕ → ℕ → Type 0
IsToSend n a dst part = (dst ≢ a.mapper) × IsSent n a dst part

parts-so : (n : Network) (a : Adoption) (dst tries : ℕ) (ps : List ℕ) (w : WorldState) → IsFabric n → AllByRecursion (IsToSend n a dst) ps → Between n a w → AreParts n a dst tries ps w (parts_installed a.mapper dst tries ps w)
parts-so n a dst tries [] w f all b = record { between = b; kept = kept-same w; missed = λ e left. absurd (true≢false e); cost = λ e left same. absurd (true≢false e); grows = grows-same a w; took = λ e. tt }
parts-so n a dst tries (p ∷ ps) w f all b =
    let t : Tried Bool = part_tries a.mapper dst tries p w in
    let r : Bool × WorldState = parts_installed a.mapper dst tries ps t.world in
    let one = tries-so n a dst p tries w f all.0.0 all.0.1 b in
    let others = parts-so n a dst tries ps t.world f all.1 one.between in
    parts-by a.mapper dst tries p ps w (AreParts n a dst tries (p ∷ ps) w)
    (λ e. record {
      between = others.between;
      kept = kept-both w t.world r.1 one.kept others.kept;
      missed = λ f left. inr (e, others.missed f left);
      cost = λ f left same. let rest = others.cost f left same in let more = one.kept.harmed in omega (arith, rest, more);
      grows = grows-both a w t.world r.1 one.grows others.grows;
      took = λ f. ((others.grows.each dst).parts p (one.took e), others.took f);
    })
    (λ e. record { between = one.between; kept = one.kept; missed = λ f left. inl (one.missed e left); cost = λ f left same. one.cost e left same; grows = one.grows; took = λ f. absurd (true≢false (sym f)) })

-- What is known of a set.
pub record IsInstallable (n : Network) (a : Adoption) : Type 0 where
  pub fabric : IsFabric n
  pub epoch : a.epoch < 2 ^ 32
  pub in_order : AreRising a.routes
  pub ways : AllByRecursion (IsWay n) a.routes

range-all : (P : ℕ → Type 0) (k from : ℕ) → ((p : ℕ) → p < from + k → P p) → AllByRecursion P (range_with_len from k)
range-all P zero from each = tt
range-all P (suc k) from each = (each from (omega arith), range-all P k (from + 1) (λ p low. each p (omega (arith, low))))

all-to_send : (n : Network) (a : Adoption) (h : ℕ) → IsInstallable n a → (h ≢ a.mapper → IsJoined a h) → AllByRecursion (IsToSend n a h) (parts_of a h)
all-to_send n a h s joined = by (nat_eq h a.mapper) refl
  where
    count : ℕ
    count = part_count (length (entries_from a.routes h))

    by : (b : Bool) → nat_eq h a.mapper ≡ b → AllByRecursion (IsToSend n a h) (if b then [] else range_with_len 0 count)
    by true e = tt
    by false e =
        let other : h ≢ a.mapper = λ same. true≢false (sym ((Decides-eqb h a.mapper).1 same) ∙ e) in
        range-all (IsToSend n a h) count 0 (λ p low. (other, sent-part n a h p s.fabric s.epoch s.in_order s.ways other (joined other) (omega (arith, low))))

-- The hosts.
pub record AreInstalled (n : Network) (a : Adoption) (tries : ℕ) (hs : List ℕ) (w : WorldState) (r : ℕ × WorldState) : Type 0 where
  pub between : Between n a r.1
  pub kept : IsInstallKept w r.1
  pub missed : r.1.injected < last_count → EachMissedWasHarmed a tries hs w
  pub cost : r.1.injected < last_count → r.1.links.cables.changes ≡ a.at → w.harmed + tries * length hs ≤ r.1.harmed + tries * r.0
  pub grows : Grows a w r.1
  pub tables : has_table w a.mapper ≡ true → EachCountedHasTable a tries hs w r.1

-- a host all of whose parts were acknowledged has an active table, and so has the adopter
parts-active : (n : Network) (a : Adoption) (tries h : ℕ) (w : WorldState) (r : Bool × WorldState) → (h ≢ a.mapper → IsJoined a h) → AreParts n a h tries (parts_of a h) w r → has_table w a.mapper ≡ true → r.0 ≡ true → has_table r.1 h ≡ true
parts-active n a tries h w r joined one adopter all = by (nat_eq h a.mapper) refl (one.took all)
  where
    by : (b : Bool) → nat_eq h a.mapper ≡ b → AllByRecursion (λ p. HasPart a h p r.1) (if b then [] else range_with_len 0 (parts_for a h)) → has_table r.1 h ≡ true
    by true e each = subst (λ g. has_table r.1 g ≡ true) (sym ((Decides-eqb h a.mapper).0 e)) ((one.grows.each a.mapper).active adopter)
    by false e each =
        let other : h ≢ a.mapper = λ same. true≢false (sym ((Decides-eqb h a.mapper).1 same) ∙ e) in
        whole-active a.epoch (parts_for a h) (node_at r.1 h).table (parts-some a h a.mapper (joined other).back) each

counted-so : (n : Network) (a : Adoption) (tries h : ℕ) (hs : List ℕ) (w : WorldState) → (h ≢ a.mapper → IsJoined a h) → AreParts n a h tries (parts_of a h) w (parts_installed a.mapper h tries (parts_of a h) w)
    → AreInstalled n a tries hs (parts_installed a.mapper h tries (parts_of a h) w).1 (hosts_installed a tries hs (parts_installed a.mapper h tries (parts_of a h) w).1) → AreInstalled n a tries (h ∷ hs) w (hosts_installed a tries (h ∷ hs) w)
counted-so n a tries h hs w joined one others = record {
  between = others.between;
  kept = kept-both w v rest.1 one.kept others.kept;
  missed = λ left. (λ e. one.missed e (left-before v rest.1 others.kept left), others.missed left);
  cost = λ left same. by-cost r.0 refl left same (others.cost left same);
  grows = grows-both a w v rest.1 one.grows others.grows;
  tables = λ adopter. (λ e. (others.grows.each h).active (parts-active n a tries h w r joined one adopter e), others.tables ((one.grows.each a.mapper).active adopter));
}
  where
    r : Bool × WorldState
    r = parts_installed a.mapper h tries (parts_of a h) w

    v : WorldState
    v = r.1

    rest : ℕ × WorldState
    rest = hosts_installed a tries hs v

    by-cost : (b : Bool) → r.0 ≡ b → HasLeft rest.1 → IsUnchanged a rest.1 → v.harmed + tries * length hs ≤ rest.1.harmed + tries * rest.0 → w.harmed + tries * length (h ∷ hs) ≤ rest.1.harmed + tries * ((if b then 1 else 0) + rest.0)
    by-cost true e left same rest_cost =
        let more = one.kept.harmed in
        let a0 : tries * (1 + length hs) ≡ tries + tries * length hs = omega arith in
        let a1 : tries * (1 + rest.0) ≡ tries + tries * rest.0 = omega arith in
        omega (arith, rest_cost, more, a0, a1)
    by-cost false e left same rest_cost =
        let more = one.cost e (left-before v rest.1 others.kept left) (unchanged-before n a v rest.1 one.between others.kept same) in
        let a0 : tries * (1 + length hs) ≡ tries + tries * length hs = omega arith in
        let a1 : tries * (0 + rest.0) ≡ tries * rest.0 = omega arith in
        omega (arith, rest_cost, more, a0, a1)

pub hosts-so : (n : Network) (a : Adoption) (tries : ℕ) (hs : List ℕ) (w : WorldState) → IsInstallable n a → AllByRecursion (λ h. h ≢ a.mapper → IsJoined a h) hs → Between n a w → AreInstalled n a tries hs w (hosts_installed a tries hs w)
hosts-so n a tries [] w s all b = record { between = b; kept = kept-same w; missed = λ left. tt; cost = λ left same. omega arith; grows = grows-same a w; tables = λ adopter. tt }
hosts-so n a tries (h ∷ hs) w s all b =
    let one = parts-so n a h tries (parts_of a h) w s.fabric (all-to_send n a h s all.0) b in
    counted-so n a tries h hs w all.0 one (hosts-so n a tries hs (parts_installed a.mapper h tries (parts_of a h) w).1 s all.1 one.between)
