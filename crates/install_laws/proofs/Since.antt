-- What cables that were pulled since the adoption say of the routes: one that leads nowhere is broken, and where none was pulled none is.
use Rattle.std.proofs.Common.{◌≡◌, ◌≢◌, ◌<◌, ◌≤◌, ◌/◌, ℕ, Bool, true, false, not, ◌&&◌, nat_le, nat_lt, ℤ, List, [], ◌∷◌, Option, Some, None, IfSome, is_none, refl, sym, ap, ◌∙◌, arith}
use Rattle.std.specs.Prelude.{slice_get}
use Rattle.std.specs.List.{list_any}
use Rattle.std.specs.Option.{option_map_or}
use Rattle.std.proofs.lemmas.Bool.Decides.{nat_tests}
use Rattle.net_defs.specs.declared.place.Place.TheVariants.{Host as AtHost}
use Rattle.net_defs.specs.Network.{Network}
use Rattle.net_defs.specs.Route.{place}
use Rattle.world_defs.specs.declared.wire.Wire.{Wire}
use Rattle.world_defs.specs.History.{CableHistory, IsDated, IsHistory, fabric_at, is_pulled_after}
use Rattle.world_defs.specs.Crossed.{channels_at, is_cut}
use Rattle.world_defs.proofs.CablesKept.{all-got}
use Rattle.world_defs.specs.Table.{Adoption, at_in, route_of}
use Rattle.world_defs.specs.Traffic.{adopted_routes, routes_in, is_cut_walk, is_broken}
use Rattle.world_defs.specs.World.{WorldState, fabric_of}
use Rattle.table_laws.proofs.Uncut.{whole-place}
use Rattle.ask_laws.proofs.Stood.{IsOver}

-- Cables over which the set was adopted, and of which some were pulled since.
pub record IsSince (n : Network) (a : Adoption) (w : WorldState) : Type 0 where
  pub over : IsOver n a.at w.links.cables
  pub accepted : w.links.cables.accepted ≡ a.at
  pub adopted : w.adopted ≡ Some a

-- a route of the set that doesn't lead to its host any more is broken
pub away-broken : (n : Network) (a : Adoption) (w : WorldState) (from to : ℕ) (walk : List ℤ) → IsSince n a w → route_of a.routes from to ≡ Some walk → place n from walk ≡ AtHost to → ((g : ℕ) → place (fabric_of w) from walk ≢ AtHost g) → is_broken w from to ≡ true
away-broken n a w from to walk s route leads away = by (is_broken w from to) refl
  where
    h : CableHistory
    h = w.links.cables

    of_set : route_of (adopted_routes w) from to ≡ Some walk
    of_set = ap (λ o. route_of (routes_in o) from to) s.adopted ∙ route

    by : (b : Bool) → is_broken w from to ≡ b → is_broken w from to ≡ true
    by true e = e
    by false e =
        let is = s.over.stood.history in
        let when : h.accepted ≡ at_in w.adopted = s.accepted ∙ sym (ap at_in s.adopted) in
        let uncut : list_any (is_cut h) (channels_at h h.accepted from walk) ≡ false = ap (λ j. list_any (is_cut h) (channels_at h j from walk)) when ∙ sym (ap (λ o. option_map_or (is_cut_walk w from) o false) of_set) ∙ e in
        let ended : place (fabric_at h h.accepted) from walk ≡ AtHost to = ap (λ j. place (fabric_at h j) from walk) s.accepted ∙ ap (λ m. place m from walk) s.over.past ∙ leads in
        absurd (away to (whole-place h from to walk is ended uncut))

-- where no cable went since the adoption, none is cut
false-last : (a : Bool) → (a && false) ≡ false
false-last true = refl
false-last false = refl

cut-by : (accepted plugged changes : ℕ) (o : Option ℕ) → changes ≤ accepted → IfSome o (λ ch. (plugged < ch) × (ch ≤ changes)) → ((nat_le plugged accepted && is_pulled_after accepted o) && not (is_none o)) ≡ false
cut-by accepted plugged changes None low dated = false-last (nat_le plugged accepted && true)
cut-by accepted plugged changes (Some ch) low dated =
    let most = dated.1 in
    let no : nat_lt accepted ch ≡ false = grind (arith, nat_tests) in
    ap (λ b. (nat_le plugged accepted && b) && true) no ∙ ap (λ b. b && true) (false-last (nat_le plugged accepted))

no-cut : (h : CableHistory) (c : ℕ) → IsHistory h → h.changes ≤ h.accepted → is_cut h c ≡ false
no-cut h c is low = by (slice_get h.wires (c / 2)) refl
  where
    by : (o : Option Wire) → slice_get h.wires (c / 2) ≡ o → option_map_or (λ w. (nat_le w.plugged h.accepted && is_pulled_after h.accepted w.pulled) && not (is_none w.pulled)) o false ≡ false
    by None e = refl
    by (Some w) e = cut-by h.accepted w.plugged h.changes w.pulled low (all-got (IsDated h.changes) h.wires (c / 2) w is.dated e).pulled

none-cut : (h : CableHistory) (cs : List ℕ) → IsHistory h → h.changes ≤ h.accepted → list_any (is_cut h) cs ≡ false
none-cut h [] is low = refl
none-cut h (c ∷ cs) is low = rw (no-cut h c is low) (none-cut h cs is low)

-- and no route is broken
pub unbroken : (n : Network) (a : Adoption) (w : WorldState) (from to : ℕ) → IsSince n a w → w.links.cables.changes ≡ a.at → is_broken w from to ≡ false
unbroken n a w from to s same = by (route_of (adopted_routes w) from to)
  where
    by : (o : Option (List ℤ)) → option_map_or (is_cut_walk w from) o false ≡ false
    by None = refl
    by (Some walk) =
        let when = s.accepted in
        none-cut w.links.cables (channels_at w.links.cables (at_in w.adopted) from walk) s.over.stood.history (omega (arith, same, when))
