-- Where no host has given up the epoch of the adopted set, a part of it is old at none; and after an adoption none has.
use Rattle.std.proofs.Common.{◌≡◌, ◌<◌, ◌≤◌, ◌+◌, ℕ, Bool, true, false, ◌&&◌, nat_eq, nat_lt, List, length, set, Option, Some, refl, sym, ap, ◌∙◌, subst, arith}
use Rattle.std.proofs.Math.ListN.{length-set}
use Rattle.std.proofs.lemmas.Bool.Decides.{nat_tests}
use Rattle.std.proofs.lemmas.List.{get_or_past}
use Rattle.net_defs.specs.Network.{Network}
use Rattle.net_defs.specs.declared.route.Route.{Route}
use Rattle.world_defs.specs.Table.{Adoption, TableState, epoch_in, has_revoked, is_old, new_table, whole_table}
use Rattle.world_defs.specs.Node.{NodeState, new_node}
use Rattle.world_defs.specs.World.{WorldState, host_count, node_at, is_any_revoked, standing_of, may_adopt, adoption_of, adopted_by}
use Rattle.world_defs.proofs.Lists.{each-set}
use Rattle.world_defs.proofs.AdoptedEpochs.{Adopting, adopting, none-revoked}
use Rattle.world_defs.specs.Acts.{IsReached}
use Rattle.table_laws.proofs.Dependencies.{tables-of_set}
use Rattle.install_laws.proofs.Tables.{due-now}

-- the test of one host, the other way round
turned : (t : TableState) (number : ℕ) → has_revoked number t ≡ false → (nat_eq number t.epoch && t.revoked) ≡ false
turned t number e = by (nat_eq number t.epoch) (nat_eq t.epoch number) t.revoked refl refl e
  where
    by : (a b m : Bool) → nat_eq number t.epoch ≡ a → nat_eq t.epoch number ≡ b → (b && m) ≡ false → (a && m) ≡ false
    by true true m p q r = r
    by true false m p q r = absurd (grind (arith, nat_tests))
    by false b m p q r = refl

none-marked : (b : Bool) → (b && false) ≡ false
none-marked true = refl
none-marked false = refl

new-due : (number : ℕ) → is_old new_table number ≡ false
new-due number = due-now new_table number (omega arith) (none-marked (nat_eq number 0))

pub reached-due : (n : Network) (w : WorldState) (a : Adoption) → IsReached n w → w.adopted ≡ Some a → ((h : ℕ) → h < host_count w → has_revoked a.epoch (node_at w h).table ≡ false) → (h : ℕ) → is_old (node_at w h).table a.epoch ≡ false
reached-due n w a r e none h = by (nat_lt h (host_count w)) refl
  where
    by : (b : Bool) → nat_lt h (host_count w) ≡ b → is_old (node_at w h).table a.epoch ≡ false
    by true f =
        let low : h < host_count w = grind (arith, nat_tests) in
        let most : (node_at w h).table.epoch ≤ a.epoch = subst (λ o. (node_at w h).table.epoch ≤ epoch_in o) e (tables-of_set n w r h low).no_later in
        due-now (node_at w h).table a.epoch most (turned (node_at w h).table a.epoch (none h low))
    by false f = ap (λ m. is_old m.table a.epoch) (get_or_past w.nodes h (new_node 0) (grind (arith, nat_tests))) ∙ new-due a.epoch

-- a table that has seen no epoch as late hasn't given it up
earlier-unrevoked : (t : TableState) (number : ℕ) → t.epoch < number → has_revoked number t ≡ false
earlier-unrevoked t number low = let other : nat_eq t.epoch number ≡ false = grind (arith, nat_tests) in ap (λ b. b && t.revoked) other

whole-unrevoked : (routes : List Route) (host number : ℕ) → has_revoked number (whole_table routes host number) ≡ false
whole-unrevoked routes host number = none-marked (nat_eq number number)

-- what an adoption leaves of a host, which it doesn't change
still-unrevoked : (n : Network) (w : WorldState) (mapper : ℕ) (routes : List Route) {o : Option Adoption} {b : Adoption} {keeps : Bool} → IsReached n w → w.adopted ≡ o → Adopting (standing_of w) mapper routes o b keeps → (h : ℕ) → h < host_count w → has_revoked b.epoch (node_at w h).table ≡ false
still-unrevoked n w mapper routes r e Adopting.first h low =
    let most : (node_at w h).table.epoch ≤ 0 = subst (λ o. (node_at w h).table.epoch ≤ epoch_in o) e (tables-of_set n w r h low).no_later in
    earlier-unrevoked (node_at w h).table 1 (omega (arith, most))
still-unrevoked n w mapper routes r e (Adopting.keeps a same) h low = none-revoked w a.epoch h (ap (λ o. is_any_revoked w (epoch_in o)) (sym e) ∙ same.unrevoked) low
still-unrevoked n w mapper routes r e (Adopting.begins a none left) h low =
    let most : (node_at w h).table.epoch ≤ a.epoch = subst (λ o. (node_at w h).table.epoch ≤ epoch_in o) e (tables-of_set n w r h low).no_later in
    earlier-unrevoked (node_at w h).table (a.epoch + 1) (omega (arith, most))

pub adopted-unrevoked : (n : Network) (w : WorldState) (mapper : ℕ) (routes : List Route) → IsReached n w → may_adopt w routes ≡ true → (h : ℕ) → h < host_count (adopted_by w mapper routes) → has_revoked (adoption_of w mapper routes).epoch (node_at (adopted_by w mapper routes) h).table ≡ false
adopted-unrevoked n w mapper routes r may h low =
    let number : ℕ = (adoption_of w mapper routes).epoch in
    let m : NodeState = record (node_at w mapper) { table = whole_table routes mapper number } in
    let count : length (set w.nodes mapper m) ≡ length w.nodes = length-set w.nodes mapper m in
    each-set (λ k x. k < host_count w → has_revoked number x.table ≡ false) w.nodes mapper h m (new_node 0) (λ here. whole-unrevoked routes mapper number)
    (still-unrevoked n w mapper routes {o = w.adopted} r refl (adopting (standing_of w) mapper routes w.adopted may)) (subst (λ k. h < k) count low)
