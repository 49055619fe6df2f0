-- What an installation shows of the hosts that it doesn't count.
use Rattle.std.proofs.Common.{◌≡◌, ◌≢◌, ◌<◌, ◌≤◌, ℕ, true, true≢false, ◌||◌, nat_eq, List, Option, Some, None, sym, ap, ◌∙◌, subst, arith}
use Rattle.std.specs.Prelude.{IfSome, IsSome}
use Rattle.std.specs.List.{AllByRecursion, list_any}
use Rattle.std.proofs.lemmas.Bool.Decides.{nat_tests}
use Rattle.world_defs.specs.History.{fabric_at}
use Rattle.world_defs.specs.Links.{is_idle}
use Rattle.world_defs.specs.Table.{Adoption}
use Rattle.world_defs.specs.World.{WorldState, last_count}
use Rattle.world_defs.proofs.LogViews.{installed}
use Rattle.world_defs.specs.Acts.{IsReached}
use Rattle.install_laws.specs.Premises.{IsJoined, CanInstall}
use Rattle.install_laws.specs.Counts.{TellsCause}
use Rattle.install_laws.proofs.Counting.{tells-cause}
use Rattle.install_laws.proofs.Installing.{installing-idle}
use Rattle.adopted_routes.specs.Adopting.{is_among, IsSetOfHosts}
use Rattle.table_installing.specs.Installing.{IsUnrevoked, IsUnchanged}
use Rattle.table_installing.proofs.InstallHosts.{members}

told-cause : (w u : WorldState) (hosts : List ℕ) (tries acked : ℕ) (a : Adoption) → CanInstall a hosts w → 1 ≤ tries → installed a hosts tries w ≡ (acked, u)
    → u.injected < last_count → TellsCause a hosts tries acked w u
told-cause w u hosts tries acked a can some told left =
    let first : (installed a hosts tries w).0 ≡ acked = ap (λ r. r.0) told in
    let last : (installed a hosts tries w).1 ≡ u = ap (λ r. r.1) told in
    let cause = tells-cause a hosts tries w can (omega (arith, some)) (subst (λ (v : WorldState). v.injected < last_count) (sym last) left) in
    record {
      missed = cause.missed;
      unharmed = λ same stays. sym first ∙ cause.unharmed (ap (λ (v : WorldState). v.harmed) last ∙ same) (ap (λ (v : WorldState). v.links.cables.changes) last ∙ stays);
    }

-- the hosts that an adopted set names are joined to its adopter
joined : (n : ℕ) (a : Adoption) (hosts : List ℕ) → IsSetOfHosts n a → ((h : ℕ) → list_any (nat_eq h) hosts ≡ is_among a.mapper a.routes h)
    → AllByRecursion (λ h. h ≢ a.mapper → IsJoined a h) hosts
joined n a hosts s named =
    let own : nat_eq a.mapper a.mapper ≡ true = grind (arith, nat_tests) in
    let first : is_among a.mapper a.routes a.mapper ≡ true = ap (λ b. b || list_any (λ r. nat_eq r.from a.mapper || nat_eq r.to a.mapper) a.routes) own in
    members (λ h. h ≢ a.mapper → IsJoined a h) hosts
    (λ h e other. record { there = s.whole a.mapper h first (sym (named h) ∙ e) (λ f. other (sym f)); back = s.whole h a.mapper (sym (named h) ∙ e) first other })

can_install : (n : ℕ) (w : WorldState) (hosts : List ℕ) (a : Adoption) → w.adopted ≡ Some a → IsReached (fabric_at w.links.cables 0) w → IsSetOfHosts n a → is_idle w.links ≡ true
    → IsUnrevoked w a → IsUnchanged w a → ((h : ℕ) → list_any (nat_eq h) hosts ≡ is_among a.mapper a.routes h) → CanInstall a hosts w
can_install n w hosts a is reached set idle unrevoked unchanged named =
    record { reached = reached; idle = idle; adopted = is; unchanged = unchanged; unrevoked = unrevoked; set = record { in_order = set.in_order; few_turns = set.short; joined = joined n a hosts set named } }

-- it leaves the links idle
pub idle-behind : (n : ℕ) (w u : WorldState) (hosts : List ℕ) (tries acked : ℕ) (o : Option Adoption) → w.adopted ≡ o → IsReached (fabric_at w.links.cables 0) w → IfSome o (IsSetOfHosts n) → is_idle w.links ≡ true → IsSome o → IfSome o (IsUnrevoked w)
    → IfSome o (IsUnchanged w) → IfSome o (λ a. (h : ℕ) → list_any (nat_eq h) hosts ≡ is_among a.mapper a.routes h) → IfSome o (λ a. installed a hosts tries w ≡ (acked, u)) → is_idle u.links ≡ true
idle-behind n w u hosts tries acked None is reached set idle some unrevoked unchanged named told = absurd (true≢false (sym some))
idle-behind n w u hosts tries acked (Some a) is reached set idle some unrevoked unchanged named told =
    ap (λ r. is_idle r.1.links) (sym told) ∙ installing-idle a hosts tries w (can_install n w hosts a is reached set idle unrevoked unchanged named)

pub tells : (n : ℕ) (w u : WorldState) (hosts : List ℕ) (tries acked : ℕ) (o : Option Adoption) → w.adopted ≡ o → IsReached (fabric_at w.links.cables 0) w → IfSome o (IsSetOfHosts n) → is_idle w.links ≡ true → IfSome o (IsUnrevoked w)
    → IfSome o (IsUnchanged w) → IfSome o (λ a. (h : ℕ) → list_any (nat_eq h) hosts ≡ is_among a.mapper a.routes h) → 1 ≤ tries
    → IfSome o (λ a. installed a hosts tries w ≡ (acked, u)) → IfSome o (λ a. u.injected < last_count → TellsCause a hosts tries acked w u)
tells n w u hosts tries acked None is reached set idle unrevoked unchanged named some told = tt
tells n w u hosts tries acked (Some a) is reached set idle unrevoked unchanged named some told =
    λ left. told-cause w u hosts tries acked a (can_install n w hosts a is reached set idle unrevoked unchanged named) some told left
