-- An installation from its start to its end: the cause of each host that isn't counted, and what is kept.
use Rattle.std.proofs.Common.{◌≡◌, ℕ, Bool, true, false, ◌&&◌, ◌||◌, nat_eq, nat_lt, nat_le, List, [], ◌∷◌, IfSome, is_some, refl, sym, ap, ◌∙◌, subst, arith, true≢false}
use Rattle.std.specs.List.{AllByRecursion}
use Rattle.std.proofs.lemmas.Bool.Decides.{nat_tests}
use Rattle.net_defs.specs.Network.{Network}
use Rattle.world_defs.specs.declared.wire.Wire.{Wire}
use Rattle.world_defs.specs.History.{IsDated, fabric_at}
use Rattle.world_defs.proofs.CablesLater.{pulled-later, later-past}
use Rattle.world_defs.specs.Links.{LinkState, is_idle}
use Rattle.world_defs.specs.Table.{Adoption, TableState, at_in, has_revoked, is_old}
use Rattle.world_defs.specs.World.{WorldState, new_world, node_at}
use Rattle.world_defs.specs.Asking.{all_given_up}
use Rattle.world_laws.specs.Shape.{IsWorld}
use Rattle.world_laws.proofs.Shapes.{step-kept, new-world, planned-world, adopted-world}
use Rattle.world_defs.specs.Logs as log
use Rattle.world_defs.proofs.LogViews.{hosts_installed, installed}
use Rattle.ask_laws.proofs.Lone.{IsBare, is-bare, bare-idle}
use Rattle.ask_laws.proofs.Ready.{kept-start}
use Rattle.world_defs.specs.Acts.{Act, Happens, Plans, Adopts, acted, acted_all, IsReached}
use Rattle.table_laws.proofs.Steps.{IsAdopted, adopted-fits}
use Rattle.install_laws.proofs.Worlds.{installed-of}
use Rattle.install_laws.proofs.Leads.{Leads, along-leads, reached-further}
use Rattle.install_laws.specs.Premises.{CanInstall}
use Rattle.install_laws.specs.Kept.{IsInstallKept, InstallingKeeps, InstallingEndsIdle, CanInstallAgain}
use Rattle.install_laws.specs.Cause.{MissedHostsWereHarmed}
use Rattle.install_laws.specs.Tables.{CountedHostsHaveTables}
use Rattle.install_laws.specs.Counts.{EachMissCostsFaults}
use Rattle.table_laws.proofs.Dependencies.{reached-of}
use Rattle.world_defs.proofs.Cables.{reached-cables, reached-history}
use Rattle.install_laws.proofs.Since.{IsSince}
use Rattle.install_laws.proofs.Epochs.{reached-due}
use Rattle.install_laws.proofs.Between.{Between, kept-ask, kept-both, between-start}
use Rattle.install_laws.proofs.Parts.{are-ways}
use Rattle.install_laws.proofs.Walking.{IsInstallable, AreInstalled, hosts-so}

-- acts lead to worlds of the fabric
acts-world : (w : WorldState) (acts : List Act) → IsWorld w → IsWorld (acted_all w acts)
acts-world w [] is = is
acts-world w (Happens e ∷ acts) is = acts-world (acted w (Happens e)) acts ((step-kept w e).world is)
acts-world w (Plans ahead fault ∷ acts) is = acts-world (acted w (Plans ahead fault)) acts (planned-world w ahead fault is)
acts-world w (Adopts mapper routes ∷ acts) is = acts-world (acted w (Adopts mapper routes)) acts (adopted-world w mapper routes is)

reached-world : (n : Network) (w : WorldState) → IsReached n w → IsWorld w
reached-world n w r = subst IsWorld (sym r.leads) (acts-world (new_world n) r.acts (new-world n))

-- the whole
record IsInstallation (n : Network) (a : Adoption) (tries : ℕ) (hosts : List ℕ) (w : WorldState) (r : ℕ × WorldState) : Type 0 where
  hosts_are : AreInstalled n a tries hosts (all_given_up w) r
  kept : IsInstallKept w r.1

-- the fabric as it stood at the adoption
abbrev adopted_over : Adoption → WorldState → Network
adopted_over a w = fabric_at w.links.cables a.at

abbrev first_of : WorldState → Network
first_of w = fabric_at w.links.cables 0

installable : (a : Adoption) (hosts : List ℕ) (w : WorldState) → CanInstall a hosts w → IsInstallable (adopted_over a w) a
installable a hosts w can =
    let it : IsAdopted w.links.cables a = subst (λ o. IfSome o (IsAdopted w.links.cables)) can.adopted (reached-of (first_of w) w can.reached).adopted in
    let f = (reached-history (first_of w) w can.reached).fabrics a.at in
    record { fabric = f; epoch = adopted-fits w.links.cables a it; in_order = can.set.in_order; ways = are-ways (adopted_over a w) a.routes f it.adoptable.lead can.set.few_turns }

-- none of its cables was plugged after the adoption
dated-before : (changes at : ℕ) (ws : List Wire) → changes ≡ at → AllByRecursion (IsDated changes) ws → AllByRecursion (λ x. nat_le x.plugged at ≡ true) ws
dated-before changes at [] same all = tt
dated-before changes at (w ∷ ws) same all = let low = all.0.plugged in (grind (arith, nat_tests), dated-before changes at ws same all.1)

since-start : (a : Adoption) (hosts : List ℕ) (w : WorldState) → CanInstall a hosts w → IsSince (adopted_over a w) a w
since-start a hosts w can =
    let k = reached-cables (first_of w) w can.reached in
    let same = can.unchanged in
    record {
      over = record { stood = record { history = k.history; made = omega (arith, same); unplugged = dated-before w.links.cables.changes a.at w.links.cables.wires same k.history.dated }; past = refl };
      accepted = k.accepted ∙ ap at_in can.adopted;
      adopted = can.adopted;
    }

pub start-between : (a : Adoption) (hosts : List ℕ) (w : WorldState) → CanInstall a hosts w → Between (fabric_at w.links.cables a.at) a (all_given_up w)
start-between a hosts w can =
    let n : Network = first_of w in
    between-start (adopted_over a w) a w (since-start a hosts w can) refl (reached-world n w can.reached) can.idle (reached-of n w can.reached).plan (reached-due n w a can.reached can.adopted can.unrevoked)

installation : (a : Adoption) (hosts : List ℕ) (tries : ℕ) (w : WorldState) → CanInstall a hosts w → IsInstallation (adopted_over a w) a tries hosts w (installed a hosts tries w)
unfolding log.install
installation a hosts tries w can =
    let start : WorldState = all_given_up w in
    let all = hosts-so (adopted_over a w) a tries hosts start (installable a hosts w can) can.set.joined (start-between a hosts w can) in
    record { hosts_are = all; kept = kept-both w start (hosts_installed a tries hosts start).1 (kept-ask w start (kept-start w)) all.kept }

pub missed-harmed : MissedHostsWereHarmed
missed-harmed a hosts tries w can left = (installation a hosts tries w can).hosts_are.missed left

pub counted-tables : CountedHostsHaveTables
counted-tables a hosts tries w can adopter =
    (installation a hosts tries w can).hosts_are.tables (ap (λ (t : TableState). is_some t.active) (((kept-start w).nodes a.mapper).table) ∙ adopter)

pub misses-cost : EachMissCostsFaults
misses-cost a hosts tries w can left calm =
    let i = installation a hosts tries w can in
    let cost = i.hosts_are.cost left (calm ∙ can.unchanged) in
    let before = (kept-start w).harmed in
    omega (arith, cost, before)

pub installing-keeps : InstallingKeeps
installing-keeps a hosts tries w can = (installation a hosts tries w can).kept

pub installing-idle : InstallingEndsIdle
installing-idle a hosts tries w can =
    let l : LinkState = (installed a hosts tries w).1.links in
    let e : IsBare l = (installation a hosts tries w can).hosts_are.between.bare in
    ap is_idle (is-bare l e) ∙ bare-idle l

-- a host for which a part of an epoch isn't old hasn't given that up
due-unrevoked : (t : TableState) (number : ℕ) → is_old t number ≡ false → has_revoked number t ≡ false
due-unrevoked t number e = by (nat_lt number t.epoch) (nat_eq number t.epoch) (nat_eq t.epoch number) t.revoked refl refl e
  where
    by : (a b c m : Bool) → nat_eq number t.epoch ≡ b → nat_eq t.epoch number ≡ c → (a || (b && m)) ≡ false → (c && m) ≡ false
    by true b c m p q r = absurd (true≢false r)
    by false true true m p q r = r
    by false true false m p q r = refl
    by false false true m p q r = absurd (grind (arith, nat_tests))
    by false false false m p q r = refl

-- and again
pub install-again : CanInstallAgain
install-again a hosts tries w can calm =
    let v : WorldState = (installed a hosts tries w).1 in
    let k = installing-keeps a hosts tries w can in
    let on = reached-further (first_of w) w v can.reached (installed-of Leads along-leads a hosts tries w) in
    record {
      reached = subst (λ n. IsReached n v) (sym (later-past 0 (omega arith) (pulled-later k.pulled))) on;
      idle = installing-idle a hosts tries w can;
      adopted = k.adopted ∙ can.adopted;
      unchanged = calm ∙ can.unchanged;
      unrevoked = λ h low. due-unrevoked (node_at v h).table a.epoch ((installation a hosts tries w can).hosts_are.between.nodes h).due;
      set = can.set;
    }
