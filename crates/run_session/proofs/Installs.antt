-- That an installation of the last routes is told, and so obeyed.
use Rattle.std.proofs.Common.{◌≡◌, ◌≢◌, ◌⊎◌, ℕ, ◌∷◌, [], List, length, map, Bool, true, false, true≢false, not, ◌&&◌, nat_eq, Option, Some, None, inl, inr, refl, sym, ◌∙◌, ap, subst, arith, if◌then◌else◌}
use Rattle.world_defs.specs.Links.{is_idle}
use Rattle.world_defs.specs.Later.{OnlyPulled}
use Rattle.std.proofs.lemmas.Bool.Decides.{Decides-eqb, nat_tests}
use Rattle.std.proofs.lemmas.Option.{same_Some}
use Rattle.world_defs.specs.World.{WorldState, fabric_of, may_adopt, adopted_by}
use Rattle.world_defs.specs.EightBits.{IsByteEvent}
use Rattle.world_defs.specs.Row.{IsPartWay}
use Rattle.world_defs.proofs.LogRows.{install-row, byte_asks}
use Rattle.world_defs.specs.Acts.{acted_all}
use Rattle.run_defs.specs.declared.command.Command.TheVariants.{Install}
use Rattle.run_defs.specs.declared.line.Line.TheVariants.{Installed, InstallRefused}
use Rattle.run_defs.specs.declared.line.InstallCause.{InstallCause}
use Rattle.run_defs.specs.declared.line.InstallCause.TheVariants.{Busy, Changed}
use Rattle.run_defs.specs.Output.{OneLine, lines}
use Rattle.run_defs.specs.Deed.{Deed, says, session_after}
use Rattle.run_defs.specs.Outcome.{set_of, adopt_cause, installation, may_install, refusal_cause, install, install_now, table_line}
use Rattle.run_defs.proofs.Doing.{acted-installation}
use Rattle.run_defs.proofs.ByKind.{by-install}
use Rattle.run_defs.specs.Run.{IsDeed}
use Rattle.run_defs.specs.Session.{SessionState, LastMap, LastRoutes}
use Rattle.fab_report.specs.Printed.{PrintedState, printed_of}
use Rattle.promise_laws.specs.CutShort.{IsPartActed}
use Rattle.promise_laws.proofs.CutShort.{part-none, part-installed, way-whole}
use Rattle.world_commands.specs.Done.{session_of}
use Rattle.fab_world.specs.Held.{IsMoment}
use Rattle.run_session.specs.Kept.{AreKeptRoutes, WereKeptRoutes, GoesOn}
use Rattle.run_session.specs.Obeyed.{IsObeyed}
use Rattle.run_session.specs.Told.{IsInstallTold}
use Rattle.run_session.proofs.Going.{goes-as, goes-on, goes-adopted, goes-way, goes_pulled, routes-now, printed-on}

-- an installation that is refused
refused : (w : WorldState) (last : Option LastRoutes) (tries : ℕ) (cause : InstallCause) (p : PrintedState) → install w tries last ≡ says (InstallRefused cause ∷ []) → p ≡ printed_of (fabric_of w) (OneLine (InstallRefused cause) ∷ []) → IsInstallTold w last tries w p
refused w last tries cause p is e = record {
  printed = e ∙ sym (ap (λ (d : Deed). printed_of (fabric_of w) d.output) is);
  left = ap (λ (d : Deed). acted_all w d.acts) (sym is);
}

-- what comes of last routes, by whether a channel holds a packet, whether they may be installed, and why not
abbrev pub choice : WorldState → LastRoutes → ℕ → Bool → Bool → InstallCause → Deed
choice w l tries idle may cause =
    if not idle then says (InstallRefused Busy ∷ [])
    else if not may then says (InstallRefused cause ∷ [])
    else install_now w l tries

pub busy_told : (w : WorldState) (l : LastRoutes) (tries : ℕ) (p : PrintedState) → is_idle w.links ≡ false → p ≡ printed_of (fabric_of w) (OneLine (InstallRefused Busy) ∷ []) → IsInstallTold w (Some l) tries w p
busy_told w l tries p busy e = refused w (Some l) tries Busy p (ap (λ b. choice w l tries b (may_install w l) (refusal_cause w l)) busy) e

-- the last routes may not be installed, and why; or they may
pub why-not : {may : Bool} {why cause : InstallCause} {r : Option InstallCause} → r ≡ (if may then None else Some why) → r ≡ Some cause → (may ≡ false) × (cause ≡ why)
why-not {may = true} told is = cc
why-not {may = false} {why = why} {cause = cause} told is = (refl, same_Some cause why (sym is ∙ told))

pub why-none : {may : Bool} (why : InstallCause) {r : Option InstallCause} → r ≡ (if may then None else Some why) → r ≡ None → may ≡ true
why-none {may = true} why told is = refl
why-none {may = false} why told is = cc

pub refused_told : (w : WorldState) (l : LastRoutes) (tries : ℕ) (cause : InstallCause) (r : Option InstallCause) (p : PrintedState) → is_idle w.links ≡ true → r ≡ (if may_install w l then None else Some (refusal_cause w l)) → r ≡ Some cause
    → p ≡ printed_of (fabric_of w) (OneLine (InstallRefused cause) ∷ []) → IsInstallTold w (Some l) tries w p
refused_told w l tries cause r p idle told is e =
    let why : (may_install w l ≡ false) × (cause ≡ refusal_cause w l) = why-not told is in
    refused w (Some l) tries (refusal_cause w l) p
    (ap (λ b. choice w l tries b (may_install w l) (refusal_cause w l)) idle ∙ ap (λ b. choice w l tries true b (refusal_cause w l)) why.0)
    (e ∙ ap (λ k. printed_of (fabric_of w) (OneLine (InstallRefused k) ∷ [])) why.1)

-- routes that may be installed are of the fabric as it stands, and may be adopted
pub unchanged-may : (w : WorldState) (l : LastRoutes) → may_install w l ≡ true → (l.began ≡ w.links.cables.changes) × (may_adopt w l.routes ≡ true)
unchanged-may w l may = by (nat_eq l.began w.links.cables.changes) (may_adopt w l.routes) refl may
  where
    by : (same adopts : Bool) → nat_eq l.began w.links.cables.changes ≡ same → (same && adopts) ≡ true → (l.began ≡ w.links.cables.changes) × (adopts ≡ true)
    by true adopts e f = ((Decides-eqb l.began w.links.cables.changes).0 e, f)
    by false adopts e f = absurd (true≢false (sym f))

-- why routes aren't installed: where no cable changed since their map began, as they aren't adopted; else for that
abbrev cause_by : WorldState → LastRoutes → Bool → Option InstallCause
cause_by w l same = if same && may_adopt w l.routes then None else Some (if same then adopt_cause w else Changed)

pub cause_adopts : (w : WorldState) (l : LastRoutes) (r : Option InstallCause) → l.began ≡ w.links.cables.changes → r ≡ (if may_adopt w l.routes then None else Some (adopt_cause w)) → r ≡ (if may_install w l then None else Some (refusal_cause w l))
cause_adopts w l r same e =
    let t : nat_eq l.began w.links.cables.changes ≡ true = grind (arith, nat_tests) in
    e ∙ sym (ap (cause_by w l) t)

pub cause_changed : (w : WorldState) (l : LastRoutes) → l.began ≢ w.links.cables.changes → Some Changed ≡ (if may_install w l then None else Some (refusal_cause w l))
cause_changed w l other =
    let t : nat_eq l.began w.links.cables.changes ≡ false = grind (arith, nat_tests) in
    sym (ap (cause_by w l) t)

-- so they are kept routes of it, also where they are a copy
pub kept-copy : (w : WorldState) (k l : LastRoutes) → IsMoment w → k ≡ l → may_install w l ≡ true → WereKeptRoutes w.links.cables l → AreKeptRoutes (fabric_of w) k
kept-copy w k l now same may were = subst (AreKeptRoutes (fabric_of w)) (sym same) (routes-now w l now (unchanged-may w l may).0 were)

-- how far the adoption and the installation of the last routes went, where they ended early
abbrev pub IsPartInstalled : WorldState → LastRoutes → ℕ → WorldState → Type 0
IsPartInstalled w l tries v = (v ≡ w) ⊎ IsPartWay (adopted_by w l.mapper l.routes) (installation w l tries).events v

-- such a world goes on from the one before, and so does one that cables were pulled in after the adoption
pub goes-pulled_after : (w v : WorldState) (l : LastRoutes) → OnlyPulled (adopted_by w l.mapper l.routes).links.cables v.links.cables → GoesOn w v
goes-pulled_after w v l pulled =
    let mid : WorldState = adopted_by w l.mapper l.routes in
    goes-on w mid v (goes-adopted w mid l.mapper l.routes refl) (goes_pulled mid v pulled)

pub goes-part : (w v : WorldState) (l : LastRoutes) (tries : ℕ) → IsPartInstalled w l tries v → GoesOn w v
goes-part w v l tries (inl same) = goes-as w v same
goes-part w v l tries (inr way) =
    let mid : WorldState = adopted_by w l.mapper l.routes in
    goes-on w mid v (goes-adopted w mid l.mapper l.routes refl) (goes-way mid v (installation w l tries).events way)

-- an installation that was done went all the way
pub whole-part : (w v : WorldState) (l : LastRoutes) (tries : ℕ) → v ≡ (installation w l tries).world → IsPartInstalled w l tries v
whole-part w v l tries led =
    let mid : WorldState = adopted_by w l.mapper l.routes in
    inr (way-whole mid v (installation w l tries).events (led ∙ (install-row {Q = IsByteEvent} byte_asks (λ dst part. tt) (set_of w l) l.hosts tries mid).there))

-- the command went as far
pub cut-part : (w v : WorldState) (k l : LastRoutes) (tries : ℕ) → k ≡ l → is_idle w.links ≡ true → may_install w l ≡ true → IsPartInstalled w k tries v → IsPartActed w (install w tries (Some l)).acts v
cut-part w v k l tries same idle may (inl still) = part-none w v (install w tries (Some l)).acts still
cut-part w v k l tries same idle may (inr way) =
    subst (λ (x : LastRoutes). IsPartActed w (install w tries (Some x)).acts v) same
    (part-installed w (adopted_by w k.mapper k.routes) v k tries idle (ap (λ (x : LastRoutes). not (may_install w x)) same ∙ ap not may) refl way)

-- routes that were adopted and installed are told
installed : (w v : WorldState) (l : LastRoutes) (tries acked : ℕ) (p : PrintedState) → is_idle w.links ≡ true → may_install w l ≡ true → acked ≡ (installation w l tries).value → v ≡ (installation w l tries).world
    → OnlyPulled (adopted_by w l.mapper l.routes).links.cables v.links.cables → p ≡ printed_of (fabric_of v) (lines (Installed acked (length l.hosts) ∷ map (table_line v) l.hosts)) → IsInstallTold w (Some l) tries v p
installed w v l tries acked p idle may counted led pulled e = record {
  printed = e
      ∙ printed-on w v (lines (Installed acked (length l.hosts) ∷ map (table_line v) l.hosts)) (goes-pulled_after w v l pulled)
      ∙ (λ i. printed_of (fabric_of w) (lines (Installed (counted i) (length l.hosts) ∷ map (table_line (led i)) l.hosts)))
      ∙ sym (ap (λ (d : Deed). printed_of (fabric_of w) d.output) all);
  left = led ∙ sym (acted-installation w l tries) ∙ sym (ap (λ (d : Deed). acted_all w d.acts) all);
}
  where
    all : install w tries (Some l) ≡ install_now w l tries
    all = ap (λ b. choice w l tries b (may_install w l) (refusal_cause w l)) idle ∙ ap (λ b. choice w l tries true b (refusal_cause w l)) may

pub installed-told : (w v : WorldState) (k l : LastRoutes) (tries acked total : ℕ) (hosts : List ℕ) (p : PrintedState) → k ≡ l → is_idle w.links ≡ true → may_install w l ≡ true → acked ≡ (installation w k tries).value → v ≡ (installation w k tries).world
    → OnlyPulled (adopted_by w k.mapper k.routes).links.cables v.links.cables → total ≡ length k.hosts → hosts ≡ k.hosts → p ≡ printed_of (fabric_of v) (lines (Installed acked total ∷ map (table_line v) hosts)) → IsInstallTold w (Some l) tries v p
installed-told w v k l tries acked total hosts p same idle may counted led pulled all one e =
    subst (λ (x : LastRoutes). IsInstallTold w (Some x) tries v p) same
    (installed w v k tries acked p idle (ap (λ (x : LastRoutes). may_install w x) same ∙ may) counted led pulled
    (e ∙ (λ i. printed_of (fabric_of v) (lines (Installed acked (all i) ∷ map (table_line v) (one i))))))

-- an installation leaves all but the world
install-leaves : (s : SessionState) (tries : ℕ) (o : Option LastRoutes) → session_after s (install s.world tries o) ≡ record s { world = acted_all s.world (install s.world tries o).acts }
install-leaves s tries o = by-install (λ (d : Deed). session_after s d ≡ record s { world = acted_all s.world d.acts }) s.world tries o (λ cause. refl) (λ l are may. refl)

-- the command was obeyed
pub installed_so : (w v : WorldState) (made : Option LastMap) (found : Option LastRoutes) (tries : ℕ) (p : PrintedState) → IsInstallTold w found tries v p → IsObeyed (session_of w made found) (Install tries) (session_of v made found) p
installed_so w v made found tries p told =
    let d : Deed = install w tries found in
    record {
      output = d.output;
      does = record { deed = d; is = IsDeed.determined refl; prints = refl; leaves = ap (λ u. session_of u made found) told.left ∙ sym (install-leaves (session_of w made found) tries found) };
      printed = told.printed;
    }
