-- What every act keeps: a history of cables, the vertices, the fabric before any change, and a plan of flips of eight bits.
use Rattle.std.proofs.Common.{◌≡◌, ◌≤◌, ◌+◌, ℕ, Bool, true, false, List, Option, Some, None, if◌then◌else◌, refl, sym, ◌∙◌, ap, subst, true≢false, arith}
use Rattle.net_defs.specs.declared.route.Route.{Route}
use Rattle.world_defs.specs.History.{CableHistory, IsHistory, fabric_at, with_accepted}
use Rattle.world_defs.proofs.CablesKept.{accept_keeps}
use Rattle.world_defs.proofs.CablesLater.{later-kept, later-past}
use Rattle.world_defs.specs.Links.{LinkState}
use Rattle.world_defs.specs.Fault.{accept}
use Rattle.world_defs.specs.EightBits.{HasByteFaults}
use Rattle.world_defs.specs.Table.{Adoption, at_in, keeps_in}
use Rattle.world_defs.specs.World.{WorldState, standing_of, keeps_epoch}
use Rattle.world_defs.proofs.Kept.{step-later, step-adopted, step-plan, with-all}
use Rattle.world_defs.specs.Acts.{Act, Happens, Plans, Adopts, acted, IsByteAct, MayAct}
use Rattle.world_defs.proofs.Routes.{kept-set}

-- What acts leave of the cables: a history stays one, of the same vertices, and changes go on from the same first fabric; where the cables were
-- accepted at the adoption, they still are.
pub record CablesKept (w v : WorldState) : Type 0 where
  pub hosts : v.links.cables.hosts ≡ w.links.cables.hosts
  pub switches : v.links.cables.switches ≡ w.links.cables.switches
  pub history : IsHistory w.links.cables → IsHistory v.links.cables
  pub past : (k : ℕ) → k ≤ w.links.cables.changes → fabric_at v.links.cables k ≡ fabric_at w.links.cables k
  pub changes : w.links.cables.changes ≤ v.links.cables.changes
  pub accepted : w.links.cables.accepted ≡ at_in w.adopted → v.links.cables.accepted ≡ at_in v.adopted
  pub began : at_in w.adopted ≤ w.links.cables.changes → at_in v.adopted ≤ v.links.cables.changes

-- what is kept of the cables, over no act and over acts after acts
pub kept-same : (w : WorldState) → CablesKept w w
kept-same w = record { hosts = refl; switches = refl; history = λ is. is; past = λ k low. refl; changes = omega arith; accepted = λ is. is; began = λ low. low }

pub kept-both : (u v w : WorldState) → CablesKept u v → CablesKept v w → CablesKept u w
kept-both u v w a b =
    let i = a.changes in
    let j = b.changes in
    record {
      hosts = b.hosts ∙ a.hosts;
      switches = b.switches ∙ a.switches;
      history = λ is. b.history (a.history is);
      past = λ k low. b.past k (omega (arith, low, i)) ∙ a.past k low;
      changes = omega (arith, i, j);
      accepted = λ is. b.accepted (a.accepted is);
      began = λ low. b.began (a.began low);
    }

-- an adoption that keeps the epoch, and one that begins the next
kept-at : (w : WorldState) (routes : List Route) (o : Option Adoption) → keeps_in (standing_of w) routes o ≡ true → at_in o ≡ w.links.cables.changes
kept-at w routes None e = absurd (true≢false (sym e))
kept-at w routes (Some a) e = sym (kept-set (standing_of w) routes a e).still

adopted-kept : (w : WorldState) (mapper : ℕ) (routes : List Route) (b : Bool) → keeps_epoch w routes ≡ b
    → (w.links.cables.accepted ≡ at_in w.adopted → (if b then w.links else accept w.links).cables.accepted ≡ w.links.cables.changes)
adopted-kept w mapper routes true e same = same ∙ kept-at w routes w.adopted e
adopted-kept w mapper routes false e same = refl

accepted-history : (s : LinkState) (b : Bool) → IsHistory s.cables → IsHistory (if b then s else accept s).cables
accepted-history s true is = is
accepted-history s false is = accept_keeps s.cables is

pub accepted-past : (s : LinkState) (b : Bool) (k : ℕ) → fabric_at (if b then s else accept s).cables k ≡ fabric_at s.cables k
accepted-past s true k = refl
accepted-past s false k = refl

record SameCables (h g : CableHistory) : Type 0 where
  hosts : g.hosts ≡ h.hosts
  switches : g.switches ≡ h.switches
  changes : g.changes ≡ h.changes

accepted-same : (s : LinkState) (b : Bool) → SameCables s.cables (if b then s else accept s).cables
accepted-same s true = record { hosts = refl; switches = refl; changes = refl }
accepted-same s false = record { hosts = refl; switches = refl; changes = refl }

pub acted-kept : (w : WorldState) (a : Act) → CablesKept w (acted w a)
acted-kept w (Happens e) =
    let l = step-later w e in
    let k = later-kept l in
    let more = k.changes in
    let same = step-adopted w e in
    record {
      hosts = k.hosts;
      switches = k.switches;
      history = k.history;
      past = λ j low. later-past j low l;
      changes = more;
      accepted = λ is. k.accepted ∙ is ∙ sym (ap at_in same);
      began = λ low. subst (λ o. at_in o ≤ (acted w (Happens e)).links.cables.changes) (sym same) (omega (arith, low, more));
    }
acted-kept w (Plans ahead fault) = record { hosts = refl; switches = refl; history = λ is. is; past = λ j low. refl; changes = omega arith; accepted = λ is. is; began = λ low. low }
acted-kept w (Adopts mapper routes) =
    let b : Bool = keeps_epoch w routes in
    let s = accepted-same w.links b in
    let same = s.changes in
    record {
      hosts = s.hosts;
      switches = s.switches;
      history = accepted-history w.links b;
      past = λ j low. accepted-past w.links b j;
      changes = omega (arith, same);
      accepted = adopted-kept w mapper routes b refl;
      began = λ low. omega (arith, same);
    }

pub acted-plan : (w : WorldState) (a : Act) → IsByteAct a → HasByteFaults w → HasByteFaults (acted w a)
acted-plan w (Happens e) low all = step-plan w e all
acted-plan w (Plans ahead fault) low all = with-all (w.injected + ahead) fault w.plan low all
acted-plan w (Adopts mapper routes) low all = all

-- an act that may happen has flips of eight bits
pub may-byte : (w : WorldState) (a : Act) → MayAct w a → IsByteAct a
may-byte w (Happens e) may = may
may-byte w (Plans ahead fault) may = may.1
may-byte w (Adopts mapper routes) may = tt
