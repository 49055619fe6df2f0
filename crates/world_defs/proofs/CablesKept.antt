-- A pull, a plug and an acceptance keep a history.
use Rattle.std.proofs.Common.{◌≡◌, ◌<◌, ◌≤◌, ◌+◌, ◌/◌, ℕ, zero, suc, Bool, true, false, nat_lt, nat_le, List, [], ◌∷◌, ◌++◌, length, Option, Some, None, is_none, refl, sym, ap, ◌∙◌, subst, true≢false, arith, if◌then◌else◌, length-append}
use Rattle.std.specs.List.{slice_get, slice_set, filter, AllByRecursion}
use Rattle.std.specs.Option.{option_map_or}
use Rattle.std.specs.Prelude.{IfSome}
use Rattle.std.proofs.lemmas.Bool.Decides.{nat_tests}
use Rattle.net_defs.specs.declared.vertex.Vertex.{Vertex}
use Rattle.net_defs.specs.declared.vertex.Vertex.TheVariants.{Host, Switch}
use Rattle.net_defs.specs.declared.vertex.End.{End}
use Rattle.net_defs.specs.declared.fault.GraphFault.{GraphFault}
use Rattle.net_defs.specs.Network.{IsFabric, ports_of, has_port, ends_of}
use Rattle.net_defs.specs.Building.{cable_refusal}
use Rattle.net_defs.proofs.Distinct.{all-weaker, all-push}
use Rattle.net_defs.proofs.Ends.{both}
use Rattle.net_defs.proofs.Growing.{has_port-more, fabric-with_cable}
use Rattle.world_defs.specs.declared.wire.Wire.{Wire}
use Rattle.world_defs.specs.History.{CableHistory, IsHistory, IsDated, fabric_by, fabric_now, fabric_at, stood_at, is_in_place, is_new_wire, pulled_by, with_plugged, with_accepted, dates_of, dates_in}
use Rattle.world_defs.specs.Crossed.{leaving, pulled_with}
use Rattle.world_defs.specs.Fewer.{AreFewer}
use Rattle.world_defs.specs.CableLaws.{PullKeepsHistory, PullAtKeepsHistory, PlugKeepsHistory, AcceptKeepsHistory, AcceptedIsOld}
use Rattle.world_defs.proofs.Fewer.{kept, kept_if, ends-fewer, apart-fewer}
use Rattle.world_defs.proofs.Pulled.{set-fewer, pull_keeps_past, plug_keeps_past}
use Rattle.world_defs.proofs.Now.{kept-now, now_is_fabric}
use Rattle.world_defs.proofs.ForLife.{leaving_has_its_end}

-- what holds of each cable holds of the one of a number, and of each where one that it holds of takes its place
pub all-got : (P : Wire → Type 0) (ws : List Wire) (k : ℕ) (w : Wire) → AllByRecursion P ws → slice_get ws k ≡ Some w → P w
all-got P [] k w all is = cc
all-got P (v ∷ ws) zero w all is = let same : v ≡ w = cc in subst P same all.0
all-got P (v ∷ ws) (suc k) w all is = all-got P ws k w all.1 is

pub all-set : (P : Wire → Type 0) (ws : List Wire) (k : ℕ) (w : Wire) → AllByRecursion P ws → P w → AllByRecursion P (slice_set ws k w)
all-set P [] k w all here = tt
all-set P (v ∷ ws) zero w all here = (here, all.1)
all-set P (v ∷ ws) (suc k) w all here = (all.0, all-set P ws k w all.1 here)

pub length-set-wire : (ws : List Wire) (k : ℕ) (w : Wire) → length (slice_set ws k w) ≡ length ws
length-set-wire [] k w = refl
length-set-wire (v ∷ ws) zero w = refl
length-set-wire (v ∷ ws) (suc k) w = ap suc (length-set-wire ws k w)

-- dates stay good when changes go on
later-dates : (changes : ℕ) (w : Wire) → IsDated changes w → IsDated (changes + 1) w
later-dates changes w d = record { plugged = let p = d.plugged in omega (arith, p); pulled = by w.pulled d.pulled }
  where
    by : (o : Option ℕ) → IfSome o (λ change. (w.plugged < change) × (change ≤ changes)) → IfSome o (λ change. (w.plugged < change) × (change ≤ changes + 1))
    by None dates = tt
    by (Some change) dates = (dates.0, let c = dates.1 in omega (arith, c))

-- a cable's count of changes
dates-set : (ws : List Wire) (k : ℕ) (v w : Wire) → slice_get ws k ≡ Some w → dates_of v ≡ dates_of w + 1 → dates_in (slice_set ws k v) ≡ dates_in ws + 1
dates-set [] k v w is more = cc
dates-set (u ∷ ws) zero v w is more =
    let same : dates_of u ≡ dates_of w = let e : u ≡ w = cc in ap dates_of e in
    omega (arith, same, more)
dates-set (u ∷ ws) (suc k) v w is more = let rest = dates-set ws k v w is more in omega (arith, rest)

dates-push : (ws : List Wire) (v : Wire) → dates_in (ws ++ v ∷ []) ≡ dates_in ws + dates_of v
dates-push [] v = omega arith
dates-push (w ∷ ws) v = let rest = dates-push ws v in omega (arith, rest)

dates-pulled : (w : Wire) (change : ℕ) → w.pulled ≡ None → dates_of (record w { pulled = Some change }) ≡ dates_of w + 1
dates-pulled w change none = let there : is_in_place w ≡ true = ap is_none none in rw there (by (nat_lt 0 w.plugged))
  where
    by : (b : Bool) → (if b then 1 else 0) + 1 ≡ (if b then 1 else 0) + 0 + 1
    by true = refl
    by false = refl

-- fewer cables are a fabric
ports-same : (h : CableHistory) (vs : List Wire) (changes : ℕ) (small big : Wire → Bool) (v : Vertex) → ports_of (fabric_by h big) v ≤ ports_of (fabric_by (record h { wires = vs; changes = changes }) small) v
ports-same h vs changes small big (Host a) = omega arith
ports-same h vs changes small big (Switch s) = omega arith

pub fewer-fabric : (h : CableHistory) (vs : List Wire) (changes : ℕ) (small big : Wire → Bool) → AreFewer small big vs h.wires → IsFabric (fabric_by h big) → IsFabric (fabric_by (record h { wires = vs; changes = changes }) small)
fewer-fabric h vs changes small big are f =
    let g : CableHistory = record h { wires = vs; changes = changes } in
    let P : End → Type 0 = λ e. has_port (fabric_by h big) e ≡ true in
    let Q : End → Type 0 = λ e. has_port (fabric_by g small) e ≡ true in
    let cabled : AllByRecursion P (ends_of (kept small vs)) = ends-fewer small big P are f.cabled_ports in
    record {
      few_hosts = f.few_hosts;
      few_switches = f.few_switches;
      names_apart = f.names_apart;
      port_counts = f.port_counts;
      cabled_ports = all-weaker P Q (ends_of (kept small vs)) (λ e. has_port-more (fabric_by h big) (fabric_by g small) e (ports-same h vs changes small big e.v)) cabled;
      ports_once = apart-fewer small big are f.ports_once;
    }

-- a fabric at each time, where it is one at each time so far and as it stands after one more change
module _ (h g : CableHistory) (is : IsHistory h) (dated : AllByRecursion (IsDated (h.changes + 1)) g.wires) (past : (j : ℕ) → j ≤ h.changes → fabric_at g j ≡ fabric_at h j) (now : IsFabric (fabric_now g)) where
  fabrics-more : (j : ℕ) → IsFabric (fabric_at g j)
  fabrics-more j = by (nat_le j h.changes) refl
    where
      by : (b : Bool) → nat_le j h.changes ≡ b → IsFabric (fabric_at g j)
      by true t = let low : j ≤ h.changes = grind (arith, nat_tests) in subst IsFabric (sym (past j low)) (is.fabrics j)
      by false f =
          let high : h.changes + 1 ≤ j = grind (arith, nat_tests) in
          let same : kept (stood_at j) g.wires ≡ kept is_in_place g.wires = kept-now (h.changes + 1) j g.wires high dated in
          subst IsFabric (λ i. record { hosts = g.hosts; switches = g.switches; cables = sym same i }) now

pull-by : (h : CableHistory) (k : ℕ) (w : Wire) → IsHistory h → slice_get h.wires k ≡ Some w → w.pulled ≡ None → IsHistory (pulled_by h k (Some w))
pull-by h k w is there none =
    let g : CableHistory = pulled_by h k (Some w) in
    let v : Wire = record w { pulled = Some (h.changes + 1) } in
    let d : IsDated h.changes w = all-got (IsDated h.changes) h.wires k w is.dated there in
    let plugged : w.plugged ≤ h.changes = d.plugged in
    let later : IsDated (h.changes + 1) v = record { plugged = omega (arith, plugged); pulled = (omega (arith, plugged), omega arith) } in
    let dated : AllByRecursion (IsDated (h.changes + 1)) g.wires = all-set (IsDated (h.changes + 1)) h.wires k v (all-weaker (IsDated h.changes) (IsDated (h.changes + 1)) h.wires (later-dates h.changes) is.dated) later in
    let past : (j : ℕ) → j ≤ h.changes → fabric_at g j ≡ fabric_at h j = λ j low. sym (ap (λ o. fabric_at (pulled_by h k o) j) there) ∙ pull_keeps_past h k j w low there none in
    let now : IsFabric (fabric_now g) = fewer-fabric h g.wires g.changes is_in_place is_in_place (set-fewer is_in_place is_in_place (λ v s. s) (h.changes + 1) (λ v. refl) h.wires k w there) (now_is_fabric h is) in
    record {
      few = let same = length-set-wire h.wires k v in let f = is.few in omega (arith, same, f);
      dated = dated;
      accepted = let a = is.accepted in omega (arith, a);
      counted = let more = dates-set h.wires k v w there (dates-pulled w (h.changes + 1) none) in let c = is.counted in omega (arith, more, c);
      fabrics = fabrics-more h g is dated past now;
    }

pub pull_keeps : PullKeepsHistory
pull_keeps h k w is there none = subst (λ o. IsHistory (pulled_by h k o)) (sym there) (pull-by h k w is there none)

none-is : (o : Option ℕ) → is_none o ≡ true → o ≡ None
none-is None t = refl
none-is (Some x) t = absurd (true≢false (sym t))

-- the cable of a channel in place
pub standing-wire : (ws : List Wire) (i : ℕ) → option_map_or is_in_place (slice_get ws i) false ≡ true → (w : Wire) × (slice_get ws i ≡ Some w) × (w.pulled ≡ None)
standing-wire ws i stands = by (slice_get ws i) refl stands
  where
    by : (o : Option Wire) → slice_get ws i ≡ o → option_map_or is_in_place o false ≡ true → (w : Wire) × (slice_get ws i ≡ Some w) × (w.pulled ≡ None)
    by None is t = absurd (true≢false (sym t))
    by (Some w) is t = (w, is, none-is w.pulled t)

pub pull_at_keeps : PullAtKeepsHistory
pull_at_keeps h e is = by (leaving h e) refl
  where
    by : (o : Option ℕ) → leaving h e ≡ o → IsHistory (pulled_with h o)
    by None n = is
    by (Some c) n = let l = leaving_has_its_end h e c n in let w = standing-wire h.wires (c / 2) l.in_place in pull_keeps h (c / 2) w.0 is w.1 w.2

no-refusal : (o : Option GraphFault) → is_none o ≡ true → o ≡ None
no-refusal None t = refl
no-refusal (Some x) t = absurd (true≢false (sym t))

kept-more : (test : Wire → Bool) (ws : List Wire) (v : Wire) → test v ≡ true → kept test (ws ++ v ∷ []) ≡ kept test ws ++ v.cable ∷ []
kept-more test [] v on = rw on refl
kept-more test (w ∷ ws) v on = by (test w) (kept-more test ws v on)
  where
    by : (b : Bool) → kept test (ws ++ v ∷ []) ≡ kept test ws ++ v.cable ∷ [] → kept_if b w (filter test (ws ++ v ∷ [])) ≡ kept_if b w (filter test ws) ++ v.cable ∷ []
    by true rest = ap (λ l. w.cable ∷ l) rest
    by false rest = rest

pub plug_keeps : PlugKeepsHistory
plug_keeps h a b is may =
    let g : CableHistory = with_plugged h a b in
    let parts = both (is_none (cable_refusal (fabric_now h) a b)) _ may in
    let free : cable_refusal (fabric_now h) a b ≡ None = no-refusal (cable_refusal (fabric_now h) a b) parts.0 in
    let room : length h.wires < 4096 = let t = parts.1 in grind (arith, nat_tests) in
    let v : Wire = record { cable = record { a = a; b = b }; plugged = h.changes + 1; pulled = None } in
    let later : IsDated (h.changes + 1) v = record { plugged = omega arith; pulled = tt } in
    let dated : AllByRecursion (IsDated (h.changes + 1)) g.wires = all-push (IsDated (h.changes + 1)) h.wires v (all-weaker (IsDated h.changes) (IsDated (h.changes + 1)) h.wires (later-dates h.changes) is.dated) later in
    let more : kept is_in_place g.wires ≡ kept is_in_place h.wires ++ v.cable ∷ [] = kept-more is_in_place h.wires v refl in
    let now : IsFabric (fabric_now g) = subst IsFabric (λ i. record { hosts = h.hosts; switches = h.switches; cables = sym more i }) (fabric-with_cable (fabric_now h) a b (now_is_fabric h is) free) in
    let one : dates_of v ≡ 1 = let t : nat_lt 0 (h.changes + 1) ≡ true = grind (arith, nat_tests) in rw t refl in
    record {
      few = let len = length-append h.wires (v ∷ []) in omega (arith, len, room);
      dated = dated;
      accepted = let low = is.accepted in omega (arith, low);
      counted = let all = dates-push h.wires v in let c = is.counted in omega (arith, all, c, one);
      fabrics = fabrics-more h g is dated (λ j low. plug_keeps_past h j a b low) now;
    }

pub accept_keeps : AcceptKeepsHistory
accept_keeps h is = record { few = is.few; dated = is.dated; accepted = omega arith; counted = is.counted; fabrics = is.fabrics }

pub accepted_is_old : AcceptedIsOld
accepted_is_old h c is = by (slice_get h.wires (c / 2)) refl
  where
    by : (o : Option Wire) → slice_get h.wires (c / 2) ≡ o → option_map_or (is_new_wire (with_accepted h)) o false ≡ false
    by None n = refl
    by (Some w) n = let d = all-got (IsDated h.changes) h.wires (c / 2) w is.dated n in let p = d.plugged in grind (arith, nat_tests)
