-- The probe of a try: nothing was heard of it, or it came where its route leads.
use Rattle.std.proofs.Common.{◌≡◌, ◌≢◌, ◌<◌, ◌≤◌, ◌+◌, ◌^◌, ℕ, Bool, true, false, nat_eq, ℤ, List, [], ◌∷◌, Some, None, ◌⊎◌, inl, inr, refl, sym, ap, ◌∙◌, subst, arith}
use Rattle.std.specs.Map.{lookup}
use Rattle.std.proofs.Math.ListN.{length-set}
use Rattle.net_defs.specs.declared.place.Place.TheVariants.{Host as AtHostPlace}
use Rattle.net_defs.specs.Network.{Network}
use Rattle.net_defs.specs.Route.{place}
use Rattle.world_defs.specs.Mapping.{MappingBody}
use Rattle.world_defs.specs.declared.event.Event.TheVariants.{Ask}
use Rattle.world_defs.specs.Node.{NodeState, Probe, new_node}
use Rattle.world_defs.specs.World.{WorldState, host_count, last_count, node_at, with_node}
use Rattle.world_defs.specs.Step.{step}
use Rattle.world_defs.specs.Asking.{is_harmed}
use Rattle.world_defs.proofs.LogViews.{Sent, sends}
use Rattle.world_laws.proofs.Lists.{at-set}
use Rattle.ask_laws.specs.Kept.{SameNode, IsAskKept}
use Rattle.ask_laws.proofs.Drained.{told}
use Rattle.ask_laws.proofs.Stood.{IsOver, over-pulled, over-place, IsMissing, over-missing}
use Rattle.ask_laws.proofs.Parcels.{IsParcel, hears_in, Delivery, deliver}
use Rattle.ask_laws.proofs.Ready.{Ready, IsUnstaged, kept-both, kept-node, kept-sent, ready-staged, kept-staged, counts-staged, staged-sends, unstaged-probe, ready-sent}
use Rattle.ask_laws.proofs.Tries.{Premises, IsQuietTo, next-fits, calm, harm, used-harm}

-- the world in which a probe is staged
abbrev pub staged_in : WorldState → ℕ → List ℤ → Bool → WorldState
staged_in w mapper walk looped = (step w (Ask mapper walk looped)).1

-- Nothing was heard of a probe.
pub record Silent (n : Network) (made mapper : ℕ) (route : List ℤ) (w : WorldState) (s : Sent) : Type 0 where
  pub heard : told s.effects ≡ []
  pub ready : Ready n made mapper s.world
  pub kept : IsAskKept w s.world
  pub missed : (is_harmed s.used_up w s.world ≡ true) ⊎ IsMissing made s.world ((g : ℕ) → place n mapper route ≢ AtHostPlace g)
  pub unharmed : IsQuietTo w s.world → is_harmed s.used_up w s.world ≡ false

-- It came to a host.
pub record Delivered (n : Network) (made mapper : ℕ) (route : List ℤ) (body : MappingBody) (number : ℕ) (w : WorldState) (s : Sent) : Type 0 where
  pub host : ℕ
  pub base : WorldState
  pub fits : number < 2 ^ 64
  pub used : s.used_up ≡ false
  pub number_is : s.number ≡ Some number
  pub at : place n mapper route ≡ AtHostPlace host
  pub ready : Ready n made mapper base
  pub unstaged : (h : ℕ) → IsUnstaged base h
  pub kept : IsAskKept w base
  pub harmed : base.harmed ≡ w.harmed
  pub world : s.world ≡ (hears_in base host body).1
  pub heard : told s.effects ≡ told ((hears_in base host body).0 ∷ [])

-- a fault struck the next injection, so the injections weren't quiet
pub not_quiet : (w u v : WorldState) → IsAskKept w u → v.injected ≡ u.injected + 1 → u.harmed < v.harmed → lookup (nat_eq (u.injected + 1)) u.plan ≢ None → IsQuietTo w v → ⊥
not_quiet w u v k e more planned (IsQuietTo.unplanned none left) =
    let i = k.injected in planned (k.unplanned (u.injected + 1) (none (u.injected + 1) (omega (arith, i)) (omega (arith, e))))
not_quiet w u v k e more planned (IsQuietTo.unharmed same left) = let h = k.harmed in absurd (omega (arith, h, more, same))

-- none were left
pub none-quiet : (w v : WorldState) → last_count ≤ v.injected → IsQuietTo w v → ⊥
none-quiet w v most (IsQuietTo.unplanned none left) = absurd (omega (arith, most, left))
none-quiet w v most (IsQuietTo.unharmed same left) = absurd (omega (arith, most, left))

sent-so : (n : Network) (made mapper : ℕ) (walk : List ℤ) (looped : Bool) (route : List ℤ) (body : MappingBody) (w : WorldState) (s : Sent) → mapper < host_count (staged_in w mapper walk looped) → Ready n made mapper (staged_in w mapper walk looped) → Delivery (staged_in w mapper walk looped) mapper (Probe walk looped) route body s → Silent n made mapper route w s ⊎ Delivered n made mapper route body ((staged_in w mapper walk looped).injected + 1) w s
sent-so n made mapper walk looped route body w s low r (Delivery.no_cable none used number heard same) =
    let u : WorldState = staged_in w mapper walk looped in
    let h : s.world.harmed ≡ w.harmed = ap (λ x. x.harmed) same ∙ (counts-staged w mapper walk looped).1 in
    inl (record {
      heard = heard;
      ready = subst (Ready n made mapper) (sym same) r;
      kept = subst (IsAskKept w) (sym same) (kept-staged w mapper walk looped);
      missed = inr (over-missing n made mapper route s.world (subst (λ x. IsOver n made x.links.cables) (sym same) r.over) none);
      unharmed = λ q. calm s.used_up w s.world used h;
    })
sent-so n made mapper walk looped route body w s low r (Delivery.none_left most used number heard same) =
    let u : WorldState = staged_in w mapper walk looped in
    let full : last_count ≤ s.world.injected = subst (λ x. last_count ≤ x.injected) (sym same) most in
    inl (record {
      heard = heard;
      ready = subst (Ready n made mapper) (sym same) r;
      kept = subst (IsAskKept w) (sym same) (kept-staged w mapper walk looped);
      missed = inl (used-harm s.used_up w s.world used);
      unharmed = λ q. absurd (none-quiet w s.world full q);
    })
sent-so n made mapper walk looped route body w s low r (Delivery.struck used number heard k more planned) =
    let u : WorldState = staged_in w mapper walk looped in
    let first = kept-staged w mapper walk looped in
    let h = (counts-staged w mapper walk looped).1 in
    inl (record {
      heard = heard;
      ready = ready-sent n made mapper u (Probe walk looped) mapper s.world r k (unstaged-probe n made mapper u walk looped s.world r low k);
      kept = kept-both w u s.world first (kept-sent u mapper (Probe walk looped) s.world tt k);
      missed = inl (harm s.used_up w s.world (omega (arith, more, h)));
      unharmed = λ q. absurd (not_quiet w u s.world first k.injected more planned q);
    })
sent-so n made mapper walk looped route body w s low r (Delivery.astray used number heard k same away) =
    let u : WorldState = staged_in w mapper walk looped in
    let h : s.world.harmed ≡ w.harmed = same ∙ (counts-staged w mapper walk looped).1 in
    inl (record {
      heard = heard;
      ready = ready-sent n made mapper u (Probe walk looped) mapper s.world r k (unstaged-probe n made mapper u walk looped s.world r low k);
      kept = kept-both w u s.world (kept-staged w mapper walk looped) (kept-sent u mapper (Probe walk looped) s.world tt k);
      missed = inr (over-missing n made mapper route s.world (over-pulled n made k.pulled r.over) away);
      unharmed = λ q. calm s.used_up w s.world used h;
    })
sent-so n made mapper walk looped route body w s low r (Delivery.delivered g base left used number at k same world heard) =
    let u : WorldState = staged_in w mapper walk looped in
    let none = unstaged-probe n made mapper u walk looped base r low k in
    inr (record {
      host = g;
      base = base;
      fits = next-fits u.injected left;
      used = used;
      number_is = number;
      at = over-place n made base.links.cables mapper g route (over-pulled n made k.pulled r.over) at;
      ready = ready-sent n made mapper u (Probe walk looped) mapper base r k none;
      unstaged = none;
      kept = kept-both w u base (kept-staged w mapper walk looped) (kept-sent u mapper (Probe walk looped) base tt k);
      harmed = same ∙ (counts-staged w mapper walk looped).1;
      world = world;
      heard = heard;
    })

pub probe-sent : (n : Network) (made mapper : ℕ) (walk : List ℤ) (looped : Bool) (route : List ℤ) (body : MappingBody) (w : WorldState) → Premises n mapper walk → Ready n made mapper w
    → ((staged_in w mapper walk looped).injected < last_count → IsParcel (staged_in w mapper walk looped) mapper (Probe walk looped) route body)
    → Silent n made mapper route w (sends (staged_in w mapper walk looped) mapper) ⊎ Delivered n made mapper route body ((staged_in w mapper walk looped).injected + 1) w (sends (staged_in w mapper walk looped) mapper)
probe-sent n made mapper walk looped route body w p r parcel =
    let u : WorldState = staged_in w mapper walk looped in
    let s = ready-staged n made mapper w walk looped r in
    let hosts = r.hosts in
    let later = s.hosts in
    let is_host = p.is_host in
    let low : mapper < host_count w = omega (arith, hosts, is_host) in
    let there : mapper < host_count u = omega (arith, later, is_host) in
    sent-so n made mapper walk looped route body w (sends u mapper) there s (deliver u mapper (Probe walk looped) route body s.bare s.flips s.over.stood.history refl (staged-sends w mapper walk looped low) parcel)

-- A host that heard something, in a world in which nothing was staged.
pub record Heeded (n : Network) (made mapper : ℕ) (w v : WorldState) : Type 0 where
  pub ready : Ready n made mapper v
  pub unstaged : (h : ℕ) → IsUnstaged v h
  pub kept : IsAskKept w v
  pub harmed : v.harmed ≡ w.harmed

pub heeded : (n : Network) (made mapper : ℕ) (w base : WorldState) (g : ℕ) (m : NodeState) → Ready n made mapper base → ((h : ℕ) → IsUnstaged base h) → IsAskKept w base → base.harmed ≡ w.harmed → m.staged ≡ None → SameNode (node_at base g) m → Heeded n made mapper w (with_node base g m)
heeded n made mapper w base g m r none k same e s =
    let each = λ (h : ℕ). at-set (λ (x y : NodeState). x.staged ≡ None → y.staged ≡ None) (λ x f. f) base.nodes g h m (new_node 0) (λ f. e) (none h) in
    record {
      ready = record { over = r.over; bare = r.bare; hosts = length-set base.nodes g m ∙ r.hosts; unstaged = λ h other. each h; flips = r.flips };
      unstaged = each;
      kept = kept-both w base (with_node base g m) k (kept-node base g m s);
      harmed = same;
    }
