-- One try of a host probe: the probe alone, and then the reply of the host that heard it.
use Rattle.std.proofs.Common.{◌≡◌, ◌≢◌, ◌<◌, ◌≤◌, ◌+◌, ◌^◌, ℕ, Bool, true, false, ◌||◌, ℤ, List, [], ◌∷◌, Option, Some, None, is_some, ◌⊎◌, inl, inr, refl, sym, ap, ◌∙◌, subst, arith, true≢false}
use Rattle.std.proofs.lemmas.List.{get_or-set_same}
use Rattle.net_defs.specs.declared.place.Place.TheVariants.{Host as AtHostPlace}
use Rattle.net_defs.specs.Network.{Network}
use Rattle.net_defs.specs.Route.{place}
use Rattle.world_defs.specs.Mapping.MappingBody.{HostProbe, HostReply}
use Rattle.world_defs.specs.declared.effect.Effect.{Effect}
use Rattle.world_defs.specs.declared.effect.Effect.TheVariants.{Arrived}
use Rattle.world_defs.specs.declared.heard.Heard.TheVariants.{Probe as HeardProbe, Reply as HeardReply}
use Rattle.world_defs.specs.Node.{NodeState, StagedReply, Outgoing, Reply, new_node, way_back, to_send}
use Rattle.world_defs.specs.Hearing.{heard_if}
use Rattle.world_defs.specs.World.{WorldState, host_count, last_count, node_at, with_node}
use Rattle.world_defs.specs.Step.{arrived}
use Rattle.world_defs.specs.Asking.{probed_host, is_harmed, reply_in}
use Rattle.world_defs.specs.Logs as log
use Rattle.world_defs.proofs.LogViews.{Tried, Sent, sends, replied, heard_by, host_try}
use Rattle.ask_laws.specs.Kept.{IsAskKept}
use Rattle.ask_laws.proofs.Drained.{told}
use Rattle.ask_laws.proofs.Back.{reply-place}
use Rattle.ask_laws.proofs.Stood.{IsOver, over-pulled, over-place, IsMissing, over-missing}
use Rattle.ask_laws.proofs.Parcels.{hears_in, Delivery, deliver}
use Rattle.ask_laws.proofs.Ready.{Ready, same-node, kept-both, kept-sent, reply-first, ready-sent, unstaged-reply}
use Rattle.ask_laws.proofs.Tries.{no_probe, one_probe, no_reply, one_reply, Premises, IsQuietTo, IsTry, below, place-there, probe-parcel, reply-parcel, calm, harm, used-harm, one-host}
use Rattle.ask_laws.proofs.Probing.{staged_in, Silent, Delivered, not_quiet, none-quiet, probe-sent, Heeded, heeded}

-- what a found host is, and that there is none
abbrev pub HostIs : Network → ℕ → List ℤ → Option ℕ → Type 0
HostIs n mapper walk None = ⊥
HostIs n mapper walk (Some h) = place n mapper walk ≡ AtHostPlace h

abbrev pub NoHost : Network → ℕ → List ℤ → Type 0
NoHost n mapper walk = (h : ℕ) → place n mapper walk ≢ AtHostPlace h

abbrev pub IsHostTry : Network → ℕ → ℕ → List ℤ → WorldState → Tried (Option ℕ) → Type 0
IsHostTry n made mapper walk w t = IsTry n made mapper is_some (HostIs n mapper walk) (NoHost n mapper walk) w t

none-found : (n : Network) (made mapper : ℕ) (walk : List ℤ) (w : WorldState) (t : Tried (Option ℕ)) → t.found ≡ None → Ready n made mapper t.world → IsAskKept w t.world → (t.harmed ≡ true) ⊎ IsMissing made t.world (NoHost n mapper walk) → (IsQuietTo w t.world → t.harmed ≡ false) → IsHostTry n made mapper walk w t
none-found n made mapper walk w t e r k missed unharmed =
    record { ready = r; kept = k; sound = λ s. absurd (true≢false (sym s ∙ ap is_some e)); missed = λ s. missed; unharmed = λ s q. unharmed q }

some-found : (n : Network) (made mapper : ℕ) (walk : List ℤ) (w : WorldState) (t : Tried (Option ℕ)) (h : ℕ) → t.found ≡ Some h → Ready n made mapper t.world → IsAskKept w t.world → place n mapper walk ≡ AtHostPlace h → IsHostTry n made mapper walk w t
some-found n made mapper walk w t h e r k at = record {
  ready = r;
  kept = k;
  sound = λ s. subst (HostIs n mapper walk) (sym e) at;
  missed = λ s. absurd (true≢false (sym (ap is_some e) ∙ s));
  unharmed = λ s q. absurd (true≢false (sym (ap is_some e) ∙ s));
}

-- a probe and a reply are heard
probe-heard : (base : WorldState) (g number mapper : ℕ) (back : List ℤ) → mapper < host_count base → hears_in base g (HostProbe number mapper back) ≡ (Arrived g HeardProbe, with_node base g (record (node_at base g) { reply = Some (record { number = number; back = back }) }))
probe-heard base g number mapper back low =
    let m : NodeState = record (node_at base g) { reply = Some (record { number = number; back = back }) } in
    ap (λ b. arrived base g (heard_if b (node_at base g) (HeardProbe, m))) (below mapper (host_count base) low)

reply-heard : (base : WorldState) (g number from : ℕ) → from < host_count base → hears_in base g (HostReply number from) ≡ (Arrived g (HeardReply number from), with_node base g (node_at base g))
reply-heard base g number from low = ap (λ b. arrived base g (heard_if b (node_at base g) (HeardReply number from, node_at base g))) (below from (host_count base) low)

-- What is known once a host has heard the probe.
record Probed (n : Network) (made mapper : ℕ) (walk : List ℤ) (g number : ℕ) (w : WorldState) (probe : Sent) : Type 0 where
  at : place n mapper walk ≡ AtHostPlace g
  used : probe.used_up ≡ false
  number_is : probe.number ≡ Some number
  fits : number < 2 ^ 64
  heeded : Heeded n made mapper w probe.world

abbrev reply_of : ℕ → List ℤ → Outgoing
reply_of number walk = Reply (record { number = number; back = way_back walk })

used-too : (a b : Bool) (u v : WorldState) → b ≡ true → is_harmed (a || b) u v ≡ true
used-too true b u v e = refl
used-too false b u v e = used-harm b u v e

heard-there : (base : WorldState) (g mapper number from : ℕ) (xs : List Effect) → g ≡ mapper → from < host_count base → told xs ≡ told ((hears_in base g (HostReply number from)).0 ∷ []) → told xs ≡ (mapper, HeardReply number from) ∷ []
heard-there base g mapper number from xs same low e =
    e ∙ ap (λ r. told (r.0 ∷ [])) (reply-heard base g number from low) ∙ ap (λ x. (x, HeardReply number from) ∷ []) same

-- a reply whose way leads home is missing where cables went
went : (n : Network) (made mapper g : ℕ) (walk : List ℤ) (v : WorldState) → place n g (way_back walk) ≡ AtHostPlace mapper → IsMissing made v ((h : ℕ) → place n g (way_back walk) ≢ AtHostPlace h) → made < v.links.cables.changes
went n made mapper g walk v at (inl more) = more
went n made mapper g walk v at (inr away) = absurd (away mapper at)

both-unused : (a b : Bool) → a ≡ false → b ≡ false → (a || b) ≡ false
both-unused a b p q = rw (p, q) refl

replied-so : (n : Network) (made mapper : ℕ) (walk : List ℤ) (g number : ℕ) (w : WorldState) (probe reply : Sent) → Premises n mapper walk → Probed n made mapper walk g number w probe → Delivery probe.world g (reply_of number walk) (way_back walk) (HostReply number g) reply → IsHostTry n made mapper walk w (replied w mapper probe reply)
replied-so n made mapper walk g number w probe reply p b (Delivery.no_cable none used num heard same) =
    let h : reply.world.harmed ≡ w.harmed = ap (λ x. x.harmed) same ∙ b.heeded.harmed in
    none-found n made mapper walk w (replied w mapper probe reply) (no_reply mapper probe.number reply.effects heard)
    (subst (Ready n made mapper) (sym same) b.heeded.ready)
    (subst (IsAskKept w) (sym same) b.heeded.kept)
    (inr (inl (went n made mapper g walk reply.world (reply-place n mapper g walk p.fabric b.at) (over-missing n made g (way_back walk) reply.world (subst (λ x. IsOver n made x.links.cables) (sym same) b.heeded.ready.over) none))))
    (λ q. calm (probe.used_up || reply.used_up) w reply.world (both-unused probe.used_up reply.used_up b.used used) h)
replied-so n made mapper walk g number w probe reply p b (Delivery.none_left most used num heard same) =
    let full : last_count ≤ reply.world.injected = subst (λ x. last_count ≤ x.injected) (sym same) most in
    none-found n made mapper walk w (replied w mapper probe reply) (no_reply mapper probe.number reply.effects heard)
    (subst (Ready n made mapper) (sym same) b.heeded.ready)
    (subst (IsAskKept w) (sym same) b.heeded.kept)
    (inl (used-too probe.used_up reply.used_up w reply.world used))
    (λ q. absurd (none-quiet w reply.world full q))
replied-so n made mapper walk g number w probe reply p b (Delivery.struck used num heard k more planned) =
    let out : Outgoing = reply_of number walk in
    let h = b.heeded.harmed in
    none-found n made mapper walk w (replied w mapper probe reply) (no_reply mapper probe.number reply.effects heard)
    (ready-sent n made mapper probe.world out g reply.world b.heeded.ready k (unstaged-reply probe.world g (record { number = number; back = way_back walk }) reply.world k b.heeded.unstaged))
    (kept-both w probe.world reply.world b.heeded.kept (kept-sent probe.world g out reply.world tt k))
    (inl (harm (probe.used_up || reply.used_up) w reply.world (omega (arith, more, h))))
    (λ q. absurd (not_quiet w probe.world reply.world b.heeded.kept k.injected more planned q))
replied-so n made mapper walk g number w probe reply p b (Delivery.astray used num heard k same away) =
    let out : Outgoing = reply_of number walk in
    let h : reply.world.harmed ≡ w.harmed = same ∙ b.heeded.harmed in
    none-found n made mapper walk w (replied w mapper probe reply) (no_reply mapper probe.number reply.effects heard)
    (ready-sent n made mapper probe.world out g reply.world b.heeded.ready k (unstaged-reply probe.world g (record { number = number; back = way_back walk }) reply.world k b.heeded.unstaged))
    (kept-both w probe.world reply.world b.heeded.kept (kept-sent probe.world g out reply.world tt k))
    (inr (inl (went n made mapper g walk reply.world (reply-place n mapper g walk p.fabric b.at) (over-missing n made g (way_back walk) reply.world (over-pulled n made k.pulled b.heeded.ready.over) away))))
    (λ q. calm (probe.used_up || reply.used_up) w reply.world (both-unused probe.used_up reply.used_up b.used used) h)
replied-so n made mapper walk g number w probe reply p b (Delivery.delivered to base left used num at k same world heard) =
    let out : Outgoing = reply_of number walk in
    let there_to = over-place n made base.links.cables g to (way_back walk) (over-pulled n made k.pulled b.heeded.ready.over) at in
    let home : to ≡ mapper = one-host to mapper (sym there_to ∙ reply-place n mapper g walk p.fabric b.at) in
    let none = unstaged-reply probe.world g (record { number = number; back = way_back walk }) base k b.heeded.unstaged in
    let ready = ready-sent n made mapper probe.world out g base b.heeded.ready k none in
    let hosts = ready.hosts in
    let there = place-there n mapper g walk p.fabric b.at in
    let low : g < host_count base = omega (arith, hosts, there) in
    let after = heeded n made mapper w base to (node_at base to) ready none (kept-both w probe.world base b.heeded.kept (kept-sent probe.world g out base tt k)) (same ∙ b.heeded.harmed) (none to) (same-node (node_at base to)) in
    let is : reply.world ≡ with_node base to (node_at base to) = world ∙ ap (λ r. r.1) (reply-heard base to number g low) in
    let found : reply_in mapper probe.number reply.effects ≡ Some g = ap (λ o. reply_in mapper o reply.effects) b.number_is ∙ one_reply mapper number g reply.effects (heard-there base to mapper number g reply.effects home low heard) in
    some-found n made mapper walk w (replied w mapper probe reply) g found (subst (Ready n made mapper) (sym is) after.ready) (subst (IsAskKept w) (sym is) after.kept) b.at

reply-sent : (n : Network) (made mapper : ℕ) (walk : List ℤ) (g number : ℕ) (w : WorldState) (probe : Sent) → Premises n mapper walk → Probed n made mapper walk g number w probe → to_send g (node_at probe.world g) ≡ Some (reply_of number walk) → IsHostTry n made mapper walk w (replied w mapper probe (sends probe.world g))
reply-sent n made mapper walk g number w probe p b first =
    let r = b.heeded.ready in
    let there = place-there n mapper g walk p.fabric b.at in
    replied-so n made mapper walk g number w probe (sends probe.world g) p b
    (deliver probe.world g (reply_of number walk) (way_back walk) (HostReply number g) r.bare r.flips r.over.stood.history refl first (λ low. reply-parcel n mapper g walk probe.world number p b.fits there))

-- the probe was heard by a host
heard-so : (n : Network) (made mapper : ℕ) (walk : List ℤ) (number : ℕ) (w : WorldState) (probe : Sent) → Premises n mapper walk → number < 2 ^ 64 → Delivered n made mapper walk (HostProbe number mapper (way_back walk)) number w probe → IsHostTry n made mapper walk w (heard_by w mapper probe (probed_host probe.effects))
heard-so n made mapper walk number w probe p fits d =
    let g : ℕ = d.host in
    let base : WorldState = d.base in
    let r : StagedReply = record { number = number; back = way_back walk } in
    let m : NodeState = record (node_at base g) { reply = Some r } in
    let hosts = d.ready.hosts in
    let is_host = p.is_host in
    let there = place-there n mapper g walk p.fabric d.at in
    let low : g < host_count base = omega (arith, hosts, there) in
    let own : mapper < host_count base = omega (arith, hosts, is_host) in
    let heard : hears_in base g (HostProbe number mapper (way_back walk)) ≡ (Arrived g HeardProbe, with_node base g m) = probe-heard base g number mapper (way_back walk) own in
    let is : probe.world ≡ with_node base g m = d.world ∙ ap (λ x. x.1) heard in
    let found : probed_host probe.effects ≡ Some g = one_probe probe.effects g (d.heard ∙ ap (λ x. told (x.0 ∷ [])) heard) in
    let after = heeded n made mapper w base g m d.ready d.unstaged d.kept d.harmed (d.unstaged g) (record { table = refl; lanes = refl; ports = refl }) in
    let now : Heeded n made mapper w probe.world = subst (Heeded n made mapper w) (sym is) after in
    let replies : (node_at probe.world g).reply ≡ Some r = ap (λ v. (node_at v g).reply) is ∙ ap (λ (x : NodeState). x.reply) (get_or-set_same base.nodes g m (new_node 0) low) in
    let first = reply-first g (node_at probe.world g) r (now.unstaged g) replies in
    let b : Probed n made mapper walk g number w probe = record { at = d.at; used = d.used; number_is = d.number_is; fits = fits; heeded = now } in
    subst (λ o. IsHostTry n made mapper walk w (heard_by w mapper probe o)) (sym found) (reply-sent n made mapper walk g number w probe p b first)

silent-so : (n : Network) (made mapper : ℕ) (walk : List ℤ) (w : WorldState) (probe : Sent) → Silent n made mapper walk w probe → IsHostTry n made mapper walk w (heard_by w mapper probe (probed_host probe.effects))
silent-so n made mapper walk w probe s =
    let t : Tried (Option ℕ) = heard_by w mapper probe None in
    subst (λ o. IsHostTry n made mapper walk w (heard_by w mapper probe o)) (sym (no_probe probe.effects s.heard)) (none-found n made mapper walk w t refl s.ready s.kept s.missed s.unharmed)

pub host-try : (n : Network) (made mapper : ℕ) (walk : List ℤ) (w : WorldState) → Premises n mapper walk → Ready n made mapper w → IsHostTry n made mapper walk w (host_try mapper walk w)
unfolding log.host_try
host-try n made mapper walk w p r = by (probe-sent n made mapper walk false walk (HostProbe (u.injected + 1) mapper (way_back walk)) w p r (probe-parcel n mapper walk u p))
  where
    u : WorldState
    u = staged_in w mapper walk false

    probe : Sent
    probe = sends u mapper

    by : Silent n made mapper walk w probe ⊎ Delivered n made mapper walk (HostProbe (u.injected + 1) mapper (way_back walk)) (u.injected + 1) w probe → IsHostTry n made mapper walk w (heard_by w mapper probe (probed_host probe.effects))
    by (inl s) = silent-so n made mapper walk w probe s
    by (inr d) = heard-so n made mapper walk (u.injected + 1) w probe p d.fits d
