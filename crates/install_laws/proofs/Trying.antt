-- One try of a part: it is acknowledged, or a planned fault that harms struck in it, or the injections are used up, or a cable of the routes was pulled.
use Rattle.std.proofs.Common.{◌≡◌, ◌≢◌, ◌<◌, ◌≤◌, ℕ, Bool, true, false, ◌&&◌, nat_lt, List, [], ◌∷◌, Some, is_some, ◌⊎◌, inl, inr, refl, sym, ap, ◌∙◌, subst, arith, true≢false}
use Rattle.std.specs.Prelude.{ℤ}
use Rattle.std.specs.List.{list_all}
use Rattle.std.proofs.lemmas.List.{get_or-set_same}
use Rattle.net_defs.specs.Network.{Network, IsFabric}
use Rattle.world_defs.specs.Mapping.{RoutePart}
use Rattle.world_defs.specs.Mapping.MappingBody.{Part as PartBody, PartAck}
use Rattle.world_defs.specs.declared.event.Event.TheVariants.{Part}
use Rattle.world_defs.specs.declared.effect.Effect.TheVariants.{Arrived}
use Rattle.world_defs.specs.declared.heard.Heard.TheVariants.{Routes, RoutesAck}
use Rattle.world_defs.specs.Table.{Adoption, part_for, route_of, is_old}
use Rattle.world_defs.specs.Node.{NodeState, StagedPart, Outgoing, TablePart, PartAnswer, new_node}
use Rattle.world_defs.specs.World.{WorldState, host_count, last_count, node_at, with_node}
use Rattle.world_defs.specs.Step.{stage_at, stage_part, part_staged, step}
use Rattle.world_defs.specs.Asking.{is_harmed}
use Rattle.world_defs.specs.Install.{has_part_come, has_staged_answer}
use Rattle.world_defs.specs.Logs as log
use Rattle.world_defs.proofs.LogViews.{part_sent_if, Tried, Sent, sends, acknowledged, part_sent, part_try}
use Rattle.ask_laws.proofs.Drained.{told}
use Rattle.ask_laws.proofs.Parcels.{hears_in, Delivery, deliver}
use Rattle.ask_laws.proofs.Stood.{over-place}
use Rattle.ask_laws.proofs.Tries.{one-host, small-host}
use Rattle.install_laws.specs.Kept.{IsInstallKept}
use Rattle.install_laws.specs.Cause.{IsCutOff}
use Rattle.install_laws.proofs.Since.{away-broken}
use Rattle.install_laws.proofs.Between.{same-ports, Between, between-node, between-sent, kept-both, kept-node, kept-sent}
use Rattle.install_laws.proofs.Parts.{IsSent}
use Rattle.install_laws.proofs.Collecting.{Has, applied-grows, applied-takes}
use Rattle.install_laws.proofs.Growing.{HasPart, Grows, grows-same, grows-both, grows-node, grows-sent, parts_for}
use Rattle.install_laws.proofs.Heard.{no_part, one_part, one_answer, part-first, answer-first, part-left, answer-left, part-parcel, answer-parcel, ack_of, with_taken, taken-between, part-heard, answer-heard}

-- why a try found nothing
abbrev pub IsMissed : Adoption → ℕ → WorldState → WorldState → Type 0
IsMissed a dst w v = (w.harmed < v.harmed) ⊎ ((last_count ≤ v.injected) ⊎ IsCutOff a.mapper dst v)

-- What a try comes to.
pub record IsPartTry (n : Network) (a : Adoption) (dst part : ℕ) (w : WorldState) (t : Tried Bool) : Type 0 where
  pub between : Between n a t.world
  pub kept : IsInstallKept w t.world
  pub missed : t.found ≡ false → IsMissed a dst w t.world
  pub grows : Grows a w t.world
  pub took : t.found ≡ true → HasPart a dst part t.world

-- the world in which the part is staged
abbrev with_staged : Adoption → WorldState → RoutePart → List ℤ → WorldState
with_staged a w p by = with_node w a.mapper (record (node_at w a.mapper) { staged = Some (StagedPart p by) })

part-staged : (a : Adoption) (w : WorldState) (dst part : ℕ) (p : RoutePart) (by : List ℤ) → w.adopted ≡ Some a → part_for a dst part ≡ Some p → route_of a.routes a.mapper dst ≡ Some by → (step w (Part dst part)).1 ≡ with_staged a w p by
unfolding part_staged
part-staged a w dst part p by adopted is way =
    ap (λ o. (stage_part w dst part o).1) adopted
    ∙ ap (λ o. (stage_at w a.mapper o (route_of a.routes a.mapper dst)).1) is
    ∙ ap (λ o. (stage_at w a.mapper (Some p) o).1) way

-- nothing was heard of the part
silent-so : (n : Network) (a : Adoption) (dst part : ℕ) (w : WorldState) (s : Sent) → told s.effects ≡ [] → Between n a s.world → IsInstallKept w s.world → IsMissed a dst w s.world → Grows a w s.world → IsPartTry n a dst part w (part_sent w a.mapper dst part s)
silent-so n a dst part w s heard b k m g =
    let none : has_staged_answer s.world dst s.effects ≡ false = ap (λ c. c && is_some (node_at s.world dst).part_ack) (no_part dst s.effects heard) in
    let t : Tried Bool = record { found = false; harmed = is_harmed s.used_up w s.world; world = s.world } in
    let is : IsPartTry n a dst part w t = record { between = b; kept = k; missed = λ e. m; grows = g; took = λ e. absurd (true≢false (sym e)) } in
    subst (λ c. IsPartTry n a dst part w (part_sent_if w a.mapper dst part s c)) (sym none) is

-- What is known once the host has taken the part.
record Taken (n : Network) (a : Adoption) (dst : ℕ) (p : RoutePart) (w : WorldState) (v : WorldState) : Type 0 where
  between : Between n a v
  kept : IsInstallKept w v
  ack : (node_at v dst).part_ack ≡ Some (ack_of p)
  grows : Grows a w v
  has : HasPart a dst p.part v

-- the part by its number
has-part : {n : Network} (a : Adoption) (dst part : ℕ) (x : IsSent n a dst part) (v : WorldState) → HasPart a dst x.sent.part v → HasPart a dst part v
has-part a dst part x v h = subst (λ q. HasPart a dst q v) x.number h

answered-so : (n : Network) (a : Adoption) (dst part : ℕ) (w : WorldState) (x : IsSent n a dst part) (s r : Sent) → IsFabric n → Taken n a dst x.sent w s.world → Delivery s.world dst (PartAnswer (ack_of x.sent)) x.sent.back (PartAck x.sent.epoch dst x.sent.part) r → IsPartTry n a dst part w (acknowledged w a.mapper dst part s r)
answered-so n a dst part w x s r f k (Delivery.no_cable none used num heard same) =
    let b : Between n a r.world = subst (Between n a) (sym same) k.between in
    record {
      between = b;
      kept = subst (IsInstallKept w) (sym same) k.kept;
      missed = λ e. inr (inr (inr (away-broken n a r.world dst a.mapper x.sent.back b.since x.home_is x.home none)));
      grows = subst (Grows a w) (sym same) k.grows;
      took = λ e. subst (HasPart a dst part) (sym same) (has-part a dst part x s.world k.has);
    }
answered-so n a dst part w x s r f k (Delivery.none_left most used num heard same) = record {
  between = subst (Between n a) (sym same) k.between;
  kept = subst (IsInstallKept w) (sym same) k.kept;
  missed = λ e. inr (inl (subst (λ v. last_count ≤ v.injected) (sym same) most));
  grows = subst (Grows a w) (sym same) k.grows;
  took = λ e. subst (HasPart a dst part) (sym same) (has-part a dst part x s.world k.has);
}
answered-so n a dst part w x s r f k (Delivery.struck used num heard c more planned) =
    let out : Outgoing = PartAnswer (ack_of x.sent) in
    let l = answer-left a.epoch a.mapper dst (node_at s.world dst) (ack_of x.sent) (k.between.nodes dst) in
    let h = k.kept.harmed in
    record {
      between = between-sent n a s.world dst out r.world k.between l.0 c;
      kept = kept-both w s.world r.world k.kept (kept-sent s.world dst out r.world l.1 c);
      missed = λ e. inl (omega (arith, more, h));
      grows = grows-both a w s.world r.world k.grows (grows-sent a s.world dst out r.world c);
      took = λ e. ((grows-sent a s.world dst out r.world c).each dst).parts part (has-part a dst part x s.world k.has);
    }
answered-so n a dst part w x s r f k (Delivery.astray used num heard c same away) =
    let out : Outgoing = PartAnswer (ack_of x.sent) in
    let l = answer-left a.epoch a.mapper dst (node_at s.world dst) (ack_of x.sent) (k.between.nodes dst) in
    let b = between-sent n a s.world dst out r.world k.between l.0 c in
    record {
      between = b;
      kept = kept-both w s.world r.world k.kept (kept-sent s.world dst out r.world l.1 c);
      missed = λ e. inr (inr (inr (away-broken n a r.world dst a.mapper x.sent.back b.since x.home_is x.home away)));
      grows = grows-both a w s.world r.world k.grows (grows-sent a s.world dst out r.world c);
      took = λ e. ((grows-sent a s.world dst out r.world c).each dst).parts part (has-part a dst part x s.world k.has);
    }
answered-so n a dst part w x s r f k (Delivery.delivered g base left used num at c same world heard) =
    let out : Outgoing = PartAnswer (ack_of x.sent) in
    let l = answer-left a.epoch a.mapper dst (node_at s.world dst) (ack_of x.sent) (k.between.nodes dst) in
    let b = between-sent n a s.world dst out base k.between l.0 c in
    let home : g ≡ a.mapper = one-host g a.mapper (sym (over-place n a.at base.links.cables dst g x.sent.back b.since.over at) ∙ x.home) in
    let kept = kept-both w s.world base k.kept (kept-sent s.world dst out base l.1 c) in
    let hosts = b.hosts in
    let there = x.host in
    let low : dst < host_count base = omega (arith, hosts, there) in
    let heard_so = answer-heard base g x.sent.epoch dst x.sent.part low in
    let is : r.world ≡ with_node base g (node_at base g) = world ∙ ap (λ y. y.1) heard_so in
    let on : Grows a s.world r.world = grows-both a s.world base r.world (grows-sent a s.world dst out base c) (subst (Grows a base) (sym is) (grows-node a base g (node_at base g) ((grows-same a base).each g))) in
    let word : told r.effects ≡ (a.mapper, RoutesAck x.sent.epoch dst part) ∷ [] = heard ∙ ap (λ y. told (y.0 ∷ [])) heard_so ∙ ap (λ h. (h, RoutesAck x.sent.epoch dst x.sent.part) ∷ []) home ∙ ap (λ q. (a.mapper, RoutesAck x.sent.epoch dst q) ∷ []) x.number in
    record {
      between = subst (Between n a) (sym is) (between-node n a base g (node_at base g) b (b.nodes g));
      kept = subst (IsInstallKept w) (sym is) (kept-both w base (with_node base g (node_at base g)) kept (kept-node base g (node_at base g) (same-ports (node_at base g))));
      missed = λ e. absurd (true≢false (sym (one_answer a.mapper dst part x.sent.epoch r.effects word) ∙ e));
      grows = grows-both a w s.world r.world k.grows on;
      took = λ e. (on.each dst).parts part (has-part a dst part x s.world k.has);
    }

-- its host answers
answer-sent : (n : Network) (a : Adoption) (dst part : ℕ) (w : WorldState) (x : IsSent n a dst part) (s : Sent) → IsFabric n → dst ≢ a.mapper → Taken n a dst x.sent w s.world → IsPartTry n a dst part w (acknowledged w a.mapper dst part s (sends s.world dst))
answer-sent n a dst part w x s f other k =
    let b = k.between in
    let here = b.nodes dst in
    let one = x.epoch in
    let fits = x.fits in
    let few = x.few_parts in
    let number = x.number in
    let first = answer-first dst (node_at s.world dst) (ack_of x.sent) (here.unstaged other) here.no_reply k.ack in
    answered-so n a dst part w x s (sends s.world dst) f k
    (deliver s.world dst (PartAnswer (ack_of x.sent)) x.sent.back (PartAck x.sent.epoch dst x.sent.part) b.bare b.flips b.since.over.stood.history refl first
    (λ low. answer-parcel s.world dst (ack_of x.sent) x.home_turns (omega (arith, one, fits)) (small-host n dst f x.host) (omega (arith, few, number))))

sent-so : (n : Network) (a : Adoption) (dst part : ℕ) (w : WorldState) (x : IsSent n a dst part) (u : WorldState) (s : Sent) → IsFabric n → dst ≢ a.mapper → Between n a u → IsInstallKept w u → Grows a w u → Delivery u a.mapper (TablePart x.sent x.way) x.way (PartBody x.sent) s → IsPartTry n a dst part w (part_sent w a.mapper dst part s)
sent-so n a dst part w x u s f other b k grown (Delivery.no_cable none used num heard same) =
    let now : Between n a s.world = subst (Between n a) (sym same) b in
    silent-so n a dst part w s heard now (subst (IsInstallKept w) (sym same) k) (inr (inr (inl (away-broken n a s.world a.mapper dst x.way now.since x.way_is x.there none)))) (subst (Grows a w) (sym same) grown)
sent-so n a dst part w x u s f other b k grown (Delivery.none_left most used num heard same) =
    silent-so n a dst part w s heard (subst (Between n a) (sym same) b) (subst (IsInstallKept w) (sym same) k) (inr (inl (subst (λ v. last_count ≤ v.injected) (sym same) most))) (subst (Grows a w) (sym same) grown)
sent-so n a dst part w x u s f other b k grown (Delivery.struck used num heard c more planned) =
    let out : Outgoing = TablePart x.sent x.way in
    let l = part-left a.epoch a.mapper a.mapper (node_at u a.mapper) x.sent x.way (b.nodes a.mapper) in
    let h = k.harmed in
    silent-so n a dst part w s heard (between-sent n a u a.mapper out s.world b l.0 c) (kept-both w u s.world k (kept-sent u a.mapper out s.world l.1 c)) (inl (omega (arith, more, h))) (grows-both a w u s.world grown (grows-sent a u a.mapper out s.world c))
sent-so n a dst part w x u s f other b k grown (Delivery.astray used num heard c same away) =
    let out : Outgoing = TablePart x.sent x.way in
    let l = part-left a.epoch a.mapper a.mapper (node_at u a.mapper) x.sent x.way (b.nodes a.mapper) in
    let now = between-sent n a u a.mapper out s.world b l.0 c in
    silent-so n a dst part w s heard now (kept-both w u s.world k (kept-sent u a.mapper out s.world l.1 c)) (inr (inr (inl (away-broken n a s.world a.mapper dst x.way now.since x.way_is x.there away)))) (grows-both a w u s.world grown (grows-sent a u a.mapper out s.world c))
sent-so n a dst part w x u s f other b k grown (Delivery.delivered g base left used num at c same world heard) =
    let out : Outgoing = TablePart x.sent x.way in
    let l = part-left a.epoch a.mapper a.mapper (node_at u a.mapper) x.sent x.way (b.nodes a.mapper) in
    let now = between-sent n a u a.mapper out base b l.0 c in
    let arrives : g ≡ dst = one-host g dst (sym (over-place n a.at base.links.cables a.mapper g x.way now.since.over at) ∙ x.there) in
    let kept = kept-both w u base k (kept-sent u a.mapper out base l.1 c) in
    let hosts = now.hosts in
    let adopter = x.adopter in
    let mapper = x.mapper in
    let there = x.host in
    let m : NodeState = with_taken (node_at base dst) x.sent in
    let known : list_all (λ e. nat_lt e.to (host_count base)) x.sent.entries ≡ true = subst (λ count. list_all (λ e. nat_lt e.to count) x.sent.entries ≡ true) (sym hosts) x.known in
    let heard_so : hears_in base g (PartBody x.sent) ≡ (Arrived dst Routes, with_node base dst m) = ap (λ h. hears_in base h (PartBody x.sent)) arrives ∙ part-heard base dst x.sent x.to (omega (arith, hosts, adopter, mapper)) known (ap (is_old (node_at base dst).table) x.epoch ∙ (now.nodes dst).due) in
    let is : s.world ≡ with_node base dst m = world ∙ ap (λ y. y.1) heard_so in
    let come : has_part_come dst s.effects ≡ true = one_part dst s.effects (heard ∙ ap (λ y. told (y.0 ∷ [])) heard_so) in
    let low : dst < host_count base = omega (arith, hosts, there) in
    let ack : (node_at s.world dst).part_ack ≡ Some (ack_of x.sent) = ap (λ v. (node_at v dst).part_ack) is ∙ ap (λ (y : NodeState). y.part_ack) (get_or-set_same base.nodes dst m (new_node 0) low) in
    let staged : has_staged_answer s.world dst s.effects ≡ true = ap (λ c. c && is_some (node_at s.world dst).part_ack) come ∙ ap is_some ack in
    let taken : Taken n a dst x.sent w s.world = record {
      between = subst (Between n a) (sym is) (between-node n a base dst m now (taken-between a.epoch a.mapper dst (node_at base dst) x.sent x.epoch (now.nodes dst)));
      kept = subst (IsInstallKept w) (sym is) (kept-both w base (with_node base dst m) kept (kept-node base dst m (record { lanes = refl; ports = refl })));
      ack = ack;
      grows = subst (Grows a w) (sym is) (grows-both a w base (with_node base dst m) (grows-both a w u base grown (grows-sent a u a.mapper out base c)) (grows-node a base dst m (applied-grows a.epoch (parts_for a dst) (node_at base dst).table x.sent x.epoch x.parts)));
      has = subst (HasPart a dst x.sent.part) (sym is) (subst (λ (y : NodeState). Has a.epoch (parts_for a dst) x.sent.part y.table) (sym (get_or-set_same base.nodes dst m (new_node 0) low)) (applied-takes a.epoch (parts_for a dst) (node_at base dst).table x.sent x.epoch x.parts (now.nodes dst).due));
    } in
    subst (λ c. IsPartTry n a dst part w (part_sent_if w a.mapper dst part s c)) (sym staged) (answer-sent n a dst part w x s f other taken)

pub part-tried : (n : Network) (a : Adoption) (dst part : ℕ) (w : WorldState) → IsFabric n → dst ≢ a.mapper → IsSent n a dst part → Between n a w → IsPartTry n a dst part w (part_try a.mapper dst part w)
unfolding log.part_try
part-tried n a dst part w f other x b =
    let u : WorldState = with_staged a w x.sent x.way in
    let m : NodeState = record (node_at w a.mapper) { staged = Some (StagedPart x.sent x.way) } in
    let here = b.nodes a.mapper in
    let hosts = b.hosts in
    let adopter = x.adopter in
    let now = between-node n a w a.mapper m b (record { unstaged = λ away. absurd (away refl); no_reply = here.no_reply; due = here.due }) in
    let kept = kept-node w a.mapper m (record { lanes = refl; ports = refl }) in
    let staged : (node_at u a.mapper).staged ≡ Some (StagedPart x.sent x.way) = ap (λ (y : NodeState). y.staged) (get_or-set_same w.nodes a.mapper m (new_node 0) (omega (arith, hosts, adopter))) in
    let first = part-first a.mapper (node_at u a.mapper) x.sent x.way staged in
    let is = part-staged a w dst part x.sent x.way b.since.adopted x.is x.way_is in
    subst (λ v. IsPartTry n a dst part w (part_sent w a.mapper dst part (sends v a.mapper))) (sym is)
    (sent-so n a dst part w x u (sends u a.mapper) f other now kept (grows-node a w a.mapper m ((grows-same a w).each a.mapper))
    (deliver u a.mapper (TablePart x.sent x.way) x.way (PartBody x.sent) now.bare now.flips now.since.over.stood.history refl first (λ low. part-parcel u a.mapper x.sent x.way x.turns x.rules)))
