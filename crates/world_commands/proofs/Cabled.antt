-- That commands of cables and epochs are done over a world, and what is left of them where memory runs out.
use Rattle.std.proofs.Common.{◌≡◌, ◌<◌, ℕ, Bool, true, false, ◌&&◌, nat_lt, List, [], ◌∷◌, ◌++◌, map, length, Option, Some, None, is_some, is_none, refl, sym, ◌∙◌, ap, subst, ◌⊎◌, inl, inr, if◌then◌else◌}
use Rattle.std.specs.Prelude.{IfSome, OnErr, Result, Err, option_map}
use Rattle.std.specs.List.{AllByRecursion, filter}
use Rattle.std.proofs.lemmas.List.{append_assoc, append-nil}
use Rattle.net_defs.specs.declared.vertex.Vertex.{Vertex}
use Rattle.net_defs.specs.declared.vertex.Vertex.TheVariants.{Host, Switch}
use Rattle.net_defs.specs.declared.vertex.End.{End}
use Rattle.net_defs.specs.declared.route.Route.{Route}
use Rattle.net_defs.specs.Building.{cable_refusal}
use Rattle.net_defs.specs.Refusal.{Refuses}
use Rattle.net_defs.specs.Network.{Network, NamedSwitch, has_vertex, has_port}
use Rattle.world_defs.specs.History.{may_plug, with_plugged, cable_limit}
use Rattle.world_defs.specs.Later.{IsLater}
use Rattle.world_defs.proofs.CablesLater.{later-kept}
use Rattle.world_defs.specs.Links.{LinkState}
use Rattle.world_defs.specs.declared.event.Event.{Event}
use Rattle.world_defs.specs.declared.event.Event.TheVariants.{Pull as PullEvent, Plug as PlugEvent}
use Rattle.world_defs.specs.declared.effect.Effect.{Effect}
use Rattle.world_defs.specs.declared.effect.Effect.TheVariants.{Said}
use Rattle.world_defs.specs.declared.effect.Said.TheVariants.{Done}
use Rattle.world_defs.specs.Table.{Adoption}
use Rattle.world_defs.specs.World.{WorldState, fabric_of, host_count}
use Rattle.world_defs.specs.Step.{of_links, plugged, step, steps}
use Rattle.world_defs.proofs.Kept.{step-later}
use Rattle.world_defs.specs.Traffic.{is_broken, routes_in}
use Rattle.run_defs.specs.declared.command.Command.TheVariants.{Pull, Plug, Revoke, Broken}
use Rattle.run_defs.specs.declared.line.Line.{Line}
use Rattle.run_defs.specs.declared.line.Line.TheVariants.{Pull as PullLine, Plug as PlugLine, Revoked, Broken as BrokenLine, EndBroken, NoBroken}
use Rattle.run_defs.specs.declared.line.PlugWords.{PlugWords}
use Rattle.run_defs.specs.declared.line.PlugWords.TheVariants.{Done as Joined}
use Rattle.run_defs.specs.LineText.{line_text, output_text}
use Rattle.run_defs.specs.Outcome.{Outcome, outcome, seen, is_done, words_of_plug, revocations, broken_routes, broken_lines}
use Rattle.run_defs.specs.Output.{OneLine, lines}
use Rattle.run_defs.specs.Deed.{says}
use Rattle.run_defs.specs.Session.{SessionState, LastMap, LastRoutes}
use Rattle.run_defs.proofs.Doing.{acted-revocations}
use Rattle.run_defs.specs.Summary.{figures_in}
use Rattle.fab_report.specs.Printed.{PrintedState, printed_of}
use Rattle.adopted_routes.specs.Adopting.{IsSetOfHosts}
use Rattle.fab_world.specs.Held.{IsMoment}
use Rattle.fab_remap.specs.declared.cables.PlugRefusal.{PlugRefusal}
use Rattle.fab_remap.specs.declared.cables.PlugRefusal.TheVariants.{PortUsed as UsedRefusal, Full as FullRefusal}
use Rattle.fab_remap.specs.Remap.{effect_of, plug_refusal, hosts_of, broken_pairs}
use Rattle.world_commands.specs.declared.out_of_memory.OutOfMemory.TheVariants.{InDoing, InLine}
use Rattle.world_commands.specs.Broken.{AreHostsOf, pair_text, pairs_text}
use Rattle.world_commands.specs.Cut.{is_refusal_line, IsLeft}
use Rattle.world_commands.specs.Cut.IsLeft.{undone, unprinted}
use Rattle.world_commands.specs.Done.{IsDone, session_of}
use Rattle.world_commands.proofs.Cut.{first-line, begun-other, not-refused}
use Rattle.world_commands.proofs.Done.{one}
use Rattle.world_commands.proofs.Later.{host-stays}
use Rattle.world_commands.proofs.Steps.{port-vertex}

-- after an event cables go on
pub after-later : (w v : WorldState) (e : Event) → v ≡ (step w e).1 → IsLater w.links.cables v.links.cables
after-later w v e is = subst (λ (u : WorldState). IsLater w.links.cables u.links.cables) (sym is) (step-later w e)

pub event-later : (w v : WorldState) (e : Event) (x : Effect) → step w e ≡ (x, v) → IsLater w.links.cables v.links.cables
event-later w v e x is = after-later w v e (ap (λ (p : Effect × WorldState). p.1) (sym is))

pub same-later : (w v : WorldState) → v.links.cables ≡ w.links.cables → IsLater w.links.cables v.links.cables
same-later w v same = subst (IsLater w.links.cables) (sym same) IsLater.still

-- the vertex of a port is there after events
pub end-stays : (w v : WorldState) (e : End) → IsLater w.links.cables v.links.cables → has_port (fabric_of w) e ≡ true → has_vertex (fabric_of v) e.v ≡ true
end-stays w v e l is = of e.v (port-vertex (fabric_of w) e is)
  where
    of : (x : Vertex) → has_vertex (fabric_of w) x ≡ true → has_vertex (fabric_of v) x ≡ true
    of (Host h) is = host-stays w v h l is
    of (Switch s) is = let k = later-kept l in subst (λ (all : List NamedSwitch). nat_lt s (length all) ≡ true) (sym k.switches) is

-- what a pull and a plug come to, by the effect and the world then
abbrev pull_outcome : SessionState → End → Effect × WorldState → Outcome
pull_outcome s at x = record { output = OneLine (PullLine at (is_done x.0)) ∷ []; after = record s { world = x.1 } }

abbrev plug_outcome : SessionState → End → End → Effect × WorldState → Outcome
plug_outcome s a b x = record { output = OneLine (PlugLine a b (words_of_plug s.world a b)) ∷ []; after = record s { world = x.1 } }

-- ---- a pull
pub pulled_so : (w v : WorldState) (at : End) (done : Bool) (told : PrintedState) → step w (PullEvent at) ≡ (effect_of done, v) → told ≡ printed_of (fabric_of w) (OneLine (PullLine at done) ∷ [])
    → IsDone (Pull at) w v told
pulled_so w v at done told is e = one (Pull at) (PullLine at done) w v told (λ made found. ap (λ (x : Effect × WorldState). Some (pull_outcome (session_of w made found) at x)) is ∙ by made found done) e
  where
    by : (made : Option LastMap) (found : Option LastRoutes) (b : Bool)
        → Some (pull_outcome (session_of w made found) at (effect_of b, v)) ≡ Some (record { output = OneLine (PullLine at b) ∷ []; after = session_of v made found })
    by made found true = refl
    by made found false = refl

pub pulled_left : (w v : WorldState) (at : End) (done : Bool) → step w (PullEvent at) ≡ (effect_of done, v) → IsLeft (Pull at) w v InLine
pulled_left w v at done is =
    let told : PrintedState = printed_of (fabric_of w) (OneLine (PullLine at done) ∷ []) in
    unprinted told (pulled_so w v at done told is refl)

-- ---- a plug
plugged-to : (x : Effect × WorldState) (w v : WorldState) (a b : End) (made : Option LastMap) (found : Option LastRoutes) → v ≡ x.1
    → Some (plug_outcome (session_of w made found) a b x) ≡ Some (record { output = OneLine (PlugLine a b (words_of_plug w a b)) ∷ []; after = session_of v made found })
plugged-to (effect, u) w v a b made found same = ap (λ (y : WorldState). Some (record { output = OneLine (PlugLine a b (words_of_plug w a b)) ∷ []; after = session_of y made found })) (sym same)

pub plugged_so : (w v : WorldState) (a b : End) (words : PlugWords) (told : PrintedState) → v ≡ (step w (PlugEvent a b)).1 → words ≡ words_of_plug w a b
    → told ≡ printed_of (fabric_of w) (OneLine (PlugLine a b words) ∷ []) → IsDone (Plug a b) w v told
plugged_so w v a b words told after is e =
    one (Plug a b) (PlugLine a b (words_of_plug w a b)) w v told (λ made found. plugged-to (step w (PlugEvent a b)) w v a b made found after)
    (e ∙ ap (λ c. printed_of (fabric_of w) (OneLine (PlugLine a b c) ∷ [])) is)

pub plugged_left : (w v : WorldState) (a b : End) → v ≡ (step w (PlugEvent a b)).1 → IsLeft (Plug a b) w v InLine
plugged_left w v a b after =
    let told : PrintedState = printed_of (fabric_of w) (OneLine (PlugLine a b (words_of_plug w a b)) ∷ []) in
    unprinted told (plugged_so w v a b (words_of_plug w a b) told after refl refl)

-- one that isn't refused and runs out of memory
pub plug_left : (w v : WorldState) (a b : End) → v ≡ w → words_of_plug w a b ≡ Joined → IsLeft (Plug a b) w v InDoing
plug_left w v a b same free = undone same (λ made found.
    not-refused (session_of w made found) (session_of (step w (PlugEvent a b)).1 made found) (Plug a b) (PlugLine a b Joined)
    (plugged-to (step w (PlugEvent a b)) w (step w (PlugEvent a b)).1 a b made found refl
    ∙ ap (λ c. Some (record { output = OneLine (PlugLine a b c) ∷ []; after = session_of (step w (PlugEvent a b)).1 made found })) free) refl)

-- why two ports aren't joined, and what a plug says, by whether the fabric takes no cable there and a number is left
abbrev why : Bool → Bool → Option PlugRefusal
why used few = if used then Some UsedRefusal else if few then None else Some FullRefusal

-- a refused plug is idle
may-not : {A : Type 0} (o : Option A) (few : Bool) (c : PlugRefusal) → why (is_some o) few ≡ Some c → (is_none o && few) ≡ false
may-not (Some x) few c e = refl
may-not None true c e = cc
may-not None false c e = refl

plug-idle : (w : WorldState) (a b : End) → may_plug w.links.cables a b ≡ false → w ≡ (step w (PlugEvent a b)).1
unfolding plugged
plug-idle w a b none =
    let more : LinkState = record w.links { cables = with_plugged w.links.cables a b; channels = w.links.channels ++ None ∷ None ∷ [] } in
    ap (λ t. (of_links w (Said Done) (if t then (let r : Bool × LinkState = (true, more) in r) else (false, w.links))).1) (sym none)

pub refused-idle : (w v : WorldState) (a b : End) (c : PlugRefusal) → plug_refusal w a b ≡ Some c → v ≡ w → v ≡ (step w (PlugEvent a b)).1
refused-idle w v a b c refused same =
    same ∙ plug-idle w a b (may-not (cable_refusal (fabric_of w) a b) (nat_lt (length w.links.cables.wires) cable_limit) c refused)

-- a refusal that isn't the one of memory
pub is-refusal : (o : Option PlugRefusal) (c : PlugRefusal) → (c ≡ PlugRefusal.NoMemory → ⊥) → (o ≡ Some c) ⊎ ((o ≡ None) × (c ≡ PlugRefusal.NoMemory)) → o ≡ Some c
is-refusal o c other (inl is) = is
is-refusal o c other (inr (none, is)) = absurd (other is)

pub plug-refused : {T : Type 0} (w v : WorldState) (a b : End) (r : Result T PlugRefusal) (e c : PlugRefusal) → r ≡ Err e → e ≡ c → (c ≡ PlugRefusal.NoMemory → ⊥)
    → Refuses (plug_refusal w a b) PlugRefusal.NoMemory r → OnErr r (v ≡ w) → v ≡ (step w (PlugEvent a b)).1
plug-refused {T = T} w v a b r e c is same other refuses unchanged =
    let err : r ≡ Err c = is ∙ ap (λ x. Err x) same in
    refused-idle w v a b c (is-refusal (plug_refusal w a b) c other (subst (λ (x : Result T PlugRefusal). Refuses (plug_refusal w a b) PlugRefusal.NoMemory x) err refuses))
    (subst (λ (x : Result T PlugRefusal). OnErr x (v ≡ w)) err unchanged)

-- ---- the revocations of all hosts
revoked-to : (w v : WorldState) (made : Option LastMap) (found : Option LastRoutes) → v ≡ (steps w (revocations w)).1
    → outcome (session_of w made found) Revoke ≡ Some (record { output = OneLine (Revoked (length (filter is_done (steps w (revocations w)).0))) ∷ []; after = session_of v made found })
revoked-to w v made found same =
    ap (λ (u : WorldState). Some (record { output = OneLine (Revoked (length (filter is_done (steps w (revocations w)).0))) ∷ []; after = session_of u made found })) (acted-revocations w ∙ sym same)

pub revoked_so : (w v : WorldState) (count : ℕ) (told : PrintedState) → v ≡ (steps w (revocations w)).1 → count ≡ length (filter is_done (steps w (revocations w)).0)
    → told ≡ printed_of (fabric_of w) (OneLine (Revoked count) ∷ []) → IsDone Revoke w v told
revoked_so w v count told after is e =
    one Revoke (Revoked (length (filter is_done (steps w (revocations w)).0))) w v told (λ made found. revoked-to w v made found after)
    (e ∙ ap (λ n. printed_of (fabric_of w) (OneLine (Revoked n) ∷ [])) is)

pub revoked_left : (w v : WorldState) → v ≡ (steps w (revocations w)).1 → IsLeft Revoke w v InLine
revoked_left w v after =
    let count : ℕ = length (filter is_done (steps w (revocations w)).0) in
    let told : PrintedState = printed_of (fabric_of w) (OneLine (Revoked count) ∷ []) in
    unprinted told (revoked_so w v count told after refl refl)

-- ---- the broken routes
abbrev broken_line : Route → Line
broken_line r = BrokenLine r.from r.to

-- their text and the line that ends them, and that they have no figures
routes-text : (n : Network) (rs : List Route) → pairs_text n (map hosts_of rs) ++ line_text n EndBroken ≡ output_text n (lines (map broken_line rs ++ EndBroken ∷ []))
routes-text n [] = sym (append-nil (line_text n EndBroken))
routes-text n (r ∷ rs) =
    append_assoc (pair_text n (hosts_of r)) (pairs_text n (map hosts_of rs)) (line_text n EndBroken) ∙ ap (λ t. pair_text n (hosts_of r) ++ t) (routes-text n rs)

routes-none : (rs : List Route) → figures_in (lines (map broken_line rs ++ EndBroken ∷ [])) ≡ []
routes-none [] = refl
routes-none (r ∷ rs) = routes-none rs

pub broken_told : (n : Network) (w : WorldState) (a : Adoption) (told : PrintedState) → w.adopted ≡ Some a → told.text ≡ pairs_text n (broken_pairs w) ++ line_text n EndBroken → told.figures ≡ []
    → told ≡ printed_of n (lines (broken_lines w w.adopted))
broken_told n w a told is text none =
    let rs : List Route = broken_routes w a in
    let same : broken_pairs w ≡ map hosts_of rs = ap (λ o. map hosts_of (filter (λ r. is_broken w r.from r.to) (routes_in o))) is in
    let all : told.text ≡ output_text n (lines (broken_lines w (Some a))) = text ∙ ap (λ p. pairs_text n p ++ line_text n EndBroken) same ∙ routes-text n rs in
    let figures : told.figures ≡ figures_in (lines (broken_lines w (Some a))) = none ∙ sym (routes-none rs) in
    (λ i. record { text = all i; figures = figures i }) ∙ ap (λ o. printed_of n (lines (broken_lines w o))) (sym is)

pub broken_so : (w : WorldState) (told : PrintedState) → told ≡ printed_of (fabric_of w) (lines (broken_lines w w.adopted)) → IsDone Broken w w told
broken_so w told e = record { output = lines (broken_lines w w.adopted); determined = λ made found. refl; printed = e }

pub broken_all : (w : WorldState) (a : Adoption) (told : PrintedState) → w.adopted ≡ Some a → told ≡ record { text = pairs_text (fabric_of w) (broken_pairs w) ++ line_text (fabric_of w) EndBroken; figures = [] } → IsDone Broken w w told
broken_all w a told is e = broken_so w told (broken_told (fabric_of w) w a told is (ap (λ (p : PrintedState). p.text) e) (ap (λ (p : PrintedState). p.figures) e))

pub broken_none : (w : WorldState) (told : PrintedState) → w.adopted ≡ None → told ≡ printed_of (fabric_of w) (OneLine NoBroken ∷ []) → IsDone Broken w w told
broken_none w told none e = broken_so w told (e ∙ ap (λ o. printed_of (fabric_of w) (lines (broken_lines w o))) (sym none))

pub broken_refused_left : (w : WorldState) → IsLeft Broken w w InLine
broken_refused_left w =
    let told : PrintedState = printed_of (fabric_of w) (lines (broken_lines w w.adopted)) in
    unprinted told (broken_so w told refl)

-- routes are adopted, or none
pub some-adopted : (o : Option Adoption) (rs : List Route) → Some rs ≡ option_map (λ a. a.routes) o → (a : Adoption) × (o ≡ Some a)
some-adopted (Some a) rs is = (a, refl)
some-adopted None rs is = cc

pub none-adopted : (o : Option Adoption) → None ≡ option_map (λ a. a.routes) o → o ≡ None
none-adopted None is = refl
none-adopted (Some a) is = cc

-- where routes are adopted it isn't refused
pub broken_left : (w : WorldState) (a : Adoption) → w.adopted ≡ Some a → IsLeft Broken w w InDoing
broken_left w a is = undone refl (λ made found.
    let s : SessionState = session_of w made found in
    begun-other s Broken (seen s (says (broken_lines w (Some a)))) (ap (λ o. Some (seen s (says (broken_lines w o)))) is) (first (broken_routes w a)))
  where
    first : (rs : List Route) → is_refusal_line (first-line (lines (map broken_line rs ++ EndBroken ∷ []))) ≡ false
    first [] = refl
    first (r ∷ rs) = refl

-- the hosts of a set's pairs are hosts
routes-hosts : (n : ℕ) (test : Route → Bool) (rs : List Route) → AllByRecursion (λ r. (r.from < n) × (r.to < n)) rs → AllByRecursion (λ (p : ℕ × ℕ). (p.0 < n) × (p.1 < n)) (map hosts_of (filter test rs))
routes-hosts n test [] all = tt
routes-hosts n test (r ∷ rs) all = by (test r) (routes-hosts n test rs all.1)
  where
    by : (b : Bool) → AllByRecursion (λ (p : ℕ × ℕ). (p.0 < n) × (p.1 < n)) (map hosts_of (filter test rs))
        → AllByRecursion (λ (p : ℕ × ℕ). (p.0 < n) × (p.1 < n)) (map hosts_of (if b then r ∷ filter test rs else filter test rs))
    by true rest = (all.0, rest)
    by false rest = rest

pub pairs-hosts : (w : WorldState) → IsMoment w → AllByRecursion (AreHostsOf w) (broken_pairs w)
pairs-hosts w m = by w.adopted m.adopted
  where
    by : (o : Option Adoption) → IfSome o (IsSetOfHosts (host_count w)) → AllByRecursion (AreHostsOf w) (map hosts_of (filter (λ r. is_broken w r.from r.to) (routes_in o)))
    by None is = tt
    by (Some a) is = routes-hosts (host_count w) (λ r. is_broken w r.from r.to) a.routes is.ends
