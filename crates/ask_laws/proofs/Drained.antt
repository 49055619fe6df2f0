-- A drain of one packet alone: the packet leaves the links, and the world is as if it had gone there at once.
use Rattle.std.proofs.Common.{◌≡◌, ◌≢◌, ◌<◌, ◌+◌, ℕ, Bool, true, false, List, [], ◌∷◌, ◌++◌, map, nat_eq, Some, None, ◌⊎◌, inl, inr, append_assoc, refl, sym, ◌∙◌, ap, subst, true≢false}
use Rattle.std.proofs.lemmas.List.{append-nil}
use Rattle.std.proofs.lemmas.Bool.Decides.{Decides-eqb}
use Rattle.packet_defs.specs.Packet.{stripped}
use Rattle.world_defs.specs.declared.moved.Course.{Course}
use Rattle.world_defs.specs.declared.moved.Course.TheVariants.{Arrives, Enters, Drops}
use Rattle.world_defs.specs.declared.moved.Moved.{Moved}
use Rattle.world_defs.specs.declared.moved.Moved.TheVariants.{AtHost}
use Rattle.world_defs.specs.Crossed.{life_channels}
use Rattle.world_defs.specs.Links.{Held, LinkState, packet_in, is_idle}
use Rattle.world_defs.specs.Advance.{course, advance_of, advance}
use Rattle.world_defs.specs.Hops.{total_hops, is_stuck, changes as moves}
use Rattle.world_defs.proofs.HopsLeft.{still-advance}
use Rattle.world_defs.proofs.Idling.{stuck-still}
use Rattle.world_defs.specs.declared.event.Event.TheVariants.{Advance}
use Rattle.world_defs.specs.declared.effect.Effect.{Effect}
use Rattle.world_defs.specs.declared.effect.Effect.TheVariants.{Idle, Arrived}
use Rattle.world_defs.specs.declared.heard.Heard.{Heard}
use Rattle.world_defs.specs.declared.arrival.Arrival.{Arrival}
use Rattle.world_defs.specs.declared.arrival.Arrival.TheVariants.{Heard as Hears, Dropped as HostDropped, NotMine as ArrivalNotMine}
use Rattle.world_defs.specs.Node.{NodeState}
use Rattle.world_defs.specs.Hearing.{hear}
use Rattle.world_defs.specs.World.{WorldState, host_count, node_at, with_links}
use Rattle.world_defs.specs.Step.{arrived, advanced_by, advanced, step, steps}
use Rattle.world_defs.specs.Drain.{channels_of}
use Rattle.world_defs.proofs.LogViews.{drain}
use Rattle.world_defs.specs.Log.{Log, still}
use Rattle.world_defs.specs.Logs as log
use Rattle.world_defs.specs.Logs.{pass, is_still, drain_pass}
use Rattle.world_laws.proofs.Repeating.{Chains, either, up_to-chain}
use Rattle.world_laws.proofs.Draining.{drain-still}
use Rattle.ask_laws.proofs.Lone.{bare, with_lone, lone-there, lone-other, bare-empty, idle-empty, gone, lone-advance, course-below, Goes}

-- what hosts heard, in order
abbrev pub told : List Effect → List (ℕ × Heard)
told [] = []
told (Arrived h x ∷ xs) = (h, x) ∷ told xs
told (_ ∷ xs) = told xs

pub told-push : (x : Effect) (xs : List Effect) → told (x ∷ xs) ≡ told (x ∷ []) ++ told xs
told-push (Arrived h x) xs = refl
told-push _ xs = refl

told-append : (xs ys : List Effect) → told (xs ++ ys) ≡ told xs ++ told ys
told-append [] ys = refl
told-append (x ∷ xs) ys =
    told-push x (xs ++ ys)
    ∙ ap (λ l. told (x ∷ []) ++ l) (told-append xs ys)
    ∙ sym (append_assoc (told (x ∷ [])) (told xs) (told ys))
    ∙ ap (λ l. l ++ told ys) (sym (told-push x xs))

-- the world once the packet has left the links, and what was heard
abbrev pub landed_in : WorldState → Moved (List ℕ) → Effect × WorldState
landed_in w m = advanced_by w (m, bare w.links)

-- while the packet is on its way, the world is as before but for its channel; then it has landed
pub data Stage (w : WorldState) (m : Moved (List ℕ)) (v : WorldState) (hs : List (ℕ × Heard)) : Type 0 where
  on_its_way : (c : ℕ) (held : Held) → c < life_channels w.links.cables → v ≡ with_links w (with_lone w.links c held) → Goes w.links.cables c held.wire m → hs ≡ [] → Stage w m v hs
  landed : v ≡ (landed_in w m).1 → v.links ≡ bare w.links → hs ≡ told ((landed_in w m).0 ∷ []) → Stage w m v hs

arrived-links : (w : WorldState) (h : ℕ) (o : Arrival × NodeState) → (arrived w h o).1.links ≡ w.links
arrived-links w h (Hears heard, n) = refl
arrived-links w h (HostDropped drop, n) = refl
arrived-links w h (ArrivalNotMine, n) = refl

landed-host : (w : WorldState) (h : ℕ) (wire : List ℕ) → (landed_in w (AtHost h wire)).1.links ≡ bare w.links
landed-host w h wire = arrived-links (with_links w (bare w.links)) h (hear h (host_count w) (node_at w h) wire)

-- an advance of the packet's channel
landed-stage : (w : WorldState) (m : Moved (List ℕ)) (r : Effect × WorldState) → r ≡ landed_in w m → (landed_in w m).1.links ≡ bare w.links → Stage w m r.1 (told (r.0 ∷ []))
landed-stage w m r e links = Stage.landed (ap (λ t. t.1) e) (ap (λ t. t.1.links) e ∙ links) (ap (λ t. told (t.0 ∷ [])) e)

advance-packet : (w v : WorldState) (c : ℕ) (held : Held) (to : Course) → c < life_channels w.links.cables → v ≡ with_links w (with_lone w.links c held) → course w.links.cables c held.wire ≡ to → step v (Advance c) ≡ advanced_by (with_links w (with_lone w.links c held)) (gone w.links held to)
unfolding advanced
advance-packet w v c held to low is e =
    let u : WorldState = with_links w (with_lone w.links c held) in
    ap (λ t. step t (Advance c)) is ∙ ap (advanced_by u) (lone-advance w.links c held low ∙ ap (gone w.links held) e)

at-packet : (w : WorldState) (m : Moved (List ℕ)) (v : WorldState) (c : ℕ) (held : Held) → c < life_channels w.links.cables → v ≡ with_links w (with_lone w.links c held) → Goes w.links.cables c held.wire m → Stage w m (step v (Advance c)).1 (told ((step v (Advance c)).0 ∷ []))
at-packet w m v c held low is (Goes.to_host h e end) =
    landed-stage w m (step v (Advance c)) (advance-packet w v c held (Arrives h) low is e ∙ ap (landed_in w) (sym end)) (ap (λ x. (landed_in w x).1.links) end ∙ landed-host w h held.wire)
at-packet w m v c held low is (Goes.nowhere why e end) =
    landed-stage w m (step v (Advance c)) (advance-packet w v c held (Drops why) low is e ∙ ap (landed_in w) (sym end)) (ap (λ x. (landed_in w x).1.links) end)
at-packet w m v c held low is (Goes.further next e g) =
    let r = advance-packet w v c held (Enters next) low is e in
    Stage.on_its_way next (record held { wire = stripped held.wire }) (course-below w.links.cables c held.wire next e) (ap (λ t. t.1) r) g (ap (λ t. told (t.0 ∷ [])) r)

-- an advance of an empty channel
advance-empty : (v : WorldState) (d : ℕ) → packet_in v.links d ≡ None → step v (Advance d) ≡ (Idle, v)
unfolding advanced
advance-empty v d e = ap (λ o. advanced_by v (advance_of v.links d o)) e

nothing : (w : WorldState) (m : Moved (List ℕ)) (v : WorldState) (hs : List (ℕ × Heard)) (d : ℕ) → packet_in v.links d ≡ None → Stage w m v hs → Stage w m (step v (Advance d)).1 (hs ++ told ((step v (Advance d)).0 ∷ []))
nothing w m v hs d e s =
    let r = advance-empty v d e in
    let world : (step v (Advance d)).1 ≡ v = ap (λ t. t.1) r in
    let more : hs ++ told ((step v (Advance d)).0 ∷ []) ≡ hs = ap (λ t. hs ++ told (t.0 ∷ [])) r ∙ append-nil hs in
    subst (λ x. Stage w m x (hs ++ told ((step v (Advance d)).0 ∷ []))) (sym world) (subst (Stage w m v) (sym more) s)

step-stage : (w : WorldState) (m : Moved (List ℕ)) (v : WorldState) (hs : List (ℕ × Heard)) (d : ℕ) → Stage w m v hs → Stage w m (step v (Advance d)).1 (hs ++ told ((step v (Advance d)).0 ∷ []))
step-stage w m v hs d (Stage.on_its_way c held low is g none) = by (nat_eq d c) refl
  where
    by : (t : Bool) → nat_eq d c ≡ t → Stage w m (step v (Advance d)).1 (hs ++ told ((step v (Advance d)).0 ∷ []))
    by true e =
        let same : d ≡ c = (Decides-eqb d c).0 e in
        let s : Stage w m (step v (Advance d)).1 (told ((step v (Advance d)).0 ∷ [])) = subst (λ x. Stage w m (step v (Advance x)).1 (told ((step v (Advance x)).0 ∷ []))) (sym same) (at-packet w m v c held low is g) in
        subst (λ l. Stage w m (step v (Advance d)).1 (l ++ told ((step v (Advance d)).0 ∷ []))) (sym none) s
    by false e =
        let other : d ≢ c = λ same. true≢false (sym ((Decides-eqb d c).1 same) ∙ e) in
        nothing w m v hs d (ap (λ t. packet_in t.links d) is ∙ lone-other w.links c d held other) (Stage.on_its_way c held low is g none)
step-stage w m v hs d (Stage.landed is links heard) = nothing w m v hs d (ap (λ t. packet_in t d) links ∙ bare-empty w.links d) (Stage.landed is links heard)

steps-stage : (w : WorldState) (m : Moved (List ℕ)) (v : WorldState) (hs : List (ℕ × Heard)) (cs : List ℕ) → Stage w m v hs → Stage w m (steps v (map Advance cs)).1 (hs ++ told (steps v (map Advance cs)).0)
steps-stage w m v hs [] s = subst (Stage w m v) (sym (append-nil hs)) s
steps-stage w m v hs (c ∷ cs) s =
    let x : Effect = (step v (Advance c)).0 in
    let next : WorldState = (step v (Advance c)).1 in
    let rest : List Effect = (steps next (map Advance cs)).0 in
    let all : (hs ++ told (x ∷ [])) ++ told rest ≡ hs ++ told (x ∷ rest) = append_assoc hs (told (x ∷ [])) (told rest) ∙ ap (λ l. hs ++ l) (sym (told-push x rest)) in
    subst (Stage w m (steps next (map Advance cs)).1) all (steps-stage w m next (hs ++ told (x ∷ [])) cs (step-stage w m v hs c s))

abbrev OnStage : WorldState → Moved (List ℕ) → WorldState → Log (List Effect) → Type 0
OnStage w m v l = (hs : List (ℕ × Heard)) → Stage w m v hs → Stage w m l.world (hs ++ told l.value)

stages : (w : WorldState) (m : Moved (List ℕ)) → Chains (λ xs ys. xs ++ ys) [] (OnStage w m)
stages w m = record {
  same = λ v hs s. subst (Stage w m v) (sym (append-nil hs)) s;
  both = λ v l r p q hs s.
      let all : (hs ++ told l.value) ++ told r.value ≡ hs ++ told (l.value ++ r.value) = append_assoc hs (told l.value) (told r.value) ∙ ap (λ t. hs ++ t) (sym (told-append l.value r.value)) in
      subst (Stage w m r.world) all (q (hs ++ told l.value) (p hs s));
}

pass-stage : (w : WorldState) (m : Moved (List ℕ)) (v : WorldState) → OnStage w m v (drain_pass v)
pass-stage w m v = either (OnStage w m) v (still [] v) (pass v) (is_still (pass v).value) ((stages w m).same v) (λ hs s. steps-stage w m v hs (channels_of v) s)

drain-stage : (w : WorldState) (m : Moved (List ℕ)) (v : WorldState) → OnStage w m v (log.drain v)
unfolding log.drain
drain-stage w m v = up_to-chain (λ xs ys. xs ++ ys) [] (OnStage w m) (stages w m) (λ before p. is_still p.value) drain_pass (pass-stage w m) (total_hops v.links + 1) v

-- links with a packet alone are neither idle nor stuck
goes-moves : (s : LinkState) (c : ℕ) (held : Held) (to : Course) → moves (gone s held to).0 ≡ true
goes-moves s c held (Arrives h) = refl
goes-moves s c held (Enters next) = refl
goes-moves s c held (Drops why) = refl

not_still : (s : LinkState) (c : ℕ) (held : Held) → c < life_channels s.cables → (is_idle (with_lone s c held) ≡ true) ⊎ (is_stuck (with_lone s c held) ≡ true) → ⊥
not_still s c held low (inl idle) =
    let none : None ≡ Some held = sym (idle-empty (with_lone s c held).channels idle c) ∙ lone-there s c held low in cc
not_still s c held low (inr stuck) =
    let still : moves (advance (with_lone s c held) c).0 ≡ false = still-advance (with_lone s c held) c ((stuck-still (with_lone s c held) stuck).1 c) in
    let moved : moves (advance (with_lone s c held) c).0 ≡ true = ap (λ r. moves r.0) (lone-advance s c held low) ∙ goes-moves s c held (course s.cables c held.wire) in
    true≢false (sym moved ∙ still)

-- A drain of the packet alone.
pub record Lands (w : WorldState) (m : Moved (List ℕ)) (r : List Effect × WorldState) : Type 0 where
  pub world : r.1 ≡ (landed_in w m).1
  pub links : r.1.links ≡ bare w.links
  pub heard : told r.0 ≡ told ((landed_in w m).0 ∷ [])

ended : (w : WorldState) (m : Moved (List ℕ)) (v : WorldState) (xs : List Effect) → Stage w m v (told xs) → (is_idle v.links ≡ true) ⊎ (is_stuck v.links ≡ true) → Lands w m (xs, v)
ended w m v xs (Stage.landed is links heard) still = record { world = is; links = links; heard = heard }
ended w m v xs (Stage.on_its_way c held low is g none) still =
    absurd (not_still w.links c held low (subst (λ t. (is_idle t.links ≡ true) ⊎ (is_stuck t.links ≡ true)) is still))

pub lone-drain : (w : WorldState) (m : Moved (List ℕ)) (c : ℕ) (held : Held) → c < life_channels w.links.cables → w.links ≡ with_lone w.links c held → Goes w.links.cables c held.wire m → Lands w m (drain w)
lone-drain w m c held low is g =
    let start : Stage w m w [] = Stage.on_its_way c held low (ap (with_links w) is) g refl in
    ended w m (drain w).1 (drain w).0 (drain-stage w m w [] start) (drain-still w)
