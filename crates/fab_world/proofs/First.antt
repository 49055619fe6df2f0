-- What a host sends first is no message exactly where something is staged.
use Rattle.std.proofs.Common.{◌≡◌, ℕ, Bool, true, false, true≢false, ◌||◌, ◌&&◌, not, List, [], ◌∷◌, Option, Some, None, is_some, refl, sym, ap, ◌∙◌, if◌then◌else◌}
use Rattle.std.specs.Prelude.{option_map, option_and_then}
use Rattle.world_defs.specs.Crossed.{is_new}
use Rattle.gm_defs.specs.declared.frame.FrameHead.{FrameHead}
use Rattle.world_defs.specs.Node.{NodeState, Staged, StagedProbe, StagedPart, StagedReply, StagedAck, Outgoing, Probe, TablePart, Reply, PartAnswer, FrameAnswer, Fragment, outgoing_staged, is_message, either, first_some, lanes_of, lane_at, lane_route, owed_on, due_frame, due_on, has_staged, to_send}
use Rattle.world_defs.specs.World.{WorldState, node_at, keeps_out, may_send}
use Rattle.world_defs.specs.Step.{inject_one}
use Rattle.world_defs.specs.declared.effect.Effect.TheVariants.{Idle}
use Rattle.faulty_links.proofs.Parts.{injection_is_kept_out}

-- the first of the staged things, else the rest
abbrev first_of : Option Staged → Option StagedReply → Option StagedAck → Option Outgoing → Option Outgoing
first_of s r a rest = either (option_map outgoing_staged s) (either (option_map Reply r) (either (option_map PartAnswer a) rest))

some-out : (x y : Outgoing) → Some x ≡ Some y → x ≡ y
some-out x y e = cc

of-staged : (s : Option Staged) (r : Option StagedReply) (a : Option StagedAck) (rest : Option Outgoing) (out : Outgoing) → (is_some s || is_some r || is_some a) ≡ true → first_of s r a rest ≡ Some out → is_message out ≡ false
of-staged (Some (StagedProbe walk looped)) r a rest out some e = ap is_message (sym (some-out (Probe walk looped) out e))
of-staged (Some (StagedPart part by)) r a rest out some e = ap is_message (sym (some-out (TablePart part by) out e))
of-staged None (Some r) a rest out some e = ap is_message (sym (some-out (Reply r) out e))
of-staged None None (Some a) rest out some e = ap is_message (sym (some-out (PartAnswer a) out e))
of-staged None None None rest out some e = absurd (true≢false (sym some))

of-unstaged : (s : Option Staged) (r : Option StagedReply) (a : Option StagedAck) (rest : Option Outgoing) → (is_some s || is_some r || is_some a) ≡ false → first_of s r a rest ≡ rest
of-unstaged None None None rest none = refl
of-unstaged None None (Some a) rest none = absurd (true≢false none)
of-unstaged None (Some r) a rest none = absurd (true≢false none)
of-unstaged (Some s) r a rest none = absurd (true≢false none)

-- messages alone
abbrev IsMessageIn : Option Outgoing → Type 0
IsMessageIn None = Unit {0}
IsMessageIn (Some out) = is_message out ≡ true

mapped : {X : Type 0} (f : X → Outgoing) → ((x : X) → is_message (f x) ≡ true) → (o : Option X) → IsMessageIn (option_map f o)
mapped f each None = tt
mapped f each (Some x) = each x

owed-message : (n : NodeState) (lane : ℕ) → IsMessageIn (owed_on n lane)
owed-message n lane = by (lane_at n lane).owes
  where
    by : (b : Bool) → IsMessageIn (if b then option_map (λ by. FrameAnswer lane (lane_at n lane).taken by) (lane_route n lane) else None)
    by true = mapped (λ by. FrameAnswer lane (lane_at n lane).taken by) (λ by. refl) (lane_route n lane)
    by false = tt

due-message : (h : ℕ) (n : NodeState) (lane : ℕ) → IsMessageIn (due_on h n lane)
due-message h n lane = by (due_frame h n lane)
  where
    by : (o : Option (FrameHead × List ℕ)) → IsMessageIn (option_and_then (λ f. option_map (λ by. Fragment lane f.0 f.1 by) (lane_route n lane)) o)
    by None = tt
    by (Some f) = mapped (λ by. Fragment lane f.0 f.1 by) (λ by. refl) (lane_route n lane)

either-message : (o p : Option Outgoing) → IsMessageIn o → IsMessageIn p → IsMessageIn (either o p)
either-message None p a b = b
either-message (Some out) p a b = a

each-message : (f : ℕ → Option Outgoing) (xs : List ℕ) → ((x : ℕ) → IsMessageIn (f x)) → IsMessageIn (first_some f xs)
each-message f [] each = tt
each-message f (x ∷ xs) each = either-message (f x) (first_some f xs) (each x) (each-message f xs each)

-- by whether something is staged
pub staged-first : (h : ℕ) (n : NodeState) (out : Outgoing) → has_staged n ≡ true → to_send h n ≡ Some out → is_message out ≡ false
unfolding to_send
staged-first h n out some e = of-staged n.staged n.reply n.part_ack (either (first_some (owed_on n) (lanes_of n)) (first_some (due_on h n) (lanes_of n))) out some e

message-in : (o p : Option Outgoing) → o ≡ p → IsMessageIn p → (out : Outgoing) → o ≡ Some out → is_message out ≡ true
message-in o None same is out e = let bad : None ≡ Some out = sym same ∙ e in cc
message-in o (Some x) same is out e = ap is_message (some-out out x (sym e ∙ same)) ∙ is

pub unstaged-first : (h : ℕ) (n : NodeState) (out : Outgoing) → has_staged n ≡ false → to_send h n ≡ Some out → is_message out ≡ true
unfolding to_send
unstaged-first h n out none e =
    let rest : Option Outgoing = either (first_some (owed_on n) (lanes_of n)) (first_some (due_on h n) (lanes_of n)) in
    message-in (to_send h n) rest (of-unstaged n.staged n.reply n.part_ack rest none)
    (either-message (first_some (owed_on n) (lanes_of n)) (first_some (due_on h n) (lanes_of n)) (each-message (owed_on n) (lanes_of n) (owed-message n)) (each-message (due_on h n) (lanes_of n) (due-message h n))) out e

-- so it is a message exactly where nothing is staged
first-message : (h : ℕ) (n : NodeState) (out : Outgoing) → to_send h n ≡ Some out → is_message out ≡ not (has_staged n)
first-message h n out first = by (has_staged n) refl
  where
    by : (b : Bool) → has_staged n ≡ b → is_message out ≡ not b
    by true some = staged-first h n out some first
    by false none = unstaged-first h n out none first

-- and a new cable keeps a host's first out exactly where nothing is staged
module _ (w : WorldState) (h c : ℕ) where
  abbrev is_kept : Bool
  is_kept = is_new w.links.cables c && not (has_staged (node_at w h))

  kept-first : (out : Outgoing) → to_send h (node_at w h) ≡ Some out → keeps_out w c out ≡ is_kept
  kept-first out e = ap (λ b. is_new w.links.cables c && b) (first-message h (node_at w h) out e)

  pub kept-idle : is_kept ≡ true → inject_one w h c (to_send h (node_at w h)) ≡ (Idle, w)
  kept-idle kept = of (to_send h (node_at w h)) refl
    where
      of : (o : Option Outgoing) → to_send h (node_at w h) ≡ o → inject_one w h c o ≡ (Idle, w)
      of None e = refl
      of (Some out) e = injection_is_kept_out w h c out (kept-first out e ∙ kept)

  -- what isn't kept out may be sent
  pub may-first : may_send w c (to_send h (node_at w h)) ≡ (is_some (to_send h (node_at w h)) && not is_kept)
  may-first = of (to_send h (node_at w h)) refl
    where
      of : (o : Option Outgoing) → to_send h (node_at w h) ≡ o → may_send w c (to_send h (node_at w h)) ≡ (is_some (to_send h (node_at w h)) && not is_kept)
      of None e = ap (may_send w c) e ∙ sym (ap (λ (o : Option Outgoing). is_some o && not is_kept) e)
      of (Some out) e = ap (may_send w c) e ∙ ap not (kept-first out e) ∙ sym (ap (λ (o : Option Outgoing). is_some o && not is_kept) e)

  pub free-goes : is_kept ≡ false → is_some (to_send h (node_at w h)) ≡ true → may_send w c (to_send h (node_at w h)) ≡ true
  free-goes free some = may-first ∙ ap (λ b. b && not is_kept) some ∙ ap not free
