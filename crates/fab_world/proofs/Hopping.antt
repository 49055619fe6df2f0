-- A hop is an advance, so it leads from one moment of a world to another; and so does a run of hops.
use Rattle.std.proofs.Common.{◌≡◌, ℕ, [], ◌∷◌, ◌++◌, refl, sym, ap, subst, ◌∙◌}
use Rattle.world_defs.specs.declared.moved.Moved.TheVariants.{To}
use Rattle.world_defs.specs.Links.{LinkState}
use Rattle.world_defs.specs.Advance.{advance}
use Rattle.link_model.specs.Hop.{IsRun}
use Rattle.link_model.specs.declared.hop.Hop.{Hop}
use Rattle.link_model.specs.declared.hop.Hop.TheVariants.{Moved, Blocked, Untried}
use Rattle.world_defs.specs.declared.event.Event.TheVariants.{Advance}
use Rattle.world_defs.specs.declared.effect.Effect.TheVariants.{Moved as MovedTo, Blocked as StaysFor}
use Rattle.world_defs.specs.World.{WorldState, with_links}
use Rattle.world_defs.specs.Step.{advanced_by, advanced, step}
use Rattle.world_defs.proofs.LogRows.{after_all-append}
use Rattle.faulty_links.specs.Held.{LinksAndPlan, of_world, with_part, IsHopOf}
use Rattle.fab_world.specs.Held.{IsLater}
use Rattle.fab_world.specs.Hop.{IsHopIn, IsRunIn}

-- a hop of the links in their world
pub hop-in : (w v : WorldState) (c : ℕ) (h : Hop) (q : LinksAndPlan) → IsHopOf (of_world w) c h q → v ≡ with_part w q → IsHopIn w c h v
hop-in w v c (Moved next) q is after = is w ∙ ap (λ x. (MovedTo next, x)) (sym after)
hop-in w v c (Blocked next) q is after = is w ∙ ap (λ x. (StaysFor next, x)) (sym after)
hop-in w v c Untried q is after = (after ∙ ap (with_part w) is.0, is.1)

pub hop-later : (w v : WorldState) (c : ℕ) (h : Hop) → IsHopIn w c h v → IsLater w v
hop-later w v c (Moved next) is = (Advance c ∷ [], sym (ap (λ p. p.1) is))
hop-later w v c (Blocked next) is = (Advance c ∷ [], sym (ap (λ p. p.1) is))
hop-later w v c Untried is = ([], is.0)

-- an advance of the links that leads into a channel, in their world
pub moved-in : (w : WorldState) (now after : LinkState) (at next : ℕ) → advance now at ≡ (To next, after) → step (with_links w now) (Advance at) ≡ (MovedTo next, with_links w after)
unfolding advanced
moved-in w now after at next went = ap (advanced_by (with_links w now)) went

later-then : (w u v : WorldState) (c : ℕ) → IsLater w u → v ≡ (step u (Advance c)).1 → IsLater w v
later-then w u v c (es, is) led = (es ++ Advance c ∷ [], led ∙ ap (λ x. (step x (Advance c)).1) is ∙ sym (after_all-append w es (Advance c ∷ [])))

along-later : (w : WorldState) (c : ℕ) (links : LinkState) (hops at : ℕ) → IsRun w.links c hops at links → IsLater w (with_links w links)
along-later w c links hops at IsRun.not_begun = ([], refl)
along-later w c links hops at (IsRun.further {hops = n} {at = b} {next = d} {now = now} {after = after} before went) =
    later-then w (with_links w now) (with_links w after) b (along-later w c now n b before) (sym (ap (λ r. r.1) (moved-in w now after b d went)))

pub run-later : (w v : WorldState) (c hops at : ℕ) → IsRunIn w c hops at v → IsLater w v
run-later w v c hops at (run, rest) = subst (IsLater w) (sym rest) (along-later w c v.links hops at run)
