-- A step of the links other than an acceptance pulls or plugs, or leaves the cables.
use Rattle.std.proofs.Common.{◌≡◌, ℕ, Bool, true, false, List, ◌∷◌, [], ◌++◌, Option, Some, None, ◌/◌, refl, ap, subst, sym}
use Rattle.net_defs.specs.declared.vertex.End.{End}
use Rattle.world_defs.specs.History.{may_plug, with_plugged}
use Rattle.world_defs.specs.Crossed.{leaving, pulled_with, pulled_at}
use Rattle.world_defs.specs.Later.{OnlyPulled, IsLater}
use Rattle.world_defs.proofs.CablesLater.{pulled-later}
use Rattle.world_defs.specs.Links.{LinkState}
use Rattle.world_defs.specs.Fault.{pull_by, pull, plug}
use Rattle.world_defs.specs.LinkLaws.{is_of_cables}
use Rattle.world_defs.specs.LinkStep.{Step, Put, Advance, Lose, Reset, Repeat, Hold, Flip, Replay, Pull, Plug, Accept, stepped}
use Rattle.world_defs.proofs.Idling.{pick}
use Rattle.world_defs.proofs.Shapes.{stepped-cables}

-- the cables after a pull
pub pull-cables : (s : LinkState) (e : End) → (pull s e).1.cables ≡ pulled_at s.cables e
pull-cables s e = by (leaving s.cables e)
  where
    by : (o : Option ℕ) → (pull_by s o).1.cables ≡ pulled_with s.cables o
    by None = refl
    by (Some c) = refl

pub pull-only : (s : LinkState) (e : End) → OnlyPulled s.cables (pull s e).1.cables
pull-only s e = subst (λ h. OnlyPulled s.cables h) (sym (pull-cables s e)) (OnlyPulled.pulls e OnlyPulled.still)

pub plug-later : (s : LinkState) (a b : End) → IsLater s.cables (plug s a b).1.cables
plug-later s a b = by (may_plug s.cables a b) refl
  where
    by : (t : Bool) → may_plug s.cables a b ≡ t → IsLater s.cables (pick t (true, record s { cables = with_plugged s.cables a b; channels = s.channels ++ None ∷ None ∷ [] }) (false, s)).1.cables
    by true may = IsLater.plugs a b may IsLater.still
    by false may = IsLater.still

-- what leaves the cables only pulls
pub same-only : (s t : LinkState) → t.cables ≡ s.cables → OnlyPulled s.cables t.cables
same-only s t same = subst (λ h. OnlyPulled s.cables h) (sym same) OnlyPulled.still

-- a step of packets
pub packets-only : (s : LinkState) (x : Step) → is_of_cables x ≡ false → OnlyPulled s.cables (stepped s x).cables
packets-only s x not = same-only s (stepped s x) (stepped-cables s x not)
