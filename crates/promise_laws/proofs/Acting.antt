-- The acts of a command's deed may happen, and reach reached worlds alone.
use Rattle.std.proofs.Common.{◌≡◌, List, [], ◌∷◌, ◌++◌, refl, sym, ◌∙◌, ap, subst}
use Rattle.net_defs.specs.Network.{Network}
use Rattle.world_defs.specs.World.{WorldState, new_world}
use Rattle.world_defs.specs.Sound.{IsSound}
use Rattle.world_defs.specs.Acts.{Act, acted, acted_all, MayActAll, IsReached}
use Rattle.run_laws.proofs.Reaching.{run-led, deed-may}
use Rattle.promise_laws.specs.CommandActs.{DeedsAreSingleActs, ActsReach, RunsEndSound, IsReachedBy}
use Rattle.promise_laws.proofs.OneAction.{acts_are_one_action}
use Rattle.promise_laws.proofs.Sound.{always_sound}

pub acted-append : (w : WorldState) (xs ys : List Act) → acted_all w (xs ++ ys) ≡ acted_all (acted_all w xs) ys
acted-append w [] ys = refl
acted-append w (x ∷ xs) ys = acted-append (acted w x) xs ys

pub may-prefix : (w : WorldState) (xs ys : List Act) → MayActAll w (xs ++ ys) → MayActAll w xs
may-prefix w [] ys may = tt
may-prefix w (x ∷ xs) ys may = (may.0, may-prefix (acted w x) xs ys may.1)

pub may-append : (w : WorldState) (xs ys : List Act) → MayActAll w xs → MayActAll (acted_all w xs) ys → MayActAll w (xs ++ ys)
may-append w [] ys a b = b
may-append w (x ∷ xs) ys a b = (a.0, may-append (acted w x) xs ys a.1 b)

-- acts that may happen after reached ones lead to a reached world
reached-behind : (n : Network) (w : WorldState) (acts : List Act) → IsReached n w → MayActAll w acts → IsReached n (acted_all w acts)
reached-behind n w acts r may = record {
  fabric = r.fabric;
  acts = r.acts ++ acts;
  may = may-append (new_world n) r.acts acts r.may (subst (λ v. MayActAll v acts) r.leads may);
  leads = ap (λ v. acted_all v acts) r.leads ∙ sym (acted-append (new_world n) r.acts acts);
}

-- and so do those that led there, followed by them
pub reached-further : (n : Network) (w : WorldState) (acts more : List Act) → IsReachedBy n w acts → MayActAll w more → IsReachedBy n (acted_all w more) (acts ++ more)
unfolding reached-behind
reached-further n w acts more r may = record { reached = reached-behind n w more r.reached may; same = ap (λ l. l ++ more) r.same }

pub acts_reach : ActsReach
acts_reach n w prefix rest r may = reached-behind n w prefix r (may-prefix w prefix rest may)

pub deeds_are_single_acts : DeedsAreSingleActs
deeds_are_single_acts n commands out s c d f all of_n r is = record {
  may = deed-may n of_n (run-led n commands out s f all r) is;
  one_by_one = λ before behind a e. acts_are_one_action (acted_all s.world before) a;
}

pub runs_end_sound : RunsEndSound
runs_end_sound n commands out last f all r =
    let led = run-led n commands out last f all r in subst IsSound (sym led.leads.there) (always_sound n f led.leads.acts led.leads.may)
