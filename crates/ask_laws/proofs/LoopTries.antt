-- One try of a loopback probe.
use Rattle.std.proofs.Common.{◌≡◌, ◌≢◌, ◌+◌, ℕ, Bool, true, false, List, [], ◌∷◌, ◌++◌, ◌⊎◌, inl, inr, sym, ap, ◌∙◌, subst, true≢false}
use Rattle.std.specs.Prelude.{ℤ, pos}
use Rattle.net_defs.specs.declared.place.Place.TheVariants.{Host as AtHostPlace, Switch as AtSwitch}
use Rattle.net_defs.specs.Network.{Network}
use Rattle.net_defs.specs.Route.{place}
use Rattle.world_defs.specs.Mapping.MappingBody.{Loopback}
use Rattle.world_defs.specs.declared.effect.Effect.TheVariants.{Arrived}
use Rattle.world_defs.specs.declared.heard.Heard.TheVariants.{Loop as HeardLoop}
use Rattle.world_defs.specs.Node.{way_back}
use Rattle.world_defs.specs.Hearing.{heard_if}
use Rattle.world_defs.specs.World.{WorldState, node_at, with_node}
use Rattle.world_defs.specs.Step.{arrived}
use Rattle.world_defs.specs.Asking.{returned_in}
use Rattle.world_defs.specs.Logs as log
use Rattle.world_defs.proofs.LogViews.{Tried, Sent, sends, looped_back, loop_try}
use Rattle.ask_laws.specs.Kept.{IsAskKept}
use Rattle.ask_laws.proofs.Drained.{told}
use Rattle.ask_laws.proofs.Back.{loop-place, loop-switch}
use Rattle.ask_laws.proofs.Stood.{IsMissing}
use Rattle.ask_laws.proofs.Parcels.{hears_in}
use Rattle.ask_laws.proofs.Ready.{Ready, same-node}
use Rattle.ask_laws.proofs.Tries.{no_return, one_return, equal, Premises, IsTry, loop-parcel, one-host}
use Rattle.ask_laws.proofs.Probing.{staged_in, Silent, Delivered, probe-sent, heeded}

-- the walk ends at a switch, or it doesn't
pub data AtASwitch (n : Network) (mapper : ℕ) (walk : List ℤ) : Type 0 where
  at_switch : (s p : ℕ) → place n mapper walk ≡ AtSwitch s p → AtASwitch n mapper walk

abbrev pub NoSwitch : Network → ℕ → List ℤ → Type 0
NoSwitch n mapper walk = (s p : ℕ) → place n mapper walk ≢ AtSwitch s p

abbrev pub IsLoopTry : Network → ℕ → ℕ → List ℤ → WorldState → Tried Bool → Type 0
IsLoopTry n made mapper walk w t = IsTry n made mapper (λ b. b) (λ b. AtASwitch n mapper walk) (NoSwitch n mapper walk) w t

abbrev looped_route : List ℤ → List ℤ
looped_route walk = walk ++ pos 0 ∷ way_back walk

loop-heard : (base : WorldState) (g number : ℕ) → hears_in base g (Loopback number g) ≡ (Arrived g (HeardLoop number), with_node base g (node_at base g))
loop-heard base g number = ap (λ b. arrived base g (heard_if b (node_at base g) (HeardLoop number, node_at base g))) (equal g)

missed-away : (n : Network) (made mapper : ℕ) (walk : List ℤ) (harmed : Bool) (v : WorldState) → Premises n mapper walk → (harmed ≡ true) ⊎ IsMissing made v ((g : ℕ) → place n mapper (looped_route walk) ≢ AtHostPlace g) → (harmed ≡ true) ⊎ IsMissing made v (NoSwitch n mapper walk)
missed-away n made mapper walk harmed v p (inl h) = inl h
missed-away n made mapper walk harmed v p (inr (inl more)) = inr (inl more)
missed-away n made mapper walk harmed v p (inr (inr away)) = inr (inr (λ s q at. away mapper (loop-place n mapper s q walk p.fabric at)))

silent-so : (n : Network) (made mapper : ℕ) (walk : List ℤ) (w : WorldState) (probe : Sent) → Premises n mapper walk → Silent n made mapper (looped_route walk) w probe → IsLoopTry n made mapper walk w (looped_back w mapper probe)
silent-so n made mapper walk w probe p s =
    let none : returned_in mapper probe.number probe.effects ≡ false = no_return mapper probe.number probe.effects s.heard in
    record {
      ready = s.ready;
      kept = s.kept;
      sound = λ e. absurd (true≢false (sym e ∙ none));
      missed = λ e. missed-away n made mapper walk (looped_back w mapper probe).harmed probe.world p s.missed;
      unharmed = λ e q. s.unharmed q;
    }

returned-so : (n : Network) (made mapper : ℕ) (walk : List ℤ) (number : ℕ) (w : WorldState) (probe : Sent) → Premises n mapper walk → Delivered n made mapper (looped_route walk) (Loopback number mapper) number w probe → IsLoopTry n made mapper walk w (looped_back w mapper probe)
returned-so n made mapper walk number w probe p d =
    let at = loop-switch n mapper d.host walk d.at in
    let home : d.host ≡ mapper = one-host d.host mapper (sym d.at ∙ loop-place n mapper at.0 at.1 walk p.fabric at.2) in
    let base : WorldState = d.base in
    let heard : hears_in base d.host (Loopback number mapper) ≡ (Arrived mapper (HeardLoop number), with_node base mapper (node_at base mapper)) = ap (λ g. hears_in base g (Loopback number mapper)) home ∙ loop-heard base mapper number in
    let is : probe.world ≡ with_node base mapper (node_at base mapper) = d.world ∙ ap (λ x. x.1) heard in
    let back : returned_in mapper probe.number probe.effects ≡ true = ap (λ o. returned_in mapper o probe.effects) d.number_is ∙ one_return mapper number probe.effects (d.heard ∙ ap (λ x. told (x.0 ∷ [])) heard) in
    let after = heeded n made mapper w base mapper (node_at base mapper) d.ready d.unstaged d.kept d.harmed (d.unstaged mapper) (same-node (node_at base mapper)) in
    record {
      ready = subst (Ready n made mapper) (sym is) after.ready;
      kept = subst (IsAskKept w) (sym is) after.kept;
      sound = λ e. AtASwitch.at_switch at.0 at.1 at.2;
      missed = λ e. absurd (true≢false (sym back ∙ e));
      unharmed = λ e q. absurd (true≢false (sym back ∙ e));
    }

pub loop-try : (n : Network) (made mapper : ℕ) (walk : List ℤ) (w : WorldState) → Premises n mapper walk → Ready n made mapper w → IsLoopTry n made mapper walk w (loop_try mapper walk w)
unfolding log.loop_try
loop-try n made mapper walk w p r = by (probe-sent n made mapper walk true (looped_route walk) (Loopback (u.injected + 1) mapper) w p r (loop-parcel n mapper walk u p))
  where
    u : WorldState
    u = staged_in w mapper walk true

    probe : Sent
    probe = sends u mapper

    by : Silent n made mapper (looped_route walk) w probe ⊎ Delivered n made mapper (looped_route walk) (Loopback (u.injected + 1) mapper) (u.injected + 1) w probe → IsLoopTry n made mapper walk w (looped_back w mapper probe)
    by (inl s) = silent-so n made mapper walk w probe p s
    by (inr d) = returned-so n made mapper walk (u.injected + 1) w probe p d
