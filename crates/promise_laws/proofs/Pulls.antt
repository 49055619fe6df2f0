-- A pull is done where the port has a cable, and its line says so.
use Rattle.std.proofs.Common.{◌≡◌, ℕ, Bool, true, false, List, [], ◌∷◌, Option, Some, None, refl, sym, ap, subst, true≢false}
use Rattle.std.specs.Prelude.{IsSome}
use Rattle.std.proofs.lemmas.Option.{same_Some}
use Rattle.net_defs.specs.declared.vertex.End.{End}
use Rattle.net_defs.specs.Network.{far}
use Rattle.world_defs.specs.Crossed.{leaving, pulled_with}
use Rattle.world_defs.specs.Fault.{pull_by}
use Rattle.world_defs.specs.declared.event.Event.TheVariants.{Pull as PullEvent}
use Rattle.world_defs.specs.declared.effect.Effect.{Effect}
use Rattle.world_defs.specs.declared.effect.Effect.TheVariants.{Idle, Said as Says}
use Rattle.world_defs.specs.declared.effect.Said.TheVariants.{Done}
use Rattle.world_defs.specs.World.{WorldState, fabric_of}
use Rattle.world_defs.specs.Step.{step, of_links, pulled}
use Rattle.world_laws.proofs.Idling.{step-idle}
use Rattle.run_defs.specs.declared.command.Command.TheVariants.{Pull}
use Rattle.run_defs.specs.declared.line.Line.TheVariants.{Pull as PullLine}
use Rattle.run_defs.specs.Outcome.{Outcome, is_done, happening, seen}
use Rattle.run_defs.specs.Output.{Piece}
use Rattle.run_defs.specs.Session.{SessionState}
use Rattle.run_defs.proofs.Doing.{Doing, doing}
use Rattle.run_defs.proofs.Doing.Doing.{determined}
use Rattle.promise_laws.specs.CableLines.{IsPulled, IsPullTold, PullLineIsTrue}

-- something is there
pub there-or : {X : Type 0} (o : Option X) → (o ≡ None → ⊥) → IsSome o
there-or None e = absurd (e refl)
there-or (Some x) e = refl

not-there : {X : Type 0} (o : Option X) → o ≡ None → IsSome o → ⊥
not-there None e is = true≢false (sym is)
not-there (Some x) e is = cc

-- a pull, by the channel that leaves by the port
abbrev found : WorldState → Option ℕ → Effect × WorldState
found w o = of_links w (Says Done) (pull_by w.links o)

-- what it is, by whether it is idle
pulled-so : (w : WorldState) (at : End) (o : Option ℕ) → leaving w.links.cables at ≡ o → ((found w o).0 ≡ Idle → far (fabric_of w) at ≡ None) → (far (fabric_of w) at ≡ None → (found w o).0 ≡ Idle) → IsPulled w (found w o).1 at (is_done (found w o).0)
pulled-so w at None e none idle = record {
  cabled = (λ p. cc, λ is. absurd (not-there (far (fabric_of w) at) (none refl) is));
  cables = ap (pulled_with w.links.cables) (sym e);
  stays = λ p. refl;
}
pulled-so w at (Some c) e none idle = record {
  cabled = (λ p. there-or (far (fabric_of w) at) (λ q. let wrong : Says Done ≡ Idle = idle q in cc), λ is. refl);
  cables = ap (pulled_with w.links.cables) (sym e);
  stays = λ p. cc;
}

pull-event : (w : WorldState) (at : End) → IsPulled w (step w (PullEvent at)).1 at (is_done (step w (PullEvent at)).0)
unfolding pulled
pull-event w at =
    let idle = step-idle w (PullEvent at) in
    pulled-so w at (leaving w.links.cables at) refl idle.from idle.to

pull-so : (s next : SessionState) (at : End) (out : List Piece) → Doing s (Pull at) out next → IsPullTold s next at out
pull-so s next at out (determined e) =
    let done : Bool = is_done (step s.world (PullEvent at)).0 in
    let o : Outcome = seen s (happening (PullEvent at ∷ []) (PullLine at done ∷ [])) in
    let same : o ≡ record { output = out; after = next } = same_Some o (record { output = out; after = next }) e in (
      done,
      sym (ap (λ (x : Outcome). x.output) same),
      subst (λ (x : Outcome). IsPulled s.world x.after.world at done) same (pull-event s.world at),
    )

pub pull_line-true : PullLineIsTrue
pull_line-true s next at out d = pull-so s next at out (doing d)
