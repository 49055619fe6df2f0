-- What follows from the promise of a text.
use Rattle.std.proofs.Common.{◌<◌, suc, List, [], ◌∷◌, ◌++◌, take, refl, sym, ap, ◌∙◌, subst, arith}
use Rattle.world_defs.specs.World.{WorldState, last_count}
use Rattle.world_defs.specs.Acts.{Act, acted_all, MayActAll}
use Rattle.client_laws.specs.Seen.{PollsAreFrontOfSends}
use Rattle.client_laws.specs.Noted.{SentEventsAreOf, PolledTokensAreOf}
use Rattle.run_defs.specs.declared.command.Command.{Command}
use Rattle.run_defs.specs.declared.command.Command.TheVariants.{Map, Install, Settle}
use Rattle.run_defs.specs.declared.line.Line.TheVariants.{Map as MapLine, Installed, Settle as SettleLine}
use Rattle.run_defs.specs.declared.line.MapWords.TheVariants.{Doubtful}
use Rattle.run_defs.specs.Output.{Piece, OneLine, MapLines}
use Rattle.run_defs.specs.Deed.{Deed, session_after}
use Rattle.run_defs.specs.Session.{SessionState}
use Rattle.run_defs.specs.Run.{Does, IsRun}
use Rattle.run_laws.proofs.RunsOnce.{runs-more}
use Rattle.promise_laws.specs.CutShort.{IsCutShort}
use Rattle.promise_laws.specs.CutShort.IsCutShort.{undone, part_done}
use Rattle.promise_laws.specs.CommandActs.{acts_of, IsReachedBy}
use Rattle.promise_laws.specs.Moments.{IsWorldRight}
use Rattle.promise_laws.proofs.Acting.{acts_reach, may-prefix, reached-further}
use Rattle.promise_laws.proofs.RunActs.{acts_of_runs_are_one}
use Rattle.input_texts.specs.Reading.{AcceptedText}
use Rattle.fabric_run.specs.Following.{HasSoundMoments, AreActsTo, HasActs, HasMetFaults}
use Rattle.fabric_run.specs.Left.{InjectionsAreLeft}
use Rattle.fabric_run.specs.Lines.{IsMapTold, IsSettleRight, AreLinesTrue}
use Rattle.fabric_run.specs.Promise.{IsPromised}
use Rattle.fabric_run.specs.Steps.{IsNext}
use Rattle.fabric_run.proofs.Writing.{take-next}

module _ (a : AcceptedText) (promised : IsPromised a) where
  -- a command that is cut short: its acts reach reached worlds alone
  cut-right : (s : SessionState) (c : Command) (v : WorldState) → IsNext a s c → IsCutShort s c v → IsWorldRight v
  cut-right s c v is (undone same) = subst IsWorldRight (sym same) (promised.worlds s.world (promised.reached is.count is.printed s is.run).reached)
  cut-right s c v is (part_done d of_c way) =
      let step = promised.steps s c is in
      let may : MayActAll s.world d.acts = subst (λ (x : Deed). MayActAll s.world x.acts) (sym (step.done.one d of_c)) step.acts.may in
      let there = acts_reach a.network s.world way.done way.front.rest (promised.reached is.count is.printed s is.run).reached (subst (λ acts. MayActAll s.world acts) way.front.both may) in
      subst IsWorldRight (sym way.there) (promised.worlds (acted_all s.world way.done) there)

  -- the moments of its run
  pub sound-moments : HasSoundMoments a
  sound-moments = record {
    right = λ k out last r. promised.worlds last.world (promised.reached k out last r).reached;
    no_cycle = λ k out last r. (promised.worlds last.world (promised.reached k out last r).reached).sound.no_cycle;
    cut = cut-right;
    duos = λ k out last d r e.
        let is = (promised.duo.reached k out last d r e).reached in
        record { in_order = promised.duo.in_order d is; owned = promised.duo.owned d is };
  }

  -- what clients send and are handed, by the acts that led to a world
  acts-to : (w : WorldState) (acts : List Act) → IsReachedBy a.network w acts → AreActsTo a w acts
  acts-to w acts r = record {
    reached = r;
    polled = subst (PollsAreFrontOfSends a.network) r.same (promised.polled a.network w r.reached);
    returned = subst (SentEventsAreOf a.network w) r.same (promised.returned a.network w r.reached);
    tokens = subst (PolledTokensAreOf a.network w) r.same (promised.tokens a.network w r.reached);
  }

  -- the acts of its commands
  pub text-acts : HasActs a
  text-acts = record {
    one = λ k out printed last end run again. acts_of_runs_are_one a.network (take k a.commands) out printed last end run again;
    commands = λ k out last run. acts-to last.world (acts_of run) (promised.reached k out last run);
    part = λ s c d done rest is of_c both.
        let step = promised.steps s c is in
        let may : MayActAll s.world (done ++ rest) = subst (λ acts. MayActAll s.world acts) (ap (λ (x : Deed). x.acts) (sym (step.done.one d of_c)) ∙ both) step.acts.may in
        let there = reached-further a.network s.world (acts_of is.run) done (promised.reached is.count is.printed s is.run) (may-prefix s.world done rest may) in
        acts-to (acted_all s.world done) (acts_of is.run ++ done) there;
  }

  -- what a command printed is what the promise speaks of
  lines-of : (s next : SessionState) (c : Command) (printed : List Piece) → IsNext a s c → Does s c printed next → AreLinesTrue a.network s c printed next
  lines-of s next c printed is does =
      let step = promised.steps s c is in
      let same = step.done.one does.deed does.is in
      let lines = subst (λ (d : Deed). AreLinesTrue a.network s c d.output (session_after s d)) (sym same) step.lines in
      subst (λ o. AreLinesTrue a.network s c o next) (sym does.prints) (subst (AreLinesTrue a.network s c does.deed.output) (sym does.leaves) lines)

  -- injections are left after it
  left-after : (s next : SessionState) (c : Command) (printed : List Piece) → InjectionsAreLeft a → IsNext a s c → Does s c printed next → next.world.injected < last_count
  left-after s next c printed left is does =
      let run : IsRun a.network (take (suc is.count) a.commands) (is.printed ++ printed) next =
      subst (λ l. IsRun a.network l (is.printed ++ printed) next) (sym (take-next a.commands is.count c is.there)) (runs-more c printed is.run does) in
      let low = left (suc is.count) (is.printed ++ printed) next run in
      omega (arith, low)

  -- so faults were met where something is missed, and settles end settled
  pub met-faults : InjectionsAreLeft a → HasMetFaults a
  met-faults left = record {
    doubtful = λ s next host depth tries drowned asks packets m is does.
        let printed : List Piece = OneLine (MapLine host (Doubtful drowned) asks packets) ∷ MapLines m ∷ [] in
        let told : IsMapTold a.network s next host depth printed = lines-of s next (Map host depth tries) printed is does in
        (told.shown (Doubtful drowned) asks packets m refl).doubt drowned refl (left-after s next (Map host depth tries) printed left is does);
    missed = λ s next tries acked total rest is does.
        let printed : List Piece = OneLine (Installed acked total) ∷ rest in
        let low = left-after s next (Install tries) printed left is does in
        let told = lines-of s next (Install tries) printed is does acked total rest refl in
        let line = told.1 in
        record { last = line.last; are = line.are; cause = line.cause low; unharmed = λ same calm. line.unharmed (omega (arith, told.0)) low same calm };
    settled = λ s next rounds resets unacked rest is does.
        let printed : List Piece = OneLine (SettleLine rounds resets unacked) ∷ rest in
        let low = left-after s next Settle printed left is does in
        let told : IsSettleRight s next rounds resets unacked = lines-of s next Settle printed is does rounds resets unacked rest refl in
        (told.line.settled low, λ enough paths. let none = told.delivers low enough paths in (none, told.line.got none));
  }
