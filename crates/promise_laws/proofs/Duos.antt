-- What the two hosts that restart come to in a run, and what they depend on.
use Rattle.std.proofs.Common.{◌≡◌, ◌⊎◌, inl, inr, List, [], ◌∷◌, ◌++◌, Option, Some, None, refl, sym, ◌∙◌, ap, subst, arith}
use Rattle.std.specs.List.{AllByRecursion}
use Rattle.net_defs.specs.Network.{Network}
use Rattle.world_defs.specs.World.{WorldState}
use Rattle.world_defs.specs.Acts.{Act, acted_all}
use Rattle.duo_defs.specs.declared.event.DuoEvent.{DuoEvent}
use Rattle.duo_defs.specs.declared.event.DuoEvent.TheVariants.{Poll as DuoPoll}
use Rattle.duo_defs.specs.declared.effect.DuoEffect.{DuoEffect}
use Rattle.duo_defs.specs.declared.effect.DuoEffect.TheVariants.{Sent, Unsure}
use Rattle.duo_defs.specs.Duo.{DuoState, new_duo}
use Rattle.duo_defs.specs.Step.{IsFair, step as duo_step, after_all}
use Rattle.duo_laws.proofs.Order.{got-prefix}
use Rattle.duo_laws.proofs.Owners.{one-owner}
use Rattle.duo_laws.proofs.Polls.{polls-right}
use Rattle.run_defs.specs.declared.command.Command.{Command}
use Rattle.run_defs.specs.declared.command.Command.TheVariants.{Walk, Map, Circuit, Routes, Install, Begin, Close, Poll, Tokens, Provide, Send, Plan, Step, Settle, Finish, Duo, Pull, Plug, Revoke, Broken}
use Rattle.run_defs.specs.declared.line.Line.TheVariants.{Duo as DuoLine}
use Rattle.run_defs.specs.Duos.{begun, beside, IsOther}
use Rattle.run_defs.specs.Output.{Piece, OneLine}
use Rattle.run_defs.specs.Deed.{Note, Nothing, KeepsMap, KeepsRoutes, KeepsDuo, Deed, noted, session_after}
use Rattle.run_defs.specs.Outcome.{Kind, OfTheDuo, kind_of, duo_done, deed_of_kind, deed_of}
use Rattle.run_defs.specs.Run.{IsDeed, Does, Runs}
use Rattle.run_defs.specs.Run.IsDeed.{determined, maps, circuits, routes}
use Rattle.run_defs.proofs.ByKind.{InDeed, IsLaw, by-kind}
use Rattle.run_defs.specs.Run.Runs.{ended, goes_on}
use Rattle.run_defs.specs.Session.{SessionState}
use Rattle.fab_script.specs.Ranges.{IsCommandOf}
use Rattle.fab_script.proofs.Ranged.{events_are_fair}
use Rattle.promise_laws.specs.CutShort.{IsPartActed, IsCutShort}
use Rattle.promise_laws.specs.CutShort.IsCutShort.{undone, part_done}
use Rattle.promise_laws.specs.Duos.{DuoLinesDependOnTheDuo, DuoLinesKeepTheRest, OthersKeepTheDuo, IsReachedFromNew, IsDuoLeft, DuosAreReached, LeftDuosAreReached, ReachedDuosAreSound, DuoPollsAreRight}
use Rattle.promise_laws.specs.Duos.IsDuoLeft.{kept, begins, stepped}

-- what a line of the two hosts did
pub record Did (s : SessionState) (e : DuoEvent) (out : List Piece) (next : SessionState) : Type 0 where
  pub printed : out ≡ OneLine (DuoLine (duo_step (begun s.duo) e).0) ∷ []
  pub left : next ≡ beside s (Some (duo_step (begun s.duo) e).1)

some-deed : (x y : Deed) → Some x ≡ Some y → x ≡ y
some-deed x y e = cc

duo-deed : {s : SessionState} {c : Command} {d : Deed} → (e : DuoEvent) → c ≡ Duo e → IsDeed s c d → d ≡ duo_done (duo_step (begun s.duo) e)
duo-deed {s = s} {d = d} e same (determined is) = some-deed d (duo_done (duo_step (begun s.duo) e)) (sym is ∙ ap (deed_of s) same)
duo-deed e same (maps after j m words idle made is) = cc
duo-deed e same (circuits out told is) = cc
duo-deed e same (routes l found complete are is) = cc

pub did : {s next : SessionState} {c : Command} {out : List Piece} → (e : DuoEvent) → c ≡ Duo e → Does s c out next → Did s e out next
did {s = s} e same d =
    let one = duo-deed e same d.is in
    record { printed = d.prints ∙ ap (λ (x : Deed). x.output) one; left = d.leaves ∙ ap (session_after s) one }

pub duo_lines_depend_on_the_duo : DuoLinesDependOnTheDuo
duo_lines_depend_on_the_duo s t left next e out printed same first second =
    let a = did e refl first in
    let b = did e refl second in
    let effect : (duo_step (begun s.duo) e).0 ≡ (duo_step (begun t.duo) e).0 = ap (λ o. (duo_step (begun o) e).0) same in
    let after : (duo_step (begun s.duo) e).1 ≡ (duo_step (begun t.duo) e).1 = ap (λ o. (duo_step (begun o) e).1) same in (
      a.printed ∙ ap (λ k. OneLine (DuoLine k) ∷ []) effect ∙ sym b.printed,
      ap (λ (x : SessionState). x.duo) a.left ∙ ap Some after ∙ sym (ap (λ (x : SessionState). x.duo) b.left),
    )

pub duo_lines_keep_the_rest : DuoLinesKeepTheRest
duo_lines_keep_the_rest s next e out does =
    let a = did e refl does in
    a.left ∙ ap (beside s) (sym (ap (λ (x : SessionState). x.duo) a.left))

-- the kind of another command, whose deed keeps none of them
abbrev pub IsOtherKind : Kind → Type 0
IsOtherKind (OfTheDuo e) = ⊥
IsOtherKind _ = Unit {0}

pub other-kind : (c : Command) → IsOther c → IsOtherKind (kind_of c)
other-kind (Duo e) other = other e refl
other-kind c other = tt

abbrev pub IsOtherNote : Note → Type 0
IsOtherNote (KeepsDuo d) = ⊥
IsOtherNote _ = Unit {0}

abbrev pub IsOtherDeed : Deed → Type 0
IsOtherDeed d = IsOtherNote d.note

other-law : (s : SessionState) (k : Kind) → IsOtherKind k → IsLaw IsOtherDeed s k
other-law s k of_k = record {
  reads = λ ls. tt;
  happens = λ es ls are. tt;
  plans = λ ahead fault is. tt;
  installs = λ l tries is are may. tt;
  restarts = λ e is. subst IsOtherKind is of_k;
}

pub other-deed : {s : SessionState} {c : Command} {d : Deed} → IsOther c → IsDeed s c d → IsOtherDeed d
other-deed {s = s} {c = c} other (determined e) = subst (InDeed IsOtherDeed) e (by-kind IsOtherDeed s (kind_of c) (other-law s (kind_of c) (other-kind c other)))
other-deed other (maps after j m words idle made is) = subst IsOtherDeed (sym is) tt
other-deed other (circuits out told is) = subst IsOtherDeed (sym is) tt
other-deed other (routes l found complete are is) = subst IsOtherDeed (sym is) tt

-- another command is the same deed beside other two hosts
pub kind-beside : (s : SessionState) (k : Kind) (d : Option DuoState) → IsOtherKind k → deed_of_kind (beside s d) k ≡ deed_of_kind s k
kind-beside s (OfTheDuo e) d other = absurd other
kind-beside s _ d other = refl

deed-beside : {s : SessionState} {c : Command} {x : Deed} → (d : Option DuoState) → IsOther c → IsDeed s c x → IsDeed (beside s d) c x
deed-beside {s = s} {c = c} d other (determined is) = determined (kind-beside s (kind_of c) d (other-kind c other) ∙ is)
deed-beside d other (maps after j m words idle made is) = maps after j m words idle made is
deed-beside d other (circuits out told is) = circuits out told is
deed-beside d other (routes l found complete are is) = routes l found complete are is

pub noted-beside : (s : SessionState) (n : Note) (d : Option DuoState) → IsOtherNote n → beside (noted s n) d ≡ noted (beside s d) n
noted-beside s Nothing d other = refl
noted-beside s (KeepsMap l) d other = refl
noted-beside s (KeepsRoutes l) d other = refl
noted-beside s (KeepsDuo x) d other = absurd other

noted-duo : (s : SessionState) (n : Note) → IsOtherNote n → (noted s n).duo ≡ s.duo
noted-duo s Nothing other = refl
noted-duo s (KeepsMap l) other = refl
noted-duo s (KeepsRoutes l) other = refl
noted-duo s (KeepsDuo x) other = absurd other

pub does-beside : {s next : SessionState} {c : Command} {out : List Piece} → (d : Option DuoState) → IsOther c → Does s c out next → Does (beside s d) c out (beside next d)
does-beside {s = s} d other does = record {
  deed = does.deed;
  is = deed-beside d other does.is;
  prints = does.prints;
  leaves = ap (λ (x : SessionState). beside x d) does.leaves ∙ noted-beside (record s { world = acted_all s.world does.deed.acts }) does.deed.note d (other-deed other does.is);
}

pub does-keep : {s next : SessionState} {c : Command} {out : List Piece} → IsOther c → Does s c out next → next.duo ≡ s.duo
does-keep {s = s} other does = ap (λ (x : SessionState). x.duo) does.leaves ∙ noted-duo (record s { world = acted_all s.world does.deed.acts }) does.deed.note (other-deed other does.is)

pub others_keep_the_duo : OthersKeepTheDuo
others_keep_the_duo s next c out other does = (does-keep other does, λ d. does-beside d other does)

-- one event more
after-more : (d : DuoState) (es : List DuoEvent) (e : DuoEvent) → after_all d (es ++ e ∷ []) ≡ (duo_step (after_all d es) e).1
after-more d [] e = refl
after-more d (x ∷ es) e = after-more (duo_step d x).1 es e

fair-more : (es : List DuoEvent) (e : DuoEvent) → AllByRecursion IsFair es → IsFair e → AllByRecursion IsFair (es ++ e ∷ [])
fair-more [] e all fair = (fair, tt)
fair-more (x ∷ es) e all fair = (all.0, fair-more es e all.1 fair)

new-reached : IsReachedFromNew (new_duo 1)
new-reached = record { reached = record { inc = 1; least = omega arith; events = []; fair = tt; leads = refl }; first = refl }

step-reached : (d : DuoState) (e : DuoEvent) → IsReachedFromNew d → IsFair e → IsReachedFromNew (duo_step d e).1
step-reached d e is fair =
    let r = is.reached in
    record {
      reached = record {
        inc = r.inc;
        least = r.least;
        events = r.events ++ e ∷ [];
        fair = fair-more r.events e r.fair fair;
        leads = ap (λ x. (duo_step x e).1) r.leads ∙ sym (after-more (new_duo r.inc) r.events e);
      };
      first = is.first;
    }

-- the two hosts of a session, where they have begun, are reached
abbrev AreReached : Option DuoState → Type 0
AreReached None = Unit {0}
AreReached (Some d) = IsReachedFromNew d

begun-reached : (o : Option DuoState) → AreReached o → IsReachedFromNew (begun o)
begun-reached None is = new-reached
begun-reached (Some d) is = is

reached-some : (o : Option DuoState) (d : DuoState) → AreReached o → o ≡ Some d → IsReachedFromNew d
reached-some o d is e = subst AreReached e is

-- a command is a line of theirs, or another
pub line-or-other : (c : Command) → ((e : DuoEvent) × (c ≡ Duo e)) ⊎ IsOther c
line-or-other (Duo e) = inl (e, refl)
line-or-other (Walk host walk) = inr (λ e p. cc)
line-or-other (Map host depth tries) = inr (λ e p. cc)
line-or-other (Circuit host depth) = inr (λ e p. cc)
line-or-other Routes = inr (λ e p. cc)
line-or-other (Install tries) = inr (λ e p. cc)
line-or-other (Begin h port sends recvs) = inr (λ e p. cc)
line-or-other (Close h port) = inr (λ e p. cc)
line-or-other (Poll h port) = inr (λ e p. cc)
line-or-other (Tokens h port) = inr (λ e p. cc)
line-or-other (Provide h port size prio) = inr (λ e p. cc)
line-or-other (Send h port dest dport prio len seed) = inr (λ e p. cc)
line-or-other (Plan ahead kind) = inr (λ e p. cc)
line-or-other (Step line) = inr (λ e p. cc)
line-or-other Settle = inr (λ e p. cc)
line-or-other Finish = inr (λ e p. cc)
line-or-other (Pull at) = inr (λ e p. cc)
line-or-other (Plug a b) = inr (λ e p. cc)
line-or-other Revoke = inr (λ e p. cc)
line-or-other Broken = inr (λ e p. cc)

-- a command that is cut short is so beside any two hosts
none-done : (w v : WorldState) (acts : List Act) → acts ≡ [] → IsPartActed w acts v → v ≡ w
none-done w v acts none p = by p.done (sym none ∙ p.front.both) p.there
  where
    by : (done : List Act) → [] ≡ done ++ p.front.rest → v ≡ acted_all w done → v ≡ w
    by [] e same = same
    by (a ∷ done) e same = cc

pub cut-beside : (s : SessionState) (c : Command) (v : WorldState) (d : Option DuoState) → IsCutShort s c v → IsCutShort (beside s d) c v
cut-beside s c v d (undone same) = undone same
cut-beside s c v d (part_done x is way) = by (line-or-other c)
  where
    by : ((e : DuoEvent) × (c ≡ Duo e)) ⊎ IsOther c → IsCutShort (beside s d) c v
    by (inl (e, same)) = undone (none-done s.world v x.acts (ap (λ (y : Deed). y.acts) (duo-deed e same is)) way)
    by (inr other) = part_done x (deed-beside d other is) way

does-reach : {s next : SessionState} {c : Command} {out : List Piece} → (n : Network) → IsCommandOf n c → AreReached s.duo → Does s c out next → AreReached next.duo
does-reach {s = s} {next = next} {c = c} n said is does = by (line-or-other c)
  where
    by : ((e : DuoEvent) × (c ≡ Duo e)) ⊎ IsOther c → AreReached next.duo
    by (inl (e, same)) =
        let left = ap (λ (x : SessionState). x.duo) (did e same does).left in
        subst AreReached (sym left) (step-reached (begun s.duo) e (begun-reached s.duo is) (events_are_fair e (subst (IsCommandOf n) same said)))
    by (inr other) = subst AreReached (sym (does-keep other does)) is

runs-reach : {s last : SessionState} {cs : List Command} {out : List Piece} → (n : Network) → AllByRecursion (IsCommandOf n) cs → AreReached s.duo → Runs s cs out last → AreReached last.duo
runs-reach n all is ended = is
runs-reach n all is (goes_on d r e) = runs-reach n all.1 (does-reach n all.0 is d) r

pub duos_are_reached : DuosAreReached
duos_are_reached n commands out last d all r e = reached-some last.duo d (runs-reach n all tt r) e

pub left_duos_are_reached : LeftDuosAreReached
left_duos_are_reached n commands out s c left d all said r is e = by is
  where
    now : AreReached s.duo
    now = runs-reach n all tt r

    by : IsDuoLeft s c left → IsReachedFromNew d
    by (kept same) = reached-some s.duo d now (sym same ∙ e)
    by (begins f same none new) = reached-some (Some (new_duo 1)) d new-reached (sym new ∙ e)
    by (stepped f printed next same does led) = reached-some next.duo d (does-reach n said now does) (sym led ∙ e)

pub reached_duos_are_sound : ReachedDuosAreSound
reached_duos_are_sound d is = record { in_order = λ x i j. got-prefix d is.reached x i j; owned = λ x. one-owner d is.reached x }

pub duo_polls_are_right : DuoPollsAreRight
duo_polls_are_right n commands out s next x t all r =
    let d : DuoState = begun s.duo in
    let is : IsReachedFromNew d = begun-reached s.duo (runs-reach n all tt r) in
    let right = polls-right d is.reached x t in
    (λ does. right.0 (same-effect (duo_step d (DuoPoll x)).0 (Sent t) (sym (did (DuoPoll x) refl does).printed)), λ does. right.1 (same-effect (duo_step d (DuoPoll x)).0 (Unsure t) (sym (did (DuoPoll x) refl does).printed)))
  where
    same-effect : (a b : DuoEffect) → OneLine (DuoLine a) ∷ [] ≡ OneLine (DuoLine b) ∷ [] → a ≡ b
    same-effect a b p = cc
