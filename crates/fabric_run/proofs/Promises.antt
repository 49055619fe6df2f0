-- Every accepted text keeps its promise, from the laws of runs: its commands are over its fabric, and so are its first commands.
use Rattle.std.proofs.Common.{◌≡◌, ℕ, zero, suc, List, [], ◌∷◌, take, drop, Some, Result, Ok, Err, refl, subst}
use Rattle.std.specs.Prelude.{slice_get}
use Rattle.std.specs.List.{AllByRecursion}
use Rattle.net_defs.specs.Network.{Network, IsFabric}
use Rattle.net_defs.proofs.Distinct.{all-weaker}
use Rattle.map_defs.specs.NetMap.{NetMap}
use Rattle.fab_text.specs.Fault.{FirstFault, and_then}
use Rattle.fabric_file.specs.declared.reading.FabricText.{FabricText}
use Rattle.fabric_file.specs.Reading.{fabric_reading, AreNamed}
use Rattle.fabric_file.proofs.Readings.{reading-fabric, reading-named}
use Rattle.fabric_file.proofs.Names.{all-nth}
use Rattle.run_defs.specs.declared.command.Command.{Command}
use Rattle.run_defs.specs.declared.command.Command.TheVariants.{Map}
use Rattle.run_defs.specs.declared.line.MapWords.TheVariants.{Complete}
use Rattle.run_defs.specs.Script.{script_reading}
use Rattle.run_defs.specs.Deed.{session_after}
use Rattle.run_defs.specs.Session.{SessionState}
use Rattle.run_defs.specs.Headline.{FitsFabric}
use Rattle.fab_script.specs.Ranges.{IsCommandOf}
use Rattle.fab_script.proofs.Ranged.{reading_ranged}
use Rattle.run_laws.specs.Acts.{IsActOf}
use Rattle.print_laws.specs.Shown.{IsPrintedAfter}
use Rattle.print_laws.proofs.Shown.{complete_maps_are_one}
use Rattle.client_laws.proofs.Fronts.{polled-front}
use Rattle.client_laws.proofs.Returned.{events-of_tokens, polls-of_tokens}
use Rattle.promise_laws.proofs.Said.{said-command, said-act}
use Rattle.promise_laws.specs.Existence.{HasDone, HasRun}
use Rattle.promise_laws.proofs.Acting.{deeds_are_single_acts}
use Rattle.promise_laws.proofs.Moments.{reached_worlds_are_right}
use Rattle.promise_laws.proofs.ReceivedLines.{runs-receive_as_sent}
use Rattle.promise_laws.proofs.RunActs.{runs_are_their_acts}
use Rattle.promise_laws.proofs.Running.{each_command_is_done, run_exists}
use Rattle.input_texts.specs.Reading.{AcceptedText, reading_from, reading}
use Rattle.fabric_run.specs.Promise.{IsPromised, IsComplete}
use Rattle.fabric_run.proofs.Duos.{duos_promised}
use Rattle.fabric_run.proofs.Told.{lines-true}

-- An accepted text has a fabric, with names of the text's form, and its commands are over that fabric.
pub record IsOver (a : AcceptedText) : Type 0 where
  pub fabric : IsFabric a.network
  pub named : AreNamed a.network
  pub said : AllByRecursion (IsCommandOf a.network) a.commands

pub is-over : (text : List ℕ) (a : AcceptedText) → reading text ≡ Ok a → IsOver a
is-over text a e = by (fabric_reading text) refl e
  where
    of : (t : FabricText) → fabric_reading text ≡ Ok t → (r : Result (List Command) FirstFault) → script_reading t.fabric t.line (drop t.next text) ≡ r
        → and_then r (λ cs. Ok (record { network = t.fabric; commands = cs })) ≡ Ok a → IsOver a
    of t f (Ok cs) g e =
        let same : record { network = t.fabric; commands = cs } ≡ a = cc in
        subst IsOver same (record {
          fabric = reading-fabric text t f;
          named = reading-named text t f;
          said = reading_ranged t.fabric t.line (drop t.next text) (Ok cs) g;
        })
    of t f (Err k) g e = cc

    by : (r : Result FabricText FirstFault) → fabric_reading text ≡ r → and_then r (reading_from text) ≡ Ok a → IsOver a
    by (Ok t) f e = of t f (script_reading t.fabric t.line (drop t.next text)) refl e
    by (Err k) f e = cc

-- what holds of each holds of each of the first
pub all-take : {X : Type 0} (P : X → Type 0) (k : ℕ) (xs : List X) → AllByRecursion P xs → AllByRecursion P (take k xs)
all-take P zero xs all = tt
all-take P (suc k) [] all = tt
all-take P (suc k) (x ∷ xs) all = (all.0, all-take P k xs all.1)

-- every accepted text has its report
pub text-has_run : (text : List ℕ) (a : AcceptedText) → reading text ≡ Ok a → HasRun a.network a.commands
text-has_run text a e =
    let o : IsOver a = is-over text a e in
    run_exists a.network a.commands o.fabric (all-weaker (IsCommandOf a.network) (IsActOf a.network) a.commands (said-act a.network) o.said)

-- every accepted text keeps its promise
pub text_promised : (text : List ℕ) (a : AcceptedText) → reading text ≡ Ok a → IsPromised a
text_promised text a e =
    let o : IsOver a = is-over text a e in
    let n : Network = a.network in
    let cs : List Command = a.commands in
    let first : (k : ℕ) → AllByRecursion (IsCommandOf n) (take k cs) = λ k. all-take (IsCommandOf n) k cs o.said in
    let acts : (k : ℕ) → AllByRecursion (IsActOf n) (take k cs) = λ k. all-weaker (IsCommandOf n) (IsActOf n) (take k cs) (said-act n) (first k) in
    let says : (k : ℕ) (c : Command) → slice_get cs k ≡ Some c → IsCommandOf n c = λ k c at. all-nth (IsCommandOf n) cs k c o.said at in
    let after : (s : SessionState) (host : ℕ) (m : NetMap) (p : IsComplete a s host m) → IsPrintedAfter n (take p.is_next.count cs) host Complete m =
    λ s host m p. record {
      over = all-weaker (IsCommandOf n) (FitsFabric n) (take p.is_next.count cs) (said-command n) (first p.is_next.count);
      out = p.is_next.printed;
      session = s;
      run = p.is_next.run;
      depth = p.depth;
      tries = p.tries;
      of_fabric = said-command n (Map host p.depth p.tries) (says p.is_next.count (Map host p.depth p.tries) p.is_next.there);
      next = p.next;
      prints = p.prints;
    } in
    record {
      report = text-has_run text a e;
      steps = λ s c is.
          let done : HasDone s c = each_command_is_done n (take is.count cs) is.printed s c o.fabric (acts is.count) (said-act n c (says is.count c is.there)) is.run in
          record {
            done = done;
            acts = deeds_are_single_acts n (take is.count cs) is.printed s c done.deed o.fabric (acts is.count) (said-act n c (says is.count c is.there)) is.run done.is;
            lines = lines-true n (take is.count cs) is.printed s o.fabric o.named (first is.count) is.run c done.deed.output (session_after s done.deed) (says is.count c is.there) (record { deed = done.deed; is = done.is; prints = refl; leaves = refl });
          };
      one_map = λ s t host m k p q same. complete_maps_are_one n (take p.is_next.count cs) (take q.is_next.count cs) host m k o.fabric (after s host m p) (after t host k q) same;
      reached = λ k out last r. runs_are_their_acts n (take k cs) out last o.fabric (acts k) r;
      worlds = λ w is. reached_worlds_are_right n w is;
      received = λ k out last r. runs-receive_as_sent n (take k cs) out last o.fabric (acts k) r;
      polled = polled-front;
      returned = events-of_tokens;
      tokens = polls-of_tokens;
      duo = duos_promised a first says;
    }
