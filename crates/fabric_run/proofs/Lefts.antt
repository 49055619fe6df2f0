-- Injections are left to the end of every accepted text within the limit: it has no more commands than bytes.
use Rattle.std.proofs.Common.{◌≡◌, ◌≤◌, ◌+◌, ◌&&◌, ℕ, zero, suc, Bool, true, false, not, List, [], ◌∷◌, length, take, drop, Result, Ok, Err, refl, subst, arith, if◌then◌else◌}
use Rattle.net_defs.specs.Network.{Network}
use Rattle.fab_text.specs.declared.fault.FaultKind.{FaultKind}
use Rattle.fab_text.specs.Fault.{FirstFault, and_then, at_line}
use Rattle.fab_text.specs.Line.{TextLine, is_line_end, is_return, begins_with_end, onto_first_line, lines_from, words_of, says_nothing, saying, line_count}
use Rattle.fabric_file.specs.declared.reading.FabricText.{FabricText}
use Rattle.fabric_file.specs.Reading.{fabric_reading}
use Rattle.run_defs.specs.declared.command.Command.{Command}
use Rattle.run_defs.specs.declared.command.Command.TheVariants.{Finish}
use Rattle.run_defs.specs.Script.{command_of, is_end, ended, script_from, script_reading}
use Rattle.fab_script.specs.Ranges.{IsCommandOf}
use Rattle.injection_bounds.proofs.Running.{runs-inject-few}
use Rattle.input_texts.specs.Reading.{AcceptedText, input_limit, reading_from, reading}
use Rattle.fabric_run.specs.Left.{InjectionsAreLeft}
use Rattle.fabric_run.proofs.Promises.{IsOver, is-over, all-take}

-- a text has no more lines than bytes
onto-few : (number b : ℕ) (ls : List TextLine) (k : ℕ) → length ls ≤ k → length (onto_first_line number b ls) ≤ k + 1
onto-few number b [] k low = omega arith
onto-few number b (l ∷ ls) k low = omega (arith, low)

lines-few : (number : ℕ) (text : List ℕ) → length (lines_from number text) ≤ length text
lines-few number [] = omega arith
lines-few number (b ∷ bs) = by (is_line_end b) (is_return b && begins_with_end bs) (lines-few (number + 1) bs) (lines-few number bs)
  where
    by : (e r : Bool) → length (lines_from (number + 1) bs) ≤ length bs → length (lines_from number bs) ≤ length bs
        → length (if e then record { number = number; bytes = []; after = bs } ∷ lines_from (number + 1) bs else if r then lines_from number bs else onto_first_line number b (lines_from number bs)) ≤ length (b ∷ bs)
    by true r x y = omega (arith, x)
    by false true x y = omega (arith, y)
    by false false x y = let h = onto-few number b (lines_from number bs) (length bs) y in omega (arith, h)

saying-few : (ls : List TextLine) → length (saying ls) ≤ length ls
saying-few [] = omega arith
saying-few (l ∷ ls) = by (not (says_nothing (words_of l.bytes))) (saying-few ls)
  where
    by : (b : Bool) → length (saying ls) ≤ length ls → length (if b then l ∷ saying ls else saying ls) ≤ length (l ∷ ls)
    by true h = omega (arith, h)
    by false h = omega (arith, h)

-- a script has no more commands than lines
ended-few : (ls : List TextLine) (cs : List Command) (k : ℕ) → ended ls ≡ Ok cs → length cs ≤ k + 1
ended-few [] cs k e = let one : Finish ∷ [] ≡ cs = cc in subst (λ (ds : List Command). length ds ≤ k + 1) one (omega arith)
ended-few (l ∷ ls) cs k e = cc

script-few : (past : ℕ) (n : Network) (ls : List TextLine) (cs : List Command) → script_from past n ls ≡ Ok cs → length cs ≤ length ls
script-few past n [] cs e = cc
script-few past n (l ∷ ls) cs e = by (is_end (words_of l.bytes)) (script-few past n ls) e
  where
    more : (r : Result Command FaultKind) (rest : Result (List Command) FirstFault) → ((ds : List Command) → rest ≡ Ok ds → length ds ≤ length ls)
        → and_then (at_line l.number r) (λ c. and_then rest (λ ds. Ok (c ∷ ds))) ≡ Ok cs → length cs ≤ length (l ∷ ls)
    more (Ok c) (Ok ds) q e = let one : c ∷ ds ≡ cs = cc in let h = q ds refl in subst (λ (xs : List Command). length xs ≤ length (l ∷ ls)) one (omega (arith, h))
    more (Ok c) (Err f) q e = cc
    more (Err k) rest q e = cc

    by : (b : Bool) → ((ds : List Command) → script_from past n ls ≡ Ok ds → length ds ≤ length ls)
        → (if b then ended ls else and_then (at_line l.number (command_of n (words_of l.bytes))) (λ c. and_then (script_from past n ls) (λ ds. Ok (c ∷ ds)))) ≡ Ok cs → length cs ≤ length (l ∷ ls)
    by true q e = let h = ended-few ls cs (length ls) e in omega (arith, h)
    by false q e = more (command_of n (words_of l.bytes)) (script_from past n ls) q e

drop-few : {X : Type 0} (k : ℕ) (xs : List X) → length (drop k xs) ≤ length xs
drop-few zero xs = omega arith
drop-few (suc k) [] = omega arith
drop-few (suc k) (x ∷ xs) = let h = drop-few k xs in omega (arith, h)

commands-few : (text : List ℕ) (a : AcceptedText) → reading text ≡ Ok a → length a.commands ≤ length text
commands-few text a e = by (fabric_reading text) e
  where
    of : (t : FabricText) (r : Result (List Command) FirstFault) → script_reading t.fabric t.line (drop t.next text) ≡ r
        → and_then r (λ cs. Ok (record { network = t.fabric; commands = cs })) ≡ Ok a → length a.commands ≤ length text
    of t (Ok cs) g e =
        let same : record { network = t.fabric; commands = cs } ≡ a = cc in
        let rest : List ℕ = drop t.next text in
        let lines = lines-few (t.line + 1) rest in
        let said = saying-few (lines_from (t.line + 1) rest) in
        let commands = script-few (t.line + line_count rest + 1) t.fabric (saying (lines_from (t.line + 1) rest)) cs g in
        let short = drop-few t.next text in
        subst (λ (x : AcceptedText). length x.commands ≤ length text) same (omega (arith, lines, said, commands, short))
    of t (Err k) g e = cc

    by : (r : Result FabricText FirstFault) → and_then r (reading_from text) ≡ Ok a → length a.commands ≤ length text
    by (Ok t) e = of t (script_reading t.fabric t.line (drop t.next text)) refl e
    by (Err k) e = cc

take-few : {X : Type 0} (k : ℕ) (xs : List X) → length (take k xs) ≤ length xs
take-few zero xs = omega arith
take-few (suc k) [] = omega arith
take-few (suc k) (x ∷ xs) = let h = take-few k xs in omega (arith, h)

-- after the first commands
module _ (text : List ℕ) (a : AcceptedText) (within : length text ≤ input_limit) (e : reading text ≡ Ok a) where
  few : length a.commands ≤ 1048576
  few = let h = commands-few text a e in omega (arith, h, within)

  pub injections-left : InjectionsAreLeft a
  injections-left k out last r =
      let o : IsOver a = is-over text a e in
      let cost = runs-inject-few a.network (take k a.commands) out last o.fabric (all-take (IsCommandOf a.network) k a.commands o.said) r in
      let some = take-few k a.commands in
      omega (arith, cost, some, few)
