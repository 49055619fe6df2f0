-- A report that is written command by command.
use Rattle.std.proofs.Common.{◌≡◌, ◌<◌, true, false, Result, Ok, Err, is_err, OnErr, OnOk, true≢false, arith, ℕ, zero, suc, List, [], ◌∷◌, ◌++◌, length, take, get_or, Option, Some, ap, sym, subst, ◌∙◌, append_assoc, append-nil}
use Rattle.std.specs.Prelude.{slice_get}
use Rattle.std.specs.Io.KnownBytes.{Appends}
use Rattle.std.proofs.KnownBytes.{Appends-nil, Appends-trans}
use Rattle.net_defs.specs.Network.{Network}
use Rattle.fab_outer.specs.Whole.{TakesProperPrefix}
use Rattle.world_defs.specs.World.{fabric_of}
use Rattle.run_defs.specs.declared.command.Command.{Command}
use Rattle.run_defs.specs.Output.{Piece}
use Rattle.run_defs.specs.Session.{SessionState, new_session}
use Rattle.run_defs.specs.Run.{IsRun, Runs}
use Rattle.run_defs.specs.Run.Runs.{ended}
use Rattle.run_defs.specs.LineText.{output_text}
use Rattle.fab_report.specs.Printed.{PrintedState}
use Rattle.run_laws.proofs.RunsOnce.{runs-more, first_runs_are_part, text_of_both}
use Rattle.promise_laws.specs.CutShort.{IsCutShort}
use Rattle.promise_laws.specs.Duos.{IsDuoLeft}
use Rattle.promise_laws.specs.Existence.{HasRun}
use Rattle.run_session.specs.Obeyed.{IsObeyed}
use Rattle.input_texts.specs.Reading.{AcceptedText}
use Rattle.fabric_run.specs.Ends.{HasVerticesOf, HaveRun, IsPartOfReport, IsHalfWritten, IsInterrupted}
use Rattle.fabric_run.proofs.Naming.{output-named}

-- what an answer says at an `Err`, of one that is no `Ok`
pub on_err : {T E : Type 0} (r : Result T E) (P : Type 0) → true ≡ is_err r → OnErr r P → P
on_err (Ok x) P e h = absurd (true≢false e)
on_err (Err x) P e h = h

-- what an answer says at an `Ok`, of one that is no `Err`
pub on_ok : {T E : Type 0} (r : Result T E) (P : Type 0) → false ≡ is_err r → OnOk r P → P
on_ok (Ok x) P e h = h
on_ok (Err x) P e h = absurd (true≢false (sym e))

-- one more
pub take-one : {X : Type 0} (xs : List X) (i : ℕ) (x : X) → i < length xs → x ≡ get_or xs i x → take (suc i) xs ≡ take i xs ++ x ∷ []
take-one [] i x h e = absurd (omega arith)
take-one (y ∷ ys) zero x h e = ap (λ z. z ∷ []) (sym e)
take-one (y ∷ ys) (suc i) x h e = ap (λ zs. y ∷ zs) (take-one ys i x (omega arith) e)

-- nothing was taken where nothing ran
pub none-ran : (n : Network) (cs : List Command) (taken : Option (List ℕ)) (s : SessionState) → s ≡ new_session n → HaveRun n (take 0 cs) taken taken s
none-ran n cs taken s e = record {
  output = [];
  run = subst (λ t. Runs (new_session n) [] [] t) (sym e) ended;
  took = Appends-nil taken;
}

-- the text of what was printed before a command and by it
output-on : (n : Network) (s : SessionState) (before own : List Piece) → HasVerticesOf n s → output_text n (before ++ own) ≡ output_text n before ++ output_text (fabric_of s.world) own
output-on n s before own same = text_of_both n before own ∙ ap (λ l. output_text n before ++ l) (sym (output-named n s own same))

-- one command more ran, and its text was taken
pub more-ran : (n : Network) (cs : List Command) (i : ℕ) (taken between now : Option (List ℕ)) (s next : SessionState) (c : Command) (p : PrintedState) → i < length cs → c ≡ get_or cs i c
    → HaveRun n (take i cs) taken between s → HasVerticesOf n s → IsObeyed s c next p → Appends between now p.text → HaveRun n (take (suc i) cs) taken now next
more-ran n cs i taken between now s next c p low at ran same does took = record {
  output = ran.output ++ does.output;
  run = subst (λ l. Runs (new_session n) l (ran.output ++ does.output) next) (sym (take-one cs i c low at)) (runs-more c does.output ran.run does.does);
  took = subst (Appends taken now) (ap (λ (q : PrintedState). output_text n ran.output ++ q.text) does.printed ∙ sym (output-on n s ran.output does.output same))
      (Appends-trans taken between now (output_text n ran.output) p.text ran.took took);
}

-- the next command, by its place
some-at : {X : Type 0} (xs : List X) (i : ℕ) (x : X) → i < length xs → x ≡ get_or xs i x → slice_get xs i ≡ Some x
some-at [] i x h e = absurd (omega arith)
some-at (y ∷ ys) zero x h e = ap Some (sym e)
some-at (y ∷ ys) (suc i) x h e = some-at ys i x (omega arith) e

-- one command more ran, and the front of its text was taken
pub cut-ran : (n : Network) (cs : List Command) (i : ℕ) (taken between now : Option (List ℕ)) (s next : SessionState) (c : Command) (p : PrintedState) → i < length cs → c ≡ get_or cs i c
    → HaveRun n (take i cs) taken between s → HasVerticesOf n s → IsObeyed s c next p → TakesProperPrefix between now p.text
    → IsHalfWritten (record { network = n; commands = cs }) taken now next
cut-ran n cs i taken between now s next c p low at ran same does took = record {
  command = c;
  session = s;
  before = record { count = i; printed = ran.output; run = ran.run; there = some-at cs i c low at };
  output = does.output;
  does = does.does;
  middle = between;
  took_before = ran.took;
  took = subst (TakesProperPrefix between now) (ap (λ (q : PrintedState). q.text) does.printed ∙ output-named n s does.output same) took;
}

-- memory ran out for a command after the first ones
pub interrupted : (n : Network) (cs : List Command) (i : ℕ) (taken now : Option (List ℕ)) (s t : SessionState) (c : Command) → i < length cs → c ≡ get_or cs i c → HaveRun n (take i cs) taken now s
    → IsCutShort s c t.world → t.last_map ≡ s.last_map → t.last_routes ≡ s.last_routes → IsDuoLeft s c t.duo → IsInterrupted (record { network = n; commands = cs }) taken now t
interrupted n cs i taken now s t c low at ran cut made found duo = record {
  command = c;
  session = s;
  before = record { count = i; printed = ran.output; run = ran.run; there = some-at cs i c low at };
  took = ran.took;
  cut = cut;
  map_stays = made;
  routes_stay = found;
  duo_left = duo;
}

-- what first commands printed begins as what all commands print does
part-of-all : (a : AcceptedText) (r : HasRun a.network a.commands) (k : ℕ) (taken now : Option (List ℕ)) (s : SessionState) (out : List Piece) (part rest : List ℕ) → IsRun a.network (take k a.commands) out s
    → output_text a.network out ≡ part ++ rest → Appends taken now part → IsPartOfReport a taken now
part-of-all a r k taken now s out part rest run e took =
    let n : Network = a.network in
    let more = first_runs_are_part k (new_session n) s r.last a.commands out r.out run r.run in (
      r,
      (
        part,
        rest ++ output_text n more.0,
        ap (output_text n) more.1 ∙ text_of_both n out more.0 ∙ ap (λ l. l ++ output_text n more.0) e ∙ append_assoc part rest (output_text n more.0),
        took,
      ),
    )

-- one more command, by its place
pub take-next : {X : Type 0} (xs : List X) (i : ℕ) (x : X) → slice_get xs i ≡ Some x → take (suc i) xs ≡ take i xs ++ x ∷ []
take-next [] i x e = cc
take-next (y ∷ ys) zero x e = let same : y ≡ x = cc in ap (λ z. z ∷ []) same
take-next (y ∷ ys) (suc i) x e = ap (λ zs. y ∷ zs) (take-next ys i x e)

-- a prefix of the report was taken before a failed write
pub half-part : (a : AcceptedText) (taken now : Option (List ℕ)) (last : SessionState) → HasRun a.network a.commands → IsHalfWritten a taken now last → IsPartOfReport a taken now
half-part a taken now last r k =
    let n : Network = a.network in
    let b = k.before in
    let first : List ℕ = output_text n b.printed in
    let run : IsRun n (take (suc b.count) a.commands) (b.printed ++ k.output) last =
    subst (λ l. IsRun n l (b.printed ++ k.output) last) (sym (take-next a.commands b.count k.command b.there)) (runs-more k.command k.output b.run k.does) in
    let whole : output_text n (b.printed ++ k.output) ≡ (first ++ k.took.0) ++ k.took.1 =
    text_of_both n b.printed k.output ∙ ap (λ l. first ++ l) k.took.2 ∙ sym (append_assoc first k.took.0 k.took.1) in
    part-of-all a r (suc b.count) taken now last (b.printed ++ k.output) (first ++ k.took.0) k.took.1 run whole (Appends-trans taken k.middle now first k.took.0 k.took_before k.took.4)

-- and before memory ran out
pub interrupted-part : (a : AcceptedText) (taken now : Option (List ℕ)) (left : SessionState) → HasRun a.network a.commands → IsInterrupted a taken now left → IsPartOfReport a taken now
interrupted-part a taken now left r k =
    let b = k.before in
    let printed : List ℕ = output_text a.network b.printed in
    part-of-all a r b.count taken now k.session b.printed printed [] b.run (sym (append-nil printed)) k.took
