-- A text that ends with LF is read with the same fabric and the same commands where lines follow it, which are left.
use Rattle.std.proofs.Common.{◌≡◌, ◌≤◌, ◌+◌, ◌-◌, ◌++◌, ◌&&◌, ◌||◌, ◌⊎◌, inl, inr, ℕ, zero, suc, List, [], ◌∷◌, map, length, drop, Bool, true, false, not, cond, Result, Ok, Err, refl, ap, sym, subst, ◌∙◌, append_assoc, length-append, true≢false, arith, if◌then◌else◌}
use Rattle.std.specs.Prelude.{codes, bytes_eq}
use Rattle.std.specs.List.{AllByRecursion}
use Rattle.std.proofs.lemmas.Slice.Eq.{bytes_eq-Decides}
use Rattle.net_defs.specs.declared.vertex.End.{End}
use Rattle.net_defs.specs.Network.{Network}
use Rattle.net_defs.specs.Building.{vertex_named}
use Rattle.fab_text.specs.declared.fault.FaultKind.{FaultKind}
use Rattle.fab_text.specs.declared.fault.FaultKind.TheVariants.{BadWord}
use Rattle.fab_text.specs.Line.{TextLine, lines_from, saying, says_nothing, is_line_end, is_return, begins_with_end, onto_first_line, words_of}
use Rattle.fab_text.specs.Fault.{FirstFault, at_line, and_then}
use Rattle.fabric_file.specs.declared.reading.FabricText.{FabricText}
use Rattle.fabric_file.specs.Declaring.{declared, is_script}
use Rattle.fabric_file.specs.Reading.{fabric_from}
use Rattle.run_defs.specs.declared.command.Command.{Command}
use Rattle.run_defs.specs.declared.command.Command.TheVariants.{Finish, Plan, Duo}
use Rattle.run_defs.specs.declared.command.PlanKind.TheVariants.{Pull as PlanPull}
use Rattle.duo_defs.specs.declared.event.DuoEvent.{DuoEvent}
use Rattle.duo_defs.specs.declared.event.DuoEvent.TheVariants.{Emit, Deliver, Expire, Poll, Restart}
use Rattle.run_defs.specs.Script.{Value, Name, Number, LineKind, said_by, command_by, by_second, command_as, command_of, is_end, ended, script_from, duo_kinds, plan_kinds, duo_meant, duo_send_meant, duo_provide_meant, plan_pull_meant, end_at, OfName, of_ahead, of_switch_port}
use Rattle.fab_script.specs.Parts.{ScriptPart, before_part, is_unjudged, begins_with, allowed_command, front_part}
use Rattle.judge_laws.specs.Answers.{lines_at}
use Rattle.judge_laws.specs.Commands.{is_judged, PlansNoPull}
use Rattle.judge_laws.proofs.Maps.{begins-same, saying-more}

-- a line with more text after it
abbrev pub longer : List ℕ → TextLine → TextLine
longer rest l = record l { after = l.after ++ rest }

-- The lines of bytes up to an LF, and the same where others follow.
record IsLonger (k : ℕ) (bytes rest : List ℕ) : Type 0 where
  pub first : TextLine
  pub more : List TextLine
  pub next : ℕ
  pub alone : lines_from k (bytes ++ 10 ∷ []) ≡ first ∷ more
  pub whole : lines_from k (bytes ++ 10 ∷ rest) ≡ map (longer rest) (first ∷ more) ++ lines_from next rest

longer-by : (b : ℕ) (bs : List ℕ) (k : ℕ) (rest : List ℕ) (e r : Bool) → is_line_end b ≡ e → (is_return b && begins_with_end (bs ++ 10 ∷ rest)) ≡ r → IsLonger (k + 1) bs rest → IsLonger k bs rest → IsLonger k (b ∷ bs) rest
longer-by b bs k rest true r p q c same =
    let long = bs ++ 10 ∷ rest in
    let short = bs ++ 10 ∷ [] in
    let x : TextLine = record { number = k; bytes = []; after = short } in
    let y : TextLine = record { number = k; bytes = []; after = long } in
    let joined : long ≡ short ++ rest = sym (append_assoc bs (10 ∷ []) rest) in
    record {
      first = x;
      more = c.first ∷ c.more;
      next = c.next;
      alone = (λ i. if p i then x ∷ lines_from (k + 1) short else if is_return b && begins_with_end short then lines_from k short else onto_first_line k b (lines_from k short)) ∙ ap (λ ls. x ∷ ls) c.alone;
      whole = (λ i. if p i then y ∷ lines_from (k + 1) long else if is_return b && begins_with_end long then lines_from k long else onto_first_line k b (lines_from k long))
          ∙ ap (λ ls. y ∷ ls) c.whole
          ∙ (λ i. record { number = k; bytes = []; after = joined i } ∷ (map (longer rest) (c.first ∷ c.more) ++ lines_from c.next rest));
    }
longer-by b bs k rest false true p q d c =
    let long = bs ++ 10 ∷ rest in
    let short = bs ++ 10 ∷ [] in
    let x : TextLine = record { number = k; bytes = []; after = short } in
    let y : TextLine = record { number = k; bytes = []; after = long } in
    let other : (is_return b && begins_with_end short) ≡ true = ap (λ t. is_return b && t) (sym (begins-same bs rest)) ∙ q in
    record {
      first = c.first;
      more = c.more;
      next = c.next;
      alone = (λ i. if p i then x ∷ lines_from (k + 1) short else if other i then lines_from k short else onto_first_line k b (lines_from k short)) ∙ c.alone;
      whole = (λ i. if p i then y ∷ lines_from (k + 1) long else if q i then lines_from k long else onto_first_line k b (lines_from k long)) ∙ c.whole;
    }
longer-by b bs k rest false false p q d c =
    let long = bs ++ 10 ∷ rest in
    let short = bs ++ 10 ∷ [] in
    let x : TextLine = record { number = k; bytes = []; after = short } in
    let y : TextLine = record { number = k; bytes = []; after = long } in
    let other : (is_return b && begins_with_end short) ≡ false = ap (λ t. is_return b && t) (sym (begins-same bs rest)) ∙ q in
    record {
      first = record c.first { bytes = b ∷ c.first.bytes };
      more = c.more;
      next = c.next;
      alone = (λ i. if p i then x ∷ lines_from (k + 1) short else if other i then lines_from k short else onto_first_line k b (lines_from k short)) ∙ ap (onto_first_line k b) c.alone;
      whole = (λ i. if p i then y ∷ lines_from (k + 1) long else if q i then lines_from k long else onto_first_line k b (lines_from k long)) ∙ ap (onto_first_line k b) c.whole;
    }

longer-lines : (bytes : List ℕ) (k : ℕ) (rest : List ℕ) → IsLonger k bytes rest
longer-lines [] k rest = record { first = record { number = k; bytes = []; after = [] }; more = []; next = k + 1; alone = refl; whole = refl }
longer-lines (b ∷ bs) k rest = longer-by b bs k rest (is_line_end b) (is_return b && begins_with_end (bs ++ 10 ∷ rest)) refl refl (longer-lines bs (k + 1) rest) (longer-lines bs k rest)

-- blank lines and comments fall out of both
longer-saying : (rest : List ℕ) (ls : List TextLine) → saying (map (longer rest) ls) ≡ map (longer rest) (saying ls)
longer-saying rest [] = refl
longer-saying rest (l ∷ ls) = by (not (says_nothing (words_of l.bytes))) (longer-saying rest ls)
  where
    by : (t : Bool) → saying (map (longer rest) ls) ≡ map (longer rest) (saying ls) → cond t (longer rest l ∷ saying (map (longer rest) ls)) (saying (map (longer rest) ls)) ≡ map (longer rest) (cond t (l ∷ saying ls) (saying ls))
    by true e = ap (λ xs. longer rest l ∷ xs) e
    by false e = e

-- The lines that say something, of a text that ends with LF.
pub record IsBefore (k : ℕ) (text rest : List ℕ) : Type 0 where
  pub next : ℕ
  pub whole : lines_at k (text ++ rest) ≡ map (longer rest) (lines_at k text) ++ lines_at next rest

pub ended-before : (k : ℕ) (bytes rest : List ℕ) → IsBefore k (bytes ++ 10 ∷ []) rest
ended-before k bytes rest =
    let c = longer-lines bytes k rest in
    let ls = c.first ∷ c.more in record {
      next = c.next;
      whole = ap (lines_at k) (append_assoc bytes (10 ∷ []) rest) ∙ ap saying c.whole ∙ saying-more (map (longer rest) ls) (lines_from c.next rest)
          ∙ (λ i. (longer-saying rest ls ∙ ap (λ xs. map (longer rest) (saying xs)) (sym c.alone)) i ++ lines_at c.next rest);
    }

-- two values that were read
same-Ok : {X E : Type 0} {x y : X} → ◌≡◌ {A = Result X E} (Ok x) (Ok y) → x ≡ y
same-Ok e = cc

-- the fabric part
later-next : (size after more : ℕ) → (size + more) - (after + more) ≡ size - after
later-next size after more = omega arith

fabric-by : (size past other : ℕ) (n : Network) (x : TextLine) (xs back : List TextLine) (rest : List ℕ) (t : FabricText) (script : Bool) (d : Result Network FaultKind)
    → ((m : Network) → fabric_from size past m xs ≡ Ok t → fabric_from (size + length rest) other m (map (longer rest) xs ++ back) ≡ Ok t)
    → (if script then Ok (record { fabric = n; next = size - length x.after; line = x.number }) else and_then (at_line x.number d) (λ m. fabric_from size past m xs)) ≡ Ok t
    → (if script then Ok (record { fabric = n; next = (size + length rest) - length (x.after ++ rest); line = x.number }) else and_then (at_line x.number d) (λ m. fabric_from (size + length rest) other m (map (longer rest) xs ++ back))) ≡ Ok t
fabric-by size past other n x xs back rest t true d later e =
    let same : (size + length rest) - length (x.after ++ rest) ≡ size - length x.after = ap (λ k. (size + length rest) - k) (length-append x.after rest) ∙ later-next size (length x.after) (length rest) in
    (λ i. Ok (record { fabric = n; next = same i; line = x.number })) ∙ e
fabric-by size past other n x xs back rest t false (Ok m) later e = later m e
fabric-by size past other n x xs back rest t false (Err kind) later e = cc

pub fabric-before : (size past other : ℕ) (n : Network) (xs back : List TextLine) (rest : List ℕ) (t : FabricText) → fabric_from size past n xs ≡ Ok t → fabric_from (size + length rest) other n (map (longer rest) xs ++ back) ≡ Ok t
fabric-before size past other n [] back rest t e = cc
fabric-before size past other n (x ∷ xs) back rest t e =
    fabric-by size past other n x xs back rest t (is_script (words_of x.bytes)) (declared n (words_of x.bytes)) (λ m. fabric-before size past other m xs back rest t) e

-- where the script begins
next-by : (size past : ℕ) (n : Network) (x : TextLine) (xs : List TextLine) (t : FabricText) (script : Bool) (d : Result Network FaultKind) → ((m : Network) → fabric_from size past m xs ≡ Ok t → t.next ≤ size)
    → (if script then Ok (record { fabric = n; next = size - length x.after; line = x.number }) else and_then (at_line x.number d) (λ m. fabric_from size past m xs)) ≡ Ok t → t.next ≤ size
next-by size past n x xs t true d later e =
    let got : FabricText = record { fabric = n; next = size - length x.after; line = x.number } in
    let one : got ≡ t = cc in
    subst (λ (y : FabricText). y.next ≤ size) one (omega arith)
next-by size past n x xs t false (Ok m) later e = later m e
next-by size past n x xs t false (Err kind) later e = cc

pub next-inside : (size past : ℕ) (n : Network) (xs : List TextLine) (t : FabricText) → fabric_from size past n xs ≡ Ok t → t.next ≤ size
next-inside size past n [] t e = cc
next-inside size past n (x ∷ xs) t e = next-by size past n x xs t (is_script (words_of x.bytes)) (declared n (words_of x.bytes)) (λ m. next-inside size past m xs t) e

-- the rest of a text that ends with LF ends with it, or nothing is left
pub drop-more : (k : ℕ) (xs ys : List ℕ) → k ≤ length xs → drop k (xs ++ ys) ≡ drop k xs ++ ys
drop-more zero xs ys low = refl
drop-more (suc k) [] ys low = absurd (omega arith)
drop-more (suc k) (x ∷ xs) ys low = drop-more k xs ys (omega arith)

pub drop-ended : (k : ℕ) (bytes : List ℕ) → ((tail : List ℕ) × (drop k (bytes ++ 10 ∷ []) ≡ tail ++ 10 ∷ [])) ⊎ (drop k (bytes ++ 10 ∷ []) ≡ [])
drop-ended zero bytes = inl (bytes, refl)
drop-ended (suc zero) [] = inr refl
drop-ended (suc (suc k)) [] = inr refl
drop-ended (suc k) (b ∷ bs) = drop-ended k bs

-- the lines of the script
abbrev OfDuo : Command → Type 0
OfDuo c = is_judged c ≡ false

duo-one : (happens : ℕ → DuoEvent) (n : Network) (vs : List Value) (c : Command) → duo_meant happens n vs ≡ Ok c → OfDuo c
duo-one happens n [] c e = cc
duo-one happens n (Name w ∷ vs) c e = cc
duo-one happens n (Number x ∷ []) c e = let one : Duo (happens x) ≡ c = cc in subst OfDuo one refl
duo-one happens n (Number x ∷ v ∷ vs) c e = cc

duo-send : (n : Network) (vs : List Value) (c : Command) → duo_send_meant n vs ≡ Ok c → OfDuo c
duo-send n [] c e = cc
duo-send n (Name w ∷ vs) c e = cc
duo-send n (Number x ∷ []) c e = cc
duo-send n (Number x ∷ Name w ∷ vs) c e = cc
duo-send n (Number x ∷ Number y ∷ []) c e = cc
duo-send n (Number x ∷ Number y ∷ Name w ∷ vs) c e = cc
duo-send n (Number x ∷ Number y ∷ Number z ∷ []) c e = subst OfDuo (same-Ok e) refl
duo-send n (Number x ∷ Number y ∷ Number z ∷ v ∷ vs) c e = cc

duo-provide : (n : Network) (vs : List Value) (c : Command) → duo_provide_meant n vs ≡ Ok c → OfDuo c
duo-provide n [] c e = cc
duo-provide n (Name w ∷ vs) c e = cc
duo-provide n (Number x ∷ []) c e = cc
duo-provide n (Number x ∷ Name w ∷ vs) c e = cc
duo-provide n (Number x ∷ Number y ∷ []) c e = subst OfDuo (same-Ok e) refl
duo-provide n (Number x ∷ Number y ∷ v ∷ vs) c e = cc

-- what holds of each command that a kind of line may mean
abbrev Means : Network → (Command → Type 0) → LineKind → Type 0
Means n P k = (vs : List Value) (c : Command) → k.meaning n vs ≡ Ok c → P c

said-means : (n : Network) (P : Command → Type 0) (k : LineKind) (r : Result (List Value) FaultKind) (c : Command) → Means n P k → and_then r (k.meaning n) ≡ Ok c → P c
said-means n P k (Ok vs) c means e = means vs c e
said-means n P k (Err kind) c means e = cc

by-kinds : (n : Network) (P : Command → Type 0) (ks : List LineKind) (first : List ℕ) (args : List (List ℕ)) (c : Command) → AllByRecursion (Means n P) ks → command_by n ks first args ≡ Ok c → P c
by-kinds n P [] first args c all e = cc
by-kinds n P (k ∷ ks) first args c all e = by (bytes_eq first k.word) (by-kinds n P ks first args c all.1) e
  where
    by : (b : Bool) → (command_by n ks first args ≡ Ok c → P c) → (if b then and_then (said_by k.forms args) (k.meaning n) else command_by n ks first args) ≡ Ok c → P c
    by true later e = said-means n P k (said_by k.forms args) c all.0 e
    by false later e = later e

-- a line `duo` is a command of the two hosts that restart
duo-words : (n : Network) (args : List (List ℕ)) (c : Command) → command_as n (codes "duo") args ≡ Ok c → OfDuo c
duo-words n [] c e = cc
duo-words n (second ∷ args) c e =
    by-kinds n OfDuo duo_kinds second args c (duo-send n, (duo-provide n, (duo-one Emit n, (duo-one Deliver n, (duo-one Expire n, (duo-one Poll n, (duo-one Restart n, tt))))))) e

-- a line `plan pull` plans a pull
pull-meant : (n : Network) (vs : List Value) (c : Command) → plan_pull_meant n vs ≡ Ok c → PlansNoPull c → ⊥
pull-meant n [] c e safe = cc
pull-meant n (Name w ∷ vs) c e safe = cc
pull-meant n (Number ahead ∷ []) c e safe = cc
pull-meant n (Number ahead ∷ Number y ∷ vs) c e safe = cc
pull-meant n (Number ahead ∷ Name v ∷ []) c e safe = cc
pull-meant n (Number ahead ∷ Name v ∷ Name w ∷ vs) c e safe = cc
pull-meant n (Number ahead ∷ Name v ∷ Number p ∷ []) c e safe = by (end_at n (vertex_named n v) p) e
  where
    by : (r : Result End FaultKind) → and_then r (λ at. Ok (Plan ahead (PlanPull at))) ≡ Ok c → ⊥
    by (Ok at) e = subst PlansNoPull (sym (same-Ok e)) safe
    by (Err kind) e = cc
pull-meant n (Number ahead ∷ Name v ∷ Number p ∷ w ∷ vs) c e safe = cc

pull-words : (n : Network) (args : List (List ℕ)) (c : Command) → by_second n plan_kinds (codes "pull" ∷ args) ≡ Ok c → PlansNoPull c → ⊥
pull-words n args c e safe = by (said_by (of_ahead ∷ OfName ∷ of_switch_port ∷ []) args) e
  where
    by : (r : Result (List Value) FaultKind) → and_then r (plan_pull_meant n) ≡ Ok c → ⊥
    by (Ok vs) e = pull-meant n vs c e safe
    by (Err kind) e = cc

-- a line `plan` that plans no pull isn't `plan pull`
plan-judged : (n : Network) (args : List (List ℕ)) (c : Command) → by_second n plan_kinds args ≡ Ok c → PlansNoPull c → begins_with (codes "pull") args ≡ false
plan-judged n [] c e safe = refl
plan-judged n (second ∷ args) c e safe = by (bytes_eq second (codes "pull")) refl
  where
    by : (t : Bool) → bytes_eq second (codes "pull") ≡ t → t ≡ false
    by true p = absurd (pull-words n args c (subst (λ w. by_second n plan_kinds (w ∷ args) ≡ Ok c) ((bytes_eq-Decides second (codes "pull")).0 p) e) safe)
    by false p = refl

-- so a line of a command of the network that plans no pull is one that is judged
judged-first : (n : Network) (first : List ℕ) (args : List (List ℕ)) (c : Command) → command_as n first args ≡ Ok c → is_judged c ≡ true → PlansNoPull c → (duo plan : Bool) → bytes_eq first (codes "duo") ≡ duo → bytes_eq first (codes "plan") ≡ plan
    → (duo || (plan && begins_with (codes "pull") args)) ≡ false
judged-first n first args c e kind safe true plan d p =
    let same = (bytes_eq-Decides first (codes "duo")).0 d in
    absurd (true≢false (sym kind ∙ duo-words n args c (subst (λ w. command_as n w args ≡ Ok c) same e)))
judged-first n first args c e kind safe false false d p = refl
judged-first n first args c e kind safe false true d p = plan-judged n args c (subst (λ w. command_as n w args ≡ Ok c) ((bytes_eq-Decides first (codes "plan")).0 p) e) safe

judged-words : (n : Network) (ws : List (List ℕ)) (c : Command) → command_of n ws ≡ Ok c → is_judged c ≡ true → PlansNoPull c → is_unjudged ws ≡ false
judged-words n [] c e kind safe = refl
judged-words n (first ∷ args) c e kind safe = judged-first n first args c e kind safe (bytes_eq first (codes "duo")) (bytes_eq first (codes "plan")) refl refl

-- The commands of a script are those of the first lines, and those after them are left.
pub record IsFront (n : Network) (other : ℕ) (ls back : List TextLine) (cs : List Command) : Type 0 where
  pub front : List Command
  pub with_last : cs ≡ front ++ Finish ∷ []
  pub read : front_part false other n ls ≡ Ok (record { commands = front; after = back })

abbrev front_words : ℕ → Network → ℕ → List TextLine → Bool → Result Command FaultKind → Result ScriptPart FirstFault
front_words other n number ls b d = if b then Ok (record { commands = []; after = ls }) else and_then (at_line number d) (λ c. and_then (front_part false other n ls) (before_part c))

allowed : (n : Network) (ws : List (List ℕ)) (c : Command) → command_of n ws ≡ Ok c → is_judged c ≡ true → PlansNoPull c → allowed_command false n ws ≡ Ok c
allowed n ws c e kind safe = let judged = judged-words n ws c e kind safe in (λ i. if judged i then Err BadWord else command_of n ws) ∙ e

script-more : (past other : ℕ) (n : Network) (x : TextLine) (xs back : List TextLine) (rest : List ℕ) (cs : List Command) (b : Bool) (d : Result Command FaultKind) (r : Result (List Command) FirstFault) → is_end (words_of x.bytes) ≡ b → command_of n (words_of x.bytes) ≡ d → script_from past n xs ≡ r
    → AllByRecursion (λ c. is_judged c ≡ true) cs → AllByRecursion PlansNoPull cs
    → ((ds : List Command) → script_from past n xs ≡ Ok ds → AllByRecursion (λ c. is_judged c ≡ true) ds → AllByRecursion PlansNoPull ds → IsFront n other (map (longer rest) xs ++ back) back ds)
    → (if b then ended xs else and_then (at_line x.number d) (λ c. and_then r (λ cs. Ok (c ∷ cs)))) ≡ Ok cs → IsFront n other (map (longer rest) (x ∷ xs) ++ back) back cs
script-more past other n x [] back rest cs true d r p q s kinds safe later e =
    record { front = []; with_last = sym (same-Ok e); read = λ i. front_words other n x.number back (p i) (allowed_command false n (words_of x.bytes)) }
script-more past other n x (y ∷ ys) back rest cs true d r p q s kinds safe later e = cc
script-more past other n x xs back rest cs false (Err kind) r p q s kinds safe later e = cc
script-more past other n x xs back rest cs false (Ok c) (Err fault) p q s kinds safe later e = cc
script-more past other n x xs back rest cs false (Ok c) (Ok ds) p q s kinds safe later e =
    let one : c ∷ ds ≡ cs = same-Ok e in
    let all = subst (AllByRecursion (λ c. is_judged c ≡ true)) (sym one) kinds in
    let none = subst (AllByRecursion PlansNoPull) (sym one) safe in
    let f = later ds s all.1 none.1 in
    let ls = map (longer rest) xs ++ back in
    let own = allowed n (words_of x.bytes) c q all.0 none.0 in
    record {
      front = c ∷ f.front;
      with_last = sym one ∙ ap (λ l. c ∷ l) f.with_last;
      read = (λ i. front_words other n x.number ls (p i) (own i)) ∙ ap (λ (o : Result ScriptPart FirstFault). and_then o (before_part c)) f.read;
    }

pub script-before : (past other : ℕ) (n : Network) (xs back : List TextLine) (rest : List ℕ) (cs : List Command) → script_from past n xs ≡ Ok cs → AllByRecursion (λ c. is_judged c ≡ true) cs → AllByRecursion PlansNoPull cs
    → IsFront n other (map (longer rest) xs ++ back) back cs
script-before past other n [] back rest cs e kinds safe = cc
script-before past other n (x ∷ xs) back rest cs e kinds safe =
    script-more past other n x xs back rest cs (is_end (words_of x.bytes)) (command_of n (words_of x.bytes)) (script_from past n xs) refl refl refl kinds safe (λ ds. script-before past other n xs back rest ds) e
