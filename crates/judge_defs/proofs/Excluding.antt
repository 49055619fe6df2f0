-- No report is judged yes and no, and one line at most fails first.
use Rattle.std.proofs.Common.{◌≡◌, ◌≢◌, ℕ, suc, List, [], ◌∷◌, ◌++◌, length, Option, Some, None, Result, Ok, Err, refl, ap, sym, ◌∙◌, subst}
use Rattle.std.specs.Prelude.{slice_get}
use Rattle.std.specs.List.{AllByRecursion}
use Rattle.net_defs.specs.declared.route.Route.{Route as HostRoute}
use Rattle.net_defs.specs.Network.{Network}
use Rattle.fab_text.specs.Line.{TextLine}
use Rattle.map_defs.specs.declared.rank.RankEntry.{RankEntry}
use Rattle.map_defs.specs.NetMap.{NetMap}
use Rattle.run_defs.specs.declared.command.Command.{Command}
use Rattle.answer_defs.specs.declared.why.Why.{Why}
use Rattle.port_ledgers.specs.Told.{AreInOrder}
use Rattle.answer_defs.specs.Answer.{Answer, Alone, WithMap, WithRoutes, WithTables, WithBroken, Answered, answered, complete_map, told, fabric_after}
use Rattle.answer_defs.specs.Right.{LeadsBetween, HoldOn, MapIsTrue, MessagesAreTrue, TokensAreTrue, IsRight}
use Rattle.answer_defs.specs.Failing.{RoutesFail, no_map, not_whole, astray, falling, Fails, map_fails, routes_fail, message_fails, token_fails}
use Rattle.judge_defs.specs.Form.{known_by, answer_from}
use Rattle.judge_defs.specs.Verdict.{AreJudgedYes, ended, goes_on, FailsFirst, more, unread, here, later}
use Rattle.judge_defs.specs.Text.{judged_text, IsJudgedYes, FailsFirstIn}

same-value : {X E : Type 0} (r : Result X E) (x y : X) → r ≡ Ok x → r ≡ Ok y → x ≡ y
same-value r x y e f = cc

at-middle : {X : Type 0} (P : X → Type 0) (front back : List X) (x : X) → AllByRecursion P (front ++ x ∷ back) → P x
at-middle P [] back x all = all.0
at-middle P (y ∷ front) back x all = at-middle P front back x all.1

routes-hold : (shown : Option NetMap) (found : List HostRoute) (ranks : List RankEntry) {place : ℕ} {why : Why} → RoutesFail shown found ranks place why → HoldOn shown found ranks → ⊥
routes-hold None found ranks f h = h
routes-hold (Some m) found ranks (not_whole wrong) h = wrong h.whole
routes-hold (Some m) found ranks (astray front back r w e before wrong) h = wrong (at-middle (LeadsBetween m) front back r (subst (AllByRecursion (LeadsBetween m)) e h.lead))
routes-hold (Some m) found ranks (falling w lead wrong) h = wrong h.rise

fails-wrong : (n : Network) (before : List Answered) (c : Command) (a : Answer) {place : ℕ} {why : Why} → Fails n before c a place why → IsRight n before (answered c a) → ⊥
fails-wrong n before c a (map_fails wrong) right = wrong right.maps
fails-wrong n before c (WithRoutes found ranks) (routes_fail f) right = routes-hold (complete_map before) found ranks f right.routes
fails-wrong n before c a (message_fails wrong) right = wrong right.messages
fails-wrong n before c a (token_fails fine wrong) right = wrong right.tokens

-- with no command left only no line is judged yes, and some line is wrong
none-left : (n : Network) (past : ℕ) (before : List Answered) (ls : List TextLine) → AreJudgedYes n past before [] ls → ls ≡ []
none-left n past before [] ended = refl
none-left n past before (l ∷ ls) y = elim y [ ]

some-left : (n : Network) (past : ℕ) (before : List Answered) (ls : List TextLine) {line : ℕ} {why : Why} → FailsFirst n past before [] ls line why → ls ≢ []
some-left n past before [] f = elim f [ ]
some-left n past before (l ∷ ls) more = λ e. cc

one-answer : (r : Result (Answer × List TextLine) ℕ) (a b : Answer) (rest left : List TextLine) → r ≡ Ok (a, rest) → r ≡ Ok (b, left) → (a ≡ b) × (rest ≡ left)
one-answer r a b rest left e f =
    let p : Answer × List TextLine = (a, rest) in
    let q : Answer × List TextLine = (b, left) in
    let same : p ≡ q = same-value r p q e f in
    (ap (λ (x : Answer × List TextLine). x.0) same, ap (λ (x : Answer × List TextLine). x.1) same)

yes-no : (n : Network) (past : ℕ) (before : List Answered) (cs : List Command) (ls : List TextLine) {line : ℕ} {why : Why} → AreJudgedYes n past before cs ls → FailsFirst n past before cs ls line why → ⊥
yes-no n past before [] ls y f = some-left n past before ls f (none-left n past before ls y)
yes-no n past before (c ∷ cs) ls (goes_on a rest e right others) (unread f) = cc
yes-no n past before (c ∷ cs) ls (goes_on a rest e right others) (here b left place l f fails at) =
    let same = one-answer (answer_from c (known_by n before) past n ls) a b rest left e f in
    fails-wrong n before c b fails (subst (λ x. IsRight n before (answered c x)) same.0 right)
yes-no n past before (c ∷ cs) ls (goes_on a rest e right others) (later b left f holds fails) =
    let same = one-answer (answer_from c (known_by n before) past n ls) a b rest left e f in
    let others : AreJudgedYes n past (answered c a ∷ before) cs left = subst (λ k. AreJudgedYes n past (answered c a ∷ before) cs k) same.1 others in
    yes-no n past (answered c b ∷ before) cs left (subst (λ x. AreJudgedYes n past (answered c x ∷ before) cs left) same.0 others) fails

-- a text with its report isn't judged yes where a line is the first that fails
pub text_yes_no : (text : List ℕ) (line : ℕ) (why : Why) → IsJudgedYes text → FailsFirstIn text line why → ⊥
text_yes_no text line why y f =
    let same : y.judged ≡ f.judged = same-value (judged_text text) y.judged f.judged y.said f.said in
    yes-no f.judged.network f.judged.past [] f.judged.commands f.judged.report
    (subst (λ j. AreJudgedYes j.network j.past [] j.commands j.report) same y.yes) f.fails

-- ---- one line fails first

-- the first element that isn't so is at one place
front-one : {X : Type 0} (P : X → Type 0) (f g : List X) (r s : X) (b d : List X) → f ++ r ∷ b ≡ g ++ s ∷ d → AllByRecursion P f → AllByRecursion P g → ¬ P r → ¬ P s → length f ≡ length g
front-one P [] [] r s b d e lf lg nr ns = refl
front-one P [] (y ∷ g) r s b d e lf lg nr ns = let same : y ≡ r = cc in absurd (nr (subst P same lg.0))
front-one P (x ∷ f) [] r s b d e lf lg nr ns = let same : x ≡ s = cc in absurd (ns (subst P same lf.0))
front-one P (x ∷ f) (y ∷ g) r s b d e lf lg nr ns = let rest : f ++ r ∷ b ≡ g ++ s ∷ d = cc in ap suc (front-one P f g r s b d rest lf.1 lg.1 nr ns)

routes-once : (shown : Option NetMap) (found : List HostRoute) (ranks : List RankEntry) {p q : ℕ} {v w : Why} → RoutesFail shown found ranks p v → RoutesFail shown found ranks q w → (p ≡ q) × (v ≡ w)
routes-once None found ranks no_map no_map = (refl, refl)
routes-once (Some m) found ranks (not_whole a) (not_whole b) = (refl, refl)
routes-once (Some m) found ranks (not_whole a) (astray front back r whole e lead wrong) = absurd (a whole)
routes-once (Some m) found ranks (not_whole a) (falling whole lead wrong) = absurd (a whole)
routes-once (Some m) found ranks (astray front back r whole e lead wrong) (not_whole a) = absurd (a whole)
routes-once (Some m) found ranks (astray f b r w e lead wrong) (astray g d s x h leads bad) = (ap suc (front-one (LeadsBetween m) f g r s b d (sym e ∙ h) lead leads wrong bad), refl)
routes-once (Some m) found ranks (astray f b r w e lead wrong) (falling x leads bad) = absurd (wrong (at-middle (LeadsBetween m) f b r (subst (AllByRecursion (LeadsBetween m)) e leads)))
routes-once (Some m) found ranks (falling whole lead wrong) (not_whole a) = absurd (a whole)
routes-once (Some m) found ranks (falling x leads bad) (astray f b r w e lead wrong) = absurd (wrong (at-middle (LeadsBetween m) f b r (subst (AllByRecursion (LeadsBetween m)) e leads)))
routes-once (Some m) found ranks (falling a lead wrong) (falling b leads bad) = (refl, refl)

-- where a map fails, neither a message nor a token does
map-message : (n : Network) (before : List Answered) (c : Command) (a : Answer) → AreInOrder (told before) → ¬ MapIsTrue (fabric_after n before) a → ¬ MessagesAreTrue before (answered c a) → ⊥
map-message n before c (Alone l) o x m = x tt
map-message n before c (WithMap l k) o x m = m (record { in_order = o; lengths = tt })
map-message n before c (WithRoutes found ranks) o x m = x tt
map-message n before c (WithTables hosts) o x m = x tt
map-message n before c (WithBroken pairs) o x m = x tt

map-token : (n : Network) (before : List Answered) (c : Command) (a : Answer) → ¬ MapIsTrue (fabric_after n before) a → ¬ TokensAreTrue before (answered c a) → ⊥
map-token n before c (Alone l) x t = x tt
map-token n before c (WithMap l k) x t = t (record { calls = tt; places = tt })
map-token n before c (WithRoutes found ranks) x t = x tt
map-token n before c (WithTables hosts) x t = x tt
map-token n before c (WithBroken pairs) x t = x tt

fails-once : (n : Network) (before : List Answered) (c : Command) (a : Answer) {p q : ℕ} {v w : Why} → AreInOrder (told before) → Fails n before c a p v → Fails n before c a q w → (p ≡ q) × (v ≡ w)
fails-once n before c a o (map_fails x) (map_fails y) = (refl, refl)
fails-once n before c (WithRoutes found ranks) o (map_fails x) (routes_fail f) = absurd (x tt)
fails-once n before c (WithRoutes found ranks) o (routes_fail f) (map_fails x) = absurd (x tt)
fails-once n before c a o (map_fails x) (message_fails m) = absurd (map-message n before c a o x m)
fails-once n before c a o (message_fails m) (map_fails x) = absurd (map-message n before c a o x m)
fails-once n before c a o (map_fails x) (token_fails m t) = absurd (map-token n before c a x t)
fails-once n before c a o (token_fails m t) (map_fails x) = absurd (map-token n before c a x t)
fails-once n before c (WithRoutes found ranks) o (routes_fail f) (routes_fail g) = routes-once (complete_map before) found ranks f g
fails-once n before c (WithRoutes found ranks) o (routes_fail f) (message_fails m) = absurd (m (record { in_order = o; lengths = tt }))
fails-once n before c (WithRoutes found ranks) o (message_fails m) (routes_fail f) = absurd (m (record { in_order = o; lengths = tt }))
fails-once n before c (WithRoutes found ranks) o (routes_fail f) (token_fails m t) = absurd (t (record { calls = tt; places = tt }))
fails-once n before c (WithRoutes found ranks) o (token_fails m t) (routes_fail f) = absurd (t (record { calls = tt; places = tt }))
fails-once n before c a o (message_fails m) (message_fails k) = (refl, refl)
fails-once n before c a o (message_fails m) (token_fails fine t) = absurd (m fine)
fails-once n before c a o (token_fails fine t) (message_fails m) = absurd (m fine)
fails-once n before c a o (token_fails fine t) (token_fails k u) = (refl, refl)

same-fault : {X E : Type 0} (r : Result X E) (x y : E) → r ≡ Err x → r ≡ Err y → x ≡ y
same-fault r x y e f = cc

same-line : (ls : List TextLine) (p q : ℕ) (l k : TextLine) → p ≡ q → slice_get ls p ≡ Some l → slice_get ls q ≡ Some k → l ≡ k
same-line ls p q l k e f g = cc

-- one answer that fails is another of the same
same-fails : (n : Network) (before : List Answered) (c : Command) (a b : Answer) (p : ℕ) (v : Why) → a ≡ b → Fails n before c a p v → Fails n before c b p v
same-fails n before c a b p v e f = subst (λ (x : Answer). Fails n before c x p v) e f

same-first : (n : Network) (past : ℕ) (before : List Answered) (c : Command) (a b : Answer) (cs : List Command) (rest left : List TextLine) (line : ℕ) (v : Why)
    → a ≡ b → rest ≡ left → FailsFirst n past (answered c a ∷ before) cs rest line v → FailsFirst n past (answered c b ∷ before) cs left line v
same-first n past before c a b cs rest left line v e d f =
    subst (λ (ls : List TextLine). FailsFirst n past (answered c b ∷ before) cs ls line v) d
    (subst (λ (x : Answer). FailsFirst n past (answered c x ∷ before) cs rest line v) e f)

first-once : (n : Network) (past : ℕ) (before : List Answered) (cs : List Command) (ls : List TextLine) {line other : ℕ} {v w : Why}
    → AreInOrder (told before) → FailsFirst n past before cs ls line v → FailsFirst n past before cs ls other w → (line ≡ other) × (v ≡ w)
first-once n past before [] [] o f g = elim f [ ]
first-once n past before [] (l ∷ ls) o more more = (refl, refl)
first-once n past before (c ∷ cs) ls o (unread e) (unread f) = (same-fault (answer_from c (known_by n before) past n ls) _ _ e f, refl)
first-once n past before (c ∷ cs) ls o (unread e) (here a rest place l f fails at) = cc
first-once n past before (c ∷ cs) ls o (unread e) (later a rest f right fails) = cc
first-once n past before (c ∷ cs) ls o (here a rest place l f fails at) (unread e) = cc
first-once n past before (c ∷ cs) ls o (later a rest f right fails) (unread e) = cc
first-once n past before (c ∷ cs) ls o (here a rest p l e fails at) (here b left q k f bad there) =
    let same = one-answer (answer_from c (known_by n before) past n ls) a b rest left e f in
    let once = fails-once n before c b o (same-fails n before c a b p _ same.0 fails) bad in
    (ap (λ (x : TextLine). x.number) (same-line ls p q l k once.0 at there), once.1)
first-once n past before (c ∷ cs) ls o (here a rest p l e fails at) (later b left f right bad) =
    let same = one-answer (answer_from c (known_by n before) past n ls) a b rest left e f in
    absurd (fails-wrong n before c b (same-fails n before c a b p _ same.0 fails) right)
first-once n past before (c ∷ cs) ls o (later b left f right bad) (here a rest p l e fails at) =
    let same = one-answer (answer_from c (known_by n before) past n ls) a b rest left e f in
    absurd (fails-wrong n before c b (same-fails n before c a b p _ same.0 fails) right)
first-once n past before (c ∷ cs) ls o (later a rest e right fails) (later b left f holds bad) =
    let same = one-answer (answer_from c (known_by n before) past n ls) a b rest left e f in
    first-once n past (answered c b ∷ before) cs left holds.messages.in_order (same-first n past before c a b cs rest left _ _ same.0 same.1 fails) bad

none-in-order : AreInOrder (told [])
none-in-order = record { each = λ k. record { rest = []; both = refl } }

-- one line of a text with its report fails first, and one thing there
pub text_first_once : (text : List ℕ) (line other : ℕ) (v w : Why) → FailsFirstIn text line v → FailsFirstIn text other w → (line ≡ other) × (v ≡ w)
text_first_once text line other v w f g =
    let same : f.judged ≡ g.judged = same-value (judged_text text) f.judged g.judged f.said g.said in
    first-once g.judged.network g.judged.past [] g.judged.commands g.judged.report none-in-order
    (subst (λ j. FailsFirst j.network j.past [] j.commands j.report line v) same f.fails) g.fails
