-- What is judged of answers, one after another.
use Rattle.std.proofs.Common.{◌≡◌, ◌<◌, ℕ, zero, suc, List, [], ◌∷◌, ◌++◌, Bool, true, false, map, length, Option, Some, None, Result, Ok, Err, refl, ap, sym, ◌∙◌, subst, if◌then◌else◌, arith}
use Rattle.std.proofs.lemmas.List.{length-map}
use Rattle.std.proofs.lemmas.Bool.{false≢true}
use Rattle.std.specs.Prelude.{◌↔◌, slice_get, option_map}
use Rattle.net_defs.specs.declared.route.Route.{Route}
use Rattle.net_defs.specs.Network.{Network}
use Rattle.map_defs.specs.declared.rank.RankEntry.{RankEntry}
use Rattle.map_defs.specs.NetMap.{NetMap}
use Rattle.map_defs.specs.Sameness.{IsMapOfPart}
use Rattle.fab_text.specs.Line.{TextLine}
use Rattle.port_ledgers.specs.Told.{AreInOrder, sent_message}
use Rattle.port_ledgers.specs.Waiting.{AreWaiting, waiting}
use Rattle.port_ledgers.specs.Held.{AreHeld}
use Rattle.report_lines.specs.declared.line.MapSaid.TheVariants.{Complete, Doubtful, Shallow, Overgrown}
use Rattle.report_lines.specs.declared.line.ReportLine.{ReportLine}
use Rattle.report_lines.specs.declared.line.ReportLine.TheVariants.{Map as MapLine}
use Rattle.run_defs.specs.declared.command.Command.{Command}
use Rattle.answer_defs.specs.declared.why.Why.{Why}
use Rattle.answer_defs.specs.declared.why.Why.TheVariants.{Form, Map, Route as BadRoute, Rank, Message, Token}
use Rattle.answer_defs.specs.Answer.{Answer, Alone, WithMap, WithRoutes, WithTables, WithBroken, Answered, answered, told, told_in, complete_map, shown_map, routed_hosts, hosts_in, fabric_by}
use Rattle.answer_defs.specs.Right.{MapIsTrue, HoldOn, IsRight}
use Rattle.answer_defs.specs.Failing.{Fails, map_fails, routes_fail, message_fails, token_fails, RoutesFail, no_map}
use Rattle.fab_judge.specs.Checks.{FindsFault}
use Rattle.fab_judge.specs.Ledgers.{LedgersState, AreLedgersOf, JudgesLine}
use Rattle.judge_defs.specs.Form.{known_by, answer_from}
use Rattle.judge_defs.specs.Verdict.{AreJudgedYes, ended, goes_on, FailsFirst, more, unread, here, later}
use Rattle.fab_judge.specs.declared.stop.Stop.{Stop}
use Rattle.fab_judge.specs.declared.stop.Stop.TheVariants.{Fails as FailsAt, NoMemory}
use Rattle.fab_judge.specs.declared.stop.Unread.{Unread}
use Rattle.fab_judge.specs.declared.stop.Unread.TheVariants.{At, NoMemory as NoRoom}
use Rattle.fab_judge.specs.declared.answer.Answer.{Answer as AnswerRead}
use Rattle.fab_judge.specs.declared.answer.Answer.TheVariants.{WithTables as TablesRead, WithBroken as BrokenRead}
use Rattle.fab_judge.specs.Shown.{Shown, map_in, complete_in}
use Rattle.fab_judge.specs.Past.{known_in, IsPastOf, is_map, complete_host, shown_with, after_line, after_map}
use Rattle.fab_judge.specs.declared.past.Past.{Past as PastState}
use Rattle.fab_judge.specs.Reading.{ReaderState, AreNumbered, begun, first_number}
use Rattle.fab_judge.specs.Answers.{GivesAnswer, IsAs}
use Rattle.fab_judge.specs.Judging.{Judges, FindsFaultOn, JudgesAnswer, JudgesNext, Decides, verdict_of, stop_of}
use Rattle.fab_judge.specs.Verdicts.{IsVerdict}

-- ---- one answer

-- what waits is behind what came
in-order : (before : List Answered) (p : LedgersState) → AreLedgersOf before p → AreInOrder (told before)
in-order before p l = record { each = λ k. record { rest = map (sent_message k) (waiting p.messages k); both = l.waiting.each k } }

-- one line alone that isn't a map
pub alone-judged : (n : Network) (before : List Answered) (c : Command) (l : ReportLine) (why : Why) (now : LedgersState)
    → JudgesLine before (answered c (Alone l)) (Some why) now → Fails n before c (Alone l) 0 why
alone-judged n before c l Message now j = message_fails j
alone-judged n before c l Token now j = token_fails j.0 j.1
alone-judged n before c l Form now j = absurd j
alone-judged n before c l Map now j = absurd j
alone-judged n before c l BadRoute now j = absurd j
alone-judged n before c l Rank now j = absurd j

pub alone-right : (n : Network) (before : List Answered) (c : Command) (l : ReportLine) (now : LedgersState)
    → JudgesLine before (answered c (Alone l)) None now → IsRight n before (answered c (Alone l))
alone-right n before c l now j = record { maps = tt; routes = tt; messages = j.0; tokens = j.1 }

pub alone-past : (n : Network) (before : List Answered) (c : Command) (l : ReportLine) (p now : PastState)
    → IsPastOf n before p → AreLedgersOf (answered c (Alone l) ∷ before) now.ledgers → now.shown ≡ (if is_map l then None else p.shown) → now.routed ≡ p.routed
    → now.adopted ≡ p.adopted → now.fabric ≡ fabric_by (Alone l) p.fabric → IsPastOf n (answered c (Alone l) ∷ before) now
alone-past n before c (MapLine h said) p now is ledgers e r a f = record {
  shown = ap map_in e;
  complete = ap complete_in e;
  routed = r ∙ is.routed;
  adopted = a ∙ is.adopted;
  fabric = f ∙ is.fabric;
  ledgers = ledgers;
}
alone-past n before c l p now is ledgers e r a f = record {
  shown = ap map_in e ∙ is.shown;
  complete = ap complete_in e ∙ is.complete;
  routed = r ∙ is.routed;
  adopted = a ∙ is.adopted;
  fabric = f ∙ ap (fabric_by (Alone l)) is.fabric;
  ledgers = ledgers;
}

pub alone-none : (n : Network) (before : List Answered) (c : Command) (l : ReportLine) (p now : PastState) (ledgers : LedgersState)
    → IsPastOf n before p → JudgesLine before (answered c (Alone l)) None ledgers → now ≡ after_line l (record p { ledgers = ledgers }) → Judges n before (answered c (Alone l)) None now
alone-none n before c l p now ledgers is j s = (
  alone-right n before c l ledgers j,
  alone-past n before c l p now is
      (subst (λ q. AreLedgersOf (answered c (Alone l) ∷ before) q) (sym (ap (λ (q : PastState). q.ledgers) s)) j.2)
      (ap (λ (q : PastState). q.shown) s)
      (ap (λ (q : PastState). q.routed) s)
      (ap (λ (q : PastState). q.adopted) s)
      (ap (λ (q : PastState). q.fabric) s),
)

-- a line with a map
pub map-tested : (n : Network) (l : ReportLine) (m : NetMap) (h : ℕ) (is : Bool) → Some h ≡ complete_host l → ((is ≡ true) ↔ IsMapOfPart n h m) → (is ≡ true) ↔ MapIsTrue n (WithMap l m)
map-tested n (MapLine g Complete) m h is e t = let same : h ≡ g = cc in subst (λ k. (is ≡ true) ↔ IsMapOfPart n k m) same t
map-tested n (MapLine g Doubtful) m h is e t = cc
map-tested n (MapLine g Shallow) m h is e t = cc
map-tested n (MapLine g Overgrown) m h is e t = cc
map-tested n l m h is e t = cc

pub map-untested : (n : Network) (l : ReportLine) (m : NetMap) → None ≡ complete_host l → (true ≡ true) ↔ MapIsTrue n (WithMap l m)
map-untested n (MapLine g Complete) m e = cc
map-untested n (MapLine g Doubtful) m e = (λ t. tt, λ t. refl)
map-untested n (MapLine g Shallow) m e = (λ t. tt, λ t. refl)
map-untested n (MapLine g Overgrown) m e = (λ t. tt, λ t. refl)
map-untested n l m e = (λ t. tt, λ t. refl)

pub map-wrong : (n : Network) (before : List Answered) (c : Command) (l : ReportLine) (m : NetMap) (p : PastState) (is : Bool)
    → IsPastOf n before p → ((is ≡ true) ↔ MapIsTrue p.fabric (WithMap l m)) → is ≡ false → Fails n before c (WithMap l m) 0 Map
map-wrong n before c l m p is past t e =
    map_fails (λ h. absurd (false≢true (sym e ∙ t.1 (subst (λ (k : Network). MapIsTrue k (WithMap l m)) (sym past.fabric) h))))

same-ledgers : (before : List Answered) (c : Command) (a : Answer) (p : LedgersState) → AreLedgersOf before p → told_in c a ≡ [] → AreLedgersOf (answered c a ∷ before) p
same-ledgers before c a p l e = record {
  waiting = subst (λ ts. AreWaiting (ts ++ told before) p.messages) (sym e) l.waiting;
  held = subst (λ ts. AreHeld (ts ++ told before) p.tokens) (sym e) l.held;
}

map-past : (n : Network) (before : List Answered) (c : Command) (l : ReportLine) (m : NetMap) (p : PastState) → IsPastOf n before p → IsPastOf n (answered c (WithMap l m) ∷ before) (after_map l m p)
map-past n before c l m p is = record {
  shown = shows l;
  complete = completes l;
  routed = is.routed;
  adopted = is.adopted;
  fabric = is.fabric;
  ledgers = same-ledgers before c (WithMap l m) p.ledgers is.ledgers refl;
}
  where
    shows : (l : ReportLine) → map_in (shown_with l m p.shown) ≡ shown_map (answered c (WithMap l m) ∷ before)
    shows (MapLine h said) = refl
    shows k = is.shown

    completes : (l : ReportLine) → complete_in (shown_with l m p.shown) ≡ complete_map (answered c (WithMap l m) ∷ before)
    completes (MapLine h Complete) = refl
    completes (MapLine h Doubtful) = refl
    completes (MapLine h Shallow) = refl
    completes (MapLine h Overgrown) = refl
    completes k = is.complete

pub map-judged : (n : Network) (before : List Answered) (c : Command) (l : ReportLine) (m : NetMap) (p now : PastState) (is : Bool)
    → IsPastOf n before p → ((is ≡ true) ↔ MapIsTrue p.fabric (WithMap l m)) → is ≡ true → now ≡ after_map l m p → Judges n before (answered c (WithMap l m)) None now
map-judged n before c l m p now is past t so e = (
  record {
    maps = subst (λ (k : Network). MapIsTrue k (WithMap l m)) past.fabric (t.0 so);
    routes = tt;
    messages = record { in_order = in-order before p.ledgers past.ledgers; lengths = tt };
    tokens = record { calls = tt; places = tt };
  },
  subst (λ q. IsPastOf n (answered c (WithMap l m) ∷ before) q) (sym e) (map-past n before c l m p past),
)

-- tables and broken routes
tables-judged : (n : Network) (before : List Answered) (c : Command) (hosts : List ℕ) (p : PastState) → IsPastOf n before p → Judges n before (answered c (WithTables hosts)) None (record p { adopted = true })
tables-judged n before c hosts p is = (
  record { maps = tt; routes = tt; messages = record { in_order = in-order before p.ledgers is.ledgers; lengths = tt }; tokens = record { calls = tt; places = tt } },
  record {
    shown = is.shown;
    complete = is.complete;
    routed = is.routed;
    adopted = refl;
    fabric = is.fabric;
    ledgers = same-ledgers before c (WithTables hosts) p.ledgers is.ledgers refl;
  },
)

broken-judged : (n : Network) (before : List Answered) (c : Command) (pairs : List (ℕ × ℕ)) (p : PastState) → IsPastOf n before p → Judges n before (answered c (WithBroken pairs)) None p
broken-judged n before c pairs p is = (
  record { maps = tt; routes = tt; messages = record { in_order = in-order before p.ledgers is.ledgers; lengths = tt }; tokens = record { calls = tt; places = tt } },
  record {
    shown = is.shown;
    complete = is.complete;
    routed = is.routed;
    adopted = is.adopted;
    fabric = is.fabric;
    ledgers = same-ledgers before c (WithBroken pairs) p.ledgers is.ledgers refl;
  },
)

pub tables-kept : (n : Network) (before : List Answered) (c : Command) (r : AnswerRead) (a : Answer) (p : PastState)
    → r ≡ TablesRead → IsAs r a → IsPastOf n before p → Judges n before (answered c a) None (record p { adopted = true })
tables-kept n before c r a p e kept is =
    let tables : IsAs TablesRead a = subst (λ (s : AnswerRead). IsAs s a) e kept in
    subst (λ (b : Answer). Judges n before (answered c b) None (record p { adopted = true })) (sym tables.1) (tables-judged n before c tables.0 p is)

pub broken-kept : (n : Network) (before : List Answered) (c : Command) (r : AnswerRead) (a : Answer) (p : PastState)
    → r ≡ BrokenRead → IsAs r a → IsPastOf n before p → Judges n before (answered c a) None p
broken-kept n before c r a p e kept is =
    let broken : IsAs BrokenRead a = subst (λ (s : AnswerRead). IsAs s a) e kept in
    subst (λ (b : Answer). Judges n before (answered c b) None p) (sym broken.1) (broken-judged n before c broken.0 p is)

-- routes
complete-shown : (o : Option Shown) (m : NetMap) → complete_in o ≡ Some m → map_in o ≡ Some m
complete-shown None m e = cc
complete-shown (Some s) m e = by s.complete e
  where
    by : (b : Bool) → (if b then Some s.map else None) ≡ Some m → Some s.map ≡ Some m
    by true f = f
    by false f = cc

held-shown : (o : Option Shown) (found : List Route) (ranks : List RankEntry) → HoldOn (complete_in o) found ranks → map_in o ≡ complete_in o
held-shown None found ranks h = refl
held-shown (Some s) found ranks h = by s.complete h
  where
    by : (b : Bool) → HoldOn (if b then Some s.map else None) found ranks → Some s.map ≡ (if b then Some s.map else None)
    by true g = refl
    by false g = absurd g

pub found-on : (m : NetMap) (found : List Route) (ranks : List RankEntry) (r : Option (ℕ × Why)) → FindsFault m found ranks r → FindsFaultOn (Some m) found ranks r
found-on m found ranks None g = g
found-on m found ranks (Some p) g = g

pub found-none : (found : List Route) (ranks : List RankEntry) → FindsFaultOn None found ranks (Some (0, BadRoute))
found-none found ranks = no_map

pub routes-judged : (n : Network) (before : List Answered) (c : Command) (found : List Route) (ranks : List RankEntry) (p : PastState) (hosts : Option (List ℕ))
    → IsPastOf n before p → HoldOn (complete_in p.shown) found ranks → hosts ≡ option_map (hosts_in n) (map_in p.shown)
    → Judges n before (answered c (WithRoutes found ranks)) None (record p { routed = hosts })
routes-judged n before c found ranks p hosts is h r = (
  record {
    maps = tt;
    routes = subst (λ m. HoldOn m found ranks) is.complete h;
    messages = record { in_order = in-order before p.ledgers is.ledgers; lengths = tt };
    tokens = record { calls = tt; places = tt };
  },
  record {
    shown = is.shown;
    complete = is.complete;
    routed = r ∙ ap (option_map (hosts_in n)) (held-shown p.shown found ranks h ∙ is.complete);
    adopted = is.adopted;
    fabric = is.fabric;
    ledgers = same-ledgers before c (WithRoutes found ranks) p.ledgers is.ledgers refl;
  },
)

pub routes-fail : (n : Network) (before : List Answered) (c : Command) (found : List Route) (ranks : List RankEntry) (p : PastState) (place : ℕ) (why : Why)
    → IsPastOf n before p → RoutesFail (complete_in p.shown) found ranks place why → Fails n before c (WithRoutes found ranks) place why
routes-fail n before c found ranks p place why is f = routes_fail (subst (λ m. RoutesFail m found ranks place why) is.complete f)

-- ---- the next answer

known-same : (n : Network) (before : List Answered) (p : PastState) → IsPastOf n before p → known_in p ≡ known_by n before
known-same n before p is =
    ap (λ s. record { shown = s; routed = p.routed; adopted = p.adopted }) is.shown
    ∙ ap (λ r. record { shown = shown_map before; routed = r; adopted = p.adopted }) is.routed
    ∙ ap (λ a. record { shown = shown_map before; routed = routed_hosts n before; adopted = a }) is.adopted

said-same : (n : Network) (before : List Answered) (c : Command) (p : PastState) (past : ℕ) (ls left : List TextLine) (a : Answer)
    → IsPastOf n before p → answer_from c (known_in p) past n ls ≡ Ok (a, left) → answer_from c (known_by n before) past n ls ≡ Ok (a, left)
said-same n before c p past ls left a is e = subst (λ k. answer_from c k past n ls ≡ Ok (a, left)) (known-same n before p is) e

at-map : (ls : List TextLine) (place number : ℕ) → slice_get (map (λ l. l.number) ls) place ≡ Some number → (l : TextLine) × (slice_get ls place ≡ Some l) × (l.number ≡ number)
at-map [] place number e = cc
at-map (l ∷ ls) zero number e = let same : l.number ≡ number = cc in (l, refl, same)
at-map (l ∷ ls) (suc place) number e = at-map ls place number e

get-front : (front back : List TextLine) (place : ℕ) (l : TextLine) → slice_get front place ≡ Some l → slice_get (front ++ back) place ≡ Some l
get-front [] back place l e = cc
get-front (x ∷ xs) back zero l e = e
get-front (x ∷ xs) back (suc place) l e = get-front xs back place l e

pub place-numbered : (r s : ReaderState) (count place : ℕ) → AreNumbered (begun r) s count → place < count → place < length s.numbers
place-numbered r s count place h l = let same = ap (λ ns. length ns) h.numbers in let mapped = length-map h.own (λ (k : TextLine). k.number) in let enough = h.enough in omega arith

pub next-judged : (n : Network) (before : List Answered) (c : Command) (p now : PastState) (r s : ReaderState) (got : AnswerRead) (count : ℕ) (result : Result (Unit {0}) Stop)
    → IsPastOf n before p → GivesAnswer (answer_from c (known_in p) r.past n r.left) s.left (Ok got) → AreNumbered (begun r) s count
    → ((a : Answer) → IsAs got a → JudgesAnswer n before (answered c a) s now result) → JudgesNext n before c r s now result
next-judged n before c p now r s got count (Ok done) is g numbered judges =
    let j = judges g.0 g.2 in (g.0, said-same n before c p r.past r.left s.left g.0 is g.1, j.0, j.1, numbered.past)
next-judged n before c p now r s got count (Err (FailsAt number why)) is g numbered judges = λ cs.
    let j = judges g.0 g.2 in
    let line = at-map numbered.own j.0 number (ap (λ ns. slice_get ns j.0) (sym numbered.numbers) ∙ j.2) in
    subst (λ k. FailsFirst n r.past before (c ∷ cs) r.left k why) line.2
    (here g.0 s.left j.0 line.0 (said-same n before c p r.past r.left s.left g.0 is g.1) j.1
    (ap (λ ls. slice_get ls j.0) numbered.lines ∙ get-front numbered.own numbered.rest j.0 line.0 line.1))
next-judged n before c p now r s got count (Err NoMemory) is g numbered judges = tt

pub next-unread : (n : Network) (before : List Answered) (c : Command) (p now : PastState) (r s : ReaderState) (stop : Unread)
    → IsPastOf n before p → GivesAnswer (answer_from c (known_in p) r.past n r.left) s.left (Err stop) → JudgesNext n before c r s now (Err (stop_of stop))
next-unread n before c p now r s (At line) is e = λ cs. unread (subst (λ k. answer_from c k r.past n r.left ≡ Err line) (known-same n before p is) e)
next-unread n before c p now r s NoRoom is e = tt

-- ---- all answers

-- what decides from here decides from the start
pub record Leads (n : Network) (past : ℕ) (all : List Command) (start : List TextLine) (rest : List Command) (left : List TextLine) (p : PastState) : Type 0 where
  pub before : List Answered
  pub is_past : IsPastOf n before p
  pub yes : AreJudgedYes n past before rest left → AreJudgedYes n past [] all start
  pub no : (line : ℕ) (why : Why) → FailsFirst n past before rest left line why → FailsFirst n past [] all start line why

pub leads-begin : (n : Network) (past : ℕ) (all : List Command) (start : List TextLine) (p : PastState) → IsPastOf n [] p → Leads n past all start all start p
leads-begin n past all start p is = record { before = []; is_past = is; yes = λ y. y; no = λ line why f. f }

pub leads-on : (n : Network) (past : ℕ) (all : List Command) (start : List TextLine) (c : Command) (cs rest : List Command) (r s : ReaderState) (p now : PastState)
    → r.past ≡ past → cs ≡ c ∷ rest → (l : Leads n past all start cs r.left p) → JudgesNext n l.before c r s now (Ok tt) → Leads n past all start rest s.left now
leads-on n past all start c cs rest r s p now e d l j =
    let said = subst (λ k. answer_from c (known_by n l.before) k n r.left ≡ Ok (j.0, s.left)) e j.1 in
    record {
      before = answered c j.0 ∷ l.before;
      is_past = j.3;
      yes = λ y. l.yes (subst (λ ks. AreJudgedYes n past l.before ks r.left) (sym d) (goes_on j.0 s.left said j.2 y));
      no = λ line why f. l.no line why (subst (λ ks. FailsFirst n past l.before ks r.left line why) (sym d) (later j.0 s.left said j.2 f));
    }

pub leads-stop : (n : Network) (past : ℕ) (all : List Command) (start : List TextLine) (c : Command) (cs rest : List Command) (r s : ReaderState) (p now : PastState) (stop : Stop)
    → r.past ≡ past → cs ≡ c ∷ rest → (l : Leads n past all start cs r.left p) → JudgesNext n l.before c r s now (Err stop) → Decides n past all start (Err stop)
leads-stop n past all start c cs rest r s p now (FailsAt line why) e d l j =
    l.no line why (subst (λ ks. FailsFirst n past l.before ks r.left line why) (sym d) (subst (λ k. FailsFirst n k l.before (c ∷ rest) r.left line why) e (j rest)))
leads-stop n past all start c cs rest r s p now NoMemory e d l j = tt

pub leads-yes : (n : Network) (past : ℕ) (all rest : List Command) (start left : List TextLine) (p : PastState) → Leads n past all start rest left p → rest ≡ [] → first_number left ≡ None → AreJudgedYes n past [] all start
leads-yes n past all rest start [] p l e f = l.yes (subst (λ cs. AreJudgedYes n past l.before cs []) (sym e) ended)
leads-yes n past all rest start (x ∷ xs) p l e f = cc

pub leads-left : (n : Network) (past : ℕ) (all rest : List Command) (start left : List TextLine) (p : PastState) (line : ℕ) → Leads n past all start rest left p → rest ≡ [] → first_number left ≡ Some line → FailsFirst n past [] all start line Form
leads-left n past all rest start [] p line l e f = cc
leads-left n past all rest start (x ∷ xs) p line l e f =
    let same : x.number ≡ line = cc in
    subst (λ k. FailsFirst n past [] all start k Form) same (l.no x.number Form (subst (λ cs. FailsFirst n past l.before cs (x ∷ xs) x.number Form) (sym e) more))

-- ---- a text

pub verdict-of : (n : Network) (past : ℕ) (cs : List Command) (ls : List TextLine) (end : Result (Unit {0}) Stop) → Decides n past cs ls end → IsVerdict n past cs ls (verdict_of end)
verdict-of n past cs ls (Ok done) d = d
verdict-of n past cs ls (Err (FailsAt line why)) d = d
verdict-of n past cs ls (Err NoMemory) d = tt
