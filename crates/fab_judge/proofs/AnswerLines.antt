-- The lines of an answer.
use Rattle.std.proofs.Common.{◌≡◌, ◌+◌, ℕ, Bool, List, [], ◌∷◌, map, nat_le, true, false, Option, Some, None, Result, Ok, Err, refl, ap, sym, ◌∙◌, subst, if◌then◌else◌, arith}
use Rattle.net_defs.specs.declared.route.Route.{Route}
use Rattle.net_defs.specs.Network.{Network}
use Rattle.map_defs.specs.declared.rank.RankEntry.{RankEntry}
use Rattle.map_defs.specs.NetMap.{NetMap}
use Rattle.fab_text.specs.Line.{TextLine, words_of}
use Rattle.fab_text.specs.Fault.{FirstFault, and_then}
use Rattle.fab_text.specs.declared.fault.TextFault.{TextFault}
use Rattle.fab_text.specs.declared.fault.TextFault.TheVariants.{At as FaultAt, NoMemory as OutOfMemory}
use Rattle.map_canon.specs.Reading.{MapPart, PartGives}
use Rattle.report_lines.specs.declared.line.MapSaid.TheVariants.{Complete, Doubtful, Shallow, Overgrown}
use Rattle.report_lines.specs.declared.line.ReportLine.{ReportLine}
use Rattle.report_lines.specs.declared.line.ReportLine.TheVariants.{Map as MapLine}
use Rattle.report_lines.specs.Lines.{line_said}
use Rattle.run_defs.specs.declared.command.Command.{Command}
use Rattle.answer_defs.specs.Answer.{WithMap, WithRoutes, WithTables, WithBroken}
use Rattle.answer_defs.specs.Answer.{Answer as SaidAnswer}
use Rattle.judge_defs.specs.Form.{Reads, Known, may_answer, answer_from, answer_by, block_of, map_block, routes_block, tables_block, route_lines, rank_lines}
use Rattle.judge_defs.specs.Form.{broken_lines, broken_block}
use Rattle.fab_judge.specs.declared.answer.Answer.{Answer}
use Rattle.fab_judge.specs.declared.answer.Answer.TheVariants.{WithRoutes as RoutesRead, WithTables as TablesRead}
use Rattle.fab_judge.specs.declared.answer.Answer.TheVariants.{WithBroken as BrokenRead}
use Rattle.fab_judge.specs.declared.stop.Unread.{Unread}
use Rattle.fab_judge.specs.declared.stop.Unread.TheVariants.{At, NoMemory}
use Rattle.fab_judge.specs.Reading.{ReaderState, HasRead, AreNumbered, begun, Gives, GivesMap, GivesItems, Passes, next_said, numbered, unread_map}
use Rattle.fab_judge.proofs.Steps.{then_numbered, numbered_fewer}
use Rattle.fab_judge.specs.Answers.{GivesAnswer, more_lines}
use Rattle.fab_judge.specs.Blocks.{CountsActive, block_in, block_by}
use Rattle.fab_judge.proofs.Next.{IsTaken, next-taken}

-- which lines follow a first line
pub block_of-by : (number : ℕ) (l : ReportLine) (k : Known) (past : ℕ) (n : Network) (ls : List TextLine) → block_of number l k past n ls ≡ block_by (block_in l) number l k past n ls
block_of-by number (MapLine h Complete) k past n ls = refl
block_of-by number (MapLine h Doubtful) k past n ls = refl
block_of-by number (MapLine h Shallow) k past n ls = refl
block_of-by number (MapLine h Overgrown) k past n ls = refl
block_of-by number l k past n ls = refl

answer-taken : (c : Command) (k : Known) (past : ℕ) (n : Network) (ls left : List TextLine) (number : ℕ) (said : ReportLine)
    → IsTaken n ls number said left → answer_from c k past n ls ≡ answer_by c number (Some said) k past n left
answer-taken c k past n ls left number said t =
    ap (answer_from c k past n) t.lines
    ∙ ap (λ o. answer_by c t.line.number o k past n left) t.says
    ∙ ap (λ m. answer_by c m (Some said) k past n left) t.at

-- the first line may be one of the command's answer
pub answer-begins : (c : Command) (k : Known) (past : ℕ) (n : Network) (ls left after : List TextLine) (number : ℕ) (said : ReportLine) (r : Result Answer Unread)
    → next_said past n ls ≡ Ok ((number, said), left) → may_answer c said ≡ true → GivesAnswer (block_by (block_in said) number said k past n left) after r
    → GivesAnswer (answer_from c k past n ls) after r
answer-begins c k past n ls left after number said r e m g =
    let same = answer-taken c k past n ls left number said (next-taken past n ls number said left e)
    ∙ ap (λ b. if b then block_of number said k past n left else Err number) m ∙ block_of-by number said k past n left in
    subst (λ a. GivesAnswer a after r) (sym same) g

-- it may not
pub answer-wrong : (c : Command) (k : Known) (past : ℕ) (n : Network) (ls left : List TextLine) (number : ℕ) (said : ReportLine)
    → next_said past n ls ≡ Ok ((number, said), left) → may_answer c said ≡ false → answer_from c k past n ls ≡ Err number
answer-wrong c k past n ls left number said e m =
    answer-taken c k past n ls left number said (next-taken past n ls number said left e)
    ∙ ap (λ b. if b then block_of number said k past n left else Err number) m

err-same : {X E : Type 0} (r : Result X E) (x y : E) → r ≡ Err x → r ≡ Err y → x ≡ y
err-same r x y e f = cc

answer-fault : (c : Command) (k : Known) (past : ℕ) (n : Network) (ls : List TextLine) (line : ℕ) → next_said past n ls ≡ Err line → answer_from c k past n ls ≡ Err line
answer-fault c k past n [] line e = ap (λ m. Err m) (err-same (next_said past n []) past line refl e)
answer-fault c k past n (l ∷ ls) line e = by (line_said n (words_of l.bytes)) e
  where
    by : (o : Option ReportLine) → numbered l.number ls o ≡ Err line → answer_by c l.number o k past n ls ≡ Err line
    by None g = ap (λ m. Err m) (err-same (numbered l.number ls None) l.number line refl g)
    by (Some x) g = cc

-- it is out of form
pub answer-stopped : (c : Command) (k : Known) (past : ℕ) (n : Network) (ls left : List TextLine) (stop : Unread)
    → Gives (next_said past n ls) left (Err stop) → GivesAnswer (answer_from c k past n ls) left (Err stop)
answer-stopped c k past n ls left (At line) g = answer-fault c k past n ls line g
answer-stopped c k past n ls left NoMemory g = tt

-- a map that was read
pub map-given : (part : Result MapPart FirstFault) (left : List TextLine) (r : Result NetMap TextFault) → PartGives part left r → GivesMap part left (unread_map r)
map-given part left (Ok m) g = g
map-given part left (Err (FaultAt line kind)) g = (record { line = line; kind = kind }, g, refl)
map-given part left (Err OutOfMemory) g = tt

-- a map's lines
pub map-read : (l : ReportLine) (part : Result MapPart FirstFault) (left : List TextLine) (m : NetMap)
    → GivesMap part left (Ok m) → map_block l part ≡ Ok (WithMap l m, left)
map-read l part left m g = ap (map_block l) g

pub map-stopped : (l : ReportLine) (part : Result MapPart FirstFault) (left : List TextLine) (stop : Unread)
    → GivesMap part left (Err stop) → GivesAnswer (map_block l part) left (Err stop)
map-stopped l part left (At line) g = ap (map_block l) g.1 ∙ ap (λ k. Err k) g.2
map-stopped l part left NoMemory g = tt

-- tables of which enough are active
pub tables-read : (number acked active : ℕ) (ts : Reads (List (ℕ × Bool))) (left : List TextLine) → CountsActive ts left (Ok active) → nat_le acked active ≡ true
    → GivesAnswer (tables_block number acked ts) left (Ok TablesRead)
tables-read number acked active ts left g e =
    let hosts : List ℕ = map (λ (t : ℕ × Bool). t.0) g.0 in (
      WithTables hosts,
      ap (tables_block number acked) g.1 ∙ (λ i. if (ap (nat_le acked) (sym g.2) ∙ e) i then Ok (WithTables hosts, left) else Err number),
      (hosts, refl),
    )

-- broken routes
pub broken-read : (p : ℕ × ℕ) (past : ℕ) (n : Network) (ls left : List TextLine) → Passes (broken_lines (Some p) past n ls) left (Ok tt) → GivesAnswer (broken_block p past n ls) left (Ok BrokenRead)
broken-read p past n ls left g = (WithBroken (p ∷ g.0), ap (λ r. and_then r (λ ps. Ok (WithBroken (p ∷ ps.0), ps.1))) g.1, (p ∷ g.0, refl))

pub broken-not-read : (p : ℕ × ℕ) (past : ℕ) (n : Network) (ls left : List TextLine) (stop : Unread) → Passes (broken_lines (Some p) past n ls) left (Err stop) → GivesAnswer (broken_block p past n ls) left (Err stop)
broken-not-read p past n ls left (At line) g = ap (λ r. and_then r (λ ps. Ok (WithBroken (p ∷ ps.0), ps.1))) g
broken-not-read p past n ls left NoMemory g = tt

-- routes and ranks
abbrev with_ranks : Option NetMap → ℕ → Network → Reads (List Route) → Reads SaidAnswer
with_ranks shown past n r = and_then r (λ rs. and_then (rank_lines shown None past n rs.1) (λ ks. Ok (WithRoutes rs.0 ks.0, ks.1)))

pub routes-read : (count : ℕ) (shown : Option NetMap) (past : ℕ) (n : Network) (ls mid left : List TextLine) (found : List Route) (ranks : List RankEntry)
    → route_lines count None past n ls ≡ Ok (found, mid) → rank_lines shown None past n mid ≡ Ok (ranks, left)
    → GivesAnswer (routes_block count shown past n ls) left (Ok (RoutesRead found ranks))
routes-read count shown past n ls mid left found ranks e f = (
  WithRoutes found ranks,
  ap (with_ranks shown past n) e ∙ ap (λ r. and_then r (λ ks. Ok (WithRoutes found ks.0, ks.1))) f,
  refl,
)

pub ranks-not-read : (count : ℕ) (shown : Option NetMap) (past : ℕ) (n : Network) (ls mid left : List TextLine) (found : List Route) (stop : Unread)
    → route_lines count None past n ls ≡ Ok (found, mid) → GivesItems (rank_lines shown None past n mid) left (Err stop)
    → GivesAnswer (routes_block count shown past n ls) left (Err stop)
ranks-not-read count shown past n ls mid left found (At line) e f =
    ap (with_ranks shown past n) e ∙ ap (λ r. and_then r (λ ks. Ok (WithRoutes found ks.0, ks.1))) f
ranks-not-read count shown past n ls mid left found NoMemory e f = tt

pub routes-not-read : (count : ℕ) (shown : Option NetMap) (past : ℕ) (n : Network) (ls left : List TextLine) (stop : Unread)
    → Gives (route_lines count None past n ls) left (let s : Result (List Route) Unread = Err stop in s) → GivesAnswer (routes_block count shown past n ls) left (Err stop)
routes-not-read count shown past n ls left (At line) e = ap (with_ranks shown past n) e
routes-not-read count shown past n ls left NoMemory e = tt

-- an answer that begins is read from where it begins
pub begun-said : {X : Type 0} (f : ℕ → List TextLine → X) (a b : ReaderState) → b ≡ begun a → f b.past b.left ≡ f a.past a.left
begun-said f a b e = ap (λ s. f s.past s.left) e

-- the first line and those after it are numbered
pub read-numbered : (a b m now : ReaderState) (r : Answer) → b ≡ begun a → HasRead b m 1 → AreNumbered m now (more_lines r) → AreNumbered (begun a) now (more_lines r + 1)
read-numbered a b m now r e h k =
    numbered_fewer (begun a) now (1 + more_lines r) (more_lines r + 1) (then_numbered (begun a) m now 1 (more_lines r) (subst (λ s. HasRead s m 1) e h) k) (omega arith)
