-- The lines of tables.
use Rattle.std.proofs.Common.{◌≡◌, ◌<◌, ◌≤◌, ◌+◌, ◌-◌, ℕ, Bool, true, false, List, [], ◌∷◌, ◌++◌, length, drop, get_or, Option, Some, None, Result, Ok, Err, refl, ap, sym, ◌∙◌, subst, if◌then◌else◌, nat_eq, arith}
use Rattle.std.specs.List.{filter}
use Rattle.std.proofs.lemmas.Bool.Decides.{nat_tests}
use Rattle.net_defs.specs.Network.{Network}
use Rattle.fab_text.specs.Line.{TextLine}
use Rattle.judge_defs.specs.Form.{Reads, next_due, table_due, table_lines, rising_tables, rising_table_due, tables_of, active_count}
use Rattle.fab_judge.specs.declared.stop.Unread.{Unread}
use Rattle.fab_judge.specs.declared.stop.Unread.TheVariants.{At, NoMemory}
use Rattle.report_lines.specs.declared.line.ReportLine.{ReportLine}
use Rattle.fab_judge.specs.Reading.{Gives, next_said}
use Rattle.fab_judge.specs.Blocks.{CountsActive, more_active}
use Rattle.fab_judge.proofs.Next.{due-fault}
use Rattle.fab_judge.proofs.Lists.{last_of, last_of-more, at-drop, past-drop}
use Rattle.fab_judge.proofs.Blocks.{after, after-none, block-more, block-fault, block-end, IsCounted, counted-begin, counted-more, counted-fault, counted-end}

-- tables with whether they are active
abbrev Tables : Type 0
Tables = List (ℕ × Bool)

-- one more is active, or not
count-more : (done : Tables) (t : ℕ × Bool) → active_count (done ++ t ∷ []) ≡ more_active (active_count done) t.1
count-more [] (h, true) = refl
count-more [] (h, false) = refl
count-more (d ∷ ds) t = by d.1 t.1 (count-more ds t)
  where
    by : (first last : Bool) → active_count (ds ++ t ∷ []) ≡ more_active (active_count ds) last
        → length (if first then d ∷ filter (λ u. u.1) (ds ++ t ∷ []) else filter (λ u. u.1) (ds ++ t ∷ [])) ≡ more_active (length (if first then d ∷ filter (λ u. u.1) ds else filter (λ u. u.1) ds)) last
    by true true e = omega (arith, e)
    by true false e = omega (arith, e)
    by false last e = e

-- Some tables were read, of which so many are active, and these are left.
pub record AreCounted (all rest : Reads Tables) (active : ℕ) : Type 0 where
  pub done : Tables
  pub same : all ≡ after done rest
  pub count : active ≡ active_count done

pub counted-none : (r : Reads Tables) → AreCounted r r 0
counted-none r = record { done = []; same = after-none r; count = refl }

-- no more are active than there are
pub active-below : (active now i : ℕ) (is : Bool) → active ≤ i → now ≡ more_active active is → now ≤ i + 1
active-below active now i true low e = omega (arith, low, e)
active-below active now i false low e = omega (arith, low, e)

-- tables of known hosts
pub tables-more : (hosts : List ℕ) (past i : ℕ) (n : Network) (ls left : List TextLine) (all : Reads Tables) (active now : ℕ) (t : ℕ × Bool)
    → i < length hosts → AreCounted all (table_lines (drop i hosts) past n ls) active → next_due (table_due (get_or hosts i 0)) past n ls ≡ Ok (t, left) → now ≡ more_active active t.1
    → AreCounted all (table_lines (drop (i + 1) hosts) past n left) now
tables-more hosts past i n ls left all active now t l c e m = record {
  done = c.done ++ t ∷ [];
  same = block-more all c.done (c.done ++ t ∷ []) (next_due (table_due (get_or hosts i 0)) past n ls) (λ g more. table_lines (drop (i + 1) hosts) past n more) t left
      (c.same ∙ ap (λ hs. after c.done (table_lines hs past n ls)) (at-drop hosts i 0 l)) e refl;
  count = m ∙ ap (λ k. more_active k t.1) c.count ∙ sym (count-more c.done t);
}

pub tables-stopped : (hosts : List ℕ) (past i : ℕ) (n : Network) (ls left : List TextLine) (all : Reads Tables) (active : ℕ) (stop : Unread)
    → i < length hosts → AreCounted all (table_lines (drop i hosts) past n ls) active → Gives (next_due (table_due (get_or hosts i 0)) past n ls) left (Err stop)
    → CountsActive all left (Err stop)
tables-stopped hosts past i n ls left all active (At line) l c e =
    block-fault all c.done (next_due (table_due (get_or hosts i 0)) past n ls) (λ g more. table_lines (drop (i + 1) hosts) past n more) line
    (c.same ∙ ap (λ hs. after c.done (table_lines hs past n ls)) (at-drop hosts i 0 l)) e
tables-stopped hosts past i n ls left all active NoMemory l c e = tt

pub tables-end : (hosts : List ℕ) (past i : ℕ) (n : Network) (left : List TextLine) (all : Reads Tables) (active : ℕ)
    → length hosts ≤ i → AreCounted all (table_lines (drop i hosts) past n left) active → CountsActive all left (Ok active)
tables-end hosts past i n left all active l c =
    (c.done, block-end all c.done left (c.same ∙ ap (λ hs. after c.done (table_lines hs past n left)) (past-drop hosts i l)), c.count)

-- tables of hosts that rise
rising-counted : (past : ℕ) (n : Network) → IsCounted (λ k b ls. rising_tables k b past n ls) (λ b ls. next_due (rising_table_due b) past n ls)
rising-counted past n = record { none = λ b ls. refl; some = λ k b ls. refl }

-- some were read, of which this is the last, and so many are active
pub record AreRisingTables (all : Reads Tables) (before : Option (ℕ × Bool)) (k past : ℕ) (n : Network) (ls : List TextLine) (active : ℕ) : Type 0 where
  pub done : Tables
  pub last : before ≡ last_of done
  pub same : all ≡ after done (rising_tables k (last_of done) past n ls)
  pub count : active ≡ active_count done

pub rising-begin : (count past : ℕ) (n : Network) (ls : List TextLine) → AreRisingTables (rising_tables count None past n ls) None (count - 0) past n ls 0
rising-begin count past n ls = record { done = []; last = refl; same = counted-begin (λ k b ls. rising_tables k b past n ls) count [] ls refl; count = refl }

pub rising-more : (count i past : ℕ) (n : Network) (ls left : List TextLine) (all : Reads Tables) (before now : Option (ℕ × Bool)) (active more : ℕ) (h : ℕ × Bool)
    → i < count → AreRisingTables all before (count - i) past n ls active → next_due (rising_table_due before) past n ls ≡ Ok (h, left) → now ≡ Some h → more ≡ more_active active h.1
    → AreRisingTables all now (count - (i + 1)) past n left more
rising-more count i past n ls left all before now active more h l t e s m = record {
  done = t.done ++ h ∷ [];
  last = s ∙ sym (last_of-more t.done h);
  same = counted-more (λ k b ls. rising_tables k b past n ls) (λ b ls. next_due (rising_table_due b) past n ls) all count i t.done (t.done ++ h ∷ []) ls left h
      (rising-counted past n) l t.same (ap (λ b. next_due (rising_table_due b) past n ls) (sym t.last) ∙ e) refl;
  count = m ∙ ap (λ k. more_active k h.1) t.count ∙ sym (count-more t.done h);
}

pub rising-stopped : (count i past : ℕ) (n : Network) (ls left : List TextLine) (all : Reads Tables) (before : Option (ℕ × Bool)) (active : ℕ) (stop : Unread)
    → i < count → AreRisingTables all before (count - i) past n ls active → Gives (next_due (rising_table_due before) past n ls) left (Err stop) → CountsActive all left (Err stop)
rising-stopped count i past n ls left all before active (At line) l t e =
    counted-fault (λ k b ls. rising_tables k b past n ls) (λ b ls. next_due (rising_table_due b) past n ls) all count i t.done ls line
    (rising-counted past n) l t.same (ap (λ b. next_due (rising_table_due b) past n ls) (sym t.last) ∙ e)
rising-stopped count i past n ls left all before active NoMemory l t e = tt

pub rising-end : (count i past : ℕ) (n : Network) (left : List TextLine) (all : Reads Tables) (before : Option (ℕ × Bool)) (active : ℕ)
    → count ≤ i → AreRisingTables all before (count - i) past n left active → CountsActive all left (Ok active)
rising-end count i past n left all before active l t =
    (t.done, counted-end (λ k b ls. rising_tables k b past n ls) (λ b ls. next_due (rising_table_due b) past n ls) all count i t.done left (rising-counted past n) l t.same, t.count)

-- as many tables as there are hosts
pub as-many : (number count past : ℕ) (n : Network) (hosts : List ℕ) (ls left : List TextLine) (r : Result ℕ Unread)
    → count ≡ length hosts → CountsActive (table_lines hosts past n ls) left r → CountsActive (tables_of number count (Some hosts) past n ls) left r
as-many number count past n hosts ls left r e g =
    let t : nat_eq count (length hosts) ≡ true = grind (arith, nat_tests) in
    subst (λ b. CountsActive (if b then table_lines hosts past n ls else Err number) left r) (sym t) g

-- a line that is out of form is no table
pub table-fault : (due : ReportLine → Option (ℕ × Bool)) (past : ℕ) (n : Network) (ls left : List TextLine) (stop : Unread)
    → Gives (next_said past n ls) left (Err stop) → Gives (next_due due past n ls) left (let s : Result (ℕ × Bool) Unread = Err stop in s)
table-fault due past n ls left (At line) g = due-fault due past n ls line g
table-fault due past n ls left NoMemory g = tt
