-- The serials in limbo from a number on: the least of them is replayed first, and its replay and a clear leave the others.
use Rattle.std.proofs.Common.{◌≡◌, ◌<◌, ◌≤◌, ℕ, ◌+◌, Bool, true, false, List, [], ◌∷◌, map, nat_eq, nat_le, Option, Some, None, is_some, option_map, cond, refl, sym, ◌∙◌, ap, subst, arith, if◌then◌else◌}
use Rattle.std.specs.List.{AllByRecursion, find}
use Rattle.std.specs.Map.{remove_entry}
use Rattle.std.proofs.lemmas.Bool.Decides.{nat_tests}
use Rattle.net_defs.proofs.Distinct.{all-weaker}
use Rattle.world_defs.specs.declared.replayed.Replayed.{Replayed}
use Rattle.world_defs.specs.declared.replayed.Replayed.TheVariants.{Back, Busy}
use Rattle.world_defs.specs.Links.{Caught, LinkState, packet_in}
use Rattle.world_defs.specs.Fault.{caught_as, released, replay_of, next_limbo}
use Rattle.world_defs.specs.Shape.{IsLinks, Rise}
use Rattle.world_defs.specs.declared.event.Event.TheVariants.{Replay}
use Rattle.world_defs.specs.World.{WorldState}
use Rattle.world_defs.specs.Step.{of_replay, replayed, step}
use Rattle.world_defs.specs.Settle.{serials}
use Rattle.world_laws.proofs.Passes.{clear-limbo}
use Rattle.world_defs.specs.Logs as log

-- the serials from a number on
abbrev pub from_on : ℕ → List (ℕ × Caught) → List ℕ
from_on k [] = []
from_on k (e ∷ es) = if nat_le k e.0 then e.0 ∷ from_on k es else from_on k es

-- they are all where none is below
all-on : (k : ℕ) (es : List (ℕ × Caught)) → AllByRecursion (λ e. k ≤ e.0) es → from_on k es ≡ map (λ e. e.0) es
all-on k [] all = refl
all-on k (e ∷ es) all =
    let low : k ≤ e.0 = all.0 in
    let here : nat_le k e.0 ≡ true = grind (arith, nat_tests) in
    ap (λ t. if t then e.0 ∷ from_on k es else from_on k es) here ∙ ap (λ l. e.0 ∷ l) (all-on k es all.1)

not-below : (es : List (ℕ × Caught)) → AllByRecursion (λ e. 0 ≤ e.0) es
not-below [] = tt
not-below (e ∷ es) = (omega arith, not-below es)

pub on-zero : (w : WorldState) → from_on 0 w.links.limbo ≡ serials w
on-zero w = all-on 0 w.links.limbo (not-below w.links.limbo)

-- an entry below is none of them
passed : (k : ℕ) (e : ℕ × Caught) (es : List (ℕ × Caught)) → e.0 < k → from_on k (e ∷ es) ≡ from_on k es
passed k e es low = let over : nat_le k e.0 ≡ false = grind (arith, nat_tests) in ap (λ t. if t then e.0 ∷ from_on k es else from_on k es) over

abbrev first_on : ℕ → List (ℕ × Caught) → Option ℕ
first_on k es = option_map (λ e. e.0) (find (λ e. nat_le k e.0) es)

least-on : (k s : ℕ) (es : List (ℕ × Caught)) → Rise es → first_on k es ≡ Some s → (k ≤ s) × (from_on k es ≡ s ∷ from_on (s + 1) es)
least-on k s [] rise is = cc
least-on k s (e ∷ es) rise is = by (nat_le k e.0) refl is (least-on k s es rise.1)
  where
    by : (t : Bool) → nat_le k e.0 ≡ t → option_map (λ d. d.0) (if t then Some e else find (λ d. nat_le k d.0) es) ≡ Some s
        → (first_on k es ≡ Some s → (k ≤ s) × (from_on k es ≡ s ∷ from_on (s + 1) es))
        → (k ≤ s) × ((if t then e.0 ∷ from_on k es else from_on k es) ≡ s ∷ from_on (s + 1) (e ∷ es))
    by true m here rest =
        let same : e.0 ≡ s = cc in
        let low : k ≤ e.0 = grind (arith, nat_tests) in
        let a : from_on k es ≡ map (λ d. d.0) es = all-on k es (all-weaker (λ d. e.0 < d.0) (λ d. k ≤ d.0) es (λ d h. omega (arith, h, low)) rise.0) in
        let b : from_on (e.0 + 1) es ≡ map (λ d. d.0) es = all-on (e.0 + 1) es (all-weaker (λ d. e.0 < d.0) (λ d. e.0 + 1 ≤ d.0) es (λ d h. omega (arith, h)) rise.0) in
        let c : from_on (e.0 + 1) (e ∷ es) ≡ from_on (e.0 + 1) es = passed (e.0 + 1) e es (omega arith) in
        subst (λ n. (k ≤ n) × ((e.0 ∷ from_on k es) ≡ n ∷ from_on (n + 1) (e ∷ es))) same (low, ap (λ l. e.0 ∷ l) (a ∙ sym b ∙ sym c))
    by false m here rest =
        let r = rest here in
        let high : e.0 < k = grind (arith, nat_tests) in
        let low = r.0 in
        (r.0, r.1 ∙ ap (λ l. s ∷ l) (sym (passed (s + 1) e es (omega (arith, high, low)))))

none-on : (k : ℕ) (es : List (ℕ × Caught)) → first_on k es ≡ None → from_on k es ≡ []
none-on k [] is = refl
none-on k (e ∷ es) is = by (nat_le k e.0) is (none-on k es)
  where
    by : (t : Bool) → option_map (λ d. d.0) (if t then Some e else find (λ d. nat_le k d.0) es) ≡ None → (first_on k es ≡ None → from_on k es ≡ [])
        → (if t then e.0 ∷ from_on k es else from_on k es) ≡ []
    by true here rest = cc
    by false here rest = rest here

below-on : (k s n : ℕ) (es : List (ℕ × Caught)) → AllByRecursion (λ e. e.0 < n) es → first_on k es ≡ Some s → s < n
below-on k s n [] all is = cc
below-on k s n (e ∷ es) all is = by (nat_le k e.0) is (below-on k s n es all.1)
  where
    by : (t : Bool) → option_map (λ d. d.0) (if t then Some e else find (λ d. nat_le k d.0) es) ≡ Some s → (first_on k es ≡ Some s → s < n) → s < n
    by true here rest = let same : e.0 ≡ s = cc in subst (λ m. m < n) same all.0
    by false here rest = rest here

pub next-on : (s : LinkState) (from serial : ℕ) → IsLinks s → next_limbo s from ≡ Some serial
    → (from ≤ serial) × (from_on from s.limbo ≡ serial ∷ from_on (serial + 1) s.limbo)
next-on s from serial l is = least-on from serial s.limbo l.rising is

pub next-none : (s : LinkState) (from : ℕ) → next_limbo s from ≡ None → from_on from s.limbo ≡ []
next-none s from is = none-on from s.limbo is

pub next-below : (s : LinkState) (from serial : ℕ) → IsLinks s → next_limbo s from ≡ Some serial → serial < s.next_serial
next-below s from serial l is = below-on from serial s.next_serial s.limbo l.below_next is

-- the others stay where one is taken out
taken-out : (serial k : ℕ) (es : List (ℕ × Caught)) → serial < k → from_on k (remove_entry (nat_eq serial) es) ≡ from_on k es
taken-out serial k [] low = refl
taken-out serial k (e ∷ es) low = by (nat_eq serial e.0) refl (taken-out serial k es low)
  where
    by : (t : Bool) → nat_eq serial e.0 ≡ t → from_on k (remove_entry (nat_eq serial) es) ≡ from_on k es → from_on k (cond t es (e ∷ remove_entry (nat_eq serial) es)) ≡ from_on k (e ∷ es)
    by true m rest = let same : serial ≡ e.0 = grind (arith, nat_tests) in sym (passed k e es (omega (arith, same, low)))
    by false m rest = ap (λ l. if nat_le k e.0 then e.0 ∷ l else l) rest

replay_of-on : (w : WorldState) (serial : ℕ) (o : Option Caught) → from_on (serial + 1) (of_replay w (replay_of w.links serial o)).1.links.limbo ≡ from_on (serial + 1) w.links.limbo
replay_of-on w serial None = refl
replay_of-on w serial (Some caught) = by (is_some (packet_in w.links caught.channel))
  where
    by : (t : Bool) → from_on (serial + 1) (of_replay w (if t then (let r : Replayed × LinkState = (Busy caught.channel, w.links) in r) else (Back caught.channel, released w.links serial caught))).1.links.limbo ≡ from_on (serial + 1) w.links.limbo
    by true = refl
    by false = taken-out serial (serial + 1) w.links.limbo (omega arith)

replay-on : (w : WorldState) (serial : ℕ) → from_on (serial + 1) (step w (Replay serial)).1.links.limbo ≡ from_on (serial + 1) w.links.limbo
unfolding replayed
replay-on w serial = replay_of-on w serial (caught_as w.links serial)

-- a replay and the clear after it leave the later serials
pub behind-replay : (w : WorldState) (serial : ℕ) → from_on (serial + 1) (log.cleared (Replay serial ∷ []) w).world.links.limbo ≡ from_on (serial + 1) w.links.limbo
behind-replay w serial =
    let u : WorldState = (step w (Replay serial)).1 in
    ap (from_on (serial + 1)) (clear-limbo u) ∙ replay-on w serial
