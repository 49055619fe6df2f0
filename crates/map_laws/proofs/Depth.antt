-- A depth of Q + D + 1 suffices.
use Rattle.std.proofs.Common.{◌≡◌, ◌≤◌, ℕ, List, length, true, arith, ◌⊎◌, inl, inr}
use Rattle.std.specs.Prelude.{ℤ}
use Rattle.net_defs.specs.declared.vertex.Vertex.TheVariants.{Host}
use Rattle.net_defs.specs.Network.{Network, IsFabric, has_vertex}
use Rattle.journal_defs.specs.declared.entry.Entry.{Entry}
use Rattle.journal_defs.specs.Tree.{nodes}
use Rattle.journal_defs.specs.Growth.{IsGrowing, IsGrown, IsClosed, IsEndedByDepth, IsEndedAtLimit, NextAsk, node_limit}
use Rattle.journal_defs.specs.Growth.IsGrowing.{nothing, more}
use Rattle.journal_defs.specs.Growth.NextAsk.{first, goes_on, begins}
use Rattle.journal_defs.specs.Truth.{IsTrueJournal}
use Rattle.journal_defs.specs.Depth.{enough_depth}
use Rattle.map_laws.specs.Laws.{DepthSuffices, EndsClosed}
use Rattle.map_laws.proofs.Full.{IsFull}
use Rattle.map_laws.proofs.Closing.{closing}
use Rattle.map_laws.proofs.Near.{few-by-count}
use Rattle.map_laws.proofs.Ends.{few-by-hosts}

-- growth to a depth is growth to a greater one
ask-deeper : (host depth deeper : ℕ) (j : List Entry) (x : List ℤ) → depth ≤ deeper → NextAsk host depth j x → NextAsk host deeper j x
ask-deeper host depth deeper j x l (first a b) = first a b
ask-deeper host depth deeper j x l (goes_on w t b least all is) = goes_on w t b least all is
ask-deeper host depth deeper j x l (begins w rest c is) = begins w rest (record { switch = c.switch; near = (let k = c.near in omega arith); fresh = c.fresh; lesser = c.lesser }) is

growing-deeper : (host depth deeper : ℕ) (j : List Entry) → depth ≤ deeper → IsGrowing host depth j → IsGrowing host deeper j
growing-deeper host depth deeper j l (nothing) = nothing
growing-deeper host depth deeper j l (more before e g ask is) = more before e (growing-deeper host depth deeper before l g) (ask-deeper host depth deeper before e.walk l ask) is

-- growth that has closed has ended for every depth
ended-deeper : (host depth deeper : ℕ) (j : List Entry) → IsEndedByDepth host depth j → IsClosed host j → IsEndedByDepth host deeper j
ended-deeper host depth deeper j e c = record { started = e.started; at_rest = e.at_rest; expanded = λ w s l. c.expanded w s; kept = e.kept }

no-limit : (j : List Entry) → length (nodes j) ≤ node_limit → ¬ IsEndedAtLimit j
no-limit j l e = let p = e.passed in omega arith

pub by-depth : (host depth : ℕ) (j : List Entry) → length (nodes j) ≤ node_limit → IsEndedByDepth host depth j ⊎ IsEndedAtLimit j → IsEndedByDepth host depth j
by-depth host depth j l (inl e) = e
by-depth host depth j l (inr e) = absurd (no-limit j l e)

ends-closed : (host depth : ℕ) (j : List Entry) → IsGrowing host depth j → length (nodes j) ≤ node_limit → IsEndedByDepth host depth j → IsClosed host j → EndsClosed host depth j
ends-closed host depth j g l e c = record {
  closed = c;
  by_depth = e;
  not_at_limit = no-limit j l;
  deeper = λ deeper k. record { growing = growing-deeper host depth deeper j k g; ended = inl (ended-deeper host depth deeper j e c) };
}

full-to-depth : (n : Network) (host depth : ℕ) (j : List Entry) → IsFabric n → IsTrueJournal n host j → IsGrowing host depth j → IsEndedByDepth host depth j → IsFull n host depth j depth
full-to-depth n host depth j f all g e = record { fabric = f; truth = all; growing = g; started = e.started; expanded = e.expanded }

ends-within : (n : Network) (host depth : ℕ) (j : List Entry) → IsFabric n → has_vertex n (Host host) ≡ true → enough_depth n host ≤ depth → IsTrueJournal n host j → IsGrown host depth j → length (nodes j) ≤ node_limit → EndsClosed host depth j
ends-within n host depth j f h deep all g l =
    let e = by-depth host depth j l g.ended in
    ends-closed host depth j g.growing l e (closing n host depth j depth (full-to-depth n host depth j f all g.growing e) h deep)

-- the journal keeps the node limit while it grows
pub depth_suffices : DepthSuffices
depth_suffices n host depth j f h deep (inl count) all g = ends-within n host depth j f h (omega arith) all g (few-by-count n host depth j f h all g.growing (omega arith))
depth_suffices n host depth j f h deep (inr hosts) all g = ends-within n host depth j f h (omega arith) all g (few-by-hosts n host depth j f all hosts g.growing)
