-- What is known once a way was added.
use Rattle.std.proofs.Common.{◌≡◌, ◌≢◌, ◌<◌, ℕ, length, List, [], ◌∷◌, ◌++◌, Bool, true, false, nat_eq, Option, Some, None, refl, ap, sym, subst, if◌then◌else◌}
use Rattle.std.specs.Prelude.{ℤ, pos, ◌+ℤ◌}
use Rattle.std.proofs.lemmas.Bool.Decides.{Decides-eqb}
use Rattle.journal_defs.specs.declared.entry.Entry.{Entry}
use Rattle.journal_defs.specs.Tree.{Node}
use Rattle.port_align.specs.declared.frame.ClassFrame.{ClassFrame}
use Rattle.port_align.specs.declared.end.NodePort.{NodePort}
use Rattle.replicate_merge.specs.declared.meeting.Meeting.{Meeting}
use Rattle.replicate_merge.specs.declared.meeting.HostNode.{HostNode}
use Rattle.replicate_merge.specs.declared.way.Spot.{Spot}
use Rattle.replicate_merge.specs.declared.way.Spot.TheVariants.{Address, Port}
use Rattle.replicate_merge.specs.declared.way.Way.{Way}
use Rattle.replicate_merge.specs.declared.way.Way.TheVariants.{Host, Cable}
use Rattle.replicate_merge.specs.Ways.{IsInside, IsWay, begins_at, frame_at}
use Rattle.replicate_merge.specs.Work.{HasOneMore, Knows, LearnsEnd, far_end}
use Rattle.replicate_merge.specs.Ends.{Puts, end_at, known_ends}
use Rattle.replicate_merge.specs.Adding.{AddsEnd, host_end, known_at, node_of_host}
use Rattle.replicate_merge.specs.Adding.AddsEnd.{is_learnt, is_met}
use Rattle.replicate_merge.proofs.Pairs.{learn-way, open-way}
use Rattle.replicate_merge.proofs.Together.{port-parts}

-- a node learnt of a host of which none was known
host-last : (hosts : List HostNode) (a n : ℕ) → node_of_host hosts a ≡ None → node_of_host (hosts ++ record { address = a; node = n } ∷ []) a ≡ Some n
host-last [] a n e = ap (λ b. if b then Some n else None) ((Decides-eqb a a).1 refl)
host-last (h ∷ hs) a n e = by (nat_eq h.address a) e (host-last hs a n)
  where
    by : (b : Bool) → (if b then Some h.node else node_of_host hs a) ≡ None → (node_of_host hs a ≡ None → node_of_host (hs ++ record { address = a; node = n } ∷ []) a ≡ Some n) → (if b then Some h.node else node_of_host (hs ++ record { address = a; node = n } ∷ []) a) ≡ Some n
    by true f rest = cc
    by false f rest = rest f

host-other : (hosts : List HostNode) (a b n : ℕ) → a ≢ b → node_of_host (hosts ++ record { address = a; node = n } ∷ []) b ≡ node_of_host hosts b
host-other [] a b n d = by (nat_eq a b) refl
  where
    by : (t : Bool) → nat_eq a b ≡ t → (if t then Some n else None) ≡ None
    by true e = absurd (d ((Decides-eqb a b).0 e))
    by false e = refl
host-other (h ∷ hs) a b n d = ap (λ o. if nat_eq h.address b then Some h.node else o) (host-other hs a b n d)

pub host-learnt : (hosts : List HostNode) (ends : List (Option NodePort)) (a n : ℕ) → node_of_host hosts a ≡ None → LearnsEnd (known_at hosts ends) (known_at (hosts ++ record { address = a; node = n } ∷ []) ends) (Address a) (record { node = n; port = pos 0 })
host-learnt hosts ends a n none = record { fresh = ap host_end none; here = ap host_end (host-last hosts a n none); other = λ s d. other s d }
  where
    other : (s : Spot) → Address a ≢ s → known_at (hosts ++ record { address = a; node = n } ∷ []) ends s ≡ known_at hosts ends s
    other (Address b) d = ap host_end (host-other hosts a b n (λ e. d (ap Address e)))
    other (Port c p) d = refl

-- a far end learnt of a port of which none was known
pub end-learnt : (hosts : List HostNode) (old new : List (Option NodePort)) (class : ℕ) (p : ℤ) (e : NodePort) → end_at old class p ≡ None → Puts (known_ends old) (known_ends new) (Port class p) (Some e) → LearnsEnd (known_at hosts old) (known_at hosts new) (Port class p) e
end-learnt hosts old new class p e none put = record { fresh = none; here = put.here; other = λ s d. other s d }
  where
    other : (s : Spot) → Port class p ≢ s → known_at hosts new s ≡ known_at hosts old s
    other (Address b) d = refl
    other (Port c q) d = put.other (Port c q) d

-- what is known of the ways of a journal after one more was added
pub know-added : (host : ℕ) (j : List Entry) (ns : List Node) (ws more : List Way) (fs : List ClassFrame) (old new : Spot → Option NodePort) (before after : List Meeting) (w : Way) → Knows host j ns ws fs old before → HasOneMore ws w more → IsWay host j ns w → AddsEnd (begins_at fs w) (far_end w) old new before after → Knows host j ns more fs new after
know-added host j ns ws more fs old new before after w k one is (is_learnt learns list) =
    subst (λ (l : List Meeting). Knows host j ns more fs new l) (sym list) (learn-way host j ns ws fs old before k w more new one is learns)
know-added host j ns ws more fs old new before after w k one is (is_met first there same list) =
    let all : old ≡ new = λ i s. sym (same s) i in
    subst (λ (l : List Meeting). Knows host j ns more fs new l) (sym list)
    (subst (λ (f : Spot → Option NodePort). Knows host j ns more fs f (before ++ record { first = first; second = far_end w } ∷ [])) all (open-way host j ns ws fs old before k w more first one is there))

-- the class of the port where a way begins is named by a node
pub begin-inside : (fs : List ClassFrame) (w : Way) (class : ℕ) (p : ℤ) → IsInside (length fs) w → ((n : ℕ) → n < length fs → (frame_at fs n).class < length fs) → begins_at fs w ≡ Port class p → class < length fs
begin-inside fs (Host a n) class p is placed e = cc
begin-inside fs (Cable m q n i) class p is placed e = subst (λ c. c < length fs) (port-parts (frame_at fs m).class class (q +ℤ (frame_at fs m).offset) p e).0 (placed m is.0)

-- a way from a host's address ends at port 0
pub host-far : (fs : List ClassFrame) (w : Way) (a : ℕ) → begins_at fs w ≡ Address a → record { node = (far_end w).node; port = pos 0 } ≡ far_end w
host-far fs (Host b n) a e = refl
host-far fs (Cable m q n i) a e = cc
