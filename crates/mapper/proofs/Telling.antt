-- What the classes of a journal say of its entries.
use Rattle.std.proofs.Common.{◌≡◌, ◌≢◌, ◌<◌, ◌≤◌, ◌+◌, ℕ, zero, suc, List, [], ◌∷◌, ◌++◌, map, length, Bool, true, false, if◌then◌else◌, true≢false, Some, sym, ◌∙◌, subst, ap, refl, arith, ◌⊎◌, inl, inr}
use Rattle.std.specs.Prelude.{ℤ, slice_get}
use Rattle.std.proofs.lemmas.Bool.{false≢true, cases_order}
use Rattle.net_defs.specs.declared.place.Answer.TheVariants.{Switch}
use Rattle.journal_defs.specs.declared.entry.Entry.{Entry}
use Rattle.journal_defs.specs.Tree.{Node, IsSwitchNode, IsJournal, answered, is_found, nodes, reached}
use Rattle.journal_defs.specs.Tree.Node.{Reached}
use Rattle.journal_defs.specs.Growth.{HasExpanded, crossed}
use Rattle.port_align.specs.declared.frame.ClassFrame.{ClassFrame}
use Rattle.map_laws.proofs.Asks.{switch-node}
use Rattle.probe.proofs.Indexing.{answered-at}
use Rattle.replicate_merge.specs.Table.{ClassTable, StandsFor}
use Rattle.replicate_merge.specs.Ways.{node_at}
use Rattle.replicate_merge.proofs.Nodes.{node-at}
use Rattle.mapper.specs.Finding.{TellsExpanded, TellsOpen, TellsOpenAt}
use Rattle.mapper.specs.Growths.{AreExpanded, IsNextOpen}

slice-index : (ns : List Node) (n : ℕ) → n < length ns → slice_get ns n ≡ Some (node_at ns n)
slice-index [] n l = absurd (omega arith)
slice-index (x ∷ ns) zero l = refl
slice-index (x ∷ ns) (suc n) l = slice-index ns n (omega arith)

-- a switch has a number
never-missing : (host : ℕ) (j : List Entry) (c : ClassTable) (w : List ℤ) → StandsFor host j c → IsSwitchNode j w → ((n : ℕ) → slice_get c.nodes n ≢ Some (Reached w)) → ⊥
never-missing host j c w s switch none =
    let a = node-at j (Reached w) (switch-node j w switch) in
    none a.number (ap (λ ns. slice_get ns a.number) s.numbered ∙ slice-index (nodes j) a.number a.below ∙ ap Some a.is)

pub tells-missing : (c : ClassTable) (w : List ℤ) (told : Bool) → ((n : ℕ) → slice_get c.nodes n ≢ Some (Reached w)) → TellsExpanded c w told
tells-missing c w told none = record { yes = λ host j s switch e. absurd (never-missing host j c w s switch none); no = λ host j s switch e. absurd (never-missing host j c w s switch none) }

pub tells-marked : (c : ClassTable) (w : List ℤ) (n : ℕ) (f : ClassFrame) (told : Bool) → slice_get c.nodes n ≡ Some (Reached w) → slice_get c.frames n ≡ Some f → slice_get c.expanded f.class ≡ Some told → TellsExpanded c w told
tells-marked c w n f told node frame mark = record {
  yes = λ host j s switch e. (s.expanded n (Reached w) f (record { node = node; frame = frame })).0 (mark ∙ ap Some e);
  no = λ host j s switch e h. true≢false (let one : true ≡ told = (let both : Some true ≡ Some told = sym ((s.expanded n (Reached w) f (record { node = node; frame = frame })).1 h) ∙ mark in cc) in one ∙ e);
}

-- a switch within the depth whose class isn't expanded is to be expanded
pub tells-switch : (c : ClassTable) (e : Entry) (depth : ℕ) (marked : Bool) → e.answer ≡ Switch → crossed e.walk < depth → TellsExpanded c e.walk marked → (told : Bool) → (told ≡ true → marked ≡ false) → (told ≡ false → marked ≡ true) → TellsOpen c e depth told
tells-switch c e depth marked switch near t told up down = record {
  yes = λ host j s is yes. record { switch = switch; near = near; fresh = t.no host j s (is ∙ ap Some switch) (up yes) };
  no = λ host j s is no sw n. t.yes host j s (is ∙ ap Some switch) (down no);
}

pub tells-far : (c : ClassTable) (e : Entry) (depth : ℕ) → depth ≤ crossed e.walk → TellsOpen c e depth false
tells-far c e depth far = record { yes = λ host j s is yes. absurd (false≢true yes); no = λ host j s is no sw near. absurd (omega arith) }

pub tells-other : (c : ClassTable) (e : Entry) (depth : ℕ) → e.answer ≢ Switch → TellsOpen c e depth false
tells-other c e depth other = record { yes = λ host j s is yes. absurd (false≢true yes); no = λ host j s is no sw near. absurd (other sw) }

slice-map : (j : List Entry) (i : ℕ) (e : Entry) → slice_get j i ≡ Some e → slice_get (map (λ x. x.walk) j) i ≡ Some e.walk
slice-map [] i e f = cc
slice-map (x ∷ j) zero e f = ap Some (ap (λ y. y.walk) (let one : x ≡ e = cc in one))
slice-map (x ∷ j) (suc i) e f = slice-map j i e f

-- the entry at a place answers its walk
pub entry-answered : (j : List Entry) (i : ℕ) (e : Entry) → IsJournal j → slice_get j i ≡ Some e → answered j e.walk ≡ Some e.answer
entry-answered j i e once there = answered-at j e.walk i e once (slice-map j i e there) there

-- a node keeps its number as the journal grows
reached-kept : (j l : List Entry) (n : ℕ) (u : Node) → slice_get (reached j) n ≡ Some u → slice_get (reached (j ++ l)) n ≡ Some u
reached-kept [] l n u e = cc
reached-kept (x ∷ j) l n u e = by (is_found x.answer) n e (λ k f. reached-kept j l k u f)
  where
    by : (b : Bool) (n : ℕ) → slice_get (if b then Reached x.walk ∷ reached j else reached j) n ≡ Some u → ((k : ℕ) → slice_get (reached j) k ≡ Some u → slice_get (reached (j ++ l)) k ≡ Some u) → slice_get (if b then Reached x.walk ∷ reached (j ++ l) else reached (j ++ l)) n ≡ Some u
    by true zero e rest = e
    by true (suc n) e rest = rest n e
    by false n e rest = rest n e

pub number-kept : (j l : List Entry) (n : ℕ) (u : Node) → slice_get (nodes j) n ≡ Some u → slice_get (nodes (j ++ l)) n ≡ Some u
number-kept j l zero u e = e
number-kept j l (suc n) u e = reached-kept j l n u e

-- the first place that says so is the next
pub open-found : (host depth : ℕ) (j l : List Entry) (c : ClassTable) (from place : ℕ) (told : Bool) → StandsFor host j c → IsJournal j → l ≡ j → TellsOpenAt c l place depth told → told ≡ true → from ≤ place → AreExpanded host depth j from place → IsNextOpen host depth j from place
open-found host depth j l c from place told s once same t opened low all =
    let there : slice_get j place ≡ Some t.entry = ap (λ i. slice_get i place) (sym same) ∙ t.there in
    record { later = low; is_open = record { entry = t.entry; there = there; is_open = t.tells.yes host j s (entry-answered j place t.entry once there) opened }; first = all }

-- and one that doesn't is passed
pub open-passed : (host depth : ℕ) (j l : List Entry) (c : ClassTable) (from place : ℕ) (told : Bool) → StandsFor host j c → IsJournal j → l ≡ j → TellsOpenAt c l place depth told → told ≡ false → AreExpanded host depth j from place → AreExpanded host depth j from (place + 1)
open-passed host depth j l c from place told s once same t shut all = record { each = λ i e a b at sw near. by i e a b at sw near (cases_order i place) }
  where
    there : slice_get j place ≡ Some t.entry
    there = ap (λ i. slice_get i place) (sym same) ∙ t.there

    here : (e : Entry) → slice_get j place ≡ Some e → e.answer ≡ Switch → crossed e.walk < depth → HasExpanded host j (Reached e.walk)
    here e at sw near =
        let both : Some t.entry ≡ Some e = sym there ∙ at in
        let one : t.entry ≡ e = cc in
        subst (λ (x : Entry). HasExpanded host j (Reached x.walk)) one (t.tells.no host j s (entry-answered j place t.entry once there) shut (ap (λ (x : Entry). x.answer) one ∙ sw) (subst (λ (x : Entry). crossed x.walk < depth) (sym one) near))

    by : (i : ℕ) (e : Entry) → from ≤ i → i < place + 1 → slice_get j i ≡ Some e → e.answer ≡ Switch → crossed e.walk < depth → (i ≡ place) ⊎ ((i < place) ⊎ (place < i)) → HasExpanded host j (Reached e.walk)
    by i e a b at sw near (inl p) = here e (subst (λ k. slice_get j k ≡ Some e) p at) sw near
    by i e a b at sw near (inr (inl p)) = all.each i e a p at sw near
    by i e a b at sw near (inr (inr p)) = absurd (omega arith)
