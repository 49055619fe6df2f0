-- What the entries of a journal say of its switches.
use Rattle.std.proofs.Common.{◌≡◌, ◌<◌, ◌≤◌, ◌+◌, ◌⊎◌, inl, inr, ℕ, suc, List, [], ◌∷◌, Bool, true, false, length, Some, option_map, ◌≢◌, refl, ap, sym, ◌∙◌, subst, arith, if◌then◌else◌}
use Rattle.std.specs.Prelude.{ℤ, slice_get}
use Rattle.std.proofs.lemmas.Bool.{cases_eq}
use Rattle.std.proofs.lemmas.Option.{slice_get-map, slice_get-get_or}
use Rattle.net_defs.specs.declared.place.Answer.{Answer}
use Rattle.net_defs.specs.declared.place.Answer.TheVariants.{Switch}
use Rattle.journal_defs.specs.declared.entry.Entry.{Entry}
use Rattle.net_defs.specs.Turn.{same_turns}
use Rattle.journal_defs.specs.Tree.{Node, IsJournal, answered, nodes}
use Rattle.journal_defs.specs.Tree.Node.{Reached}
use Rattle.journal_defs.specs.Growth.{HasExpanded, IsClosed}
use Rattle.net_defs.proofs.Turns.{same_turns-true}
use Rattle.journal_defs.proofs.Standing.{replicates-nodes}
use Rattle.probe.proofs.Indexing.{answered-at}
use Rattle.replicate_merge.specs.Table.{ClassTable, StandsFor}
use Rattle.replicate_merge.proofs.Nodes.{node-at}
use Rattle.map_quotient.proofs.Places.{one-there, get-less}

-- the entry of an answered walk
pub record IsEntry (j : List Entry) (w : List ℤ) (a : Answer) : Type 0 where
  pub place : ℕ
  pub entry : Entry
  pub there : slice_get j place ≡ Some entry
  pub walk : entry.walk ≡ w
  pub answer : entry.answer ≡ a

pub answered-entry : (j : List Entry) (w : List ℤ) (a : Answer) → answered j w ≡ Some a → IsEntry j w a
answered-entry [] w a e = cc
answered-entry (x ∷ j) w a e = by (same_turns x.walk w) refl e (answered-entry j w a)
  where
    by : (b : Bool) → same_turns x.walk w ≡ b → (if b then Some x.answer else answered j w) ≡ Some a → (answered j w ≡ Some a → IsEntry j w a) → IsEntry (x ∷ j) w a
    by true p q rest = record { place = 0; entry = x; there = refl; walk = same_turns-true x.walk w p; answer = (let one : x.answer ≡ a = cc in one) }
    by false p q rest = let r = rest q in record { place = suc r.place; entry = r.entry; there = r.there; walk = r.walk; answer = r.answer }

-- an entry has the answer to its walk
pub entry-answered : (j : List Entry) (k : ℕ) (e : Entry) → IsJournal j → slice_get j k ≡ Some e → answered j e.walk ≡ Some e.answer
entry-answered j k e once s = answered-at j e.walk k e once (slice_get-map (λ x. x.walk) j k ∙ ap (option_map (λ (x : Entry). x.walk)) s) s

-- The switches of the first entries have expanded classes.
pub record AreExpanded (host : ℕ) (j es : List Entry) (k : ℕ) : Type 0 where
  pub each : (i : ℕ) (e : Entry) → i < k → slice_get es i ≡ Some e → e.answer ≡ Switch → HasExpanded host j (Reached e.walk)

pub expanded-none : (host : ℕ) (j es : List Entry) → AreExpanded host j es 0
expanded-none host j es = record { each = λ i e l. absurd (omega arith) }

pub expanded-next : (host : ℕ) (j es : List Entry) (k : ℕ) (e : Entry) → slice_get es k ≡ Some e → (e.answer ≡ Switch → HasExpanded host j (Reached e.walk)) → AreExpanded host j es k → AreExpanded host j es (k + 1)
expanded-next host j es k e s here all = record { each = λ i x l t a. by i x l t a (cases_eq i k) }
  where
    by : (i : ℕ) (x : Entry) → i < k + 1 → slice_get es i ≡ Some x → x.answer ≡ Switch → ((i ≡ k) ⊎ (i ≢ k)) → HasExpanded host j (Reached x.walk)
    by i x l t a (inl m) =
        let one : e ≡ x = one-there es k e x s (ap (slice_get es) (sym m) ∙ t) in
        subst (λ (y : Entry). HasExpanded host j (Reached y.walk)) one (here (ap (λ (y : Entry). y.answer) one ∙ a))
    by i x l t a (inr d) = all.each i x (omega arith) t a

-- all entries: the journal is closed
pub expanded-all : (host : ℕ) (j es : List Entry) (k : ℕ) → es ≡ j → length es ≤ k → AreExpanded host j es k → IsClosed host j
expanded-all host j es k same long all = record { expanded = λ w s. by w (answered-entry j w Switch s) }
  where
    by : (w : List ℤ) → IsEntry j w Switch → HasExpanded host j (Reached w)
    by w e =
        let t : slice_get es e.place ≡ Some e.entry = ap (λ (l : List Entry). slice_get l e.place) same ∙ e.there in
        let l = get-less es e.place e.entry t in
        subst (λ x. HasExpanded host j (Reached x)) e.walk (all.each e.place e.entry (omega arith) t e.answer)

-- a node has a number
pub has-number : (host : ℕ) (j : List Entry) (c : ClassTable) (w : List ℤ) → StandsFor host j c → HasExpanded host j (Reached w) → (n : ℕ) × (slice_get c.nodes n ≡ Some (Reached w))
has-number host j c w g h =
    let n = node-at j (Reached w) (replicates-nodes host j (Reached w) (Reached h.member) h.offset h.one_class).0 in
    (n.number, ap (λ (ns : List Node). slice_get ns n.number) g.numbered ∙ slice_get-get_or (nodes j) n.number _ n.below ∙ ap Some n.is)
