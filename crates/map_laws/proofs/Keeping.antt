-- What a journal keeps when it grows.
use Rattle.std.proofs.Common.{◌≡◌, ℕ, List, [], ◌∷◌, ◌++◌, Bool, true, false, Option, Some, None, is_some, sym, ◌∙◌, ap, refl, if◌then◌else◌, ◌⊎◌, inl, inr}
use Rattle.std.specs.Prelude.{ℤ, ◌+ℤ◌}
use Rattle.std.proofs.lemmas.Bool.{false≢true}
use Rattle.net_defs.specs.declared.place.Answer.{Answer}
use Rattle.journal_defs.specs.declared.entry.Entry.{Entry}
use Rattle.net_defs.specs.Turn.{same_turns}
use Rattle.journal_defs.specs.Tree.{Node, Leads, IsNode, answered, is_asked, host_of, host_in, has_found}
use Rattle.journal_defs.specs.Tree.Node.{Mapper, Reached}
use Rattle.journal_defs.specs.Tree.Leads.{onward, back, out, home}
use Rattle.journal_defs.specs.Replicates.{Replicates}
use Rattle.journal_defs.specs.Replicates.Replicates.{same, turned as other_way, along, one_host, behind}
use Rattle.journal_defs.specs.Growth.{IsBegun, IsExpanded, HasExpanded}
use Rattle.net_defs.proofs.Turns.{same_turns-true, same_turns-refl}
use Rattle.journal_defs.proofs.Growing.{asked-answer}

-- the answers of one journal stand in another
pub record Keeps (j l : List Entry) : Type 0 where
  pub kept : (w : List ℤ) (a : Answer) → answered j w ≡ Some a → answered l w ≡ Some a

pub keeps-append : (j l : List Entry) → Keeps j (j ++ l)
keeps-append j l = record { kept = by j }
  where
    by : (i : List Entry) (w : List ℤ) (a : Answer) → answered i w ≡ Some a → answered (i ++ l) w ≡ Some a
    by [] w a e = cc
    by (x ∷ i) w a e = step (same_turns x.walk w) e (by i w a)
      where
        step : (b : Bool) → (if b then Some x.answer else answered i w) ≡ Some a → (answered i w ≡ Some a → answered (i ++ l) w ≡ Some a) → (if b then Some x.answer else answered (i ++ l) w) ≡ Some a
        step true f rest = f
        step false f rest = rest f

-- the answer to a walk that was asked last
pub answered-push : (j : List Entry) (e : Entry) (w : List ℤ) (a : Answer) → answered (j ++ e ∷ []) w ≡ Some a → (answered j w ≡ Some a) ⊎ ((e.walk ≡ w) × (e.answer ≡ a))
answered-push [] e w a f = by (same_turns e.walk w) refl f
  where
    by : (b : Bool) → same_turns e.walk w ≡ b → (if b then Some e.answer else None) ≡ Some a → (None ≡ Some a) ⊎ ((e.walk ≡ w) × (e.answer ≡ a))
    by true p g = inr (same_turns-true e.walk w p, (let one : e.answer ≡ a = cc in one))
    by false p g = inl g
answered-push (x ∷ j) e w a f = by (same_turns x.walk w) f (answered-push j e w a)
  where
    by : (b : Bool) → (if b then Some x.answer else answered (j ++ e ∷ []) w) ≡ Some a → (answered (j ++ e ∷ []) w ≡ Some a → (answered j w ≡ Some a) ⊎ ((e.walk ≡ w) × (e.answer ≡ a))) → ((if b then Some x.answer else answered j w) ≡ Some a) ⊎ ((e.walk ≡ w) × (e.answer ≡ a))
    by true g rest = inl g
    by false g rest = rest g

-- a walk that was not asked before
pub answered-last : (j : List Entry) (e : Entry) → is_asked j e.walk ≡ false → answered (j ++ e ∷ []) e.walk ≡ Some e.answer
answered-last [] e f = rw (same_turns-refl e.walk) refl
answered-last (x ∷ j) e f = by (same_turns x.walk e.walk) f (answered-last j e)
  where
    by : (b : Bool) → is_some (if b then Some x.answer else answered j e.walk) ≡ false → (is_asked j e.walk ≡ false → answered (j ++ e ∷ []) e.walk ≡ Some e.answer) → (if b then Some x.answer else answered (j ++ e ∷ []) e.walk) ≡ Some e.answer
    by true g rest = absurd (false≢true (sym g))
    by false g rest = rest g

pub asked-last : (j : List Entry) (e : Entry) → is_asked (j ++ e ∷ []) e.walk ≡ true
asked-last [] e = rw (same_turns-refl e.walk) refl
asked-last (x ∷ j) e = by (same_turns x.walk e.walk) (asked-last j e)
  where
    by : (b : Bool) → is_asked (j ++ e ∷ []) e.walk ≡ true → is_some (if b then Some x.answer else answered (j ++ e ∷ []) e.walk) ≡ true
    by true r = refl
    by false r = r

-- what found something was answered
pub found-answer : (o : Option Answer) → has_found o ≡ true → (a : Answer) × (o ≡ Some a)
found-answer None e = absurd (false≢true e)
found-answer (Some a) e = (a, refl)

pub asked-push : (j : List Entry) (e : Entry) (w : List ℤ) → is_asked (j ++ e ∷ []) w ≡ true → (is_asked j w ≡ true) ⊎ (e.walk ≡ w)
asked-push j e w f = let told = asked-answer (answered (j ++ e ∷ []) w) f in by (answered-push j e w told.0 told.1)
  where
    by : {a : Answer} → (answered j w ≡ Some a) ⊎ ((e.walk ≡ w) × (e.answer ≡ a)) → (is_asked j w ≡ true) ⊎ (e.walk ≡ w)
    by (inl p) = inl (ap is_some p)
    by (inr p) = inr p.0

module _ (j l : List Entry) (keeps : Keeps j l) where
  pub asked-kept : (w : List ℤ) → is_asked j w ≡ true → is_asked l w ≡ true
  asked-kept w e = let told = asked-answer (answered j w) e in ap is_some (keeps.kept w told.0 told.1)

  pub node-kept : (u : Node) → IsNode j u → IsNode l u
  node-kept Mapper e = refl
  node-kept (Reached w) e = let told = found-answer (answered j w) e in ap has_found (keeps.kept w told.0 told.1) ∙ ap has_found (sym told.1) ∙ e

  host_in-kept : (w : List ℤ) (h : ℕ) (o : Option Answer) → answered j w ≡ o → host_in o ≡ Some h → host_in (answered l w) ≡ Some h
  host_in-kept w h None p e = cc
  host_in-kept w h (Some a) p e = ap host_in (keeps.kept w a p) ∙ e

  host-kept : (host : ℕ) (u : Node) (h : ℕ) → host_of host j u ≡ Some h → host_of host l u ≡ Some h
  host-kept host Mapper h e = e
  host-kept host (Reached w) h e = host_in-kept w h (answered j w) refl e

  leads-kept : (u x : Node) (p i : ℤ) → Leads j u p x i → Leads l u p x i
  leads-kept u x p i (onward {w = w} {x = y} {p = t} a b is) = onward (node-kept (Reached w) a) (node-kept (Reached y) b) is
  leads-kept u x p i (back {w = w} {x = y} {p = t} a b is) = back (node-kept (Reached w) a) (node-kept (Reached y) b) is
  leads-kept u x p i (out a) = out (node-kept (Reached []) a)
  leads-kept u x p i (home a) = home (node-kept (Reached []) a)

  pub replicates-kept : (host : ℕ) (u v : Node) (k : ℤ) → Replicates host j u v k → Replicates host l u v k
  replicates-kept host u v k (same {u = x} node) = same (node-kept x node)
  replicates-kept host u v k (other_way {u = x} {v = y} {k = i} r) = other_way (replicates-kept host x y i r)
  replicates-kept host u v k (along {u = x} {v = y} {w = z} {i = i} {k = m} r t) = along (replicates-kept host x y i r) (replicates-kept host y z m t)
  replicates-kept host u v k (one_host {u = x} {v = y} {h = h} a b) = one_host (host-kept host x h a) (host-kept host y h b)
  replicates-kept host u v k (behind {u = a} {v = b} {x = x} {y = y} {k = m} {p = p} {i = i} {q = q} r s t) = behind (replicates-kept host a b m r) (leads-kept a x p i s) (leads-kept b y (p +ℤ m) q t)

  pub expanded-kept : (w : List ℤ) → IsExpanded j w → IsExpanded l w
  expanded-kept w x = record { asked = λ t on. asked-kept (w ++ t ∷ []) (x.asked t on) }

  pub has_expanded-kept : (host : ℕ) (u : Node) → HasExpanded host j u → HasExpanded host l u
  has_expanded-kept host u h = record { member = h.member; offset = h.offset; one_class = replicates-kept host u (Reached h.member) h.offset h.one_class; expanded = expanded-kept h.member h.expanded }

  pub begun-kept : (w : List ℤ) → IsBegun j w → IsBegun l w
  begun-kept w b = record { node = node-kept (Reached w) b.node; turn = b.turn; onward = b.onward; asked = asked-kept (w ++ b.turn ∷ []) b.asked }
