-- What one ask adds to a tree.
use Rattle.std.proofs.Common.{◌≡◌, ◌≢◌, ◌<◌, ◌≤◌, ◌+◌, ℕ, List, [], ◌∷◌, ◌++◌, length, sym, ◌∙◌, subst, ap, refl, arith, append_assoc, append-nil, to_z, of_z, w8, inl, inr}
use Rattle.std.specs.Prelude.{ℤ, Result, Ok, Err, OnOk, OnErr, Option, Some, IfSome}
use Rattle.std.proofs.lemmas.Int.{ints}
use Rattle.net_defs.specs.Turn.{IsTurn}
use Rattle.net_defs.specs.declared.place.Answer.{Answer}
use Rattle.net_defs.specs.declared.place.Answer.TheVariants.{Nothing}
use Rattle.net_defs.specs.Network.{Network}
use Rattle.net_defs.specs.Route.{answer}
use Rattle.journal_defs.specs.declared.entry.Entry.{Entry}
use Rattle.journal_defs.specs.Growth.{NextAsk, node_limit}
use Rattle.journal_defs.specs.Growth.IsGrowing.{more as one_more_entry}
use Rattle.journal_defs.specs.Truth.{IsTrueWhereFound}
use Rattle.journal_defs.specs.Tree.{nodes}
use Rattle.journal_defs.proofs.Members.{all-join}
use Rattle.map_laws.proofs.Asks.{growing-tree, growing-once, ask-new}
use Rattle.map_laws.proofs.Few.{asks_are_few}
use Rattle.replicate_merge.specs.Next.{IsNext}
use Rattle.replicate_merge.specs.Table.{ClassTable, StandsFor}
use Rattle.probe.specs.Drowning.{IsTrueOrDrowned}
use Rattle.mapper.specs.Turns.{turn_at}
use Rattle.mapper.specs.Growths.{StopsShort, IsLostAsk, IsAsk, HasGrown, IsToldOf, IsNextWalk, IsNextEntry, IsUnderWay, ExpandsOrFills, GrownBy, grown_by}
use Rattle.mapper.specs.Growths.ExpandsOrFills.{expands, fills}
use Rattle.mapper.specs.declared.tree.Tree.{Tree}
use Rattle.mapper.proofs.Growing.{nodes-push, grows-none, grows-join, grows-ask, stops-between, stops-lost}
use Rattle.mapper.proofs.Midway.{IsMidway, midway-ask, midway-next, midway-expanded, midway-rest}

-- a tree with an entry more has one node more where it found something
pub counted-push : (t : Tree) (w : List ℤ) (a : Answer) (c : ClassTable) → t.nodes ≡ length (nodes t.journal.entries) → (grown_by t w a c).nodes ≡ length (nodes (grown_by t w a c).journal.entries)
counted-push t w a c e = let p = nodes-push t.journal.entries (record { walk = w; answer = a }) in omega arith

-- the classes of a tree with an entry more stand for its journal
kept-stands : (t new : Tree) (w : List ℤ) (a : Answer) → GrownBy w a t new → StandsFor t.journal.host (t.journal.entries ++ record { walk = w; answer = a } ∷ []) new.classes
kept-stands t new w a g = subst (λ (x : Tree). StandsFor x.journal.host x.journal.entries new.classes) g.kept g.stands

module _ (S : Type 0) (asked : S → List ℤ → Answer → S → Type 0) (n : Network) where
  -- a tree from which nothing was asked yet
  pub grown-none : (t : Tree) (s : S) (lost : ℕ) → IsUnderWay t → HasGrown S asked n t s lost t s lost
  grown-none t s lost u = record { more = []; entries = sym (append-nil t.journal.entries); host = refl; depth = refl; by_asks = grows-none S asked n t.journal.host t.depth t.journal.entries s lost u.growing }

  module _ (old : Tree) (before : S) (lost : ℕ) where
    -- the next ask, in the fabric's own words
    grown-push : (t : Tree) (s after : S) (l now : ℕ) (w : List ℤ) (a : Answer) (c : ClassTable) → HasGrown S asked n old before lost t s l → NextAsk t.journal.host t.depth t.journal.entries w → asked s w a after → IsTrueOrDrowned (answer n t.journal.host w) l now a → l ≤ now → HasGrown S asked n old before lost (grown_by t w a c) after now
    grown-push t s after l now w a c g next led told later =
        let host = old.journal.host in
        let depth = old.depth in
        let j = old.journal.entries in
        let e : Entry = record { walk = w; answer = a } in
        let one : NextAsk host depth (j ++ g.more) w = subst (λ i. NextAsk host depth i w) g.entries (subst (λ h. NextAsk h depth t.journal.entries w) g.host (subst (λ d. NextAsk t.journal.host d t.journal.entries w) g.depth next)) in
        record {
          more = g.more ++ e ∷ [];
          entries = ap (λ i. i ++ e ∷ []) g.entries ∙ append_assoc j g.more (e ∷ []);
          host = g.host;
          depth = g.depth;
          by_asks = grows-join S asked n host depth j g.more (e ∷ []) before s after lost l now g.by_asks (grows-ask S asked n host depth (j ++ g.more) s after l now w a g.by_asks.growing one led (subst (λ h. IsTrueOrDrowned (answer n h w) l now a) g.host told) later);
        }

    pub grown-next : (t new : Tree) (s after : S) (l now : ℕ) (w : List ℤ) → HasGrown S asked n old before lost t s l → NextAsk t.journal.host t.depth t.journal.entries w → IsAsk S asked (answer n t.journal.host w) s l w t new after now → l ≤ now → HasGrown S asked n old before lost new after now
    grown-next t new s after l now w g next ask later = subst (λ (x : Tree). HasGrown S asked n old before lost x after now) (sym ask.grown.kept) (grown-push t s after l now w ask.told new.classes g next ask.as_asked ask.is_true later)

    -- A node whose first k turns were asked since a tree was there.
    pub record IsMidst (front : List ℤ) (k : ℕ) (t : Tree) (s : S) (l : ℕ) : Type 0 where
      pub midway : IsMidway t.journal.host t.depth t.journal.entries front k
      pub under_way : IsUnderWay t
      pub grown : HasGrown S asked n old before lost t s l

    -- the tree after one more turn
    midst-push : (front : List ℤ) (k : ℕ) (t : Tree) (s after : S) (l now : ℕ) (a : Answer) (c : ClassTable) → k < 30 → IsMidst front k t s l
        → (let new : Tree = grown_by t (front ++ turn_at k ∷ []) a c in new.nodes ≤ node_limit → StandsFor new.journal.host new.journal.entries c → HasGrown S asked n old before lost new after now → IsMidst front (k + 1) new after now)
    midst-push front k t s after l now a c few m kept stands g =
        let w = front ++ turn_at k ∷ [] in
        let e : Entry = record { walk = w; answer = a } in
        let host = t.journal.host in
        record {
          midway = midway-next host t.depth t.journal.entries e front k (growing-tree host t.depth t.journal.entries m.under_way.growing) m.midway few refl;
          under_way = record { stands = stands; growing = one_more_entry t.journal.entries e m.under_way.growing (midway-ask host t.depth t.journal.entries front k m.midway few) refl; counted = counted-push t w a c m.under_way.counted; kept = kept };
          grown = g;
        }

    pub midst-next : (front : List ℤ) (k : ℕ) (t new : Tree) (s after : S) (l now : ℕ) → k < 30 → IsMidst front k t s l → IsAsk S asked (answer n t.journal.host (front ++ turn_at k ∷ [])) s l (front ++ turn_at k ∷ []) t new after now → l ≤ now → new.nodes ≤ node_limit → IsMidst front (k + 1) new after now
    midst-next front k t new s after l now few m ask later kept =
        let w = front ++ turn_at k ∷ [] in
        let next = midway-ask t.journal.host t.depth t.journal.entries front k m.midway few in
        subst (λ (x : Tree). IsMidst front (k + 1) x after now) (sym ask.grown.kept) (midst-push front k t s after l now ask.told new.classes few m (subst (λ (x : Tree). x.nodes ≤ node_limit) ask.grown.kept kept) (kept-stands t new w ask.told ask.grown) (grown-push t s after l now w ask.told new.classes m.grown next ask.as_asked ask.is_true later))

    -- and the next turn is one that may be asked
    pub midst-walk : (front : List ℤ) (k : ℕ) (t : Tree) (s : S) (l : ℕ) → k < 30 → IsMidst front k t s l → IsToldOf n old.journal.host old.journal.entries → IsNextWalk n t.journal.host t (front ++ turn_at k ∷ [])
    midst-walk front k t s l few m told = record {
      same_host = refl;
      stands = m.under_way.stands;
      told = record { is_fabric = told.is_fabric; told = subst (λ h. IsTrueWhereFound n h t.journal.entries) (sym m.grown.host) (subst (IsTrueWhereFound n old.journal.host) (sym m.grown.entries) (all-join (λ (e : Entry). e.answer ≢ Nothing → e.answer ≡ answer n old.journal.host e.walk) old.journal.entries m.grown.more told.told m.grown.by_asks.found)) };
      once = growing-once t.journal.host t.depth t.journal.entries m.under_way.growing;
      fresh = ask-new t.journal.host t.depth t.journal.entries (front ++ turn_at k ∷ []) (midway-ask t.journal.host t.depth t.journal.entries front k m.midway few);
      few = (let many = asks_are_few t.journal.host t.depth t.journal.entries m.under_way.growing in let c = m.under_way.counted in let b = m.under_way.kept in omega arith);
    }

    pub midst-grown : (front : List ℤ) (k : ℕ) (t new : Tree) (s after : S) (l now : ℕ) → k < 30 → IsMidst front k t s l → IsAsk S asked (answer n t.journal.host (front ++ turn_at k ∷ [])) s l (front ++ turn_at k ∷ []) t new after now → l ≤ now → HasGrown S asked n old before lost new after now
    midst-grown front k t new s after l now few m ask later = grown-next t new s after l now (front ++ turn_at k ∷ []) m.grown (midway-ask t.journal.host t.depth t.journal.entries front k m.midway few) ask later

    -- the limit of nodes was passed
    pub midst-full : (front : List ℤ) (k : ℕ) (t new : Tree) (s after : S) (l now : ℕ) → IsMidst front k t s l → IsAsk S asked (answer n t.journal.host (front ++ turn_at k ∷ [])) s l (front ++ turn_at k ∷ []) t new after now → node_limit < new.nodes → ExpandsOrFills new front
    midst-full front k t new s after l now m ask passed = subst (λ (x : Tree). ExpandsOrFills x front) (sym ask.grown.kept) (fills (kept-stands t new (front ++ turn_at k ∷ []) ask.told ask.grown) counted (record { before = t.journal.entries; last = record { walk = front ++ turn_at k ∷ []; answer = ask.told }; whole = refl; kept = (let c = m.under_way.counted in let h = m.under_way.kept in omega arith); passed = (let c = counted in let h = subst (λ (x : Tree). node_limit < x.nodes) ask.grown.kept passed in omega arith) }))
      where
        counted : (grown_by t (front ++ turn_at k ∷ []) ask.told new.classes).nodes ≡ length (nodes (grown_by t (front ++ turn_at k ∷ []) ask.told new.classes).journal.entries)
        counted = counted-push t (front ++ turn_at k ∷ []) ask.told new.classes m.under_way.counted

    pub midst-whole : (front : List ℤ) (t : Tree) (s : S) (l : ℕ) → IsMidst front 30 t s l → ExpandsOrFills t front
    midst-whole front t s l m = expands m.under_way (midway-rest t.journal.host t.depth t.journal.entries front m.midway) (midway-expanded t.journal.host t.depth t.journal.entries front m.midway)

    module _ (cut : S → List ℤ → S → Type 0) where
      within-limit : (t : Tree) (s : S) (l : ℕ) → IsUnderWay t → (g : HasGrown S asked n old before lost t s l) → length (nodes (old.journal.entries ++ g.more)) ≤ node_limit
      within-limit t s l u g = let c = u.counted in let k = u.kept in let e : length (nodes t.journal.entries) ≡ length (nodes (old.journal.entries ++ g.more)) = ap (λ i. length (nodes i)) g.entries in omega arith

      -- memory runs out before the next ask, and in it
      pub midst-stops : (front : List ℤ) (k : ℕ) (t : Tree) (s : S) (l : ℕ) → IsMidst front k t s l → StopsShort S asked cut old.journal.host old.depth old.journal.entries before s
      midst-stops front k t s l m = stops-between S asked cut n old.journal.host old.depth old.journal.entries m.grown.more before s lost l m.grown.by_asks (within-limit t s l m.under_way m.grown)

      pub midst-lost : (front : List ℤ) (k : ℕ) (t : Tree) (s after : S) (l : ℕ) → k < 30 → IsMidst front k t s l → IsLostAsk S asked cut s (front ++ turn_at k ∷ []) after → StopsShort S asked cut old.journal.host old.depth old.journal.entries before after
      midst-lost front k t s after l few m lost_ask =
          let host = old.journal.host in
          let depth = old.depth in
          let w = front ++ turn_at k ∷ [] in
          let g = m.grown in
          let next = midway-ask t.journal.host t.depth t.journal.entries front k m.midway few in
          let one : NextAsk host depth (old.journal.entries ++ g.more) w = subst (λ i. NextAsk host depth i w) g.entries (subst (λ h. NextAsk h depth t.journal.entries w) g.host (subst (λ d. NextAsk t.journal.host d t.journal.entries w) g.depth next)) in
          stops-lost S asked cut n host depth old.journal.entries g.more before s after lost l w g.by_asks (within-limit t s l m.under_way g) one lost_ask

-- an ask in other words for the same fabric, host and walk
pub as-asked : (S : Type 0) (asked : S → List ℤ → Answer → S → Type 0) (m n : Network) (h host : ℕ) (v w : List ℤ) (t new : Tree) (s after : S) (l now : ℕ) → m ≡ n → h ≡ host → v ≡ w → IsAsk S asked (answer m h v) s l v t new after now → IsAsk S asked (answer n host w) s l w t new after now
as-asked S asked m n h host v w t new s after l now p q r ask = subst (λ u. IsAsk S asked (answer n host u) s l u t new after now) r (subst (λ a. IsAsk S asked (answer n a v) s l v t new after now) q (subst (λ f. IsAsk S asked (answer f h v) s l v t new after now) p ask))

pub on-err : {T E P : Type 0} (r : Result T E) → P → OnErr r P
on-err (Ok x) p = tt
on-err (Err e) p = p

-- what is known of a result goes on
pub ok-then : {T E P Q : Type 0} (r : Result T E) → (P → Q) → OnOk r P → OnOk r Q
ok-then (Ok x) f p = f p
ok-then (Err e) f p = tt

pub err-then : {T E P Q : Type 0} (r : Result T E) → (P → Q) → OnErr r P → OnErr r Q
err-then (Ok x) f p = tt
err-then (Err e) f p = f p

-- a walk with a turn more, as the turn was kept in a byte
pub walk-turn : (front w : List ℤ) (r t : ℤ) → IsTurn r → w ≡ front ++ to_z w8 (of_z w8 r) ∷ [] → r ≡ t → w ≡ front ++ t ∷ []
walk-turn front w r t turn is same = is ∙ ap (λ u. front ++ u ∷ []) (back ∙ same)
  where
    back : to_z w8 (of_z w8 r) ≡ r
    back = grind (arith, ints)

-- memory runs out before anything was asked
pub stops-still : (S : Type 0) (asked : S → List ℤ → Answer → S → Type 0) (cut : S → List ℤ → S → Type 0) (n : Network) (t : Tree) (s : S) (lost : ℕ) → IsUnderWay t → StopsShort S asked cut t.journal.host t.depth t.journal.entries s s
stops-still S asked cut n t s lost u = stops-between S asked cut n t.journal.host t.depth t.journal.entries [] s s lost lost (grows-none S asked n t.journal.host t.depth t.journal.entries s lost u.growing) (let c = u.counted in let k = u.kept in let e : length (nodes (t.journal.entries ++ [])) ≡ length (nodes t.journal.entries) = ap (λ i. length (nodes i)) (append-nil t.journal.entries) in omega arith)

-- what holds of what was found
pub found-some : {T : Type 0} (P : T → Type 0) (o : Option T) (x : T) → o ≡ Some x → IfSome o P → P x
found-some P o x e f = subst (λ q. IfSome q P) e f

-- an answer other than Nothing is true
told-found : (truth a : Answer) (lost now : ℕ) → IsTrueOrDrowned truth lost now a → a ≢ Nothing → a ≡ truth
told-found truth a lost now (inl e) some = e
told-found truth a lost now (inr d) some = absurd (some d.0)

-- so the answer to a walk that may be asked is one that its journal takes
pub next-entry : (n : Network) (host : ℕ) (t : Tree) (w : List ℤ) (a : Answer) (lost now : ℕ) → IsNextWalk n host t w → IsTrueOrDrowned (answer n host w) lost now a → IsNextEntry t (record { walk = w; answer = a })
next-entry n host t w a lost now m told = record {
  stands = subst (λ h. StandsFor h t.journal.entries t.classes) (sym m.same_host) m.stands;
  next = subst (λ h. IsNext h t.journal.entries (record { walk = w; answer = a })) (sym m.same_host) (record {
    once = m.once;
    fresh = m.fresh;
    few = m.few;
    true_of_one = record {
      fabric = n;
      is_fabric = m.told.is_fabric;
      told = all-join (λ (e : Entry). e.answer ≢ Nothing → e.answer ≡ answer n host e.walk) t.journal.entries (record { walk = w; answer = a } ∷ []) m.told.told (told-found (answer n host w) a lost now told, tt);
    };
  });
}

-- a walk that may be asked, in other words for the same fabric, host and walk
pub as-next : (m n : Network) (h host : ℕ) (t : Tree) (v w : List ℤ) → m ≡ n → h ≡ host → v ≡ w → IsNextWalk n host t w → IsNextWalk m h t v
as-next m n h host t v w p q r k = subst (λ f. IsNextWalk f h t v) (sym p) (subst (λ a. IsNextWalk n a t v) (sym q) (subst (λ u. IsNextWalk n host t u) (sym r) k))
