-- A journal that grows by asks.
use Rattle.std.proofs.Common.{◌≡◌, ◌≢◌, ◌<◌, ◌≤◌, ◌+◌, ℕ, List, [], ◌∷◌, ◌++◌, length, Bool, true, false, sym, subst, refl, arith, append_assoc, append-nil, if◌then◌else◌, ◌⊎◌, inl, inr}
use Rattle.std.specs.Prelude.{ℤ}
use Rattle.std.proofs.lemmas.Bool.{cases_order}
use Rattle.fab_outer.specs.Fault.{Rose}
use Rattle.net_defs.specs.declared.place.Answer.{Answer}
use Rattle.net_defs.specs.declared.place.Answer.TheVariants.{Nothing}
use Rattle.net_defs.specs.Network.{Network}
use Rattle.net_defs.specs.Route.{answer}
use Rattle.journal_defs.specs.declared.entry.Entry.{Entry}
use Rattle.journal_defs.specs.Tree.{reached, nodes, is_found}
use Rattle.journal_defs.specs.Tree.Node.{Reached}
use Rattle.journal_defs.specs.Growth.{IsGrowing, IsEndedAtLimit, NextAsk, node_limit}
use Rattle.journal_defs.specs.Growth.IsGrowing.{more as one_more_entry}
use Rattle.journal_defs.proofs.Members.{all-join}
use Rattle.probe.specs.Drowning.{IsTrueOrDrowned}
use Rattle.mapper.specs.Asks.{AreAsked}
use Rattle.mapper.specs.Growths.{GrowsBy, StopsShort, IsLostAsk}
use Rattle.mapper.specs.Growths.StopsShort.{between_asks, within_ask}
use Rattle.mapper.specs.Growths.IsLostAsk.{was_asked, was_cut}

-- an entry more is a node more where it found something
reached-push : (j : List Entry) (e : Entry) → length (reached (j ++ e ∷ [])) ≡ length (reached j) + (if is_found e.answer then 1 else 0)
reached-push [] e = by (is_found e.answer)
  where
    by : (b : Bool) → length (if b then Reached e.walk ∷ [] else []) ≡ 0 + (if b then 1 else 0)
    by true = refl
    by false = refl
reached-push (x ∷ j) e = by (is_found x.answer) (reached-push j e)
  where
    by : (b : Bool) → length (reached (j ++ e ∷ [])) ≡ length (reached j) + (if is_found e.answer then 1 else 0) → length (if b then Reached x.walk ∷ reached (j ++ e ∷ []) else reached (j ++ e ∷ [])) ≡ length (if b then Reached x.walk ∷ reached j else reached j) + (if is_found e.answer then 1 else 0)
    by true r = omega arith
    by false r = r

pub nodes-push : (j : List Entry) (e : Entry) → length (nodes (j ++ e ∷ [])) ≡ length (nodes j) + (if is_found e.answer then 1 else 0)
nodes-push j e = let r = reached-push j e in omega arith

-- within the limit an entry more stays within it, or ends the growth
pub limit-push : (j : List Entry) (e : Entry) → length (nodes j) ≤ node_limit → (length (nodes (j ++ e ∷ [])) ≤ node_limit) ⊎ IsEndedAtLimit (j ++ e ∷ [])
limit-push j e l = by (cases_order node_limit (length (nodes (j ++ e ∷ []))))
  where
    by : (node_limit ≡ length (nodes (j ++ e ∷ []))) ⊎ ((node_limit < length (nodes (j ++ e ∷ []))) ⊎ (length (nodes (j ++ e ∷ [])) < node_limit)) → (length (nodes (j ++ e ∷ [])) ≤ node_limit) ⊎ IsEndedAtLimit (j ++ e ∷ [])
    by (inl p) = inl (omega arith)
    by (inr (inl p)) = inr (record { before = j; last = e; whole = refl; kept = l; passed = p })
    by (inr (inr p)) = inl (omega arith)

rose-later : (a b c : ℕ) → b ≤ c → Rose a b → Rose a c
rose-later a b c l r = omega arith

rose-earlier : (a b c : ℕ) → a ≤ b → Rose b c → Rose a c
rose-earlier a b c l r = omega arith

module _ (S : Type 0) (asked : S → List ℤ → Answer → S → Type 0) where
  led-join : (xs ys : List Entry) (before between after : S) → AreAsked S asked before xs between → AreAsked S asked between ys after → AreAsked S asked before (xs ++ ys) after
  led-join [] ys before between after a b = subst (λ s. AreAsked S asked s ys after) (sym a) b
  led-join (x ∷ xs) ys before between after a b = (a.0, a.1, led-join xs ys a.0 between after a.2 b)

  pub grows-none : (n : Network) (host depth : ℕ) (j : List Entry) (s : S) (lost : ℕ) → IsGrowing host depth j → GrowsBy S asked n host depth j s lost [] s lost
  grows-none n host depth j s lost g = record { growing = subst (IsGrowing host depth) (sym (append-nil j)) g; led = refl; found = tt; truth = λ calm. tt; later = omega arith }

  pub grows-join : (n : Network) (host depth : ℕ) (j xs ys : List Entry) (before between after : S) (lost mid now : ℕ) → GrowsBy S asked n host depth j before lost xs between mid → GrowsBy S asked n host depth (j ++ xs) between mid ys after now → GrowsBy S asked n host depth j before lost (xs ++ ys) after now
  grows-join n host depth j xs ys before between after lost mid now a b = record {
    growing = subst (IsGrowing host depth) (append_assoc j xs ys) b.growing;
    led = led-join xs ys before between after a.led b.led;
    found = all-join (λ (e : Entry). e.answer ≢ Nothing → e.answer ≡ answer n host e.walk) xs ys a.found b.found;
    truth = λ calm. all-join (λ (e : Entry). e.answer ≡ answer n host e.walk) xs ys (a.truth (λ r. calm (rose-later lost mid now b.later r))) (b.truth (λ r. calm (rose-earlier lost mid now a.later r)));
    later = (let l = a.later in let m = b.later in omega arith);
  }

  -- one ask
  pub grows-ask : (n : Network) (host depth : ℕ) (j : List Entry) (before after : S) (lost now : ℕ) (w : List ℤ) (a : Answer) → IsGrowing host depth j → NextAsk host depth j w → asked before w a after → IsTrueOrDrowned (answer n host w) lost now a → lost ≤ now → GrowsBy S asked n host depth j before lost (record { walk = w; answer = a } ∷ []) after now
  grows-ask n host depth j before after lost now w a g ask led told l = record {
    growing = one_more_entry j (record { walk = w; answer = a }) g ask refl;
    led = (after, led, refl);
    found = (found told, tt);
    truth = λ calm. (exact told calm, tt);
    later = l;
  }
    where
      found : (a ≡ answer n host w) ⊎ ((a ≡ Nothing) × Rose lost now) → a ≢ Nothing → a ≡ answer n host w
      found (inl e) some = e
      found (inr d) some = absurd (some d.0)

      exact : (a ≡ answer n host w) ⊎ ((a ≡ Nothing) × Rose lost now) → (Rose lost now → ⊥) → a ≡ answer n host w
      exact (inl e) calm = e
      exact (inr d) calm = absurd (calm d.1)

  module _ (cut : S → List ℤ → S → Type 0) where
    -- memory runs out between two asks
    pub stops-between : (n : Network) (host depth : ℕ) (j more : List Entry) (before after : S) (lost now : ℕ) → GrowsBy S asked n host depth j before lost more after now → length (nodes (j ++ more)) ≤ node_limit → StopsShort S asked cut host depth j before after
    stops-between n host depth j more before after lost now g l = between_asks more g.growing (inl l) g.led

    -- within an ask, or where its answer was to be kept
    pub stops-lost : (n : Network) (host depth : ℕ) (j more : List Entry) (before between after : S) (lost now : ℕ) (w : List ℤ) → GrowsBy S asked n host depth j before lost more between now → length (nodes (j ++ more)) ≤ node_limit → NextAsk host depth (j ++ more) w → IsLostAsk S asked cut between w after → StopsShort S asked cut host depth j before after
    stops-lost n host depth j more before between after lost now w g l ask (was_cut c) = within_ask more w between g.growing l g.led ask c
    stops-lost n host depth j more before between after lost now w g l ask (was_asked a led) =
        let e : Entry = record { walk = w; answer = a } in
        let assoc = append_assoc j more (e ∷ []) in
        between_asks (more ++ e ∷ [])
        (subst (IsGrowing host depth) assoc (one_more_entry (j ++ more) e g.growing ask refl))
        (subst (λ i. (length (nodes i) ≤ node_limit) ⊎ IsEndedAtLimit i) assoc (limit-push (j ++ more) e l))
        (led-join more (e ∷ []) before between after g.led (after, led, refl))

    -- after other asks
    pub stops-later : (n : Network) (host depth : ℕ) (j xs : List Entry) (before between after : S) (lost now : ℕ) → GrowsBy S asked n host depth j before lost xs between now → StopsShort S asked cut host depth (j ++ xs) between after → StopsShort S asked cut host depth j before after
    stops-later n host depth j xs before between after lost now g (between_asks more growing kept led) =
        let assoc = append_assoc j xs more in
        between_asks (xs ++ more) (subst (IsGrowing host depth) assoc growing) (subst (λ i. (length (nodes i) ≤ node_limit) ⊎ IsEndedAtLimit i) assoc kept) (led-join xs more before between after g.led led)
    stops-later n host depth j xs before between after lost now g (within_ask more w last growing kept led ask c) =
        let assoc = append_assoc j xs more in
        within_ask (xs ++ more) w last (subst (IsGrowing host depth) assoc growing) (subst (λ i. length (nodes i) ≤ node_limit) assoc kept) (led-join xs more before between last g.led led) (subst (λ i. NextAsk host depth i w) assoc ask) c
