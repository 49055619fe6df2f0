-- What a map costs: its asks, of which a journal has fewer than two million.
use Rattle.std.proofs.Common.{◌≡◌, ◌≤◌, ◌+◌, ◌*◌, ◌⊎◌, inl, inr, ℕ, Bool, true, false, List, [], ◌∷◌, ◌++◌, length, ap, arith, if◌then◌else◌}
use Rattle.std.specs.Prelude.{ℤ}
use Rattle.journal_defs.specs.declared.entry.Entry.{Entry}
use Rattle.journal_defs.specs.Tree.{is_found, reached, nodes}
use Rattle.journal_defs.specs.Tree.Node.{Reached}
use Rattle.journal_defs.specs.Growth.{IsGrown, IsEndedByDepth, IsEndedAtLimit, node_limit}
use Rattle.map_laws.proofs.Few.{asks_are_few}
use Rattle.world_defs.specs.World.{WorldState}
use Rattle.world_defs.specs.Logs as log
use Rattle.injection_bounds.specs.Settled.{pledged}
use Rattle.injection_bounds.proofs.Asking.{ask-costs}

-- asks in a row
pub asks-cost : (made host tries : ℕ) (walks : List (List ℤ)) (w : WorldState) → tries ≤ 8 → pledged (log.asks made host tries walks w).world ≤ pledged w + 32 * length walks
asks-cost made host tries [] w few = omega arith
asks-cost made host tries (walk ∷ walks) w few =
    let one = ask-costs w made host tries walk few in
    let rest = asks-cost made host tries walks (log.ask made host tries walk w).world few in
    omega (arith, one, rest)

-- a last entry is one node more at most
reached-push : (j : List Entry) (e : Entry) → length (reached (j ++ e ∷ [])) ≤ length (reached j) + 1
reached-push [] e = by (is_found e.answer)
  where
    by : (b : Bool) → length (if b then Reached e.walk ∷ [] else []) ≤ 0 + 1
    by true = omega arith
    by false = omega arith
reached-push (x ∷ j) e = by (is_found x.answer) (reached-push j e)
  where
    by : (b : Bool) → length (reached (j ++ e ∷ [])) ≤ length (reached j) + 1 → length (if b then Reached x.walk ∷ reached (j ++ e ∷ []) else reached (j ++ e ∷ [])) ≤ length (if b then Reached x.walk ∷ reached j else reached j) + 1
    by true h = omega (arith, h)
    by false h = h

-- a journal that has grown has few nodes, and so few entries
few-nodes : (host depth : ℕ) (j : List Entry) → IsEndedByDepth host depth j ⊎ IsEndedAtLimit j → length (reached j) ≤ 65536
few-nodes host depth j (inl e) = let k : length (nodes j) ≤ node_limit = e.kept in omega (arith, k)
few-nodes host depth j (inr e) =
    let k : length (nodes e.before) ≤ node_limit = e.kept in
    let p = reached-push e.before e.last in
    let same : length (reached j) ≡ length (reached (e.before ++ e.last ∷ [])) = ap (λ i. length (reached i)) e.whole in
    omega (arith, k, p)

pub few-asks : (host depth : ℕ) (j : List Entry) → IsGrown host depth j → length j ≤ 1966081
few-asks host depth j grown =
    let a = asks_are_few host depth j grown.growing in
    let b = few-nodes host depth j grown.ended in
    omega (arith, a, b)
