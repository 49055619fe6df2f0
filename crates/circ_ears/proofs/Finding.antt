-- The mapper's own cable is found, and where no first step has a path there is none.
use Rattle.std.proofs.Common.{◌≡◌, ◌≢◌, ◌<◌, ◌+◌, ℕ, suc, List, [], ◌∷◌, Bool, true, false, Option, Some, None, sym, ◌∙◌, subst, ap, true≢false, refl, arith, ◌⊎◌, inl, inr, length, nat_eq, if◌then◌else◌}
use Rattle.std.specs.Prelude.{slice_get}
use Rattle.std.specs.List.{list_any}
use Rattle.std.proofs.lemmas.Bool.{false≢true, cases_order}
use Rattle.net_defs.specs.declared.vertex.End.{End}
use Rattle.net_defs.specs.declared.vertex.Cable.{Cable}
use Rattle.net_defs.specs.Network.{Network, same_end}
use Rattle.net_defs.specs.Route.{host_port}
use Rattle.net_defs.proofs.Ends.{same_end-true, same_end-refl}
use Rattle.circ_defs.specs.Ways.{IsOneOf, IsPath, IsWay, Joins, Step, cables_on}
use Rattle.circ_defs.specs.Ways.Joins.{forth, back}
use Rattle.circ_defs.proofs.Cables.{joins-low}
use Rattle.circ_defs.proofs.Numbers.{none-to, one-of}
use Rattle.circ_defs.proofs.Ways.{new-way}
use Rattle.circ_ears.specs.Search.{HasNoPath, HasNoPathBy, HasNoPathOver}
use Rattle.circ_ears.specs.Taking.{HasNoCableBelow, IsOwnStep, step_from}
use Rattle.circ_ears.specs.Trails.{is_touched}
use Rattle.circ_ears.proofs.Touched.{not-touched}

one-cable-at : (n : Network) (k : ℕ) (c g : Cable) → slice_get n.cables k ≡ Some c → slice_get n.cables k ≡ Some g → g ≡ c
one-cable-at n k c g p q = let two : Some g ≡ Some c = sym q ∙ p in cc

-- the step over the mapper's own cable
pub own-found : (n : Network) (host k : ℕ) (c : Cable) (s : Step) → slice_get n.cables k ≡ Some c → step_from k c (host_port host) ≡ Some s → IsOwnStep n host s
own-found n host k c s p e = by (same_end c.a (host_port host)) refl (same_end c.b (host_port host)) refl e
  where
    by : (a : Bool) → same_end c.a (host_port host) ≡ a → (b : Bool) → same_end c.b (host_port host) ≡ b → (if a then Some (record { cable = k; out = c.a; into = c.b }) else if b then Some (record { cable = k; out = c.b; into = c.a }) else None) ≡ Some s → IsOwnStep n host s
    by true q b r f = let one : record { cable = k; out = c.a; into = c.b } ≡ s = cc in subst (IsOwnStep n host) one (record { step = forth p; out = same_end-true c.a (host_port host) q })
    by false q true r f = let one : record { cable = k; out = c.b; into = c.a } ≡ s = cc in subst (IsOwnStep n host) one (record { step = back p; out = same_end-true c.b (host_port host) r })
    by false q false r f = cc

pub own-below : (n : Network) (own : End) (k : ℕ) (c : Cable) → slice_get n.cables k ≡ Some c → step_from k c own ≡ None → HasNoCableBelow n own k → HasNoCableBelow n own (k + 1)
own-below n own k c p e none i d g l joins = at (cases_order i k)
  where
    ends : (a : Bool) → same_end c.a own ≡ a → (b : Bool) → same_end c.b own ≡ b → ◌≡◌ {A = Option Step} (if a then Some (record { cable = k; out = c.a; into = c.b }) else if b then Some (record { cable = k; out = c.b; into = c.a }) else None) None → (same_end c.a own ≡ false) × (same_end c.b own ≡ false)
    ends true q b r f = cc
    ends false q true r f = cc
    ends false q false r f = (q, r)

    two : (same_end c.a own ≡ false) × (same_end c.b own ≡ false)
    two = ends (same_end c.a own) refl (same_end c.b own) refl e

    apart : (x : End) → same_end x own ≡ false → x ≢ own
    apart x q r = true≢false (sym (subst (λ y. same_end y own ≡ true) (sym r) (same_end-refl own)) ∙ q)

    last : (d g : End) → Joins n k d g → d ≢ own
    last d g (forth {c = h} q) = apart h.a (subst (λ (z : Cable). same_end z.a own ≡ false) (sym (one-cable-at n k c h p q)) two.0)
    last d g (back {c = h} q) = apart h.b (subst (λ (z : Cable). same_end z.b own ≡ false) (sym (one-cable-at n k c h p q)) two.1)

    at : (i ≡ k) ⊎ ((i < k) ⊎ (k < i)) → d ≢ own
    at (inl q) = last d g (subst (λ j. Joins n j d g) q joins)
    at (inr (inl q)) = none i d g q joins
    at (inr (inr q)) = absurd (omega arith)

-- no path begins over an old cable
pub over-old : (n : Network) (old : List ℕ) (k : ℕ) → list_any (nat_eq k) old ≡ true → HasNoPathOver n old k
over-old n old k e p s path same begun = none-to k (cables_on p) old path.is_new (subst (λ l. IsOneOf k (cables_on l)) (sym begun.is) (inl (sym same))) (one-of k old e)

-- none begins over a cable, if none does either way
pub over-both : (n : Network) (old : List ℕ) (k : ℕ) (c : Cable) → slice_get n.cables k ≡ Some c → HasNoPathBy n old (record { cable = k; out = c.a; into = c.b }) → HasNoPathBy n old (record { cable = k; out = c.b; into = c.a }) → HasNoPathOver n old k
over-both n old k c e first second p s path same begun = by s.out s.into (subst (λ j. Joins n j s.out s.into) same step) refl refl
  where
    step : Joins n s.cable s.out s.into
    step = (subst (λ l. IsWay n path.start l path.end) begun.is (new-way n old path.start p path.end path.across)).0

    by : (d g : End) → Joins n k d g → d ≡ s.out → g ≡ s.into → ⊥
    by d g (forth {c = h} q) x y = first p path (record { rest = begun.rest; is = begun.is ∙ (λ i. record { cable = same i; out = (sym x ∙ ap (λ (z : Cable). z.a) (one-cable-at n k c h e q)) i; into = (sym y ∙ ap (λ (z : Cable). z.b) (one-cable-at n k c h e q)) i } ∷ begun.rest) })
    by d g (back {c = h} q) x y = second p path (record { rest = begun.rest; is = begun.is ∙ (λ i. record { cable = same i; out = (sym x ∙ ap (λ (z : Cable). z.b) (one-cable-at n k c h e q)) i; into = (sym y ∙ ap (λ (z : Cable). z.a) (one-cable-at n k c h e q)) i } ∷ begun.rest) })

-- none begins with a step from where no old cable ends
pub by-untouched : (n : Network) (old : List ℕ) (s : Step) → is_touched n old s.out.v ≡ false → HasNoPathBy n old s
by-untouched n old s e p path begun =
    let way = subst (λ l. IsWay n path.start l path.end) begun.is (new-way n old path.start p path.end path.across) in
    not-touched n old s.out.v e (record { cable = path.starts.cable; from = path.starts.from; to = path.starts.to; one_of = path.starts.one_of; joins = path.starts.joins; there = path.starts.there ∙ sym way.1 })

-- so there is none
pub none-over : (n : Network) (old : List ℕ) → ((k : ℕ) → k < length n.cables → HasNoPathOver n old k) → HasNoPath n old
none-over n old none [] path = path.across
none-over n old none (s ∷ ss) path =
    let way = new-way n old path.start (s ∷ ss) path.end path.across in
    none s.cable (joins-low n s.cable s.out s.into way.0) (s ∷ ss) s path refl (record { rest = ss; is = refl })

pub none-below : (n : Network) (old : List ℕ) (k : ℕ) → ((i : ℕ) → i < k → HasNoPathOver n old i) → HasNoPathOver n old k → (i : ℕ) → i < k + 1 → HasNoPathOver n old i
none-below n old k none last i l = at (cases_order i k)
  where
    at : (i ≡ k) ⊎ ((i < k) ⊎ (k < i)) → HasNoPathOver n old i
    at (inl e) = subst (HasNoPathOver n old) (sym e) last
    at (inr (inl m)) = none i m
    at (inr (inr m)) = absurd (omega arith)
