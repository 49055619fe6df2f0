-- What the tests of an adoption say of each host, and what an adoption makes of the epoch.
use Rattle.std.proofs.Common.{◌≡◌, ◌≤◌, ◌<◌, ◌+◌, ℕ, zero, suc, Bool, true, false, not, ◌&&◌, ◌||◌, List, nat_eq, Option, Some, None, is_none, refl, sym, ap, ◌∙◌, true≢false, arith, if◌then◌else◌}
use Rattle.std.specs.Prelude.{find}
use Rattle.std.specs.List.{list_any, range_with_len}
use Rattle.std.proofs.lemmas.Bool.{and_parts}
use Rattle.std.proofs.lemmas.Bool.Decides.{nat_tests, Decides-eqb}
use Rattle.net_defs.specs.declared.route.Route.{Route}
use Rattle.world_defs.specs.declared.standing.Standing.{Standing}
use Rattle.world_defs.specs.Table.{Adoption, TableState, has_revoked, last_epoch, is_kept_in, keeps_in, may_adopt_in, adopted_in}
use Rattle.world_defs.specs.World.{WorldState, host_count, node_at, first_unrevoked, is_any_revoked}
use Rattle.world_defs.proofs.Routes.{IsKeptSet, kept-set}

-- numbers in a row: none passes a test
find-none : (test : ℕ → Bool) (a k n : ℕ) → find test (range_with_len a k) ≡ None → a ≤ n → n < a + k → test n ≡ false
find-none test a zero n e low high = absurd (omega (arith, low, high))
find-none test a (suc k) n e low high = by (test a) (nat_eq a n) refl refl e (λ d other. find-none test (a + 1) k n d other (omega (arith, high)))
  where
    by : (t b : Bool) → test a ≡ t → nat_eq a n ≡ b → (if t then Some a else find test (range_with_len (a + 1) k)) ≡ None
        → (find test (range_with_len (a + 1) k) ≡ None → a + 1 ≤ n → test n ≡ false) → test n ≡ false
    by true b s same d rest = cc
    by false true s same d rest = ap test (sym ((Decides-eqb a n).0 same)) ∙ s
    by false false s same d rest = let other : a + 1 ≤ n = grind (arith, nat_tests) in rest d other

any-none : (test : ℕ → Bool) (a k n : ℕ) → list_any test (range_with_len a k) ≡ false → a ≤ n → n < a + k → test n ≡ false
any-none test a zero n e low high = absurd (omega (arith, low, high))
any-none test a (suc k) n e low high = by (test a) (nat_eq a n) refl refl e (λ d other. any-none test (a + 1) k n d other (omega (arith, high)))
  where
    by : (t b : Bool) → test a ≡ t → nat_eq a n ≡ b → (t || list_any test (range_with_len (a + 1) k)) ≡ false
        → (list_any test (range_with_len (a + 1) k) ≡ false → a + 1 ≤ n → test n ≡ false) → test n ≡ false
    by true b s same d rest = absurd (true≢false d)
    by false true s same d rest = ap test (sym ((Decides-eqb a n).0 same)) ∙ s
    by false false s same d rest = let other : a + 1 ≤ n = grind (arith, nat_tests) in rest d other

-- a host that has given up an epoch has seen it as its latest
pub record HasRevoked (epoch : ℕ) (t : TableState) : Type 0 where
  pub seen : t.epoch ≡ epoch
  pub marked : t.revoked ≡ true

has-revoked : (epoch : ℕ) (t : TableState) → has_revoked epoch t ≡ true → HasRevoked epoch t
has-revoked epoch t e =
    let two = and_parts (nat_eq t.epoch epoch) t.revoked e in
    record { seen = (Decides-eqb t.epoch epoch).0 two.0; marked = two.1 }

-- a test that isn't failed
pub may-from : (b : Bool) → not b ≡ false → b ≡ true
may-from true e = refl
may-from false e = absurd (true≢false e)

pub each-revoked : (w : WorldState) (epoch h : ℕ) → first_unrevoked w epoch ≡ None → h < host_count w → HasRevoked epoch (node_at w h).table
each-revoked w epoch h e low =
    let test : ℕ → Bool = λ k. not (has_revoked epoch (node_at w k).table) in
    has-revoked epoch (node_at w h).table (may-from (has_revoked epoch (node_at w h).table) (find-none test 0 (host_count w) h e (omega arith) (omega (arith, low))))

pub none-revoked : (w : WorldState) (epoch h : ℕ) → is_any_revoked w epoch ≡ false → h < host_count w → has_revoked epoch (node_at w h).table ≡ false
none-revoked w epoch h e low = any-none (λ k. has_revoked epoch (node_at w k).table) 0 (host_count w) h e (omega arith) (omega (arith, low))

-- What may be adopted: the first set, the adopted one in its epoch, or one that begins the next epoch.
pub data Adopting (s : Standing) (mapper : ℕ) (rs : List Route) : Option Adoption → Adoption → Bool → Type 0 where
  first : Adopting s mapper rs None (record { mapper = mapper; epoch = 1; at = s.changes; routes = rs }) false
  keeps : (a : Adoption) → IsKeptSet s rs a → Adopting s mapper rs (Some a) (record { mapper = mapper; epoch = a.epoch; at = s.changes; routes = rs }) true
  begins : (a : Adoption) → s.unrevoked ≡ None → (a.epoch ≡ last_epoch → ⊥) → Adopting s mapper rs (Some a) (record { mapper = mapper; epoch = a.epoch + 1; at = s.changes; routes = rs }) false

no_one : (o : Option ℕ) → is_none o ≡ true → o ≡ None
no_one None e = refl
no_one (Some k) e = absurd (true≢false (sym e))

not-both : (t : Bool) → not t ≡ true → t ≡ true → ⊥
not-both true e f = true≢false (sym e)
not-both false e f = true≢false (sym f)

pub adopting : (s : Standing) (mapper : ℕ) (rs : List Route) (o : Option Adoption) → may_adopt_in s rs o ≡ true → Adopting s mapper rs o (adopted_in s mapper rs o) (keeps_in s rs o)
adopting s mapper rs None e = Adopting.first
adopting s mapper rs (Some a) e = by (is_kept_in s rs a) refl e
  where
    by : (b : Bool) → is_kept_in s rs a ≡ b → (b || (is_none s.unrevoked && not (nat_eq a.epoch last_epoch))) ≡ true → Adopting s mapper rs (Some a) (record { mapper = mapper; epoch = if b then a.epoch else a.epoch + 1; at = s.changes; routes = rs }) b
    by true k d = Adopting.keeps a (kept-set s rs a k)
    by false k d =
        let two = and_parts (is_none s.unrevoked) (not (nat_eq a.epoch last_epoch)) d in
        Adopting.begins a (no_one s.unrevoked two.0) (λ same. not-both (nat_eq a.epoch last_epoch) two.1 ((Decides-eqb a.epoch last_epoch).1 same))
