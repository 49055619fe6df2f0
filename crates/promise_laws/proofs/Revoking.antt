-- Each host gives up the epoch of the adopted routes, and stays so while the others do.
use Rattle.std.proofs.Common.{◌≡◌, ◌≤◌, ◌<◌, ◌+◌, ℕ, zero, suc, Bool, true, false, ◌&&◌, nat_eq, nat_lt, List, [], ◌∷◌, map, length, Some, None, ⊎_elim, refl, sym, ap, ◌∙◌, subst, arith, if◌then◌else◌}
use Rattle.std.specs.List.{filter, range_with_len}
use Rattle.std.proofs.Math.ListN.{length-set}
use Rattle.std.proofs.lemmas.List.{get_or-set_same}
use Rattle.std.proofs.lemmas.List.FromFn.{length-range_with_len}
use Rattle.std.proofs.lemmas.Bool.{and_parts, cases_lt}
use Rattle.std.proofs.lemmas.Bool.Decides.{nat_tests, Decides-eqb}
use Rattle.std.proofs.lemmas.Option.{same_Some}
use Rattle.net_defs.specs.Network.{Network}
use Rattle.world_defs.specs.declared.event.Event.TheVariants.{Revoke as RevokeEvent}
use Rattle.world_defs.specs.declared.effect.Effect.{Effect}
use Rattle.world_defs.specs.declared.effect.Effect.TheVariants.{Idle, Said as Says}
use Rattle.world_defs.specs.declared.effect.Said.TheVariants.{Done}
use Rattle.world_defs.specs.Table.{Adoption, TableState, epoch_in, has_revoked, revoked_table}
use Rattle.world_defs.specs.Node.{new_node}
use Rattle.world_defs.specs.World.{WorldState, host_count, node_at, addresses}
use Rattle.world_defs.specs.Step.{step, followed_by, steps, revoke_of, revoked, gives_up_epoch}
use Rattle.world_laws.proofs.Lists.{at-set}
use Rattle.world_defs.specs.Acts.{IsReached}
use Rattle.table_laws.proofs.Dependencies.{tables-of_set}
use Rattle.run_defs.specs.declared.command.Command.TheVariants.{Revoke}
use Rattle.run_defs.specs.Outcome.{Outcome, is_done, revocations, revoke_lines, happening, seen}
use Rattle.run_defs.specs.Output.{Piece}
use Rattle.run_defs.specs.Session.{SessionState}
use Rattle.run_defs.proofs.Doing.{Doing, doing, acted-revocations}
use Rattle.run_defs.proofs.Doing.Doing.{determined}
use Rattle.promise_laws.specs.CableLines.{IsRevoked, IsRevokeTold, RevokedLineIsTrue}

-- a table whose host has given up an epoch
abbrev IsGiven : ℕ → TableState → Type 0
IsGiven epoch t = has_revoked epoch t ≡ true

given-table : (epoch : ℕ) (t : TableState) → t.epoch ≤ epoch → IsGiven epoch (revoked_table t epoch)
given-table epoch t low = by (nat_lt epoch t.epoch) refl
  where
    by : (b : Bool) → nat_lt epoch t.epoch ≡ b → IsGiven epoch (if b then t else record { epoch = epoch; revoked = true; collected = []; active = None })
    by true e = let high : epoch < t.epoch = grind (arith, nat_tests) in absurd (omega (arith, high, low))
    by false e = ap (λ b. b && true) ((Decides-eqb epoch epoch).1 refl)

given-low : (epoch : ℕ) (t : TableState) → IsGiven epoch t → t.epoch ≤ epoch
given-low epoch t e = let same : t.epoch ≡ epoch = (Decides-eqb t.epoch epoch).0 (and_parts (nat_eq t.epoch epoch) t.revoked e).0 in omega (arith, same)

revoked-low : (epoch : ℕ) (t : TableState) → t.epoch ≤ epoch → (revoked_table t epoch).epoch ≤ epoch
revoked-low epoch t low = by (nat_lt epoch t.epoch)
  where
    by : (b : Bool) → (if b then t else record { epoch = epoch; revoked = true; collected = []; active = None }).epoch ≤ epoch
    by true = low
    by false = omega arith

cons-length : {X Y : Type 0} (x : X) (xs : List X) (y : Y) (ys : List Y) → length xs ≡ length ys → length (x ∷ xs) ≡ length (y ∷ ys)
cons-length x xs y ys e = omega (arith, e)

-- hosts that give up the epoch of an adopted set
module _ (a : Adoption) where
  -- the world after one has
  abbrev given : WorldState → ℕ → WorldState
  given w h = (revoke_of w h (Some a)).1

  revoke-one : (w : WorldState) (h : ℕ) → w.adopted ≡ Some a → step w (RevokeEvent h) ≡ revoke_of w h (Some a)
  unfolding revoked
  revoke-one w h e = ap (revoke_of w h) e

  counts : (w : WorldState) (hs : List ℕ) → w.adopted ≡ Some a → length (filter is_done (steps w (map RevokeEvent hs)).0) ≡ length hs
  counts w [] e = refl
  counts w (h ∷ hs) e =
      subst (λ r. length (filter is_done (followed_by r (λ v. steps v (map RevokeEvent hs))).0) ≡ length (h ∷ hs)) (sym (revoke-one w h e))
      (cons-length (Says Done) (filter is_done (steps (given w h) (map RevokeEvent hs)).0) h hs (counts (given w h) hs e))

  -- who has given it up stays so
  stays-given : (w : WorldState) (h g : ℕ) → IsGiven a.epoch (node_at w g).table → IsGiven a.epoch (node_at (given w h) g).table
  stays-given w h g is =
      at-set (λ x y. IsGiven a.epoch x.table → IsGiven a.epoch y.table) (λ x i. i) w.nodes h g (gives_up_epoch (node_at w h) a.epoch) (new_node 0)
      (λ i. given-table a.epoch (node_at w h).table (given-low a.epoch (node_at w h).table i)) is

  all-stay : (w : WorldState) (hs : List ℕ) (g : ℕ) → w.adopted ≡ Some a → IsGiven a.epoch (node_at w g).table → IsGiven a.epoch (node_at (steps w (map RevokeEvent hs)).1 g).table
  all-stay w [] g e is = is
  all-stay w (h ∷ hs) g e is =
      subst (λ r. IsGiven a.epoch (node_at (followed_by r (λ v. steps v (map RevokeEvent hs))).1 g).table) (sym (revoke-one w h e))
      (all-stay (given w h) hs g e (stays-given w h g is))

  -- no host has seen a later epoch
  abbrev HasNoLater : WorldState → ℕ → Type 0
  HasNoLater w g = (node_at w g).table.epoch ≤ a.epoch

  stays-low : (w : WorldState) (h g : ℕ) → HasNoLater w g → HasNoLater (given w h) g
  stays-low w h g low =
      at-set (λ x y. x.table.epoch ≤ a.epoch → y.table.epoch ≤ a.epoch) (λ x i. i) w.nodes h g (gives_up_epoch (node_at w h) a.epoch) (new_node 0)
      (λ i. revoked-low a.epoch (node_at w h).table i) low

  here-given : (w : WorldState) (h : ℕ) → h < host_count w → HasNoLater w h → IsGiven a.epoch (node_at (given w h) h).table
  here-given w h low below =
      subst (λ n. IsGiven a.epoch n.table) (sym (get_or-set_same w.nodes h (gives_up_epoch (node_at w h) a.epoch) (new_node 0) low))
      (given-table a.epoch (node_at w h).table below)

  range-given : (w : WorldState) (b k : ℕ) → b + k ≡ host_count w → w.adopted ≡ Some a → ((h : ℕ) → h < host_count w → HasNoLater w h)
      → (h : ℕ) → b ≤ h → h < b + k → IsGiven a.epoch (node_at (steps w (map RevokeEvent (range_with_len b k))).1 h).table
  range-given w b zero all e low h least most = absurd (omega (arith, least, most))
  range-given w b (suc k) all e low h least most =
      subst (λ r. IsGiven a.epoch (node_at (followed_by r (λ v. steps v (map RevokeEvent (range_with_len (b + 1) k)))).1 h).table) (sym (revoke-one w b e))
      (⊎_elim
      (λ l.
      let same : b ≡ h = omega (arith, l, least) in
      all-stay next (range_with_len (b + 1) k) h e (subst (λ g. IsGiven a.epoch (node_at next g).table) same (here-given w b there (low b there))))
      (λ l. range-given next (b + 1) k (omega (arith, all, more)) e lows h l (omega (arith, most)))
      (cases_lt h (b + 1)))
    where
      next : WorldState
      next = given w b

      there : b < host_count w
      there = omega (arith, all)

      more : host_count next ≡ host_count w
      more = length-set w.nodes b (gives_up_epoch (node_at w b) a.epoch)

      lows : (g : ℕ) → g < host_count next → HasNoLater next g
      lows g below = stays-low w b g (low g (omega (arith, below, more)))

-- where none is adopted
idle-one : (w : WorldState) (h : ℕ) → w.adopted ≡ None → step w (RevokeEvent h) ≡ (Idle, w)
unfolding revoked
idle-one w h e = ap (revoke_of w h) e

still : (w : WorldState) (hs : List ℕ) → w.adopted ≡ None → (length (filter is_done (steps w (map RevokeEvent hs)).0) ≡ 0) × ((steps w (map RevokeEvent hs)).1 ≡ w)
still w [] e = (refl, refl)
still w (h ∷ hs) e =
    subst (λ r. (length (filter is_done (followed_by r (λ v. steps v (map RevokeEvent hs))).0) ≡ 0) × ((followed_by r (λ v. steps v (map RevokeEvent hs))).1 ≡ w)) (sym (idle-one w h e)) (still w hs e)

revoke-events : (n : Network) (w : WorldState) → IsReached n w → IsRevoked w (steps w (revocations w)).1 (length (filter is_done (steps w (revocations w)).0))
revoke-events n w r = record {
  counted = λ a e. counts a w (addresses w) e ∙ length-range_with_len 0 (host_count w);
  given_up = λ a e h low.
      let lows : (g : ℕ) → g < host_count w → (node_at w g).table.epoch ≤ a.epoch = λ g below. subst (λ o. (node_at w g).table.epoch ≤ epoch_in o) e (tables-of_set n w r g below).no_later in
      range-given a w 0 (host_count w) (omega arith) e lows h (omega arith) (omega (arith, low));
  none = λ e. still w (addresses w) e;
}

revoked-so : (n : Network) (s next : SessionState) (out : List Piece) → IsReached n s.world → Doing s Revoke out next → IsRevokeTold s next out
revoked-so n s next out reached (determined e) =
    let count : ℕ = length (filter is_done (steps s.world (revocations s.world)).0) in
    let o : Outcome = seen s (happening (revocations s.world) (revoke_lines s.world)) in
    let same : o ≡ record { output = out; after = next } = same_Some o (record { output = out; after = next }) e in
    let there : IsRevoked s.world o.after.world count = subst (λ v. IsRevoked s.world v count) (sym (acted-revocations s.world)) (revoke-events n s.world reached) in (
      count,
      sym (ap (λ (x : Outcome). x.output) same),
      subst (λ (x : Outcome). IsRevoked s.world x.after.world count) same there,
    )

pub revoked_line-true : RevokedLineIsTrue
revoked_line-true n s next out reached d = revoked-so n s next out reached (doing d)
