-- What is left after a pull, and what stays of the past.
use Rattle.std.proofs.Common.{◌≡◌, ◌≤◌, ◌+◌, ℕ, zero, suc, Bool, true, false, not, ◌&&◌, nat_lt, nat_le, List, [], ◌∷◌, ◌++◌, Option, Some, None, is_none, refl, sym, ap, ◌∙◌, true≢false, arith}
use Rattle.std.specs.List.{slice_get, slice_set, filter, AllByRecursion}
use Rattle.std.proofs.lemmas.Bool.Decides.{nat_tests}
use Rattle.world_defs.specs.declared.wire.Wire.{Wire}
use Rattle.world_defs.specs.History.{CableHistory, fabric_at, stood_at, is_in_place, is_left, pulled_by}
use Rattle.world_defs.specs.Fewer.{AreFewer, HasFewer, PullLeavesFewer, LeftStoodAtAcceptance, UnpluggedStood, PullKeepsPast, PlugKeepsPast}
use Rattle.world_defs.proofs.Fewer.{kept, kept_if}

-- cables by one and by another test
pub each-fewer : (small big : Wire → Bool) (ws : List Wire) → ((w : Wire) → small w ≡ true → big w ≡ true) → AreFewer small big ws ws
each-fewer small big [] more = AreFewer.none
each-fewer small big (w ∷ ws) more = AreFewer.more refl (more w) (each-fewer small big ws more)

left-stood : (h : CableHistory) (w : Wire) → is_left h w ≡ true → stood_at h.accepted w ≡ true
left-stood h w e = by w.pulled (nat_lt h.accepted w.plugged) refl refl e
  where
    by : (o : Option ℕ) (b : Bool) → w.pulled ≡ o → nat_lt h.accepted w.plugged ≡ b → (is_none o && not b) ≡ true → stood_at h.accepted w ≡ true
    by None false p q k = rw p (let low : nat_le w.plugged h.accepted ≡ true = grind (arith, nat_tests) in rw low refl)
    by None true p q k = absurd (true≢false (sym k))
    by (Some c) b p q k = absurd (true≢false (sym k))

pub left_stood : LeftStoodAtAcceptance
left_stood h = record { switches = refl; wires = each-fewer (is_left h) (stood_at h.accepted) h.wires (left-stood h) }

-- one cable is pulled
module _ (small big : Wire → Bool) (more : (w : Wire) → small w ≡ true → big w ≡ true) (change : ℕ) (gone : (w : Wire) → small (record w { pulled = Some change }) ≡ false) where
  pub set-fewer : (ws : List Wire) (k : ℕ) (w : Wire) → slice_get ws k ≡ Some w → AreFewer small big (slice_set ws k (record w { pulled = Some change })) ws
  set-fewer [] k w is = cc
  set-fewer (v ∷ ws) zero w is =
      let same : v ≡ w = cc in
      AreFewer.more (sym (ap (λ u. u.cable) same)) (λ s. absurd (true≢false (sym s ∙ gone w))) (each-fewer small big ws more)
  set-fewer (v ∷ ws) (suc k) w is = AreFewer.more refl (more v) (set-fewer ws k w is)

pub pull_leaves : PullLeavesFewer
pull_leaves h k = by (slice_get h.wires k) refl
  where
    by : (o : Option Wire) → slice_get h.wires k ≡ o → HasFewer (pulled_by h k o) h (is_left (pulled_by h k o)) (is_left h)
    by None is = record { switches = refl; wires = each-fewer (is_left h) (is_left h) h.wires (λ w s. s) }
    by (Some w) is = record { switches = refl; wires = set-fewer (is_left h) (is_left h) (λ v s. s) (h.changes + 1) (λ v. refl) h.wires k w is }

-- nothing was plugged since
pub unplugged_stood : UnpluggedStood
unplugged_stood h made all = record { switches = refl; wires = each h.wires all }
  where
    each : (ws : List Wire) → AllByRecursion (λ w. nat_le w.plugged made ≡ true) ws → AreFewer is_in_place (stood_at made) ws ws
    each [] all = AreFewer.none
    each (w ∷ ws) all = AreFewer.more refl (λ s. one w.pulled refl s) (each ws all.1)
      where
        one : (o : Option ℕ) → w.pulled ≡ o → is_none o ≡ true → stood_at made w ≡ true
        one None p s = rw (p, all.0) refl
        one (Some c) p s = absurd (true≢false (sym s))

-- the past
pub late-pull : (past changes : ℕ) (w : Wire) → past ≤ changes → w.pulled ≡ None → stood_at past (record w { pulled = Some (changes + 1) }) ≡ stood_at past w
late-pull past changes w low p = let after : nat_lt past (changes + 1) ≡ true = grind (arith, nat_tests) in rw (after, p) refl

pub late-plug : (past changes : ℕ) (w : Wire) → past ≤ changes → w.plugged ≡ changes + 1 → stood_at past w ≡ false
late-plug past changes w low p = let not_yet : nat_le w.plugged past ≡ false = grind (arith, nat_tests) in rw not_yet refl

-- the cables of a test, and those of another that a cable passes where it passes the first
pub kept-same : (one two : Wire → Bool) (v w : Wire) (vs ws : List Wire) → v.cable ≡ w.cable → one v ≡ two w → kept one vs ≡ kept two ws → kept one (v ∷ vs) ≡ kept two (w ∷ ws)
kept-same one two v w vs ws same both rest = by (one v) (two w) refl refl both
  where
    by : (s t : Bool) → one v ≡ s → two w ≡ t → s ≡ t → kept_if s v (filter one vs) ≡ kept_if t w (filter two ws)
    by true true p q e = λ i. same i ∷ rest i
    by false false p q e = rest
    by true false p q e = absurd (true≢false e)
    by false true p q e = absurd (true≢false (sym e))

kept-set : (test : Wire → Bool) (ws : List Wire) (k : ℕ) (v w : Wire) → slice_get ws k ≡ Some w → v.cable ≡ w.cable → test v ≡ test w → kept test (slice_set ws k v) ≡ kept test ws
kept-set test [] k v w is same both = cc
kept-set test (u ∷ ws) zero v w is same both = let e : u ≡ w = cc in kept-same test test v u ws ws (same ∙ sym (ap (λ x. x.cable) e)) (both ∙ sym (ap test e)) refl
kept-set test (u ∷ ws) (suc k) v w is same both = kept-same test test u u (slice_set ws k v) ws refl refl (kept-set test ws k v w is same both)

pub kept-push : (test : Wire → Bool) (ws : List Wire) (v : Wire) → test v ≡ false → kept test (ws ++ v ∷ []) ≡ kept test ws
kept-push test [] v out = rw out refl
kept-push test (w ∷ ws) v out = kept-same test test w w (ws ++ v ∷ []) ws refl refl (kept-push test ws v out)

pub pull_keeps_past : PullKeepsPast
pull_keeps_past h k past w low is there =
    let v : Wire = record w { pulled = Some (h.changes + 1) } in
    let one : kept (stood_at past) (slice_set h.wires k v) ≡ kept (stood_at past) h.wires = kept-set (stood_at past) h.wires k v w is refl (late-pull past h.changes w low there) in
    ap (λ o. fabric_at (pulled_by h k o) past) is ∙ (λ i. record { hosts = h.hosts; switches = h.switches; cables = one i })

pub plug_keeps_past : PlugKeepsPast
plug_keeps_past h past a b low =
    let v : Wire = record { cable = record { a = a; b = b }; plugged = h.changes + 1; pulled = None } in
    let one : kept (stood_at past) (h.wires ++ v ∷ []) ≡ kept (stood_at past) h.wires = kept-push (stood_at past) h.wires v (late-plug past h.changes v low refl) in
    λ i. record { hosts = h.hosts; switches = h.switches; cables = one i }
