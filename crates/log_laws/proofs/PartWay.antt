-- Along one list of events, and along another after it.
use Rattle.std.proofs.Common.{◌≡◌, ◌<◌, ◌≤◌, ◌+◌, ◌-◌, ℕ, zero, suc, List, [], ◌∷◌, ◌++◌, map, refl, sym, ◌∙◌, ap, subst, arith}
use Rattle.std.specs.List.{range_with_len}
use Rattle.std.proofs.lemmas.List.{append_assoc}
use Rattle.world_defs.specs.declared.event.Event.{Event}
use Rattle.world_defs.specs.World.{WorldState}
use Rattle.world_defs.specs.Step.{step, after_all}
use Rattle.world_defs.specs.Row.{IsPartWay}
use Rattle.world_defs.proofs.LogRows.{after_all-append}

-- nothing was done yet
pub way-start : (w : WorldState) (events : List Event) → IsPartWay w events w
way-start w events = record { done = []; front = record { rest = events; both = refl }; there = refl }

-- part of the way along the first events of a list
pub way-front : (w v : WorldState) (es fs : List Event) → IsPartWay w es v → IsPartWay w (es ++ fs) v
way-front w v es fs p = record {
  done = p.done;
  front = record { rest = p.front.rest ++ fs; both = ap (λ l. l ++ fs) p.front.both ∙ append_assoc p.done p.front.rest fs };
  there = p.there;
}

-- part of the way along the events after those that led to a world
pub way-behind : (w u v : WorldState) (es fs : List Event) → u ≡ after_all w es → IsPartWay u fs v → IsPartWay w (es ++ fs) v
way-behind w u v es fs led p = record {
  done = es ++ p.done;
  front = record { rest = p.front.rest; both = ap (λ l. es ++ l) p.front.both ∙ sym (append_assoc es p.done p.front.rest) };
  there = p.there ∙ ap (λ x. after_all x p.done) led ∙ sym (after_all-append w es p.done);
}

-- after one event
pub way-step : (w u v : WorldState) (e : Event) (es : List Event) → u ≡ (step w e).1 → IsPartWay u es v → IsPartWay w (e ∷ es) v
way-step w u v e es led p = way-behind w u v (e ∷ []) es led p

-- the same way by another list
pub way-as : (w v : WorldState) (es fs : List Event) → es ≡ fs → IsPartWay w fs v → IsPartWay w es v
way-as w v es fs same p = subst (λ l. IsPartWay w l v) (sym same) p

-- where a world was left as it is
pub way-still : (w v : WorldState) (es : List Event) → v ≡ w → IsPartWay w es v
way-still w v es still = subst (IsPartWay w es) (sym still) (way-start w es)

-- part of the way along events of numbers in a row, of which the first change nothing
way-skip : (f : ℕ → Event) (w v : WorldState) (gap from all next rest : ℕ) → all ≡ gap + rest → next ≡ from + gap → ((k : ℕ) → from ≤ k → k < next → w ≡ (step w (f k)).1)
    → IsPartWay w (map f (range_with_len next rest)) v → IsPartWay w (map f (range_with_len from all)) v
way-skip f w v zero from all next rest a n idle p =
    let one : rest ≡ all = omega (arith, a) in
    let two : next ≡ from = omega (arith, n) in
    subst (λ k. IsPartWay w (map f (range_with_len from k)) v) one (subst (λ k. IsPartWay w (map f (range_with_len k rest)) v) two p)
way-skip f w v (suc gap) from all next rest a n idle p =
    let more : suc (gap + rest) ≡ all = omega (arith, a) in
    let further = way-skip f w v gap (from + 1) (gap + rest) next rest refl (omega (arith, n)) (λ k low high. idle k (omega (arith, low)) high) p in
    subst (λ k. IsPartWay w (map f (range_with_len from k)) v) more
    (way-step w w v (f from) (map f (range_with_len (from + 1) (gap + rest))) (idle from (omega arith) (omega (arith, n))) further)

-- after the event of a number, where those of the numbers before it change nothing
pub way-next : (f : ℕ → Event) (w u v : WorldState) (from count c : ℕ) → from ≤ c → c < count → ((k : ℕ) → from ≤ k → k < c → w ≡ (step w (f k)).1) → u ≡ (step w (f c)).1
    → IsPartWay u (map f (range_with_len (c + 1) (count - (c + 1)))) v → IsPartWay w (map f (range_with_len from (count - from))) v
way-next f w u v from count c low high idle led p =
    way-skip f w v (c - from) from (count - from) c (suc (count - (c + 1))) (omega (arith, low, high)) (omega (arith, low)) idle
    (way-step w u v (f c) (map f (range_with_len (c + 1) (count - (c + 1)))) led p)

-- from the first number on
pub way-first : (f : ℕ → Event) (w v : WorldState) (count : ℕ) → IsPartWay w (map f (range_with_len 0 (count - 0))) v → IsPartWay w (map f (range_with_len 0 count)) v
way-first f w v count p = let e : count - 0 ≡ count = omega arith in subst (λ n. IsPartWay w (map f (range_with_len 0 n)) v) e p
