-- The table of hops as it is built, and with another channel at a port.
use Rattle.std.proofs.Common.{◌≡◌, ◌≢◌, ◌<◌, ◌≤◌, ◌+◌, ◌-◌, ◌*◌, ⊎_elim, ℕ, zero, suc, Bool, true, false, nat_eq, List, ◌++◌, length, drop, replicate, get_or, set, get_or-set_other, get_or-set_same, Option, None, refl, sym, ap, ◌∙◌, subst, arith, true≢false}
use Rattle.std.proofs.lemmas.Bool.{cases_lt}
use Rattle.std.proofs.lemmas.Bool.Decides.{Decides-eqb}
use Rattle.std.proofs.lemmas.List.{length-append, length-drop, length-replicate, length-take-le, get_or-take, get_or-drop, get_or_append_left, get_or-append_right, get_or-replicate}
use Rattle.std.proofs.Math.ListN.{length-set}
use Rattle.fabric_wiring.specs.Hops.{IsHopTable, port_channels, hop_row, hop_rows, hop_table}

-- ---- the places
ports-length : (out : List (Option ℕ)) (s : ℕ) → length out ≡ 1152 → s < 64 → length (port_channels out s) ≡ 16
ports-length out s size few =
    let rest : length (drop (128 + 16 * s) out) ≡ length out - (128 + 16 * s) = length-drop (128 + 16 * s) out in
    length-take-le 16 (drop (128 + 16 * s) out) (omega (arith, rest, size, few))

front-length : (out : List (Option ℕ)) (s : ℕ) → length out ≡ 1152 → s < 64 → length (port_channels out s ++ replicate 48 None) ≡ 64
front-length out s size few =
    let both = length-append (port_channels out s) (replicate {A = Option ℕ} 48 None) in
    let ports = ports-length out s size few in
    let gap = length-replicate {A = Option ℕ} 48 None in
    omega (arith, both, ports, gap)

row-length : (out : List (Option ℕ)) (s : ℕ) → length out ≡ 1152 → s < 64 → length (hop_row out s) ≡ 80
row-length out s size few =
    let both = length-append (port_channels out s ++ replicate 48 None) (port_channels out s) in
    let front = front-length out s size few in
    let ports = ports-length out s size few in
    omega (arith, both, front, ports)

port-at : (out : List (Option ℕ)) (s q : ℕ) → q < 16 → get_or (port_channels out s) q None ≡ get_or out (128 + 16 * s + q) None
port-at out s q low = get_or-take 16 (drop (128 + 16 * s) out) q None low ∙ get_or-drop (128 + 16 * s) out q None

row-first : (out : List (Option ℕ)) (s q : ℕ) → length out ≡ 1152 → s < 64 → q < 16 → get_or (hop_row out s) q None ≡ get_or out (128 + 16 * s + q) None
row-first out s q size few low =
    let front = front-length out s size few in
    let ports = ports-length out s size few in
    get_or_append_left (port_channels out s ++ replicate 48 None) (port_channels out s) None q (omega (arith, front, low))
    ∙ get_or_append_left (port_channels out s) (replicate 48 None) None q (omega (arith, ports, low))
    ∙ port-at out s q low

row-gap : (out : List (Option ℕ)) (s q : ℕ) → length out ≡ 1152 → s < 64 → 16 ≤ q → q < 64 → get_or (hop_row out s) q None ≡ None
row-gap out s q size few high low =
    let front = front-length out s size few in
    get_or_append_left (port_channels out s ++ replicate 48 None) (port_channels out s) None q (omega (arith, front, low))
    ∙ get_or-append_right (port_channels out s) (replicate 48 None) 16 q None (ports-length out s size few) high
    ∙ get_or-replicate 48 (q - 16) None None (omega (arith, high, low))

row-second : (out : List (Option ℕ)) (s q : ℕ) → length out ≡ 1152 → s < 64 → 64 ≤ q → q < 80 → get_or (hop_row out s) q None ≡ get_or out (128 + 16 * s + (q - 64)) None
row-second out s q size few high low =
    get_or-append_right (port_channels out s ++ replicate 48 None) (port_channels out s) 64 q None (front-length out s size few) high
    ∙ port-at out s (q - 64) (omega (arith, high, low))

rows-length : (out : List (Option ℕ)) (k : ℕ) → length out ≡ 1152 → k ≤ 64 → length (hop_rows out k) ≡ 80 * k
rows-length out zero size few = refl
rows-length out (suc k) size few =
    let both = length-append (hop_rows out k) (hop_row out k) in
    let rest = rows-length out k size (omega (arith, few)) in
    let row = row-length out k size (omega (arith, few)) in
    omega (arith, both, rest, row)

rows-at : (out : List (Option ℕ)) (k s q : ℕ) → length out ≡ 1152 → k ≤ 64 → s < k → q < 80 → get_or (hop_rows out k) (80 * s + q) None ≡ get_or (hop_row out s) q None
rows-at out zero s q size few below low = absurd (omega (arith, below))
rows-at out (suc k) s q size few below low = ⊎_elim (λ less. earlier less (rows-at out k s q size (omega (arith, few)) less low)) last (cases_lt s k)
  where
    long : length (hop_rows out k) ≡ 80 * k
    long = rows-length out k size (omega (arith, few))

    earlier : s < k → get_or (hop_rows out k) (80 * s + q) None ≡ get_or (hop_row out s) q None → get_or (hop_rows out k ++ hop_row out k) (80 * s + q) None ≡ get_or (hop_row out s) q None
    earlier less rest = get_or_append_left (hop_rows out k) (hop_row out k) None (80 * s + q) (omega (arith, long, less, low)) ∙ rest

    last : k ≤ s → get_or (hop_rows out k ++ hop_row out k) (80 * s + q) None ≡ get_or (hop_row out s) q None
    last more =
        let same : k ≡ s = omega (arith, below, more) in
        let at : (80 * s + q) - 80 * k ≡ q = omega (arith, same) in
        get_or-append_right (hop_rows out k) (hop_row out k) (80 * k) (80 * s + q) None long (omega (arith, more))
        ∙ ap (λ i. get_or (hop_row out k) i None) at
        ∙ ap (λ j. get_or (hop_row out j) q None) same

table-length : (out : List (Option ℕ)) (k : ℕ) → length out ≡ 1152 → k ≤ 64 → length (hop_table out k) ≡ 80 * k + 64
table-length out k size few =
    let both = length-append (hop_rows out k) (replicate {A = Option ℕ} 64 None) in
    let rows = rows-length out k size few in
    let last = length-replicate {A = Option ℕ} 64 None in
    omega (arith, both, rows, last)

table-at : (out : List (Option ℕ)) (k s q : ℕ) → length out ≡ 1152 → k ≤ 64 → s < k → q < 80 → get_or (hop_table out k) (80 * s + q) None ≡ get_or (hop_row out s) q None
table-at out k s q size few below low =
    let rows = rows-length out k size few in
    get_or_append_left (hop_rows out k) (replicate 64 None) None (80 * s + q) (omega (arith, rows, below, low)) ∙ rows-at out k s q size few below low

table-last : (out : List (Option ℕ)) (k i : ℕ) → length out ≡ 1152 → k ≤ 64 → i < 64 → get_or (hop_table out k) (80 * k + i) None ≡ None
table-last out k i size few low =
    get_or-append_right (hop_rows out k) (replicate 64 None) (80 * k) (80 * k + i) None (rows-length out k size few) (omega arith)
    ∙ get_or-replicate 64 ((80 * k + i) - 80 * k) None None (omega (arith, low))

-- the table as it is built
pub hops-made : (out hops : List (Option ℕ)) (k : ℕ) → length out ≡ 1152 → k ≤ 64 → hops ≡ hop_table out k → IsHopTable out k hops
hops-made out hops k size few is = subst (IsHopTable out k) (sym is) (record {
  size = table-length out k size few;
  first = λ s p below low. table-at out k s p size few below (omega (arith, low)) ∙ row-first out s p size (omega (arith, below, few)) low;
  gap = λ s q below high low. table-at out k s q size few below (omega (arith, low)) ∙ row-gap out s q size (omega (arith, below, few)) high low;
  second = λ s p below low. second s p below low;
  last = λ i low. table-last out k i size few low;
})
  where
    second : (s p : ℕ) → s < k → p < 16 → get_or (hop_table out k) (80 * s + p + 64) None ≡ get_or out (128 + 16 * s + p) None
    second s p below low =
        let at : 80 * s + p + 64 ≡ 80 * s + (64 + p) = omega arith in
        let back : (64 + p) - 64 ≡ p = omega arith in
        ap (λ i. get_or (hop_table out k) i None) at
        ∙ table-at out k s (64 + p) size few below (omega (arith, low))
        ∙ row-second out s (64 + p) size (omega (arith, below, few)) (omega arith) (omega (arith, low))
        ∙ ap (λ i. get_or out (128 + 16 * s + i) None) back

-- ---- another channel at a port
-- two numbers are the same or not
same-or-not : (a b : ℕ) (P : Type 0) → (a ≡ b → P) → (a ≢ b → P) → P
same-or-not a b P same other = by (nat_eq a b) refl
  where
    by : (t : Bool) → nat_eq a b ≡ t → P
    by true e = same ((Decides-eqb a b).0 e)
    by false e = other (λ q. true≢false (sym ((Decides-eqb a b).1 q) ∙ e))

module _ (out hops : List (Option ℕ)) (k s p : ℕ) (to : Option ℕ) (table : IsHopTable out k hops) (size : length out ≡ 1152) (below : s < k) (few : k ≤ 64) (low : p < 16) where
  abbrev here : ℕ
  here = 80 * s + p

  abbrev again : ℕ
  again = 80 * s + p + 64

  abbrev port : ℕ
  port = 128 + 16 * s + p

  abbrev one : List (Option ℕ)
  one = set hops here to

  abbrev both : List (Option ℕ)
  both = set one again to

  room : again < length hops
  room = let n = table.size in omega (arith, n, below, low)

  long : length one ≡ length hops
  long = length-set hops here to

  -- a place that is neither
  elsewhere : (i : ℕ) → i ≢ here → i ≢ again → get_or both i None ≡ get_or hops i None
  elsewhere i a b = get_or-set_other one again i to None b ∙ get_or-set_other hops here i to None a

  at-here : get_or both here None ≡ to
  at-here =
      let r = room in
      get_or-set_other one again here to None (λ q. omega (arith, q)) ∙ get_or-set_same hops here to None (omega (arith, r))

  at-again : get_or both again None ≡ to
  at-again = let r = room in let l = long in get_or-set_same one again to None (omega (arith, r, l))

  at-port : get_or (set out port to) port None ≡ to
  at-port = get_or-set_same out port to None (omega (arith, size, below, few, low))

  other-port : (t q : ℕ) → 128 + 16 * t + q ≢ port → get_or (set out port to) (128 + 16 * t + q) None ≡ get_or out (128 + 16 * t + q) None
  other-port t q differ = get_or-set_other out port (128 + 16 * t + q) to None differ

  first-put : (t q : ℕ) → t < k → q < 16 → get_or both (80 * t + q) None ≡ get_or (set out port to) (128 + 16 * t + q) None
  first-put t q there small = same-or-not (128 + 16 * t + q) port (get_or both (80 * t + q) None ≡ get_or (set out port to) (128 + 16 * t + q) None) same other
    where
      same : 128 + 16 * t + q ≡ port → get_or both (80 * t + q) None ≡ get_or (set out port to) (128 + 16 * t + q) None
      same e =
          let place : 80 * t + q ≡ here = omega (arith, e, small, low) in
          ap (λ i. get_or both i None) place ∙ at-here ∙ sym (ap (λ i. get_or (set out port to) i None) e ∙ at-port)

      other : 128 + 16 * t + q ≢ port → get_or both (80 * t + q) None ≡ get_or (set out port to) (128 + 16 * t + q) None
      other d =
          elsewhere (80 * t + q) (λ e. d (omega (arith, e, small, low))) (λ e. omega (arith, e, small, low))
          ∙ table.first t q there small
          ∙ sym (other-port t q d)

  second-put : (t q : ℕ) → t < k → q < 16 → get_or both (80 * t + q + 64) None ≡ get_or (set out port to) (128 + 16 * t + q) None
  second-put t q there small = same-or-not (128 + 16 * t + q) port (get_or both (80 * t + q + 64) None ≡ get_or (set out port to) (128 + 16 * t + q) None) same other
    where
      same : 128 + 16 * t + q ≡ port → get_or both (80 * t + q + 64) None ≡ get_or (set out port to) (128 + 16 * t + q) None
      same e =
          let place : 80 * t + q + 64 ≡ again = omega (arith, e, small, low) in
          ap (λ i. get_or both i None) place ∙ at-again ∙ sym (ap (λ i. get_or (set out port to) i None) e ∙ at-port)

      other : 128 + 16 * t + q ≢ port → get_or both (80 * t + q + 64) None ≡ get_or (set out port to) (128 + 16 * t + q) None
      other d =
          elsewhere (80 * t + q + 64) (λ e. omega (arith, e, small, low)) (λ e. d (omega (arith, e, small, low)))
          ∙ table.second t q there small
          ∙ sym (other-port t q d)

  pub hops-put : IsHopTable (set out port to) k both
  hops-put = record {
    size = length-set one again to ∙ long ∙ table.size;
    first = first-put;
    gap = λ t q there high small. elsewhere (80 * t + q) (λ e. omega (arith, e, high, small, low)) (λ e. omega (arith, e, high, small, low)) ∙ table.gap t q there high small;
    second = second-put;
    last = λ i small. elsewhere (80 * k + i) (λ e. omega (arith, e, below, low)) (λ e. omega (arith, e, below, low)) ∙ table.last i small;
  }

-- at a host's port the table of hops stays
pub hops-host : (out hops : List (Option ℕ)) (k h : ℕ) (to : Option ℕ) → IsHopTable out k hops → h < 128 → IsHopTable (set out h to) k hops
hops-host out hops k h to table low = record {
  size = table.size;
  first = λ s p below small. table.first s p below small ∙ sym (get_or-set_other out h (128 + 16 * s + p) to None (λ e. omega (arith, e, low)));
  gap = table.gap;
  second = λ s p below small. table.second s p below small ∙ sym (get_or-set_other out h (128 + 16 * s + p) to None (λ e. omega (arith, e, low)));
  last = table.last;
}
