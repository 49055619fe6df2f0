-- The hosts of a map among one address more.
use Rattle.std.proofs.Common.{◌≡◌, ◌+◌, ℕ, [], ◌∷◌, ◌++◌, Bool, true, false, cond, nat_eq, ap, sym, ◌∙◌, arith}
use Rattle.std.specs.List.{filter, list_any, range_with_len}
use Rattle.std.proofs.lemmas.List.{append-nil, map-id}
use Rattle.std.proofs.lemmas.List.FromFn.{filter_of_map_range_with_len_more}
use Rattle.map_defs.specs.NetMap.{NetMap, hosts_of}
use Rattle.route_making.specs.Listed.{map_hosts_below}

one-more : (p : ℕ → Bool) (k : ℕ) → filter p (range_with_len 0 (k + 1)) ≡ filter p (range_with_len 0 k) ++ cond (p k) (k ∷ []) []
one-more p k =
    let here : 0 + k ≡ k = omega arith in
    ap (filter p) (sym (map-id (range_with_len 0 (k + 1))))
    ∙ filter_of_map_range_with_len_more p (λ x. x) 0 k k here
    ∙ ap (λ l. filter p l ++ cond (p k) (k ∷ []) []) (map-id (range_with_len 0 k))

pub host-more : (m : NetMap) (k : ℕ) → list_any (nat_eq k) (hosts_of m.vertices) ≡ true → map_hosts_below (k + 1) m ≡ map_hosts_below k m ++ k ∷ []
host-more m k e = one-more (λ h. list_any (nat_eq h) (hosts_of m.vertices)) k ∙ ap (λ b. map_hosts_below k m ++ cond b (k ∷ []) []) e

pub host-missing : (m : NetMap) (k : ℕ) → list_any (nat_eq k) (hosts_of m.vertices) ≡ false → map_hosts_below (k + 1) m ≡ map_hosts_below k m
host-missing m k e =
    one-more (λ h. list_any (nat_eq h) (hosts_of m.vertices)) k
    ∙ ap (λ b. map_hosts_below k m ++ cond b (k ∷ []) []) e
    ∙ append-nil (map_hosts_below k m)
