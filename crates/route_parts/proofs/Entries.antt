-- Entries in front of bytes, read one after another.
use Rattle.std.proofs.Common.{◌≡◌, ◌<◌, ◌≤◌, ◌+◌, ◌^◌, ℕ, zero, suc, List, [], ◌∷◌, ◌++◌, Bool, true, false, ◌&&◌, length, take, get_or, nat_lt, nat_le, Option, Some, None, is_some, option_map, refl, ap, sym, ◌∙◌, arith, append_assoc}
use Rattle.std.specs.Prelude.{ℤ, option_and_then}
use Rattle.std.specs.Int.{w16, to_be_bytes}
use Rattle.std.proofs.lemmas.List.{append-nil}
use Rattle.std.specs.List.{list_all}
use Rattle.std.proofs.lemmas.Bool.{and_parts, false≢true}
use Rattle.std.proofs.lemmas.Bool.Decides.{nat_tests}
use Rattle.packet_defs.specs.RouteByte.{turn_of, is_route_byte, turns_of}
use Rattle.world_defs.specs.Mapping.{RouteEntry, Front, entry_front, entries_front, whole, is_route, are_entries, entry_bytes, route_bytes}
use Rattle.packet_defs.proofs.Reading.{turns_of-turns}
use Rattle.route_parts.specs.Reading.{is_above, are_risen, rise_from}
use Rattle.route_parts.specs.Viewing.{entry_viewed}

-- bytes are turns where each stands for one
pub turns_there : (bytes : List ℕ) → is_some (turns_of bytes) ≡ list_all is_route_byte bytes
turns_there [] = refl
turns_there (b ∷ bs) = by (turn_of b) (turns_of bs) (turns_there bs)
  where
    by : (o : Option ℤ) (p : Option (List ℤ)) → is_some p ≡ list_all is_route_byte bs → is_some (option_and_then (λ turn. option_map (λ turns. turn ∷ turns) p) o) ≡ (is_some o && list_all is_route_byte bs)
    by None p e = refl
    by (Some t) None e = e
    by (Some t) (Some ts) e = e

-- what is read is a route
pub read-route : (bytes : List ℕ) (walk : List ℤ) → length bytes ≤ 64 → turns_of bytes ≡ Some walk → is_route walk ≡ true
read-route bytes walk few e =
    let t = turns_of-turns bytes walk e in
    let count : length walk ≡ length bytes = t.1 in
    let short : nat_le (length walk) 64 ≡ true = grind (arith, nat_tests) in
    rw short t.0

-- a value that is all of the bytes, changed
pub whole-changed : {A B : Type 0} (f : A → B) (o : Front A) → whole (option_map (λ p. (f p.0, p.1)) o) ≡ option_map f (whole o)
whole-changed f None = refl
whole-changed f (Some (a, [])) = refl
whole-changed f (Some (a, byte ∷ bytes)) = refl

-- the entry in front and those after
pub entries-next : (k : ℕ) (bytes behind : List ℕ) (e : RouteEntry) → entry_front bytes ≡ Some (e, behind) → whole (entries_front (suc k) bytes) ≡ option_map (λ es. e ∷ es) (whole (entries_front k behind))
entries-next k bytes behind e r =
    ap (λ (o : Front RouteEntry). whole (option_and_then (λ d. option_map (λ es. (d.0 ∷ es.0, es.1)) (entries_front k d.1)) o)) r
    ∙ whole-changed (λ es. e ∷ es) (entries_front k behind)

-- hosts above one that stands above another
above-all : (before : Option ℕ) (to : ℕ) (es : List RouteEntry) → is_above before to ≡ true → list_all (λ d. nat_lt to d.to) es ≡ true → list_all (λ d. is_above before d.to) es ≡ true
above-all before to [] up all = refl
above-all before to (e ∷ es) up all =
    let two = and_parts (nat_lt to e.to) (list_all (λ d. nat_lt to d.to) es) all in
    rw (here before up two.0) (above-all before to es up two.1)
  where
    here : (before : Option ℕ) → is_above before to ≡ true → nat_lt to e.to ≡ true → is_above before e.to ≡ true
    here None p q = refl
    here (Some b) p q = grind (arith, nat_tests)

-- entries that rise, with one in front
risen-next : (before : Option ℕ) (e : RouteEntry) (o : Option (List RouteEntry)) → is_above before e.to ≡ true → e.to < 2 ^ 16 → is_route e.walk ≡ true → are_risen before (option_map (λ es. e ∷ es) o) ≡ are_risen (Some e.to) o
risen-next before e None up fits route = refl
risen-next before e (Some es) up fits route =
    let low : nat_lt e.to (2 ^ 16) ≡ true = grind (arith, nat_tests) in
    rw (up, low, route) (by (list_all (λ d. nat_lt e.to d.to) es) refl)
  where
    off : (b c : Bool) → (b && (false && c)) ≡ false
    off true c = refl
    off false c = refl

    by : (b : Bool) → list_all (λ d. nat_lt e.to d.to) es ≡ b → (list_all (λ d. is_above before d.to) es && (b && are_entries es)) ≡ (b && are_entries es)
    by true p = rw (above-all before e.to es up p) refl
    by false p = off (list_all (λ d. is_above before d.to) es) (are_entries es)

-- an entry in front, by its route bytes
pub entry-is : (to : ℕ) (turns behind bytes : List ℕ) (walk : List ℤ) → turns_of turns ≡ Some walk → entry_viewed (Some ((to, turns), behind)) ≡ entry_front bytes → entry_front bytes ≡ Some (record { to = to; walk = walk }, behind)
entry-is to turns behind bytes walk t e = sym e ∙ ap (option_map (λ (w : List ℤ). (record { to = to; walk = w }, behind))) t

pub rise-read : (before : Option ℕ) (k to : ℕ) (turns behind bytes : List ℕ) (walk : List ℤ) → entry_viewed (Some ((to, turns), behind)) ≡ entry_front bytes → turns_of turns ≡ Some walk → to < 2 ^ 16 → length turns ≤ 64 → is_above before to ≡ true → rise_from before (suc k) bytes ≡ rise_from (Some to) k behind
rise-read before k to turns behind bytes walk e t fits few up =
    ap (are_risen before) (entries-next k bytes behind (record { to = to; walk = walk }) (entry-is to turns behind bytes walk t e))
    ∙ risen-next before (record { to = to; walk = walk }) (whole (entries_front k behind)) up fits (read-route turns walk few t)

pub rise-next : (before : Option ℕ) (k to : ℕ) (turns behind bytes : List ℕ) → entry_viewed (Some ((to, turns), behind)) ≡ entry_front bytes → is_some (turns_of turns) ≡ true → to < 2 ^ 16 → length turns ≤ 64 → is_above before to ≡ true → rise_from before (suc k) bytes ≡ rise_from (Some to) k behind
rise-next before k to turns behind bytes e there fits few up = by (turns_of turns) refl there
  where
    by : (o : Option (List ℤ)) → turns_of turns ≡ o → is_some o ≡ true → rise_from before (suc k) bytes ≡ rise_from (Some to) k behind
    by None t n = absurd (false≢true n)
    by (Some walk) t n = rise-read before k to turns behind bytes walk e t fits few up

-- entries that were read, and one more
pub entries-read : (before : List RouteEntry) (k to : ℕ) (turns behind bytes : List ℕ) (walk : List ℤ) → entry_viewed (Some ((to, turns), behind)) ≡ entry_front bytes → turns_of turns ≡ Some walk → option_map (λ es. before ++ es) (whole (entries_front (suc k) bytes)) ≡ option_map (λ es. (before ++ record { to = to; walk = walk } ∷ []) ++ es) (whole (entries_front k behind))
entries-read before k to turns behind bytes walk e t =
    ap (option_map (λ es. before ++ es)) (entries-next k bytes behind (record { to = to; walk = walk }) (entry-is to turns behind bytes walk t e))
    ∙ by (whole (entries_front k behind))
  where
    by : (o : Option (List RouteEntry)) → option_map (λ es. before ++ es) (option_map (λ es. record { to = to; walk = walk } ∷ es) o) ≡ option_map (λ es. (before ++ record { to = to; walk = walk } ∷ []) ++ es) o
    by None = refl
    by (Some es) = ap Some (sym (append_assoc before (record { to = to; walk = walk } ∷ []) es))

-- entries that were written, and one more
bytes-suc : (es : List RouteEntry) (i : ℕ) (e : RouteEntry) → i < length es → e ≡ get_or es i e → entry_bytes (take (suc i) es) ≡ entry_bytes (take i es) ++ (to_be_bytes w16 e.to ++ route_bytes e.walk)
bytes-suc [] i e l r = absurd (omega arith)
bytes-suc (d ∷ es) zero e l r = ap (λ (x : RouteEntry). to_be_bytes w16 x.to ++ route_bytes x.walk ++ []) (sym r) ∙ append-nil (to_be_bytes w16 e.to ++ route_bytes e.walk)
bytes-suc (d ∷ es) (suc i) e l r =
    let rest = bytes-suc es i e (omega arith) r in
    ap (λ (l : List ℕ). to_be_bytes w16 d.to ++ route_bytes d.walk ++ l) rest ∙ sym (append_assoc (to_be_bytes w16 d.to ++ route_bytes d.walk) (entry_bytes (take i es)) (to_be_bytes w16 e.to ++ route_bytes e.walk))

pub bytes-more : (es : List RouteEntry) (i : ℕ) (e : RouteEntry) → i < length es → e ≡ get_or es i e → entry_bytes (take (i + 1) es) ≡ entry_bytes (take i es) ++ (to_be_bytes w16 e.to ++ route_bytes e.walk)
bytes-more es i e l r = let one : i + 1 ≡ suc i = omega arith in ap (λ n. entry_bytes (take n es)) one ∙ bytes-suc es i e l r
