-- Whether a line tells right where each token of a port is.
use Rattle.std.proofs.Common.{◌≡◌, ℕ, zero, suc, ◌+◌, Bool, true, false, List, [], ◌∷◌, map, length, nat_eq, Option, Some, None, refl, sym, ap, ◌∙◌, subst, true≢false}
use Rattle.std.specs.Prelude.{◌↔◌}
use Rattle.std.specs.Bool.{beq}
use Rattle.std.specs.List.{AllByRecursion, range_with_len}
use Rattle.std.specs.Map.{lookup}
use Rattle.gm_defs.specs.Token.{has_number}
use Rattle.gm_defs.proofs.Choices.{both}
use Rattle.port_ledgers.specs.declared.lane.PortName.{PortName}
use Rattle.port_ledgers.specs.declared.lane.ToldPlace.{ToldPlace}
use Rattle.port_ledgers.specs.Told.{Told}
use Rattle.port_ledgers.specs.Held.{OpenPort, is_port, port_told, AreHeld, ArePlaced, AreAllPlaced, is_placed, are_placed_from, are_placed, are_all_placed}
use Rattle.port_ledgers.proofs.Counting.{equal, same, two}
use Rattle.port_ledgers.proofs.Holding.{Ports}

same-bool : (a b : Bool) → beq a b ≡ true → a ≡ b
same-bool true true e = refl
same-bool false false e = refl
same-bool true false e = absurd (true≢false (sym e))
same-bool false true e = absurd (true≢false (sym e))

bool-same : (a b : Bool) → a ≡ b → beq a b ≡ true
bool-same true true e = refl
bool-same false false e = refl
bool-same true false e = absurd (true≢false e)
bool-same false true e = absurd (true≢false (sym e))

abbrev AreClients : List ℕ → List ToldPlace → Type 0
AreClients held told = AllByRecursion (λ e. e.with_client ≡ has_number held e.number) told

from-here : (k : ℕ) (held : List ℕ) (told : List ToldPlace) → are_placed_from k held told ≡ true → (map (λ (e : ToldPlace). e.number) told ≡ range_with_len k (length told)) × AreClients held told
from-here k held [] e = (refl, tt)
from-here k held (x ∷ told) e =
    let h = both (is_placed k held x) (are_placed_from (k + 1) held told) e in
    let g = both (nat_eq x.number k) (beq x.with_client (has_number held x.number)) h.0 in
    let rest = from-here (k + 1) held told h.1 in
    (ap (λ n. n ∷ map (λ (e : ToldPlace). e.number) told) (equal x.number k g.0) ∙ ap (λ l. k ∷ l) rest.0, (same-bool x.with_client (has_number held x.number) g.1, rest.1))

first-of : (a b : ℕ) (xs ys : List ℕ) → a ∷ xs ≡ b ∷ ys → (a ≡ b) × (xs ≡ ys)
first-of a b xs ys e = ((let h : a ≡ b = cc in h), (let t : xs ≡ ys = cc in t))

here-from : (k n : ℕ) (held : List ℕ) (told : List ToldPlace) → map (λ (e : ToldPlace). e.number) told ≡ range_with_len k n → AreClients held told → (length told ≡ n) × (are_placed_from k held told ≡ true)
here-from k zero held [] e c = (refl, refl)
here-from k (suc n) held [] e c = cc
here-from k zero held (x ∷ told) e c = cc
here-from k (suc n) held (x ∷ told) e c =
    let f = first-of x.number k (map (λ (e : ToldPlace). e.number) told) (range_with_len (k + 1) n) e in
    let rest = here-from (k + 1) n held told f.1 c.1 in (
      ap suc rest.0,
      two (is_placed k held x) (are_placed_from (k + 1) held told)
          (two (nat_eq x.number k) (beq x.with_client (has_number held x.number)) (same x.number k f.0) (bool-same x.with_client (has_number held x.number) c.0)) rest.1,
    )

one-kind : (count : ℕ) (held : List ℕ) (told : List ToldPlace) → (are_placed count held told ≡ true) ↔ ArePlaced count held told
one-kind count held told = (forth, back)
  where
    forth : are_placed count held told ≡ true → ArePlaced count held told
    forth e =
        let h = both (nat_eq (length told) count) (are_placed_from 0 held told) e in
        let f = from-here 0 held told h.1 in
        record { numbers = f.0 ∙ ap (range_with_len 0) (equal (length told) count h.0); clients = f.1 }

    back : ArePlaced count held told → are_placed count held told ≡ true
    back p = let h = here-from 0 count held told p.numbers p.clients in two (nat_eq (length told) count) (are_placed_from 0 held told) (same (length told) count h.0) h.1

both-kinds : (o : Option OpenPort) (sends recvs : List ToldPlace) → (are_all_placed o sends recvs ≡ true) ↔ AreAllPlaced o sends recvs
both-kinds None sends recvs = ((λ e. absurd (true≢false (sym e))), (λ u. absurd u))
both-kinds (Some p) sends recvs = (forth, back)
  where
    forth : are_all_placed (Some p) sends recvs ≡ true → AreAllPlaced (Some p) sends recvs
    forth e = let h = both (are_placed p.sends p.client.sends sends) (are_placed p.recvs p.client.recvs recvs) e in ((one-kind p.sends p.client.sends sends).0 h.0, (one-kind p.recvs p.client.recvs recvs).0 h.1)

    back : AreAllPlaced (Some p) sends recvs → are_all_placed (Some p) sends recvs ≡ true
    back h = two (are_placed p.sends p.client.sends sends) (are_placed p.recvs p.client.recvs recvs) ((one-kind p.sends p.client.sends sends).1 h.0) ((one-kind p.recvs p.client.recvs recvs).1 h.1)

pub placed_right : (past : List Told) (q : Ports) (a : PortName) (is : Bool) (sends recvs : List ToldPlace) → is ≡ are_all_placed (lookup (is_port a) q) sends recvs → AreHeld past q → (is ≡ true) ↔ AreAllPlaced (port_told a past) sends recvs
placed_right past q a is sends recvs e held =
    subst (λ b. (b ≡ true) ↔ AreAllPlaced (port_told a past) sends recvs) (sym e)
    (subst (λ o. (are_all_placed (lookup (is_port a) q) sends recvs ≡ true) ↔ AreAllPlaced o sends recvs) (held.each a) (both-kinds (lookup (is_port a) q) sends recvs))
