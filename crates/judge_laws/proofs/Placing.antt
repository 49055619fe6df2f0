-- A line of tokens has each token of its port once, and with the client exactly those that it holds.
use Rattle.std.proofs.Common.{◌≡◌, ◌<◌, ◌≤◌, ◌+◌, ℕ, zero, suc, List, [], ◌∷◌, ◌++◌, map, Option, is_none, refl, ap, arith}
use Rattle.std.specs.List.{AllByRecursion, range_with_len}
use Rattle.gm_defs.specs.declared.token.TokenPlace.{TokenPlace}
use Rattle.gm_defs.specs.declared.token.TokenPlace.TheVariants.{Queue, Provided as WithBuffer}
use Rattle.gm_defs.specs.Token.{PortState, has_number, sent_tokens, received_tokens, sends_out, recvs_out, place_of_send, place_of_recv}
use Rattle.world_defs.specs.Client.{ClientState}
use Rattle.world_defs.specs.Sound.{IsEachOnce}
use Rattle.port_ledgers.specs.declared.lane.ToldPlace.{ToldPlace}
use Rattle.port_ledgers.specs.Held.{ArePlaced}
use Rattle.run_defs.specs.declared.line.PlaceEntry.{PlaceEntry}
use Rattle.run_defs.specs.Outcome.{places}
use Rattle.judge_laws.proofs.Owners.{placed-right}
use Rattle.judge_laws.proofs.Fits.{AreNumbered}
use Rattle.judge_laws.proofs.Saying.{told_place}

-- tokens with their places
abbrev places_of : (ℕ → Option TokenPlace) → List ℕ → List PlaceEntry
places_of place_of ts = map (λ t. record { number = t; place = place_of t }) ts

told-numbers : (place_of : ℕ → Option TokenPlace) (ts : List ℕ) → map (λ (e : ToldPlace). e.number) (map told_place (places_of place_of ts)) ≡ ts
told-numbers place_of [] = refl
told-numbers place_of (t ∷ ts) = ap (λ l. t ∷ l) (told-numbers place_of ts)

told-clients : (count : ℕ) (place_of : ℕ → Option TokenPlace) (held ts : List ℕ) → AllByRecursion (λ t. t < count) ts → ((t : ℕ) → t < count → is_none (place_of t) ≡ has_number held t)
    → AllByRecursion (λ (e : ToldPlace). e.with_client ≡ has_number held e.number) (map told_place (places_of place_of ts))
told-clients count place_of held [] low right = tt
told-clients count place_of held (t ∷ ts) low right = (right t low.0, told-clients count place_of held ts low.1 right)

told-counted : (count : ℕ) (place_of : ℕ → Option TokenPlace) (ts : List ℕ) → count ≤ 64 → AllByRecursion (λ t. t < count) ts → AreNumbered (places_of place_of ts)
told-counted count place_of [] few low = tt
told-counted count place_of (t ∷ ts) few low = ((let small = low.0 in omega arith), told-counted count place_of ts few low.1)

range-below : (start count most : ℕ) → start + count ≤ most → AllByRecursion (λ t. t < most) (range_with_len start count)
range-below start zero most low = tt
range-below start (suc count) most low = (omega arith, range-below (start + 1) count most (omega arith))

all-below : (count : ℕ) → AllByRecursion (λ t. t < count) (range_with_len 0 count)
all-below count = range-below 0 count count (omega arith)

pub numbered : (count : ℕ) (place_of : ℕ → Option TokenPlace) → count ≤ 64 → AreNumbered (places count place_of)
numbered count place_of few = told-counted count place_of (range_with_len 0 count) few (all-below count)

placed : (count : ℕ) (place_of : ℕ → Option TokenPlace) (held : List ℕ) → ((t : ℕ) → t < count → is_none (place_of t) ≡ has_number held t) → ArePlaced count held (map told_place (places count place_of))
placed count place_of held right = record {
  numbers = told-numbers place_of (range_with_len 0 count);
  clients = told-clients count place_of held (range_with_len 0 count) (all-below count) right;
}

pub sends-placed : (p : PortState) (c : ClientState) → IsEachOnce p.sends (c.sends ++ sends_out p) → ArePlaced p.sends c.sends (map told_place (places p.sends (place_of_send p)))
sends-placed p c once = placed p.sends (place_of_send p) c.sends (λ t low. placed-right p.sends t Queue c.sends (map (λ s. s.token) p.queue) (sent_tokens p.events) once low)

pub recvs-placed : (p : PortState) (c : ClientState) → IsEachOnce p.recvs (c.recvs ++ recvs_out p) → ArePlaced p.recvs c.recvs (map told_place (places p.recvs (place_of_recv p)))
recvs-placed p c once = placed p.recvs (place_of_recv p) c.recvs (λ t low. placed-right p.recvs t WithBuffer c.recvs (map (λ r. r.token) p.provided) (received_tokens p.events) once low)
