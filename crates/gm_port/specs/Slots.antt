-- The slots of a port's unfinished sends: the keys that a slab gave them, by ticket, and what is held under the keys.
use Rattle.std.specs.Prelude.{◌≡◌, ℕ, ◌≤◌, List, [], ◌∷◌, length, map, Option, Some, None, is_some, slice_index_or}
use Rattle.std.specs.Prelude.{refl}
use Rattle.std.specs.List.{count_by}
use Rattle.slab.specs.Slab.{Slab, get, slab_len}
use Rattle.gm_tokens.specs.Token.{Token}
use Rattle.gm_port.specs.Table.{Place}

-- the place under a key
abbrev pub place_under : List Place → Option ℕ → Place
place_under held None = None
place_under held (Some key) = slice_index_or held key None

-- the places by ticket
abbrev pub by_ticket : List (Option ℕ) → List Place → List Place
by_ticket keys held = map (place_under held) keys

-- ticket 0 has key 1 and ticket 2 has key 0, as the head of `src/slots.rt` draws it
places_of_two : (a b : Token × List ℕ)
    → by_ticket (Some 1 ∷ None ∷ Some 0 ∷ []) (Some a ∷ Some b ∷ None ∷ []) ≡ Some b ∷ None ∷ Some a ∷ []
places_of_two a b = refl

-- A ticket has a key exactly where the slot of this key has the ticket, a send is held exactly under the keys of slots,
-- and each ticket finds a slot.
pub record AreSlots (slots : Slab ℕ) (keys : List (Option ℕ)) (held : List Place) : Type 0 where
  pub has_slot : (ticket key : ℕ) → slice_index_or keys ticket None ≡ Some key → get slots key ≡ Some ticket
  pub has_key : (ticket key : ℕ) → get slots key ≡ Some ticket → slice_index_or keys ticket None ≡ Some key
  pub has_send : (key : ℕ) → is_some (slice_index_or held key None) ≡ is_some (get slots key)
  pub count : slab_len slots ≡ count_by is_some keys
  pub places : length held ≡ slots.capacity
  pub room : length keys ≤ slots.capacity
