-- The table of a port's unfinished sends: a place for each token, by its number.
use Rattle.std.specs.Prelude.{◌≡◌, ℕ, suc, ◌≤◌, Bool, false, List, [], ◌∷◌, length, nat_eq, Option, Some, None, is_some}
use Rattle.std.specs.Prelude.{Vec, vec_capacity, map, option_map}
use Rattle.std.specs.List.{AllByRecursion}
use Rattle.std.specs.declared.alloc.Global.{Global}
use Rattle.gm_defs.specs.Token.{Sending}
use Rattle.gm_tokens.specs.Token.{Token, token_at}

-- a place of the table: a token with its buffer, or none
abbrev pub Place : Type 0
Place = Option (Token × List ℕ)

-- the sends of a table, by rising number
abbrev pub sends_of : List Place → List Sending
sends_of [] = []
sends_of (None ∷ ps) = sends_of ps
sends_of (Some e ∷ ps) = record { token = e.0.number; buffer = e.1 } ∷ sends_of ps

-- from this number on, each place has the token of its number or none
abbrev pub IsTable : ℕ → ℕ → ℕ → List Place → Type 0
IsTable host port k [] = Unit {0}
IsTable host port k (None ∷ ps) = IsTable host port (suc k) ps
IsTable host port k (Some e ∷ ps) = (e.0 ≡ token_at host port k) × IsTable host port (suc k) ps

-- the table's tokens with their buffers, by rising number
abbrev pub held_in : List Place → List (Token × List ℕ)
held_in [] = []
held_in (None ∷ ps) = held_in ps
held_in (Some e ∷ ps) = e ∷ held_in ps

-- each place is free
abbrev pub AreFree : {X : Type 0} → List (Option X) → Type 0
AreFree ps = AllByRecursion (λ p. p ≡ None) ps

-- a place has a token
abbrev pub is_held : Option Place → Bool
is_held None = false
is_held (Some p) = is_some p

-- the buffer of a place's send
abbrev pub buffer_in : Option Place → Option (List ℕ)
buffer_in None = None
buffer_in (Some p) = option_map (λ e. e.1) p

-- the numbers of unfinished sends
abbrev pub sending_numbers : List Sending → List ℕ
sending_numbers ss = map (λ s. s.token) ss

-- a send is of this token
abbrev pub is_of : ℕ → Sending → Bool
is_of token s = nat_eq s.token token

-- The table, and room for all of it in the list in which its sends are handed back.
pub record IsQueue (host port : ℕ) (places : List Place) (listed : Vec (Token × List ℕ) Global) : Type 0 where
  pub table : IsTable host port 0 places
  pub none_listed : listed.items ≡ []
  pub list_room : length places ≤ vec_capacity listed
