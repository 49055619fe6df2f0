-- The tokens of a line, as their kind has them.
use Rattle.std.proofs.Common.{◌≡◌, ℕ, List, [], ◌∷◌, Bool, true, false, drop, take, Option, Some, None, option_map, refl, ap, ◌∙◌, if◌then◌else◌}
use Rattle.std.specs.Prelude.{codes, bytes_eq, position, nat_eq, option_and_then}
use Rattle.std.proofs.lemmas.Slice.Eq.{bytes_eq-Decides}
use Rattle.net_defs.specs.Network.{Network}
use Rattle.port_ledgers.specs.declared.lane.PortName.{PortName}
use Rattle.port_ledgers.specs.declared.lane.ToldPlace.{ToldPlace}
use Rattle.line_table.specs.declared.kind.LineKind.TheVariants.{Tokens}
use Rattle.line_table.specs.Form.{LineValue, Word, Number, HostAt, Entry}
use Rattle.line_table.specs.Matching.{is_among, entry_of, entry_cut, onto, all_said}
use Rattle.line_table.specs.Said.{value_said}
use Rattle.line_table.specs.Table.{place}
use Rattle.report_lines.specs.Lines.{said_as}
use Rattle.report_lines.specs.Meaning.{both_in, place_of, places_in, tokens_line}
use Rattle.report_lines.specs.Reading.{before, both_said, place_said, places_of, places_said, told_of}

some-map : {X Y : Type 0} (f : X → Y) (o : Option X) → option_and_then (λ x. Some (f x)) o ≡ option_map f o
some-map f None = refl
some-map f (Some x) = refl

-- an entry, if anything
abbrev IsEntry : Option LineValue → Type 0
IsEntry None = Unit {0}
IsEntry (Some (Entry number at)) = Unit {0}
IsEntry v = ⊥

entry-shape : (places : List (List ℕ)) (w : List ℕ) (i : Option ℕ) → IsEntry (entry_cut places w i)
entry-shape places w None = tt
entry-shape places w (Some i) = by (drop 1 (drop i w)) (value_said (take i w))
  where
    when : (t : Bool) (number : ℕ) (at : List ℕ) → IsEntry (if t then Some (Entry number at) else None)
    when true number at = tt
    when false number at = tt

    by : (at : List ℕ) (number : Option ℕ) → IsEntry (entry_of places at number)
    by at None = tt
    by at (Some number) = when (is_among places at) number at

-- one token more
one-place : (o : Option LineValue) (m : Option (List LineValue)) (s : Option (List ToldPlace)) → s ≡ option_and_then places_in m
    → option_and_then (λ e. option_and_then (λ es. Some (e ∷ es)) s) (told_of o) ≡ option_and_then places_in (onto o m)
one-place None m s e = refl
one-place (Some (Entry number at)) None s e = ap (option_and_then (λ es. Some (place_of number at ∷ es))) e
one-place (Some (Entry number at)) (Some vs) s e =
    ap (option_and_then (λ es. Some (place_of number at ∷ es))) e ∙ some-map (λ es. place_of number at ∷ es) (places_in vs)
one-place (Some v) None s e = refl
one-place (Some v) (Some vs) s e = refl

-- the value of a word
abbrev value : List ℕ → Bool → Option LineValue
value w t = if t then Some (Word w) else entry_cut (places_of place) w (position (nat_eq 61) w)

-- the word that parts the tokens is no token
parted : (w : List ℕ) → bytes_eq w (codes "recv") ≡ true → place_said w ≡ None
parted w e = ap place_said ((bytes_eq-Decides w (codes "recv")).0 e)

places-told : (n : Network) (ws : List (List ℕ)) → places_said ws ≡ option_and_then places_in (all_said n place ws)
places-told n [] = refl
places-told n (w ∷ ws) = by (bytes_eq w (codes "recv")) refl (places-told n ws)
  where
    by : (t : Bool) → bytes_eq w (codes "recv") ≡ t → places_said ws ≡ option_and_then places_in (all_said n place ws)
        → places_said (w ∷ ws) ≡ option_and_then places_in (onto (value w t) (all_said n place ws))
    by true e rest =
        ap (option_and_then (λ x. option_and_then (λ es. Some (x ∷ es)) (places_said ws))) (parted w e)
        ∙ one-place (Some (Word w)) (all_said n place ws) (places_said ws) rest
    by false e rest = one-place (value w false) (all_said n place ws) (places_said ws) rest

one-send : (o : Option LineValue) → IsEntry o → (m : Option (List LineValue)) (s : Option (List ToldPlace × List ToldPlace)) → s ≡ option_and_then both_in m
    → option_and_then (λ e. option_and_then (λ p. Some (e ∷ p.0, p.1)) s) (told_of o) ≡ option_and_then both_in (onto o m)
one-send None is m s e = refl
one-send (Some (Entry number at)) is None s e = ap (option_and_then (λ p. Some (place_of number at ∷ p.0, p.1))) e
one-send (Some (Entry number at)) is (Some vs) s e =
    ap (option_and_then (λ p. Some (place_of number at ∷ p.0, p.1))) e ∙ some-map (λ p. (place_of number at ∷ p.0, p.1)) (both_in vs)
one-send (Some v) is m s e = absurd is

-- the word between the tokens
between : (w : List ℕ) (m : Option (List LineValue)) (s : Option (List ToldPlace)) → s ≡ option_and_then places_in m
    → option_and_then (λ es. Some ([], es)) s ≡ option_and_then both_in (onto (Some (Word w)) m)
between w None s e = ap (option_and_then (λ es. Some ([], es))) e
between w (Some vs) s e = ap (option_and_then (λ es. Some ([], es))) e ∙ some-map (λ es. ([], es)) (places_in vs)

both-told : (n : Network) (ws : List (List ℕ)) → both_said ws ≡ option_and_then both_in (all_said n place ws)
both-told n [] = refl
both-told n (w ∷ ws) = by (bytes_eq w (codes "recv")) (both-told n ws)
  where
    by : (t : Bool) → both_said ws ≡ option_and_then both_in (all_said n place ws)
        → (if t then option_and_then (λ es. Some ([], es)) (places_said ws)
        else option_and_then (λ e. option_and_then (λ p. Some (e ∷ p.0, p.1)) (both_said ws)) (place_said w))
        ≡ option_and_then both_in (onto (value w t) (all_said n place ws))
    by true rest = between w (all_said n place ws) (places_said ws) (places-told n ws)
    by false rest =
        one-send (value w false) (entry-shape (places_of place) w (position (nat_eq 61) w)) (all_said n place ws) (both_said ws) rest

pub tokens_told : (n : Network) (a : PortName) (ws : List (List ℕ))
    → option_map (tokens_line a) (both_said ws) ≡ said_as None Tokens (before (HostAt a.host ∷ Number a.port ∷ []) (all_said n place ws)) None
tokens_told n a ws = ap (option_map (tokens_line a)) (both-told n ws) ∙ by (all_said n place ws)
  where
    by : (m : Option (List LineValue)) → option_map (tokens_line a) (option_and_then both_in m) ≡ said_as None Tokens (before (HostAt a.host ∷ Number a.port ∷ []) m) None
    by None = refl
    by (Some vs) = refl
