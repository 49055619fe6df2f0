-- The line of a route, as its kind has it.
use Rattle.std.proofs.Common.{◌≡◌, ℕ, List, [], ◌∷◌, Bool, true, false, map, length, nat_lt, nat_le, Option, Some, None, option_map, refl, ap, sym, subst, ◌∙◌, arith, if◌then◌else◌}
use Rattle.std.specs.Prelude.{ℤ, codes, option_and_then}
use Rattle.std.specs.List.{list_all}
use Rattle.std.proofs.lemmas.Bool.Decides.{nat_tests}
use Rattle.net_defs.specs.Network.{Network}
use Rattle.net_defs.specs.Turn.{is_turn, walk_refusal}
use Rattle.net_defs.specs.declared.walk.WalkFault.TheVariants.{TooLong, TurnRange}
use Rattle.line_table.specs.declared.kind.LineKind.TheVariants.{Route}
use Rattle.line_table.specs.Form.{LineValue, Turn, TurnBy, HostAt}
use Rattle.line_table.specs.Matching.{onto, all_said}
use Rattle.line_table.specs.Said.{turn_said, host_said}
use Rattle.report_lines.specs.declared.line.ReportLine.{ReportLine}
use Rattle.report_lines.specs.Lines.{said_as, first_said}
use Rattle.report_lines.specs.Meaning.{turns_in, route_unless}
use Rattle.report_lines.specs.Reading.{turns_said, route_of, route_said}

-- turns are read again from their values
pub turns-told : (ts : List ℤ) → turns_in (map TurnBy ts) ≡ Some ts
turns-told [] = refl
turns-told (t ∷ ts) = ap (option_map (λ us. t ∷ us)) (turns-told ts)

-- words that are turns
one-turned : (o : Option ℤ) (ts : Option (List ℤ)) (m : Option (List LineValue)) → m ≡ option_map (map TurnBy) ts
    → onto (option_map TurnBy o) m ≡ option_map (map TurnBy) (option_and_then (λ t. option_and_then (λ us. Some (t ∷ us)) ts) o)
one-turned None ts m e = refl
one-turned (Some t) None m e = ap (option_map (λ xs. TurnBy t ∷ xs)) e
one-turned (Some t) (Some us) m e = ap (option_map (λ xs. TurnBy t ∷ xs)) e

all-turned : (n : Network) (ws : List (List ℕ)) → all_said n Turn ws ≡ option_map (map TurnBy) (turns_said ws)
all-turned n [] = refl
all-turned n (w ∷ ws) = one-turned (turn_said w) (turns_said ws) (all_said n Turn ws) (all-turned n ws)

-- as many as the words
as-long : (ws : List (List ℕ)) (ts : List ℤ) → turns_said ws ≡ Some ts → length ts ≡ length ws
as-long [] ts e = let same : [] ≡ ts = cc in ap length (sym same)
as-long (w ∷ ws) ts e = by (turn_said w) (turns_said ws) (as-long ws) e
  where
    by : (o : Option ℤ) (us : Option (List ℤ)) → ((vs : List ℤ) → us ≡ Some vs → length vs ≡ length ws)
        → option_and_then (λ t. option_and_then (λ vs. Some (t ∷ vs)) us) o ≡ Some ts → length ts ≡ length (w ∷ ws)
    by None us rest e = cc
    by (Some t) None rest e = cc
    by (Some t) (Some vs) rest e =
        let same : t ∷ vs ≡ ts = cc in
        let few = rest vs refl in
        subst (λ l. length l ≡ length (w ∷ ws)) same (omega (arith, few))

-- a walk of more turns is refused
too-long : (ts : List ℤ) → nat_le (length ts) 64 ≡ false → walk_refusal ts ≡ Some TooLong
too-long ts e =
    let long : nat_lt 64 (length ts) ≡ true = grind (arith, nat_tests) in
    λ i. if long i then Some TooLong else if list_all is_turn ts then None else Some TurnRange

-- the hosts of a route were read
abbrev of_hosts : ℕ → ℕ → Option (List LineValue) → Option ReportLine
of_hosts i j m = said_as None Route (option_map (λ xs. HostAt i ∷ xs) (option_map (λ xs. HostAt j ∷ xs) m)) None

by-turns : (i j : ℕ) (ws : List (List ℕ)) (o : Option (List ℤ)) (few : Bool) → turns_said ws ≡ o → nat_le (length ws) 64 ≡ few
    → (if few then route_of (Some i) (Some j) o else None) ≡ of_hosts i j (option_map (map TurnBy) o)
by-turns i j ws None true e f = refl
by-turns i j ws None false e f = refl
by-turns i j ws (Some ts) true e f = ap (option_and_then (λ walk. route_unless (walk_refusal walk) i j walk)) (sym (turns-told ts))
by-turns i j ws (Some ts) false e f =
    let long : nat_le (length ts) 64 ≡ false = ap (λ k. nat_le k 64) (as-long ws ts e) ∙ f in
    ap (λ o. route_unless o i j ts) (sym (too-long ts long))
    ∙ ap (option_and_then (λ walk. route_unless (walk_refusal walk) i j walk)) (sym (turns-told ts))

abbrev no_line : Option ReportLine
no_line = None

unless : (few : Bool) → (if few then None else None) ≡ no_line
unless true = refl
unless false = refl

by-hosts : (n : Network) (ws : List (List ℕ)) (a b : Option ℕ)
    → (if nat_le (length ws) 64 then route_of a b (turns_said ws) else None)
    ≡ said_as None Route (onto (option_map HostAt a) (onto (option_map HostAt b) (all_said n Turn ws))) None
by-hosts n ws None b = unless (nat_le (length ws) 64)
by-hosts n ws (Some i) None = unless (nat_le (length ws) 64)
by-hosts n ws (Some i) (Some j) =
    by-turns i j ws (turns_said ws) (nat_le (length ws) 64) refl refl ∙ ap (of_hosts i j) (sym (all-turned n ws))

one-host : (a : Option ℕ) → None ≡ said_as None Route (onto (option_map HostAt a) None) None
one-host None = refl
one-host (Some i) = refl

pub route_told : (n : Network) (ws : List (List ℕ)) → route_said n ws ≡ first_said n (Route ∷ []) (codes "route" ∷ ws)
route_told n [] = refl
route_told n (a ∷ []) = one-host (host_said n a)
route_told n (a ∷ b ∷ ws) = by-hosts n ws (host_said n a) (host_said n b)
