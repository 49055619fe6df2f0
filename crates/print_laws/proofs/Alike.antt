-- Over two fabrics that stand alike each walk ends at one place, so what is true of one is true of the other.
use Rattle.std.proofs.Common.{◌≡◌, ℕ, List, [], ◌∷◌, Option, Some, None, option_map, refl, ap, ◌∙◌}
use Rattle.std.specs.Prelude.{ℤ, slice_get, option_and_then}
use Rattle.std.specs.Option.{option_map_or}
use Rattle.net_defs.specs.declared.vertex.Vertex.{Vertex}
use Rattle.net_defs.specs.declared.vertex.Vertex.TheVariants.{Host, Switch}
use Rattle.net_defs.specs.declared.vertex.End.{End}
use Rattle.net_defs.specs.Network.{Network, NamedSwitch, far}
use Rattle.net_defs.specs.Route.{leaving_port, exit_at, turned, entered_after, place_at, answer_at, answer, host_port}
use Rattle.journal_defs.specs.declared.entry.Entry.{Entry}
use Rattle.journal_defs.specs.Truth.{IsTrueJournal}
use Rattle.print_laws.specs.Alike.{StandAlike}

-- the end that a turn leaves a switch of so many ports by
abbrev exit_of : ℕ → ℕ → ℤ → ℕ → Option End
exit_of s entry turn ports = option_map (λ p. record { v = Switch s; p = p }) (leaving_port ports entry turn)

-- how many ports a switch has
abbrev ports_in : ℕ → List NamedSwitch → ℕ
ports_in s switches = option_map_or (λ w. w.ports) (slice_get switches s) 0

exit-alike : (n k : Network) → StandAlike n k → (v : Vertex) (entry : ℕ) (turn : ℤ) → exit_at n v entry turn ≡ exit_at k v entry turn
exit-alike n k a (Host h) entry turn = refl
exit-alike n k a (Switch s) entry turn = ap (exit_of s entry turn) (ap (ports_in s) a.switches)

across-alike : (n k : Network) → StandAlike n k → (o : Option End) → option_and_then (far n) o ≡ option_and_then (far k) o
across-alike n k a None = refl
across-alike n k a (Some e) = a.cables e

turned-alike : (n k : Network) → StandAlike n k → (o : Option End) (turn : ℤ) → turned n o turn ≡ turned k o turn
turned-alike n k a None turn = refl
turned-alike n k a (Some e) turn = across-alike n k a (exit_at n e.v e.p turn) ∙ ap (option_and_then (far k)) (exit-alike n k a e.v e.p turn)

entered-alike : (n k : Network) → StandAlike n k → (o : Option End) (turns : List ℤ) → entered_after n o turns ≡ entered_after k o turns
entered-alike n k a o [] = refl
entered-alike n k a o (turn ∷ turns) = entered-alike n k a (turned n o turn) turns ∙ ap (λ (e : Option End). entered_after k e turns) (turned-alike n k a o turn)

answer-alike : (n k : Network) → StandAlike n k → (host : ℕ) (walk : List ℤ) → answer n host walk ≡ answer k host walk
answer-alike n k a host walk =
    ap (λ (e : Option End). answer_at (place_at e))
    (entered-alike n k a (far n (host_port host)) walk ∙ ap (λ (e : Option End). entered_after k e walk) (a.cables (host_port host)))

pub true-alike : (n k : Network) → StandAlike n k → (host : ℕ) (j : List Entry) → IsTrueJournal n host j → IsTrueJournal k host j
true-alike n k a host [] t = t
true-alike n k a host (e ∷ es) t = (t.0 ∙ answer-alike n k a host e.walk, true-alike n k a host es t.1)
