-- When a client's call may be made, and what its answer says.
use Rattle.std.proofs.Common.{◌≡◌, ◌<◌, ◌≤◌, ◌+◌, ◌++◌, ℕ, true, false, List, [], ◌∷◌, codes, decimal, length, Option, Some, None, sym, ◌∙◌, ap, subst, arith, append_assoc, append-nil}
use Rattle.std.specs.Prelude.{flat_map}
use Rattle.std.specs.Option.{option_map}
use Rattle.std.proofs.lemmas.Bool.Decides.{nat_tests}
use Rattle.std.proofs.lemmas.Grind.{flat_map-append}
use Rattle.std.proofs.lemmas.List.FromFn.{map-range_with_len_more}
use Rattle.fab_text.specs.Written.{spaced}
use Rattle.net_defs.specs.declared.vertex.Vertex.TheVariants.{Host}
use Rattle.net_defs.specs.Network.{Network, has_vertex}
use Rattle.gm_defs.specs.declared.token.TokenPlace.{TokenPlace}
use Rattle.gm_defs.specs.Token.{PortState}
use Rattle.world_defs.specs.declared.event.Event.{Event}
use Rattle.world_defs.specs.declared.effect.Effect.TheVariants.{Said as SaidSo}
use Rattle.world_defs.specs.declared.effect.Said.{Said}
use Rattle.world_defs.specs.declared.effect.Said.TheVariants.{Received}
use Rattle.world_defs.specs.World.{WorldState, fabric_of, host_count}
use Rattle.run_defs.specs.declared.command.Command.{Command}
use Rattle.run_defs.specs.declared.line.ClientCall.{ClientCall}
use Rattle.run_defs.specs.declared.line.PlaceEntry.{PlaceEntry}
use Rattle.line_table.specs.Texts.{host_name}
use Rattle.run_defs.specs.LineRows.{place_text}
use Rattle.run_defs.specs.LineText.{words_in}
use Rattle.run_defs.specs.Outcome.{calling, places, token_lines}
use Rattle.run_defs.specs.Output.{OneLine, lines}
use Rattle.fab_report.specs.Printed.{PrintedState, printed_of}
use Rattle.fab_report.specs.There.{IsSaidOf}
use Rattle.fab_report.proofs.Printing.{line_printed}
use Rattle.fab_report.proofs.Writing.{tokens_written}
use Rattle.host_ports.specs.Held.{place_at}
use Rattle.client_host.specs.Calls.{IsClientCall}
use Rattle.fab_world.specs.Events.{IsHostOf, IsGiven}
use Rattle.fab_world.specs.Held.{IsMoment, IsOfHosts}
use Rattle.fab_world.specs.declared.clients.PortAt.{PortAt}
use Rattle.world_commands.specs.Done.{IsCall}
use Rattle.world_commands.specs.Places.{tokens_line}
use Rattle.world_commands.proofs.Naming.{reached-there}

-- the host of a fabric is one of its world
pub host-there : (w : WorldState) (host : ℕ) → IsMoment w → has_vertex (fabric_of w) (Host host) ≡ true → host < host_count w
host-there w host m there =
    let hosts = m.world.hosts in
    let below : host < length (fabric_of w).hosts = grind (arith, nat_tests) in
    omega (arith, hosts, below)

-- a call is at a host and a port that are there
pub port_given : (w : WorldState) (host port : ℕ) → IsMoment w → has_vertex (fabric_of w) (Host host) ≡ true → port ≤ 7 → IsHostOf w host × (port < 8)
port_given w host port m there low = (host-there w host m there, omega (arith, low))

-- a message is for a host and a port that are there, with a priority
pub message_given : (w : WorldState) (host dest port dport prio : ℕ) → IsMoment w → has_vertex (fabric_of w) (Host host) ≡ true → has_vertex (fabric_of w) (Host dest) ≡ true → port ≤ 7 → dport ≤ 7 → prio ≤ 1
    → IsHostOf w host × IsHostOf w dest × (port < 8) × (dport < 8) × (prio < 2)
message_given w host dest port dport prio m there dest_there low dlow few = (host-there w host m there, host-there w dest m dest_there, omega (arith, low), omega (arith, dlow), omega (arith, few))

-- so it is of the event that the call is
pub event-given : (w : WorldState) (e event : Event) → IsGiven w e → event ≡ e → IsGiven w event
event-given w e event given is = subst (IsGiven w) (sym is) given

pub event-client : (e event : Event) → IsClientCall e → event ≡ e → IsClientCall event
event-client e event call is = subst IsClientCall (sym is) call

pub event-call : (c : Command) (call : ClientCall) (at : PortAt) (e event : Event) → IsCall c call at e → event ≡ e → IsCall c call at event
event-call c call at e event of is = of ∙ ap (calling call at.host at.port) (sym is)

-- the sender of a message that was received is a host of the fabric
pub said_there : (n : Network) (said : Said) → IsOfHosts (length n.hosts) (SaidSo said) → IsSaidOf n said
said_there n (Received t from sport prio body) is = reached-there n from is
said_there n _ is = tt

-- how many tokens of each kind a port has, where it is open
abbrev minted_of : Option PortState → Option (ℕ × ℕ)
minted_of o = option_map (λ p. (p.sends, p.recvs)) o

-- the places of tokens are those of an open port
pub tokens_told : (n : Network) (at : PortAt) (sends recvs : ℕ) (o : Option PortState) (told : PrintedState) → minted_of o ≡ Some (sends, recvs)
    → told ≡ printed_of n (OneLine (tokens_line at sends recvs o) ∷ []) → told ≡ printed_of n (lines (token_lines at.host at.port o))
tokens_told n at sends recvs None told is e = cc
tokens_told n at sends recvs (Some p) told is e =
    let both : ◌≡◌ {A = ℕ × ℕ} (p.sends, p.recvs) (sends, recvs) = cc in
    e
    ∙ ap (λ k. printed_of n (OneLine (tokens_line at k recvs (Some p)) ∷ [])) (ap (λ x. x.0) (sym both))
    ∙ ap (λ k. printed_of n (OneLine (tokens_line at p.sends k (Some p)) ∷ [])) (ap (λ x. x.1) (sym both))

-- a port that isn't open has no tokens
pub closed_told : (n : Network) (at : PortAt) (o : Option PortState) (told : PrintedState) → minted_of o ≡ None
    → told ≡ printed_of n (lines (token_lines at.host at.port None)) → told ≡ printed_of n (lines (token_lines at.host at.port o))
closed_told n at None told is e = e
closed_told n at (Some p) told is e = cc

-- the place of one token more
one_more : (count : ℕ) (place_of : ℕ → Option TokenPlace) → places (count + 1) place_of ≡ places count place_of ++ record { number = count; place = place_of count } ∷ []
one_more count place_of = map-range_with_len_more (λ t. record { number = t; place = place_of t }) 0 count count (omega arith)

-- no place was printed yet, and one more is
pub places_none : (p : PrintedState) → p ≡ record { text = p.text ++ []; figures = p.figures }
places_none p = ap (λ (t : List ℕ). record { text = t; figures = p.figures }) (sym (append-nil p.text))

pub places_more : (count : ℕ) (place_of : ℕ → Option TokenPlace) (place : Option TokenPlace) (first before after : PrintedState) → place ≡ place_of count
    → before ≡ record { text = first.text ++ flat_map (λ p. 32 ∷ place_text p) (places count place_of); figures = first.figures }
    → after ≡ record { text = before.text ++ 32 ∷ place_text (record { number = count; place = place }); figures = before.figures }
    → after ≡ record { text = first.text ++ flat_map (λ p. 32 ∷ place_text p) (places (count + 1) place_of); figures = first.figures }
places_more count place_of place first before after there so one =
    let entry : PlaceEntry = record { number = count; place = place_of count } in
    let marked : PlaceEntry → List ℕ = λ p. 32 ∷ place_text p in
    one
    ∙ ap (λ (q : PrintedState). record { text = q.text ++ 32 ∷ place_text (record { number = count; place = place }); figures = q.figures }) so
    ∙ ap (λ (o : Option TokenPlace). record { text = (first.text ++ flat_map marked (places count place_of)) ++ 32 ∷ place_text (record { number = count; place = o }); figures = first.figures }) there
    ∙ ap (λ (t : List ℕ). record { text = t; figures = first.figures })
    (append_assoc first.text (flat_map marked (places count place_of)) (marked entry)
    ∙ ap (λ (t : List ℕ). first.text ++ t)
    (ap (λ (t : List ℕ). flat_map marked (places count place_of) ++ t) (sym (append-nil (marked entry)))
    ∙ sym (flat_map-append marked (places count place_of) (entry ∷ [])) ∙ ap (flat_map marked) (sym (one_more count place_of))))

-- the line of a port's tokens, part by part
pub places_line : (n : Network) (at : PortAt) (sends recvs : ℕ) (o : Option PortState) (a b c d e : PrintedState)
    → a ≡ record { text = spaced (codes "tokens" ∷ host_name n at.host ∷ decimal at.port ∷ codes "send" ∷ []); figures = [] }
    → b ≡ record { text = a.text ++ flat_map (λ p. 32 ∷ place_text p) (places sends (place_at o true)); figures = a.figures }
    → c ≡ record { text = b.text ++ codes " recv"; figures = b.figures }
    → d ≡ record { text = c.text ++ flat_map (λ p. 32 ∷ place_text p) (places recvs (place_at o false)); figures = c.figures }
    → e ≡ record { text = d.text ++ 10 ∷ []; figures = d.figures } → e ≡ printed_of n (OneLine (tokens_line at sends recvs o) ∷ [])
places_line n at sends recvs o a b c d e begun sent between received ended =
    let xs = places sends (place_at o true) in
    let ys = places recvs (place_at o false) in
    let text : d.text ≡ spaced (words_in n (tokens_line at sends recvs o)) =
    tokens_written n at.host at.port xs ys (ap (λ (p : PrintedState). p.text) begun) (ap (λ (p : PrintedState). p.text) sent) (ap (λ (p : PrintedState). p.text) between) (ap (λ (p : PrintedState). p.text) received) in
    let figures : d.figures ≡ [] =
    ap (λ (p : PrintedState). p.figures) received ∙ ap (λ (p : PrintedState). p.figures) between ∙ ap (λ (p : PrintedState). p.figures) sent ∙ ap (λ (p : PrintedState). p.figures) begun in
    ended ∙ line_printed n (tokens_line at sends recvs o) (d.text ++ 10 ∷ []) d.figures (ap (λ (t : List ℕ). t ++ 10 ∷ []) text) figures
