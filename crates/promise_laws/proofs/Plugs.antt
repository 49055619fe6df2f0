-- A plug joins two ports unless it is refused, and its line says why.
use Rattle.std.proofs.Common.{◌≡◌, Bool, true, false, not, ◌&&◌, nat_lt, List, [], ◌∷◌, ◌++◌, length, Option, Some, None, is_some, is_none, refl, sym, ap, ◌∙◌, subst, arith, true≢false, if◌then◌else◌}
use Rattle.std.proofs.lemmas.Bool.Decides.{nat_tests}
use Rattle.std.proofs.lemmas.Option.{same_Some}
use Rattle.net_defs.specs.declared.vertex.End.{End}
use Rattle.net_defs.specs.declared.fault.GraphFault.{GraphFault}
use Rattle.net_defs.specs.declared.fault.GraphFault.TheVariants.{NoVertex, PortRange, PortUsed as Used}
use Rattle.net_defs.specs.Network.{Network, has_vertex, has_port}
use Rattle.net_defs.specs.Building.{is_used, cable_refusal}
use Rattle.world_defs.specs.History.{cable_limit, with_plugged}
use Rattle.world_defs.specs.Links.{LinkState}
use Rattle.journal_defs.proofs.Distance.{port-vertex}
use Rattle.world_defs.specs.declared.event.Event.TheVariants.{Plug as PlugEvent}
use Rattle.world_defs.specs.declared.effect.Effect.TheVariants.{Said as Says}
use Rattle.world_defs.specs.declared.effect.Said.TheVariants.{Done}
use Rattle.world_defs.specs.World.{WorldState, fabric_of}
use Rattle.world_defs.specs.Step.{step, of_links, plugged}
use Rattle.run_defs.specs.declared.line.PlugWords.{PlugWords}
use Rattle.run_defs.specs.declared.line.PlugWords.TheVariants.{Done as Joined, PortUsed, Full}
use Rattle.run_defs.specs.declared.command.Command.TheVariants.{Plug}
use Rattle.run_defs.specs.declared.line.Line.TheVariants.{Plug as PlugLine}
use Rattle.run_defs.specs.Outcome.{Outcome, words_of_plug, happening, seen}
use Rattle.run_defs.specs.Output.{Piece}
use Rattle.run_defs.specs.Session.{SessionState}
use Rattle.run_defs.proofs.Doing.{Doing, doing}
use Rattle.run_defs.proofs.Doing.Doing.{determined}
use Rattle.promise_laws.specs.CableLines.{IsPlugged, IsPlugTold, PlugLineIsTrue}

-- two ports that are there may only be used
refusal-used : (n : Network) (a b : End) → has_port n a ≡ true → has_port n b ≡ true → cable_refusal n a b ≡ (if is_used n a b then Some Used else None)
refusal-used n a b at_a at_b = by (has_vertex n a.v) (has_vertex n b.v) (has_port n a) (has_port n b) (port-vertex n a.v a.p at_a) (port-vertex n b.v b.p at_b) at_a at_b
  where
    last : Option GraphFault
    last = if is_used n a b then Some Used else None

    by : (u v p q : Bool) → u ≡ true → v ≡ true → p ≡ true → q ≡ true → (if not u then Some NoVertex else if not v then Some NoVertex else if not p then Some PortRange else if not q then Some PortRange else last) ≡ last
    by true true true true e f g h = refl
    by true true true false e f g h = absurd (true≢false (sym h))
    by true true false q e f g h = absurd (true≢false (sym g))
    by true false p q e f g h = absurd (true≢false (sym f))
    by false v p q e f g h = absurd (true≢false (sym e))

-- what a plug says, and what it does, by what the fabric says and whether a number is left
abbrev words_by : Option GraphFault → Bool → PlugWords
words_by o left = if is_some o then PortUsed else if left then Joined else Full

abbrev joined_links : WorldState → End → End → LinkState
joined_links w a b = record w.links { cables = with_plugged w.links.cables a b; channels = w.links.channels ++ None ∷ None ∷ [] }

abbrev joined_by : WorldState → End → End → Option GraphFault → Bool → WorldState
joined_by w a b o left = (of_links w (Says Done) (if is_none o && left then (true, joined_links w a b) else (false, w.links))).1

plugged-so : (w : WorldState) (a b : End) (used left : Bool) → is_used (fabric_of w) a b ≡ used → nat_lt (length w.links.cables.wires) cable_limit ≡ left
    → IsPlugged w (joined_by w a b (if used then Some Used else None) left) a b (words_by (if used then Some Used else None) left)
plugged-so w a b true left e f = record {
  used = (λ p. e, λ p. refl);
  full = (λ p. cc, λ p. absurd (true≢false (sym e ∙ p.0)));
  joined = λ p. cc;
  stays = λ other. refl;
}
plugged-so w a b false true e f = record {
  used = (λ p. cc, λ p. absurd (true≢false (sym p ∙ e)));
  full = (λ p. cc, λ p. let most = p.1 in absurd (true≢false (sym f ∙ grind (arith, nat_tests))));
  joined = λ p. refl;
  stays = λ other. absurd (other refl);
}
plugged-so w a b false false e f = record {
  used = (λ p. cc, λ p. absurd (true≢false (sym p ∙ e)));
  full = (λ p. (e, grind (arith, nat_tests)), λ p. refl);
  joined = λ p. cc;
  stays = λ other. refl;
}

plug-event : (w : WorldState) (a b : End) → has_port (fabric_of w) a ≡ true → has_port (fabric_of w) b ≡ true → IsPlugged w (step w (PlugEvent a b)).1 a b (words_of_plug w a b)
unfolding plugged
plug-event w a b at_a at_b =
    let left : Bool = nat_lt (length w.links.cables.wires) cable_limit in
    subst (λ o. IsPlugged w (joined_by w a b o left) a b (words_by o left)) (sym (refusal-used (fabric_of w) a b at_a at_b))
    (plugged-so w a b (is_used (fabric_of w) a b) left refl refl)

plug-so : (s next : SessionState) (a b : End) (out : List Piece) → has_port (fabric_of s.world) a ≡ true → has_port (fabric_of s.world) b ≡ true → Doing s (Plug a b) out next → IsPlugTold s next a b out
plug-so s next a b out at_a at_b (determined e) =
    let words : PlugWords = words_of_plug s.world a b in
    let o : Outcome = seen s (happening (PlugEvent a b ∷ []) (PlugLine a b words ∷ [])) in
    let same : o ≡ record { output = out; after = next } = same_Some o (record { output = out; after = next }) e in (
      words,
      sym (ap (λ (x : Outcome). x.output) same),
      subst (λ (x : Outcome). IsPlugged s.world x.after.world a b words) same (plug-event s.world a b at_a at_b),
    )

pub plug_line-true : PlugLineIsTrue
plug_line-true s next a b out at_a at_b d = plug-so s next a b out at_a at_b (doing d)
