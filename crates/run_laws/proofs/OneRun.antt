-- Every map that a run of one mapping prints under complete is right.
use Rattle.std.proofs.Common.{◌≡◌, ◌≤◌, ℕ, List, [], ◌∷◌, ◌++◌, Option, Some, None, refl, sym, ap, ◌∙◌, subst}
use Rattle.std.specs.Prelude.{◌-◌, length}
use Rattle.net_defs.specs.Examples.{two_hosts}
use Rattle.journal_defs.specs.declared.entry.Entry.{Entry}
use Rattle.map_defs.specs.NetMap.{NetMap}
use Rattle.map_defs.specs.Sameness.{IsMapOfPart}
use Rattle.map_laws.proofs.TwoHosts as law
use Rattle.world_defs.specs.World.{WorldState, new_world}
use Rattle.run_defs.specs.declared.command.Command.TheVariants.{Map, Finish}
use Rattle.run_defs.specs.declared.line.Line.TheVariants.{Map as MapLine, Finish as FinishLine}
use Rattle.run_defs.specs.declared.line.MapWords.{MapWords}
use Rattle.run_defs.specs.declared.line.MapWords.TheVariants.{Complete}
use Rattle.run_defs.specs.Output.{Piece, OneLine, MapLines}
use Rattle.run_defs.specs.Session.{SessionState, new_session}
use Rattle.run_defs.specs.Outcome.{Outcome, outcome}
use Rattle.run_defs.specs.Mapped.{IsMapped}
use Rattle.run_defs.specs.Run.{Runs, map_pieces}
use Rattle.run_defs.proofs.Doing.{Doing, doing}
use Rattle.run_defs.proofs.Doing.Doing.{determined, maps}
use Rattle.run_defs.specs.Run.Runs.{ended, goes_on}
use Rattle.run_defs.specs.Headline.{HasPrinted, WasTrue}
use Rattle.run_defs.specs.Examples.{setup_map}
use Rattle.run_laws.specs.TwoHosts.{MapsAreRight}
use Rattle.run_laws.proofs.OneMapping.{mapping_is_complete}

-- what a command does that maps
record IsMapStep (s : SessionState) (host depth tries : ℕ) (out : List Piece) : Type 0 where
  after : WorldState
  j : List Entry
  m : NetMap
  words : MapWords
  is : IsMapped host depth tries s.world after j m words
  printed : out ≡ OneLine (MapLine host words (length j) (after.injected - s.world.injected)) ∷ map_pieces words m

not-both : (o : Option Outcome) (x : Outcome) → o ≡ None → o ≡ Some x → ⊥
not-both o x e f = cc

map-so : {s next : SessionState} {out : List Piece} {host depth tries : ℕ} → Doing s (Map host depth tries) out next → outcome s (Map host depth tries) ≡ None → IsMapStep s host depth tries out
map-so {s = s} {next = next} {out = out} (determined e) none = absurd (not-both _ (record { output = out; after = next }) none e)
map-so (maps after j m words e is printed left) none = record { after = after; j = j; m = m; words = words; is = is; printed = printed }

-- the end prints one line, and nothing follows it
same-output : (x y : Outcome) → Some x ≡ Some y → x.output ≡ y.output
same-output x y e = let one : x ≡ y = cc in ap (λ (z : Outcome). z.output) one

end-so : {s next : SessionState} {out : List Piece} → Doing s Finish out next → out ≡ OneLine (FinishLine s.world.injected s.world.dropped) ∷ []
end-so (determined e) = sym (same-output _ _ e)

nothing-runs : {s last : SessionState} {out : List Piece} → Runs s [] out last → out ≡ []
nothing-runs ended = refl

end-runs : {s last : SessionState} {out : List Piece} → Runs s (Finish ∷ []) out last → (injected : ℕ) × (dropped : ℕ) × (out ≡ OneLine (FinishLine injected dropped) ∷ [])
end-runs {s = s} (goes_on {out = line} {rest = rest} d r e) =
    (s.world.injected, s.world.dropped, e ∙ ap (λ l. l ++ rest) (end-so (doing d)) ∙ ap (λ l. OneLine (FinishLine s.world.injected s.world.dropped) ∷ l) (nothing-runs r))

-- a map among three pieces is the one map
heads : (x y : Piece) (xs ys : List Piece) → x ∷ xs ≡ y ∷ ys → x ≡ y
heads x y xs ys e = cc

tails : (x y : Piece) (xs ys : List Piece) → x ∷ xs ≡ y ∷ ys → xs ≡ ys
tails x y xs ys e = cc

mapper-in : (k l asks packets more fewer : ℕ) → OneLine (MapLine k Complete asks packets) ≡ OneLine (MapLine l Complete more fewer) → k ≡ l
mapper-in k l asks packets more fewer e = cc

map-in : (m k : NetMap) → MapLines m ≡ MapLines k → m ≡ k
map-in m k e = cc

one-printed : (asks packets injected dropped : ℕ) (made : NetMap) (mapper : ℕ) (m : NetMap) (more fewer : ℕ) (before behind : List Piece)
    → OneLine (MapLine 0 Complete asks packets) ∷ MapLines made ∷ OneLine (FinishLine injected dropped) ∷ [] ≡ before ++ OneLine (MapLine mapper Complete more fewer) ∷ MapLines m ∷ behind
    → (before ≡ []) × (0 ≡ mapper) × (made ≡ m)
one-printed asks packets injected dropped made mapper m more fewer [] behind e =
    let rest = tails _ _ _ _ e in
    (refl, mapper-in 0 mapper asks packets more fewer (heads _ _ _ _ e), map-in made m (heads _ _ _ _ rest))
one-printed asks packets injected dropped made mapper m more fewer (x ∷ []) behind e = let wrong : MapLines made ≡ OneLine (MapLine mapper Complete more fewer) = heads _ _ _ _ (tails _ _ _ _ e) in cc
one-printed asks packets injected dropped made mapper m more fewer (x ∷ y ∷ []) behind e =
    let wrong : OneLine (FinishLine injected dropped) ≡ OneLine (MapLine mapper Complete more fewer) = heads _ _ _ _ (tails _ _ _ _ (tails _ _ _ _ e)) in cc
one-printed asks packets injected dropped made mapper m more fewer (x ∷ y ∷ z ∷ before) behind e = absurd (nothing before (tails _ _ _ _ (tails _ _ _ _ (tails _ _ _ _ e))))
  where
    nothing : (ps : List Piece) → [] ≡ ps ++ OneLine (MapLine mapper Complete more fewer) ∷ MapLines m ∷ behind → ⊥
    nothing [] d = cc
    nothing (p ∷ ps) d = cc

right : IsMapOfPart two_hosts 0 setup_map
right = law.right

run-right : (depth : ℕ) (out : List Piece) (last : SessionState) (mapper : ℕ) (m : NetMap) → 2 ≤ depth → Runs (new_session two_hosts) (Map 0 depth 1 ∷ Finish ∷ []) out last → (p : HasPrinted out mapper m)
    → WasTrue two_hosts (Map 0 depth 1 ∷ Finish ∷ []) p.before mapper m
run-right depth out last mapper m deep (goes_on {next = next} {out = piece} {rest = rest} d r e) p =
    let s = map-so (doing d) refl in
    let four = mapping_is_complete depth s.after s.j s.m s.words deep s.is in
    let end = end-runs r in
    let asks : ℕ = length s.j in
    let packets : ℕ = s.after.injected - (new_world two_hosts).injected in
    let words : OneLine (MapLine 0 s.words asks packets) ∷ map_pieces s.words s.m ≡ OneLine (MapLine 0 Complete asks packets) ∷ MapLines s.m ∷ [] = ap (λ w. OneLine (MapLine 0 w asks packets) ∷ map_pieces w s.m) four.3 in
    let whole : out ≡ OneLine (MapLine 0 Complete asks packets) ∷ MapLines s.m ∷ OneLine (FinishLine end.0 end.1) ∷ [] =
    e ∙ ap (λ l. l ++ rest) (s.printed ∙ words) ∙ ap (λ l. OneLine (MapLine 0 Complete asks packets) ∷ MapLines s.m ∷ l) end.2 in
    let found = one-printed asks packets end.0 end.1 s.m mapper m p.asks p.packets p.before p.behind (sym whole ∙ p.there) in
    let start : SessionState = new_session two_hosts in
    record {
      depth = depth;
      tries = 1;
      done = record { front = []; rest = Finish ∷ []; split = ap (λ h. Map h depth 1 ∷ Finish ∷ []) found.1; session = start; ran = subst (λ ps. Runs start [] ps start) (sym found.0) ended };
      right = subst (λ h. IsMapOfPart two_hosts h m) found.1 (subst (λ k. IsMapOfPart two_hosts 0 k) (sym four.2 ∙ found.2) right);
    }

pub maps_are_right : MapsAreRight
maps_are_right depth deep fabric fair out last mapper m r p = run-right depth out last mapper m deep r p
