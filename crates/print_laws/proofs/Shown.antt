-- A map that a command prints was made; so it stands over the fabric, and complete ones are one.
use Rattle.std.proofs.Common.{◌≡◌, ◌≤◌, ◌-◌, ⊎_elim, inl, inr, ℕ, Bool, true, false, List, [], ◌∷◌, length, Option, Some, None, option_map, refl, sym, ap, subst, ◌∙◌, arith, if◌then◌else◌}
use Rattle.std.specs.Prelude.{ℤ, ◌⊎◌}
use Rattle.std.proofs.lemmas.Bool.{cases_lt}
use Rattle.net_defs.specs.Network.{Network, IsFabric}
use Rattle.world_defs.specs.Links.{is_idle}
use Rattle.journal_defs.specs.declared.entry.Entry.{Entry}
use Rattle.journal_defs.specs.Truth.{IsTrueJournal, IsTrueWhereFound}
use Rattle.journal_defs.specs.Growth.{NextAsk, IsGrowing, IsGrown, IsEndedByDepth, IsEndedAtLimit, IsClosed}
use Rattle.journal_defs.specs.Growth.NextAsk.{first, goes_on, begins}
use Rattle.journal_defs.specs.Growth.IsGrowing.{nothing, more}
use Rattle.map_defs.specs.NetMap.{NetMap}
use Rattle.map_defs.specs.Quotient.{IsQuotient}
use Rattle.map_defs.specs.Core.{core_of}
use Rattle.map_laws.proofs.OneJournal.{grown_journal_is_one}
use Rattle.map_laws.proofs.OneMap.{quotient_is_one}
use Rattle.map_laws.proofs.Alike.{cabled-there}
use Rattle.world_defs.proofs.Now.{now_is_fabric}
use Rattle.world_defs.specs.World.{WorldState, fabric_of}
use Rattle.run_defs.specs.declared.command.Command.{Command}
use Rattle.run_defs.specs.declared.command.Command.TheVariants.{Map}
use Rattle.run_defs.specs.declared.line.Line.TheVariants.{Map as MapLine, MapBusy}
use Rattle.run_defs.specs.declared.line.MapWords.{MapWords}
use Rattle.run_defs.specs.declared.line.MapWords.TheVariants.{Complete, Doubtful, IncompleteDepth, IncompleteNodes}
use Rattle.run_defs.specs.Mapped.{IsMapped, IsMarkedMap, IsCalled}
use Rattle.run_defs.specs.Mapped.IsCalled.{too_many_nodes, too_shallow, doubted, right}
use Rattle.run_defs.specs.Output.{Piece, OneLine, MapLines}
use Rattle.run_defs.specs.Session.{SessionState}
use Rattle.run_defs.specs.Deed.{says}
use Rattle.run_defs.specs.Outcome.{Outcome, seen, outcome}
use Rattle.run_defs.specs.Run.{map_pieces}
use Rattle.run_defs.proofs.Doing.{Doing, doing}
use Rattle.run_defs.proofs.Doing.Doing.{determined, maps, circuits, routes}
use Rattle.mapping_laws.specs.Laws.{CanMap}
use Rattle.mapping_laws.specs.Runs.{IsSessionOf}
use Rattle.mapping_laws.proofs.Made.{found_is_there, undrowned_is_true}
use Rattle.mapping_laws.proofs.Sessions.{can-map-now, run_keeps_world}
use Rattle.print_laws.specs.Standing.{StandsOver}
use Rattle.print_laws.specs.Shown.{IsPrintedAfter, PrintedMapsStand, CompleteMapsAreOne}
use Rattle.print_laws.proofs.Standing.{quotient-stands}
use Rattle.print_laws.proofs.Alike.{true-alike}

-- A map that was made in a session.
pub record IsMade (s next : SessionState) (host depth tries : ℕ) (words : MapWords) (m : NetMap) : Type 0 where
  pub idle : is_idle s.world.links ≡ true
  pub journal : List Entry
  pub mapped : IsMapped host depth tries s.world next.world journal m words
  pub shown : words ≡ IncompleteNodes → ⊥

abbrev map_out : ℕ → MapWords → ℕ → ℕ → NetMap → List Piece
map_out host words asks packets m = OneLine (MapLine host words asks packets) ∷ MapLines m ∷ []

-- the map of what follows the line
pieces-map : (words : MapWords) (k m : NetMap) → map_pieces words k ≡ MapLines m ∷ [] → k ≡ m
pieces-map Complete k m e = cc
pieces-map (Doubtful n) k m e = cc
pieces-map IncompleteDepth k m e = cc
pieces-map IncompleteNodes k m e = cc

-- it isn't called incomplete for its nodes
not-by-nodes : (x words : MapWords) (k m : NetMap) → x ≡ words → map_pieces x k ≡ MapLines m ∷ [] → words ≡ IncompleteNodes → ⊥
not-by-nodes Complete words k m called e is = cc
not-by-nodes (Doubtful n) words k m called e is = cc
not-by-nodes IncompleteDepth words k m called e is = cc
not-by-nodes IncompleteNodes words k m called e is = cc

-- so its journal ended within the limit of nodes
within-limit : (host : ℕ) (j : List Entry) (drowned : ℕ) (words : MapWords) → IsCalled host j drowned words → (words ≡ IncompleteNodes → ⊥) → ¬ IsEndedAtLimit j
within-limit host j drowned words (too_many_nodes l) shown = absurd (shown refl)
within-limit host j drowned words (too_shallow l c) shown = l
within-limit host j drowned words (doubted l c some) shown = l
within-limit host j drowned words (right l c none) shown = l

marked-of : (host depth tries : ℕ) (before after : WorldState) (j : List Entry) (m : NetMap) (words : MapWords) → IsMapped host depth tries before after j m words → (words ≡ IncompleteNodes → ⊥) → IsMarkedMap host j m
marked-of host depth tries before after j m words made shown = made.within (within-limit host j made.drowned words made.called shown)

-- a mapping by equal orders, worlds, maps and words
moved : (h host d depth t tries : ℕ) (before after v : WorldState) (j : List Entry) (k m : NetMap) (x words : MapWords) → h ≡ host → d ≡ depth → t ≡ tries → after ≡ v → k ≡ m → x ≡ words
    → IsMapped h d t before after j k x → IsMapped host depth tries before v j m words
moved h host d depth t tries before after v j k m x words at deep tried world one called made =
    subst (λ w. IsMapped host depth tries before w j m words) world
    (subst (λ y. IsMapped host depth tries before after j m y) called
    (subst (λ y. IsMapped host depth tries before after j y x) one
    (subst (λ y. IsMapped host depth y before after j k x) tried
    (subst (λ y. IsMapped host y t before after j k x) deep
    (subst (λ y. IsMapped y d t before after j k x) at made)))))

abbrev rest_of : List Piece → List Piece
rest_of [] = []
rest_of (p ∷ ps) = ps

-- what a determined command prints
abbrev printed_by : Option Outcome → List Piece
printed_by None = []
printed_by (Some o) = o.output

-- a map that was made, of what its command printed and left
maps-made : (s next : SessionState) (h host d depth t tries : ℕ) (words : MapWords) (asks packets : ℕ) (m : NetMap) (after : WorldState) (j : List Entry) (k : NetMap) (x : MapWords) → Map h d t ≡ Map host depth tries
    → is_idle s.world.links ≡ true → IsMapped h d t s.world after j k x → OneLine (MapLine h x (length j) (after.injected - s.world.injected)) ∷ map_pieces x k ≡ map_out host words asks packets m → next.world ≡ after
    → IsMade s next host depth tries words m
maps-made s next h host d depth t tries words asks packets m after j k x is idle made both world =
    let at : h ≡ host = cc in
    let deep : d ≡ depth = cc in
    let tried : t ≡ tries = cc in
    let called : x ≡ words = cc in
    let one : k ≡ m = pieces-map x k m (ap rest_of both) in
    record {
      idle = idle;
      journal = j;
      mapped = moved h host d depth t tries s.world after next.world j k m x words at deep tried (sym world) one called made;
      shown = not-by-nodes x words k m called (ap rest_of both);
    }

-- a map that is refused prints none
refused-none : (s next : SessionState) (out : List Piece) (host depth tries : ℕ) (words : MapWords) (asks packets : ℕ) (m : NetMap) → out ≡ map_out host words asks packets m → outcome s (Map host depth tries) ≡ Some (record { output = out; after = next }) → ⊥
refused-none s next out host depth tries words asks packets m says_so e = by (is_idle s.world.links) refl
  where
    got : Outcome
    got = record { output = out; after = next }

    by : (idle : Bool) → is_idle s.world.links ≡ idle → ⊥
    by true i =
        let none : outcome s (Map host depth tries) ≡ None = ap (λ b. option_map (seen s) (if b then None else Some (says (MapBusy host ∷ [])))) i in
        let bad : None ≡ Some got = sym none ∙ e in
        cc
    by false i =
        let busy : outcome s (Map host depth tries) ≡ Some (seen s (says (MapBusy host ∷ []))) = ap (λ b. option_map (seen s) (if b then None else Some (says (MapBusy host ∷ [])))) i in
        let bad : OneLine (MapBusy host) ∷ [] ≡ map_out host words asks packets m = ap printed_by (sym busy ∙ e) ∙ says_so in
        cc

made-by : {s next : SessionState} {c : Command} {out : List Piece} → (host depth tries : ℕ) (words : MapWords) (asks packets : ℕ) (m : NetMap) → c ≡ Map host depth tries → out ≡ map_out host words asks packets m → Doing s c out next → IsMade s next host depth tries words m
made-by {s = s} {next = next} {c = c} {out = out} host depth tries words asks packets m is says_so (determined e) =
    absurd (refused-none s next out host depth tries words asks packets m says_so (subst (λ (x : Command). outcome s x ≡ Some (record { output = out; after = next })) is e))
made-by {s = s} {next = next} host depth tries words asks packets m is says_so (maps {host = h} {depth = d} {tries = t} after j k x idle made printed left) =
    maps-made s next h host d depth t tries words asks packets m after j k x is idle made (sym printed ∙ says_so) (ap (λ (t : SessionState). t.world) left)
made-by host depth tries words asks packets m is says_so (circuits told left) = let bad : ⊥ = cc in absurd bad
made-by host depth tries words asks packets m is says_so (routes l found complete are printed left) = let bad : ⊥ = cc in absurd bad

made-so : {s next : SessionState} {out : List Piece} → (host depth tries : ℕ) (words : MapWords) (asks packets : ℕ) (m : NetMap) → out ≡ map_out host words asks packets m → Doing s (Map host depth tries) out next → IsMade s next host depth tries words m
made-so host depth tries words asks packets m says_so d = made-by host depth tries words asks packets m refl says_so d

-- the mapping behind a printed map, and what it was made over
pub record IsMapping (n : Network) (host : ℕ) (words : MapWords) (m : NetMap) : Type 0 where
  pub before : WorldState
  pub after : WorldState
  pub depth : ℕ
  pub tries : ℕ
  pub journal : List Entry
  pub can : CanMap host depth before
  pub fabric : fabric_of before ≡ n
  pub mapped : IsMapped host depth tries before after journal m words
  pub made : IsMarkedMap host journal m

pub mapping-of : (n : Network) (commands : List Command) (host : ℕ) (words : MapWords) (m : NetMap) → IsFabric n → (p : IsPrintedAfter n commands host words m) → IsMapping (fabric_of p.session.world) host words m
mapping-of n commands host words m f p =
    let is : IsSessionOf n p.session = run_keeps_world n commands p.out p.session f p.over p.run in
    let made = made-so host p.depth p.tries words p.prints.asks p.prints.packets m refl (doing p.prints.does) in
    record {
      before = p.session.world;
      after = p.next.world;
      depth = p.depth;
      tries = p.tries;
      journal = made.journal;
      can = can-map-now n p.session host p.depth p.tries p.of_fabric is made.idle;
      fabric = refl;
      mapped = made.mapped;
      made = marked-of host p.depth p.tries p.session.world p.next.world made.journal m words made.mapped made.shown;
    }

-- marks change no cable
marked-stands : (n : Network) (host : ℕ) (m k : NetMap) → m ≡ record k { core = core_of k } → StandsOver n host k → StandsOver n host m
marked-stands n host m k e s =
    subst (StandsOver n host) (sym e) (record {
      image = s.image;
      offset = s.offset;
      image_in = s.image_in;
      addresses = s.addresses;
      host_offsets = s.host_offsets;
      cables = λ d t c. s.cables d t (cabled-there (record k { core = core_of k }) k d t refl c);
    })

pub printed_maps_stand : PrintedMapsStand
printed_maps_stand n commands host words m f p =
    let a = mapping-of n commands host words m f p in
    let now : Network = fabric_of p.session.world in
    let fair : IsFabric now = now_is_fabric p.session.world.links.cables (run_keeps_world n commands p.out p.session f p.over p.run).history in
    let found : IsTrueWhereFound now host a.journal =
    subst (λ k. IsTrueWhereFound k host a.journal) a.fabric (found_is_there host a.depth a.tries a.before a.after a.journal m words a.can a.mapped) in
    marked-stands now host m a.made.unmarked a.made.marked (quotient-stands now host a.journal a.made.unmarked fair found a.made.quotient)

-- a map that is called complete
record IsWhole (host : ℕ) (j : List Entry) (drowned : ℕ) : Type 0 where
  none : drowned ≡ 0
  closed : IsClosed host j
  within : ¬ IsEndedAtLimit j

called-whole : (host : ℕ) (j : List Entry) (drowned : ℕ) → IsCalled host j drowned Complete → IsWhole host j drowned
called-whole host j drowned (right l c d) = record { none = d; closed = c; within = l }

-- growth to a depth that has closed is growth to a greater one
ask-deeper : (host depth deeper : ℕ) (j : List Entry) (x : List ℤ) → depth ≤ deeper → NextAsk host depth j x → NextAsk host deeper j x
ask-deeper host depth deeper j x l (first a b) = first a b
ask-deeper host depth deeper j x l (goes_on w t b least all is) = goes_on w t b least all is
ask-deeper host depth deeper j x l (begins w rest c is) = begins w rest (record { switch = c.switch; near = (let k = c.near in omega (arith, k, l)); fresh = c.fresh; lesser = c.lesser }) is

growing-deeper : (host depth deeper : ℕ) (j : List Entry) → depth ≤ deeper → IsGrowing host depth j → IsGrowing host deeper j
growing-deeper host depth deeper j l nothing = nothing
growing-deeper host depth deeper j l (more before e g ask is) = more before e (growing-deeper host depth deeper before l g) (ask-deeper host depth deeper before e.walk l ask) is

closed-deeper : (host depth deeper drowned : ℕ) (j : List Entry) → depth ≤ deeper → IsWhole host j drowned → IsGrown host depth j → IsGrown host deeper j
closed-deeper host depth deeper drowned j l w g = record { growing = growing-deeper host depth deeper j l g.growing; ended = inl (by g.ended) }
  where
    by : IsEndedByDepth host depth j ⊎ IsEndedAtLimit j → IsEndedByDepth host deeper j
    by (inl e) = record { started = e.started; at_rest = e.at_rest; expanded = λ x s k. w.closed.expanded x s; kept = e.kept }
    by (inr e) = absurd (w.within e)

-- two closed journals of true answers are one
journals-one : (n : Network) (host depth deeper drowned sunk : ℕ) (j l : List Entry) → IsTrueJournal n host j → IsTrueJournal n host l → IsWhole host j drowned → IsWhole host l sunk → IsGrown host depth j → IsGrown host deeper l → j ≡ l
journals-one n host depth deeper drowned sunk j l a b v w g h =
    ⊎_elim
    (λ low. grown_journal_is_one n host deeper j l a b (closed-deeper host depth deeper drowned j (omega (arith, low)) v g) h)
    (λ high. grown_journal_is_one n host depth j l a b g (closed-deeper host deeper depth sunk l high w h))
    (cases_lt depth deeper)

-- and so are their maps
maps-one : (host : ℕ) (j : List Entry) (p q m k : NetMap) → IsQuotient host j p → IsQuotient host j q → m ≡ record p { core = core_of p } → k ≡ record q { core = core_of q } → m ≡ k
maps-one host j p q m k of_p of_q e f = e ∙ ap (λ (z : NetMap). record z { core = core_of z }) (quotient_is_one host j p q of_p of_q) ∙ sym f

true-of : (n : Network) (host : ℕ) (m : NetMap) (a : IsMapping n host Complete m) → IsTrueJournal n host a.journal
true-of n host m a =
    subst (λ k. IsTrueJournal k host a.journal) a.fabric
    (undrowned_is_true host a.depth a.tries a.before a.after a.journal m Complete a.can a.mapped (called-whole host a.journal a.mapped.drowned a.mapped.called).none)

pub complete_maps_are_one : CompleteMapsAreOne
complete_maps_are_one n commands others host m k f p q same =
    let now : Network = fabric_of q.session.world in
    let a = mapping-of n commands host Complete m f p in
    let b = mapping-of n others host Complete k f q in
    let one : a.journal ≡ b.journal =
    journals-one now host a.depth b.depth a.mapped.drowned b.mapped.drowned a.journal b.journal
    (true-alike (fabric_of p.session.world) now same host a.journal (true-of (fabric_of p.session.world) host m a)) (true-of now host k b)
    (called-whole host a.journal a.mapped.drowned a.mapped.called) (called-whole host b.journal b.mapped.drowned b.mapped.called) a.mapped.grown b.mapped.grown in
    maps-one host b.journal a.made.unmarked b.made.unmarked m k (subst (λ j. IsQuotient host j a.made.unmarked) one a.made.quotient) b.made.quotient a.made.marked b.made.marked
