-- The return walks of a path list stand in the whole tree.
use Rattle.std.proofs.Common.{◌≤◌, ℕ, List, [], ◌∷◌, ◌++◌, length, sym, subst, refl, arith}
use Rattle.net_defs.specs.declared.vertex.Vertex.TheVariants.{Host}
use Rattle.net_defs.specs.Network.{Network, IsFabric}
use Rattle.journal_defs.specs.declared.entry.Entry.{Entry}
use Rattle.circ_laws.proofs.Sheets.{AreWalked, HasSheet, IsWalked, path-sheet}
use Rattle.circ_laws.proofs.Telling.{circuit-true}
use Rattle.circ_laws.proofs.Walking.{walked}
use Rattle.circ_defs.specs.PathList.{Ear, IsEar, IsFirstEar, IsPathList, cables_of, most_back, return_walk}
use Rattle.circ_defs.specs.Ways.{IsWay, Step}
use Rattle.circ_defs.specs.Circuit.{IsWholeTree}
use Rattle.circ_defs.proofs.Ways.{first-walk, own_step, new-way, way-join}

ear-walked : (n : Network) (host depth : ℕ) (j : List Entry) (old : List ℕ) (ear : Ear) → IsFabric n → IsWholeTree n host depth j → IsEar n host old ear → length (return_walk ear) ≤ depth → IsWalked n host j (return_walk ear)
ear-walked n host depth j old ear f tree e deep =
    let whole = way-join n (Host host) e.start (Host e.last) ear.before (ear.path ++ ear.after) e.there (way-join n e.start e.end (Host e.last) ear.path ear.after (new-way n old e.start ear.path e.end e.across) e.home) in
    let deep_too : length (e.first ∷ e.rest) ≤ depth = subst (λ (l : List Step). length l ≤ depth) e.begins deep in
    let r = walked n host depth j e.first e.rest (Host e.last) f tree (subst (λ l. IsWay n (Host host) l (Host e.last)) e.begins whole) e.once (omega arith) in
    let back : IsWalked n host j (e.first ∷ e.rest) = record { end = r.0; lift = r.1 } in
    subst (IsWalked n host j) (sym e.begins) back

first-walked : (n : Network) (host depth : ℕ) (j : List Entry) (ear : Ear) → IsFabric n → IsWholeTree n host depth j → IsFirstEar n host ear → length (return_walk ear) ≤ depth → IsWalked n host j (return_walk ear)
first-walked n host depth j ear f tree e deep = subst (IsWalked n host j) (sym (first-walk n host ear e)) (by (subst (λ (l : List Step). length l ≤ depth) (first-walk n host ear e) deep))
  where
    own : Step
    own = own_step host e.own.cable e.own.into

    by : length {A = Step} (own_step host e.own.cable e.own.into ∷ []) ≤ depth → IsWalked n host j (own_step host e.own.cable e.own.into ∷ [])
    by l = let r = walked n host depth j own [] e.own.into.v f tree (e.own.joins, refl, refl) tt (omega arith) in record { end = r.0; lift = r.1 }

pub all-walked : (n : Network) (host depth : ℕ) (j : List Entry) (es : List Ear) → IsFabric n → IsWholeTree n host depth j → IsPathList n host es → most_back es ≤ depth → AreWalked n host j es
all-walked n host depth j [] f tree list deep = tt
all-walked n host depth j (e ∷ []) f tree list deep = (first-walked n host depth j e f tree list (omega arith), tt)
all-walked n host depth j (e ∷ g ∷ es) f tree list deep = (ear-walked n host depth j (cables_of (g ∷ es)) e f tree list.0 (omega arith), all-walked n host depth j (g ∷ es) f tree list.1 (omega arith))

pub list-sheet : (n : Network) (host depth : ℕ) (j : List Entry) (es : List Ear) → IsFabric n → IsWholeTree n host depth j → IsPathList n host es → most_back es ≤ depth → HasSheet n host j (cables_of es)
list-sheet n host depth j es f tree list deep = path-sheet n host j es f (circuit-true n host j tree.circuit) list (all-walked n host depth j es f tree list deep)
