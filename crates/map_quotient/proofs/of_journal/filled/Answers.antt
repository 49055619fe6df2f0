use Rattle.std.proofs.Common.{ℕ, List, Option, length, refl, sym, ◌∙◌, subst, arith}
use Rattle.map_quotient.specs.InOrder.{in_order}
use Rattle.map_quotient.specs.Joining.{AreTaken, HaveVertices, JoinsBelow}
use Rattle.map_quotient.proofs.Joined.{told-taken}
use Rattle.map_quotient.proofs.Standing.{AreOf}
use Rattle.map_quotient.proofs.Vertices.{own-addresses}
use Rattle.map_quotient.proofs.Whole.{few-nodes, few-in-table, vertices-of-all, end-in-turns, is-quotient}
use Rattle.map_quotient.proofs.of_journal.filled.Goals as goal

pub named-requires-clause-few : goal.named-requires-clause-few
named-requires-clause-few c =
    let a = c.requires.numbered.few in
    let b = few-in-table c.args.j.now.entries c.args.walks.now c.args.c.now.nodes c.requires.walked c.requires.classes.numbered c.requires.few in
    omega arith

pub named-requires-clause-own : goal.named-requires-clause-own
named-requires-clause-own c =
    let least : List ℕ = c.args.numbering.least.items in
    let vertices : List (Option ℕ) = c.args.numbering.vertices.items in
    let g : AreOf c.args.j.now.host c.args.j.now.entries c.args.c.now least vertices = record { stands = c.requires.classes; once = c.entries-once.ensures.once; numbered = c.requires.numbered } in
    (own-addresses c.args.j.now.host c.args.j.now.entries c.args.walks.now c.args.c.now least vertices g (c.requires.walked ∙ sym c.requires.classes.numbered))

pub join_all-requires-clause-few : goal.join_all-requires-clause-few
join_all-requires-clause-few c = few-nodes c.args.j.now.entries c.args.walks.now c.requires.walked c.requires.few

pub join_all-requires-clause-numbered : goal.join_all-requires-clause-numbered
join_all-requires-clause-numbered c =
    subst (λ (vs : List (Option ℕ)). HaveVertices c.args.c.now vs) (sym c.deref.ensures.value) (vertices-of-all c.args.c.now c.args.numbering.least.items c.args.numbering.vertices.items c.requires.numbered)

pub join_all-requires-clause-turns : goal.join_all-requires-clause-turns
join_all-requires-clause-turns c = end-in-turns c.args.j.now.host c.args.j.now.entries c.args.walks.now c.requires.true_of_one c.entries-once.ensures.once c.requires.walked

pub join_all-requires-clause-taken : goal.join_all-requires-clause-taken
join_all-requires-clause-taken c =
    let least : List ℕ = c.args.numbering.least.items in
    let vertices : List (Option ℕ) = c.args.numbering.vertices.items in
    let g : AreOf c.args.j.now.host c.args.j.now.entries c.args.c.now least vertices = record { stands = c.requires.classes; once = c.entries-once.ensures.once; numbered = c.requires.numbered } in
    subst (λ (vs : List (Option ℕ)). AreTaken c.args.walks.now c.args.c.now vs c.in_ok-map.map) (sym c.deref.ensures.value)
    (told-taken c.args.j.now.host c.args.j.now.entries c.args.walks.now c.args.c.now least vertices g (c.requires.walked ∙ sym c.requires.classes.numbered) c.requires.true_of_one c.in_ok-map.map
    c.in_ok-map.ensures
    (few-nodes c.args.j.now.entries c.args.walks.now c.requires.walked c.requires.few))

pub returns : goal.returns
returns c =
    let least : List ℕ = c.args.numbering.least.items in
    let vertices : List (Option ℕ) = c.args.numbering.vertices.items in
    let g : AreOf c.args.j.now.host c.args.j.now.entries c.args.c.now least vertices = record { stands = c.requires.classes; once = c.entries-once.ensures.once; numbered = c.requires.numbered } in
    is-quotient c.args.j.now.host c.args.j.now.entries c.args.walks.now c.args.c.now least vertices g (c.requires.walked ∙ sym c.requires.classes.numbered) c.in_ok-map.map c.join_all.new.map (in_order c.join_all.new.map)
    c.in_ok-map.ensures
    (subst (λ (ws : List (Option ℕ)). JoinsBelow c.args.walks.now c.args.c.now ws c.in_ok-map.map (length c.args.walks.now) c.join_all.new.map) c.deref.ensures.value c.in_ok-join_all.ensures)
    c.cables-cables.ensures.is_map.is_map
    refl
