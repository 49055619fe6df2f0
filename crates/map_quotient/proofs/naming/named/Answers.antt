use Rattle.std.proofs.Common.{◌≡◌, ℕ, List, IfOk, length, ap, sym, subst, arith}
use Rattle.map_quotient.specs.Naming.{HaveOwnAddresses, addresses_of, bare_map, vertices_of}
use Rattle.map_quotient.proofs.naming.named.Goals as goal

pub named_for-requires-clause-few : goal.named_for-requires-clause-few
named_for-requires-clause-few c =
    let e : length c.deref.result.now ≡ length c.args.least.items = ap length c.deref.ensures.value in
    let few = c.requires.few in
    omega arith

pub named_for-requires-clause-own : goal.named_for-requires-clause-own
named_for-requires-clause-own c =
    subst (λ (ns : List ℕ). HaveOwnAddresses (addresses_of c.args.j.now.host c.args.j.now.entries c.args.walks.now ns)) (sym c.deref.ensures.value) c.requires.own

pub returns : goal.returns
returns c =
    subst (λ (ns : List ℕ). IfOk c.named_for.result (λ m. m ≡ bare_map (vertices_of c.args.j.now.host c.args.j.now.entries c.args.walks.now ns))) c.deref.ensures.value c.named_for.ensures
