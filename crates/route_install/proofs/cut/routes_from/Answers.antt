use Rattle.std.proofs.Common.{◌≡◌, ◌-◌, ◌+◌, ℕ, List, take, drop, nat_lt, ap, ◌∙◌, arith}
use Rattle.std.proofs.lemmas.List.Sums.{count_by-le-length}
use Rattle.net_defs.specs.declared.route.Route.{Route}
use Rattle.route_install.proofs.Cutting.{below, below-more, cut-between}
use Rattle.route_install.proofs.cut.routes_from.Goals as goal

-- the number of a host, in a wider type
renumbered : (rs : List Route) (h k a b : ℕ) → a ≡ below h rs → b ≡ below (h + 1) rs → h ≡ k → (a ≡ below k rs) × (b ≡ below (k + 1) rs)
renumbered rs h k a b e f same = (e ∙ ap (λ n. below n rs) same, f ∙ ap (λ n. below (n + 1) rs) same)

pub slice_bounds-result-count : goal.slice_bounds-result-count
slice_bounds-result-count c =
    let rs = c.args.routes.now in
    let counts = renumbered rs _ c.args.from _ _ c.count_below-begin.ensures c.count_below-end.ensures c.from-from.ensures in
    omega (arith, counts.0, counts.1, below-more c.args.from (c.args.from + 1) rs (omega arith))

pub slice_bounds-result-start : goal.slice_bounds-result-start
slice_bounds-result-start c =
    let rs = c.args.routes.now in
    let counts = renumbered rs _ c.args.from _ _ c.count_below-begin.ensures c.count_below-end.ensures c.from-from.ensures in
    omega (arith, counts.0, counts.1, below-more c.args.from (c.args.from + 1) rs (omega arith), count_by-le-length (λ (r : Route). nat_lt r.from (c.args.from + 1)) rs)

pub returns : goal.returns
returns c =
    let rs = c.args.routes.now in
    let counts = renumbered rs _ c.args.from _ _ c.count_below-begin.ensures c.count_below-end.ensures c.from-from.ensures in
    (λ i. take (counts.1 i - counts.0 i) (drop (counts.0 i) rs)) ∙ cut-between c.args.from rs c.requires
