use Rattle.std.proofs.Common.{◌≡◌, ◌<◌, ◌≤◌, ◌^◌, List, None, length, sym, subst, ◌∙◌, arith}
use Rattle.net_defs.specs.declared.route.Route.{Route}
use Rattle.map_defs.specs.Orientation.{order_of}
use Rattle.map_defs.specs.Ranks.{IsCertificate, ranks_of}
use Rattle.rank_cert.specs.Checking.{first_fault}
use Rattle.map_defs.specs.declared.rank.RankEntry.{RankEntry}
use Rattle.route_making.specs.Listed.{AreBetweenHosts}
use Rattle.route_making.proofs.Few.{few-routes}
use Rattle.route_making.proofs.Lines.{parts-printed, whole-printed}
use Rattle.route_making.proofs.Naming.{between-hosts}
use Rattle.route_making.proofs.making.make_routes.Goals as goal

pub routes_text-requires-clause-between : goal.routes_text-requires-clause-between
routes_text-requires-clause-between c =
    let f = c.args.f.now in
    let m = c.args.m.now in
    subst (AreBetweenHosts f) (sym c.list.ensures.value) (between-hosts f m (order_of m) c.in_ok-set.set c.requires.hosts c.in_ok-set.ensures.routes.least)

pub routes_text-requires-clause-few : goal.routes_text-requires-clause-few
routes_text-requires-clause-few c =
    let f = c.args.f.now in
    let m = c.args.m.now in
    let count = c.hosts.ensures.count in
    let bound = c.hosts.ensures.bound in
    let small : length f.hosts ≤ 128 = omega arith in
    subst (λ (rs : List Route). length rs < 2 ^ 32) (sym c.list.ensures.value)
    (few-routes f c.in_ok-set.set small c.in_ok-set.ensures.routes.in_order (between-hosts f m (order_of m) c.in_ok-set.set c.requires.hosts c.in_ok-set.ensures.routes.least))

pub returns-clause-text : goal.returns-clause-text
returns-clause-text c =
    let f = c.args.f.now in
    let m = c.args.m.now in
    let set : c.list.result.now ≡ c.in_ok-set.set = c.list.ensures.value in
    let ranks : c.list-2.result.now ≡ ranks_of m (order_of m) = c.list-2.ensures ∙ c.in_ok-set.ensures.ranks in
    c.in_ok-printed.ensures ∙ (λ i. parts-printed f m (set i) (ranks i)) ∙ whole-printed f m c.in_ok-set.set

pub returns-clause-certified : goal.returns-clause-certified
returns-clause-certified c = subst (IsCertificate c.args.m.now c.in_ok-set.set) c.in_ok-set.ensures.ranks c.in_ok-set.ensures.certified

pub returns-clause-faultless : goal.returns-clause-faultless
returns-clause-faultless c =
    subst (λ (ks : List RankEntry). first_fault c.args.m.now ks c.in_ok-set.set ≡ None) c.in_ok-set.ensures.ranks c.in_ok-set.ensures.faultless
