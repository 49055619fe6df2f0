use Rattle.std.proofs.Common.{◌<◌, length, sym, subst, rules}
use Rattle.rank_cert.specs.Crossing.{IsCrossing}
use Rattle.rank_cert.proofs.Crossed.{crossing-put, holds-some}
use Rattle.rank_cert.proofs.crossings.put.Goals as goal

pub returns-in-Some : goal.returns-in-Some
returns-in-Some c =
    let m = c.args.m.now in
    let ks = c.args.k.now in
    let low : c.in-Some.place < length c.args.table.now.items = search rules in
    crossing-put m ks c.args.table.now.items c.in-Some.place c.crossing_of.result low (λ x e. subst (λ d. IsCrossing m ks d x) (sym c.in-Some.ensures.port) (holds-some m ks _ c.crossing_of.result x e c.crossing_of.ensures)) c.requires
