use Rattle.std.proofs.Common.{◌≡◌, ap, ◌∙◌, w8, to_z, of_z}
use Rattle.std.specs.Prelude.{pos, ◌+ℤ◌, ◌-ℤ◌}
use Rattle.map_defs.specs.NetMap.{MapPort}
use Rattle.std.proofs.lemmas.Int.{to_z-of_z}
use Rattle.rank_cert.proofs.Pairs.{turn-fits}
use Rattle.rank_cert.proofs.Crossed.{next-above, yes-of}
use Rattle.rank_cert.proofs.rising.risen.Goals as goal

pub returns-in-Some : goal.returns-in-Some
returns-in-Some c m ks are =
    let last = c.args.last in
    let d : MapPort = record { v = last.v; p = pos c.in-Some.k -ℤ pos 15 } in
    let e : MapPort = record { v = last.v; p = last.p +ℤ c.args.turn } in
    let turn : to_z w8 (of_z w8 c.args.turn) ≡ c.args.turn = to_z-of_z w8 c.args.turn (turn-fits c.args.turn c.requires) in
    let same : d ≡ e = ap (λ p. record { v = last.v; p = p }) (c.in-Some.ensures.port ∙ ap (λ t. last.p +ℤ t) turn) in
    next-above m ks last d e c.crossing_at.result c.above.result (yes-of last.onward c.if-not-last.false) same (c.crossing_at.ensures m ks are) c.above.ensures
