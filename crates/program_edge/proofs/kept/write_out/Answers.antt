use Rattle.std.proofs.Common.{◌-◌, ◌++◌, length, take, drop, ap, subst, ◌∙◌, sym, arith, rules, length-take}
use lib.Seq.{take-add, take-take}
use Rattle.std.specs.Io.KnownBytes.{Appends}
use Rattle.std.proofs.KnownBytes.{Appends-trans}
use Rattle.program_edge.proofs.kept.write_out.Goals as goal

pub writing-preserved : goal.writing-preserved
writing-preserved g c =
    let done = c.writing.written in
    let n = c.in-Ok.count in
    let xs = c.args.bytes.now in
    let before = c.writing.invariant in
    let fits = c.in-Ok.ensures.bound in
    let most = length-take (length xs - done) (drop done xs) in
    let joined = ap (λ l. take done xs ++ l) (take-take n (length xs - done) (drop done xs) (omega arith)) ∙ sym (take-add done n xs) in
    record {
      bound = omega arith;
      taken = subst (Appends _ _) joined (Appends-trans _ _ _ _ _ before.taken c.in-Ok.ensures.appended);
      later = search rules;
    }
