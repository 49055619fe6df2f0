use Rattle.std.proofs.Common.{[], ◌∷◌, codes}
use Rattle.std.proofs.lemmas.Result.{on_ok_weaker}
use Rattle.fabric_gen.proofs.Lines.{four_written}
use Rattle.fabric_gen.proofs.closing.append_settle.Goals as goal

pub returns : goal.returns
returns c =
    on_ok_weaker c.append_line-4.result
    (four_written c.args.text.now.items c.append_line.new.text.items c.append_line-2.new.text.items c.append_line-3.new.text.items c.append_line-4.new.text.items
    (codes "plan" ∷ codes "lose" ∷ codes "1" ∷ []) (codes "plan" ∷ codes "hold" ∷ codes "2" ∷ []) (codes "plan" ∷ codes "repeat" ∷ codes "3" ∷ []) (codes "settle" ∷ [])
    c.in_ok-append_line.ensures c.in_ok-append_line-2.ensures c.in_ok-append_line-3.ensures)
    c.append_line-4.ensures
