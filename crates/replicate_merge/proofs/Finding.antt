-- The walks that found something are no more than the entries.
use Rattle.std.proofs.Common.{◌≡◌, ◌≤◌, suc, List, [], ◌∷◌, Bool, true, false, length, ap, arith, if◌then◌else◌}
use Rattle.std.specs.Prelude.{ℤ}
use Rattle.journal_defs.specs.declared.entry.Entry.{Entry}
use Rattle.journal_defs.specs.Tree.{is_found, reached, nodes}
use Rattle.journal_defs.specs.Tree.Node.{Reached}
use Rattle.replicate_merge.specs.Nodes.{nodes_of}
use Rattle.replicate_merge.proofs.Telling.{count-nodes}

-- no more walks than entries
pub reached-few : (es : List Entry) → length (reached es) ≤ length es
reached-few [] = omega arith
reached-few (e ∷ es) = by (is_found e.answer) (reached-few es)
  where
    by : (b : Bool) → length (reached es) ≤ length es → length (if b then Reached e.walk ∷ reached es else reached es) ≤ suc (length es)
    by true l = omega arith
    by false l = omega arith

pub few-walks : (es : List Entry) (ws : List (List ℤ)) → nodes_of ws ≡ nodes es → length ws ≤ length es
few-walks es ws e =
    let c = count-nodes ws in
    let f = reached-few es in
    let n : length (nodes_of ws) ≡ suc (length (reached es)) = ap length e in
    omega arith
