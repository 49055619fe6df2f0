-- A journal to depth Q + D that is not closed.
use Rattle.std.proofs.Common.{◌≡◌, ◌<◌, List, [], ◌∷◌, sym, ◌∙◌, subst, ap, refl, arith, rules, inl}
use Rattle.std.specs.Prelude.{ℤ, pos}
use Rattle.net_defs.specs.declared.vertex.Vertex.TheVariants.{Switch}
use Rattle.net_defs.specs.declared.vertex.End.{End}
use Rattle.net_defs.specs.Network.{IsFabric}
use Rattle.net_defs.specs.Examples.{switch_end}
use Rattle.journal_defs.specs.Tree.Node.{Reached}
use Rattle.journal_defs.specs.Growth.{IsGrown, IsBegun, IsClosed, HasExpanded, crossed}
use Rattle.journal_defs.specs.Truth.{IsTrueJournal, standing}
use Rattle.journal_defs.proofs.Standing.{stand, same_end-of}
use Rattle.journal_defs.proofs.OneSwitch.{begun-first, one-switch-grows, one-switch-expanded, one-switch-rests}
use Rattle.map_laws.specs.GrowthExamples.{looped, unrolled, looped_answer, looped_journal}
use Rattle.map_laws.specs.Laws.{BoundIsTight}
use Rattle.map_laws.proofs.Truly.{true-where}
use Rattle.map_laws.proofs.Asks.{expanded-has}
use Rattle.map_laws.proofs.Phases.{member-begun}

pub looped_is_fabric : IsFabric looped
looped_is_fabric = record { few_hosts = omega arith; few_switches = omega arith; names_apart = search rules; port_counts = search rules; cabled_ports = search rules; ports_once = search rules }

unrolled_is_fabric : IsFabric unrolled
unrolled_is_fabric = record { few_hosts = omega arith; few_switches = omega arith; names_apart = search rules; port_counts = search rules; cabled_ports = search rules; ports_once = search rules }

pub looped_true : IsTrueJournal looped 0 looped_journal
looped_true = search rules

unrolled_true : IsTrueJournal unrolled 0 looped_journal
unrolled_true = search rules

-- the switch alone is begun
looped_rests : (w : List ℤ) → IsBegun looped_journal w → w ≡ []
looped_rests w b = begun-first looped_journal w refl b

short-empty : (w : List ℤ) → crossed w < 2 → w ≡ []
short-empty [] l = refl
short-empty (t ∷ w) l = absurd (omega arith)

pub looped_grown : IsGrown 0 2 looped_journal
looped_grown = record {
  growing = one-switch-grows 0 2 looped_answer (omega arith);
  ended = inl (record {
    started = refl;
    at_rest = one-switch-rests looped_answer;
    expanded = λ w s l. subst (λ v. HasExpanded 0 looped_journal (Reached v)) (sym (short-empty w l)) (expanded-has 0 looped_journal [] refl (one-switch-expanded looped_answer));
    kept = omega arith;
  });
}

-- Over the other fabric the journal is true too, and there the walk +1 ends at a switch where nothing is expanded.
pub looped_open : ¬ IsClosed 0 looped_journal
looped_open c = by (c.expanded (pos 1 ∷ []) refl)
  where
    by : HasExpanded 0 looped_journal (Reached (pos 1 ∷ [])) → ⊥
    by h =
        let first : h.member ≡ [] = looped_rests h.member (member-begun 0 looped_journal (pos 1 ∷ []) h) in
        let at = stand unrolled 0 looped_journal (Reached (pos 1 ∷ [])) (Reached h.member) h.offset unrolled_is_fabric (true-where unrolled 0 looped_journal unrolled_true) h.one_class in
        let at_t : at.at_u ≡ switch_end 1 2 = same_end-of unrolled 0 (Reached (pos 1 ∷ [])) at.at_u (switch_end 1 2) at.is_at_u refl in
        let at_s : at.at_v ≡ switch_end 0 0 = same_end-of unrolled 0 (Reached []) at.at_v (switch_end 0 0) (ap (λ w. standing unrolled 0 (Reached w)) (sym first) ∙ at.is_at_v) refl in
        let one : Switch 1 ≡ Switch 0 = ap (λ (e : End). e.v) (sym at_t) ∙ at.one_vertex ∙ ap (λ (e : End). e.v) at_s in
        cc

pub bound_is_tight : BoundIsTight
bound_is_tight = (looped, 0, looped_journal, record { fabric = looped_is_fabric; there = refl; small = inl (omega arith); truth = looped_true; grown = looped_grown; not_closed = looped_open })
