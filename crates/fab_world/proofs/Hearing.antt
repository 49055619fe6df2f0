-- What leaves a host as it was, by what was made of the packet.
use Rattle.std.proofs.Common.{◌≡◌, ℕ, true, true≢false, List, refl, sym}
use Rattle.gm_defs.specs.declared.token.Took.{Took}
use Rattle.gm_defs.specs.declared.token.Took.TheVariants.{NotNext, NoToken, Part as TookPart, Whole}
use Rattle.world_defs.specs.declared.arrival.Arrival.{Arrival}
use Rattle.world_defs.specs.Node.{NodeState}
use Rattle.world_defs.specs.Hearing.{took_word, frame_took, hear}
use Rattle.world_defs.proofs.Hearings.{Hearing, hearing}
use Rattle.fab_world.specs.Resting.{is_answer, leaves_host}

-- no frame is an answer
no-answer : (t : Took) → is_answer (took_word t) ≡ true → ⊥
no-answer NotNext e = true≢false (sym e)
no-answer NoToken e = true≢false (sym e)
no-answer TookPart e = true≢false (sym e)
no-answer Whole e = true≢false (sym e)

-- whatever the packet
pub stays-heard : (host hosts : ℕ) (n : NodeState) (wire : List ℕ) → leaves_host (hear host hosts n wire).0 ≡ true → (hear host hosts n wire).1 ≡ n
stays-heard host hosts n wire = by (hearing host hosts n wire)
  where
    by : {r : Arrival × NodeState} → Hearing host hosts n wire r → leaves_host r.0 ≡ true → r.1 ≡ n
    by (Hearing.stays a) e = refl
    by (Hearing.probe body number mapper back d f) e = absurd (true≢false (sym e))
    by (Hearing.part body p d f mine) e = absurd (true≢false (sym e))
    by (Hearing.frame body h d f mine from) e = absurd (no-answer (frame_took n h) e)
    by (Hearing.ack body a d f mine from) e = absurd (true≢false (sym e))
