-- What a drain and a clear end with: links that are idle or stuck, and lawful traffic runs out.
use Rattle.std.proofs.Common.{◌≡◌, ℕ, true, sym, ◌∙◌, ap, subst}
use Rattle.std.specs.Prelude.{◌⊎◌, Result, Ok, Err, IfOk}
use Rattle.net_defs.specs.Network.{Network}
use Rattle.world_defs.specs.Links.{is_idle}
use Rattle.world_defs.specs.Hops.{is_stuck}
use Rattle.world_defs.specs.World.{WorldState}
use Rattle.world_defs.specs.Traffic.{IsLawfulTraffic}
use Rattle.world_defs.specs.Acts.{IsReached}
use Rattle.world_defs.specs.Logs as log
use Rattle.world_laws.proofs.Draining.{drain-still}
use Rattle.lawful_laws.proofs.Flowing.{lawful-drains, lawful-clears}

pub end-still : (w v : WorldState) → v ≡ (log.drain w).world → (is_idle v.links ≡ true) ⊎ (is_stuck v.links ≡ true)
end-still w v is = subst (λ (u : WorldState). (is_idle u.links ≡ true) ⊎ (is_stuck u.links ≡ true)) (sym is) (drain-still w)

pub end-idle : (n : Network) (w v : WorldState) → IsReached n w → v ≡ (log.drain w).world → IsLawfulTraffic w → is_idle v.links ≡ true
end-idle n w v r is lawful = ap (λ (u : WorldState). is_idle u.links) is ∙ lawful-drains n w r lawful

pub end-resets : {E : Type 0} (n : Network) (w : WorldState) (r : Result ℕ E) → IsReached n w → IfOk r (λ k. k ≡ (log.clear w).value)
    → IfOk r (λ k. IsLawfulTraffic w → k ≡ 0)
end-resets n w (Ok k) reached is = λ lawful. is ∙ lawful-clears n w reached lawful
end-resets n w (Err e) reached is = tt
