-- Whether a token of a port has an unfinished send.
use Rattle.std.proofs.Common.{◌≡◌, ℕ, Bool, true, false, map, Option, Some, is_some, refl, sym, ap, ◌∙◌}
use Rattle.std.specs.Option.{option_eq}
use Rattle.gm_defs.specs.declared.token.TokenPlace.{TokenPlace}
use Rattle.gm_defs.specs.declared.token.TokenPlace.TheVariants.{Queue, Event}
use Rattle.gm_defs.specs.Token.{PortState, has_number, sent_tokens, place_of_send}
use Rattle.gm_defs.specs.Port.{send_of}
use Rattle.gm_port.proofs.Tables.{found-number}

-- asking whether a token's place is the queue shows whether the token has an unfinished send
pub queue-asked : (same : TokenPlace → TokenPlace → Bool) (place : Option TokenPlace) (answer : Bool) (p : PortState) (t : ℕ) → answer ≡ option_eq same place (Some Queue) → place ≡ place_of_send p t
    → same Queue Queue ≡ true → same Event Queue ≡ false → answer ≡ is_some (send_of p t)
queue-asked same place answer p t asked at queue event = asked ∙ ap is_queue at ∙ by (has_number (map (λ s. s.token) p.queue) t) refl (has_number (sent_tokens p.events) t) refl
  where
    is_queue : Option TokenPlace → Bool
    is_queue o = option_eq same o (Some Queue)

    by : (b : Bool) → has_number (map (λ s. s.token) p.queue) t ≡ b → (c : Bool) → has_number (sent_tokens p.events) t ≡ c → is_queue (place_of_send p t) ≡ is_some (send_of p t)
    by true e c f = rw e (queue ∙ sym (found-number t p.queue ∙ e))
    by false e true f = rw e (rw f (event ∙ sym (found-number t p.queue ∙ e)))
    by false e false f = rw e (rw f (sym (found-number t p.queue ∙ e)))
