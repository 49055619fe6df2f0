use Rattle.std.proofs.Common.{◌≡◌, ◌∙◌, ◌++◌, ◌∷◌, [], None, length, ap, arith}
use Rattle.std.specs.Option.{option_to_list}
use Rattle.std.proofs.lemmas.Grind.{common_steps}
use Rattle.client_host.proofs.Served.{ended, ending-none, ending-closed}
use Rattle.client_host.proofs.ending.end_clients.Goals as goal

pub end-requires : goal.end-requires
end-requires c =
    let none : c.loop-slot.clients.items ≡ [] = grind (arith, common_steps) in
    ended c.loop-slot.node c.loop-slot.clients.items none c.loop-slot.invariant

pub loop-slot-preserved-in-Some-slot : goal.loop-slot-preserved-in-Some-slot
loop-slot-preserved-in-Some-slot c =
    let split : c.loop-slot.clients.items ≡ c.pop.new.self.items ++ c.in-Some.slot ∷ [] = c.pop.ensures.items ∙ ap (λ o. c.pop.new.self.items ++ option_to_list o) c.in-Some.is in
    let at : c.len-port.result ≡ length c.pop.new.self.items = grind (arith, common_steps) in
    ending-closed c.loop-slot.node c.end_client.new.node c.loop-slot.clients.items c.pop.new.self.items c.in-Some.slot c.len-port.result split at c.end_client.ensures c.loop-slot.invariant

pub loop-slot-preserved : goal.loop-slot-preserved
loop-slot-preserved c =
    let split : c.loop-slot.clients.items ≡ c.pop.new.self.items ++ None ∷ [] =
    c.pop.ensures.items ∙ ap (λ o. c.pop.new.self.items ++ option_to_list o) c.in-Some.is ∙ ap (λ x. c.pop.new.self.items ++ x ∷ []) c.in_default-slot.is in
    ending-none c.loop-slot.node c.loop-slot.clients.items c.pop.new.self.items split c.loop-slot.invariant
