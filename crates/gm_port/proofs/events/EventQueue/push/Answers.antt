use Rattle.std.proofs.Common.{◌≡◌, ◌<◌, length, map, sym, ap, subst, ◌∙◌, arith}
use Rattle.std.proofs.lemmas.List.{length-map}
use Rattle.gm_defs.specs.Token.{sent_tokens, received_tokens}
use Rattle.gm_port.specs.Held.{Events, event_at, event_of}
use Rattle.gm_port.specs.Lists.{AreOwnEvents}
use Rattle.gm_port.specs.Tallies.{AreTallied}
use Rattle.gm_port.proofs.Tallies.{counts_few, sent-more, received-more, sent-few, received-few, events-more}
use Rattle.gm_port.proofs.events.EventQueue.push.Goals as goal

pub count-requires-clause-few_sends : goal.count-requires-clause-few_sends
count-requires-clause-few_sends c n =
    let es = c.self.inside.events.items in
    let room : length (map event_of es) < _ = subst (λ (q : Events). length q.events < q.limit) (sym c.self.view_is) c.requires.room in
    let long = length-map es event_of in
    let few = c.self.invariant.few in
    let fewer = sent-few es in
    let most = counts_few c.self.inside.sent (sent_tokens (map event_of es)) n 131070 c.self.invariant.sends (omega (arith, room, long, few, fewer)) in
    omega (arith, most)

pub count-requires-clause-few_receives : goal.count-requires-clause-few_receives
count-requires-clause-few_receives c n =
    let es = c.self.inside.events.items in
    let room : length (map event_of es) < _ = subst (λ (q : Events). length q.events < q.limit) (sym c.self.view_is) c.requires.room in
    let long = length-map es event_of in
    let few = c.self.invariant.few in
    let fewer = received-few es in
    let most = counts_few c.self.inside.received (received_tokens (map event_of es)) n 131070 c.self.invariant.receives (omega (arith, room, long, few, fewer)) in
    omega (arith, most)

pub invariant_of-self : goal.invariant_of-self
invariant_of-self c =
    let q = c.self.inside in
    let es = q.events.items in
    let items = c.push_back_reserved.ensures.items in
    let capacity = c.push_back_reserved.ensures.capacity in
    let few = c.self.invariant.few in
    let own : event_at q.host q.port (event_of c.args.e) ≡ c.args.e = subst (λ (x : Events). event_at x.host x.port (event_of c.args.e) ≡ c.args.e) (sym c.self.view_is) c.requires.own in
    record {
      own = subst (AreOwnEvents q.host q.port) (sym items) (events-more q.host q.port es c.args.e c.self.invariant.own own);
      few = omega (arith, capacity, few);
      sends = subst (AreTallied c.count.new.sent) (sym (ap (λ xs. sent_tokens (map event_of xs)) items ∙ sent-more es c.args.e)) (c.count.ensures.sends (sent_tokens (map event_of es)) c.self.invariant.sends);
      receives = subst (AreTallied c.count.new.received) (sym (ap (λ xs. received_tokens (map event_of xs)) items ∙ received-more es c.args.e)) (c.count.ensures.receives (received_tokens (map event_of es)) c.self.invariant.receives);
    }
