use Rattle.std.proofs.Common.{◌≡◌, ◌+◌, ◌≤◌, ◌++◌, ◌∷◌, [], ℕ, List, Vec, length, sym, ap, subst, ◌∙◌, arith, vec_len, vec_capacity, length-set}
use Rattle.std.specs.declared.alloc.Global.{Global}
use Rattle.gm_tokens.specs.Token.{Token}
use Rattle.gm_port.specs.Table.{Place, AreFree, held_in}
use Rattle.gm_port.proofs.Keyed.{listed-next, free-taken, free-passed, all-free, listed-all, none-held}
use Rattle.gm_port.proofs.slots.SendSlots.into_list.Goals as goal
use Rattle.gm_port.proofs.slots.SendSlots.into_list.Goals.{then-has, else-has}

pub loop-ticket-preserved : goal.loop-ticket-preserved
loop-ticket-preserved c =
    let inv = c.loop-ticket.invariant in
    elim c.if-has.branch [
      | then-has w ↦
          let self : c.if-has.self ≡ w.take.new.self = w.self-is in
          let pushed : c.if-has.listed.items ≡ c.loop-ticket.listed.items ++ w.take.result ∷ [] = ap (λ (v : Vec (Token × List ℕ) Global). v.items) w.listed-is ∙ w.push_reserved.ensures.items in
          let more : vec_len c.if-has.listed ≡ vec_len c.loop-ticket.listed + 1 = ap (λ (v : Vec (Token × List ℕ) Global). vec_len v) w.listed-is ∙ w.push_reserved.ensures.len in
          let same : vec_capacity c.if-has.listed ≡ vec_capacity c.loop-ticket.listed = ap (λ (v : Vec (Token × List ℕ) Global). vec_capacity v) w.listed-is ∙ w.push_reserved.ensures.capacity in
          let taken = self ∙ w.take.ensures.rest in
          record {
            listed = listed-next c.loop-ticket.listed.items c.if-has.listed.items _ c.loop-ticket.self c.if-has.self c.loop-ticket.ticket w.take.result inv.listed w.take.ensures.taken inv.free taken pushed;
            free = free-taken c.loop-ticket.self c.if-has.self c.loop-ticket.ticket inv.free taken;
            few = omega (arith, more, inv.few);
            long = ap length taken ∙ length-set c.loop-ticket.self c.loop-ticket.ticket _ ∙ inv.long;
            room = omega (arith, same, inv.room);
          }
      | else-has w ↦
          let same : vec_capacity c.if-has.listed ≡ vec_capacity c.loop-ticket.listed = ap (λ (v : Vec (Token × List ℕ) Global). vec_capacity v) w.listed-is in
          let many : vec_len c.if-has.listed ≡ vec_len c.loop-ticket.listed = ap (λ (v : Vec (Token × List ℕ) Global). vec_len v) w.listed-is in
          record {
            listed = ap (λ (v : Vec (Token × List ℕ) Global). v.items ++ held_in c.if-has.self) w.listed-is ∙ ap (λ (ps : List Place). c.loop-ticket.listed.items ++ held_in ps) w.self-is ∙ inv.listed;
            free = free-passed c.loop-ticket.self c.if-has.self c.loop-ticket.ticket inv.free (sym c.has.ensures ∙ w.if-has.false) w.self-is;
            few = omega (arith, many, inv.few);
            long = ap length w.self-is ∙ inv.long;
            room = omega (arith, same, inv.room);
          }
    ]

pub let_go-requires : goal.let_go-requires
let_go-requires c =
    let inv = c.loop-ticket.invariant in
    let last : c.len-count.result ≤ c.loop-ticket.ticket = omega (arith, c.loop-ticket-test.false) in
    let le : length c.loop-ticket.self ≤ c.loop-ticket.ticket = omega (arith, inv.long, last) in
    none-held c.self-2.inside.slots c.self-2.inside.keys.items c.self-2.inside.held.items c.self-2.invariant
    (subst (λ (ps : List Place). AreFree ps) (sym c.self-2.view_is) (all-free c.loop-ticket.self c.loop-ticket.ticket le inv.free))

pub returns : goal.returns
returns c =
    let inv = c.loop-ticket.invariant in
    let last : c.len-count.result ≤ c.loop-ticket.ticket = omega (arith, c.loop-ticket-test.false) in
    let le : length c.loop-ticket.self ≤ c.loop-ticket.ticket = omega (arith, inv.long, last) in
    listed-all c.loop-ticket.listed.items _ c.loop-ticket.self (all-free c.loop-ticket.self c.loop-ticket.ticket le inv.free) inv.listed
