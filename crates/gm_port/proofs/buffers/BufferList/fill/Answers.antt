use Rattle.std.proofs.Common.{◌≡◌, ◌+◌, ◌≤◌, length, map, IsSome, IfSome, true≢false, refl, sym, ap, subst, ◌∙◌, arith}
use Rattle.std.specs.Prelude.{find, slice_set}
use Rattle.std.proofs.lemmas.List.{length-set}
use Rattle.std.proofs.lemmas.Option.{slice_get_read}
use Rattle.gm_port.specs.declared.event.ProvidedToken.{ProvidedToken}
use Rattle.gm_port.specs.Held.{Buffers, provided_of}
use Rattle.gm_port.specs.Tallies.{AreTallied}
use Rattle.gm_port.proofs.Tallies.{numbers-set}
use Rattle.gm_port.specs.Lists.{taking, filled_in}
use Rattle.gm_port.proofs.Listed.{none-takes, taken-found, taken-within, filled-rest, own-set, own-filled, listed}
use Rattle.gm_port.proofs.buffers.BufferList.fill.Goals as goal

pub unreachable-requires : goal.unreachable-requires
unreachable-requires c =
    none-takes c.args.h.now c.self.inside.provided.items (sym c.first_taking.ensures ∙ c.in_default.is) (subst (λ (b : Buffers). IsSome (find (taking c.args.h.now b.provided) b.provided)) (sym c.self.view_is) c.requires.taken)

-- the token at the place that was found is the one that takes the fragment, and the clause `room` is of it
pub fill_token-requires-clause-room : goal.fill_token-requires-clause-room
fill_token-requires-clause-room c =
    subst (λ o. IfSome o (λ r. c.args.h.now.offset + length c.args.part.now ≤ length r.buffer))
    (taken-found c.self.inside.host c.self.inside.port c.args.h.now c.self.inside.provided.items c.in-Some.at c.index_mut.result.now c.self.invariant.0.own (sym c.first_taking.ensures ∙ c.in-Some.is) c.index_mut.ensures.value).0
    (subst (λ (b : Buffers). IfSome (find (taking c.args.h.now b.provided) b.provided) (λ r. c.args.h.now.offset + length c.args.part.now ≤ length r.buffer)) (sym c.self.view_is) c.requires.room)

pub index_mut-requires : goal.index_mut-requires
index_mut-requires c =
    let at = taken-within c.args.h.now c.self.inside.provided.items c.in-Some.at (sym c.first_taking.ensures ∙ c.in-Some.is) in
    omega (arith, at)

-- the token is of this port as before, and the list as long
pub invariant_of-self : goal.invariant_of-self
invariant_of-self c =
    let is = taken-found c.self.inside.host c.self.inside.port c.args.h.now c.self.inside.provided.items c.in-Some.at c.index_mut.result.now c.self.invariant.0.own (sym c.first_taking.ensures ∙ c.in-Some.is) c.index_mut.ensures.value in (
      record {
        own = own-set c.self.inside.host c.self.inside.port c.self.inside.provided.items c.in-Some.at c.fill_token.new.r c.self.invariant.0.own
            (own-filled c.self.inside.host c.self.inside.port c.args.h.now c.args.part.now c.index_mut.result.now c.fill_token.new.r is.1 c.fill_token.ensures);
        few = subst (λ k. k ≤ c.self.inside.limit) (sym (length-set c.self.inside.provided.items c.in-Some.at c.fill_token.new.r)) c.self.invariant.0.few;
        roomy = c.self.invariant.0.roomy;
        none_listed = c.self.invariant.0.none_listed;
        list_roomy = c.self.invariant.0.list_roomy;
      },
      subst (AreTallied c.self.inside.tally) (sym (numbers-set c.self.inside.provided.items c.in-Some.at c.index_mut.result.now c.fill_token.new.r
          (slice_get_read c.self.inside.provided.items (length c.self.inside.provided.items) c.in-Some.at c.index_mut.result.now refl (taken-within c.args.h.now c.self.inside.provided.items c.in-Some.at (sym c.first_taking.ensures ∙ c.in-Some.is)) c.index_mut.ensures.value)
          (ap (λ (x : ProvidedToken). x.token) c.fill_token.ensures))) c.self.invariant.1,
      λ e. absurd (true≢false e),
    )

pub returns : goal.returns
returns c =
    let more : map provided_of (slice_set c.self.inside.provided.items c.in-Some.at c.fill_token.new.r) ≡ filled_in c.args.h.now c.args.part.now (map provided_of c.self.inside.provided.items) =
    filled-rest c.self.inside.host c.self.inside.port c.args.h.now c.args.part.now c.self.inside.provided.items _ c.in-Some.at c.index_mut.result.now c.fill_token.new.r c.self.invariant.0.own (sym c.first_taking.ensures ∙ c.in-Some.is) c.index_mut.ensures.value
    refl (ap provided_of c.fill_token.ensures) in
    subst (λ (b : Buffers). listed c.self.inside.host c.self.inside.port c.self.inside.limit (map provided_of (slice_set c.self.inside.provided.items c.in-Some.at c.fill_token.new.r)) ≡ record b { provided = filled_in c.args.h.now c.args.part.now b.provided }) c.self.view_is
    (ap (listed c.self.inside.host c.self.inside.port c.self.inside.limit) more)
