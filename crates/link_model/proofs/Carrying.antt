-- Idle links carry a packet as if it stood in each channel of its way.
use Rattle.std.proofs.Common.{◌≡◌, ◌≢◌, ◌<◌, ℕ, zero, suc, Bool, true, false, List, [], ◌∷◌, length, get_or, set, Option, Some, None, is_some, refl, sym, ap, ◌∙◌, subst, arith, if◌then◌else◌}
use Rattle.std.specs.Prelude.{Result, Ok, Err, is_none}
use Rattle.std.specs.List.{list_all}
use Rattle.std.proofs.Math.ListN.{length-set}
use Rattle.std.proofs.lemmas.List.{get_or-set_same, get_or-set_other}
use Rattle.world_defs.specs.declared.moved.Why.{Why}
use Rattle.world_defs.specs.declared.moved.Course.TheVariants.{Enters}
use Rattle.world_defs.specs.Shape.{IsLinks}
use Rattle.world_defs.specs.Links.{Held, LinkState, packet_in, with_packet, emptied, is_idle, put}
use Rattle.world_defs.specs.Advance.{course, gone_on, advance_of, advance}
use Rattle.world_defs.proofs.Slots.{set-same}
use Rattle.link_model.specs.FullSlots.{IsLone}
use Rattle.link_model.specs.Hop.{IsSentAlong, IsRun}
use Rattle.link_model.specs.Carried.{course_to, ended, IsCarried}
use Rattle.link_model.proofs.Counting.{set-set}
use Rattle.link_model.proofs.Stepping.{written-links}
use Rattle.link_model.proofs.Runs.{RunsOut, moved_to, runs-out}

-- no channel of idle links holds a packet
pub none-in : (ps : List (Option Held)) → list_all is_none ps ≡ true → (c : ℕ) → get_or ps c None ≡ None
none-in [] idle c = refl
none-in (None ∷ ps) idle zero = refl
none-in (None ∷ ps) idle (suc c) = none-in ps idle c
none-in (Some p ∷ ps) idle c = cc

-- a new packet, as it enters a channel
abbrev entering : LinkState → List ℕ → Held
entering s wire = record { wire = wire; marked = false; born = s.epoch }

-- idle links with one packet
abbrev with_one : LinkState → ℕ → List ℕ → LinkState
with_one s c wire = with_packet s c (Some (entering s wire))

put-one : (s : LinkState) (c : ℕ) (wire : List ℕ) → packet_in s c ≡ None → (put s c wire).1 ≡ with_one s c wire
put-one s c wire none = ap (λ o. (if◌then◌else◌ {A = Bool × LinkState} (is_some o) (false, s) (true, with_one s c wire)).1) none

-- once its channel is emptied they are as before
emptied-one : (s : LinkState) (c : ℕ) (wire : List ℕ) → packet_in s c ≡ None → emptied (with_one s c wire) c ≡ s
emptied-one s c wire none =
    ap (λ l. record s { channels = l }) (set-set s.channels c (Some (entering s wire)) None ∙ set-same s.channels c None none)

one-there : (s : LinkState) (c : ℕ) (wire : List ℕ) → c < length s.channels → packet_in (with_one s c wire) c ≡ Some (entering s wire)
one-there s c wire low = get_or-set_same s.channels c (Some (entering s wire)) None low

one-lone : (s : LinkState) (c : ℕ) (wire : List ℕ) → c < length s.channels → ((k : ℕ) → packet_in s k ≡ None) → IsLone (with_one s c wire).channels c
one-lone s c wire low none = record {
  there = let long = length-set {A = Option Held} s.channels c (Some (entering s wire)) in omega (arith, low, long);
  full = ap is_some (one-there s c wire low);
  others = λ k other. get_or-set_other s.channels c k (Some (entering s wire)) None other ∙ none k;
}

-- its last advance
one-ends : (s : LinkState) (at : ℕ) (now : List ℕ) (end : Result ℕ Why) → packet_in (with_one s at now) at ≡ Some (entering s now) → course_to end ≡ course s.cables at now
    → advance (with_one s at now) at ≡ (ended end now, emptied (with_one s at now) at)
one-ends s at now (Ok h) there to = ap (advance_of (with_one s at now) at) there ∙ ap (gone_on (with_one s at now) at (entering s now)) (sym to)
one-ends s at now (Err why) there to = ap (advance_of (with_one s at now) at) there ∙ ap (gone_on (with_one s at now) at (entering s now)) (sym to)

pub carries : (s : LinkState) (c hops at : ℕ) (wire now : List ℕ) (end : Result ℕ Why) → IsLinks s → is_idle s ≡ true → c < length s.channels → at < length s.channels
    → IsSentAlong s.cables c wire hops at now → ((next : ℕ) → course s.cables at now ≢ Enters next) → course_to end ≡ course s.cables at now → IsCarried s c wire hops end now
carries s c hops at wire now end links idle low below along not to =
    let none : (k : ℕ) → packet_in s k ≡ None = none-in s.channels idle in
    let t : LinkState = with_one s c wire in
    let long : length t.channels ≡ length s.channels = length-set {A = Option Held} s.channels c (Some (entering s wire)) in
    let lone : IsLone t.channels c = one-lone s c wire low none in
    let out : RunsOut t (moved_to t c (entering s wire) at now) c hops at = runs-out t c (entering s wire) hops at now (written-links s t.channels long links) lone (one-there s c wire low) along not in
    let moved : moved_to t c (entering s wire) at now ≡ with_one s at now = ap (λ u. with_packet u at (Some (entering s now))) (emptied-one s c wire (none c)) in
    let first : (put s c wire).1 ≡ t = put-one s c wire (none c) in
    let last : (put s at now).1 ≡ with_one s at now = put-one s at now (none at) in
    record {
      at = at;
      enters = subst (λ (u : LinkState). IsLone u.channels c) (sym first) lone;
      run = subst (λ (u : LinkState). IsRun u c hops at (put s at now).1) (sym first) (subst (IsRun t c hops at) (moved ∙ sym last) out.run);
      stays = subst (λ (u : LinkState). IsLone u.channels at) (sym last) (one-lone s at now below none);
      goes = to;
      leaves =
          ap (λ u. advance u at) last ∙ one-ends s at now end (one-there s at now below) to
          ∙ ap (λ u. (ended end now, u)) (emptied-one s at now (none at));
    }
