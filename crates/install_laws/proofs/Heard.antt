-- What hosts make of the packets of an installation: the part's host takes it and answers, and the adopter hears that.
use Rattle.std.proofs.Common.{◌≡◌, ◌<◌, ◌^◌, ℕ, Bool, true, false, ◌&&◌, ◌||◌, nat_eq, nat_lt, List, [], ◌∷◌, Option, Some, None, refl, sym, ap, ◌∙◌, true≢false, if◌then◌else◌}
use Rattle.std.specs.Prelude.{ℤ}
use Rattle.std.specs.List.{AllByRecursion, list_all}
use Rattle.net_defs.specs.Turn.{IsTurn}
use Rattle.world_defs.specs.Mapping.{RouteEntry, RoutePart, is_part}
use Rattle.world_defs.specs.Mapping.MappingBody.{Part as PartBody, PartAck}
use Rattle.world_defs.specs.declared.applied.Applied.{Applied}
use Rattle.world_defs.specs.declared.applied.Applied.TheVariants.{Active, Old}
use Rattle.world_defs.specs.declared.effect.Effect.{Effect}
use Rattle.world_defs.specs.declared.effect.Effect.TheVariants.{Arrived}
use Rattle.world_defs.specs.declared.heard.Heard.{Heard}
use Rattle.world_defs.specs.declared.heard.Heard.TheVariants.{Routes, RoutesAck}
use Rattle.world_defs.specs.Table.{TableState, of_epoch, collected_with, joined_or, joined_below, is_epoch, active_epoch, is_old, applied}
use Rattle.world_defs.specs.Node.{NodeState, StagedAck, StagedPart, TablePart, PartAnswer, to_send, packet_for, after_sending}
use Rattle.world_defs.specs.Hearing.{heard_if, is_part_for, part_heard}
use Rattle.world_defs.specs.World.{WorldState, host_count, node_at, with_node}
use Rattle.world_defs.specs.Step.{arrived}
use Rattle.world_defs.specs.Install.{has_part_come, is_acknowledged}
use Rattle.ask_laws.proofs.Drained.{told}
use Rattle.ask_laws.proofs.Parcels.{IsParcel, hears_in}
use Rattle.ask_laws.proofs.Tries.{equal, below}
use Rattle.ask_laws.specs.Kept.{SamePorts}
use Rattle.install_laws.proofs.Between.{IsBetween}
use Rattle.install_laws.proofs.Tables.{applied-due}

-- what an installation reads of effects is what hosts heard
come_in : ℕ → List (ℕ × Heard) → Bool
come_in dst [] = false
come_in dst ((h, Routes) ∷ xs) = nat_eq h dst || come_in dst xs
come_in dst (_ ∷ xs) = come_in dst xs

answered_in : ℕ → ℕ → ℕ → List (ℕ × Heard) → Bool
answered_in mapper dst part [] = false
answered_in mapper dst part ((h, RoutesAck epoch from p) ∷ xs) = (nat_eq h mapper && nat_eq from dst && nat_eq p part) || answered_in mapper dst part xs
answered_in mapper dst part (_ ∷ xs) = answered_in mapper dst part xs

come-told : (dst : ℕ) (xs : List Effect) → has_part_come dst xs ≡ come_in dst (told xs)
unfolding come_in
come-told dst [] = refl
come-told dst (Arrived h Routes ∷ xs) = ap (λ b. nat_eq h dst || b) (come-told dst xs)
come-told dst (Arrived h _ ∷ xs) = come-told dst xs
come-told dst (_ ∷ xs) = come-told dst xs

answered-told : (mapper dst part : ℕ) (xs : List Effect) → is_acknowledged mapper dst part xs ≡ answered_in mapper dst part (told xs)
unfolding answered_in
answered-told mapper dst part [] = refl
answered-told mapper dst part (Arrived h (RoutesAck epoch from p) ∷ xs) = ap (λ b. (nat_eq h mapper && nat_eq from dst && nat_eq p part) || b) (answered-told mapper dst part xs)
answered-told mapper dst part (Arrived h _ ∷ xs) = answered-told mapper dst part xs
answered-told mapper dst part (_ ∷ xs) = answered-told mapper dst part xs

pub no_part : (dst : ℕ) (xs : List Effect) → told xs ≡ [] → has_part_come dst xs ≡ false
unfolding come_in
no_part dst xs e = come-told dst xs ∙ ap (come_in dst) e

pub one_part : (dst : ℕ) (xs : List Effect) → told xs ≡ (dst, Routes) ∷ [] → has_part_come dst xs ≡ true
unfolding come_in
one_part dst xs e = come-told dst xs ∙ ap (come_in dst) e ∙ rw (equal dst) refl

pub no_answer : (mapper dst part : ℕ) (xs : List Effect) → told xs ≡ [] → is_acknowledged mapper dst part xs ≡ false
unfolding answered_in
no_answer mapper dst part xs e = answered-told mapper dst part xs ∙ ap (answered_in mapper dst part) e

pub one_answer : (mapper dst part epoch : ℕ) (xs : List Effect) → told xs ≡ (mapper, RoutesAck epoch dst part) ∷ [] → is_acknowledged mapper dst part xs ≡ true
unfolding answered_in
one_answer mapper dst part epoch xs e = answered-told mapper dst part xs ∙ ap (answered_in mapper dst part) e ∙ rw (equal mapper, equal dst, equal part) refl

-- what is sent first
pub part-first : (h : ℕ) (n : NodeState) (p : RoutePart) (by : List ℤ) → n.staged ≡ Some (StagedPart p by) → to_send h n ≡ Some (TablePart p by)
unfolding to_send
part-first h n p by e = rw e refl

pub answer-first : (h : ℕ) (n : NodeState) (x : StagedAck) → n.staged ≡ None → n.reply ≡ None → n.part_ack ≡ Some x → to_send h n ≡ Some (PartAnswer x)
unfolding to_send
answer-first h n x e f g = rw (e, f, g) refl

-- what is left of the host after it
pub part-left : (epoch mapper h : ℕ) (n : NodeState) (p : RoutePart) (by : List ℤ) → IsBetween epoch mapper h n → IsBetween epoch mapper h (after_sending n (TablePart p by)) × SamePorts n (after_sending n (TablePart p by))
unfolding after_sending
part-left epoch mapper h n p by b = (record { unstaged = λ other. refl; no_reply = b.no_reply; due = b.due }, record { lanes = refl; ports = refl })

pub answer-left : (epoch mapper h : ℕ) (n : NodeState) (x : StagedAck) → IsBetween epoch mapper h n → IsBetween epoch mapper h (after_sending n (PartAnswer x)) × SamePorts n (after_sending n (PartAnswer x))
unfolding after_sending
answer-left epoch mapper h n x b = (record { unstaged = b.unstaged; no_reply = b.no_reply; due = b.due }, record { lanes = refl; ports = refl })

-- packets by the rules
pub part-parcel : (w : WorldState) (h : ℕ) (p : RoutePart) (by : List ℤ) → AllByRecursion IsTurn by → is_part p ≡ true → IsParcel w h (TablePart p by) by (PartBody p)
unfolding packet_for
part-parcel w h p by turns rules = record { written = refl; turns = turns; valid = rules }

pub answer-parcel : (w : WorldState) (h : ℕ) (x : StagedAck) → AllByRecursion IsTurn x.back → x.epoch < 2 ^ 32 → h < 2 ^ 16 → x.part < 256 → IsParcel w h (PartAnswer x) x.back (PartAck x.epoch h x.part)
unfolding packet_for
answer-parcel w h x turns a b c = record { written = refl; turns = turns; valid = rw (below x.epoch (2 ^ 32) a, below h (2 ^ 16) b, below x.part 256 c) refl }

-- a host that has taken a part
abbrev pub ack_of : RoutePart → StagedAck
ack_of p = record { epoch = p.epoch; part = p.part; back = p.back }

abbrev pub with_taken : NodeState → RoutePart → NodeState
with_taken n p = record n { table = (applied n.table p).1; part_ack = Some (ack_of p) }

-- a part that isn't old is taken
pub taken : (n : NodeState) (p : RoutePart) → is_old n.table p.epoch ≡ false → part_heard n p (applied n.table p) ≡ with_taken n p
unfolding applied
taken n p due = by (is_old n.table p.epoch) (is_epoch p.epoch (active_epoch n.table)) refl
  where
    v : TableState
    v = collected_with (of_epoch n.table p.epoch) p

    joins : (o : Option (List RouteEntry)) → part_heard n p (joined_or v o) ≡ record n { table = (joined_or v o).1; part_ack = Some (ack_of p) }
    joins None = refl
    joins (Some entries) = refl

    result : Bool → Bool → Applied × TableState
    result b c = if b then (Old, n.table) else if c then (Active, n.table) else joined_or v (joined_below p.parts v.collected)

    by : (b c : Bool) → is_old n.table p.epoch ≡ b → part_heard n p (result b c) ≡ record n { table = (result b c).1; part_ack = Some (ack_of p) }
    by true c e = absurd (true≢false (sym e ∙ due))
    by false true e = refl
    by false false e = joins (joined_below p.parts v.collected)

pub taken-between : (epoch mapper h : ℕ) (n : NodeState) (p : RoutePart) → p.epoch ≡ epoch → IsBetween epoch mapper h n → IsBetween epoch mapper h (with_taken n p)
taken-between epoch mapper h n p one b = record { unstaged = b.unstaged; no_reply = b.no_reply; due = applied-due n.table p epoch one b.due }

-- the part is heard at its host
pub part-heard : (base : WorldState) (g : ℕ) (p : RoutePart) → p.dst ≡ g → p.mapper < host_count base → list_all (λ e. nat_lt e.to (host_count base)) p.entries ≡ true → is_old (node_at base g).table p.epoch ≡ false → hears_in base g (PartBody p) ≡ (Arrived g Routes, with_node base g (with_taken (node_at base g) p))
part-heard base g p to mapper known due =
    let n : NodeState = node_at base g in
    let mine : nat_eq p.dst g ≡ true = ap (λ h. nat_eq h g) to ∙ equal g in
    let fits : is_part_for g (host_count base) p ≡ true = rw (mine, below p.mapper (host_count base) mapper, known) refl in
    ap (λ b. arrived base g (heard_if b n (Routes, part_heard n p (applied n.table p)))) fits ∙ ap (λ m. (Arrived g Routes, with_node base g m)) (taken n p due)

-- and its acknowledgement
pub answer-heard : (base : WorldState) (g epoch from part : ℕ) → from < host_count base → hears_in base g (PartAck epoch from part) ≡ (Arrived g (RoutesAck epoch from part), with_node base g (node_at base g))
answer-heard base g epoch from part low = ap (λ b. arrived base g (heard_if b (node_at base g) (RoutesAck epoch from part, node_at base g))) (below from (host_count base) low)
