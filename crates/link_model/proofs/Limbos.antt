-- What the calls on limbo need.
use Rattle.std.proofs.Common.{◌≡◌, ◌<◌, ◌+◌, ◌^◌, ℕ, Bool, true, false, nat_eq, nat_le, nat_lt, ◌==◌, cond, ◌&&◌, true≢false, List, [], ◌∷◌, ◌++◌, length, Option, Some, None, is_some, refl, sym, ap, ◌∙◌, subst, arith, if◌then◌else◌}
use Rattle.std.specs.List.{AllByRecursion, filter, find}
use Rattle.std.specs.Option.{option_map}
use Rattle.std.specs.Map.{lookup}
use Rattle.std.specs.Ordering.{nat_cmp, is_le}
use Rattle.std.specs.BTreeMap.Range.{range_contains}
use Rattle.std.specs.declared.ops.Bound.TheVariants.{Included, Unbounded}
use Rattle.std.specs.declared.cmp.Ordering.TheVariants.{Less, Equal, Greater}
use Rattle.world_defs.specs.LinkStep.{Replay}
use Rattle.world_defs.proofs.Shapes.{stepped-links}
use Rattle.std.proofs.lemmas.Bool.Decides.{nat_tests, Decides-eqb}
use Rattle.net_defs.proofs.Distinct.{all-weaker, all-push}
use Rattle.world_defs.specs.declared.replayed.Replayed.{Replayed}
use Rattle.world_defs.specs.declared.replayed.Replayed.TheVariants.{Back, Busy}
use Rattle.world_defs.specs.Links.{Held, Caught, LinkState, packet_in}
use Rattle.world_defs.specs.Fault.{is_used_up, with_caught, replay, replay_of, released}
use Rattle.world_defs.specs.Shape.{Rise, IsLinks}

-- what holds of all entries holds of the one that is found
pub found-all : (P : ℕ × Caught → Type 0) (test : ℕ → Bool) (es : List (ℕ × Caught)) (x : Caught) → AllByRecursion P es → lookup test es ≡ Some x → (n : ℕ) × P (n, x)
found-all P test [] x all is = cc
found-all P test (e ∷ es) x all is = by (test e.0) refl (found-all P test es x all.1)
  where
    by : (t : Bool) → test e.0 ≡ t → (lookup test es ≡ Some x → (n : ℕ) × P (n, x)) → (n : ℕ) × P (n, x)
    by true t rest = let same : e.1 ≡ x = cc in (e.0, subst (λ y. P (e.0, y)) same all.0)
    by false t rest = let next : lookup test es ≡ Some x = cc in rest next

-- the channel of a packet in limbo exists
pub channel-below : (s : LinkState) (serial c : ℕ) → IsLinks s → Some c ≡ option_map (λ e. e.channel) (lookup (nat_eq serial) s.limbo) → c < length s.channels
channel-below s serial c is got = by (lookup (nat_eq serial) s.limbo) refl got
  where
    by : (o : Option Caught) → lookup (nat_eq serial) s.limbo ≡ o → Some c ≡ option_map (λ e. e.channel) o → c < length s.channels
    by None found e = cc
    by (Some x) found e =
        let same : x.channel ≡ c = cc in
        subst (λ n. n < length s.channels) same (found-all (λ d. d.1.channel < length s.channels) (nat_eq serial) s.limbo x is.from_channels found).1

-- serials that rise, and one more at the end
rise-push : (es : List (ℕ × Caught)) (n : ℕ) (x : Caught) → Rise es → AllByRecursion (λ e. e.0 < n) es → Rise (es ++ (n, x) ∷ [])
rise-push [] n x rise low = (tt, tt)
rise-push (e ∷ es) n x rise low = (all-push (λ d. e.0 < d.0) es (n, x) rise.0 low.0, rise-push es n x rise.1 low.1)

serial_left : (s : LinkState) → is_used_up s ≡ false → s.next_serial < 2 ^ 64 → s.next_serial + 1 < 2 ^ 64
serial_left s e h = grind (arith, nat_tests)

-- links with a packet more in limbo are links
pub caught-links : (s : LinkState) (c : ℕ) (held : Held) → c < length s.channels → is_used_up s ≡ false → IsLinks s → IsLinks (with_caught s c held)
caught-links s c held low left is =
    let x : Caught = record { channel = c; held = held } in
    let n = s.next_serial in
    record {
      slots = is.slots;
      rising = rise-push s.limbo n x is.rising is.below_next;
      below_next = all-push (λ e. e.0 < n + 1) s.limbo (n, x) (all-weaker (λ e. e.0 < n) (λ e. e.0 < n + 1) s.limbo (λ e h. omega arith) is.below_next) (omega arith);
      from_channels = all-push (λ e. e.1.channel < length s.channels) s.limbo (n, x) is.from_channels low;
      serials = serial_left s left is.serials;
    }

-- a replay into an empty channel
abbrev replay_by : LinkState → ℕ → Caught → Bool → Replayed × LinkState
replay_by s serial x t = if t then (Busy x.channel, s) else (Back x.channel, released s serial x)

pub released-links : (s : LinkState) (serial : ℕ) (x : Caught) → IsLinks s → lookup (nat_eq serial) s.limbo ≡ Some x → is_some (packet_in s x.channel) ≡ false → IsLinks (released s serial x)
released-links s serial x is found empty =
    let after : (replay s serial).1 ≡ released s serial x = ap (λ o. (replay_of s serial o).1) found ∙ ap (λ t. (replay_by s serial x t).1) empty in
    subst IsLinks after (stepped-links s (Replay serial) is)

-- the channel that was named is that of the packet
pub channel-found : (s : LinkState) (serial c : ℕ) (x : Caught) → Some c ≡ option_map (λ e. e.channel) (lookup (nat_eq serial) s.limbo) → lookup (nat_eq serial) s.limbo ≡ Some x → x.channel ≡ c
channel-found s serial c x got found = let both : Some c ≡ Some x.channel = got ∙ ap (option_map (λ e. e.channel)) found in cc

-- the first entry that passes a test is the first of those that pass an equal one
pub find-first : (p q : ℕ × Caught → Bool) (es : List (ℕ × Caught)) → ((e : ℕ × Caught) → p e ≡ q e) → (first : ℕ × Caught) (rest : List (ℕ × Caught)) → filter p es ≡ first ∷ rest → find q es ≡ Some first
find-first p q [] same first rest is = cc
find-first p q (e ∷ es) same first rest is = by (p e) refl (find-first p q es same first rest)
  where
    by : (t : Bool) → p e ≡ t → (filter p es ≡ first ∷ rest → find q es ≡ Some first) → find q (e ∷ es) ≡ Some first
    by true t more = let yes : q e ≡ true = sym (same e) ∙ t in let one : e ∷ filter p es ≡ first ∷ rest = ap (λ b. if b then e ∷ filter p es else filter p es) (sym t) ∙ is in let here : e ≡ first = cc in ap (λ b. if b then Some e else find q es) yes ∙ ap Some here
    by false t more = let no : q e ≡ false = sym (same e) ∙ t in let later : filter p es ≡ first ∷ rest = ap (λ b. if b then e ∷ filter p es else filter p es) (sym t) ∙ is in ap (λ b. if b then Some e else find q es) no ∙ more later

pub find-none : (p q : ℕ × Caught → Bool) (es : List (ℕ × Caught)) → ((e : ℕ × Caught) → p e ≡ q e) → filter p es ≡ [] → find q es ≡ None
find-none p q [] same is = refl
find-none p q (e ∷ es) same is = by (p e) refl (find-none p q es same)
  where
    by : (t : Bool) → p e ≡ t → (filter p es ≡ [] → find q es ≡ None) → find q (e ∷ es) ≡ None
    by true t more = let one : e ∷ filter p es ≡ [] = ap (λ b. if b then e ∷ filter p es else filter p es) (sym t) ∙ is in cc
    by false t more = let no : q e ≡ false = sym (same e) ∙ t in let later : filter p es ≡ [] = ap (λ b. if b then e ∷ filter p es else filter p es) (sym t) ∙ is in ap (λ b. if b then Some e else find q es) no ∙ more later

-- a range from a number on
pub from-test : (from n : ℕ) → range_contains nat_cmp (Included from) Unbounded n ≡ nat_le from n
from-test from n = by (nat_lt from n) (from == n) refl refl
  where
    by : (l e : Bool) → nat_lt from n ≡ l → (from == n) ≡ e → (is_le (cond l Less (cond e Equal Greater)) && true) ≡ nat_le from n
    by true e p q = let yes : nat_le from n ≡ true = grind (arith, nat_tests) in sym yes
    by false true p q = let same : from ≡ n = (Decides-eqb from n).0 q in let yes : nat_le from n ≡ true = grind (arith, nat_tests) in sym yes
    by false false p q = let no : nat_le from n ≡ false = apart (λ same. true≢false (sym ((Decides-eqb from n).1 same) ∙ q)) p in sym no
      where
        apart : (from ≡ n → ⊥) → nat_lt from n ≡ false → nat_le from n ≡ false
        apart d h = grind (arith, nat_tests)
