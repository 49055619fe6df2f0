use Rattle.std.proofs.Common.{◌≡◌, ◌<◌, ◌≤◌, ◌^◌, ℕ, List, length, sym, subst, arith}
use Rattle.number_marks.specs.Marks.{mark_at, IsNextMark}
use Rattle.world_drain.proofs.Sleeping.{next-awake, past-awake, none-awake}
use Rattle.world_drain.proofs.awake.Awake.next.Goals as goal

-- the words are those of the note
here : (xs : List ℕ) {ys : List ℕ} (from n : ℕ) → xs ≡ ys → IsNextMark xs from n → IsNextMark ys from n
here xs from n same is = subst (λ l. IsNextMark l from n) same is

pub next_marked-requires : goal.next_marked-requires
next_marked-requires c = subst (λ l. length l ≤ 2 ^ 32) (sym c.deref.ensures.value) c.requires.rows.short

pub returns-in-Some-clause-found : goal.returns-in-Some-clause-found
returns-in-Some-clause-found c =
    let a = c.args.self.now in
    let low : c.in-Some.c < length c.args.w.now.links.channels = omega (arith, c.if-c-from.true, c.channels.ensures.count) in
    next-awake c.args.w.now a.marks.items a.places.items a.counts.items c.requires c.args.from c.in-Some.c (subst (λ n. IsNextMark a.marks.items n c.in-Some.c) c.from.ensures (here c.deref.result.now c.from.result c.in-Some.c c.deref.ensures.value c.in-Some.ensures.next)) low

pub returns-in_default-clause-none : goal.returns-in_default-clause-none
returns-in_default-clause-none c =
    let a = c.args.self.now in
    let past : length c.args.w.now.links.channels ≤ c.in-Some.c = omega (arith, c.if-c-from.false, c.channels.ensures.count) in
    past-awake c.args.w.now a.marks.items a.places.items a.counts.items c.requires c.args.from c.in-Some.c (subst (λ n. IsNextMark a.marks.items n c.in-Some.c) c.from.ensures (here c.deref.result.now c.from.result c.in-Some.c c.deref.ensures.value c.in-Some.ensures.next)) past

pub returns-in_default-2-clause-none : goal.returns-in_default-2-clause-none
returns-in_default-2-clause-none c =
    let a = c.args.self.now in
    none-awake c.args.w.now a.marks.items a.places.items a.counts.items c.requires c.args.from (subst (λ n. (k : ℕ) → n ≤ k → mark_at a.marks.items k ≡ 0) c.from.ensures (subst (λ l. (k : ℕ) → c.from.result ≤ k → mark_at l k ≡ 0) c.deref.ensures.value c.in_default.ensures.none))
