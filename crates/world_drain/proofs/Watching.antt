-- What is seen of effects in a row is what is seen of the first, and then of the others.
use Rattle.std.proofs.Common.{◌≡◌, ℕ, ◌+◌, Bool, true, false, ◌&&◌, ◌||◌, List, [], ◌∷◌, ◌++◌, nat_eq, if◌then◌else◌, Option, Some, None, is_some, refl, sym, ◌∙◌, ap, arith, true≢false}
use Rattle.world_defs.specs.declared.heard.Heard.TheVariants.{Probe, Reply, Loop, Routes, RoutesAck, Message, Fragment, NotNext, NoToken, Ack}
use Rattle.world_defs.specs.declared.effect.Effect.{Effect}
use Rattle.world_defs.specs.declared.effect.Effect.TheVariants.{Idle, Injected, Moved, Blocked, Arrived, Dropped, Lost, Reset as WasReset, Flipped, Expired, GaveUp, Repeated, Held, Replayed, Staged, Said}
use Rattle.world_defs.specs.Node.{either}
use Rattle.world_defs.specs.Asking.{probed_host, replied_host, has_returned, reply_in, returned_in}
use Rattle.world_defs.specs.Install.{has_part_come, is_acknowledged}
use Rattle.world_defs.specs.Drain.{changed, changes}
use Rattle.world_laws.proofs.Draining.{changes-push, changes-append}
use Rattle.world_drain.specs.declared.seen.AwaitedPart.{AwaitedPart}
use Rattle.world_drain.specs.declared.seen.Watch.{Watch}
use Rattle.world_drain.specs.declared.seen.Seen.{Seen}
use Rattle.world_drain.specs.Watch.{came_in, acked_epoch, acknowledged_in, seen_in, seen_then}

first_if : (b : Bool) (from : ℕ) (rest : Option ℕ) → (if b then Some from else rest) ≡ either (if b then Some from else None) rest
first_if true from rest = refl
first_if false from rest = refl

first_or : (b rest : Bool) → (b || rest) ≡ ((b || false) || rest)
first_or true rest = refl
first_or false rest = refl

some-or : (b : Bool) (epoch : ℕ) (rest : Option ℕ) (heard : Bool) → is_some rest ≡ heard → is_some (if b then Some epoch else rest) ≡ (b || heard)
some-or true epoch rest heard same = refl
some-or false epoch rest heard same = same

either-in-a-row : (a b c : Option ℕ) → either a (either b c) ≡ either (either a b) c
either-in-a-row (Some x) b c = refl
either-in-a-row None b c = refl

or-in-a-row : (a b c : Bool) → (a || (b || c)) ≡ ((a || b) || c)
or-in-a-row true b c = refl
or-in-a-row false b c = refl

-- what the first effect adds
pub probed-push : (x : Effect) (xs : List Effect) → probed_host (x ∷ xs) ≡ either (probed_host (x ∷ [])) (probed_host xs)
probed-push (Arrived h Probe) xs = refl
probed-push _ xs = refl

replied-push : (mapper number : ℕ) (x : Effect) (xs : List Effect) → replied_host mapper number (x ∷ xs) ≡ either (replied_host mapper number (x ∷ [])) (replied_host mapper number xs)
replied-push mapper number (Arrived h (Reply n from)) xs = first_if (nat_eq h mapper && nat_eq n number) from (replied_host mapper number xs)
replied-push mapper number _ xs = refl

returned-push : (mapper number : ℕ) (x : Effect) (xs : List Effect) → has_returned mapper number (x ∷ xs) ≡ (has_returned mapper number (x ∷ []) || has_returned mapper number xs)
returned-push mapper number (Arrived h (Loop n)) xs = first_or (nat_eq h mapper && nat_eq n number) (has_returned mapper number xs)
returned-push mapper number _ xs = refl

come-push : (dst : ℕ) (x : Effect) (xs : List Effect) → has_part_come dst (x ∷ xs) ≡ (has_part_come dst (x ∷ []) || has_part_come dst xs)
come-push dst (Arrived h Routes) xs = first_or (nat_eq h dst) (has_part_come dst xs)
come-push dst _ xs = refl

epoch-push : (mapper dst part : ℕ) (x : Effect) (xs : List Effect) → acked_epoch mapper dst part (x ∷ xs) ≡ either (acked_epoch mapper dst part (x ∷ [])) (acked_epoch mapper dst part xs)
epoch-push mapper dst part (Arrived h (RoutesAck e from p)) xs = first_if (nat_eq h mapper && nat_eq from dst && nat_eq p part) e (acked_epoch mapper dst part xs)
epoch-push mapper dst part _ xs = refl

-- it is heard where there is such an epoch
pub epoch-heard : (mapper dst part : ℕ) (xs : List Effect) → is_some (acked_epoch mapper dst part xs) ≡ is_acknowledged mapper dst part xs
epoch-heard mapper dst part [] = refl
epoch-heard mapper dst part (Idle ∷ xs) = epoch-heard mapper dst part xs
epoch-heard mapper dst part (Injected n ∷ xs) = epoch-heard mapper dst part xs
epoch-heard mapper dst part (Moved c ∷ xs) = epoch-heard mapper dst part xs
epoch-heard mapper dst part (Blocked c ∷ xs) = epoch-heard mapper dst part xs
epoch-heard mapper dst part (Dropped x ∷ xs) = epoch-heard mapper dst part xs
epoch-heard mapper dst part (Lost ∷ xs) = epoch-heard mapper dst part xs
epoch-heard mapper dst part (WasReset ∷ xs) = epoch-heard mapper dst part xs
epoch-heard mapper dst part (Flipped ∷ xs) = epoch-heard mapper dst part xs
epoch-heard mapper dst part (Expired ∷ xs) = epoch-heard mapper dst part xs
epoch-heard mapper dst part (GaveUp ∷ xs) = epoch-heard mapper dst part xs
epoch-heard mapper dst part (Repeated s ∷ xs) = epoch-heard mapper dst part xs
epoch-heard mapper dst part (Held s ∷ xs) = epoch-heard mapper dst part xs
epoch-heard mapper dst part (Replayed c ∷ xs) = epoch-heard mapper dst part xs
epoch-heard mapper dst part (Staged ∷ xs) = epoch-heard mapper dst part xs
epoch-heard mapper dst part (Said s ∷ xs) = epoch-heard mapper dst part xs
epoch-heard mapper dst part (Arrived h Probe ∷ xs) = epoch-heard mapper dst part xs
epoch-heard mapper dst part (Arrived h (Reply n from) ∷ xs) = epoch-heard mapper dst part xs
epoch-heard mapper dst part (Arrived h (Loop n) ∷ xs) = epoch-heard mapper dst part xs
epoch-heard mapper dst part (Arrived h Routes ∷ xs) = epoch-heard mapper dst part xs
epoch-heard mapper dst part (Arrived h (RoutesAck e from p) ∷ xs) = some-or (nat_eq h mapper && nat_eq from dst && nat_eq p part) e (acked_epoch mapper dst part xs) (is_acknowledged mapper dst part xs) (epoch-heard mapper dst part xs)
epoch-heard mapper dst part (Arrived h Message ∷ xs) = epoch-heard mapper dst part xs
epoch-heard mapper dst part (Arrived h Fragment ∷ xs) = epoch-heard mapper dst part xs
epoch-heard mapper dst part (Arrived h NotNext ∷ xs) = epoch-heard mapper dst part xs
epoch-heard mapper dst part (Arrived h NoToken ∷ xs) = epoch-heard mapper dst part xs
epoch-heard mapper dst part (Arrived h Ack ∷ xs) = epoch-heard mapper dst part xs

-- effects in a row
pub probed-append : (xs ys : List Effect) → probed_host (xs ++ ys) ≡ either (probed_host xs) (probed_host ys)
probed-append [] ys = refl
probed-append (x ∷ xs) ys =
    probed-push x (xs ++ ys) ∙ ap (either (probed_host (x ∷ []))) (probed-append xs ys) ∙ either-in-a-row (probed_host (x ∷ [])) (probed_host xs) (probed_host ys)
    ∙ sym (ap (λ o. either o (probed_host ys)) (probed-push x xs))

replied-append : (mapper number : ℕ) (xs ys : List Effect) → replied_host mapper number (xs ++ ys) ≡ either (replied_host mapper number xs) (replied_host mapper number ys)
replied-append mapper number [] ys = refl
replied-append mapper number (x ∷ xs) ys =
    replied-push mapper number x (xs ++ ys) ∙ ap (either (replied_host mapper number (x ∷ []))) (replied-append mapper number xs ys)
    ∙ either-in-a-row (replied_host mapper number (x ∷ [])) (replied_host mapper number xs) (replied_host mapper number ys)
    ∙ sym (ap (λ o. either o (replied_host mapper number ys)) (replied-push mapper number x xs))

returned-append : (mapper number : ℕ) (xs ys : List Effect) → has_returned mapper number (xs ++ ys) ≡ (has_returned mapper number xs || has_returned mapper number ys)
returned-append mapper number [] ys = refl
returned-append mapper number (x ∷ xs) ys =
    returned-push mapper number x (xs ++ ys) ∙ ap (λ b. has_returned mapper number (x ∷ []) || b) (returned-append mapper number xs ys)
    ∙ or-in-a-row (has_returned mapper number (x ∷ [])) (has_returned mapper number xs) (has_returned mapper number ys)
    ∙ sym (ap (λ b. b || has_returned mapper number ys) (returned-push mapper number x xs))

reply_in-append : (mapper : ℕ) (number : Option ℕ) (xs ys : List Effect) → reply_in mapper number (xs ++ ys) ≡ either (reply_in mapper number xs) (reply_in mapper number ys)
reply_in-append mapper None xs ys = refl
reply_in-append mapper (Some n) xs ys = replied-append mapper n xs ys

returned_in-append : (mapper : ℕ) (number : Option ℕ) (xs ys : List Effect) → returned_in mapper number (xs ++ ys) ≡ (returned_in mapper number xs || returned_in mapper number ys)
returned_in-append mapper None xs ys = refl
returned_in-append mapper (Some n) xs ys = returned-append mapper n xs ys

come-append : (dst : ℕ) (xs ys : List Effect) → has_part_come dst (xs ++ ys) ≡ (has_part_come dst xs || has_part_come dst ys)
come-append dst [] ys = refl
come-append dst (x ∷ xs) ys =
    come-push dst x (xs ++ ys) ∙ ap (λ b. has_part_come dst (x ∷ []) || b) (come-append dst xs ys)
    ∙ or-in-a-row (has_part_come dst (x ∷ [])) (has_part_come dst xs) (has_part_come dst ys)
    ∙ sym (ap (λ b. b || has_part_come dst ys) (come-push dst x xs))

epoch-append : (mapper dst part : ℕ) (xs ys : List Effect) → acked_epoch mapper dst part (xs ++ ys) ≡ either (acked_epoch mapper dst part xs) (acked_epoch mapper dst part ys)
epoch-append mapper dst part [] ys = refl
epoch-append mapper dst part (x ∷ xs) ys =
    epoch-push mapper dst part x (xs ++ ys) ∙ ap (either (acked_epoch mapper dst part (x ∷ []))) (epoch-append mapper dst part xs ys)
    ∙ either-in-a-row (acked_epoch mapper dst part (x ∷ [])) (acked_epoch mapper dst part xs) (acked_epoch mapper dst part ys)
    ∙ sym (ap (λ o. either o (acked_epoch mapper dst part ys)) (epoch-push mapper dst part x xs))

came_in-append : (p : Option AwaitedPart) (xs ys : List Effect) → came_in p (xs ++ ys) ≡ (came_in p xs || came_in p ys)
came_in-append None xs ys = refl
came_in-append (Some p) xs ys = come-append p.dst xs ys

acknowledged_in-append : (mapper : ℕ) (p : Option AwaitedPart) (xs ys : List Effect) → acknowledged_in mapper p (xs ++ ys) ≡ either (acknowledged_in mapper p xs) (acknowledged_in mapper p ys)
acknowledged_in-append mapper None xs ys = refl
acknowledged_in-append mapper (Some p) xs ys = epoch-append mapper p.dst p.part xs ys

same_seen : (a b : Seen) → a.changes ≡ b.changes → a.probed ≡ b.probed → a.replied ≡ b.replied → a.returned ≡ b.returned → a.came ≡ b.came → a.acknowledged ≡ b.acknowledged → a ≡ b
same_seen a b c p r t m k = λ i. record { changes = c i; probed = p i; replied = r i; returned = t i; came = m i; acknowledged = k i }

pub seen-append : (watch : Watch) (xs ys : List Effect) → seen_in watch (xs ++ ys) ≡ seen_then (seen_in watch xs) (seen_in watch ys)
seen-append watch xs ys =
    same_seen (seen_in watch (xs ++ ys)) (seen_then (seen_in watch xs) (seen_in watch ys))
    (changes-append xs ys) (probed-append xs ys) (reply_in-append watch.mapper watch.number xs ys) (returned_in-append watch.mapper watch.number xs ys)
    (came_in-append watch.part xs ys) (acknowledged_in-append watch.mapper watch.part xs ys)

pub seen-push : (watch : Watch) (x : Effect) (xs : List Effect) → seen_in watch (x ∷ xs) ≡ seen_then (seen_in watch (x ∷ [])) (seen_in watch xs)
seen-push watch x xs = seen-append watch (x ∷ []) xs

idle-reply : (mapper : ℕ) (number : Option ℕ) (xs : List Effect) → reply_in mapper number (Idle ∷ xs) ≡ reply_in mapper number xs
idle-reply mapper None xs = refl
idle-reply mapper (Some n) xs = refl

idle-return : (mapper : ℕ) (number : Option ℕ) (xs : List Effect) → returned_in mapper number (Idle ∷ xs) ≡ returned_in mapper number xs
idle-return mapper None xs = refl
idle-return mapper (Some n) xs = refl

idle-come : (p : Option AwaitedPart) (xs : List Effect) → came_in p (Idle ∷ xs) ≡ came_in p xs
idle-come None xs = refl
idle-come (Some p) xs = refl

idle-acknowledged : (mapper : ℕ) (p : Option AwaitedPart) (xs : List Effect) → acknowledged_in mapper p (Idle ∷ xs) ≡ acknowledged_in mapper p xs
idle-acknowledged mapper None xs = refl
idle-acknowledged mapper (Some p) xs = refl

-- an event that wasn't possible shows nothing
pub seen-idle : (watch : Watch) (xs : List Effect) → seen_in watch (Idle ∷ xs) ≡ seen_in watch xs
seen-idle watch xs =
    same_seen (seen_in watch (Idle ∷ xs)) (seen_in watch xs) refl refl (idle-reply watch.mapper watch.number xs) (idle-return watch.mapper watch.number xs)
    (idle-come watch.part xs) (idle-acknowledged watch.mapper watch.part xs)

pub then-in-a-row : (a b c : Seen) → seen_then a (seen_then b c) ≡ seen_then (seen_then a b) c
then-in-a-row a b c =
    let sum : a.changes + (b.changes + c.changes) ≡ a.changes + b.changes + c.changes = omega arith in
    same_seen (seen_then a (seen_then b c)) (seen_then (seen_then a b) c)
    sum (either-in-a-row a.probed b.probed c.probed) (either-in-a-row a.replied b.replied c.replied) (or-in-a-row a.returned b.returned c.returned)
    (or-in-a-row a.came b.came c.came) (either-in-a-row a.acknowledged b.acknowledged c.acknowledged)

or-none : (a : Option ℕ) → either a None ≡ a
or-none (Some x) = refl
or-none None = refl

or-false : (b : Bool) → (b || false) ≡ b
or-false true = refl
or-false false = refl

none-replied : (mapper : ℕ) (number : Option ℕ) → reply_in mapper number [] ≡ None
none-replied mapper None = refl
none-replied mapper (Some n) = refl

none-returned : (mapper : ℕ) (number : Option ℕ) → returned_in mapper number [] ≡ false
none-returned mapper None = refl
none-returned mapper (Some n) = refl

none-came : (p : Option AwaitedPart) → came_in p [] ≡ false
none-came None = refl
none-came (Some p) = refl

none-acknowledged : (mapper : ℕ) (p : Option AwaitedPart) → acknowledged_in mapper p [] ≡ None
none-acknowledged mapper None = refl
none-acknowledged mapper (Some p) = refl

-- nothing seen after it changes nothing
pub then-nothing : (watch : Watch) (s : Seen) → seen_then s (seen_in watch []) ≡ s
then-nothing watch s =
    same_seen (seen_then s (seen_in watch [])) s (omega arith) (or-none s.probed)
    (ap (either s.replied) (none-replied watch.mapper watch.number) ∙ or-none s.replied) (ap (λ b. s.returned || b) (none-returned watch.mapper watch.number) ∙ or-false s.returned)
    (ap (λ b. s.came || b) (none-came watch.part) ∙ or-false s.came) (ap (either s.acknowledged) (none-acknowledged watch.mapper watch.part) ∙ or-none s.acknowledged)

-- nor does nothing before it, and so many changes that show nothing add themselves alone
nothing-then : (watch : Watch) (s : Seen) → seen_then (seen_in watch []) s ≡ s
nothing-then watch s =
    same_seen (seen_then (seen_in watch []) s) s (omega arith) refl
    (ap (λ o. either o s.replied) (none-replied watch.mapper watch.number)) (ap (λ b. b || s.returned) (none-returned watch.mapper watch.number))
    (ap (λ b. b || s.came) (none-came watch.part)) (ap (λ o. either o s.acknowledged) (none-acknowledged watch.mapper watch.part))

abbrev pub hopped : Watch → ℕ → Seen
hopped watch n = record (seen_in watch []) { changes = n }

pub hopped-then : (watch : Watch) (n : ℕ) (s : Seen) → seen_then (hopped watch n) s ≡ record s { changes = n + s.changes }
hopped-then watch n s = ap (λ (t : Seen). record t { changes = n + s.changes }) (nothing-then watch s)

-- a packet that goes on is one change, and one that waits is none; neither shows anything else
seen-moved : (watch : Watch) (next : ℕ) → seen_in watch (Moved next ∷ []) ≡ record (seen_in watch []) { changes = 1 }
seen-moved watch next = by watch.number watch.part
  where
    by : (n : Option ℕ) (p : Option AwaitedPart) → seen_in (record watch { number = n; part = p }) (Moved next ∷ []) ≡ record (seen_in (record watch { number = n; part = p }) []) { changes = 1 }
    by None None = refl
    by None (Some p) = refl
    by (Some n) None = refl
    by (Some n) (Some p) = refl

seen-blocked : (watch : Watch) (next : ℕ) → seen_in watch (Blocked next ∷ []) ≡ seen_in watch []
seen-blocked watch next = by watch.number watch.part
  where
    by : (n : Option ℕ) (p : Option AwaitedPart) → seen_in (record watch { number = n; part = p }) (Blocked next ∷ []) ≡ seen_in (record watch { number = n; part = p }) []
    by None None = refl
    by None (Some p) = refl
    by (Some n) None = refl
    by (Some n) (Some p) = refl

pub then-moved : (watch : Watch) (s : Seen) (next : ℕ) → seen_then s (seen_in watch (Moved next ∷ [])) ≡ record s { changes = s.changes + 1 }
then-moved watch s next = ap (seen_then s) (seen-moved watch next) ∙ ap (λ (t : Seen). record t { changes = s.changes + 1 }) (then-nothing watch s)

pub then-blocked : (watch : Watch) (s : Seen) (next : ℕ) → seen_then s (seen_in watch (Blocked next ∷ [])) ≡ s
then-blocked watch s next = ap (seen_then s) (seen-blocked watch next) ∙ then-nothing watch s

-- an event that changed nothing shows nothing
pub unchanged-nothing : (watch : Watch) (x : Effect) → changed x ≡ false → seen_in watch (x ∷ []) ≡ seen_in watch []
unchanged-nothing watch Idle e = seen-idle watch []
unchanged-nothing watch (Blocked c) e = seen-blocked watch c
unchanged-nothing watch (Injected n) e = absurd (true≢false e)
unchanged-nothing watch (Moved c) e = absurd (true≢false e)
unchanged-nothing watch (Arrived h x) e = absurd (true≢false e)
unchanged-nothing watch (Dropped x) e = absurd (true≢false e)
unchanged-nothing watch Lost e = absurd (true≢false e)
unchanged-nothing watch WasReset e = absurd (true≢false e)
unchanged-nothing watch Flipped e = absurd (true≢false e)
unchanged-nothing watch Expired e = absurd (true≢false e)
unchanged-nothing watch GaveUp e = absurd (true≢false e)
unchanged-nothing watch (Repeated s) e = absurd (true≢false e)
unchanged-nothing watch (Held s) e = absurd (true≢false e)
unchanged-nothing watch (Replayed c) e = absurd (true≢false e)
unchanged-nothing watch Staged e = absurd (true≢false e)
unchanged-nothing watch (Said s) e = absurd (true≢false e)

-- nor do several
pub unchanged-all : (watch : Watch) (xs : List Effect) → changes xs ≡ 0 → seen_in watch xs ≡ seen_in watch []
unchanged-all watch [] e = refl
unchanged-all watch (x ∷ xs) e = by (changed x) refl (unchanged-all watch xs)
  where
    by : (t : Bool) → changed x ≡ t → (changes xs ≡ 0 → seen_in watch xs ≡ seen_in watch []) → seen_in watch (x ∷ xs) ≡ seen_in watch []
    by true c rest = let a = changes-push x xs true c in absurd (omega (arith, a, e))
    by false c rest =
        let a = changes-push x xs false c in
        seen-push watch x xs ∙ ap (λ s. seen_then s (seen_in watch xs)) (unchanged-nothing watch x c) ∙ sym (seen-append watch [] xs) ∙ rest (omega (arith, a, e))
