-- What the answers tell of messages is what the lines of a run show of them: those received on a lane, and those sent.
use Rattle.std.proofs.Common.{◌≡◌, ◌<◌, ◌≤◌, ◌+◌, ◌%◌, ◌^◌, ◌&&◌, ℕ, Bool, true, false, cond, List, [], ◌∷◌, ◌++◌, map, length, min, nat_eq, nat_lt, refl, sym, ap, ◌∙◌, subst, append_assoc, append-nil, true≢false, arith, if◌then◌else◌}
use Rattle.std.specs.List.{AllByRecursion, filter, range_with_len}
use Rattle.std.proofs.lemmas.Bool.Decides.{nat_tests, Decides-eqb}
use Rattle.std.proofs.lemmas.List.{length-map}
use Rattle.std.proofs.lemmas.List.FromFn.{length-range_with_len}
use Rattle.net_defs.specs.Network.{Network}
use Rattle.net_defs.proofs.Distinct.{all-weaker}
use Rattle.journal_defs.proofs.Members.{all-join}
use Rattle.gm_defs.specs.declared.message.Message.{Message}
use Rattle.gm_defs.specs.declared.frame.ConnectionKey.{ConnectionKey}
use Rattle.gm_defs.specs.Body.{prio_limit}
use Rattle.gm_defs.specs.Blob.{counted}
use Rattle.fab_script.specs.Ranges.{IsHost, IsCommandOf}
use Rattle.world_defs.specs.declared.effect.Effect.TheVariants.{Said as Says}
use Rattle.world_defs.specs.declared.effect.Said.{Said}
use Rattle.world_defs.specs.declared.effect.Said.TheVariants.{Done, Count, Token, Sent as SaidSent, Received as SaidReceived, Nothing, Refused}
use Rattle.world_defs.specs.Client.{wanted_message}
use Rattle.world_defs.specs.Node.{prio_place}
use Rattle.world_defs.specs.Sound.{IsPrefix}
use Rattle.world_defs.specs.Step.{wanted}
use Rattle.world_defs.specs.World.{WorldState}
use Rattle.port_ledgers.specs.declared.lane.Lane.{Lane}
use Rattle.port_ledgers.specs.Told.{Told, message_on, sent_by, received_by, sent_told, received_told, AreInOrder}
use Rattle.run_defs.specs.declared.command.Command.{Command}
use Rattle.run_defs.specs.declared.command.Command.TheVariants.{Send}
use Rattle.run_defs.specs.Output.{Piece, OneLine, MapLines}
use Rattle.client_laws.specs.Handed.{Handed, IsOfConnection, is_on, is_to, as_handed, in_send}
use Rattle.promise_laws.specs.ReceivedLines.{received_in_line, received_in, send_answer, send_answers, is_send, accepted_as, accepted_by_lines, accepted_of, AreReceivedAsSent}
use Rattle.judge_laws.specs.Lines.{IsCounted}
use Rattle.judge_laws.proofs.Names.{host-there}
use Rattle.judge_laws.proofs.CallSaying.{AreBytes}

-- a number equals itself
pub same-number : (t : ℕ) → nat_eq t t ≡ true
same-number t = (Decides-eqb t t).1 refl

-- A message that a line shows is from a host of the fabric, from a port and of a priority that it may have, and its
-- bytes are bytes.
pub record IsShown (n : Network) (from sport prio : ℕ) (body : List ℕ) : Type 0 where
  pub sender : IsHost n from
  pub of_port : sport ≤ 7
  pub of_prio : prio ≤ 1
  pub long : IsCounted (length body)
  pub bytes : AreBytes body

-- the connection of a lane
abbrev pub connection : Lane → ConnectionKey
connection k = record { src = k.from; dst = k.to; prio = k.prio }

-- a message that was handed out, on a lane
abbrev pub on : Lane → Handed → Message
on k x = message_on k x.sport x.bytes

-- the messages of a lane among those sent on its connection
abbrev pub of_lane : Lane → Message → Bool
of_lane k m = nat_eq m.dport k.port && nat_eq m.prio k.prio

-- What is told of messages is what lines show: those received on a lane, and those that accepted sends handed in.
pub record AreMessagesTold (commands : List Command) (out : List Piece) (past : List Told) : Type 0 where
  pub received : (k : Lane) → received_told k past ≡ map (on k) (filter (is_on k.from k.prio) (received_in k.to k.port out))
  pub sent : (k : Lane) → k.prio < prio_limit → sent_told k past ≡ filter (of_lane k) (accepted_of (connection k) commands out)

-- lists in order
filter-join : {X : Type 0} (p : X → Bool) (xs ys : List X) → filter p (xs ++ ys) ≡ filter p xs ++ filter p ys
filter-join p [] ys = refl
filter-join p (x ∷ xs) ys = by (p x) (filter-join p xs ys)
  where
    by : (t : Bool) → filter p (xs ++ ys) ≡ filter p xs ++ filter p ys → cond t (x ∷ filter p (xs ++ ys)) (filter p (xs ++ ys)) ≡ cond t (x ∷ filter p xs) (filter p xs) ++ filter p ys
    by true e = ap (λ l. x ∷ l) e
    by false e = e

map-join : {X Y : Type 0} (f : X → Y) (xs ys : List X) → map f (xs ++ ys) ≡ map f xs ++ map f ys
map-join f [] ys = refl
map-join f (x ∷ xs) ys = ap (λ l. f x ∷ l) (map-join f xs ys)

pub received-join : (h port : ℕ) (xs ys : List Piece) → received_in h port (xs ++ ys) ≡ received_in h port xs ++ received_in h port ys
received-join h port [] ys = refl
received-join h port (OneLine l ∷ xs) ys = ap (λ t. received_in_line h port l ++ t) (received-join h port xs ys) ∙ sym (append_assoc (received_in_line h port l) (received_in h port xs) (received_in h port ys))
received-join h port (MapLines m ∷ xs) ys = received-join h port xs ys

pub answers-join : (xs ys : List Piece) → send_answers (xs ++ ys) ≡ send_answers xs ++ send_answers ys
answers-join [] ys = refl
answers-join (OneLine l ∷ xs) ys = ap (λ t. send_answer l ++ t) (answers-join xs ys) ∙ sym (append_assoc (send_answer l) (send_answers xs) (send_answers ys))
answers-join (MapLines m ∷ xs) ys = answers-join xs ys

-- the sends of a run and those after it, each by its own line
accepted-join : (c : ConnectionKey) (xs ys : List Command) (ss ts : List Said) → length ss ≡ length xs → accepted_by_lines c (xs ++ ys) (ss ++ ts) ≡ accepted_by_lines c xs ss ++ accepted_by_lines c ys ts
accepted-join c [] ys [] ts e = refl
accepted-join c [] ys (s ∷ ss) ts e = absurd (omega (arith, e))
accepted-join c (x ∷ xs) ys [] ts e = absurd (omega (arith, e))
accepted-join c (x ∷ xs) ys (s ∷ ss) ts e =
    ap (λ t. accepted_as c x s ++ t) (accepted-join c xs ys ss ts (omega (arith, e))) ∙ sym (append_assoc (accepted_as c x s) (accepted_by_lines c xs ss) (accepted_by_lines c ys ts))

pub accepted-more : (c : ConnectionKey) (commands more : List Command) (out printed : List Piece) → length (send_answers out) ≡ length (filter is_send commands)
    → accepted_of c (commands ++ more) (out ++ printed) ≡ accepted_of c commands out ++ accepted_of c more printed
accepted-more c commands more out printed e =
    (λ i. accepted_by_lines c (filter-join is_send commands more i) (answers-join out printed i))
    ∙ accepted-join c (filter is_send commands) (filter is_send more) (send_answers out) (send_answers printed) e

-- What one command tells of messages is what its own lines show.
pub record IsMessageTold (cmd : Command) (printed : List Piece) (told : List Told) : Type 0 where
  pub received : (k : Lane) → received_told k told ≡ map (on k) (filter (is_on k.from k.prio) (received_in k.to k.port printed))
  pub sent : (k : Lane) → k.prio < prio_limit → sent_told k told ≡ filter (of_lane k) (accepted_of (connection k) (cmd ∷ []) printed)

received-after : (k : Lane) (told past : List Told) → received_told k (told ++ past) ≡ received_told k past ++ received_told k told
received-after k [] past = sym (append-nil (received_told k past))
received-after k (t ∷ told) past = ap (λ l. l ++ received_by k t) (received-after k told past) ∙ append_assoc (received_told k past) (received_told k told) (received_by k t)

sent-after : (k : Lane) (told past : List Told) → sent_told k (told ++ past) ≡ sent_told k past ++ sent_told k told
sent-after k [] past = sym (append-nil (sent_told k past))
sent-after k (t ∷ told) past = ap (λ l. l ++ sent_by k t) (sent-after k told past) ∙ append_assoc (sent_told k past) (sent_told k told) (sent_by k t)

-- one command more
pub next-messages : (commands : List Command) (out : List Piece) (past : List Told) (cmd : Command) (printed : List Piece) (told : List Told) → length (send_answers out) ≡ length (filter is_send commands)
    → AreMessagesTold commands out past → IsMessageTold cmd printed told → AreMessagesTold (commands ++ cmd ∷ []) (out ++ printed) (told ++ past)
next-messages commands out past cmd printed told answered all one = record {
  received = λ k.
      received-after k told past
      ∙ (λ i. all.received k i ++ one.received k i)
      ∙ sym (map-join (on k) (filter (is_on k.from k.prio) (received_in k.to k.port out)) (filter (is_on k.from k.prio) (received_in k.to k.port printed)))
      ∙ ap (map (on k)) (sym (filter-join (is_on k.from k.prio) (received_in k.to k.port out) (received_in k.to k.port printed)) ∙ ap (filter (is_on k.from k.prio)) (sym (received-join k.to k.port out printed)));
  sent = λ k low.
      sent-after k told past
      ∙ (λ i. all.sent k low i ++ one.sent k low i)
      ∙ sym (filter-join (of_lane k) (accepted_of (connection k) commands out) (accepted_of (connection k) (cmd ∷ []) printed))
      ∙ ap (filter (of_lane k)) (sym (accepted-more (connection k) commands (cmd ∷ []) out printed answered));
}

-- nothing is told before the first command
pub none-messages : AreMessagesTold [] [] []
none-messages = record { received = λ k. refl; sent = λ k low. refl }

-- what was received on a lane is a prefix of what was sent
prefix-map : {X Y : Type 0} (f : X → Y) (front whole : List X) → IsPrefix front whole → IsPrefix (map f front) (map f whole)
prefix-map f front whole is = record { rest = map f is.rest; both = ap (map f) is.both ∙ map-join f front is.rest }

-- the messages for a port, all of one priority, as they are on their lane
lane-back : (k : Lane) (ms : List Message) → AllByRecursion (λ m. m.prio ≡ k.prio) ms → map (on k) (map (as_handed k.from) (filter (is_to k.port) ms)) ≡ filter (of_lane k) ms
lane-back k [] all = refl
lane-back k (m ∷ ms) all = by (nat_eq m.dport k.port) (nat_eq m.prio k.prio) refl ((Decides-eqb m.prio k.prio).1 all.0) (lane-back k ms all.1)
  where
    by : (s t : Bool) → nat_eq m.dport k.port ≡ s → nat_eq m.prio k.prio ≡ true → map (on k) (map (as_handed k.from) (filter (is_to k.port) ms)) ≡ filter (of_lane k) ms
        → map (on k) (map (as_handed k.from) (cond s (m ∷ filter (is_to k.port) ms) (filter (is_to k.port) ms))) ≡ cond (s && nat_eq m.prio k.prio) (m ∷ filter (of_lane k) ms) (filter (of_lane k) ms)
    by true t e f later =
        let port : m.dport ≡ k.port = (Decides-eqb m.dport k.port).0 e in
        let prio : m.prio ≡ k.prio = (Decides-eqb m.prio k.prio).0 f in
        ap (λ l. on k (as_handed k.from m) ∷ l) later ∙ (λ i. record { sport = m.sport; dport = sym port i; prio = sym prio i; body = m.body } ∷ filter (of_lane k) ms) ∙ (λ i. cond (sym f i) (m ∷ filter (of_lane k) ms) (filter (of_lane k) ms))
    by false t e f later = later

-- so messages are in order
low-test : (p limit : ℕ) → p < limit → nat_lt p limit ≡ true
low-test p limit low = grind (arith, nat_tests)

none-on : (src prio : ℕ) (hosts : ℕ) (xs : List Handed) → AllByRecursion (IsOfConnection hosts) xs → nat_lt prio prio_limit ≡ false → filter (is_on src prio) xs ≡ []
none-on src prio hosts [] all e = refl
none-on src prio hosts (x ∷ xs) all e = by (nat_eq x.from src) (nat_eq x.prio prio) refl (none-on src prio hosts xs all.1 e)
  where
    by : (s t : Bool) → nat_eq x.prio prio ≡ t → filter (is_on src prio) xs ≡ [] → cond (s && t) (x ∷ filter (is_on src prio) xs) (filter (is_on src prio) xs) ≡ []
    by true true f rest =
        let same : x.prio ≡ prio = (Decides-eqb x.prio prio).0 f in
        let low = all.0.priority in
        let small : nat_lt prio prio_limit ≡ true = subst (λ p. nat_lt p prio_limit ≡ true) same (low-test x.prio prio_limit low) in
        absurd (true≢false (sym small ∙ e))
    by true false f rest = rest
    by false t f rest = rest

-- A message that a command in its ranges hands in: its priority is the connection's, its port one of a host, its bytes
-- are bytes.
pub record IsFine (prio : ℕ) (m : Message) : Type 0 where
  pub of_prio : m.prio ≡ prio
  pub of_port : m.sport ≤ 7
  pub long : length m.body < 2 ^ 64
  pub bytes : AllByRecursion (λ b. b < 256) m.body

same-prio : (p q : ℕ) → p ≤ 1 → q < 2 → nat_eq (min p 1) (min q 1) ≡ true → p ≡ q
same-prio p q low few e = let same : min p 1 ≡ min q 1 = (Decides-eqb (min p 1) (min q 1)).0 e in omega arith

-- the bytes of a client's message
below-256 : (first : ℕ) (is : List ℕ) → AllByRecursion (λ b. b < 256) (map (λ i. (first + i) % 256) is)
below-256 first [] = tt
below-256 first (i ∷ is) = (omega arith, below-256 first is)

counted-length : (first len : ℕ) → length (counted first len) ≡ len
counted-length first len = length-map (range_with_len 0 len) (λ i. (first + i) % 256) ∙ length-range_with_len 0 len

-- what a `send` hands in on a connection is fine
accepted-fine : (n : Network) (c : ConnectionKey) (cmd : Command) (said : Said) → IsCommandOf n cmd → c.prio < prio_limit → AllByRecursion (IsFine c.prio) (accepted_as c cmd said)
accepted-fine n c (Send h port dest dport prio len seed) said of_n low =
    let ports = of_n.2.1 in
    let prios = of_n.4.1 in
    let lens = of_n.5.1 in
    by (nat_eq h c.src) (nat_eq dest c.dst) (nat_eq (prio_place prio) (prio_place c.prio)) refl said
  where
    by : (s t u : Bool) → nat_eq (prio_place prio) (prio_place c.prio) ≡ u → (said : Said) → AllByRecursion (IsFine c.prio) (if s && (t && u) then in_send (wanted_message (wanted port dest dport prio len seed)) (Says said) else [])
    by true true true e (Token t) =
        (record { of_prio = same-prio prio c.prio of_n.4.1 low e; of_port = of_n.2.1; long = (let most = of_n.5.1 in let size = counted-length seed len in omega arith); bytes = below-256 seed (range_with_len 0 len) }, tt)
    by true true true e Done = tt
    by true true true e (Count count) = tt
    by true true true e (SaidSent t) = tt
    by true true true e (SaidReceived t from sport q body) = tt
    by true true true e Nothing = tt
    by true true true e (Refused cause) = tt
    by true true false e said = tt
    by true false u e said = tt
    by false t u e said = tt
accepted-fine n c cmd said of_n low = tt

by-lines-fine : (n : Network) (c : ConnectionKey) (cs : List Command) (ss : List Said) → AllByRecursion (IsCommandOf n) cs → c.prio < prio_limit → AllByRecursion (IsFine c.prio) (accepted_by_lines c cs ss)
by-lines-fine n c [] ss all low = tt
by-lines-fine n c (x ∷ xs) [] all low = tt
by-lines-fine n c (x ∷ xs) (s ∷ ss) all low = all-join (IsFine c.prio) (accepted_as c x s) (accepted_by_lines c xs ss) (accepted-fine n c x s all.0 low) (by-lines-fine n c xs ss all.1 low)

filter-all : {X : Type 0} (P : X → Type 0) (p : X → Bool) (xs : List X) → AllByRecursion P xs → AllByRecursion P (filter p xs)
filter-all P p [] all = tt
filter-all P p (x ∷ xs) all = by (p x) (filter-all P p xs all.1)
  where
    by : (t : Bool) → AllByRecursion P (filter p xs) → AllByRecursion P (cond t (x ∷ filter p xs) (filter p xs))
    by true rest = (all.0, rest)
    by false rest = rest

pub sends-fine : (n : Network) (c : ConnectionKey) (commands : List Command) (out : List Piece) → AllByRecursion (IsCommandOf n) commands → c.prio < prio_limit → AllByRecursion (IsFine c.prio) (accepted_of c commands out)
sends-fine n c commands out all low = by-lines-fine n c (filter is_send commands) (send_answers out) (filter-all (IsCommandOf n) is_send commands all) low

-- so messages are in order on every lane
pub in-order : (n : Network) (commands : List Command) (out : List Piece) (after : WorldState) (past : List Told) → AllByRecursion (IsCommandOf n) commands → AreReceivedAsSent n commands out after → AreMessagesTold commands out past → AreInOrder past
in-order n commands out after past of_n facts told = record { each = each }
  where
    lane : (k : Lane) → k.prio < prio_limit → IsPrefix (received_told k past) (sent_told k past)
    lane k low =
        let fine = sends-fine n (connection k) commands out of_n low in
        let acc = accepted_of (connection k) commands out in
        let front = prefix-map (on k) (filter (is_on k.from k.prio) (received_in k.to k.port out)) (map (as_handed k.from) (filter (is_to k.port) acc)) (facts.front (connection k) k.port low) in
        let whole = lane-back k acc (all-weaker (IsFine k.prio) (λ m. m.prio ≡ k.prio) acc (λ m f. f.of_prio) fine) ∙ sym (told.sent k low) in
        subst (λ l. IsPrefix l (sent_told k past)) (sym (told.received k)) (subst (IsPrefix (map (on k) (filter (is_on k.from k.prio) (received_in k.to k.port out)))) whole front)

    each : (k : Lane) → IsPrefix (received_told k past) (sent_told k past)
    each k = by (nat_lt k.prio prio_limit) refl
      where
        by : (t : Bool) → nat_lt k.prio prio_limit ≡ t → IsPrefix (received_told k past) (sent_told k past)
        by true e = lane k (grind (arith, nat_tests))
        by false e =
            let none : received_told k past ≡ [] = told.received k ∙ ap (map (on k)) (none-on k.from k.prio (length n.hosts) (received_in k.to k.port out) (facts.only k.to k.port) e) in
            subst (λ l. IsPrefix l (sent_told k past)) (sym none) (record { rest = sent_told k past; both = refl })

-- A message that a line shows was sent so.
abbrev ShownAs : Handed → Type 0
ShownAs x = (x.sport ≤ 7) × (length x.bytes < 2 ^ 64) × AllByRecursion (λ b. b < 256) x.bytes

front-all : {X : Type 0} (P : X → Type 0) (front rest : List X) → AllByRecursion P (front ++ rest) → AllByRecursion P front
front-all P [] rest all = tt
front-all P (x ∷ xs) rest all = (all.0, front-all P xs rest all.1)

as-shown : (src prio : ℕ) (ms : List Message) → AllByRecursion (IsFine prio) ms → AllByRecursion ShownAs (map (as_handed src) ms)
as-shown src prio [] all = tt
as-shown src prio (m ∷ ms) all = ((all.0.of_port, all.0.long, all.0.bytes), as-shown src prio ms all.1)

-- what holds of those from one host and of one priority holds of one of these
on-one : (P : Handed → Type 0) (x : Handed) (xs : List Handed) → AllByRecursion P (filter (is_on x.from x.prio) (xs ++ x ∷ [])) → P x
on-one P x [] all = (subst (λ t. AllByRecursion P (cond t (x ∷ []) [])) (λ i. same-number x.from i && same-number x.prio i) all).0
on-one P x (y ∷ ys) all = on-one P x ys (skip (is_on x.from x.prio y) all)
  where
    skip : (t : Bool) → AllByRecursion P (cond t (y ∷ filter (is_on x.from x.prio) (ys ++ x ∷ [])) (filter (is_on x.from x.prio) (ys ++ x ∷ []))) → AllByRecursion P (filter (is_on x.from x.prio) (ys ++ x ∷ []))
    skip true all = all.1
    skip false all = all

last-all : {X : Type 0} (P : X → Type 0) (xs : List X) (x : X) → AllByRecursion P (xs ++ x ∷ []) → P x
last-all P [] x all = all.0
last-all P (y ∷ ys) x all = last-all P ys x all.1

-- the last message that a port's lines show
pub last-shown : (n : Network) (commands : List Command) (out : List Piece) (after : WorldState) (h port : ℕ) (x : Handed) (before : List Handed) → AllByRecursion (IsCommandOf n) commands → AreReceivedAsSent n commands out after → received_in h port out ≡ before ++ x ∷ [] → IsShown n x.from x.sport x.prio x.bytes
last-shown n commands out after h port x before of_n facts e =
    let one = last-all (IsOfConnection (length n.hosts)) before x (subst (AllByRecursion (IsOfConnection (length n.hosts))) e (facts.only h port)) in
    let c : ConnectionKey = record { src = x.from; dst = h; prio = x.prio } in
    let fine = sends-fine n c commands out of_n one.priority in
    let acc = accepted_of c commands out in
    let all = as-shown x.from x.prio (filter (is_to port) acc) (filter-all (IsFine x.prio) (is_to port) acc fine) in
    let is = facts.front c port one.priority in
    let shown = on-one ShownAs x before (subst (λ xs. AllByRecursion ShownAs (filter (is_on x.from x.prio) xs)) e (front-all ShownAs (filter (is_on x.from x.prio) (received_in h port out)) is.rest (subst (AllByRecursion ShownAs) is.both all))) in
    record {
      sender = host-there n x.from one.from_host;
      of_port = shown.0;
      of_prio = (let low = one.priority in omega arith);
      long = shown.1;
      bytes = shown.2;
    }
