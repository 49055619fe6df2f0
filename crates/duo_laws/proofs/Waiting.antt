-- Sends that wait can be finished one after another.
use Rattle.std.proofs.Common.{◌≡◌, ℕ, suc, List, [], ◌∷◌, Option, Some, IsSome, refl, sym, subst}
use Rattle.net_defs.specs.Network.{Apart}
use Rattle.gm_defs.specs.declared.message.Message.{Message}
use Rattle.gm_defs.specs.Token.{Sending, PortState}
use Rattle.gm_defs.specs.Port.{send_of, finished}
use Rattle.world_defs.specs.Lane.{Ticket}
use Rattle.duo_defs.specs.Duo.{end_at}
use Rattle.duo_defs.specs.Hearing.{first_pending}
use Rattle.duo_defs.specs.Theorem.{AreWaiting, SendsAreWaiting}
use Rattle.duo_laws.proofs.Queues.{AreQueued, waiting_tokens, requeued}
use Rattle.duo_laws.proofs.Order.{reached-good}
use Rattle.duo_laws.proofs.Polls.{tied-at, reached-tied}

is-some : {A : Type 0} (o : Option A) (x : A) → o ≡ Some x → IsSome o
is-some o x e = subst IsSome (sym e) refl

waiting : (p : PortState) (sent : List Message) (place : ℕ) (ts : List Ticket) → AreQueued p sent place ts → Apart (waiting_tokens ts) → AreWaiting p ts
waiting p sent place [] all apart = tt
waiting p sent place (t ∷ ts) all apart =
    let s : Sending = record { token = t.token; buffer = all.0.message } in
    (is-some (send_of p t.token) s all.0.queued, waiting (finished p t.token) sent (suc place) ts (requeued p sent t.token s (suc place) ts all.0.queued apart.0 all.1) apart.1)

pub all-waiting : SendsAreWaiting
all-waiting d r x =
    let k = tied-at d x (reached-tied d r) in
    let e = end_at d x in
    let is = (reached-good d r).ends x in
    record {
      queued = waiting e.port e.present.lane.sent (first_pending e.present.lane) e.present.lane.pending k.waits k.apart;
      sender = is.lane.sender;
      numbered = is.lane.counted;
      unfinished = is.lane.waiting;
      short = is.each.0.short;
    }
