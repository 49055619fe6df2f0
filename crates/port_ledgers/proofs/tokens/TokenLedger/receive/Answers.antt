use Rattle.std.proofs.Common.{◌≡◌, ◌↔◌, ℕ, List, [], true, false, IfOk, refl, subst}
use Rattle.std.proofs.lemmas.Result.{on_err_weaker}
use Rattle.port_ledgers.specs.Told.{Told, Received}
use Rattle.port_ledgers.specs.Held.{IsToldTo, AreHeld, AreTokensRight}
use Rattle.port_ledgers.proofs.Holding.{said_right, told_held, refused_held, kept_held, if_ok-weaker, may_right}
use Rattle.port_ledgers.proofs.tokens.TokenLedger.receive.Goals as goal

pub returns-clause-right : goal.returns-clause-right
returns-clause-right c =
    let now = c.args.self.now in
    let new = c.recv_back.new.self in
    let line = λ (sport : ℕ) (body : List ℕ). Received c.args.lane sport body c.args.token in
    if_ok-weaker c.recv_back.result (λ is. (sport : ℕ) (body : List ℕ) → IsToldTo now new (line sport body) is)
    (λ is. (past : List Told) (sport : ℕ) (body : List ℕ) → AreHeld past now → (is ≡ true) ↔ AreTokensRight past (line sport body))
    (λ is told past sport body held. said_right past now new (line sport body) is (told sport body) held) c.recv_back.ensures.told

pub returns-clause-told : goal.returns-clause-told
returns-clause-told c =
    let now = c.args.self.now in
    let new = c.recv_back.new.self in
    let line = λ (sport : ℕ) (body : List ℕ). Received c.args.lane sport body c.args.token in
    λ e past sport body held.
    told_held past now new (line sport body) true (subst (λ r. IfOk r (λ is. (s : ℕ) (b : List ℕ) → IsToldTo now new (line s b) is)) e c.recv_back.ensures.told sport body) refl held

pub returns-clause-refused : goal.returns-clause-refused
returns-clause-refused c =
    let now = c.args.self.now in
    let new = c.recv_back.new.self in
    let line = λ (sport : ℕ) (body : List ℕ). Received c.args.lane sport body c.args.token in
    λ e past held. refused_held past now new (line 0 []) false (subst (λ r. IfOk r (λ is. (s : ℕ) (b : List ℕ) → IsToldTo now new (line s b) is)) e c.recv_back.ensures.told 0 []) refl held

pub returns-clause-err : goal.returns-clause-err
returns-clause-err c =
    let now = c.args.self.now in
    let new = c.recv_back.new.self in
    on_err_weaker c.recv_back.result (λ put past held. kept_held past now new (Received c.args.lane 0 [] c.args.token) (put 0 []) held) c.recv_back.ensures.err

pub returns-clause-memory : goal.returns-clause-memory
returns-clause-memory c =
    let now = c.args.self.now in
    on_err_weaker c.recv_back.result (λ may past sport body held. may_right past now (Received c.args.lane sport body c.args.token) (may sport body) held) c.recv_back.ensures.memory
