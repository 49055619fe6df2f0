-- What holds of a client's lists besides what contracts see.
use Rattle.std.specs.Prelude.{◌≡◌, ℕ, ◌≤◌, List}
use Rattle.std.specs.List.{AllByRecursion}
use Rattle.gm_tokens.specs.declared.bank.Bank.{Bank}
use Rattle.gm_tokens.specs.Token.{Token, token_at}

-- each token is of this port
abbrev pub AreOwn : ℕ → ℕ → List Token → Type 0
AreOwn host port ts = AllByRecursion (λ t. t ≡ token_at host port t.number) ts

-- The counts are those of the bank, each token is of its port, and there is room for all that were minted.
pub record IsClient (bank : Bank) (minted_sends minted_recvs : ℕ) (sends : List Token) (send_room : ℕ)
    (recvs : List Token) (recv_room : ℕ) : Type 0 where
  pub sends_minted : bank.sends ≡ minted_sends
  pub recvs_minted : bank.recvs ≡ minted_recvs
  pub own_sends : AreOwn bank.host bank.port sends
  pub own_recvs : AreOwn bank.host bank.port recvs
  pub send_roomy : minted_sends ≤ send_room
  pub recv_roomy : minted_recvs ≤ recv_room
