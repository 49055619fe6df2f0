-- What holds of the messages of every run.
use Rattle.std.specs.Prelude.{◌≡◌, ◌≢◌, ℕ, ◌≤◌, ◌<◌, Some}
use Rattle.gm_defs.specs.Token.{size_for_length}
use Rattle.fabric_gen.specs.Text.{message_length, message_size, peer}

-- a buffer of some size has room for each message, and the size that the text gives is the least such
abbrev pub HasRoom : Type 0
HasRoom = (seed i m : ℕ) → size_for_length (message_length seed i m) ≡ Some (message_size seed i m)

-- no host sends to itself
abbrev pub GoesOn : Type 0
GoesOn = (n seed i m : ℕ) → 2 ≤ n → i < n → peer n seed i m ≢ i

-- of the messages of one number no two go to one host
abbrev pub HasOneSender : Type 0
HasOneSender = (n seed i k m : ℕ) → 2 ≤ n → i < n → k < n → peer n seed i m ≡ peer n seed k m → i ≡ k
