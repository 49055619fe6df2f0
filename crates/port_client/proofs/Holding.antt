-- The tokens of a client, as contracts see them.
use Rattle.std.proofs.Common.{◌≡◌, ℕ, zero, suc, ◌+◌, ◌<◌, ◌≤◌, List, [], ◌∷◌, ◌++◌, length, refl, sym, ap, ◌∙◌, subst, append-nil, arith}
use Rattle.std.proofs.lemmas.List.{map-append, length-map}
use Rattle.std.specs.List.{range_with_len, AllByRecursion}
use Rattle.net_defs.specs.Network.{Apart}
use Rattle.gm_tokens.specs.declared.bank.Bank.{Bank}
use Rattle.gm_tokens.specs.Token.{Token, token_at}
use Rattle.gm_tokens.specs.Minted.{tokens, AreAll}
use Rattle.gm_tokens.proofs.Minting.{tokens-are_all}
use Rattle.port_client.specs.Held.{opened_client, client_of, numbers_of, tokens_of}
use Rattle.port_client.specs.Kept.{AreOwn, IsClient}

-- one number more at the end of a range
range-more : (from n : ℕ) → range_with_len from (suc n) ≡ range_with_len from n ++ (from + n) ∷ []
range-more from zero = let e : from ≡ from + 0 = omega arith in ap (λ k. k ∷ []) e
range-more from (suc n) =
    let e : from + 1 + n ≡ from + suc n = omega arith in
    ap (λ l. from ∷ l) (range-more (from + 1) n ∙ ap (λ k. range_with_len (from + 1) n ++ k ∷ []) e)

-- minted tokens are numbered from 0
pub numbers-minted : (host port n : ℕ) → numbers_of (tokens host port n) ≡ range_with_len 0 n
numbers-minted host port zero = refl
numbers-minted host port (suc n) =
    let e : n ≡ 0 + n = omega arith in
    map-append (λ t. t.number) (tokens host port n) (token_at host port n ∷ [])
    ∙ ap (λ l. l ++ n ∷ []) (numbers-minted host port n)
    ∙ ap (λ k. range_with_len 0 n ++ k ∷ []) e
    ∙ sym (range-more 0 n)

pub minted-own : (host port n : ℕ) → AreOwn host port (tokens host port n)
minted-own host port n = (tokens-are_all host port n).own

-- the tokens of a port are those of their numbers
pub tokens-numbers : (host port : ℕ) (ts : List Token) → AreOwn host port ts → tokens_of host port (numbers_of ts) ≡ ts
tokens-numbers host port [] own = refl
tokens-numbers host port (t ∷ ts) own = ap (λ u. u ∷ tokens_of host port (numbers_of ts)) (sym own.0) ∙ ap (λ us. t ∷ us) (tokens-numbers host port ts own.1)

-- a client that was just opened
pub opened-view : (bank : Bank) (host port sends recvs : ℕ) (ss rs : List Token) → bank ≡ record { host = host; port = port; sends = sends; recvs = recvs } → ss ≡ tokens host port sends → rs ≡ tokens host port recvs
    → client_of bank.host bank.port sends recvs ss rs ≡ opened_client host port sends recvs
opened-view bank host port sends recvs ss rs b s r =
    (λ i. client_of (b i).host (b i).port sends recvs (s i) (r i))
    ∙ (λ i. record { host = host; port = port; minted_sends = sends; minted_recvs = recvs; held = record { sends = numbers-minted host port sends i; recvs = numbers-minted host port recvs i } })

pub opened-kept : (bank : Bank) (host port sends recvs : ℕ) (ss rs : List Token) (send_room recv_room : ℕ) → bank ≡ record { host = host; port = port; sends = sends; recvs = recvs } → ss ≡ tokens host port sends → rs ≡ tokens host port recvs
    → sends ≤ send_room → recvs ≤ recv_room → IsClient bank sends recvs ss send_room rs recv_room
opened-kept bank host port sends recvs ss rs send_room recv_room b s r sroom rroom = record {
  sends_minted = ap (λ k. k.sends) b;
  recvs_minted = ap (λ k. k.recvs) b;
  own_sends = subst (λ k. AreOwn k.host k.port ss) (sym b) (subst (AreOwn host port) (sym s) (minted-own host port sends));
  own_recvs = subst (λ k. AreOwn k.host k.port rs) (sym b) (subst (AreOwn host port) (sym r) (minted-own host port recvs));
  send_roomy = sroom;
  recv_roomy = rroom;
}

-- all tokens, those held and others
pub all-held_and : (host port bank_count count : ℕ) (held others : List Token) → bank_count ≡ count → AreOwn host port held
    → AreAll host port count (tokens_of host port (numbers_of held) ++ others) → AreAll host port bank_count (held ++ others)
all-held_and host port bank_count count held others n own all =
    subst (λ k. AreAll host port k (held ++ others)) (sym n) (subst (AreAll host port count) (ap (λ l. l ++ others) (tokens-numbers host port held own)) all)

-- a client that holds each number below the count holds all tokens
pub all-held : (host port count : ℕ) (ns : List ℕ) → AllByRecursion (λ n. n < count) ns → Apart ns → length ns ≡ count → AreAll host port count (tokens_of host port ns ++ [])
all-held host port count ns below once whole = rw append-nil (record {
  own = own ns;
  below = subst (AllByRecursion (λ n. n < count)) (sym (back ns)) below;
  once = subst Apart (sym (back ns)) once;
  none_missing = length-map ns (token_at host port) ∙ whole;
})
  where
    own : (ns : List ℕ) → AreOwn host port (tokens_of host port ns)
    own [] = tt
    own (n ∷ ns) = (refl, own ns)

    back : (ns : List ℕ) → numbers_of (tokens_of host port ns) ≡ ns
    back [] = refl
    back (n ∷ ns) = ap (λ l. n ∷ l) (back ns)
