-- The queue of sends as contracts see it.
use Rattle.std.proofs.Common.{◌≡◌, ℕ, ◌<◌, ◌≤◌, true, false, true≢false, List, length, map, Option, Some, None, IsSome, is_some, refl, sym, ap, subst, ◌∙◌, arith, Vec, vec_capacity, length-set}
use Rattle.std.specs.Prelude.{find, slice_get, slice_set, option_map}
use Rattle.std.specs.List.{count_by}
use Rattle.std.specs.declared.alloc.Global.{Global}
use Rattle.gm_defs.specs.Token.{Sending, has_number}
use Rattle.gm_defs.specs.Port.{with_send, without_first}
use Rattle.gm_tokens.specs.Token.{Token, token_at}
use Rattle.gm_port.specs.Held.{Sends, send_at}
use Rattle.gm_port.specs.Table.{Place, sends_of, held_in, IsQueue, buffer_in, is_held, is_of, sending_numbers}
use Rattle.gm_port.proofs.Tables.{number-held, found-held, sends-put, table-put, sends-take, table-take, send-found, place-own, place-free, count-sends, held-sends}

-- what contracts see, by its parts
abbrev pub seen : (host port limit : ℕ) → List Sending → Sends
seen host port limit ss = record { host = host; port = port; limit = limit; sends = ss }

pub same-sends : (host port limit other : ℕ) (ss ts : List Sending) → limit ≡ other → ss ≡ ts → seen host port limit ss ≡ seen host port other ts
same-sends host port limit other ss ts e f = cc

abbrev the_view : (host port : ℕ) → List Place → Sends
the_view host port ps = seen host port (length ps) (sends_of ps)

-- by what contracts see before a call
module _ (host port : ℕ) (ps : List Place) (listed : Vec (Token × List ℕ) Global) (q : IsQueue host port ps listed) (now : Sends) (v : the_view host port ps ≡ now) where
  -- a number that no send has, below the count of places, has a free place
  pub free-at : (t : Token) (k : ℕ) → k ≡ t.number → has_number (sending_numbers now.sends) t.number ≡ false → t.number < now.limit → slice_get ps k ≡ Some None
  free-at t k at free minted =
      let none : Place = None in
      let f : has_number (sending_numbers (sends_of ps)) t.number ≡ false = subst (λ (s : Sends). has_number (sending_numbers s.sends) t.number ≡ false) (sym v) free in
      let m : t.number < length ps = subst (λ (s : Sends). t.number < s.limit) (sym v) minted in
      let here : slice_get ps t.number ≡ Some none = place-free t.number ps (sym (number-held host port 0 t.number t.number ps (omega arith) q.table) ∙ f) m in
      subst (λ (i : ℕ). slice_get ps i ≡ Some none) (sym at) here

  -- a send joins
  module _ (t : Token) (b : List ℕ) (k : ℕ) (at : k ≡ t.number) (own : t ≡ token_at now.host now.port t.number) (free : has_number (sending_numbers now.sends) t.number ≡ false) (minted : t.number < now.limit) where
    own-at : t ≡ token_at host port k
    own-at =
        subst (λ (s : Sends). t ≡ token_at s.host s.port t.number) (sym v) own ∙ ap (token_at host port) (sym at)

    pub insert-keeps : (after : List Place) → after ≡ slice_set ps k (Some (t, b)) → IsQueue host port after listed
    insert-keeps after set =
        let e : Token × List ℕ = (t, b) in
        let same : length (slice_set ps k (Some e)) ≡ length ps = length-set ps k (Some e) in
        let room : length ps ≤ vec_capacity listed = q.list_room in
        subst (λ (l : List Place). IsQueue host port l listed) (sym set) (record {
          table = table-put host port 0 k k e ps (omega arith) q.table own-at;
          none_listed = q.none_listed;
          list_room = omega arith;
        })

    pub insert-seen : (after : List Place) → after ≡ slice_set ps k (Some (t, b)) → the_view host port after ≡ record now { sends = with_send (record { token = t.number; buffer = b }) now.sends }
    insert-seen after set =
        let e : Token × List ℕ = (t, b) in
        let s : Sending = record { token = t.number; buffer = b } in
        let long : length after ≡ length ps = ap length set ∙ length-set ps k (Some e) in
        let put : sends_of after ≡ with_send s (sends_of ps) = ap sends_of set ∙ sends-put host port 0 k k e ps (omega arith) q.table (free-at t k at free minted) own-at in
        subst (λ (w : Sends). the_view host port after ≡ record w { sends = with_send s w.sends }) v (same-sends host port (length after) (length ps) (sends_of after) (with_send s (sends_of ps)) long put)

  -- an unfinished send has its place
  pub held-at : (n : ℕ) → IsSome (find (is_of n) now.sends) → is_held (slice_get ps n) ≡ true
  held-at n some =
      let here : is_some (find (is_of n) (sends_of ps)) ≡ true = subst (λ (w : Sends). is_some (find (is_of n) w.sends) ≡ true) (sym v) some in
      sym (found-held host port 0 n n ps (omega arith) q.table) ∙ here

  -- a send is taken out
  module _ (n : ℕ) (e : Token × List ℕ) (held : slice_get ps n ≡ Some (Some e)) where
    found : find (is_of n) (sends_of ps) ≡ Some (record { token = e.0.number; buffer = e.1 })
    found = send-found host port 0 n n e ps (omega arith) q.table held

    pub remove-keeps : (after : List Place) → after ≡ slice_set ps n None → IsQueue host port after listed
    remove-keeps after set =
        let none : Place = None in
        let same : length (slice_set ps n none) ≡ length ps = length-set ps n none in
        let room : length ps ≤ vec_capacity listed = q.list_room in
        subst (λ (l : List Place). IsQueue host port l listed) (sym set) (record {
          table = table-take host port 0 n ps q.table;
          none_listed = q.none_listed;
          list_room = omega arith;
        })

    pub remove-seen : (after : List Place) → after ≡ slice_set ps n None → the_view host port after ≡ record now { sends = without_first (is_of n) now.sends }
    remove-seen after set =
        let none : Place = None in
        let long : length after ≡ length ps = ap length set ∙ length-set ps n none in
        let rest : sends_of after ≡ without_first (is_of n) (sends_of ps) = ap sends_of set ∙ sends-take host port 0 n n e ps (omega arith) q.table held in
        subst (λ (w : Sends). the_view host port after ≡ record w { sends = without_first (is_of n) w.sends }) v (same-sends host port (length after) (length ps) (sends_of after) (without_first (is_of n) (sends_of ps)) long rest)

    pub taken-seen : option_map (send_at now.host now.port) (find (is_of n) now.sends) ≡ Some e
    taken-seen =
        let own : e.0 ≡ token_at host port n = place-own host port 0 n n e ps (omega arith) q.table held in
        let number : e.0.number ≡ n = ap (λ (t : Token). t.number) own in
        let token : token_at host port e.0.number ≡ e.0 = ap (token_at host port) number ∙ sym own in
        let here : option_map (send_at host port) (find (is_of n) (sends_of ps)) ≡ Some e =
        ap (option_map (send_at host port)) found ∙ ap (λ (t : Token). let pair : Token × List ℕ = (t, e.1) in Some pair) token in
        subst (λ (w : Sends). option_map (send_at w.host w.port) (find (is_of n) w.sends) ≡ Some e) v here

    buffer-of : option_map (λ s. s.buffer) (find (is_of n) now.sends) ≡ Some e.1
    buffer-of =
        subst (λ (w : Sends). option_map (λ s. s.buffer) (find (is_of n) w.sends) ≡ Some e.1) v (ap (option_map (λ (s : Sending). s.buffer)) found)

  -- the buffer of a send is that of its place
  pub buffer-seen : (n : ℕ) → IsSome (find (is_of n) now.sends) → buffer_in (slice_get ps n) ≡ option_map (λ s. s.buffer) (find (is_of n) now.sends)
  buffer-seen n some = at (slice_get ps n) refl (held-at n some)
    where
      at : (o : Option Place) → slice_get ps n ≡ o → is_held (slice_get ps n) ≡ true → buffer_in (slice_get ps n) ≡ option_map (λ s. s.buffer) (find (is_of n) now.sends)
      at None e h = absurd (true≢false (sym h ∙ ap is_held e))
      at (Some None) e h = absurd (true≢false (sym h ∙ ap is_held e))
      at (Some (Some p)) e h = ap buffer_in e ∙ sym (buffer-of n p e)

  -- whether a number has a send
  pub has-seen : (n : ℕ) → has_number (sending_numbers now.sends) n ≡ is_held (slice_get ps n)
  has-seen n =
      subst (λ (w : Sends). has_number (sending_numbers w.sends) n ≡ is_held (slice_get ps n)) v (number-held host port 0 n n ps (omega arith) q.table)

  pub count-seen : count_by is_some ps ≡ length now.sends
  count-seen = count-sends ps ∙ ap (λ (w : Sends). length w.sends) v

  pub list-seen : held_in ps ≡ map (send_at now.host now.port) now.sends
  list-seen =
      subst (λ (w : Sends). held_in ps ≡ map (send_at w.host w.port) w.sends) v (held-sends host port 0 ps q.table)
