-- What each line of the script of a generated text says.
use Rattle.std.proofs.Common.{◌≡◌, ◌≤◌, ℕ, List, [], ◌∷◌, map, true, Some, Ok, Err, refl, ◌∙◌, arith, if◌then◌else◌}
use Rattle.std.specs.Prelude.{codes, decimal}
use Rattle.std.specs.List.{AllByRecursion}
use Rattle.net_defs.specs.declared.vertex.Vertex.TheVariants.{Host}
use Rattle.net_defs.specs.Network.{Network}
use Rattle.net_defs.specs.Building.{vertex_named}
use Rattle.fab_text.specs.declared.fault.FaultKind.TheVariants.{BadWord}
use Rattle.fab_text.specs.Word.{name_test}
use Rattle.fab_text.specs.Fault.{and_then}
use Rattle.run_defs.specs.declared.command.Command.TheVariants.{Map, Routes, Install, Begin, Poll, Provide, Send, Plan, Settle}
use Rattle.run_defs.specs.declared.command.PlanKind.TheVariants.{Lose, Hold, Repeat}
use Rattle.run_defs.specs.Script.{Form, OfName, OfNumber, Value, Name, Number, value_of, values_of, of_port, of_count, of_tries, map_meant, open_meant, at_port_meant, provide_meant, send_meant, address_of, at_host}
use Rattle.fabric_file.proofs.PlainWords.{name-plain, number-plain}
use Rattle.fabric_gen.specs.Text.{host_name, poll_words}
use Rattle.input_texts.proofs.Numbers.{number-value}
use Rattle.input_texts.proofs.Saying.{IsSaid}

-- A host of the fabric has a name of the text's form, which names it.
pub record IsThere (f : Network) (h : ℕ) : Type 0 where
  pub named : name_test (host_name h) ≡ true
  pub found : vertex_named f (host_name h) ≡ Some (Host h)

-- A word at its place in a line: its form, and what it says.
record Place : Type 0 where
  form : Form
  word : List ℕ
  value : Value

-- each word says its value
abbrev IsRead : Place → Type 0
IsRead p = value_of p.form p.word ≡ Ok p.value

values-read : (ps : List Place) → AllByRecursion IsRead ps → values_of (map (λ p. p.form) ps) (map (λ p. p.word) ps) ≡ Ok (map (λ p. p.value) ps)
values-read [] all = refl
values-read (p ∷ ps) all = λ i. and_then (all.0 i) (λ v. and_then (values-read ps all.1 i) (λ vs. Ok (v ∷ vs)))

-- the name of a host
abbrev a_host : ℕ → Place
a_host h = record { form = OfName; word = host_name h; value = Name (host_name h) }

-- a number as it is printed
abbrev a_number : ℕ → ℕ → ℕ → Place
a_number least most p = record { form = OfNumber least most; word = decimal p; value = Number p }

-- a number that is the same in every text
abbrev the_number : Form → List ℕ → ℕ → Place
the_number form word p = record { form = form; word = word; value = Number p }

name-value : (w : List ℕ) → name_test w ≡ true → value_of OfName w ≡ Ok (Name w)
name-value w e = λ i. if e i then Ok (Name w) else Err BadWord

-- `map hI DEPTH 1`
pub map-said : (f : Network) (h depth : ℕ) → IsThere f h → 1 ≤ depth → depth ≤ 32 → IsSaid f (codes "map" ∷ host_name h ∷ decimal depth ∷ codes "1" ∷ []) (Map h depth 1)
map-said f h depth there low high =
    let values = values-read (a_host h ∷ a_number 1 32 depth ∷ the_number of_tries (codes "1") 1 ∷ []) (name-value (host_name h) there.named, (number-value 1 32 depth low high (omega arith), (refl, tt))) in
    record {
      plain = (refl, (name-plain (host_name h) there.named, (number-plain depth, (refl, tt))));
      speaks = refl;
      goes_on = refl;
      means = (λ i. and_then (values i) (map_meant f)) ∙ (λ i. and_then (address_of (there.found i)) (λ a. Ok (Map a depth 1)));
    }

-- `open hI 0 4 0`
pub open-sender-said : (f : Network) (h : ℕ) → IsThere f h → IsSaid f (codes "open" ∷ host_name h ∷ codes "0" ∷ codes "4" ∷ codes "0" ∷ []) (Begin h 0 4 0)
open-sender-said f h there =
    let values = values-read (a_host h ∷ the_number of_port (codes "0") 0 ∷ the_number of_count (codes "4") 4 ∷ the_number of_count (codes "0") 0 ∷ []) (name-value (host_name h) there.named, (refl, (refl, (refl, tt)))) in
    record {
      plain = (refl, (name-plain (host_name h) there.named, (refl, (refl, (refl, tt)))));
      speaks = refl;
      goes_on = refl;
      means = (λ i. and_then (values i) (open_meant f)) ∙ (λ i. and_then (address_of (there.found i)) (λ a. Ok (Begin a 0 4 0)));
    }

-- `open hI 1 0 4`
pub open-receiver-said : (f : Network) (h : ℕ) → IsThere f h → IsSaid f (codes "open" ∷ host_name h ∷ codes "1" ∷ codes "0" ∷ codes "4" ∷ []) (Begin h 1 0 4)
open-receiver-said f h there =
    let values = values-read (a_host h ∷ the_number of_port (codes "1") 1 ∷ the_number of_count (codes "0") 0 ∷ the_number of_count (codes "4") 4 ∷ []) (name-value (host_name h) there.named, (refl, (refl, (refl, tt)))) in
    record {
      plain = (refl, (name-plain (host_name h) there.named, (refl, (refl, (refl, tt)))));
      speaks = refl;
      goes_on = refl;
      means = (λ i. and_then (values i) (open_meant f)) ∙ (λ i. and_then (address_of (there.found i)) (λ a. Ok (Begin a 1 0 4)));
    }

-- `poll hI 1`
pub poll-said : (f : Network) (h : ℕ) → IsThere f h → IsSaid f (poll_words h) (Poll h 1)
poll-said f h there =
    let values = values-read (a_host h ∷ the_number of_port (codes "1") 1 ∷ []) (name-value (host_name h) there.named, (refl, tt)) in
    record {
      plain = (refl, (name-plain (host_name h) there.named, (refl, tt)));
      speaks = refl;
      goes_on = refl;
      means = (λ i. and_then (values i) (at_port_meant Poll f)) ∙ (λ i. and_then (address_of (there.found i)) (λ a. Ok (Poll a 1)));
    }

-- `provide hJ 1 SIZE PRIO`
pub provide-said : (f : Network) (h size prio : ℕ) → IsThere f h → size ≤ 31 → prio ≤ 1
    → IsSaid f (codes "provide" ∷ host_name h ∷ codes "1" ∷ decimal size ∷ decimal prio ∷ []) (Provide h 1 size prio)
provide-said f h size prio there small low =
    let values = values-read (a_host h ∷ the_number of_port (codes "1") 1 ∷ a_number 0 31 size ∷ a_number 0 1 prio ∷ [])
    (name-value (host_name h) there.named, (refl, (number-value 0 31 size (omega arith) small (omega arith), (number-value 0 1 prio (omega arith) low (omega arith), tt)))) in
    record {
      plain = (refl, (name-plain (host_name h) there.named, (refl, (number-plain size, (number-plain prio, tt)))));
      speaks = refl;
      goes_on = refl;
      means = (λ i. and_then (values i) (provide_meant f)) ∙ (λ i. and_then (address_of (there.found i)) (λ a. Ok (Provide a 1 size prio)));
    }

-- `send hI 0 hJ 1 PRIO LEN SEED`
pub send-said : (f : Network) (h g prio len seed : ℕ) → IsThere f h → IsThere f g → prio ≤ 1 → len ≤ 1000000 → seed ≤ 255
    → IsSaid f (codes "send" ∷ host_name h ∷ codes "0" ∷ host_name g ∷ codes "1" ∷ decimal prio ∷ decimal len ∷ decimal seed ∷ []) (Send h 0 g 1 prio len seed)
send-said f h g prio len seed there other low short small =
    let values = values-read (a_host h ∷ the_number of_port (codes "0") 0 ∷ a_host g ∷ the_number of_port (codes "1") 1 ∷ a_number 0 1 prio ∷ a_number 0 1000000 len ∷ a_number 0 255 seed ∷ []) (
      name-value (host_name h) there.named,
      (
        refl,
        (
          name-value (host_name g) other.named,
          (
            refl,
            (
              number-value 0 1 prio (omega arith) low (omega arith),
              (number-value 0 1000000 len (omega arith) short (omega arith), (number-value 0 255 seed (omega arith) small (omega arith), tt)),
            ),
          ),
        ),
      ),
    ) in
    record {
      plain = (
        refl,
        (
          name-plain (host_name h) there.named,
          (
            refl,
            (
              name-plain (host_name g) other.named,
              (
                refl,
                (number-plain prio, (number-plain len, (number-plain seed, tt))),
              ),
            ),
          ),
        ),
      );
      speaks = refl;
      goes_on = refl;
      means =
          (λ i. and_then (values i) (send_meant f))
          ∙ (λ i. and_then (address_of (there.found i)) (λ a. at_host f (host_name g) (λ dest. Send a 0 dest 1 prio len seed)))
          ∙ (λ i. and_then (address_of (other.found i)) (λ dest. Ok (Send h 0 dest 1 prio len seed)));
    }

-- lines that are the same in every text
pub routes-said : (f : Network) → IsSaid f (codes "routes" ∷ []) Routes
routes-said f = record { plain = (refl, tt); speaks = refl; goes_on = refl; means = refl }

pub install-said : (f : Network) → IsSaid f (codes "install" ∷ codes "1" ∷ []) (Install 1)
install-said f = record { plain = (refl, (refl, tt)); speaks = refl; goes_on = refl; means = refl }

pub lose-said : (f : Network) → IsSaid f (codes "plan" ∷ codes "lose" ∷ codes "1" ∷ []) (Plan 1 Lose)
lose-said f = record { plain = (refl, (refl, (refl, tt))); speaks = refl; goes_on = refl; means = refl }

pub hold-said : (f : Network) → IsSaid f (codes "plan" ∷ codes "hold" ∷ codes "2" ∷ []) (Plan 2 Hold)
hold-said f = record { plain = (refl, (refl, (refl, tt))); speaks = refl; goes_on = refl; means = refl }

pub repeat-said : (f : Network) → IsSaid f (codes "plan" ∷ codes "repeat" ∷ codes "3" ∷ []) (Plan 3 Repeat)
repeat-said f = record { plain = (refl, (refl, (refl, tt))); speaks = refl; goes_on = refl; means = refl }

pub settle-said : (f : Network) → IsSaid f (codes "settle" ∷ []) Settle
settle-said f = record { plain = (refl, tt); speaks = refl; goes_on = refl; means = refl }
