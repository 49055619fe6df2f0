-- The words of a line have no blank in them.
use Rattle.std.proofs.Common.{◌≡◌, ◌&&◌, ◌||◌, ℕ, zero, suc, List, [], ◌∷◌, ◌++◌, Bool, true, false, refl, ap, sym, ◌∙◌, append_assoc, true≢false}
use Rattle.std.specs.Prelude.{ℤ, pos, negsuc, codes, decimal, bytes_eq, flat_map}
use Rattle.std.specs.List.{AllByRecursion, list_all}
use Rattle.std.proofs.lemmas.Slice.Eq.{bytes_eq-Decides}
use Rattle.net_defs.specs.declared.vertex.Vertex.{Vertex}
use Rattle.net_defs.specs.declared.vertex.Vertex.TheVariants.{Host}
use Rattle.net_defs.specs.Network.{Network, IsFabric, has_vertex}
use Rattle.net_defs.specs.Building.{name_of}
use Rattle.net_defs.proofs.Ends.{both}
use Rattle.map_defs.specs.declared.vertex.MapVertex.TheVariants.{Host as MapHost, Switch as MapSwitch}
use Rattle.fabric_file.specs.Plain.{is_plain_byte, is_plain, ArePlain}
use Rattle.fabric_file.specs.Reading.{AreNamed}
use Rattle.fabric_file.proofs.Names.{name-names, vertex-there}
use Rattle.fabric_file.proofs.PlainWords.{numeral-plain, digits-plain, number-plain, name-plain}
use Rattle.line_table.specs.declared.kind.LineKind.{LineKind}
use Rattle.line_table.specs.declared.kind.LineKind.TheVariants.{Refused}
use Rattle.line_table.specs.declared.kind.MapLineKind.{MapLineKind}
use Rattle.line_table.specs.declared.kind.MapLineKind.TheVariants.{Host as HostLine}
use Rattle.line_table.specs.Texts.{turn_text}
use Rattle.line_table.specs.Form.{WordKind, Digits, NumberTo, HostName, Turn, MapPlace, Hex, OneOf, EntryOr}
use Rattle.line_table.specs.Form.{Slot, Fixed, Of, AnEnd, AnEndBy, Rest}
use Rattle.line_table.specs.Form.{LineValue, Word, Number, HostAt, TurnBy, VertexAt, Bytes, Entry, EndAt}
use Rattle.line_table.specs.Form.{words_of_value, fill}
use Rattle.line_table.specs.Matching.{is_among}
use Rattle.line_table.specs.Fits.{IsOf, AreOf}
use Rattle.line_table.specs.Apart.{is_plain_kind, is_plain_form}
use Rattle.line_table.specs.Table.{form_of, map_form}
use Rattle.line_table.proofs.Bytes.{bytes-plain}

more-plain : (xs ys : List ℕ) → list_all is_plain_byte xs ≡ true → list_all is_plain_byte ys ≡ true → list_all is_plain_byte (xs ++ ys) ≡ true
more-plain [] ys p q = q
more-plain (x ∷ xs) ys p q = let two = both (is_plain_byte x) (list_all is_plain_byte xs) p in λ i. two.0 i && more-plain xs ys two.1 q i

plain-more : (w more : List ℕ) → is_plain w ≡ true → list_all is_plain_byte more ≡ true → is_plain (w ++ more) ≡ true
plain-more [] more p q = absurd (true≢false (sym p))
plain-more (b ∷ bs) more p q = more-plain (b ∷ bs) more p q

pub all-plain : (vs ws : List (List ℕ)) → ArePlain vs → ArePlain ws → ArePlain (vs ++ ws)
all-plain [] ws p q = q
all-plain (v ∷ vs) ws p q = (p.0, all-plain vs ws p.1 q)

-- what each word passes, one among them does
pub among-holds : (p : List ℕ → Bool) (ws : List (List ℕ)) (w : List ℕ) → list_all p ws ≡ true → is_among ws w ≡ true → p w ≡ true
among-holds p [] w all e = absurd (true≢false (sym e))
among-holds p (v ∷ vs) w all e =
    let two = both (p v) (list_all p vs) all in
    by (bytes_eq w v) refl e two.0 (among-holds p vs w two.1)
  where
    by : (t : Bool) → bytes_eq w v ≡ t → (t || is_among vs w) ≡ true → p v ≡ true → (is_among vs w ≡ true → p w ≡ true) → p w ≡ true
    by true t e own rest = ap p ((bytes_eq-Decides w v).0 t) ∙ own
    by false t e own rest = rest e

pub turn-plain : (t : ℤ) → is_plain (turn_text t) ≡ true
turn-plain (pos zero) = refl
turn-plain (pos (suc k)) = digits-plain (suc k)
turn-plain (negsuc k) = digits-plain (suc k)

module _ (n : Network) (is : IsFabric n) (good : AreNamed n) where
  pub vertex-plain : (v : Vertex) → has_vertex n v ≡ true → is_plain (name_of n v) ≡ true
  vertex-plain v there = name-plain (name_of n v) (name-names n v is.names_apart good there).0

  value-plain : (k : WordKind) (v : LineValue) → is_plain_kind k ≡ true → IsOf n k v → ArePlain (words_of_value n v)
  value-plain Digits (Word w) p e = (numeral-plain w e, tt)
  value-plain Digits _ p e = absurd e
  value-plain (NumberTo most) (Number x) p e = (number-plain x, tt)
  value-plain (NumberTo most) _ p e = absurd e
  value-plain HostName (HostAt h) p there = (vertex-plain (Host h) there, tt)
  value-plain HostName _ p e = absurd e
  value-plain Turn (TurnBy t) p e = (turn-plain t, tt)
  value-plain Turn _ p e = absurd e
  value-plain MapPlace (VertexAt (MapHost h)) p there = (vertex-plain (Host h) there, tt)
  value-plain MapPlace (VertexAt (MapSwitch s)) p fits = (digits-plain s, tt)
  value-plain MapPlace _ p e = absurd e
  value-plain Hex (Bytes bs) p all = (bytes-plain bs all, tt)
  value-plain Hex _ p e = absurd e
  value-plain (OneOf ws) (Word w) p e = (among-holds is_plain ws w p e, tt)
  value-plain (OneOf ws) _ p e = absurd e
  value-plain (EntryOr other places) (Entry x place) p e =
      let two = both (is_plain other) (list_all (list_all is_plain_byte) places) p in
      (ap is_plain (append_assoc (decimal x) (codes "=") place) ∙ plain-more (decimal x) (61 ∷ place) (number-plain x) (among-holds (list_all is_plain_byte) places place two.1 e.1.0), tt)
  value-plain (EntryOr other places) (Word w) p e =
      (ap is_plain e ∙ (both (is_plain other) (list_all (list_all is_plain_byte) places) p).0, tt)
  value-plain (EntryOr other places) _ p e = absurd e

  values-plain : (k : WordKind) (vs : List LineValue) → is_plain_kind k ≡ true → AllByRecursion (IsOf n k) vs → ArePlain (flat_map (words_of_value n) vs)
  values-plain k [] p all = tt
  values-plain k (v ∷ vs) p all = all-plain (words_of_value n v) (flat_map (words_of_value n) vs) (value-plain k v p all.0) (values-plain k vs p all.1)

  -- THE THIRD LAW: the words of a line separate nothing
  pub filled-plain : (ss : List Slot) (vs : List LineValue) → is_plain_form ss ≡ true → AreOf n ss vs → ArePlain (fill n ss vs)
  filled-plain [] vs p fits = tt
  filled-plain (Fixed w ∷ ss) vs p fits = let two = both (is_plain w) (is_plain_form ss) p in (two.0, filled-plain ss vs two.1 fits)
  filled-plain (Of k ∷ ss) [] p fits = absurd fits
  filled-plain (Of k ∷ ss) (v ∷ vs) p fits =
      let two = both (is_plain_kind k) (is_plain_form ss) p in
      all-plain (words_of_value n v) (fill n ss vs) (value-plain k v two.0 fits.0) (filled-plain ss vs two.1 fits.1)
  filled-plain (AnEnd ∷ ss) [] p fits = absurd fits
  filled-plain (AnEnd ∷ ss) (EndAt e ∷ vs) p fits = (vertex-plain e.v (vertex-there n e.v e.p fits.0), (number-plain e.p, filled-plain ss vs p fits.1))
  filled-plain (AnEnd ∷ ss) (_ ∷ vs) p fits = absurd fits
  filled-plain (AnEndBy w ∷ ss) [] p fits = absurd fits
  filled-plain (AnEndBy w ∷ ss) (EndAt e ∷ vs) p fits =
      let two = both (is_plain w) (is_plain_form ss) p in
      (vertex-plain e.v (vertex-there n e.v e.p fits.0), (two.0, (number-plain e.p, filled-plain ss vs two.1 fits.1)))
  filled-plain (AnEndBy w ∷ ss) (_ ∷ vs) p fits = absurd fits
  filled-plain (Rest k ∷ ss) vs p fits = values-plain k vs p fits

-- each row separates nothing
pub rows-plain : (k : LineKind) → is_plain_form (form_of k) ≡ true
rows-plain Refused = refl
rows-plain _ = refl

pub map-rows-plain : (k : MapLineKind) → is_plain_form (map_form k) ≡ true
map-rows-plain HostLine = refl
map-rows-plain _ = refl
