-- Lines with the values of their rows, printed and read again.
use Rattle.std.proofs.Common.{◌≡◌, ◌≢◌, ◌<◌, ◌-◌, ◌^◌, ℕ, suc, ◌+◌, List, [], ◌∷◌, ◌++◌, Bool, true, false, ◌||◌, length, nat_eq, Some, Result, Ok, Err, refl, ap, sym, ◌∙◌, append_assoc, arith, if◌then◌else◌}
use Rattle.std.specs.Prelude.{flat_map, codes, decimal}
use Rattle.std.specs.List.{AllByRecursion}
use Rattle.std.proofs.lemmas.Bool.Decides.{Decides-eqb}
use Rattle.net_defs.specs.declared.vertex.Vertex.TheVariants.{Host}
use Rattle.net_defs.specs.Network.{Network, IsFabric}
use Rattle.map_defs.specs.declared.vertex.MapVertex.TheVariants.{Host as MapHost, Switch as MapSwitch}
use Rattle.map_defs.specs.NetMap.{NetMap}
use Rattle.fab_text.specs.declared.fault.FaultKind.{FaultKind}
use Rattle.fab_text.specs.declared.fault.FaultKind.TheVariants.{BadWord}
use Rattle.fab_text.specs.Word.{name_test}
use Rattle.fab_text.specs.Line.{TextLine, lines_left, says_nothing}
use Rattle.fab_text.specs.Fault.{FirstFault, at_line, as_kind, and_then}
use Rattle.fab_text.specs.Written.{line_text}
use Rattle.fabric_file.specs.Plain.{ArePlain}
use Rattle.fabric_file.specs.Reading.{AreNamed}
use Rattle.fabric_file.proofs.Names.{name-names}
use Rattle.fabric_file.proofs.PlainLines.{words-spaced, left-printed}
use Rattle.fabric_file.proofs.PlainWords.{number-read}
use Rattle.line_table.specs.declared.kind.MapLineKind.{MapLineKind}
use Rattle.line_table.specs.declared.kind.MapLineKind.TheVariants.{Host as HostLine, Switch as SwitchLine, Cable as CableLine, End as EndLine}
use Rattle.line_table.specs.Texts.{host_name, turn_text}
use Rattle.line_table.specs.Form.{WordKind, HostName, MapPlace, Turn, OneOf, Slot, Fixed, Of, LineValue, Word, HostAt, TurnBy, VertexAt, words_of_value, fill}
use Rattle.line_table.specs.Fits.{IsOf, AreOf}
use Rattle.line_table.specs.Table.{map_form}
use Rattle.line_table.proofs.Filled.{turn-read, value-read, filled-matched}
use Rattle.line_table.proofs.Plain.{filled-plain, map-rows-plain}
use Rattle.line_table.proofs.Spoken.{filled-spoken, map-rows-spoken}
use Rattle.run_defs.specs.LineText.{MapLine, map_line_text}
use Rattle.map_canon.specs.Declaring.{switch_test, is_number, formed_where, word_formed, words_formed, placed, args_of, row_declared, declared}
use Rattle.map_canon.specs.Reading.{is_end, ended, map_from}

-- what the lines from a line of these words on say
abbrev pub from_words : ℕ → Network → NetMap → ℕ → List TextLine → List (List ℕ) → Result NetMap FirstFault
from_words past f m k ls ws = if is_end ws then ended m ls else and_then (at_line k (declared f m ws)) (λ n. map_from past f n ls)

-- a printed line is read as what its words say
pub printed-says : (past k : ℕ) (f : Network) (m : NetMap) (ws : List (List ℕ)) (rest : List ℕ) → ArePlain ws → says_nothing ws ≡ false
    → map_from past f m (lines_left (record { number = k; text = line_text ws ++ rest })) ≡ from_words past f m k (lines_left (record { number = k + 1; text = rest })) ws
printed-says past k f m [] rest all says = cc
printed-says past k f m (w ∷ ws) rest all says =
    ap (map_from past f m) (left-printed k w ws rest all says) ∙ ap (from_words past f m k (lines_left (record { number = k + 1; text = rest }))) (words-spaced (w ∷ ws) all)

-- a line before the end has the values of its row
abbrev pub IsLine : Network → MapLine → Type 0
IsLine n l = (l.kind ≢ EndLine) × AreOf n (map_form l.kind) l.values

-- what lines declare, one after another
abbrev pub placed_all : NetMap → List MapLine → Result NetMap FaultKind
placed_all m [] = Ok m
placed_all m (l ∷ ls) = and_then (placed m l.kind (Some l.values)) (λ k. placed_all k ls)

-- each slot is a value of one word
abbrev AreValues : List Slot → Type 0
AreValues [] = Unit {0}
AreValues (Of k ∷ ss) = AreValues ss
AreValues ss = ⊥

not-end : (n : Network) (k : MapLineKind) (vs : List LineValue) → k ≢ EndLine → is_end (fill n (map_form k) vs) ≡ false
not-end n HostLine vs other = refl
not-end n SwitchLine vs other = refl
not-end n CableLine vs other = refl
not-end n EndLine vs other = absurd (other refl)

or-right : (a b : Bool) → b ≡ true → (a || b) ≡ true
or-right true b e = refl
or-right false b e = e

module _ (n : Network) (is : IsFabric n) (good : AreNamed n) where
  -- the word of a value has its form
  word-formed : (k : WordKind) (v : LineValue) (w : List ℕ) → IsOf n k v → words_of_value n v ≡ w ∷ [] → word_formed k w ≡ Ok tt
  word-formed HostName (HostAt h) w there e =
      let same : w ≡ host_name n h = cc in
      ap (word_formed HostName) same ∙ ap formed_where (name-names n (Host h) is.names_apart good there).0
  word-formed HostName _ w there e = absurd there
  word-formed MapPlace (VertexAt (MapHost h)) w there e =
      let same : w ≡ host_name n h = cc in
      ap (word_formed MapPlace) same ∙ (λ i. formed_where ((name-names n (Host h) is.names_apart good there).0 i || switch_test (host_name n h)))
  word-formed MapPlace (VertexAt (MapSwitch s)) w low e =
      let same : w ≡ codes "#" ++ decimal s = cc in
      ap (word_formed MapPlace) same ∙ ap formed_where (or-right (name_test (codes "#" ++ decimal s)) (switch_test (codes "#" ++ decimal s)) (ap is_number (number-read (2 ^ 32 - 1) s (omega arith) (omega arith))))
  word-formed MapPlace _ w there e = absurd there
  word-formed Turn (TurnBy t) w turn e =
      let same : w ≡ turn_text t = cc in
      ap (word_formed Turn) same ∙ ap (λ r. and_then (as_kind r) (λ turn. Ok tt)) (turn-read t turn)
  word-formed Turn _ w turn e = absurd turn
  word-formed (OneOf ws) (Word v) w among e =
      let same : w ≡ v = cc in
      ap (word_formed (OneOf ws)) same ∙ ap formed_where among
  word-formed (OneOf ws) _ w among e = absurd among
  word-formed _ v w fits e = refl

  filled-formed : (ss : List Slot) (vs : List LineValue) → AreOf n ss vs → words_formed ss (fill n ss vs) ≡ Ok tt
  filled-formed (Of k ∷ ss) [] fits = absurd fits
  filled-formed (Of k ∷ ss) (v ∷ vs) fits =
      let r = value-read n is good k v fits.0 in
      ap (λ ws. words_formed (Of k ∷ ss) (ws ++ fill n ss vs)) r.alone
      ∙ ap (λ r. and_then r (λ formed. words_formed ss (fill n ss vs))) (word-formed k v r.word fits.0 r.alone) ∙ filled-formed ss vs fits.1
  filled-formed _ vs fits = refl

  filled-counted : (ss : List Slot) (vs : List LineValue) → AreValues ss → AreOf n ss vs → length ss ≡ length (fill n ss vs)
  filled-counted [] vs own fits = refl
  filled-counted (Of k ∷ ss) [] own fits = absurd fits
  filled-counted (Of k ∷ ss) (v ∷ vs) own fits =
      ap suc (filled-counted ss vs own fits.1) ∙ ap (λ ws. length (ws ++ fill n ss vs)) (sym (value-read n is good k v fits.0).alone)
  filled-counted _ vs own fits = absurd own

  -- THE LAW: a line that was filled in declares what its values mean
  row-declares : (m : NetMap) (k : MapLineKind) (vs : List LineValue) → AreValues (args_of k) → AreOf n (args_of k) vs → row_declared n m k (fill n (args_of k) vs) ≡ placed m k (Some vs)
  row-declares m k vs own fits =
      let ws = fill n (args_of k) vs in
      let count : nat_eq (length (args_of k)) (length ws) ≡ true = (Decides-eqb (length (args_of k)) (length ws)).1 (filled-counted (args_of k) vs own fits) in
      λ i. if count i then and_then (filled-formed (args_of k) vs fits i) (λ formed. placed m k (filled-matched n is good (args_of k) vs fits i)) else Err BadWord

  line-declares : (m : NetMap) (l : MapLine) → IsLine n l → declared n m (fill n (map_form l.kind) l.values) ≡ placed m l.kind (Some l.values)
  line-declares m l fits = by l.kind l.values fits
    where
      by : (k : MapLineKind) (vs : List LineValue) → (k ≢ EndLine) × AreOf n (map_form k) vs → declared n m (fill n (map_form k) vs) ≡ placed m k (Some vs)
      by HostLine vs fits = row-declares m HostLine vs tt fits.1
      by SwitchLine vs fits = row-declares m SwitchLine vs tt fits.1
      by CableLine vs fits = row-declares m CableLine vs tt fits.1
      by EndLine vs fits = absurd (fits.0 refl)

  -- so printed lines are read as what they declare
  pub lines-back : (past k : ℕ) (m last : NetMap) (ls : List MapLine) (rest : List ℕ) → AllByRecursion (IsLine n) ls → placed_all m ls ≡ Ok last
      → map_from past n m (lines_left (record { number = k; text = flat_map (map_line_text n) ls ++ rest })) ≡ map_from past n last (lines_left (record { number = k + length ls; text = rest }))
  lines-back past k m last [] rest all e =
      let one : m ≡ last = cc in
      let plus : k ≡ k + 0 = omega arith in
      λ i. map_from past n (one i) (lines_left (record { number = plus i; text = rest }))
  lines-back past k m last (l ∷ ls) rest all e = by (placed m l.kind (Some l.values)) refl e (λ next d. lines-back past (k + 1) next last ls rest all.1 d)
    where
      words : List (List ℕ)
      words = fill n (map_form l.kind) l.values

      behind : List ℕ
      behind = flat_map (map_line_text n) ls ++ rest

      by : (r : Result NetMap FaultKind) → placed m l.kind (Some l.values) ≡ r → and_then r (λ next. placed_all next ls) ≡ Ok last
          → ((next : NetMap) → placed_all next ls ≡ Ok last → map_from past n next (lines_left (record { number = k + 1; text = behind })) ≡ map_from past n last (lines_left (record { number = (k + 1) + length ls; text = rest })))
          → map_from past n m (lines_left (record { number = k; text = (line_text words ++ flat_map (map_line_text n) ls) ++ rest })) ≡ map_from past n last (lines_left (record { number = k + length (l ∷ ls); text = rest }))
      by (Err kind) p d later = cc
      by (Ok next) p d later =
          let left = lines_left (record { number = k + 1; text = behind }) in
          let plus : (k + 1) + length ls ≡ k + length (l ∷ ls) = omega arith in
          ap (λ t. map_from past n m (lines_left (record { number = k; text = t }))) (append_assoc (line_text words) (flat_map (map_line_text n) ls) rest)
          ∙ printed-says past k n m words behind (filled-plain n is good (map_form l.kind) l.values (map-rows-plain l.kind) all.0.1) (filled-spoken n (map_form l.kind) l.values (map-rows-spoken l.kind) all.0.1)
          ∙ (λ i. if not-end n l.kind l.values all.0.0 i then ended m left else and_then (at_line k ((line-declares m l all.0 ∙ p) i)) (λ o. map_from past n o left))
          ∙ later next d
          ∙ (λ i. map_from past n last (lines_left (record { number = plus i; text = rest })))
