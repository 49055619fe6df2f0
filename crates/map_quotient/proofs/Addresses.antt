-- The addresses of nodes, read off a journal entry by entry.
use Rattle.std.proofs.Common.{◌≡◌, ◌+◌, ℕ, zero, suc, List, [], ◌∷◌, ◌++◌, map, take, true, Option, Some, refl, ap, sym, ◌∙◌, append-nil}
use Rattle.std.proofs.lemmas.List.{map-append}
use Rattle.std.specs.Prelude.{ℤ, slice_get, slice_index_or}
use Rattle.net_defs.specs.declared.place.Answer.{Answer}
use Rattle.net_defs.specs.declared.place.Answer.TheVariants.{Host, Switch, Nothing}
use Rattle.journal_defs.specs.declared.entry.Entry.{Entry}
use Rattle.journal_defs.specs.Tree.{IsJournal, Node, host_in, host_of, is_found, nodes}
use Rattle.journal_defs.specs.Tree.Node.{Mapper, Reached}
use Rattle.replicate_merge.specs.Nodes.{nodes_of}
use Rattle.replicate_merge.specs.Ways.{node_at}
use Rattle.replicate_merge.proofs.Entries.{nodes-found, nodes-lost}
use Rattle.map_quotient.specs.Naming.{found_by}
use Rattle.map_quotient.proofs.Expanding.{entry-answered}

-- the addresses of the nodes of the first entries, and of the next entry's
pub addresses-next : (host : ℕ) (j : List Entry) (k : ℕ) (e : Entry) (old new : List (Option ℕ)) → IsJournal j → slice_get j k ≡ Some e → old ≡ map (host_of host j) (nodes (take k j)) → new ≡ old ++ found_by e.answer
    → new ≡ map (host_of host j) (nodes (take (k + 1) j))
addresses-next host j k e old new once at before added = added ∙ ap (λ os. os ++ found_by e.answer) before ∙ by e.answer refl
  where
    one : (a : Answer) → e.answer ≡ a → is_found a ≡ true → found_by a ≡ host_in (Some a) ∷ [] → map (host_of host j) (nodes (take k j)) ++ found_by e.answer ≡ map (host_of host j) (nodes (take (k + 1) j))
    one a p is more =
        ap (λ x. map (host_of host j) (nodes (take k j)) ++ found_by x) p
        ∙ ap (λ l. map (host_of host j) (nodes (take k j)) ++ l) (more ∙ ap (λ o. host_in o ∷ []) (ap Some (sym p) ∙ sym (entry-answered j k e once at)))
        ∙ sym (map-append (host_of host j) (nodes (take k j)) (Reached e.walk ∷ []))
        ∙ sym (ap (map (host_of host j)) (nodes-found j k e at (ap is_found p ∙ is)))

    by : (a : Answer) → e.answer ≡ a → map (host_of host j) (nodes (take k j)) ++ found_by e.answer ≡ map (host_of host j) (nodes (take (k + 1) j))
    by (Host h) p = one (Host h) p refl refl
    by Switch p = one Switch p refl refl
    by Nothing p =
        ap (λ x. map (host_of host j) (nodes (take k j)) ++ found_by x) p
        ∙ append-nil (map (host_of host j) (nodes (take k j)))
        ∙ sym (ap (map (host_of host j)) (nodes-lost j k e at (ap is_found p)))

-- the address of a node by its number
pub address-read : (f : Node → Option ℕ) (ns : List Node) (n : ℕ) → slice_index_or (map f ns) n (f Mapper) ≡ f (node_at ns n)
address-read f [] n = refl
address-read f (x ∷ ns) zero = refl
address-read f (x ∷ ns) (suc n) = address-read f ns n

-- so the address that is looked up is the node's
pub address-is : (host : ℕ) (j : List Entry) (walks : List (List ℤ)) (n told : ℕ) (list addresses : List (Option ℕ)) (address : Option ℕ) → address ≡ slice_index_or list n (Some told) → list ≡ addresses → addresses ≡ map (host_of host j) (nodes j) → told ≡ host → nodes_of walks ≡ nodes j
    → address ≡ host_of host j (node_at (nodes_of walks) n)
address-is host j walks n told list addresses address is same all own walked =
    is
    ∙ ap (λ os. slice_index_or os n (Some told)) (same ∙ all)
    ∙ ap (λ h. slice_index_or (map (host_of host j) (nodes j)) n (Some h)) own
    ∙ address-read (host_of host j) (nodes j) n
    ∙ ap (λ ns. host_of host j (node_at ns n)) (sym walked)
