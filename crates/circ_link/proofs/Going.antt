-- A walk with a turn more, from where the walk was followed to.
use Rattle.std.proofs.Common.{◌≡◌, ℕ, List, [], ◌∷◌, ◌++◌, Bool, true, false, not, ◌&&◌, ◌||◌, if◌then◌else◌, Option, Some, None, IfSome, sym, ◌∙◌, subst, ap, refl, ◌⊎◌, inl, inr}
use Rattle.std.specs.Prelude.{ℤ, option_and_then, option_to_list}
use Rattle.std.specs.List.{list_any}
use Rattle.std.proofs.lemmas.List.{append_assoc}
use Rattle.net_defs.specs.declared.vertex.Vertex.{Vertex}
use Rattle.net_defs.specs.declared.vertex.Vertex.TheVariants.{Host, Switch}
use Rattle.net_defs.specs.declared.vertex.End.{End}
use Rattle.net_defs.specs.declared.place.Place.{Place}
use Rattle.net_defs.specs.declared.place.Place.TheVariants.{Host as AtHost, Switch as AtSwitch, Nothing as Stuck}
use Rattle.net_defs.specs.Network.{Network, IsFabric, far, same_end}
use Rattle.net_defs.specs.Route.{entered_after, exit_at, host_port, next_exit, turned}
use Rattle.net_defs.proofs.Ends.{same_end-true, same_end-refl}
use Rattle.circ_defs.specs.Circuit.{circuit_place}
use Rattle.circ_defs.proofs.Cables.{far-joins, far-next, joins-back, joins-far}
use Rattle.circ_link.specs.Exits.{IsFollowed, are_free, back_of, end_from, exit_from, exits_after, exits_of, held_at, held_by_exits, held_on, held_on_at, is_end, meets}
use Rattle.circ_link.proofs.Meeting.{held_by_exits-circuit, or-either, or-first, or-second, same-test}

-- the ends by which it leaves
exits-push : (n : Network) (exit : Option End) (w : List ℤ) (t : ℤ) → exits_after n exit (w ++ t ∷ []) ≡ exits_after n exit w ++ option_to_list (exit_from n (entered_after n (option_and_then (far n) exit) w) t)
exits-push n exit [] t = by (option_and_then (far n) exit)
  where
    by : (o : Option End) → option_to_list exit ++ option_to_list (option_and_then (λ e. exit_at n e.v e.p t) o) ≡ option_to_list exit ++ option_to_list (exit_from n o t)
    by None = refl
    by (Some e) = refl
exits-push n exit (s ∷ w) t =
    ap (λ l. option_to_list exit ++ l) (exits-push n (next_exit n exit s) w t ∙ ap (λ o. exits_after n (next_exit n exit s) w ++ option_to_list (exit_from n (entered_after n o w) t)) (far-next n exit s))
    ∙ sym (append_assoc (option_to_list exit) (exits_after n (next_exit n exit s) w) (option_to_list (exit_from n (entered_after n (turned n (option_and_then (far n) exit) s) w) t)))

-- the end that it enters last
entered-push : (n : Network) (o : Option End) (w : List ℤ) (t : ℤ) → entered_after n o (w ++ t ∷ []) ≡ end_from n (exit_from n (entered_after n o w) t)
entered-push n None [] t = refl
entered-push n (Some e) [] t = by (exit_at n e.v e.p t)
  where
    by : (x : Option End) → option_and_then (far n) x ≡ end_from n x
    by None = refl
    by (Some x) = refl
entered-push n o (s ∷ w) t = entered-push n (turned n o s) w t

same-back : (d e : End) → same_end d e ≡ true → same_end e d ≡ true
same-back d e p = subst (λ z. same_end e z ≡ true) (sym (same_end-true d e p)) (same_end-refl e)

is_end-of : (o : Option End) (e : End) → is_end o e ≡ true → o ≡ Some e
is_end-of None e p = cc
is_end-of (Some d) e p = ap Some (sym (same_end-true e d p))

is_end-at : (o : Option End) (e : End) → o ≡ Some e → is_end o e ≡ true
is_end-at o e p = subst (λ x. is_end x e ≡ true) (sym p) (same_end-refl e)

far-back : (n : Network) (d e : End) → IsFabric n → far n d ≡ Some e → far n e ≡ Some d
far-back n d e f p = let k = far-joins n d e p in joins-far n k.cable e d f (joins-back n k.cable d e k.joins)

-- two exits meet each other
meets-one : (n : Network) (both : Bool) (d e : End) → IsFabric n → meets n both d e ≡ true → meets n both e d ≡ true
meets-one n both d e f m = by (or-either (same_end e d) (is_end (back_of n both d) e) m)
  where
    other : (b : Bool) → is_end (back_of n b d) e ≡ true → is_end (back_of n b e) d ≡ true
    other true q = is_end-at (far n e) d (far-back n d e f (is_end-of (far n d) e q))
    other false q = q

    by : (same_end e d ≡ true) ⊎ (is_end (back_of n both d) e ≡ true) → meets n both e d ≡ true
    by (inl p) = or-first (same_end d e) (is_end (back_of n both e) d) (same-back e d p)
    by (inr q) = or-second (same_end d e) (is_end (back_of n both e) d) (other both q)

meets-back : (n : Network) (both : Bool) (d e : End) → IsFabric n → meets n both d e ≡ meets n both e d
meets-back n both d e f = same-test (meets n both d e) (meets n both e d) (meets-one n both d e f) (meets-one n both e d f)

any-push : (test : End → Bool) (es : List End) (x : End) → list_any test (es ++ x ∷ []) ≡ list_any test es || test x
any-push test [] x = by (test x)
  where
    by : (b : Bool) → (b || false) ≡ (false || b)
    by true = refl
    by false = refl
any-push test (e ∷ es) x = ap (λ b. test e || b) (any-push test es x) ∙ by (test e)
  where
    by : (b : Bool) → (b || (list_any test es || test x)) ≡ ((b || list_any test es) || test x)
    by true = refl
    by false = refl

-- a list of exits with one more is free where the list is, and the one meets none of it
free-push : (n : Network) (both : Bool) (es : List End) (x : End) → IsFabric n → are_free n both (es ++ x ∷ []) ≡ are_free n both es && not (list_any (meets n both x) es)
free-push n both [] x f = refl
free-push n both (e ∷ es) x f =
    ap (λ b. not b && are_free n both (es ++ x ∷ [])) (any-push (meets n both e) es x)
    ∙ ap (λ b. not (list_any (meets n both e) es || b) && are_free n both (es ++ x ∷ [])) (meets-back n both e x f)
    ∙ ap (λ b. not (list_any (meets n both e) es || meets n both x e) && b) (free-push n both es x f)
    ∙ by (list_any (meets n both e) es) (meets n both x e) (are_free n both es) (list_any (meets n both x) es)
  where
    by : (a b c d : Bool) → (not (a || b) && (c && not d)) ≡ ((not a && c) && not (b || d))
    by true b c d = refl
    by false true true d = refl
    by false true false d = refl
    by false false c d = refl

-- where it is held
held-push : (n : Network) (es : List End) (channels cables : Bool) (x e : End) → IsFabric n → far n x ≡ Some e → channels ≡ are_free n false es → cables ≡ are_free n true es → held_on_at es channels cables x e.v e.p ≡ held_at n (es ++ x ∷ []) e.v e.p
held-push n es channels cables x e f far_is ch ca = at e.v refl
  where
    at : (v : Vertex) → e.v ≡ v → held_on_at es channels cables x v e.p ≡ held_at n (es ++ x ∷ []) v e.p
    at (Host h) q = ap (λ b. if b then AtHost h else Stuck) (ap (λ b. b && not (list_any (meets n false x) es)) ch ∙ sym (free-push n false es x f))
    at (Switch s) q =
        let end : Some (record { v = Switch s; p = e.p }) ≡ far n x = sym (far_is ∙ ap (λ v. Some (record { v = v; p = e.p })) q) in
        ap (λ o. if cables && not (list_any (λ d. same_end d x || is_end o d) es) then AtSwitch s e.p else Stuck) end
        ∙ ap (λ b. if b then AtSwitch s e.p else Stuck) (ap (λ b. b && not (list_any (meets n true x) es)) ca ∙ sym (free-push n true es x f))

-- so it ends at its circuit place
pub place-on : (n : Network) (host : ℕ) (w : List ℤ) (t : ℤ) (es : List End) (o x e : Option End) (channels cables : Bool) (p : Place) → IsFabric n → IsFollowed n host w es o channels cables → x ≡ exit_from n o t → e ≡ end_from n x → p ≡ held_on es channels cables x e → p ≡ circuit_place n host (w ++ t ∷ [])
place-on n host w t es o x e channels cables p f k exit end held =
    held ∙ by x e exit end ∙ ap (held_by_exits n (es ++ option_to_list x)) last ∙ held_by_exits-circuit n host (w ++ t ∷ []) (es ++ option_to_list x) f all
  where
    last : e ≡ entered_after n (far n (host_port host)) (w ++ t ∷ [])
    last = end ∙ ap (end_from n) exit ∙ ap (λ z. end_from n (exit_from n z t)) k.entered_is ∙ sym (entered-push n (far n (host_port host)) w t)

    by : (x e : Option End) → x ≡ exit_from n o t → e ≡ end_from n x → held_on es channels cables x e ≡ held_by_exits n (es ++ option_to_list x) e
    by None None p q = refl
    by None (Some e) p q = cc
    by (Some x) None p q = refl
    by (Some x) (Some e) p q = held-push n es channels cables x e f (sym q) k.channels_are k.cables_are

    exits : exits_of n host (w ++ t ∷ []) ≡ exits_of n host w ++ option_to_list x
    exits = exits-push n (Some (host_port host)) w t ∙ ap (λ z. exits_of n host w ++ option_to_list (exit_from n z t)) (sym k.entered_is) ∙ ap (λ z. exits_of n host w ++ option_to_list z) (sym exit)

    none : o ≡ None → e ≡ None
    none q = end ∙ ap (end_from n) (exit ∙ ap (λ z. exit_from n z t) q)

    front : (z : Option End) → o ≡ z → IfSome z (λ _. es ≡ exits_of n host w) → (y : Option End) → e ≡ y → IfSome y (λ _. es ++ option_to_list x ≡ exits_of n host (w ++ t ∷ []))
    front z q s None r = tt
    front None q s (Some d) r = let no : None ≡ Some d = sym (none q) ∙ r in cc
    front (Some z) q s (Some d) r = ap (λ l. l ++ option_to_list x) s ∙ sym exits

    all : IfSome (entered_after n (far n (host_port host)) (w ++ t ∷ [])) (λ _. es ++ option_to_list x ≡ exits_of n host (w ++ t ∷ []))
    all = front o refl k.exits_are (entered_after n (far n (host_port host)) (w ++ t ∷ [])) last
