-- Cables of which none was plugged since a mapper was made: what walks over them say of the fabric as it stood then.
use Rattle.std.proofs.Common.{◌≡◌, ◌≢◌, ◌<◌, ◌≤◌, ℕ, ℤ, List, ◌⊎◌, inl, inr, sym, ap, ◌∙◌, arith}
use Rattle.std.proofs.lemmas.Bool.{cases_lt}
use Rattle.net_defs.specs.declared.place.Place.TheVariants.{Host as AtHostPlace, Nothing as Stuck}
use Rattle.net_defs.specs.Network.{Network}
use Rattle.net_defs.specs.Route.{place}
use Rattle.world_defs.specs.History.{CableHistory, fabric_now, fabric_at, stood_at, is_in_place}
use Rattle.world_defs.specs.Later.{OnlyPulled}
use Rattle.world_defs.proofs.Fewer.{place_over_more}
use Rattle.world_defs.proofs.CablesLater.{pulled-later, later-kept, later-past}
use Rattle.world_defs.proofs.Left.{pulled-unplugged}
use Rattle.world_defs.proofs.Now.{last_is_now}
use Rattle.world_defs.proofs.Pulled.{unplugged_stood}
use Rattle.world_defs.specs.World.{WorldState, fabric_of}
use Rattle.ask_laws.specs.Premises.{HasStood}

-- The fabric as it stood then is this one.
pub record IsOver (n : Network) (made : ℕ) (h : CableHistory) : Type 0 where
  pub stood : HasStood made h
  pub past : fabric_at h made ≡ n

pub stood-pulled : {h g : CableHistory} (made : ℕ) → OnlyPulled h g → HasStood made h → HasStood made g
stood-pulled made only s =
    let k = later-kept (pulled-later only) in
    let more = k.changes in
    let low = s.made in
    record { history = k.history s.history; made = omega (arith, more, low); unplugged = pulled-unplugged made only s.unplugged }

pub over-pulled : {h g : CableHistory} (n : Network) (made : ℕ) → OnlyPulled h g → IsOver n made h → IsOver n made g
over-pulled n made only o =
    let s = o.stood in
    record { stood = stood-pulled made only s; past = later-past made s.made (pulled-later only) ∙ o.past }

-- a host to which a walk comes is its place in that fabric
pub over-place : (n : Network) (made : ℕ) (h : CableHistory) (host g : ℕ) (route : List ℤ) → IsOver n made h → place (fabric_now h) host route ≡ AtHostPlace g → place n host route ≡ AtHostPlace g
over-place n made h host g route o at =
    let s = o.stood in
    let is = s.history in
    let there : place (fabric_now h) host route ≢ Stuck = λ none. let bad : AtHostPlace g ≡ Stuck = sym at ∙ none in cc in
    ap (λ m. place m host route) (sym o.past) ∙ place_over_more h h is_in_place (stood_at made) host route (is.fabrics made) (unplugged_stood h made s.unplugged) there ∙ at

-- something is missing, or cables went since the mapper was made
abbrev pub IsMissing : ℕ → WorldState → Type 0 → Type 0
IsMissing made v Absent = (made < v.links.cables.changes) ⊎ Absent

-- and where a walk comes to no host, it comes to none in that fabric, or cables went
pub over-missing : (n : Network) (made host : ℕ) (route : List ℤ) (v : WorldState) → IsOver n made v.links.cables → ((g : ℕ) → place (fabric_of v) host route ≢ AtHostPlace g) → IsMissing made v ((g : ℕ) → place n host route ≢ AtHostPlace g)
over-missing n made host route v o away = by (cases_lt made v.links.cables.changes)
  where
    by : (made < v.links.cables.changes) ⊎ (v.links.cables.changes ≤ made) → IsMissing made v ((g : ℕ) → place n host route ≢ AtHostPlace g)
    by (inl more) = inl more
    by (inr same) =
        let s = o.stood in
        let now : n ≡ fabric_of v = sym o.past ∙ last_is_now v.links.cables made s.history same in
        inr (λ g is. away g (ap (λ m. place m host route) (sym now) ∙ is))
