-- What an adoption with its installation comes to: both were done, memory ran out in the installation, or the adoption failed.
use Rattle.std.proofs.Common.{◌≡◌, ◌<◌, ◌⊎◌, ℕ, List, length, Option, None, Some, Result, Ok, Err, inl, inr, refl, sym, subst}
use Rattle.std.specs.Prelude.{true, IfOk, IfSome, OnOk, OnErr}
use Rattle.net_defs.specs.declared.route.Route.{Route}
use Rattle.net_defs.specs.Refusal.{Refuses}
use Rattle.world_defs.specs.Later.{OnlyPulled}
use Rattle.world_defs.specs.Links.{is_idle}
use Rattle.world_defs.specs.Log.{Log}
use Rattle.world_defs.specs.Logs as log
use Rattle.world_defs.specs.Row.{IsPartWay}
use Rattle.world_defs.specs.Table.{Adoption}
use Rattle.world_defs.specs.World.{WorldState, host_count, last_count, standing_of, adoption_of, adopted_by}
use Rattle.install_laws.specs.Counts.{TellsCause}
use Rattle.adopted_routes.specs.Adopting.{adopt_refusal}
use Rattle.adopted_routes.specs.declared.routes.AdoptRefusal.{AdoptRefusal}
use Rattle.adopted_routes.specs.declared.routes.AdoptRefusal.TheVariants.{NoMemory}
use Rattle.table_installing.specs.declared.installing.Installed.{Installed}
use Rattle.table_installing.proofs.Adoptions.{of-adopted, unless-refused, if-refused}

-- the routes by their mapper, the hosts, and the tries of each part
pub record Asked : Type 0 where
  pub mapper : ℕ
  pub routes : List Route
  pub hosts : List ℕ
  pub tries : ℕ

abbrev pub adopted : WorldState → Asked → WorldState
adopted w a = adopted_by w a.mapper a.routes

abbrev pub set : WorldState → Asked → Adoption
set w a = adoption_of w a.mapper a.routes

abbrev pub does : WorldState → Asked → Log ℕ
does w a = log.install (set w a) a.hosts a.tries (adopted w a)

abbrev pub refusal : WorldState → Asked → Option AdoptRefusal
refusal w a = adopt_refusal (standing_of w) a.routes w.adopted

-- What is answered, and the world that is left.
pub record IsBoth (w : WorldState) (a : Asked) (r : Result Installed AdoptRefusal) (v : WorldState) : Type 0 where
  pub acked : IfOk r (λ x. x.acked ≡ (does w a).value)
  pub after : OnOk r (v ≡ (does w a).world)
  pub of : IfOk r (λ x. x.of ≡ length a.hosts)
  pub cause : IfOk r (λ x. v.injected < last_count → TellsCause (set w a) a.hosts a.tries x.acked (adopted w a) v)
  pub refused : Refuses (refusal w a) NoMemory r
  pub unchanged : IfSome (refusal w a) (λ why. v ≡ w)
  pub err : OnErr r ((v ≡ w) ⊎ IsPartWay (adopted w a) (does w a).events v)
  pub idle : OnOk r (is_idle v.links ≡ true)
  pub cables : OnOk r (OnlyPulled (adopted w a).links.cables v.links.cables)
  pub hosts : host_count v ≡ host_count w

pub both : (w u v : WorldState) (a : Asked) (x : Installed) → refusal w a ≡ None → u ≡ adopted w a
    → IfSome u.adopted (λ s. x.acked ≡ (log.install s a.hosts a.tries u).value) → IfSome u.adopted (λ s. v ≡ (log.install s a.hosts a.tries u).world) → x.of ≡ length a.hosts
    → IfSome u.adopted (λ s. v.injected < last_count → TellsCause s a.hosts a.tries x.acked u v) → is_idle v.links ≡ true → OnlyPulled u.links.cables v.links.cables → host_count v ≡ host_count w → IsBoth w a (Ok x) v
both w u v a x none there acked after of cause idle cables hosts = record {
  acked = of-adopted (λ s z. x.acked ≡ (log.install s a.hosts a.tries z).value) w u a.mapper a.routes there acked;
  after = of-adopted (λ s z. v ≡ (log.install s a.hosts a.tries z).world) w u a.mapper a.routes there after;
  of = of;
  cause = of-adopted (λ s z. v.injected < last_count → TellsCause s a.hosts a.tries x.acked z v) w u a.mapper a.routes there cause;
  refused = none;
  unchanged = unless-refused (refusal w a) (v ≡ w) none;
  err = tt;
  idle = idle;
  cables = subst (λ (z : WorldState). OnlyPulled z.links.cables v.links.cables) there cables;
  hosts = hosts;
}

pub cut : (w u v : WorldState) (a : Asked) → refusal w a ≡ None → u ≡ adopted w a → IfSome u.adopted (λ s. IsPartWay u (log.install s a.hosts a.tries u).events v) → host_count v ≡ host_count w → IsBoth w a (Err NoMemory) v
cut w u v a none there way hosts = record {
  acked = tt;
  after = tt;
  of = tt;
  cause = tt;
  refused = inr (none, refl);
  unchanged = unless-refused (refusal w a) (v ≡ w) none;
  err = inr (of-adopted (λ s z. IsPartWay z (log.install s a.hosts a.tries z).events v) w u a.mapper a.routes there way);
  idle = tt;
  cables = tt;
  hosts = hosts;
}

pub failed : (w v : WorldState) (a : Asked) (why : AdoptRefusal) → (refusal w a ≡ Some why) ⊎ ((refusal w a ≡ None) × (why ≡ NoMemory)) → v ≡ w → host_count v ≡ host_count w → IsBoth w a (Err why) v
failed w v a why told same hosts = record {
  acked = tt;
  after = tt;
  of = tt;
  cause = tt;
  refused = told;
  unchanged = if-refused (refusal w a) (v ≡ w) same;
  err = inl same;
  idle = tt;
  cables = tt;
  hosts = hosts;
}

-- the same of an answer and a world that are these
pub both-as : (w v u : WorldState) (a : Asked) (r q : Result Installed AdoptRefusal) → r ≡ q → v ≡ u → IsBoth w a q u → IsBoth w a r v
both-as w v u a r q answer world b = subst (λ (x : Result Installed AdoptRefusal). IsBoth w a x v) (sym answer) (subst (IsBoth w a q) (sym world) b)
