use Rattle.std.proofs.Common.{◌≡◌, ap, sym, ◌∙◌, subst, refl, ℕ, None, arith}
use Rattle.std.specs.Prelude.{Some, IfSome, option_map}
use Rattle.world_defs.specs.Crossed.{life_channels}
use Rattle.world_defs.specs.Row.{IsPartWay}
use Rattle.world_defs.specs.Table.{Adoption}
use Rattle.world_defs.specs.World.{WorldState, host_count}
use Rattle.world_defs.proofs.LogViews.{installed}
use Rattle.world_defs.specs.Log.{came_to}
use Rattle.world_defs.specs.Logs as log
use Rattle.log_laws.proofs.Installs.{install-given_up, install-hosts}
use Rattle.fab_world.specs.Held.{IsLater}
use Rattle.fab_world.proofs.Moments.{later-adopted, set-stays}
use Rattle.table_installing.proofs.Causes.{idle-behind, tells}
use Rattle.table_installing.proofs.InstallHosts.{few-hosts, fewer-hosts, adopter-there, told, in-logs, cut-of, hosts-later, adopted-later, cut-pulled, all-pulled}
use Rattle.world_drain.proofs.Cables.{same-pulled, pulled-channels, channels-stay}
use Rattle.world_drain.proofs.Later.{later-both, way-later, on-any}
use Rattle.world_drain.proofs.GivingUp.{given_up-later}
use Rattle.table_installing.proofs.installing.install.Goals as goal
use Rattle.table_installing.proofs.installing.install.Goals.{in-Some+in_ok-acked-in-Some, in-None}

pub returns-in_err-give_up_all-clause-err : goal.returns-in_err-give_up_all-clause-err
returns-in_err-give_up_all-clause-err c =
    on-any c.from_residual.result
    (cut-of c.args.w.now c.give_up_all.new.w c.args.hosts.now c.args.tries c.args.w.now.adopted refl (λ a e. install-given_up a c.args.hosts.now c.args.tries c.args.w.now c.give_up_all.new.w c.in_err-give_up_all.ensures.err))

pub returns-in_err-give_up_all-clause-cables : goal.returns-in_err-give_up_all-clause-cables
returns-in_err-give_up_all-clause-cables c = same-pulled c.give_up_all.ensures.cables

pub returns-in_err-give_up_all-clause-channels : goal.returns-in_err-give_up_all-clause-channels
returns-in_err-give_up_all-clause-channels c =
    channels-stay c.args.w.now c.give_up_all.new.w c.moment.ensures.kept (way-later c.args.w.now c.give_up_all.new.w c.in_err-give_up_all.ensures.err) (ap life_channels c.give_up_all.ensures.cables)

pub returns-in_err-give_up_all-clause-adopted : goal.returns-in_err-give_up_all-clause-adopted
returns-in_err-give_up_all-clause-adopted c = later-adopted c.args.w.now c.give_up_all.new.w (way-later c.args.w.now c.give_up_all.new.w c.in_err-give_up_all.ensures.err)

pub install_hosts-requires-clause-there : goal.install_hosts-requires-clause-there
install_hosts-requires-clause-there c =
    let w : WorldState = c.args.w.now in
    let v : WorldState = c.give_up_all.new.w in
    let same = later-adopted w v (given_up-later w v c.in_ok-give_up_all.ensures.after) in
    adopter-there (host_count v) c.in-Some.mapper v.adopted
    (set-stays (host_count w) (host_count v) w.adopted v.adopted c.in_ok-give_up_all.ensures.hosts same c.moment.ensures.kept.adopted) c.in-Some.ensures

pub install_hosts-requires-clause-hosts : goal.install_hosts-requires-clause-hosts
install_hosts-requires-clause-hosts c =
    let few = few-hosts c.args.w.now c.args.hosts.now c.args.tries c.moment.ensures.kept c.requires in
    fewer-hosts (host_count c.args.w.now) (host_count c.give_up_all.new.w) c.args.hosts.now c.in_ok-give_up_all.ensures.hosts few.there

pub install_hosts-requires-clause-few : goal.install_hosts-requires-clause-few
install_hosts-requires-clause-few c = (few-hosts c.args.w.now c.args.hosts.now c.args.tries c.moment.ensures.kept c.requires).few

-- where memory ran out among the hosts
cut : (c : goal.After-from_residual-in_err-acked-in-Some) → IsLater c.args.w.now c.install_hosts.new.w
cut c =
    let v : WorldState = c.give_up_all.new.w in
    let u : WorldState = c.install_hosts.new.w in
    let on : IsLater v u = adopted-later v u v.adopted c.in-Some.mapper (sym c.in-Some.ensures) (λ a e. way-later v u (c.in_err-acked-in-Some.ensures.err a e)) in
    later-both c.args.w.now v u (given_up-later c.args.w.now v c.in_ok-give_up_all.ensures.after) on

cut_way : (c : goal.After-from_residual-in_err-acked-in-Some) → IfSome c.args.w.now.adopted (λ a. IsPartWay c.args.w.now (log.install a c.args.hosts.now c.args.tries c.args.w.now).events c.install_hosts.new.w)
cut_way c =
    let w : WorldState = c.args.w.now in
    let v : WorldState = c.give_up_all.new.w in
    let u : WorldState = c.install_hosts.new.w in
    let same : v.adopted ≡ w.adopted = later-adopted w v (given_up-later w v c.in_ok-give_up_all.ensures.after) in
    cut-of w u c.args.hosts.now c.args.tries w.adopted refl
    (λ a e. install-hosts a c.args.hosts.now c.args.tries w v u c.in_ok-give_up_all.ensures.after (c.in_err-acked-in-Some.ensures.err a (same ∙ e)))

pub returns-in_err-acked-in-Some-clause-err : goal.returns-in_err-acked-in-Some-clause-err
returns-in_err-acked-in-Some-clause-err c = on-any c.from_residual-in_err-acked-in-Some.result (cut_way c)

pub returns-in_err-acked-in-Some-clause-cables : goal.returns-in_err-acked-in-Some-clause-cables
returns-in_err-acked-in-Some-clause-cables c = cut-pulled c.args.w.now c.install_hosts.new.w c.args.hosts.now c.args.tries c.args.w.now.adopted c.requires.adopted (cut_way c)

pub returns-in_err-acked-in-Some-clause-channels : goal.returns-in_err-acked-in-Some-clause-channels
returns-in_err-acked-in-Some-clause-channels c =
    channels-stay c.args.w.now c.install_hosts.new.w c.moment.ensures.kept (cut c) (pulled-channels (returns-in_err-acked-in-Some-clause-cables c))

pub returns-in_err-acked-in-Some-clause-adopted : goal.returns-in_err-acked-in-Some-clause-adopted
returns-in_err-acked-in-Some-clause-adopted c = later-adopted c.args.w.now c.install_hosts.new.w (cut c)

pub overflow_cast-result : goal.overflow_cast-result
overflow_cast-result c =
    let few = (few-hosts c.args.w.now c.args.hosts.now c.args.tries c.moment.ensures.kept c.requires).few in
    omega (arith, few)

-- what was done leads on from where it began
done : (c : goal.Joined-adopter) → IsLater c.args.w.now c.match-adopter.w
done c =
    let v : WorldState = c.give_up_all.new.w in
    let given : IsLater c.args.w.now v = given_up-later c.args.w.now v c.in_ok-give_up_all.ensures.after in
    elim c.match-adopter.branch [
      | in-Some+in_ok-acked-in-Some w ↦ subst (IsLater c.args.w.now) (sym w.w-is) (later-both c.args.w.now v w.install_hosts.new.w given (adopted-later v w.install_hosts.new.w v.adopted w.in-Some.mapper (sym w.in-Some.ensures) (λ a e. hosts-later a c.args.tries c.args.hosts.now v w.install_hosts.new.w w.in_ok-acked-in-Some.acked (w.in_ok-acked-in-Some.ensures.acked a e))))
      | in-None w ↦ subst (IsLater c.args.w.now) (sym w.w-is) given
    ]

-- and is what the definition says, where routes are adopted
served : (c : goal.Joined-adopter) → (a : Adoption) → c.give_up_all.new.w.adopted ≡ Some a → came_to (log.hosts a c.args.tries c.args.hosts.now c.give_up_all.new.w) ≡ (c.match-adopter.acked, c.match-adopter.w)
served c a e =
    elim c.match-adopter.branch [
      | in-Some+in_ok-acked-in-Some w ↦ w.in_ok-acked-in-Some.ensures.acked a e ∙ (λ i. (sym w.acked-is i, sym w.w-is i))
      | in-None w ↦ absurd (none≢some a.mapper (w.in-None.ensures ∙ ap (option_map (λ a. a.mapper)) e))
    ]
  where
    none≢some : (m : ℕ) → None ≡ Some m → ⊥
    none≢some m f = cc

-- in the words of worlds
counted : (c : goal.Joined-adopter) → IfSome c.args.w.now.adopted (λ a. installed a c.args.hosts.now c.args.tries c.args.w.now ≡ (c.match-adopter.acked, c.match-adopter.w))
counted c =
    let w : WorldState = c.args.w.now in
    let v : WorldState = c.give_up_all.new.w in
    told w v c.match-adopter.w c.args.hosts.now c.args.tries c.match-adopter.acked w.adopted refl c.in_ok-give_up_all.ensures.after
    (later-adopted w v (given_up-later w v c.in_ok-give_up_all.ensures.after)) (served c)

pub returns-clause-acked : goal.returns-clause-acked
returns-clause-acked c = (in-logs c.args.w.now c.match-adopter.w c.args.hosts.now c.args.tries c.match-adopter.acked c.args.w.now.adopted (counted c)).0

pub returns-clause-after : goal.returns-clause-after
returns-clause-after c = (in-logs c.args.w.now c.match-adopter.w c.args.hosts.now c.args.tries c.match-adopter.acked c.args.w.now.adopted (counted c)).1

pub returns-clause-cause : goal.returns-clause-cause
returns-clause-cause c =
    let w : WorldState = c.args.w.now in
    tells (host_count w) w c.match-adopter.w c.args.hosts.now c.args.tries c.match-adopter.acked w.adopted refl c.reached.ensures c.moment.ensures.kept.adopted c.requires.idle c.requires.unrevoked c.requires.unchanged c.requires.named c.requires.some (counted c)

pub returns-clause-idle : goal.returns-clause-idle
returns-clause-idle c =
    let w : WorldState = c.args.w.now in
    idle-behind (host_count w) w c.match-adopter.w c.args.hosts.now c.args.tries c.match-adopter.acked w.adopted refl c.reached.ensures c.moment.ensures.kept.adopted c.requires.idle c.requires.adopted c.requires.unrevoked c.requires.unchanged c.requires.named (counted c)

pub returns-clause-cables : goal.returns-clause-cables
returns-clause-cables c = all-pulled c.args.w.now c.match-adopter.w c.args.hosts.now c.args.tries c.args.w.now.adopted c.requires.adopted (returns-clause-after c)

pub returns-clause-channels : goal.returns-clause-channels
returns-clause-channels c = channels-stay c.args.w.now c.match-adopter.w c.moment.ensures.kept (done c) (pulled-channels (returns-clause-cables c))

pub returns-clause-adopted : goal.returns-clause-adopted
returns-clause-adopted c = later-adopted c.args.w.now c.match-adopter.w (done c)
