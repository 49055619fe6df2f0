use Rattle.std.proofs.Common.{◌≡◌, ◌<◌, ◌≤◌, ℕ, Bool, List, map, Some, Option, is_some, ap, sym, ◌∙◌, subst, refl}
use Rattle.std.specs.Prelude.{option_map}
use Rattle.std.specs.List.{filter}
use Rattle.std.proofs.lemmas.Option.{same_Some}
use Rattle.world_defs.specs.Table.{Adoption}
use Rattle.world_defs.specs.World.{WorldState, host_count}
use Rattle.world_defs.specs.Logs as log
use Rattle.log_laws.proofs.PartWay.{way-still}
use Rattle.route_install.specs.declared.installer.Work.{Work}
use Rattle.route_install.specs.Installing.{Installation, is_done, awaited, changed}
use Rattle.world_drain.proofs.Later.{on-any}
use Rattle.table_installing.specs.Installing.{has_parts, works_of, after_try}
use Rattle.table_installing.proofs.Lefts.{told}
use Rattle.table_installing.proofs.Serving.{can-serve, works-hosts, serving-none, serving-on, serving-cut, awaited-there, awaits, tried-works, changed-hosts, tries_left, fewer-left}
use Rattle.table_installing.proofs.Counts.{served-all}
use Rattle.table_installing.proofs.installing.install_hosts.Goals as goal

-- the adopter is the adopted set's
adopter : (o : Option Adoption) (mapper : ℕ) (a : Adoption) → option_map (λ a. a.mapper) o ≡ Some mapper → o ≡ Some a → a.mapper ≡ mapper
adopter o mapper a e is = same_Some a.mapper mapper (sym (ap (option_map (λ (a : Adoption). a.mapper)) is) ∙ e)

-- the works after a try
works-then : (i after : Installation) (dst part : ℕ) (found : Bool) → awaited i ≡ Some (dst, part) → after ≡ after_try i dst part found → after.works ≡ changed (is_done i.tries) (told found) i.works
works-then i after dst part found e is = (λ j. (is j).works) ∙ (λ j. (tried-works i dst part found e j).works)

tries-then : (i after : Installation) (dst part : ℕ) (found : Bool) → awaited i ≡ Some (dst, part) → after ≡ after_try i dst part found → after.tries ≡ i.tries
tries-then i after dst part found e is = (λ j. (is j).tries) ∙ (λ j. (tried-works i dst part found e j).tries)

-- ---- memory ran out for the works
pub returns-in_err-works-clause-err : goal.returns-in_err-works-clause-err
returns-in_err-works-clause-err c =
    λ a e. on-any c.from_residual.result (way-still c.args.w.now c.args.w.now (log.hosts a c.args.tries c.args.hosts.now c.args.w.now).events refl)

-- ---- the tries
pub of_works-installer-requires : goal.of_works-installer-requires
of_works-installer-requires c =
    can-serve c.args.w.now.adopted c.args.hosts.now c.args.tries c.in_ok-works.works.items c.in_ok-works.ensures c.requires.few c.requires.some_tries c.requires.few_tries

pub serving-init : goal.serving-init
serving-init c =
    let w : WorldState = c.args.w.now in
    let hosts : List ℕ = c.args.hosts.now in
    let i : Installation = c.of_works-installer.result in
    let works : i.works ≡ works_of w.adopted hosts = (λ j. (c.of_works-installer.ensures j).works) ∙ c.in_ok-works.ensures in
    record {
      left = λ a e. serving-none a c.args.tries hosts w i (works ∙ ap (λ o. works_of o hosts) e);
      of_hosts = ap (map (λ (k : Work). k.host)) works ∙ works-hosts w.adopted hosts;
      same_tries = λ j. (c.of_works-installer.ensures j).tries;
      hosts = refl;
    }

pub part_try-requires-clause-dst : goal.part_try-requires-clause-dst
part_try-requires-clause-dst c =
    let k = c.serving.invariant in
    subst (λ n. c.in-Some.dst < n) (sym k.hosts)
    (awaited-there (λ h. h < host_count c.args.w.now) c.args.w.now.adopted c.args.hosts.now c.serving.installer c.in-Some.dst c.in-Some.part (sym c.in-Some.ensures.value) k.of_hosts c.requires.hosts)

pub serving-preserved : goal.serving-preserved
serving-preserved c =
    let w : WorldState = c.args.w.now in
    let v : WorldState = c.serving.w in
    let u : WorldState = c.part_try.new.w in
    let i : Installation = c.serving.installer in
    let after : Installation = c.tell.new.installer in
    let dst : ℕ = c.in-Some.dst in
    let part : ℕ = c.in-Some.part in
    let found : Bool = is_some c.in_ok-epoch.epoch in
    let k = c.serving.invariant in
    let t = c.in_ok-epoch.ensures in
    let e : awaited i ≡ Some (dst, part) = sym c.in-Some.ensures.value in
    record {
      left = λ a is.
          serving-on a c.args.mapper c.args.tries dst part c.args.hosts.now w v u i after found (k.left a is) (adopter w.adopted c.args.mapper a c.requires.adopter is) k.same_tries e
          t.found t.after c.tell.ensures;
      of_hosts =
          ap (map (λ (x : Work). x.host)) (works-then i after dst part found e c.tell.ensures) ∙ changed-hosts (is_done i.tries) found i.works ∙ k.of_hosts;
      same_tries = tries-then i after dst part found e c.tell.ensures ∙ k.same_tries;
      hosts = t.hosts ∙ k.hosts;
    }

pub serving-smaller : goal.serving-smaller
serving-smaller c =
    let i : Installation = c.serving.installer in
    let dst : ℕ = c.in-Some.dst in
    let part : ℕ = c.in-Some.part in
    let found : Bool = is_some c.in_ok-epoch.epoch in
    let k = c.serving.invariant in
    let e : awaited i ≡ Some (dst, part) = sym c.in-Some.ensures.value in
    let a = awaits i dst part e in
    let most : i.tries ≤ 8 = subst (λ n. n ≤ 8) (sym k.same_tries) c.requires.few_tries in
    subst (λ (ks : List Work). tries_left ks < tries_left i.works) (sym (works-then i c.tell.new.installer dst part found e c.tell.ensures)) (fewer-left i.tries found a.work i.works most a.first)

-- ---- memory ran out within a try
pub returns-in_err-epoch-clause-err : goal.returns-in_err-epoch-clause-err
returns-in_err-epoch-clause-err c =
    let w : WorldState = c.args.w.now in
    let k = c.serving.invariant in
    λ a is.
    on-any c.from_residual-in_err-epoch.result
    (serving-cut a c.args.mapper c.args.tries c.in-Some.dst c.in-Some.part c.args.hosts.now w c.serving.w c.part_try.new.w c.serving.installer (k.left a is) (adopter w.adopted c.args.mapper a c.requires.adopter is) k.same_tries
    (sym c.in-Some.ensures.value) c.in_err-epoch.ensures.err)

-- ---- no part is awaited any more
pub returns-clause-acked : goal.returns-clause-acked
returns-clause-acked c =
    let w : WorldState = c.args.w.now in
    let i : Installation = c.serving.installer in
    let k = c.serving.invariant in
    λ a is.
    served-all a c.args.tries c.args.hosts.now w c.serving.w i (k.left a is) k.same_tries c.requires.rise (k.of_hosts ∙ ap (λ o. filter (has_parts o) c.args.hosts.now) is) (sym c.in_default.ensures.ended)
    ∙ (λ j. (sym c.acked_among.ensures j, c.serving.w))
