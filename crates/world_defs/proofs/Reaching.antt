-- An act more is reached; and what each act that may happen keeps holds of every world that is reached.
use Rattle.std.proofs.Common.{◌≡◌, List, [], ◌∷◌, ◌++◌, refl, sym, ap, ◌∙◌, subst}
use Rattle.net_defs.specs.Network.{Network, IsFabric}
use Rattle.world_defs.specs.World.{WorldState, new_world}
use Rattle.world_defs.specs.Acts.{Act, acted, acted_all, MayAct, MayActAll, IsReached}

-- a last act
may-last : (w : WorldState) (acts : List Act) (a : Act) → MayActAll w acts → MayAct (acted_all w acts) a → MayActAll w (acts ++ a ∷ [])
may-last w [] a may one = (one, tt)
may-last w (b ∷ acts) a may one = (may.0, may-last (acted w b) acts a may.1 one)

pub acted_all-last : (w : WorldState) (acts : List Act) (a : Act) → acted_all w (acts ++ a ∷ []) ≡ acted (acted_all w acts) a
acted_all-last w [] a = refl
acted_all-last w (b ∷ acts) a = acted_all-last (acted w b) acts a

pub reached-next : (n : Network) (w : WorldState) (a : Act) → IsReached n w → MayAct w a → IsReached n (acted w a)
reached-next n w a is may = record {
  fabric = is.fabric;
  acts = is.acts ++ a ∷ [];
  may = may-last (new_world n) is.acts a is.may (subst (λ v. MayAct v a) is.leads may);
  leads = ap (λ v. acted v a) is.leads ∙ sym (acted_all-last (new_world n) is.acts a);
}

-- every reached world
acts-keep : (P : WorldState → Type 0) (n : Network) → ((w : WorldState) (a : Act) → IsReached n w → MayAct w a → P w → P (acted w a)) → (w : WorldState) (acts : List Act) → IsReached n w → MayActAll w acts → P w → P (acted_all w acts)
acts-keep P n keeps w [] r may is = is
acts-keep P n keeps w (a ∷ acts) r may is = acts-keep P n keeps (acted w a) acts (reached-next n w a r may.0) may.1 (keeps w a r may.0 is)

pub reached-new : (n : Network) → IsFabric n → IsReached n (new_world n)
reached-new n f = record { fabric = f; acts = []; may = tt; leads = refl }

pub reached-has : (P : WorldState → Type 0) (n : Network) → P (new_world n) → ((w : WorldState) (a : Act) → IsReached n w → MayAct w a → P w → P (acted w a)) → (w : WorldState) → IsReached n w → P w
reached-has P n new keeps w r = subst P (sym r.leads) (acts-keep P n keeps (new_world n) r.acts (reached-new n r.fabric) r.may new)
