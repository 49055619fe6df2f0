-- The ports of a generated run open, host by host.
use Rattle.std.proofs.Common.{◌≡◌, ◌≤◌, ◌<◌, ◌-◌, ℕ, suc, List, [], set, Option, Some, None, refl, sym, ap, ◌∙◌, subst, arith}
use Rattle.std.proofs.lemmas.List.{get_or-set_same, get_or-set_other}
use Rattle.gm_defs.specs.Token.{opened}
use Rattle.world_defs.specs.declared.effect.Said.TheVariants.{Done}
use Rattle.world_defs.specs.Node.{NodeState, port_at, with_port}
use Rattle.world_defs.specs.Client.{ClientState, Called, new_client, left, begin_at, begun}
use Rattle.world_defs.specs.World.{WorldState, node_at}
use Rattle.world_defs.specs.Step.{of_call}
use Rattle.gen_laws.proofs.Hosts.{Hosts, row_at, called-on, Plain, Sends, Takes, port-plain}

-- The ports 0 of the hosts below one number are open, and the ports 1 of those below another.
pub record Opening (n seed a b h : ℕ) (x : NodeState) (r : List (Option ClientState)) : Type 0 where
  pub plain : Plain n seed [] h x r
  pub sends : h < a → Sends [] h x r
  pub takes : h < b → Takes n seed [] h x r
  pub no_sends : a ≤ h → port_at x 0 ≡ None
  pub no_takes : b ≤ h → port_at x 1 ≡ None

begun-now : (x : NodeState) (port sends recvs : ℕ) (c : Option ClientState) → port_at x port ≡ None → begun x port sends recvs c ≡ left x port (Some (opened sends recvs)) (Some (new_client sends recvs)) Done
unfolding begun
begun-now x port sends recvs c e = ap (begin_at x port sends recvs c) e

pub opens-sends : (n seed a : ℕ) (w : WorldState) (c : Option ClientState) → a < n → Hosts n (Opening n seed a a) w → Hosts n (Opening n seed (suc a) a) (of_call w a 0 (begun (node_at w a) 0 4 0 c)).1
opens-sends n seed a w c low is =
    let here : Opening n seed a a a (node_at w a) (row_at w a) = is.each a low in
    called-on n (Opening n seed a a) (Opening n seed (suc a) a) w a 0 (begun (node_at w a) 0 4 0 c) low is
    (subst (λ (call : Called). Opening n seed (suc a) a a call.node (set (row_at w a) 0 call.client)) (sym (begun-now (node_at w a) 0 4 0 c (here.no_sends (omega arith)))) (opened-so (node_at w a) (row_at w a) here))
    (λ k other below x r o. record { plain = o.plain; sends = λ l. o.sends (omega (arith, l, other)); takes = o.takes; no_sends = λ l. o.no_sends (omega (arith, l)); no_takes = o.no_takes })
  where
    opened-so : (x : NodeState) (r : List (Option ClientState)) → Opening n seed a a a x r → Opening n seed (suc a) a a (with_port x 0 (Some (opened 4 0))) (set r 0 (Some (new_client 4 0)))
    opened-so x r o =
        let ports = o.plain.ports in
        let clients = o.plain.clients in
        record {
          plain = port-plain 0 (Some (opened 4 0)) (Some (new_client 4 0)) o.plain;
          sends = λ l. record {
            port = opened 4 0;
            is_port = get_or-set_same x.ports 0 (Some (opened 4 0)) None (omega (arith, ports));
            client = new_client 4 0;
            is_client = get_or-set_same r 0 (Some (new_client 4 0)) None (omega (arith, clients));
            left = refl;
          };
          takes = λ l. absurd (omega (arith, l));
          no_sends = λ l. absurd (omega (arith, l));
          no_takes = λ l. get_or-set_other x.ports 0 1 (Some (opened 4 0)) None (λ e. omega (arith, e)) ∙ o.no_takes l;
        }

pub opens-takes : (n seed a : ℕ) (w : WorldState) (c : Option ClientState) → a < n → Hosts n (Opening n seed (suc a) a) w → Hosts n (Opening n seed (suc a) (suc a)) (of_call w a 1 (begun (node_at w a) 1 0 4 c)).1
opens-takes n seed a w c low is =
    let here : Opening n seed (suc a) a a (node_at w a) (row_at w a) = is.each a low in
    called-on n (Opening n seed (suc a) a) (Opening n seed (suc a) (suc a)) w a 1 (begun (node_at w a) 1 0 4 c) low is
    (subst (λ (call : Called). Opening n seed (suc a) (suc a) a call.node (set (row_at w a) 1 call.client)) (sym (begun-now (node_at w a) 1 0 4 c (here.no_takes (omega arith)))) (opened-so (node_at w a) (row_at w a) here))
    (λ k other below x r o. record { plain = o.plain; sends = o.sends; takes = λ l. o.takes (omega (arith, l, other)); no_sends = o.no_sends; no_takes = λ l. o.no_takes (omega (arith, l)) })
  where
    opened-so : (x : NodeState) (r : List (Option ClientState)) → Opening n seed (suc a) a a x r → Opening n seed (suc a) (suc a) a (with_port x 1 (Some (opened 0 4))) (set r 1 (Some (new_client 0 4)))
    opened-so x r o =
        let ports = o.plain.ports in
        let clients = o.plain.clients in
        let s : Sends [] a x r = o.sends (omega arith) in
        record {
          plain = port-plain 1 (Some (opened 0 4)) (Some (new_client 0 4)) o.plain;
          sends = λ l. record {
            port = s.port;
            is_port = get_or-set_other x.ports 1 0 (Some (opened 0 4)) None (λ e. omega (arith, e)) ∙ s.is_port;
            client = s.client;
            is_client = get_or-set_other r 1 0 (Some (new_client 0 4)) None (λ e. omega (arith, e)) ∙ s.is_client;
            left = s.left;
          };
          takes = λ l. record {
            port = opened 0 4;
            is_port = get_or-set_same x.ports 1 (Some (opened 0 4)) None (omega (arith, ports));
            client = new_client 0 4;
            is_client = get_or-set_same r 1 (Some (new_client 0 4)) None (omega (arith, clients));
            left = refl;
            provided = λ size prio. refl;
          };
          no_sends = λ l. absurd (omega (arith, l));
          no_takes = λ l. absurd (omega (arith, l));
        }
