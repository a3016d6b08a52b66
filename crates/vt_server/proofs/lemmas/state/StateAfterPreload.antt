-- The state after a pool is preloaded.
use Rattle.std.proofs.Common.{◌≡◌, ℕ, List, [], Option, Some, None, sym, ap, ◌∙◌}
use Rattle.std.specs.FinMap as finite
use Rattle.vt_machine.specs.SetStates.{SetState}
use Rattle.vt_names.specs.Registry.{Set, with_set, preloaded}
use Rattle.vt_stores.specs.Stores.{ObjectMap}
use Rattle.vt_machine.specs.SetStates.{fresh_set}
use Rattle.vt_node.specs.Nodes.{NodeState}
use Rattle.vt_server.specs.state.AddressViews.{Preloads}
use Rattle.vt_server.specs.state.AddressStates.{SetPool, AddressState}
use Rattle.vt_server.specs.States.{places_by}
use Rattle.vt_server.specs.Terminals.{State, after_act}
use Rattle.vt_node.specs.AddressFunctions.{with_at}
use Rattle.vt_server.proofs.lemmas.acts.ComposedActs.{act-is}
use Rattle.vt_node.proofs.ByAddress.{at-own, at-other}
use Rattle.vt_node.proofs.ByAddress.{places-written}

module _ (contents : ℕ → SetPool) (node : NodeState) (heard : ℕ → Option ℕ) (a : ℕ) (objects : ObjectMap) (pool : SetState) (is : pool ≡ fresh_set objects) where
  abbrev pub content_then : SetPool
  content_then = record { pool = Some pool; transfer = [] }

  abbrev pub place_then : AddressState
  place_then = record (places_by contents node heard a) { content = record { pool = Some (fresh_set objects); transfer = [] }; heard = None }

  pub preloaded-place : places_by (with_at a content_then contents) node (with_at a None heard) ≡ with_at a place_then (places_by contents node heard)
  preloaded-place =
      places-written a (places_by contents node heard) (places_by (with_at a content_then contents) node (with_at a None heard)) place_then
      (λ i. record {
        content = (at-own a contents content_then ∙ ap (λ (p : SetState). record { pool = Some p; transfer = [] }) is) i;
        tp = finite.get node.tp a;
        etp = finite.get node.etp a;
        sending = finite.get node.sending a;
        heard = at-own a heard None i;
      })
      (λ b ne. λ i. record {
        content = at-other a b contents content_then ne i;
        tp = finite.get node.tp b;
        etp = finite.get node.etp b;
        sending = finite.get node.sending b;
        heard = at-other a b heard None ne i;
      })

  pub preloaded-state : (s : State) (sets : List Set) → s.places ≡ places_by contents node heard → sets ≡ with_set (preloaded a) s.sets
      → record s { sets = sets; places = places_by (with_at a content_then contents) node (with_at a None heard) } ≡ after_act s a (Preloads objects)
  preloaded-state s sets places left =
      (λ i. record s { sets = left i; places = preloaded-place i })
      ∙ (λ i. record s {
        sets = with_set (preloaded a) s.sets;
        places = with_at a (record (sym places i a) { content = record { pool = Some (fresh_set objects); transfer = [] }; heard = None }) (sym places i);
      })
      ∙ sym (act-is s a (Preloads objects))
